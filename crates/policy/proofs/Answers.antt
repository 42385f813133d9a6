-- The small functions: for each return the law that it follows. Assumes nothing.
use Prim.Native.Nat.{ℕ}
use native.Mathlib.Omega.{arith}
use mathlib.Core.Path.{◌≡◌, sym, ap, ◌∙◌}
use mathlib.Core.Bool.{Bool, true, false, not, ◌||◌, and-true, or-false}
use lib.Dec.{eqb}
use borrow.Author.Tests.{eq-eqb, ne_eqb}
use Rattle.std.specs.Prelude.{Some, Result, Ok, Err, option_map}
use Rattle.std.specs.Result.{result_unwrap_or}
use Rattle.sdp.specs.Direction.{sendrecv, sendonly, inactive, NamesDirection}
use Rattle.sdp.specs.declared.Media.{Media}
use Rattle.sdp.specs.declared.direction.Direction.{Direction}
use Rattle.sdp.specs.declared.direction.Direction.TheVariants.{Sendrecv, Sendonly, Recvonly, Inactive}
use Rattle.sdp.specs.declared.Unnamed.{Unnamed}
use Rattle.flow.specs.declared.Was.{Was}
use Rattle.flow.specs.declared.status.Status.{Status}
use Rattle.flow.specs.Session.{no_component, status_number}
use Rattle.flow.specs.Status.{status}
use Rattle.flow.specs.Class.{talked}
use Rattle.policy.specs.declared.class.Sight.{Sight}
use Rattle.policy.specs.declared.status_table.Port.{Port}
use Rattle.policy.specs.declared.status_table.Sdp.TheVariants.{Uplink, Downlink}
use Rattle.policy.specs.Steps.{sees}
use Rattle.policy.specs.StatusTable.{rows, status_by, port_of, sdp_of, counts_as, case_by, case_of}
use Rattle.policy.proofs.FirstFit.{table_gives}

-- `with_unused`: an unused component shows nothing but that what was there is gone
pub unused_seen : (s : Sight) (was : Was) (b : Bool) → b ≡ talked was
    → record { talks = s.talks; newly = s.newly; gone = s.gone || b; allup = s.allup; alldown = s.alldown } ≡ sees s was no_component
unused_seen s was b e = rw (or-false s.talks, or-false s.newly, and-true (talked was), and-true s.allup, and-true s.alldown, e)

-- `counts_as`
pub counted : (n : ℕ) (r : Result Direction Unnamed)
    → NamesDirection n r → result_unwrap_or r Recvonly ≡ counts_as n
unfolding counts_as
counted n (Ok Sendrecv) e = rw (← e)
counted n (Ok Sendonly) e = rw (← e)
counted n (Ok Recvonly) e = rw (← e)
counted n (Ok Inactive) e = rw (← e)
counted n (Err u) h =
    rw (ne_eqb n sendrecv (λ e. omega (arith, h.1, e)), ne_eqb n sendonly (λ e. omega (arith, h.1, e)), ne_eqb n inactive (λ e. omega (arith, h.1, e)))

-- `by_text`: what the code asked the table about is what the definition asks it about
module _ (port : Port) (direction : ℕ) (d : Direction) (r : Status) (handset : Bool) (e : d ≡ counts_as direction) where
  pub uplink_asked : handset ≡ true → status_by rows (record { port = port; direction = d; sdp = Uplink }) ≡ Some r
      → status_by rows (case_by port direction handset) ≡ Some r
  unfolding sdp_of
  uplink_asked f k = rw (← e, f) k

  pub downlink_asked : handset ≡ false → status_by rows (record { port = port; direction = d; sdp = Downlink }) ≡ Some r
      → status_by rows (case_by port direction handset) ≡ Some r
  unfolding sdp_of
  downlink_asked f k = rw (← e, f) k

-- `status_of`, where an inactive offer decides, and where the answer does
module _ (origin : ℕ) (offer answer : Media) (p : Port) (r : Status) (e : p ≡ port_of offer answer) where
  given : status_by rows (case_of origin offer answer) ≡ Some r → status_number r ≡ status origin offer answer
  given k =
      let same : Some (status_number r) ≡ Some (status origin offer answer) = sym (ap (option_map status_number) k) ∙ table_gives origin offer answer in
      cc

  pub offer_decides : offer.direction ≡ inactive → status_by rows (case_by p offer.direction (eqb origin 0)) ≡ Some r → status_number r ≡ status origin offer answer
  unfolding case_of
  offer_decides f k = given (rw (eq-eqb offer.direction inactive f, ← e) k)

  pub answer_decides : (offer.direction ≡ inactive → ⊥) → status_by rows (case_by p answer.direction (not (eqb origin 0))) ≡ Some r
      → status_number r ≡ status origin offer answer
  unfolding case_of
  answer_decides f k = given (rw (ne_eqb offer.direction inactive f, ← e) k)
