-- A line other than `m=`: what it keeps of its section, and that one which cannot say anything changes nothing. Assumes nothing.
use Prim.Native.Nat.{ℕ, ◌≤◌}
use mathlib.Core.Path.{◌≡◌, refl, sym, ◌∙◌}
use mathlib.Core.List.{List}
use mathlib.Core.Bool.{Bool, true, false, cond, ◌&&◌, ◌||◌, false≢true}
use lib.ListN.{length}
use lib.Dec.{eqb}
use native.Mathlib.Omega.{arith}
use borrow.Author.Tests.{eqb-true, eqb-false}
use Rattle.std.specs.Prelude.{Option, Some, None, Result, Ok, Err}
use Rattle.cursor.specs.Bytes.{is_word, bytes}
use Rattle.cursor.specs.Cursor.{on_some}
use Rattle.cursor.proofs.Words.{word_length}
use Rattle.sdp.specs.Fault.{fault_number}
use Rattle.sdp.specs.Direction.{direction_of, direction_number}
use Rattle.sdp.specs.Connection.{connection_of}
use Rattle.sdp.specs.Bandwidth.{bandwidth_of}
use Rattle.sdp.specs.Section.{with_media, with_address, with_direction, connection_in, rate_in, bandwidth_in, direction_in, line_in}
use Rattle.sdp.specs.declared.Address.{Address}
use Rattle.sdp.specs.declared.bandwidth.Rate.{Rate}
use Rattle.sdp.specs.declared.bandwidth.Rate.TheVariants as rate
use Rattle.sdp.specs.declared.direction.Direction.{Direction}
use Rattle.sdp.specs.declared.fault.Fault.{Fault}
use Rattle.sdp.specs.declared.fault.Fault.TheVariants as fault
use Rattle.sdp.specs.declared.section.Section.{Section}
use Rattle.sdp.proofs.Said.{on_cond}
use Rattle.reader.specs.Steps.{matters}

-- a line other than `m=` keeps the number of its section's `m=` line, or has a fault other than 0
module _ (s : Section) where
  abbrev pub Keeps : Result Section Fault → Type 0
  Keeps (Ok t) = t.line ≡ s.line
  Keeps (Err k) = 1 ≤ fault_number k

  keeps_rate : (r : Rate) → Keeps (rate_in s r)
  unfolding rate_in
  keeps_rate (rate.As b) = on_cond Keeps (eqb s.media.requestedgiven 0) refl (omega arith)
  keeps_rate (rate.Tias b) = on_cond Keeps (eqb s.tias.given 0) refl (omega arith)
  keeps_rate (rate.Rs b) = on_cond Keeps (eqb s.media.rsgiven 0) refl (omega arith)
  keeps_rate (rate.Rr b) = on_cond Keeps (eqb s.media.rrgiven 0) refl (omega arith)
  keeps_rate rate.Other = refl

  pub keeps : (inside : Bool) (l : ℕ) (v : List ℕ) (at e : ℕ) → Keeps (line_in s inside l v at e)
  unfolding line_in connection_in bandwidth_in direction_in
  keeps inside l v at e =
      on_cond Keeps (eqb l 99) (by_connection (connection_of v))
      (on_cond Keeps (inside && eqb l 98) (by_bandwidth (bandwidth_of v)) (on_cond Keeps (eqb l 97) (by_attribute (direction_of v)) refl)) where
        by_connection : (r : Option Address) → Keeps (on_some r (Err fault.Connection) λ a. cond (eqb s.media.known 0) (Ok (with_media s (with_address s.media a))) (Err fault.Connection))
        by_connection (Some a) = on_cond Keeps (eqb s.media.known 0) refl (omega arith)
        by_connection None = omega arith

        by_bandwidth : (r : Option Rate) → Keeps (on_some r (Err fault.Bandwidth) λ r. rate_in s r)
        by_bandwidth (Some r) = keeps_rate r
        by_bandwidth None = omega arith

        by_attribute : (w : Option Direction) → Keeps (on_some w (Ok s) λ d.
            cond (eqb s.media.direction 0)
            (Ok (record { line = s.line; media = with_direction s.media (direction_number d); spot = record { start = s.spot.start; end = s.spot.end; from = at; to = e }; tias = s.tias }))
            (Err fault.Direction))
        by_attribute (Some d) = on_cond Keeps (eqb s.media.direction 0) refl (omega arith)
        by_attribute None = refl

-- a line that cannot say anything changes nothing
module _ (s : Section) (v : List ℕ) where
  not_eight : (w : List ℕ) → length w ≡ 8 → (length v ≡ 8 → ⊥) → is_word w v ≡ false
  not_eight w h f = by (is_word w v) refl where
    by : (t : Bool) → is_word w v ≡ t → t ≡ false
    by true e = absurd (f (word_length w v e ∙ h))
    by false e = refl

  no_attribute : (length v ≡ 8 → ⊥) → direction_of v ≡ None
  unfolding direction_of
  no_attribute f =
      rw (not_eight (bytes "sendrecv") refl f, not_eight (bytes "sendonly") refl f, not_eight (bytes "recvonly") refl f, not_eight (bytes "inactive") refl f)

  pub says_nothing : (inside : Bool) (l at e : ℕ) → matters l v ≡ false → line_in s inside l v at e ≡ Ok s
  unfolding matters line_in direction_in
  says_nothing inside l at e h = by (eqb l 99) (eqb l 97) (eqb (length v) 8) (eqb l 98) inside refl (one_letter l) h where
    -- a letter is one alone
    one_letter : (l : ℕ) → (eqb l 97 && (eqb l 98 || eqb l 99)) ≡ false
    one_letter l = by (eqb l 97) refl where
      by : (a : Bool) → eqb l 97 ≡ a → (a && (eqb l 98 || eqb l 99)) ≡ false
      by true e = rw (eqb-true l 97 e)
      by false e = refl

    by : (c a n b i : Bool) → eqb (length v) 8 ≡ n → (a && (b || c)) ≡ false → cond a n (cond b true c) ≡ false
        → cond c (connection_in s v) (cond (i && b) (bandwidth_in s v) (cond a (on_some (direction_of v) (Ok s) λ d.
        cond (eqb s.media.direction 0)
        (Ok (record { line = s.line; media = with_direction s.media (direction_number d); spot = record { start = s.spot.start; end = s.spot.end; from = at; to = e }; tias = s.tias }))
        (Err fault.Direction)) (Ok s))) ≡ Ok s
    by true true n true i q x z = absurd (false≢true (sym x))
    by true true n false i q x z = absurd (false≢true (sym x))
    by true false n true i q x z = absurd (false≢true (sym z))
    by true false n false i q x z = absurd (false≢true (sym z))
    by false true true b i q x z = absurd (false≢true (sym z))
    by false true false true i q x z = absurd (false≢true (sym x))
    by false true false false true q x z = rw (no_attribute (eqb-false (length v) 8 q))
    by false true false false false q x z = rw (no_attribute (eqb-false (length v) 8 q))
    by false false n true i q x z = absurd (false≢true (sym z))
    by false false n false true q x z = refl
    by false false n false false q x z = refl
