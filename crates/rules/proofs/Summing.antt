-- The loop of `authorise`: sums that stop at 256,000,000 are the sums stopped at 256,000,000. Assumes nothing.
use Prim.Native.Nat.{ℕ, ◌+◌, ◌/◌, ◌%◌, ◌≤◌, ◌<◌}
use native.Mathlib.Omega.{arith}
use mathlib.Core.Path.{◌≡◌, refl, sym, ap, ◌∙◌}
use mathlib.Core.List.{List}
use lib.ListN.{get_or, take}
use Rattle.std.proofs.lemmas.List.{get_or-take}
use Rattle.std.specs.Bool.{then_some}
use mathlib.Core.Bool.{Bool, true, false, cond, not, ◌&&◌, ◌||◌, or-false}
use lib.Dec.{ltb, eqb}
use borrow.Author.Tests.{le-ltb, ltb-false}
use Rattle.flow.specs.declared.Component.{Component}
use Rattle.flow.specs.declared.Held.{Held}
use Rattle.rules.specs.declared.bearing.Sum.{Sum}
use Rattle.flow.specs.Session.{live, no_component, held_at}
use Rattle.flow.specs.Slots.{through, some}
use Rattle.flow.specs.Bearer.{rest, named, booked_up, booked_down, over_named, at_most, smaller, count_of}
use Rattle.rules.specs.Steps.{no_sum, adds, summed_in, summed, names_well}
use Rattle.flow.proofs.Slots.{through_next, some_next}

at_most_sum : (a b : ℕ) → at_most (at_most a + b) ≡ at_most (a + b)
unfolding at_most
at_most_sum a b = by (ltb a 256000000) refl where
  past : (n : ℕ) → 256000000 ≤ n → cond (ltb n 256000000) n 256000000 ≡ 256000000
  past n h = rw (le-ltb n 256000000 h)

  by : (t : Bool) → ltb a 256000000 ≡ t
      → cond (ltb (cond t a 256000000 + b) 256000000) (cond t a 256000000 + b) 256000000 ≡ cond (ltb (a + b) 256000000) (a + b) 256000000
  by true e = refl
  by false e = past (256000000 + b) (omega arith) ∙ sym (past (a + b) (omega (arith, ltb-false a 256000000 e)))

at_most_both : (sum media rtcp : ℕ) → at_most (at_most (at_most sum + media) + rtcp) ≡ at_most (sum + (media + rtcp))
at_most_both sum media rtcp =
    let e : at_most sum + media + rtcp ≡ at_most sum + (media + rtcp) = omega arith in
    at_most_sum (at_most sum + media) rtcp ∙ ap at_most e ∙ at_most_sum sum (media + rtcp)

over_next : {A : Type 0} (f : Component → A → A) (none : A) (held : Held) (set n : ℕ)
    → over_named f none held set (n + 1) ≡ cond (named set n) (f (held_at held n) (over_named f none held set n)) (over_named f none held set n)
unfolding over_named
over_next f none held set n = through_next (λ j so_far. cond (named set j) (f (held_at held j) so_far) so_far) none n

summed_next : (held : Held) (set n : ℕ) → cond (named set n) (adds (summed_in held set n) (held_at held n)) (summed_in held set n) ≡ summed_in held set (n + 1)
summed_next held set n =
    rw (
      over_next (λ c sum. sum + booked_up c) 0 held set n,
      over_next (λ c sum. sum + booked_down c) 0 held set n,
      over_next (λ c least. smaller least c.class) 0 held set n,
      some_next (λ j. named set j && live (held_at held j)) n,
    )
    (by (named set n) (over_named (λ c sum. sum + booked_up c) 0 held set n) (over_named (λ c sum. sum + booked_down c) 0 held set n)
    (over_named (λ c least. smaller least c.class) 0 held set n) (some (λ j. named set j && live (held_at held j)) n) (held_at held n)) where
      by : (b : Bool) (up down class : ℕ) (alive : Bool) (c : Component)
          → cond b (adds (record { up = at_most up; down = at_most down; class = class; live = alive }) c) (record { up = at_most up; down = at_most down; class = class; live = alive })
          ≡ record {
            up = at_most (cond b (up + booked_up c) up);
            down = at_most (cond b (down + booked_down c) down);
            class = cond b (smaller class c.class) class;
            live = alive || (b && live c);
          }
      by true up down class alive c = rw (
        at_most_both up c.up.media c.up.rtcp.0,
        at_most_both down c.down.media c.down.rtcp.0,
      )
      by false up down class alive c = rw (or-false alive)

named_is : (set j : ℕ) → eqb (rest set j % 2) 1 ≡ named set j
unfolding named
named_is set j = refl

rest_next : (set j : ℕ) → rest set j / 2 ≡ rest set (j + 1)
unfolding rest
rest_next set j = sym (through_next (λ k n. n / 2) set j)

-- before turn j: the first j slots are summed up, and the set is halved as often
pub record Summing (held : Held) (set : ℕ) (sum : Sum) (left j : ℕ) : Type 0 where
  pub so_far : sum ≡ summed_in held set j
  pub halved : left ≡ rest set j

module _ (held : Held) (set : ℕ) where
  pub summing_none : Summing held set no_sum set 0
  unfolding over_named some through rest at_most
  summing_none = record { so_far = refl; halved = refl }

  pub summing_next : (items : List Component) (left j : ℕ) (sum sum' : Sum) → items ≡ take (count_of held) held.components → j < count_of held
      → Summing held set sum left j → sum' ≡ cond (eqb (left % 2) 1) (adds sum (get_or items j no_component)) sum → Summing held set sum' (left / 2) (j + 1)
  summing_next items left j sum sum' i h s e =
      let at : get_or items j no_component ≡ held_at held j = rw i (get_or-take (count_of held) held.components j no_component h) in
      record {
        so_far = e ∙ rw (at, s.so_far, s.halved, named_is set j) (summed_next held set j);
        halved = rw s.halved (rest_next set j);
      }

  -- after the loop
  pub all_summed : (left j : ℕ) (sum : Sum) → Summing held set sum left j → j ≡ count_of held → (sum ≡ summed held set) × (left ≡ rest set (count_of held))
  all_summed left j sum s e = (s.so_far ∙ rw e, s.halved ∙ rw e)

  pub named_by : (left j : ℕ) (sum : Sum) → Summing held set sum left j → j ≡ count_of held
      → then_some (not (eqb set 0) && eqb left 0) sum ≡ then_some (names_well held set) (summed held set)
  named_by left j sum s e = rw ((all_summed left j sum s e).0, (all_summed left j sum s e).1) (by (eqb (rest set (count_of held)) 0)) where
    by : (b : Bool) → then_some (not (eqb set 0) && b) (summed held set) ≡ then_some (not (eqb set 0) && not (not b)) (summed held set)
    by true = refl
    by false = refl
