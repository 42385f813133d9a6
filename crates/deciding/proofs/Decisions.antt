-- The deciding line: for each return of `decide` and of `deciding_line` the law that it follows. Assumes nothing.
use Prim.Native.Nat.{ℕ, ◌-◌, ◌≤◌, ◌<◌}
use native.Mathlib.Omega.{arith}
use mathlib.Core.Path.{◌≡◌}
use mathlib.Core.List.{List}
use mathlib.Core.Bool.{true, false, ◌||◌}
use lib.ListN.{length, take, drop}
use lib.Dec.{ltb, eqb}
use borrow.Author.Tests.{eq-eqb, ne_eqb}
use Rattle.std.specs.Prelude.{Some, None, Result, Ok, Err, MatchResult, IsErrAnd}
use Rattle.sdp.specs.Text.{read_text}
use Rattle.sdp.specs.declared.Text.{Text}
use Rattle.sdp.proofs.Ranges.{text_bounds}
use Rattle.flow.specs.declared.Decision.{Decision}
use Rattle.flow.specs.Fit.{said, fit_of}
use Rattle.flow.specs.Deciding.{line_at, refused_by, deciding_at, decision_of, decision, part_of, deciding_line}
use Rattle.rules.specs.Steps.{fit_by}
use Rattle.deciding.specs.declared.Line.{Line}
use Rattle.deciding.specs.declared.Refused.{Refused}
use Rattle.flow.proofs.Decided.{known, Inside, decision_inside}

pub known_slot : (offer : List ℕ) (component : ℕ) (o : Text) → o ≡ read_text offer → (eqb component 0 || ltb o.count component) ≡ false → component - 1 < 8
known_slot offer component o e t =
    let b : o.count ≤ 8 = rw e (text_bounds offer).1.1 in
    omega (arith, known component o.count t, b)

module _ (offer answer : List ℕ) (component : ℕ) where
  pub offer_refused : (r : Refused) → ((read_text offer).refusal ≡ 0 → ⊥) → r ≡ record { refusal = (read_text offer).refusal; place = (read_text offer).place; failed = 1 }
      → refused_by r.refusal r.place r.failed ≡ decision offer answer component
  unfolding decision decision_of
  offer_refused r h e = rw (e, ne_eqb (read_text offer).refusal 0 h)

  module _ (o : Text) (of_o : (o ≡ read_text offer) × (o.refusal ≡ 0)) where
    pub answer_refused : (r : Refused) → ((read_text answer).refusal ≡ 0 → ⊥) → r ≡ record { refusal = (read_text answer).refusal; place = (read_text answer).place; failed = 2 }
        → refused_by r.refusal r.place r.failed ≡ decision offer answer component
    unfolding decision decision_of
    answer_refused r h e = rw (e, ← of_o.0, eq-eqb o.refusal 0 of_o.1, ne_eqb (read_text answer).refusal 0 h)

    module _ (a : Text) (of_a : (a ≡ read_text answer) × (a.refusal ≡ 0)) where
      pub misfit_refused : (place : ℕ) → fit_by (Some place) ≡ fit_of (said o) (said a) → refused_by 15 place 0 ≡ decision offer answer component
      unfolding decision decision_of
      misfit_refused place f = rw (← of_o.0, ← of_a.0, eq-eqb o.refusal 0 of_o.1, eq-eqb a.refusal 0 of_a.1, ← f)

      pub unknown_refused : fit_by None ≡ fit_of (said o) (said a) → (eqb component 0 || ltb o.count component) ≡ true → refused_by 10 0 0 ≡ decision offer answer component
      unfolding decision decision_of
      unknown_refused f t = rw (← of_o.0, ← of_a.0, eq-eqb o.refusal 0 of_o.1, eq-eqb a.refusal 0 of_a.1, ← f, t)

      pub decides : fit_by None ≡ fit_of (said o) (said a) → (eqb component 0 || ltb o.count component) ≡ false → deciding_at o a (component - 1) ≡ decision offer answer component
      unfolding decision decision_of
      decides f t = rw (← of_o.0, ← of_a.0, eq-eqb o.refusal 0 of_o.1, eq-eqb a.refusal 0 of_a.1, ← f, t)

-- `deciding_line`, by the text that the decision names.
module _ (offer answer : List ℕ) (component : ℕ) (d : Decision) (e : d ≡ decision offer answer component) where
  pub offer_part : d.text ≡ 1 → take (d.end - d.start) (drop d.start offer) ≡ deciding_line offer answer component
  unfolding deciding_line part_of
  offer_part h = rw (← e, eq-eqb d.text 1 h)

  pub answer_part : (d.text ≡ 1 → ⊥) → take (d.end - d.start) (drop d.start answer) ≡ deciding_line offer answer component
  unfolding deciding_line part_of
  answer_part h = rw (← e, ne_eqb d.text 1 h)

  pub inside : Inside (length offer) (length answer) d
  inside = rw e (decision_inside offer answer component)

-- `find`, where reading a text gave a refusal
pub passed_on : (result : Result Line Refused) (r : Refused) (d : Decision) → IsErrAnd result (λ e. e ≡ r) → refused_by r.refusal r.place r.failed ≡ d
    → MatchResult result (λ l. line_at l.text l.start l.end ≡ d) (λ e. refused_by e.refusal e.place e.failed ≡ d)
passed_on (Ok l) r d h k = absurd h
passed_on (Err e) r d h k = rw h k
