use mathlib.Core.Path.{◌≡◌, ap, sym, ◌∙◌}
use mathlib.Core.List.{[]}
use lib.ListN.{length, drop}
use Rattle.cursor.specs.Bytes.{front, is_digit}
use Rattle.cursor.specs.Cursor.{number_at, number_of}
use Rattle.cursor.proofs.Laws.{count_none, count_step, count_stop, count_end, counted}
use Rattle.cursor.proofs.Digits.{begun, turned, none, some, too_many_lem, ascii_digit}
use Rattle.cursor.proofs.Cursor.digits.Goals as goal
use Rattle.cursor.proofs.Cursor.digits.Goals.{Left-loop-b, else-loop-b-test, then-loop-b-test+then-not-is_ascii_digit}

pub loop-b-init : goal.loop-b-init
loop-b-init c = record { counted = count_none _ _; read = begun _ }

pub loop-b-preserved : goal.loop-b-preserved
loop-b-preserved c =
    let i = c.loop-b.invariant in
    let d = sym (ascii_digit _) ∙ sym c.is_ascii_digit.ensures.value ∙ c.if-not-is_ascii_digit.false in
    record {
      counted = count_step is_digit _ _ _ i.counted c.loop-b-test.true d;
      read = turned i.read (rw i.counted.0 c.loop-b-test.true) (rw i.counted.0 d) _ (rw i.counted.0 c.from.ensures) c.if-n-eq-MOST_DIGITS.false;
    }

-- where the loop is left, no digit follows
stopped : (c : Left-loop-b) → front is_digit (drop c.loop-b.n c.rest-b-items.result.now) ≡ []
stopped c =
    elim c.loop-b-test.branch [
      | else-loop-b-test w ↦ count_end is_digit _ _ _ c.loop-b.invariant.counted w.loop-b-test.false
      | then-loop-b-test+then-not-is_ascii_digit w ↦
          count_stop is_digit _ _ _ c.loop-b.invariant.counted w.loop-b-test.true (sym (ascii_digit _) ∙ sym w.is_ascii_digit.ensures.value ∙ w.if-not-is_ascii_digit.true)
    ]

all : (c : Left-loop-b) → c.loop-b.n ≡ length (front is_digit c.rest-b-items.result.now)
all c = counted is_digit _ _ _ c.loop-b.invariant.counted (stopped c)

pub returns-then-n-eq-MOST_DIGITS : goal.returns-then-n-eq-MOST_DIGITS
unfolding number_at
returns-then-n-eq-MOST_DIGITS c =
    let d = sym (ascii_digit _) ∙ sym c.is_ascii_digit.ensures.value ∙ c.if-not-is_ascii_digit.false in
    too_many_lem _ _ _ c.loop-b.invariant.counted c.loop-b-test.true d c.if-n-eq-MOST_DIGITS.true _ ∙ ap (λ l. number_of c.args.self.at (front is_digit l)) c.rest-b-items.ensures

pub returns-then-n-eq0 : goal.returns-then-n-eq0
unfolding number_at
returns-then-n-eq0 c =
    let q = (goal.at.returns-then-n-eq0 c).Left-loop-b in
    none _ _ c.loop-b.v (stopped q) (all q) _ c.if-n-eq0.true ∙ ap (λ l. number_of c.args.self.at (front is_digit l)) c.rest-b-items.ensures

pub returns : goal.returns
unfolding number_at
returns c =
    let q = (goal.at.returns c).Left-loop-b in
    some _ _ _ (stopped q) (all q) _ c.loop-b.invariant.read c.if-n-eq0.false ∙ ap (λ l. number_of c.args.self.at (front is_digit l)) c.rest-b-items.ensures
