use mathlib.Core.Path.{◌≡◌, ap, ◌∙◌}
use borrow.Author.Tests.{le-leb, lt-leb}
use Rattle.std.specs.Option.{ok_or}
use Rattle.sdp.specs.declared.fault.Fault.TheVariants as fault
use Rattle.heads.specs.Steps.{head_at}
use Rattle.heads.proofs.head_of.Goals as goal

pub returns-then-count-ge8 : goal.returns-then-count-ge8
unfolding head_at
returns-then-count-ge8 c = simp (le-leb _ _ c.if-count-ge8.true)

pub returns : goal.returns
unfolding head_at
returns c =
    let e : c.ok_or.result ≡ ok_or c.fields_of.result fault.MediaLine = c.ok_or.ensures.value in
    rw (lt-leb 8 c.args.count c.if-count-ge8.false) (e ∙ ap (λ r. ok_or r fault.MediaLine) c.fields_of.ensures)
