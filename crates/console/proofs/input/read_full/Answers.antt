use Rattle.std.proofs.Common.{rules, ◌-◌, length, sym, subst}
use Rattle.std.proofs.KnownBytes.{Consumes-trans}
use Rattle.std.specs.Io.KnownBytes.{Consumes}
use Rattle.console.proofs.Reading.{take-put_mid_part}
use Rattle.console.proofs.input.read_full.Goals as goal

pub loop-done-preserved : goal.loop-done-preserved
loop-done-preserved g c =
    let grown = take-put_mid_part c.loop-done.done (length c.loop-done.buf - c.loop-done.done) c.in_ok-more.more c.loop-done.buf
    c.read_some.new.buf c.loop-done.invariant.within c.in_ok-more.ensures.bound.0 in
    record {
      within = search rules;
      bytes = subst (Consumes _ _) (sym grown)
          (Consumes-trans _ _ _ _ _ c.loop-done.invariant.bytes c.in_ok-more.ensures.bytes.0);
    }
