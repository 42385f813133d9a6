use native.Mathlib.Omega.{arith}
use mathlib.Core.Path.{refl}
use Rattle.book.proofs.NotBarred.{origin_in}
use Rattle.calls.proofs.row.Named.offered.Goals as goal

pub overflow_cast-result : goal.overflow_cast-result
overflow_cast-result c =
    omega (arith, origin_in c.args.self.now.row c.args.self.now.seen _ c.args.origin refl c.in_ok-bar.ensures.ok)
