use native.Mathlib.Omega.{arith}
use mathlib.Core.Path.{refl}
use Rattle.std.specs.Prelude.{Some, None}
use Rattle.sdp.specs.Bandwidth.{in_bits}
use Rattle.sdp.specs.declared.bandwidth.Rate.TheVariants as rate
use Rattle.lines.proofs.Amounts.{amount_bad, amount_is, amount_bits, bits_fit, as_said, tias_said, rs_said, rr_said, other_said}
use Rattle.lines.proofs.bandwidth.says.Goals as goal

pub returns-in_err-amount : goal.returns-in_err-amount
returns-in_err-amount c =
    as_said _ _ c.starts.ensures c.if-starts.true
    _ (amount_bad _ _ _ _ c.amount.ensures _ None (λ n. Some (rate.As (in_bits n))) c.in_err-amount.was c.from_residual.ensures)

pub overflow_cast-result : goal.overflow_cast-result
overflow_cast-result c = bits_fit _ _ _ _ c.amount.ensures _ _ c.in_ok-amount.was c.bits.ensures (omega arith)

pub returns-then-starts : goal.returns-then-starts
returns-then-starts c =
    as_said _ _ c.starts.ensures c.if-starts.true
    _ (amount_bits _ _ _ _ c.amount.ensures _ _ c.in_ok-amount.was c.bits.ensures)

pub returns-in_err-amount-2 : goal.returns-in_err-amount-2
returns-in_err-amount-2 c =
    tias_said _ _ c.starts.ensures c.if-starts.false _ c.starts-2.ensures c.if-starts-2.true
    _ (amount_bad _ _ _ _ c.amount-then-starts-2.ensures _ None (λ n. Some (rate.Tias n)) c.in_err-amount-2.was c.from_residual-in_err-amount-2.ensures)

pub returns-then-starts-2 : goal.returns-then-starts-2
returns-then-starts-2 c =
    tias_said _ _ c.starts.ensures c.if-starts.false _ c.starts-2.ensures c.if-starts-2.true
    _ (amount_is _ _ _ _ c.amount-then-starts-2.ensures _ None (λ n. Some (rate.Tias n)) _ c.in_ok-amount-2.was refl)

pub returns-in_err-amount-3 : goal.returns-in_err-amount-3
returns-in_err-amount-3 c =
    rs_said _ _ c.starts.ensures c.if-starts.false _ c.starts-2.ensures c.if-starts-2.false _ c.starts-3.ensures c.if-starts-3.true
    _ (amount_bad _ _ _ _ c.amount-then-starts-3.ensures _ None (λ n. Some (rate.Rs n)) c.in_err-amount-3.was c.from_residual-in_err-amount-3.ensures)

pub returns-then-starts-3 : goal.returns-then-starts-3
returns-then-starts-3 c =
    rs_said _ _ c.starts.ensures c.if-starts.false _ c.starts-2.ensures c.if-starts-2.false _ c.starts-3.ensures c.if-starts-3.true
    _ (amount_is _ _ _ _ c.amount-then-starts-3.ensures _ None (λ n. Some (rate.Rs n)) _ c.in_ok-amount-3.was refl)

pub returns-in_err-amount-4 : goal.returns-in_err-amount-4
returns-in_err-amount-4 c =
    rr_said _ _ c.starts.ensures c.if-starts.false _ c.starts-2.ensures c.if-starts-2.false _ c.starts-3.ensures c.if-starts-3.false _ c.starts-4.ensures c.if-starts-4.true
    _ (amount_bad _ _ _ _ c.amount-then-starts-4.ensures _ None (λ n. Some (rate.Rr n)) c.in_err-amount-4.was c.from_residual-in_err-amount-4.ensures)

pub returns-then-starts-4 : goal.returns-then-starts-4
returns-then-starts-4 c =
    rr_said _ _ c.starts.ensures c.if-starts.false _ c.starts-2.ensures c.if-starts-2.false _ c.starts-3.ensures c.if-starts-3.false _ c.starts-4.ensures c.if-starts-4.true
    _ (amount_is _ _ _ _ c.amount-then-starts-4.ensures _ None (λ n. Some (rate.Rr n)) _ c.in_ok-amount-4.was refl)

pub returns : goal.returns
returns c =
    other_said _ _ c.starts.ensures c.if-starts.false _ c.starts-2.ensures c.if-starts-2.false _ c.starts-3.ensures c.if-starts-3.false _ c.starts-4.ensures c.if-starts-4.false
