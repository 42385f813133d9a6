-- The small functions: for each return the law that it follows. Assumes nothing.
use Prim.Native.Nat.{ℕ, ◌+◌, min}
use native.Mathlib.Omega.{arith}
use mathlib.Core.Path.{◌≡◌, refl, ◌∙◌}
use mathlib.Core.Bool.{Bool, true, false, ◌||◌}
use lib.Dec.{eqb}
use borrow.Author.Tests.{eqb-true, ne_eqb}
use Rattle.flow.specs.Bearer.{at_most, smaller}
use Rattle.flow.specs.Gates.{up_at, down_at, rtcp_at}
use Rattle.flow.proofs.Tests.{by_test, min_is}

at_most_min : (n : ℕ) → min n 256000000 ≡ at_most n
unfolding at_most
at_most_min n = min_is n 256000000

-- `capped`
pub capped_is : (sum rate : ℕ) → min (min (sum + rate) 18446744073709551615) 256000000 ≡ at_most (sum + rate)
capped_is sum rate = let e : min (min (sum + rate) 18446744073709551615) 256000000 ≡ min (sum + rate) 256000000 = omega arith in e ∙ at_most_min (sum + rate)

-- `smaller_of`
pub smaller_left : (a b : ℕ) → a ≡ 0 → b ≡ smaller a b
unfolding smaller
smaller_left a b e = rw e

pub smaller_right : (a b : ℕ) → b ≡ 0 → a ≡ smaller a b
unfolding smaller
smaller_right a b e = rw e (by_test (eqb a 0) (λ t. rw t (eqb-true a 0 t)) (λ t. rw t))

pub smaller_both : (a b : ℕ) → (a ≡ 0 → ⊥) → (b ≡ 0 → ⊥) → min a b ≡ smaller a b
unfolding smaller
smaller_both a b h k = rw (ne_eqb a 0 h, ne_eqb b 0 k) (min_is a b)

-- `gates`: RTCP passes where media passes up or down
pub rtcp_passes : (status : ℕ) → (up_at status || down_at status) ≡ rtcp_at status
rtcp_passes status = by (eqb status 0) (eqb status 1) (eqb status 2) where
  by : (up down both : Bool) → ((up || both) || (down || both)) ≡ (up || (down || both))
  by true down both = refl
  by false true true = refl
  by false true false = refl
  by false false true = refl
  by false false false = refl
