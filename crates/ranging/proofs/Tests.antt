-- Tests as facts, and conjunctions of tests.
use Rattle.std.proofs.Common.{◌≡◌, ℕ, Bool, true, false, ◌&&◌, T, eqb, refl, subst}
use lib.Dec.{eqb_refl}
use lib.Ieee.Fits.{and_l, and_r}

-- two tests that follow from each other
pub same : (a b : Bool) → (T a → T b) → (T b → T a) → a ≡ b
same true true f g = refl
same true false f g = absurd (f tt)
same false true f g = absurd (g tt)
same false false f g = refl

pub is : (m n : ℕ) → m ≡ n → T (eqb m n)
is m n e = subst (λ (k : ℕ). T (eqb m k)) e (eqb_refl m)

-- a test counts only where the one before it holds
pub given : (a x y : Bool) → (T a → x ≡ y) → (a && x) ≡ (a && y)
given true x y f = f tt
given false x y f = refl

-- four at once
pub all : (a b c d : Bool) → T a → T b → T c → T d → T (a && (b && (c && d)))
all true true true d _ _ _ t = t
all true true false d _ _ t _ = t
all true false c d _ t _ _ = t
all false b c d t _ _ _ = t

pub each : (a b c d : Bool) → T (a && (b && (c && d))) → T a × (T b × (T c × T d))
each a b c d t = (
  and_l a (b && (c && d)) t,
  (
    and_l b (c && d) (and_r a (b && (c && d)) t),
    (and_l c d (and_r b (c && d) (and_r a (b && (c && d)) t)), and_r c d (and_r b (c && d) (and_r a (b && (c && d)) t))),
  ),
)

-- with associativity and commutativity, what sorts a conjunction
pub and_left_comm : (a b c : Bool) → (a && (b && c)) ≡ (b && (a && c))
and_left_comm true b c = refl
and_left_comm false true c = refl
and_left_comm false false c = refl
