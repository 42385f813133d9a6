-- The largest media port: a port and 1 of an odd transport stay within 16 bits.
use Rattle.std.proofs.Common.{◌≡◌, ℕ, zero, suc, ◌+◌, ◌%◌, ◌≤◌, T, leb, ap, ◌∙◌, add-zero, add-one, arith, leb→le}
use lib.Dec.{leb-suc-suc}
use Rattle.sdp.specs.Range.{from1, most_port}
use lib.Ieee.Fits.{and_r}

pub port_in : (t p : ℕ) → T (from1 2 t) → leb (p + t % 2) 65535 ≡ leb p (most_port t)
port_in zero p h = absurd h
port_in (suc zero) p h = ap (λ (x : ℕ). leb x 65535) (add-one p) ∙ leb-suc-suc p 65534
port_in (suc (suc zero)) p h = ap (λ (x : ℕ). leb x 65535) (add-zero p)
port_in (suc (suc (suc t))) p h = absurd (never (leb→le (suc (suc (suc t))) 2 (and_r (leb 1 (suc (suc (suc t)))) (leb (suc (suc (suc t))) 2) h)))
  where
    never : suc (suc (suc t)) ≤ 2 → ⊥
    never l = omega (arith, l)
