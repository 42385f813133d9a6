-- A statement is short. Assumes nothing.
use Prim.Native.Nat.{ℕ, zero, suc, ◌+◌, ◌*◌, ◌≤◌}
use mathlib.Core.Path.{◌≡◌}
use mathlib.Core.List.{List, [], ◌∷◌, ◌++◌}
use mathlib.Core.Bool.{Bool, true, false, cond}
use lib.ListN.{length, length-append}
use lib.Dec.{eqb}
use native.Mathlib.Omega.{arith}
use Rattle.cursor.specs.Bytes.{bytes}
use Rattle.put.specs.Number.{decimal}
use Rattle.put.proofs.Digits.{spell_length}
use Rattle.flow.specs.declared.Component.{Component}
use Rattle.flow.specs.declared.Held.{Held}
use Rattle.flow.specs.Slots.{through, up_to_eight}
use Rattle.flow.specs.Session.{held_at}
use Rattle.flow.proofs.Slots.{eight_most}
use Rattle.statement.specs.Statement.{line, kind_name, component_line, count_line, component_lines, statement_of}

-- a field of at most 20 bytes, and the byte after it, in front of the rest of a line
longer : (r : ℕ) (v w : List ℕ) (b : ℕ) → length v ≤ 20 → length w ≤ r → length (v ++ (b ∷ w)) ≤ r + 21
longer r v w b h k = omega (arith, length-append v (b ∷ w))

one_of : (t : Bool) (a b : List ℕ) → length a ≤ 20 → length b ≤ 20 → length (cond t a b) ≤ 20
one_of true a b h k = h
one_of false a b h k = k

kind_short : (kind : ℕ) → length (kind_name kind) ≤ 20
unfolding kind_name
kind_short kind =
    one_of (eqb kind 1) (bytes "audio") _ (omega arith)
    (one_of (eqb kind 2) (bytes "video") _ (omega arith)
    (one_of (eqb kind 3) (bytes "application") _ (omega arith)
    (one_of (eqb kind 4) (bytes "data") _ (omega arith)
    (one_of (eqb kind 5) (bytes "control") (bytes "other") (omega arith) (omega arith)))))

figure_short : (r n : ℕ) (w : List ℕ) (b : ℕ) → length w ≤ r → length (decimal n ++ (b ∷ w)) ≤ r + 21
figure_short r n w b = longer r (decimal n) w b (spell_length 20 n)

component_short : (n : ℕ) (c : Component) → length (component_line n c) ≤ 168
unfolding component_line line
component_short n c =
    figure_short 147 n _ _
    (longer 126 (kind_name c.kind) _ _ (kind_short c.kind)
    (figure_short 105 c.status _ _
    (figure_short 84 c.class _ _
    (figure_short 63 c.up.media _ _
    (figure_short 42 c.down.media _ _
    (figure_short 21 c.up.rtcp.0 _ _ (figure_short 0 c.down.rtcp.0 [] _ (omega arith))))))))

count_short : (n : ℕ) → length (count_line n) ≤ 42
unfolding count_line line
count_short n = longer 21 (bytes "components") (decimal n ++ (10 ∷ [])) 32 (omega arith) (figure_short 0 n [] 10 (omega arith))

lines_short : (held : Held) (n : ℕ) → length (component_lines held n) ≤ n * 168
unfolding component_lines through
lines_short held zero = omega arith
lines_short held (suc n) =
    omega (
      arith,
      lines_short held n,
      component_short (suc n) (held_at held n),
      length-append (component_lines held n) (component_line (suc n) (held_at held n)),
    )

pub statement_short : (held : Held) → length (statement_of held) ≤ 42 + 168 * up_to_eight held.count
unfolding statement_of
statement_short held =
    let n = up_to_eight held.count in
    omega (arith, count_short n, lines_short held n, eight_most held.count, length-append (count_line n) (component_lines held n))

-- a count that is up to eight
pub few : (count : ℕ) {n : ℕ} → n ≡ up_to_eight count → n ≤ 8
few count e = rw e (eight_most count)
