-- Fields and lines put one after another. Assumes nothing.
use Prim.Native.Nat.{ℕ, ◌+◌, ◌≤◌}
use mathlib.Core.Path.{◌≡◌, refl, ap, ◌∙◌}
use mathlib.Core.List.{List, [], ◌∷◌, ◌++◌, map, append_assoc, append-nil}
use native.Mathlib.Numerals.{add-one}
use native.Mathlib.Omega.{arith}
use Rattle.std.specs.List.{flat_map}
use Rattle.cursor.specs.Bytes.{bytes}
use Rattle.put.specs.declared.Buffer.{Buffer}
use Rattle.put.specs.Number.{decimal}
use Rattle.put.specs.Put.{Takes}
use Rattle.put.proofs.Taking.{take_then}
use Rattle.flow.specs.declared.Component.{Component}
use Rattle.flow.specs.declared.Held.{Held}
use Rattle.flow.specs.Session.{held_at}
use Rattle.flow.specs.Slots.{through, up_to_eight}
use Rattle.statement.specs.Statement.{line, kind_name, component_line, component_lines, count_line, statement_of}

abbrev spaced : List ℕ → List ℕ
spaced = flat_map (λ n. 32 ∷ decimal n)

-- a field, numbers with a space before each, and LF
line_ends : (field : List ℕ) (l : List ℕ) → field ++ (spaced l ++ (10 ∷ [])) ≡ line (field ∷ map decimal l)
unfolding line
line_ends field [] = refl
line_ends field (n ∷ l) =
    ap (λ (w : List ℕ). field ++ (32 ∷ w)) (append_assoc (decimal n) (spaced l) (10 ∷ []) ∙ line_ends (decimal n) l)

ended : {a b c d : Buffer} (field : List ℕ) (l : List ℕ) → Takes a field b → Takes b (spaced l) c → Takes c (10 ∷ []) d
    → Takes a (line (field ∷ map decimal l)) d
ended field l p q r = rw (line_ends field l) at (take_then p (take_then q r))

-- `put_component`
pub component_takes : {b₀ b₁ b₂ b₃ b₄ b₅ : Buffer} (number : ℕ) (c : Component) → Takes b₀ (decimal number) b₁ → Takes b₁ (32 ∷ []) b₂
    → Takes b₂ (kind_name c.kind) b₃ → Takes b₃ (spaced (c.status ∷ c.class ∷ c.up.media ∷ c.down.media ∷ c.up.rtcp.0 ∷ c.down.rtcp.0 ∷ [])) b₄
    → Takes b₄ (10 ∷ []) b₅ → Takes b₀ (component_line number c) b₅
unfolding component_line line
component_takes number c p q r s t = take_then p (take_then q (ended (kind_name c.kind) (c.status ∷ c.class ∷ c.up.media ∷ c.down.media ∷ c.up.rtcp.0 ∷ c.down.rtcp.0 ∷ []) r s t))

-- `put_lines`
pub count_takes : {b₀ b₁ b₂ b₃ : Buffer} (held : Held) (n : ℕ) → Takes b₀ (bytes "components") b₁ → Takes b₁ (spaced (n ∷ [])) b₂ → Takes b₂ (10 ∷ []) b₃
    → Takes b₀ (count_line n ++ component_lines held 0) b₃
unfolding count_line component_lines through
count_takes held n p q r = rw append-nil (ended (bytes "components") (n ∷ []) p q r)

pub lines_more : {a b c : Buffer} (held : Held) (first : List ℕ) (j : ℕ) → Takes a (first ++ component_lines held j) b
    → Takes b (component_line (j + 1) (held_at held j)) c → Takes a (first ++ component_lines held (j + 1)) c
unfolding component_lines through
lines_more held first j p q = rw (add-one j, ← append_assoc) (take_then p (rw add-one at q))

pub lines_all : {a b : Buffer} (held : Held) (n j : ℕ) → n ≡ up_to_eight held.count → j ≤ n → n ≤ j → Takes a (count_line n ++ component_lines held j) b
    → Takes a (statement_of held) b
unfolding statement_of
lines_all held n j e h k p = let f : j ≡ n = omega arith in rw (f, e) at p
