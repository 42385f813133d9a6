-- Beside an AS line a TIAS line changes nothing, before it or after it: a text says the same without it. Assumes nothing.
use Rattle.cursor.specs.Cursor.{on_some}
use Rattle.sdp.specs.Fault.{fault_number}
use Rattle.std.specs.Prelude.{Option, Some, None, Result, Ok, Err}
use Rattle.sdp.specs.declared.fault.Fault.{Fault}
use Rattle.sdp.specs.declared.fault.Fault.TheVariants as fault
use Rattle.sdp.specs.declared.Address.{Address}
use Rattle.sdp.specs.declared.direction.Direction.{Direction}
use Prim.Native.Nat.{ℕ, ◌+◌, ◌≤◌}
use Prim.Native.Char.{code}
use mathlib.Core.Path.{◌≡◌, refl, ap, sym, ◌∙◌}
use mathlib.Core.Logic.{◌≢◌, ◌⊎◌, inl, inr}
use mathlib.Core.List.{List, [], ◌∷◌, ◌++◌}
use mathlib.Core.Bool.{Bool, true, false, cond, not, ◌&&◌, false≢true}
use lib.ListN.{length}
use lib.Dec.{leb, eqb}
use native.Mathlib.Omega.{arith}
use borrow.Author.Tests.{eqb-true, le-ltb}
use Rattle.cursor.specs.Bytes.{is_word, is_empty, split, bytes}
use Rattle.sdp.specs.Line.{lf, bare, is_line, letter, value}
use Rattle.sdp.specs.Media.{media_of}
use Rattle.sdp.specs.Connection.{connection_of}
use Rattle.sdp.specs.Bandwidth.{bandwidth_of}
use Rattle.sdp.specs.Direction.{direction_of, direction_number}
use Rattle.sdp.specs.Section.{absent, no_rate, some_rate, no_section, no_direction, begun, with_media, with_tias, with_address, with_direction, own_requested, session_of, closed}
use Rattle.sdp.specs.Section.{connection_in, rate_in, bandwidth_in, direction_in, line_in}
use Rattle.sdp.specs.Text.{most_text, most_media, refusal, Reading, in_session, in_media, media_lines, session_at, next_section}
use Rattle.sdp.specs.Text.{whole, Step, go, on_media, on_told, step, on_step, read_from, read_lines, read_text}
use Rattle.sdp.specs.Default.{is_media_line, SaySame}
use Rattle.sdp.specs.Requests.{as_of, tias_of, rate_of, rate_line, rate_among, section_lines, has_as, is_tias_line, without_tias}
use Rattle.sdp.specs.declared.Requested.{Requested}
use Rattle.sdp.specs.declared.Text.{Text}
use Rattle.sdp.specs.declared.media_line.MediaLine.{MediaLine}
use Rattle.sdp.specs.declared.bandwidth.Rate.{Rate}
use Rattle.sdp.specs.declared.bandwidth.Rate.TheVariants as rate
use Rattle.sdp.specs.declared.section.Section.{Section}
use Rattle.sdp.specs.declared.section.Session.{Session}
use Rattle.cursor.proofs.Words.{word_is}
use Rattle.sdp.proofs.Tests.{both}
use Rattle.sdp.proofs.Same.{BothTold, on_both, Lines, AllEnded, ended_snoc, ended_length, ended_same, Or, refused_same, same_but, reads_next, lines_next}
use Rattle.sdp.proofs.Requests.{Rated, line_rated}

-- ---- one line, that both texts have: two sections of one description, and of one TIAS unless the line says one
module _ (s u : Section) (h : u.media ≡ s.media) where
  abbrev Kept : Section → Section → Type 0
  Kept r v = (v.media ≡ r.media) × ((u.tias ≡ s.tias → v.tias ≡ r.tias) × ((r.line ≡ s.line) × (v.line ≡ u.line)))

  abbrev Apart : Requested → Type 0
  Apart r = (u.tias ≡ s.tias) ⊎ (absent r.given ≡ true)

  connection_both : (v : List ℕ) → BothTold Kept (connection_in s v) (connection_in u v)
  unfolding connection_in
  connection_both v = by (connection_of v) where
    by : (c : Option Address)
        → BothTold Kept (on_some c (Err fault.Connection) λ a. cond (absent s.media.known) (Ok (with_media s (with_address s.media a))) (Err fault.Connection))
        (on_some c (Err fault.Connection) λ a. cond (absent u.media.known) (Ok (with_media u (with_address u.media a))) (Err fault.Connection))
    by (Some a) = rw h (on_both (BothTold Kept) (absent s.media.known) (refl, ((λ e. e), (refl, refl))) refl)
    by None = refl

  rate_both : (r : Rate) → Apart (tias_of r) → BothTold Kept (rate_in s r) (rate_in u r)
  unfolding rate_in
  rate_both (rate.As b) o = rw h (on_both (BothTold Kept) (absent s.media.requestedgiven) (refl, ((λ e. e), (refl, refl))) refl)
  rate_both (rate.Tias b) (inl e) = by (absent s.tias.given) (absent u.tias.given) (ap (λ (r : Requested). absent r.given) e) where
    by : (t w : Bool) → w ≡ t → BothTold Kept (cond t (Ok (with_tias s (some_rate b))) (Err fault.Bandwidth)) (cond w (Ok (with_tias u (some_rate b))) (Err fault.Bandwidth))
    by true true z = (h, ((λ z. refl), (refl, refl)))
    by false false z = refl
    by true false z = absurd (false≢true z)
    by false true z = absurd (false≢true (sym z))
  rate_both (rate.Tias b) (inr e) = absurd (false≢true e)
  rate_both (rate.Rs b) o = rw h (on_both (BothTold Kept) (absent s.media.rsgiven) (refl, ((λ e. e), (refl, refl))) refl)
  rate_both (rate.Rr b) o = rw h (on_both (BothTold Kept) (absent s.media.rrgiven) (refl, ((λ e. e), (refl, refl))) refl)
  rate_both rate.Other o = (h, ((λ e. e), (refl, refl)))

  bandwidth_both : (v : List ℕ) → Apart (rate_of tias_of (bandwidth_of v)) → BothTold Kept (bandwidth_in s v) (bandwidth_in u v)
  unfolding bandwidth_in
  bandwidth_both v = by (bandwidth_of v) where
    by : (b : Option Rate) → Apart (rate_of tias_of b) → BothTold Kept (on_some b (Err fault.Bandwidth) λ r. rate_in s r) (on_some b (Err fault.Bandwidth) λ r. rate_in u r)
    by (Some r) o = rate_both r o
    by None o = refl

  direction_both : (v : List ℕ) (a f b g : ℕ) → BothTold Kept (direction_in s v a f) (direction_in u v b g)
  unfolding direction_in
  direction_both v a f b g = by (direction_of v) where
    by : (d : Option Direction)
        → BothTold Kept
        (on_some d (Ok s) λ d. cond (no_direction s.media.direction)
        (Ok (record {
          line = s.line;
          media = with_direction s.media (direction_number d);
          spot = record { start = s.spot.start; end = s.spot.end; from = a; to = f };
          tias = s.tias;
        }))
        (Err fault.Direction))
        (on_some d (Ok u) λ d. cond (no_direction u.media.direction)
        (Ok (record {
          line = u.line;
          media = with_direction u.media (direction_number d);
          spot = record { start = u.spot.start; end = u.spot.end; from = b; to = g };
          tias = u.tias;
        }))
        (Err fault.Direction))
    by (Some d) = rw h (on_both (BothTold Kept) (no_direction s.media.direction) (refl, ((λ e. e), (refl, refl))) refl)
    by None = (h, ((λ e. e), (refl, refl)))

  line_both : (inside : Bool) (l : List ℕ) (a f b g : ℕ) → (inside ≡ true → Apart (rate_line tias_of l))
      → BothTold Kept (line_in s inside (letter l) (value l) a f) (line_in u inside (letter l) (value l) b g)
  unfolding line_in
  line_both inside l a f b g o =
      on_both (BothTold Kept) (eqb (letter l) (code "c")) (connection_both (value l))
      (by inside (eqb (letter l) (code "b")) o) where
        others : BothTold Kept (cond (eqb (letter l) (code "a")) (direction_in s (value l) a f) (Ok s))
            (cond (eqb (letter l) (code "a")) (direction_in u (value l) b g) (Ok u))
        others = on_both (BothTold Kept) (eqb (letter l) (code "a")) (direction_both (value l) a f b g) (h, ((λ e. e), (refl, refl)))

        by : (i t : Bool) → (i ≡ true → Apart (cond t (rate_of tias_of (bandwidth_of (value l))) no_rate))
            → BothTold Kept (cond (i && t) (bandwidth_in s (value l)) (cond (eqb (letter l) (code "a")) (direction_in s (value l) a f) (Ok s)))
            (cond (i && t) (bandwidth_in u (value l)) (cond (eqb (letter l) (code "a")) (direction_in u (value l) b g) (Ok u)))
        by true true o = bandwidth_both (value l) (o refl)
        by true false o = others
        by false t o = others

-- ---- what a TIAS line says to a section
pub record Gives (p : List ℕ) : Type 0 where
  pub line : is_line (bare p) ≡ true
  pub is_b : letter (bare p) ≡ code "b"
  pub bits : ℕ
  pub says : bandwidth_of (value (bare p)) ≡ Some (rate.Tias bits)

gives : (p : List ℕ) → is_tias_line p ≡ true → Gives p
gives p e = let k = both (is_line (bare p)) _ e in by (eqb (letter (bare p)) (code "b")) (bandwidth_of (value (bare p))) refl refl k.0 k.1 where
  by : (t : Bool) (b : Option Rate) → eqb (letter (bare p)) (code "b") ≡ t → bandwidth_of (value (bare p)) ≡ b → is_line (bare p) ≡ true
      → not (absent (cond t (rate_of tias_of b) no_rate).given) ≡ true → Gives p
  by true (Some (rate.Tias b)) x y l h = record { line = l; is_b = eqb-true (letter (bare p)) (code "b") x; bits = b; says = y }
  by true (Some (rate.As b)) x y l h = absurd (false≢true h)
  by true (Some (rate.Rs b)) x y l h = absurd (false≢true h)
  by true (Some (rate.Rr b)) x y l h = absurd (false≢true h)
  by true (Some rate.Other) x y l h = absurd (false≢true h)
  by true None x y l h = absurd (false≢true h)
  by false b x y l h = absurd (false≢true h)

given_says : (p : List ℕ) (g : Gives p) (s : Section) (at e : ℕ)
    → line_in s true (letter (bare p)) (value (bare p)) at e ≡ cond (absent s.tias.given) (Ok (with_tias s (some_rate g.bits))) (Err fault.Bandwidth)
unfolding line_in bandwidth_in rate_in
given_says p g s at e = rw (g.is_b, g.says)

-- ---- an AS line that is to come
as_next : (p q : List ℕ) (ps : List (List ℕ)) → is_media_line p ≡ false → absent (rate_line as_of (bare p)).given ≡ true → has_as (p ∷ q ∷ ps) ≡ true → has_as (q ∷ ps) ≡ true
unfolding section_lines rate_among
as_next p q ps m e h = by (absent (rate_among as_of (section_lines (q ∷ ps))).given) refl (rw m at h) where
  by : (t : Bool) → absent (rate_among as_of (section_lines (q ∷ ps))).given ≡ t
      → not (absent (cond t (rate_line as_of (bare p)) (rate_among as_of (section_lines (q ∷ ps)))).given) ≡ true → not t ≡ true
  by true k z = absurd (false≢true (rw e at z))
  by false k z = refl

as_ended : (p q : List ℕ) (ps : List (List ℕ)) → is_media_line p ≡ true → has_as (p ∷ q ∷ ps) ≡ false
unfolding section_lines rate_among
as_ended p q ps m = rw m

-- ---- the places of both readings
abbrev Beside : Bool → List (List ℕ) → Section → Section → Type 0
Beside decided ps s u =
    (u.media ≡ s.media) × ((decided ≡ false → u.tias ≡ s.tias) × (decided ≡ true → absent s.media.requestedgiven ≡ true → has_as ps ≡ true))

abbrev Serving : Session → Session → Type 0
Serving x y = (x.address ≡ y.address) × (x.direction ≡ y.direction)

abbrev Both : Bool → List (List ℕ) → Reading → Reading → Type 0
Both decided ps (in_session s) (in_session u) = (decided ≡ false) × (u.media ≡ s.media)
Both decided ps (in_session s) (in_media y us u) = ⊥
Both decided ps (in_media x ss s) (in_session u) = ⊥
Both decided ps (in_media x ss s) (in_media y us u) = Serving x y × (AllEnded x y ss us × (Beside decided ps s u × Lines s u))

closes : (decided : Bool) (ps : List (List ℕ)) (x y : Session) (s u : Section) → has_as ps ≡ false → Serving x y → Beside decided ps s u → closed x s ≡ closed y u
unfolding closed
closes false ps x y s u o (a, d) (h, (t, k)) = rw (h, t refl, a, d)
closes true ps x y s u o (a, d) (h, (t, k)) = by (absent s.media.requestedgiven) refl where
  by : (b : Bool) → absent s.media.requestedgiven ≡ b → closed x s ≡ closed y u
  by true e = absurd (false≢true (sym o ∙ k refl e))
  by false e = rw (h, a, d, e)

whole_both : (decided : Bool) (ps : List (List ℕ)) (x y : Reading) → has_as ps ≡ false → Both decided ps x y → SaySame (whole x) (whole y)
unfolding whole
whole_both decided ps (in_session s) (in_session u) o h = ended_same (session_of s) (session_of u) [] [] tt
whole_both decided ps (in_session s) (in_media y us u) o h = absurd h
whole_both decided ps (in_media x ss s) (in_session u) o h = absurd h
whole_both decided ps (in_media x ss s) (in_media y us u) o h =
    ended_same x y (ss ++ (s ∷ [])) (us ++ (u ∷ []))
    (ended_snoc x y ss us s u h.1.0 (closes decided ps x y s u o h.0 h.1.1.0, h.1.1.1))

lines_both : (decided : Bool) (ps : List (List ℕ)) (x y : Reading) → Both decided ps x y → media_lines x ≡ media_lines y
lines_both decided ps (in_session s) (in_session u) h = refl
lines_both decided ps (in_session s) (in_media y us u) h = absurd h
lines_both decided ps (in_media x ss s) (in_session u) h = absurd h
lines_both decided ps (in_media x ss s) (in_media y us u) h = ap (λ (n : ℕ). n + 1) (ended_length x y ss us h.1.0)

-- an `m=` line begins a section in both
next_both : (decided new : Bool) (ps rest : List (List ℕ)) (x y : Reading) (s u : Section) → has_as ps ≡ false → Both decided ps x y → Beside new rest s u
    → Lines s u → Both new rest (next_section x s) (next_section y u)
next_both decided new ps rest (in_session r) (in_session v) s u o h k i = ((rw h.1, rw h.1), (tt, (k, i)))
next_both decided new ps rest (in_session r) (in_media y us v) s u o h k i = absurd h
next_both decided new ps rest (in_media x ss r) (in_session v) s u o h k i = absurd h
next_both decided new ps rest (in_media x ss r) (in_media y us v) s u o h k i =
    (h.0, (ended_snoc x y ss us r v h.1.0 (closes decided ps x y r v o h.0 h.1.1.0, h.1.1.1), (k, i)))

-- ---- reading on
abbrev Onward : Bool → List (List ℕ) → Type 0
Onward decided ps =
    (n m at ab : ℕ) (x y : Reading) → 1 ≤ n → 1 ≤ m → Both decided ps x y → Or 7 (read_from n at ps x) (read_from m ab (without_tias decided ps) y)

-- something is left
some_left : (decided : Bool) (q : List ℕ) (ps : List (List ℕ)) → (z : List ℕ) × (zs : List (List ℕ)) × (without_tias decided (q ∷ ps) ≡ z ∷ zs)
unfolding without_tias
some_left decided q [] = (q, [], refl)
some_left decided q (r ∷ rs) = by (is_media_line q) (decided && is_tias_line q) (some_left decided r rs) where
  by : (M T : Bool) → (z : List ℕ) × (zs : List (List ℕ)) × (without_tias decided (r ∷ rs) ≡ z ∷ zs)
      → (z : List ℕ) × (zs : List (List ℕ))
      × (cond M (q ∷ without_tias (has_as (r ∷ rs)) (r ∷ rs)) (cond T (without_tias decided (r ∷ rs)) (q ∷ without_tias decided (r ∷ rs))) ≡ z ∷ zs)
  by true T h = (q, _, refl)
  by false true h = h
  by false false h = (q, _, refl)

module _ (decided : Bool) (p q : List ℕ) (ps : List (List ℕ)) (n m at ab : ℕ) (i : 1 ≤ n) (j : 1 ≤ m) where
  -- what is read after the line p, which both have; with `next` for the section that follows
  abbrev here : Step → Text
  here x = on_step x (λ k. refusal k n) λ next. read_from (n + 1) (at + length p + 1) (q ∷ ps) next

  abbrev there : Bool → Step → Text
  there next y = on_step y (λ k. refusal k m) λ reading. read_from (m + 1) (ab + length p + 1) (without_tias next (q ∷ ps)) reading

  -- an `m=` line
  abbrev starts : Reading → ℕ → ℕ → MediaLine → Section
  starts x k a r = begun (session_at x) r k a (a + length (bare p))

  begins_both : Onward (has_as (q ∷ ps)) (q ∷ ps) → (x y : Reading) (r : Result MediaLine Fault) → is_media_line p ≡ true → Both decided (p ∷ q ∷ ps) x y
      → Or 7 (here (on_media r λ k. go (next_section x (starts x n at k)))) (there (has_as (q ∷ ps)) (on_media r λ k. go (next_section y (starts y m ab k))))
  begins_both onward x y (Ok k) e b =
      onward (n + 1) (m + 1) (at + length p + 1) (ab + length p + 1) (next_section x (starts x n at k)) (next_section y (starts y m ab k)) (omega arith) (omega arith)
      (next_both decided (has_as (q ∷ ps)) (p ∷ q ∷ ps) (q ∷ ps) x y (starts x n at k) (starts y m ab k) (as_ended p q ps e) b
      (refl, ((λ z. refl), λ z w. z)) (i, j))
  begins_both onward x y (Err k) e b = refused_same 7 (fault_number k) n m

  media_both : Onward (has_as (q ∷ ps)) (q ∷ ps) → (x y : Reading) → is_media_line p ≡ true → Both decided (p ∷ q ∷ ps) x y
      → Or 7 (here (step n at (bare p) x)) (there (has_as (q ∷ ps)) (step m ab (bare p) y))
  unfolding step
  media_both onward x y e b =
      rw (e, lines_both decided (p ∷ q ∷ ps) x y b)
      (on_both (λ (u v : Step). Or 7 (here u) (there (has_as (q ∷ ps)) v)) (leb most_media (media_lines y)) (refused_same 7 5 n m)
      (begins_both onward x y (media_of (value (bare p))) e b))

  abbrev say : Section → Bool → ℕ → Result Section Fault
  say s inside a = line_in s inside (letter (bare p)) (value (bare p)) a (a + length (bare p))

  -- another line, which both have
  module _ (onward : Onward decided (q ∷ ps)) (e : is_media_line p ≡ false) where
    in_session_lem : (s u : Section) → (decided ≡ false) × (u.media ≡ s.media)
        → Or 7 (here (on_told (say s false at) λ r. go (in_session r))) (there decided (on_told (say u false ab) λ r. go (in_session r)))
    in_session_lem s u h = by (say s false at) (say u false ab) (line_both s u h.1 false (bare p) at (at + length (bare p)) ab (ab + length (bare p)) (λ z. absurd (false≢true z))) where
      by : (r w : Result Section Fault) → BothTold (Kept s u h.1) r w → Or 7 (here (on_told r λ r. go (in_session r))) (there decided (on_told w λ r. go (in_session r)))
      by (Ok r) (Ok v) k =
          onward (n + 1) (m + 1) (at + length p + 1) (ab + length p + 1) (in_session r) (in_session v) (omega arith) (omega arith) (h.0, k.0)
      by (Err a) (Err b) k = inr (record { refusal = ap fault_number k; count = refl; media = refl })
      by (Ok r) (Err b) k = absurd k
      by (Err a) (Ok v) k = absurd k

    -- AS has been read, or is still to come
    still : (s r : Section) → Rated s (bare p) (Ok r) → (decided ≡ true → absent s.media.requestedgiven ≡ true → has_as (p ∷ q ∷ ps) ≡ true)
        → decided ≡ true → absent r.media.requestedgiven ≡ true → has_as (q ∷ ps) ≡ true
    still s r k f d z = by (absent (rate_line as_of (bare p)).given) refl (sym (ap (λ (a : Requested). absent a.given) k.0) ∙ z) where
      by : (t : Bool) → absent (rate_line as_of (bare p)).given ≡ t → absent (cond t (own_requested s.media) (rate_line as_of (bare p))).given ≡ true → has_as (q ∷ ps) ≡ true
      by true g w = as_next p q ps e g (f d w)
      by false g w = absurd (false≢true (sym g ∙ w))

    in_media_lem : (x y : Session) (ss us : List Section) (s u : Section) → Both decided (p ∷ q ∷ ps) (in_media x ss s) (in_media y us u)
        → (u.tias ≡ s.tias) ⊎ (absent (rate_line tias_of (bare p)).given ≡ true)
        → Or 7 (here (on_told (say s true at) λ r. go (in_media x ss r))) (there decided (on_told (say u true ab) λ r. go (in_media y us r)))
    in_media_lem x y ss us s u (a, (c, ((h, (t, f)), l))) o =
        by (say s true at) (say u true ab) (line_both s u h true (bare p) at (at + length (bare p)) ab (ab + length (bare p)) (λ z. o))
        (line_rated s (bare p) at (at + length (bare p))) where
          by : (r w : Result Section Fault) → BothTold (Kept s u h) r w → Rated s (bare p) r
              → Or 7 (here (on_told r λ r. go (in_media x ss r))) (there decided (on_told w λ r. go (in_media y us r)))
          by (Ok r) (Ok v) k g =
              onward (n + 1) (m + 1) (at + length p + 1) (ab + length p + 1) (in_media x ss r) (in_media y us v) (omega arith) (omega arith)
              (a, (c, ((k.0, ((λ z. k.1.0 (t z)), still s r g f)), omega (arith, l, k.1.1))))
          by (Err a) (Err b) k g = inr (record { refusal = ap fault_number k; count = refl; media = refl })
          by (Ok r) (Err b) k g = absurd k
          by (Err a) (Ok v) k g = absurd k

    kept_both : (x y : Reading) → is_line (bare p) ≡ true → (decided && is_tias_line p) ≡ false → Both decided (p ∷ q ∷ ps) x y
        → Or 7 (here (step n at (bare p) x)) (there decided (step m ab (bare p) y))
    unfolding step
    kept_both (in_session s) (in_session u) g o h = rw e (in_session_lem s u h)
    kept_both (in_session s) (in_media y us u) g o h = absurd h
    kept_both (in_media x ss s) (in_session u) g o h = absurd h
    kept_both (in_media x ss s) (in_media y us u) g o h = rw e (in_media_lem x y ss us s u h (by decided (absent (rate_line tias_of (bare p)).given) refl refl (rw g at o))) where
      by : (d t : Bool) → decided ≡ d → absent (rate_line tias_of (bare p)).given ≡ t → (d && not t) ≡ false → (u.tias ≡ s.tias) ⊎ (t ≡ true)
      by true true z w k = inr refl
      by true false z w k = absurd (false≢true (sym k))
      by false t z w k = inl (h.1.1.0.1.0 z)

    -- a TIAS line beside an AS line, which the other text has not; a second one is 7
    dropped : (x y : Reading) → Gives p → decided ≡ true → Both decided (p ∷ q ∷ ps) x y
        → Or 7 (here (step n at (bare p) x)) (read_from m ab (without_tias decided (q ∷ ps)) y)
    unfolding step
    dropped (in_session s) (in_session u) g d h = absurd (false≢true (sym h.0 ∙ d))
    dropped (in_session s) (in_media y us u) g d h = absurd h
    dropped (in_media x ss s) (in_session u) g d h = absurd h
    dropped (in_media x ss s) (in_media y us u) g d (a, (c, ((h, (t, f)), l))) =
        rw (e, given_says p g s at (at + length (bare p))) (by (absent s.tias.given)) where
          rated : Rated s (bare p) (Ok (with_tias s (some_rate g.bits)))
          rated = rw (g.is_b, g.says) (refl, refl)

          by : (b : Bool) → Or 7 (here (on_told (cond b (Ok (with_tias s (some_rate g.bits))) (Err fault.Bandwidth)) λ r. go (in_media x ss r)))
              (read_from m ab (without_tias decided (q ∷ ps)) (in_media y us u))
          by true =
              onward (n + 1) m (at + length p + 1) ab (in_media x ss (with_tias s (some_rate g.bits))) (in_media y us u) (omega arith) j
              (a, (c, ((h, ((λ z. absurd (false≢true (sym z ∙ d))), still s (with_tias s (some_rate g.bits)) rated f)), l)))
          by false = inl refl

none_left : (p : List ℕ) → (has_as [] ≡ false) × (has_as (p ∷ []) ≡ false)
unfolding section_lines rate_among
none_left p = (refl, refl)

reads : (ps : List (List ℕ)) (decided : Bool) → Onward decided ps
unfolding read_from without_tias
reads [] decided n m at ab x y i j b = inr (whole_both decided [] x y (none_left []).0 b)
reads (p ∷ []) decided n m at ab x y i j b = on_both (Or 7) (is_empty p) (inr (whole_both decided (p ∷ []) x y (none_left p).1 b)) (refused_same 7 2 n m)
reads (p ∷ q ∷ ps) decided n m at ab x y i j b =
    by (is_media_line p) (decided && is_tias_line p) (is_line (bare p)) refl refl refl (reads (q ∷ ps)) where
      after : Step → Text
      after x = on_step x (λ k. refusal k n) λ next. read_from (n + 1) (at + length p + 1) (q ∷ ps) next

      by : (M T L : Bool) → is_media_line p ≡ M → (decided && is_tias_line p) ≡ T → is_line (bare p) ≡ L → ((decided : Bool) → Onward decided (q ∷ ps))
          → Or 7 (cond L (after (step n at (bare p) x)) (refusal 2 n))
          (read_from m ab (cond M (p ∷ without_tias (has_as (q ∷ ps)) (q ∷ ps)) (cond T (without_tias decided (q ∷ ps)) (p ∷ without_tias decided (q ∷ ps)))) y)
      by true T true e f g onward =
          let z = some_left (has_as (q ∷ ps)) q ps in
          rw (reads_next m ab p (without_tias (has_as (q ∷ ps)) (q ∷ ps)) y z.0 z.1 z.2, g)
          (media_both decided p q ps n m at ab i j (onward (has_as (q ∷ ps))) x y e b)
      by true T false e f g onward =
          let z = some_left (has_as (q ∷ ps)) q ps in
          rw (reads_next m ab p (without_tias (has_as (q ∷ ps)) (q ∷ ps)) y z.0 z.1 z.2, g) (refused_same 7 2 n m)
      by false true true e f g onward =
          let k = both decided (is_tias_line p) f in
          dropped decided p q ps n m at ab i j (onward decided) e x y (gives p k.1) k.0 b
      by false true false e f g onward =
          let k = both decided (is_tias_line p) f in
          absurd (false≢true (sym g ∙ (gives p k.1).line))
      by false false true e f g onward =
          let z = some_left decided q ps in
          rw (reads_next m ab p (without_tias decided (q ∷ ps)) y z.0 z.1 z.2, g)
          (kept_both decided p q ps n m at ab i j (onward decided) e x y g f b)
      by false false false e f g onward =
          let z = some_left decided q ps in
          rw (reads_next m ab p (without_tias decided (q ∷ ps)) y z.0 z.1 z.2, g) (refused_same 7 2 n m)

lines_read : (ps : List (List ℕ)) → Or 7 (read_lines ps) (read_lines (without_tias false ps))
unfolding read_lines without_tias
lines_read [] = refused_same 7 2 1 1
lines_read (p ∷ []) = refused_same 7 2 1 1
lines_read (p ∷ q ∷ ps) = by (is_media_line p) refl where
  by : (M : Bool) → is_media_line p ≡ M
      → Or 7 (cond (is_word (bytes "v=0") (bare p)) (read_from 2 (length p + 1) (q ∷ ps) (in_session no_section)) (refusal 2 1))
      (read_lines (cond M (p ∷ without_tias (has_as (q ∷ ps)) (q ∷ ps)) (p ∷ without_tias false (q ∷ ps))))
  by true e =
      let z = some_left (has_as (q ∷ ps)) q ps in
      rw (lines_next p (without_tias (has_as (q ∷ ps)) (q ∷ ps)) z.0 z.1 z.2) (first (is_word (bytes "v=0") (bare p)) refl) where
        first : (t : Bool) → is_word (bytes "v=0") (bare p) ≡ t
            → Or 7 (cond t (read_from 2 (length p + 1) (q ∷ ps) (in_session no_section)) (refusal 2 1))
            (cond t (read_from 2 (length p + 1) (without_tias (has_as (q ∷ ps)) (q ∷ ps)) (in_session no_section)) (refusal 2 1))
        first true k = absurd (false≢true (sym (ap (λ (l : List ℕ). eqb (letter l) (code "m")) (word_is (bytes "v=0") (bare p) k)) ∙ e))
        first false k = refused_same 7 2 1 1
  by false e =
      let z = some_left false q ps in
      rw (lines_next p (without_tias false (q ∷ ps)) z.0 z.1 z.2)
      (on_both (Or 7) (is_word (bytes "v=0") (bare p))
      (reads (q ∷ ps) false 2 2 (length p + 1) (length p + 1) (in_session no_section) (in_session no_section) (omega arith) (omega arith) (refl, refl))
      (refused_same 7 2 1 1))

-- A text that is not refused with 7 says the same without the TIAS lines of the media sections that have an AS line.
pub as_decides : (t u : List ℕ) → length t ≤ most_text → length u ≤ most_text → split lf u ≡ without_tias false (split lf t) → (read_text t).refusal ≢ 7
    → SaySame (read_text t) (read_text u)
unfolding read_text
as_decides t u i j e =
    rw (le-ltb most_text (length t) i, le-ltb most_text (length u) j, e)
    (same_but 7 (read_lines (split lf t)) (read_lines (without_tias false (split lf t))) (lines_read (split lf t)))
