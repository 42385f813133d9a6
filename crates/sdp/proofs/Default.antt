-- A session direction stands for a media section without one: a text with it says the same as the text with that line in each media section
-- that has none, and as the text without it where each has its own. Assumes nothing.
use Rattle.cursor.specs.Cursor.{on_some}
use Rattle.sdp.specs.Fault.{fault_number}
use Rattle.std.specs.Prelude.{Option, Some, None, Result, Ok, Err}
use Rattle.sdp.specs.declared.fault.Fault.{Fault}
use Rattle.sdp.specs.declared.fault.Fault.TheVariants as fault
use Rattle.sdp.specs.declared.Address.{Address}
use Prim.Native.Nat.{ℕ, ◌+◌, ◌≤◌}
use Prim.Native.Char.{code}
use mathlib.Core.Path.{◌≡◌, refl, ap, sym, ◌∙◌}
use mathlib.Core.Logic.{◌≢◌, inl, inr}
use mathlib.Core.List.{List, [], ◌∷◌, ◌++◌}
use mathlib.Core.Bool.{Bool, true, false, cond, not, ◌&&◌, ◌||◌, false≢true}
use lib.ListN.{length}
use lib.Dec.{leb, eqb}
use native.Mathlib.Omega.{arith}
use borrow.Author.Tests.{eqb-true, eq-eqb, ne_eqb, le-ltb}
use Rattle.cursor.specs.Bytes.{is_word, is_empty, split, bytes}
use Rattle.sdp.specs.Line.{lf, bare, is_line, letter, value}
use Rattle.sdp.specs.Media.{media_of}
use Rattle.sdp.specs.Connection.{connection_of}
use Rattle.sdp.specs.Bandwidth.{bandwidth_of}
use Rattle.sdp.specs.Direction.{direction_of, direction_number}
use Rattle.sdp.specs.Section.{no_section, no_direction, begun, with_media, with_address, with_direction, with_requested, own_address, own_requested, own_or, own_direction_or, as_else_tias, session_of, closed}
use Rattle.sdp.specs.Section.{connection_in, rate_in, bandwidth_in, direction_in, line_in}
use Rattle.sdp.specs.Text.{most_text, most_media, refusal, Reading, in_session, in_media, media_lines, session_at, inside, replaced, next_section}
use Rattle.sdp.specs.Text.{whole, Step, go, on_media, on_told, step, on_step, read_from, read_lines, read_text}
use Rattle.sdp.specs.Default.{is_media_line, is_direction, is_direction_line, directed, undirected, spread, moved_from, moved, all_directed, unsaid_from, unsaid, SaySame}
use Rattle.sdp.specs.declared.Text.{Text}
use Rattle.sdp.specs.declared.media_line.MediaLine.{MediaLine}
use Rattle.sdp.specs.declared.bandwidth.Rate.{Rate}
use Rattle.sdp.specs.declared.bandwidth.Rate.TheVariants as rate
use Rattle.sdp.specs.declared.direction.Direction.{Direction}
use Rattle.sdp.specs.declared.section.Section.{Section}
use Rattle.sdp.specs.declared.section.Session.{Session}
use Rattle.sdp.proofs.Said.{direction_range}
use Rattle.sdp.proofs.Tests.{both}
use Rattle.sdp.proofs.Same.{BothTold, on_both, Lines, AllEnded, ended_snoc, ended_length, ended_same, Or, refused_same, same_but, reads_next, lines_next}

-- two sections, the one with the direction e in place of its own
abbrev But : ℕ → Section → Section → Type 0
But e s u = (u.media ≡ with_direction s.media e) × (u.tias ≡ s.tias)

module _ (e : ℕ) (s u : Section) (h : But e s u) where
  -- a line that is no direction line: but for the direction, and with it
  abbrev Kept : Section → Section → Type 0
  Kept s' u' = But e s' u' × ((s'.media.direction ≡ s.media.direction) × ((s'.line ≡ s.line) × (u'.line ≡ u.line)))

  connection_both : (v : List ℕ) → BothTold Kept (connection_in s v) (connection_in u v)
  unfolding connection_in
  connection_both v = by (connection_of v) where
    by : (c : Option Address)
        → BothTold Kept (on_some c (Err fault.Connection) λ a. cond (eqb s.media.known 0) (Ok (with_media s (with_address s.media a))) (Err fault.Connection))
        (on_some c (Err fault.Connection) λ a. cond (eqb u.media.known 0) (Ok (with_media u (with_address u.media a))) (Err fault.Connection))
    by (Some a) = rw h.0 (on_both (BothTold Kept) (eqb s.media.known 0) ((refl, h.1), (refl, (refl, refl))) refl)
    by None = refl

  rate_both : (r : Rate) → BothTold Kept (rate_in s r) (rate_in u r)
  unfolding rate_in
  rate_both (rate.As b) = rw h.0 (on_both (BothTold Kept) (eqb s.media.requestedgiven 0) ((refl, h.1), (refl, (refl, refl))) refl)
  rate_both (rate.Tias b) = rw h.1 (on_both (BothTold Kept) (eqb s.tias.given 0) ((h.0, refl), (refl, (refl, refl))) refl)
  rate_both (rate.Rs b) = rw h.0 (on_both (BothTold Kept) (eqb s.media.rsgiven 0) ((refl, h.1), (refl, (refl, refl))) refl)
  rate_both (rate.Rr b) = rw h.0 (on_both (BothTold Kept) (eqb s.media.rrgiven 0) ((refl, h.1), (refl, (refl, refl))) refl)
  rate_both rate.Other = (h, (refl, (refl, refl)))

  bandwidth_both : (v : List ℕ) → BothTold Kept (bandwidth_in s v) (bandwidth_in u v)
  unfolding bandwidth_in
  bandwidth_both v = by (bandwidth_of v) where
    by : (b : Option Rate) → BothTold Kept (on_some b (Err fault.Bandwidth) λ r. rate_in s r) (on_some b (Err fault.Bandwidth) λ r. rate_in u r)
    by (Some r) = rate_both r
    by None = refl

  plain_both : (inside : Bool) (l : ℕ) (v : List ℕ) (a f b g : ℕ) → (eqb l (code "a") ≡ true → direction_of v ≡ None)
      → BothTold Kept (line_in s inside l v a f) (line_in u inside l v b g)
  unfolding line_in direction_in
  plain_both inside l v a f b g o =
      on_both (BothTold Kept) (eqb l (code "c")) (connection_both v)
      (on_both (BothTold Kept) (inside && eqb l (code "b")) (bandwidth_both v) (by (eqb l (code "a")) refl)) where
        by : (t : Bool) → eqb l (code "a") ≡ t → BothTold Kept (cond t (direction_in s v a f) (Ok s)) (cond t (direction_in u v b g) (Ok u))
        by true i = rw (o i) (h, (refl, (refl, refl)))
        by false i = (h, (refl, (refl, refl)))

-- a direction line, and a line that is none
is_direction_lem : (w : Option Direction) → is_direction w ≡ true → (d : Direction) × (w ≡ Some d)
is_direction_lem (Some d) e = (d, refl)
is_direction_lem None e = absurd (false≢true e)

no_direction_lem : (w : Option Direction) → is_direction w ≡ false → w ≡ None
no_direction_lem (Some d) e = absurd (false≢true (sym e))
no_direction_lem None e = refl

pub record Directs (p : List ℕ) : Type 0 where
  pub line : is_line (bare p) ≡ true
  pub is_a : letter (bare p) ≡ code "a"
  pub direction : Direction
  pub says : direction_of (value (bare p)) ≡ Some direction

directs : (p : List ℕ) → is_direction_line p ≡ true → Directs p
directs p e =
    let h = both (is_line (bare p)) _ e in
    let k = both (eqb (letter (bare p)) (code "a")) _ h.1 in
    let d = is_direction_lem (direction_of (value (bare p))) k.1 in
    record { line = h.0; is_a = eqb-true (letter (bare p)) (code "a") k.0; direction = d.0; says = d.1 }

plain : (p : List ℕ) → is_line (bare p) ≡ true → is_direction_line p ≡ false
    → eqb (letter (bare p)) (code "a") ≡ true → direction_of (value (bare p)) ≡ None
plain p l e a = no_direction_lem (direction_of (value (bare p))) (rw (l, a) at e)

-- what a direction line says to a section
abbrev with_line : Section → Direction → ℕ → ℕ → Section
with_line s d at e =
    record {
      line = s.line;
      media = with_direction s.media (direction_number d);
      spot = record { start = s.spot.start; end = s.spot.end; from = at; to = e };
      tias = s.tias;
    }

line_says : (p : List ℕ) (h : Directs p) (s : Section) (inside : Bool) (at e : ℕ)
    → line_in s inside (letter (bare p)) (value (bare p)) at e
    ≡ cond (no_direction s.media.direction) (Ok (with_line s h.direction at e)) (Err fault.Direction)
unfolding line_in direction_in
line_says p h s true at e = rw (h.is_a, h.says)
line_says p h s false at e = rw (h.is_a, h.says)

-- the sections of one place: alike, a direction of their own read or to come; or one without, and the other with D in its place
data Beside (D : ℕ) (ahead : Bool) (s u : Section) : Type 0 where
  alike : But s.media.direction s u → (s.media.direction ≡ 0 → ahead ≡ true) → Beside D ahead s u
  inherits : s.media.direction ≡ 0 → But D s u → ahead ≡ false → Beside D ahead s u

-- what serves them: the one has the direction D
abbrev Serving : ℕ → Session → Session → Type 0
Serving D x y = (x.address ≡ y.address) × (x.direction ≡ D)

closes_as : (e : ℕ) (x y : Session) (s u : Section) → But e s u → x.address ≡ y.address
    → own_direction_or x.direction s.media.direction ≡ own_direction_or y.direction e → closed x s ≡ closed y u
unfolding closed
closes_as e x y s u h a d =
    rw (h.0, h.1, a)
    (ap (λ (n : ℕ). with_requested (with_direction (with_address s.media (own_or y.address (own_address s.media))) n) (as_else_tias (own_requested s.media) s.tias)) d)

closes : (D : ℕ) (x y : Session) (s u : Section) → 1 ≤ D → Serving D x y → Beside D false s u → closed x s ≡ closed y u
closes D x y s u i (e, f) (alike h k) =
    closes_as s.media.direction x y s u h e (rw (ne_eqb s.media.direction 0 (λ o. false≢true (k o))))
closes D x y s u i (e, f) (inherits k h o) = closes_as D x y s u h e (let z = ne_eqb D 0 (λ o. omega (arith, o, i)) in rw (k, f, z))

-- the places of both readings
abbrev Both : ℕ → Bool → Reading → Reading → Type 0
Both D ahead (in_session s) (in_session u) = (s.media.direction ≡ D) × But 0 s u
Both D ahead (in_session s) (in_media y us u) = ⊥
Both D ahead (in_media x ss s) (in_session u) = ⊥
Both D ahead (in_media x ss s) (in_media y us u) = Serving D x y × (AllEnded x y ss us × (Beside D ahead s u × Lines s u))

module _ (D : ℕ) (some : 1 ≤ D) where
  whole_both : (x y : Reading) → Both D false x y → SaySame (whole x) (whole y)
  unfolding whole
  whole_both (in_session s) (in_session u) h = ended_same (session_of s) (session_of u) [] [] tt
  whole_both (in_session s) (in_media y us u) h = absurd h
  whole_both (in_media x ss s) (in_session u) h = absurd h
  whole_both (in_media x ss s) (in_media y us u) h =
      ended_same x y (ss ++ (s ∷ [])) (us ++ (u ∷ []))
      (ended_snoc x y ss us s u h.1.0 (closes D x y s u some h.0 h.1.1.0, h.1.1.1))

  lines_both : (ahead : Bool) (x y : Reading) → Both D ahead x y → media_lines x ≡ media_lines y
  lines_both ahead (in_session s) (in_session u) h = refl
  lines_both ahead (in_session s) (in_media y us u) h = absurd h
  lines_both ahead (in_media x ss s) (in_session u) h = absurd h
  lines_both ahead (in_media x ss s) (in_media y us u) h = ap (λ (n : ℕ). n + 1) (ended_length x y ss us h.1.0)

  -- an `m=` line begins a section in both
  next_both : (ahead : Bool) (x y : Reading) (s u : Section) → Both D false x y → Beside D ahead s u → Lines s u
      → Both D ahead (next_section x s) (next_section y u)
  next_both ahead (in_session r) (in_session v) s u h k i =
      ((rw h.1.0, rw (h.0, ne_eqb D 0 (λ o. omega (arith, o, some)))), (tt, (k, i)))
  next_both ahead (in_session r) (in_media y us v) s u h k i = absurd h
  next_both ahead (in_media x ss r) (in_session v) s u h k i = absurd h
  next_both ahead (in_media x ss r) (in_media y us v) s u h k i =
      (h.0, (ended_snoc x y ss us r v h.1.0 (closes D x y r v some h.0 h.1.1.0, h.1.1.1), (k, i)))

-- d is the direction line of the session section, which one of two texts has and the other has in its media sections
module _ (d : List ℕ) (h : Directs d) where
  abbrev D : ℕ
  D = direction_number h.direction

  some : 1 ≤ D
  some = (direction_range h.direction).0

  abbrev Onward : List (List ℕ) → Type 0
  Onward ps =
      (n m at ab : ℕ) (x y : Reading) → 1 ≤ n → 1 ≤ m → Both D (directed ps) x y → Or 8 (read_from n at ps x) (read_from m ab (spread d ps) y)

  -- one line, p, that both have
  module _ (p q : List ℕ) (ps : List (List ℕ)) (n m at ab : ℕ) (i : 1 ≤ n) (j : 1 ≤ m) (onward : Onward (q ∷ ps)) where
    abbrev ahead : Bool
    ahead = directed (q ∷ ps)

    -- what is read after it
    abbrev here : Step → Text
    here x = on_step x (λ k. refusal k n) λ next. read_from (n + 1) (at + length p + 1) (q ∷ ps) next

    abbrev there : Step → Text
    there y = on_step y (λ k. refusal k m) λ next. read_from (m + 1) (ab + length p + 1) (spread d (q ∷ ps)) next

    told_both : (P : Section → Section → Type 0) (x y : Reading) (r w : Result Section Fault) → BothTold P r w
        → ((s u : Section) → P s u → Both D ahead (replaced x s) (replaced y u))
        → Or 8 (here (on_told r λ s. go (replaced x s))) (there (on_told w λ u. go (replaced y u)))
    told_both P x y (Ok s) (Ok u) k f =
        onward (n + 1) (m + 1) (at + length p + 1) (ab + length p + 1) (replaced x s) (replaced y u) (omega arith) (omega arith) (f s u k)
    told_both P x y (Err a) (Err b) k f = inr (record { refusal = ap fault_number k; count = refl; media = refl })
    told_both P x y (Ok s) (Err b) k f = absurd k
    told_both P x y (Err a) (Ok u) k f = absurd k

    abbrev say : Section → Bool → ℕ → Result Section Fault
    say s inside a = line_in s inside (letter (bare p)) (value (bare p)) a (a + length (bare p))

    -- in the session section: a second direction is 8
    in_session_lem : is_line (bare p) ≡ true → (s u : Section) → (s.media.direction ≡ D) × But 0 s u
        → Or 8 (here (on_told (say s false at) λ r. go (in_session r))) (there (on_told (say u false ab) λ r. go (in_session r)))
    in_session_lem l s u k = by (is_direction_line p) refl where
      by : (t : Bool) → is_direction_line p ≡ t
          → Or 8 (here (on_told (say s false at) λ r. go (in_session r))) (there (on_told (say u false ab) λ r. go (in_session r)))
      by true e =
          let z = line_says p (directs p e) s false at (at + length (bare p)) in
          let o = ne_eqb D 0 (λ c. omega (arith, c, some)) in
          inl (rw (z, k.0, o) refl)
      by false e =
          told_both (Kept 0 s u k.1) (in_session s) (in_session u) (say s false at) (say u false ab)
          (plain_both 0 s u k.1 false (letter (bare p)) (value (bare p)) at (at + length (bare p)) ab (ab + length (bare p)) (plain p l e))
          (λ r v w. (w.1.0 ∙ k.0, w.0))

    -- in a media section: read alike in both
    in_media_lem : is_line (bare p) ≡ true → (x y : Session) (ss us : List Section) (s u : Section)
        → Both D (is_direction_line p || ahead) (in_media x ss s) (in_media y us u)
        → Or 8 (here (on_told (say s true at) λ r. go (in_media x ss r))) (there (on_told (say u true ab) λ r. go (in_media y us r)))
    in_media_lem l x y ss us s u k = by (is_direction_line p) refl k.1.1.0 where
      on : (P : Section → Section → Type 0) → BothTold P (say s true at) (say u true ab)
          → ((r v : Section) → P r v → Beside D ahead r v × Lines r v)
          → Or 8 (here (on_told (say s true at) λ r. go (in_media x ss r))) (there (on_told (say u true ab) λ r. go (in_media y us r)))
      on P c f = told_both P (in_media x ss s) (in_media y us u) (say s true at) (say u true ab) c (λ r v w. (k.0, (k.1.0, f r v w)))

      by : (t : Bool) → is_direction_line p ≡ t → Beside D (t || ahead) s u
          → Or 8 (here (on_told (say s true at) λ r. go (in_media x ss r))) (there (on_told (say u true ab) λ r. go (in_media y us r)))
      by true e (alike b f) =
          let z = directs p e in
          on (λ r v. But (direction_number z.direction) r v × ((r.media.direction ≡ direction_number z.direction) × Lines r v))
          (rw (line_says p z s true at (at + length (bare p)), line_says p z u true ab (ab + length (bare p)), b.0)
          (on_both (BothTold _) (no_direction s.media.direction) ((refl, b.1), (refl, k.1.1.1)) refl))
          (λ r v w. (alike (rw w.1.0 w.0) (λ o. absurd (omega (arith, o, w.1.0, direction_range z.direction))), w.1.1))
      by true e (inherits f b g) = absurd (false≢true (sym g))
      by false e (alike b f) =
          on (Kept s.media.direction s u b)
          (plain_both s.media.direction s u b true (letter (bare p)) (value (bare p)) at (at + length (bare p)) ab (ab + length (bare p)) (plain p l e))
          (λ r v w. (alike (rw w.1.0 w.0) (λ o. f (sym w.1.0 ∙ o)), omega (arith, w.1.1, k.1.1.1)))
      by false e (inherits f b g) =
          on (Kept D s u b)
          (plain_both D s u b true (letter (bare p)) (value (bare p)) at (at + length (bare p)) ab (ab + length (bare p)) (plain p l e))
          (λ r v w. (inherits (w.1.0 ∙ f) w.0 g, omega (arith, w.1.1, k.1.1.1)))

    line_both : (x y : Reading) → is_line (bare p) ≡ true → is_media_line p ≡ false → Both D (is_direction_line p || ahead) x y
        → Or 8 (here (step n at (bare p) x)) (there (step m ab (bare p) y))
    unfolding step
    line_both (in_session s) (in_session u) l e k = rw e (in_session_lem l s u k)
    line_both (in_session s) (in_media y us u) l e k = absurd k
    line_both (in_media x ss s) (in_session u) l e k = absurd k
    line_both (in_media x ss s) (in_media y us u) l e k = rw e (in_media_lem l x y ss us s u k)

    -- an `m=` line, whose section has a direction line
    abbrev starts : Reading → ℕ → ℕ → MediaLine → Section
    starts x k a r = begun (session_at x) r k a (a + length (bare p))

    begins_own : (x y : Reading) (r : Result MediaLine Fault) → Both D false x y → ahead ≡ true
        → Or 8 (here (on_media r λ k. go (next_section x (starts x n at k)))) (there (on_media r λ k. go (next_section y (starts y m ab k))))
    begins_own x y (Ok k) b e =
        onward (n + 1) (m + 1) (at + length p + 1) (ab + length p + 1) (next_section x (starts x n at k)) (next_section y (starts y m ab k))
        (omega arith) (omega arith) (next_both D some ahead x y (starts x n at k) (starts y m ab k) b (alike (refl, refl) (λ o. e)) (i, j))
    begins_own x y (Err k) b e = refused_same 8 (fault_number k) n m

    own_both : (x y : Reading) → is_media_line p ≡ true → Both D false x y → ahead ≡ true
        → Or 8 (here (step n at (bare p) x)) (there (step m ab (bare p) y))
    unfolding step
    own_both x y e b f =
        rw (e, lines_both D some false x y b)
        (on_both (λ (u v : Step). Or 8 (here u) (there v)) (leb most_media (media_lines y)) (refused_same 8 5 n m) (begins_own x y (media_of (value (bare p))) b f))

    -- .. and one without, into which d has gone
    abbrev there_with : Step → Text
    there_with y = on_step y (λ k. refusal k m) λ next. read_from (m + 1) (ab + length p + 1) (d ∷ spread d (q ∷ ps)) next

    d_read : (k a : ℕ) (y : Session) (us : List Section) (u : Section) → u.media.direction ≡ 0
        → read_from k a (d ∷ spread d (q ∷ ps)) (in_media y us u)
        ≡ read_from (k + 1) (a + length d + 1) (spread d (q ∷ ps)) (in_media y us (with_line u h.direction a (a + length (bare d))))
    unfolding read_from step spread
    d_read k a y us u e = rw (h.line, line_says d h u true a (a + length (bare d)), h.is_a, e)

    begins_without : (x y : Reading) (r : Result MediaLine Fault) → Both D false x y → ahead ≡ false
        → Or 8 (here (on_media r λ k. go (next_section x (starts x n at k)))) (there_with (on_media r λ k. go (next_section y (starts y m ab k))))
    begins_without x y (Err k) b e = refused_same 8 (fault_number k) n m
    begins_without x y (Ok k) b e = by x y b where
      at' : ℕ
      at' = ab + length p + 1

      with_d : Reading → Section
      with_d y = with_line (starts y m ab k) h.direction at' (at' + length (bare d))

      goes : (x y : Reading) → Both D false x y
          → Or 8 (read_from (n + 1) (at + length p + 1) (q ∷ ps) (next_section x (starts x n at k)))
          (read_from (m + 1 + 1) (at' + length d + 1) (spread d (q ∷ ps)) (next_section y (with_d y)))
      goes x y b =
          onward (n + 1) (m + 1 + 1) (at + length p + 1) (at' + length d + 1) (next_section x (starts x n at k)) (next_section y (with_d y))
          (omega arith) (omega arith) (next_both D some ahead x y (starts x n at k) (with_d y) b (inherits refl (refl, refl) e) (i, j))

      by : (x y : Reading) → Both D false x y
          → Or 8 (here (go (next_section x (starts x n at k)))) (there_with (go (next_section y (starts y m ab k))))
      by (in_session s) (in_session v) b =
          rw (d_read (m + 1) at' (session_of v) [] (starts (in_session v) m ab k) refl) (goes (in_session s) (in_session v) b)
      by (in_session s) (in_media y us v) b = absurd b
      by (in_media x ss s) (in_session v) b = absurd b
      by (in_media x ss s) (in_media y us v) b =
          rw (d_read (m + 1) at' y (us ++ (v ∷ [])) (starts (in_media y us v) m ab k) refl) (goes (in_media x ss s) (in_media y us v) b)

    without_both : (x y : Reading) → is_media_line p ≡ true → Both D false x y → ahead ≡ false
        → Or 8 (here (step n at (bare p) x)) (there_with (step m ab (bare p) y))
    unfolding step
    without_both x y e b f =
        rw (e, lines_both D some false x y b)
        (on_both (λ (u v : Step). Or 8 (here u) (there_with v)) (leb most_media (media_lines y)) (refused_same 8 5 n m)
        (begins_without x y (media_of (value (bare p))) b f))

  reads : (ps : List (List ℕ)) → Onward ps
  unfolding read_from spread directed
  reads [] n m at ab x y i j b = inr (whole_both D some x y b)
  reads (p ∷ []) n m at ab x y i j b = on_both (Or 8) (is_empty p) (inr (whole_both D some x y b)) (refused_same 8 2 n m)
  reads (p ∷ q ∷ ps) n m at ab x y i j b = by (is_media_line p) (directed (q ∷ ps)) (is_line (bare p)) refl refl refl b (reads (q ∷ ps)) where
    by : (M A L : Bool) → is_media_line p ≡ M → directed (q ∷ ps) ≡ A → is_line (bare p) ≡ L → Both D (cond M false (is_direction_line p || A)) x y → Onward (q ∷ ps)
        → Or 8 (cond L (on_step (step n at (bare p) x) (λ k. refusal k n) λ next. read_from (n + 1) (at + length p + 1) (q ∷ ps) next) (refusal 2 n))
        (read_from m ab (p ∷ cond (M && not A) (d ∷ spread d (q ∷ ps)) (spread d (q ∷ ps))) y)
    by false A true e f g b onward = rw g (line_both p q ps n m at ab i j onward x y g e (rw f b))
    by true true true e f g b onward = rw g (own_both p q ps n m at ab i j onward x y e b f)
    by true false true e f g b onward = rw g (without_both p q ps n m at ab i j onward x y e b f)
    by false A false e f g b onward = rw g (refused_same 8 2 n m)
    by true true false e f g b onward = rw g (refused_same 8 2 n m)
    by true false false e f g b onward = rw g (refused_same 8 2 n m)

-- before the direction line of the session section, both read the same
moved_some : (q : List ℕ) (ps : List (List ℕ)) → (z : List ℕ) × (zs : List (List ℕ)) × (moved_from (q ∷ ps) ≡ z ∷ zs)
unfolding moved_from spread
moved_some q [] = (q, [], refl)
moved_some q (r ∷ rs) = by (is_media_line q) (is_direction_line q) where
  by : (M T : Bool) → (z : List ℕ) × (zs : List (List ℕ)) × (cond M (q ∷ r ∷ rs) (cond T (spread q (r ∷ rs)) (q ∷ moved_from (r ∷ rs))) ≡ z ∷ zs)
  by true T = (q, r ∷ rs, refl)
  by false true = (r, _, refl)
  by false false = (q, moved_from (r ∷ rs), refl)

reads_moved : (ps : List (List ℕ)) (n at : ℕ) (s : Section) → 1 ≤ n → s.media.direction ≡ 0
    → Or 8 (read_from n at ps (in_session s)) (read_from n at (moved_from ps) (in_session s))
unfolding read_from moved_from step
reads_moved [] n at s i e = inr (record { refusal = refl; count = refl; media = refl })
reads_moved (p ∷ []) n at s i e = inr (record { refusal = refl; count = refl; media = refl })
reads_moved (p ∷ q ∷ ps) n at s i e = by (is_media_line p) (is_direction_line p) refl refl (reads_moved (q ∷ ps)) where
  without : But 0 s s
  without = (ap (with_direction s.media) e, refl)

  here : Step → Text
  here x = on_step x (λ k. refusal k n) λ next. read_from (n + 1) (at + length p + 1) (q ∷ ps) next

  there : Step → Text
  there x = on_step x (λ k. refusal k n) λ next. read_from (n + 1) (at + length p + 1) (moved_from (q ∷ ps)) next

  Onward' : Type 0
  Onward' = (n at : ℕ) (s : Section) → 1 ≤ n → s.media.direction ≡ 0
      → Or 8 (read_from n at (q ∷ ps) (in_session s)) (read_from n at (moved_from (q ∷ ps)) (in_session s))

  follow : Onward' → (r : Result Section Fault) → BothTold (Kept 0 s s without) r r
      → Or 8 (here (on_told r λ u. go (in_session u))) (there (on_told r λ u. go (in_session u)))
  follow onward (Ok u) k = onward (n + 1) (at + length p + 1) u (omega arith) (k.1.0 ∙ e)
  follow onward (Err f) k = refused_same 8 (fault_number f) n n

  plainly : Onward' → is_media_line p ≡ false → is_direction_line p ≡ false → (L : Bool) → is_line (bare p) ≡ L
      → Or 8 (cond L (here (step n at (bare p) (in_session s))) (refusal 2 n)) (cond L (there (step n at (bare p) (in_session s))) (refusal 2 n))
  plainly onward f g true l =
      rw f (follow onward (line_in s false (letter (bare p)) (value (bare p)) at (at + length (bare p)))
      (plain_both 0 s s without false (letter (bare p)) (value (bare p)) at (at + length (bare p)) at (at + length (bare p)) (plain p l g)))
  plainly onward f g false l = refused_same 8 2 n n

  by : (M T : Bool) → is_media_line p ≡ M → is_direction_line p ≡ T → Onward'
      → Or 8 (cond (is_line (bare p)) (here (step n at (bare p) (in_session s))) (refusal 2 n))
      (read_from n at (cond M (p ∷ q ∷ ps) (cond T (spread p (q ∷ ps)) (p ∷ moved_from (q ∷ ps)))) (in_session s))
  by true T f g onward = inr (record { refusal = refl; count = refl; media = refl })
  by false true f g onward =
      let z = directs p g in
      rw (z.line, f, line_says p z s false at (at + length (bare p)), eq-eqb s.media.direction 0 e)
      (reads p z (q ∷ ps) (n + 1) n (at + length p + 1) at (in_session (with_line s z.direction at (at + length (bare p)))) (in_session s)
      (omega arith) i (refl, without))
  by false false f g onward =
      let m = moved_some q ps in
      rw (reads_next n at p (moved_from (q ∷ ps)) (in_session s) m.0 m.1 m.2) (plainly onward f g (is_line (bare p)) refl)

lines_moved : (ps : List (List ℕ)) → Or 8 (read_lines ps) (read_lines (moved ps))
unfolding read_lines moved moved_from
lines_moved [] = refused_same 8 2 1 1
lines_moved (p ∷ []) = refused_same 8 2 1 1
lines_moved (p ∷ q ∷ ps) =
    let m = moved_some q ps in
    rw (lines_next p (moved_from (q ∷ ps)) m.0 m.1 m.2)
    (on_both (Or 8) (is_word (bytes "v=0") (bare p)) (reads_moved (q ∷ ps) 2 (length p + 1) no_section (omega arith) refl) (refused_same 8 2 1 1))

-- A text that is not refused with 8 says the same as the text with the session's direction line in each media section that has none.
pub session_stands : (t u : List ℕ) → length t ≤ most_text → length u ≤ most_text → split lf u ≡ moved (split lf t) → (read_text t).refusal ≢ 8
    → SaySame (read_text t) (read_text u)
unfolding read_text
session_stands t u i j e =
    rw (le-ltb most_text (length t) i, le-ltb most_text (length u) j, e)
    (same_but 8 (read_lines (split lf t)) (read_lines (moved (split lf t))) (lines_moved (split lf t)))

-- Where each media section has its own, nothing goes into any.
spread_none : (d : List ℕ) (ps : List (List ℕ)) → all_directed ps ≡ true → spread d ps ≡ ps
unfolding spread all_directed
spread_none d [] e = refl
spread_none d (p ∷ ps) e = by (undirected p ps) (both (not (undirected p ps)) (all_directed ps) e) (spread_none d ps) where
  by : (t : Bool) → (not t ≡ true) × (all_directed ps ≡ true) → (all_directed ps ≡ true → spread d ps ≡ ps)
      → ◌≡◌ {A = List (List ℕ)} (p ∷ cond t (d ∷ spread d ps) (spread d ps)) (p ∷ ps)
  by true h f = absurd (false≢true h.0)
  by false h f = ap (λ (x : List (List ℕ)). p ∷ x) (f h.1)

from_unsaid : (ps : List (List ℕ)) → all_directed ps ≡ true → moved_from ps ≡ unsaid_from ps
unfolding moved_from unsaid_from all_directed
from_unsaid [] e = refl
from_unsaid (p ∷ []) e = refl
from_unsaid (p ∷ q ∷ ps) e = by (is_media_line p) (is_direction_line p) (both (not (undirected p (q ∷ ps))) (all_directed (q ∷ ps)) e).1 (from_unsaid (q ∷ ps)) where
  by : (M T : Bool) → all_directed (q ∷ ps) ≡ true → (all_directed (q ∷ ps) ≡ true → moved_from (q ∷ ps) ≡ unsaid_from (q ∷ ps))
      → cond M (p ∷ q ∷ ps) (cond T (spread p (q ∷ ps)) (p ∷ moved_from (q ∷ ps)))
      ≡ cond M (p ∷ q ∷ ps) (cond T (q ∷ ps) (p ∷ unsaid_from (q ∷ ps)))
  by true T h f = refl
  by false true h f = spread_none p (q ∷ ps) h
  by false false h f = ap (λ (x : List (List ℕ)). p ∷ x) (f h)

moved_unsaid : (ps : List (List ℕ)) → all_directed ps ≡ true → moved ps ≡ unsaid ps
unfolding moved unsaid all_directed
moved_unsaid [] e = refl
moved_unsaid (p ∷ ps) e = ap (λ (x : List (List ℕ)). p ∷ x) (from_unsaid ps (both (not (undirected p ps)) (all_directed ps) e).1)

-- Where each media section has its own direction line, a text says the same without the session's.
pub own_wins : (t u : List ℕ) → length t ≤ most_text → length u ≤ most_text → all_directed (split lf t) ≡ true → split lf u ≡ unsaid (split lf t)
    → (read_text t).refusal ≢ 8 → SaySame (read_text t) (read_text u)
own_wins t u i j o e = session_stands t u i j (e ∙ sym (moved_unsaid (split lf t) o))
