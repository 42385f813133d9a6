-- The spots of a text: the `m=` line of each media section, and its direction line, are whole lines of the text. Assumes nothing.
use Rattle.std.specs.Prelude.{None, Result, Ok, Err}
use Rattle.sdp.specs.declared.fault.Fault.{Fault}
use Prim.Native.Nat.{ℕ, zero, suc, ◌+◌, ◌≤◌, ◌<◌}
use Prim.Native.Char.{code}
use mathlib.Core.Path.{◌≡◌, refl, ap, sym, ◌∙◌}
use mathlib.Core.Logic.{◌≢◌}
use mathlib.Core.List.{List, [], ◌∷◌, ◌++◌, map, append_assoc}
use mathlib.Core.Bool.{Bool, true, false, cond}
use lib.ListN.{length, get_or, length-append}
use lib.Dec.{ltb, leb, eqb}
use native.Mathlib.Omega.{arith}
use borrow.Author.Tests.{eqb-true, ne_eqb}
use Rattle.cursor.specs.Bytes.{all, is_word, is_empty, split, bytes}
use Rattle.cursor.proofs.Parts.{clash}
use Rattle.cursor.proofs.Split.{split_front}
use Rattle.cursor.proofs.Words.{word_is}
use Rattle.sdp.specs.Line.{lf, bare, is_text, is_letter, is_line, letter, value}
use Rattle.sdp.specs.Media.{media_of}
use Rattle.sdp.specs.Direction.{direction_of}
use Rattle.sdp.specs.Section.{no_media, no_spot, no_section, begun, line_in, or_sendrecv, session_of, closed}
use Rattle.sdp.specs.Text.{most_media, refusal, lacking, good_unless9, Reading, in_session, in_media, media_lines, section_at, session_at, inside, replaced, next_section}
use Rattle.sdp.specs.Text.{whole, Step, go, stop, on_media, on_told, step, on_step, read_from, read_lines, read_text}
use Rattle.sdp.specs.Spots.{WholeLine, media_among, MediaLineOf, session_section, media_section, DirectionLineIn, NoDirectionLineIn, own_line, session_line, Directed, by_line, by_none, Lined}
use Rattle.sdp.specs.declared.Media.{Media}
use Rattle.sdp.specs.declared.Spot.{Spot}
use Rattle.sdp.specs.declared.Text.{Text}
use Rattle.sdp.specs.declared.media_line.MediaLine.{MediaLine}
use Rattle.sdp.specs.declared.section.Section.{Section}
use Rattle.sdp.specs.declared.section.Session.{Session}
use Rattle.sdp.proofs.Said.{Faulty, on_cond, media_said, direction_range}
use Rattle.sdp.proofs.Ranges.{split_size}
use Rattle.sdp.proofs.Stood.{among_media, among_other, Undirected, Only, only_at, among_empty, empty_undirected, media_alike}
use Rattle.sdp.proofs.Stood.{Directing, one, none, directing_more, OwnDirecting, Stood, stood_more, Still, line_in_lem, stood_still, begins}
use Rattle.sdp.proofs.Parted.{First, first, split_join, Ended, line_ends, bare_letter, line_among}

-- P holds of each of a list, at its number
abbrev Each : (ℕ → Section → Type 0) → ℕ → List Section → Type 0
Each P k [] = Unit {0}
Each P k (s ∷ l) = P k s × Each P (suc k) l

module _ (P : ℕ → Section → Type 0) where
  each_snoc : (k : ℕ) (l : List Section) (s : Section) (j : ℕ) → j ≡ k + length l → Each P k l → P j s → Each P k (l ++ (s ∷ []))
  each_snoc k [] s j e h p = let z : k ≡ j = omega (arith, e) in (rw z p, tt)
  each_snoc k (x ∷ l) s j e h p = (h.0, each_snoc (suc k) l s j (omega (arith, e)) h.1 p)

  each_map : (Q : ℕ → Section → Type 0) (k : ℕ) (l : List Section) → ((j : ℕ) (s : Section) → j < k + length l → P j s → Q j s)
      → Each P k l → Each Q k l
  each_map Q k [] f h = tt
  each_map Q k (s ∷ l) f h = (f k s (omega arith) h.0, each_map Q (suc k) l (λ j x i. f j x (omega (arith, i))) h.1)

module _ (t : List ℕ) where
  -- what the session section says, of which these lines were read: its direction line has the number d, or d is 0
  abbrev SessionDirecting : List (List ℕ) → ℕ → Session → Type 0
  SessionDirecting parts d x = Directing t parts session_section 0 0 d x.from x.to

  abbrev Said : List (List ℕ) → Session → Type 0
  Said parts x = (d : ℕ) × (x.direction ≡ or_sendrecv d) × SessionDirecting parts d x

  said_more : (parts : List (List ℕ)) (p : List ℕ) (x : Session) → (media_among parts ≡ session_section → Undirected (bare p))
      → Said parts x → Said (parts ++ (p ∷ [])) x
  said_more parts p x u (d, e, h) = (d, e, directing_more t parts p session_section 0 0 d x.from x.to u h)

  -- where reading stands
  abbrev Standing : List (List ℕ) → Reading → Type 0
  Standing parts (in_session here) = (media_among parts ≡ session_section) × OwnDirecting t parts session_section 0 0 here
  Standing parts (in_media session ended here) =
      (media_among parts ≡ media_section (length ended))
      × (Said parts session × (Each (Stood t session parts) 0 ended × Stood t session parts (length ended) here))

  -- one more line, which is no direction line
  all_more : (parts : List (List ℕ)) (p : List ℕ) (session : Session) (ended : List Section) (here : Section) → Undirected (bare p)
      → Standing parts (in_media session ended here) → Each (Stood t session (parts ++ (p ∷ []))) 0 (ended ++ (here ∷ []))
  all_more parts p session ended here u h =
      each_snoc (Stood t session (parts ++ (p ∷ []))) 0 ended here (length ended) (omega arith)
      (each_map (Stood t session parts) (Stood t session (parts ++ (p ∷ []))) 0 ended (λ j s i. stood_more t session parts p j s (λ e. u)) h.1.1.0)
      (stood_more t session parts p (length ended) here (λ e. u) h.1.1.1)

  module _ (p : List ℕ) (at : ℕ) (w : WholeLine t at (at + length (bare p)) (bare p)) where
    abbrev before : List (List ℕ)
    before = split lf w.before

    abbrev Stepped : Step → Type 0
    Stepped (go here) = Standing (before ++ (p ∷ [])) here
    Stepped (stop k) = Faulty k

    by_media : (n : ℕ) (m : MediaLine) (here : Reading) → letter (bare p) ≡ code "m" → media_of (value (bare p)) ≡ Ok m
        → Standing before here → Stepped (go (next_section here (begun (session_at here) m n at (at + length (bare p)))))
    by_media n m (in_session here) a e h =
        let k = among_media before p (sym (bare_letter p w.line) ∙ a) in (
          omega (arith, k, h.0),
          (
            said_more before p (session_of here) (λ z i. absurd (omega (arith, i, a))) (here.media.direction, refl, h.1),
            (tt, begins t p at w (session_of here) m n 0 a e h.0),
          ),
        )
    by_media n m (in_media session ended here) a e h =
        let k = among_media before p (sym (bare_letter p w.line) ∙ a) in
        let i = length-append ended (here ∷ []) in
        let u : Undirected (bare p) = λ z. absurd (omega (arith, z, a)) in (
          omega (arith, k, i, h.0),
          (
            said_more before p session (λ z. u) h.1.0,
            (all_more before p session ended here u h, begins t p at w session m n (length (ended ++ (here ∷ []))) a e (omega (arith, i, h.0))),
          ),
        )

    by_told : (here : Reading) → eqb (letter (bare p)) (code "m") ≡ false → Standing before here
        → Stepped (on_told (line_in (section_at here) (inside here) (letter (bare p)) (value (bare p)) at (at + length (bare p))) λ s. go (replaced here s))
    by_told here a = told_in here where
      k : media_among (before ++ (p ∷ [])) ≡ media_among before
      k = among_other before p (rw (bare_letter p w.line) at a)

      told_in : (here : Reading) → Standing before here
          → Stepped (on_told (line_in (section_at here) (inside here) (letter (bare p)) (value (bare p)) at (at + length (bare p))) λ s. go (replaced here s))
      told_in (in_session here) h =
          by (line_in here false (letter (bare p)) (value (bare p)) at (at + length (bare p))) (line_in_lem t p at w session_section 0 0 here h.0 h.1 false) where
            by : (x : Result Section Fault) → Still t p at w session_section 0 0 here h.0 h.1 x → Stepped (on_told x λ s. go (in_session s))
            by (Ok s) u = (k ∙ h.0, u.1)
            by (Err f) u = u
      told_in (in_media session ended here) h =
          by (line_in here true (letter (bare p)) (value (bare p)) at (at + length (bare p)))
          (line_in_lem t p at w (media_section (length ended)) session.from session.to here h.0 h.1.1.1.directing true) where
            by : (x : Result Section Fault) → Still t p at w (media_section (length ended)) session.from session.to here h.0 h.1.1.1.directing x
                → Stepped (on_told x λ s. go (in_media session ended s))
            by (Ok s) u = (
              k ∙ h.0,
              (
                said_more before p session (λ e. absurd (omega (arith, e, h.0))) h.1.0,
                (
                  each_map (Stood t session before) (Stood t session (before ++ (p ∷ []))) 0 ended
                      (λ j s i. stood_more t session before p j s (λ e. absurd (omega (arith, e, i, h.0)))) h.1.1.0,
                  stood_still t p at w session (length ended) here s u.0 u.1 h.1.1.1,
                ),
              ),
            )
            by (Err f) u = u

    steps : (n : ℕ) (here : Reading) → Standing before here → Stepped (step n at (bare p) here)
    unfolding step
    steps n here h = by (eqb (letter (bare p)) (code "m")) refl where
      by_says : letter (bare p) ≡ code "m" → (m : Result MediaLine Fault) → media_of (value (bare p)) ≡ m
          → Stepped (on_media m λ m. go (next_section here (begun (session_at here) m n at (at + length (bare p)))))
      by_says a (Ok m) e = by_media n m here a e h
      by_says a (Err k) e = rw e at (media_said (value (bare p)))

      by : (x : Bool) → eqb (letter (bare p)) (code "m") ≡ x
          → Stepped (cond x
          (cond (leb most_media (media_lines here)) (stop 5)
          (on_media (media_of (value (bare p))) λ m. go (next_section here (begun (session_at here) m n at (at + length (bare p))))))
          (on_told (line_in (section_at here) (inside here) (letter (bare p)) (value (bare p)) at (at + length (bare p))) λ s. go (replaced here s)))
      by true e = on_cond Stepped (leb most_media (media_lines here)) (omega arith) (by_says (eqb-true (letter (bare p)) (code "m") e) (media_of (value (bare p))) refl)
      by false e = by_told here e h

  -- the end of the text: all its lines were read
  record AllLined (x : Text) : Type 0 where
    lined : (j : ℕ) → j < x.count → Lined t j (get_or x.media j no_media) (get_or x.spots j no_spot)
    counted : x.refusal ≡ 0 → x.count ≡ media_among (split lf t)

  -- no other line of a section is a direction line
  others : (section from : ℕ) → Only section from 0 0 (split lf t)
      → (start end : ℕ) (l : List ℕ) (w : WholeLine t start end l) → letter l ≡ code "a" → media_among (split lf w.before) ≡ section
      → start ≢ from → direction_of (value l) ≡ None
  others section from h start end l w a n i =
      let m = line_among t start end l w in
      let z = split_size lf w.before in
      let u = only_at section from 0 0 (split lf w.before) m.part m.later (rw m.parts at h) (omega (arith, n)) (omega (arith, z))
      (λ y. i (omega (arith, y, z, w.starts))) in
      (rw m.is at u) a

  -- a section's direction line, or none
  data Found (section x y d from to : ℕ) : Type 0 where
    found : (l : List ℕ) → DirectionLineIn t section d from to l → d ≢ 0 → Found section x y d from to
    missing : NoDirectionLineIn t section → d ≡ 0 → from ≡ x → to ≡ y → Found section x y d from to

  line_found : (section x y d from to : ℕ) → Directing t (split lf t) section x y d from to → Found section x y d from to
  line_found section x y d from to (one o l w a n z e f) =
      found l (record { whole = w; is_a = a; within = n; direction = z; says = e; number = f; only = others section from o })
      (λ i. omega (arith, i, f, direction_range z))
  line_found section x y d from to (none o e f g) =
      missing (record { none = λ start end l w a n. others section 0 o start end l w a n (λ i. omega (arith, i, w.starts)) }) e f g

  module _ (session : Session) (j : ℕ) (s : Section) (h : Stood t session (split lf t) j s) where
    head_lined : (l : List ℕ) × MediaLineOf t j (closed session s) s.spot.start s.spot.end l
    unfolding closed
    head_lined = media_alike t j s.media (closed session s) s.spot.start s.spot.end (refl, (refl, refl)) h.head

    direction_lined : Said (split lf t) session → Directed t j (closed session s) s.spot.from s.spot.to
    unfolding closed
    direction_lined (d, q, k) =
        by (line_found (media_section j) session.from session.to s.media.direction s.spot.from s.spot.to h.directing)
        (line_found session_section 0 0 d session.from session.to k) where
          by : Found (media_section j) session.from session.to s.media.direction s.spot.from s.spot.to
              → Found session_section 0 0 d session.from session.to
              → Directed t j (closed session s) s.spot.from s.spot.to
          by (found l x e) y = let z = ne_eqb s.media.direction 0 e in rw z (by_line l (own_line x))
          by (missing x e f g) (found l y i) = let z = ne_eqb d 0 i in rw (f, g, e, q, z) (by_line l (session_line x y))
          by (missing x e f g) (missing y i o n) =
              by_none (record { own = x; session = y; means = rw (e, q, i) }) (f ∙ o) (g ∙ n)

  listed : (session : Session) (k : ℕ) (ms : List Section) (r : List Media) (u : List Spot) (i j : ℕ) → j ≡ k + i → i < length ms
      → Said (split lf t) session → Each (Stood t session (split lf t)) k ms
      → Lined t j (get_or (map (closed session) ms ++ r) i no_media) (get_or (map (λ (s : Section). s.spot) ms ++ u) i no_spot)
  listed session k [] r u i j e l x h = absurd (omega arith)
  listed session k (s ∷ ms) r u zero j e l x h =
      let z : j ≡ k = omega (arith, e) in
      rw z (record { media = head_lined session k s h.0; direction = direction_lined session k s h.0 x })
  listed session k (s ∷ ms) r u (suc i) j e l x h = listed session (suc k) ms r u i j (omega (arith, e)) (omega arith) x h.1

  none_lined : (k n : ℕ) → 1 ≤ k → AllLined (refusal k n)
  none_lined k n h = record { lined = λ j i. absurd (omega (arith, i)); counted = λ e. absurd (omega (arith, e)) }

  good_lined : (session : Session) (ms : List Section) → Said (split lf t) session → Each (Stood t session (split lf t)) 0 ms → length ms ≡ media_among (split lf t)
      → AllLined (good_unless9 session ms)
  good_lined session ms x h n =
      on_cond AllLined (eqb (lacking session ms) 0) (record { lined = λ j i. listed session 0 ms _ _ j j (omega arith) i x h; counted = λ e. n })
      (none_lined 9 (lacking session ms) (omega arith))

  ends_lined : (parts : List (List ℕ)) (p : List ℕ) (here : Reading) → split lf t ≡ parts ++ (p ∷ []) → is_empty p ≡ true
      → Standing parts here → AllLined (whole here)
  unfolding whole
  ends_lined parts p here e z = by here where
    n : media_among (split lf t) ≡ media_among parts
    n = rw e (among_empty parts p z)

    by : (here : Reading) → Standing parts here → AllLined (whole here)
    by (in_session here) h =
        good_lined (session_of here) [] (rw e (said_more parts p (session_of here) (λ i. empty_undirected p z) (here.media.direction, refl, h.1))) tt (sym (n ∙ h.0))
    by (in_media session ended here) h =
        good_lined session (ended ++ (here ∷ [])) (rw e (said_more parts p session (λ i. empty_undirected p z) h.1.0)) (rw e (all_more parts p session ended here (empty_undirected p z) h))
        (omega (arith, n, h.0, length-append ended (here ∷ [])))

  -- the lines from `at` on, cut at each LF
  record LinesFrom (at : ℕ) (ps : List (List ℕ)) : Type 0 where
    before : List ℕ
    rest : List ℕ
    text : t ≡ before ++ (lf ∷ rest)
    place : at ≡ length before + 1
    parts : split lf rest ≡ ps

  reads_from : (ps : List (List ℕ)) (n at : ℕ) (here : Reading) (r : LinesFrom at ps) → Standing (split lf r.before) here → AllLined (read_from n at ps here)
  unfolding read_from
  reads_from [] n at here r h = let z = split_front lf r.rest in let y = r.parts in clash (cc)
  reads_from (p ∷ []) n at here r h = by (is_empty p) refl where
    by : (x : Bool) → is_empty p ≡ x → AllLined (cond x (whole here) (refusal 2 n))
    by true e =
        ends_lined (split lf r.before) p here
        (ap (split lf) r.text ∙ split_join lf r.before r.rest ∙ ap (λ (ps : List (List ℕ)). split lf r.before ++ ps) r.parts)
        e h
    by false e = none_lined 2 n (omega arith)
  reads_from (p ∷ q ∷ ps) n at here r h = by (is_line (bare p)) refl (reads_from (q ∷ ps) (n + 1) (at + length p + 1)) where
    f : First lf r.rest p (q ∷ ps)
    f = first lf r.rest p q ps r.parts

    k : Ended p f.rest
    k = line_ends p f.rest

    the_line : is_line (bare p) ≡ true → WholeLine t at (at + length (bare p)) (bare p)
    the_line e =
        record {
          before = r.before;
          ending = k.ending;
          after = f.rest;
          text = r.text ∙ ap (λ (x : List ℕ). r.before ++ (lf ∷ x)) (f.is ∙ k.is);
          ended = k.ended;
          line = e;
          starts = r.place;
          ends = refl;
        }

    next : LinesFrom (at + length p + 1) (q ∷ ps)
    next =
        record {
          before = r.before ++ (lf ∷ p);
          rest = f.rest;
          text = r.text ∙ ap (λ (x : List ℕ). r.before ++ (lf ∷ x)) f.is ∙ sym (append_assoc r.before (lf ∷ p) (lf ∷ f.rest));
          place = omega (arith, r.place, length-append r.before (lf ∷ p));
          parts = f.parts;
        }

    seam : split lf (r.before ++ (lf ∷ p)) ≡ split lf r.before ++ (p ∷ [])
    seam = split_join lf r.before p ∙ ap (λ (ps : List (List ℕ)). split lf r.before ++ ps) f.alone

    Onward : Type 0
    Onward = (here : Reading) (r : LinesFrom (at + length p + 1) (q ∷ ps)) → Standing (split lf r.before) here
        → AllLined (read_from (n + 1) (at + length p + 1) (q ∷ ps) here)

    by_step : (e : is_line (bare p) ≡ true) (x : Step) → Stepped p at (the_line e) x → Onward
        → AllLined (on_step x (λ k. refusal k n) λ next. read_from (n + 1) (at + length p + 1) (q ∷ ps) next)
    by_step e (go u) i onward = onward u next (rw seam i)
    by_step e (stop k) i onward = none_lined k n (omega arith)

    by : (x : Bool) → is_line (bare p) ≡ x → Onward
        → AllLined (cond x (on_step (step n at (bare p) here) (λ k. refusal k n) λ next. read_from (n + 1) (at + length p + 1) (q ∷ ps) next) (refusal 2 n))
    by true e onward = by_step e (step n at (bare p) here) (steps p at (the_line e) n here h) onward
    by false e onward = none_lined 2 n (omega arith)

  first_letter : (p : List ℕ) → is_word (bytes "v=0") (bare p) ≡ true → media_among (p ∷ []) ≡ 0
  unfolding is_line is_letter is_text all media_among
  first_letter p h =
      let e = word_is (bytes "v=0") (bare p) h in
      let l : is_line (bare p) ≡ true = rw e in
      let v : letter p ≡ code "v" = sym (bare_letter p l) ∙ rw e in
      rw v

  reads_lines : (ps : List (List ℕ)) → split lf t ≡ ps → AllLined (read_lines ps)
  unfolding read_lines
  reads_lines [] e = none_lined 2 1 (omega arith)
  reads_lines (p ∷ []) e = none_lined 2 1 (omega arith)
  reads_lines (p ∷ q ∷ ps) e = by (is_word (bytes "v=0") (bare p)) refl where
    f : First lf t p (q ∷ ps)
    f = first lf t p q ps e

    by : (x : Bool) → is_word (bytes "v=0") (bare p) ≡ x → AllLined (cond x (read_from 2 (length p + 1) (q ∷ ps) (in_session no_section)) (refusal 2 1))
    by true k =
        reads_from (q ∷ ps) 2 (length p + 1) (in_session no_section) (record { before = p; rest = f.rest; text = f.is; place = refl; parts = f.parts })
        (rw f.alone (first_letter p k, none ((λ e o n. absurd (omega (arith, o))), tt) refl refl refl))
    by false k = none_lined 2 1 (omega arith)

text_lined : (t : List ℕ) → AllLined t (read_text t)
unfolding read_text
text_lined t = on_cond (AllLined t) (ltb 4096 (length t)) (none_lined t 1 0 (omega arith)) (reads_lines t (split lf t) refl)

-- Of every text: the `m=` line of each media section and its direction line, if any, are whole lines, and stand where its spot says.
pub spots_lined : (t : List ℕ) (j : ℕ) → j < (read_text t).count → Lined t j (get_or (read_text t).media j no_media) (get_or (read_text t).spots j no_spot)
spots_lined t = (text_lined t).lined

-- And a good text has as many media sections as `m=` lines.
pub media_counted : (t : List ℕ) → (read_text t).refusal ≡ 0 → (read_text t).count ≡ media_among (split lf t)
media_counted t = (text_lined t).counted
