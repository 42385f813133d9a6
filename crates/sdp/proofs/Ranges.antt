-- Ranges: what a text says, and its refusal and place, lie in the ranges that document 01 names. Assumes nothing.
use Rattle.std.specs.Prelude.{Result, Ok, Err}
use Rattle.sdp.specs.declared.fault.Fault.{Fault}
use Rattle.sdp.specs.declared.media_line.MediaLine.{MediaLine}
use Prim.Native.Nat.{ℕ, zero, suc, ◌+◌, ◌-◌, ◌≤◌, ◌<◌}
use Prim.Native.Char.{code}
use mathlib.Core.Path.{◌≡◌, refl}
use mathlib.Core.List.{List, [], ◌∷◌, ◌++◌, map}
use mathlib.Core.Bool.{Bool, true, false, cond}
use lib.ListN.{length, get_or, replicate, length-append, length-replicate, length-map}
use lib.Dec.{ltb, leb, eqb}
use native.Mathlib.Omega.{arith}
use native.Mathlib.Decide.{ℕ_discrete}
use borrow.Author.Tests.{eqb-true, eqb-false, ltb-false, leb-false}
use Rattle.cursor.specs.Bytes.{is_word, is_empty, onto, split, bytes}
use Rattle.cursor.proofs.Parts.{clash}
use Rattle.sdp.specs.Line.{lf, bare, is_line, letter, value, lines_among, lines_of}
use Rattle.sdp.specs.Media.{media_of}
use Rattle.sdp.specs.Section.{no_media, no_spot, no_section, begun, session_of, line_in, closed, lacks}
use Rattle.sdp.specs.Text.{most_media, eight, refusal, good, lacking, good_unless9, whole, Step, go, stop, on_media, on_told, step, on_step, read_from, read_lines, read_text}
use Rattle.sdp.specs.Text.{Reading, in_session, in_media, media_lines, section_at, session_at, inside, replaced, next_section}
use Rattle.sdp.specs.Range.{MediaRange, GoodText, Refused, Spotted}
use Rattle.sdp.specs.declared.Text.{Text}
use Rattle.sdp.specs.declared.section.Section.{Section}
use Rattle.sdp.specs.declared.section.Session.{Session}
use Rattle.sdp.proofs.Said.{Faulty, on_cond, MediaSaid, media_said}
use Rattle.sdp.proofs.Sections.{Fine, Tells, session_begins, media_begins, line_in_lem, Served, serves, served_at, described, has_address, Every, every_snoc, Standing, same_section, next_section_lem}

-- a list, and then nothing
module _ {A B : Type 0} (none : B) (f : A → B) where
  listed_at : (P : A → Type 0) (Q : B → Type 0) → ((a : A) → P a → Q (f a)) → (l : List A) (r : List B) → Every P l → (i : ℕ) → i < length l → Q (get_or (map f l ++ r) i none)
  listed_at P Q g [] r h i j = absurd (omega arith)
  listed_at P Q g (a ∷ l) r h zero j = g a h.0
  listed_at P Q g (a ∷ l) r h (suc i) j = listed_at P Q g l r h.1 i (omega arith)

  none_at_lem : (n i : ℕ) → get_or (replicate n none) i none ≡ none
  none_at_lem zero i = refl
  none_at_lem (suc n) zero = refl
  none_at_lem (suc n) (suc i) = none_at_lem n i

  past_at : (l : List A) (n i : ℕ) → length l ≤ i → get_or (map f l ++ replicate n none) i none ≡ none
  past_at [] n i h = none_at_lem n i
  past_at (a ∷ l) n zero h = absurd (omega arith)
  past_at (a ∷ l) n (suc i) h = past_at l n i (omega arith)

  eight_past : (l : List A) (i : ℕ) → length l ≤ i → get_or (eight none (map f l)) i none ≡ none
  eight_past l = past_at l (8 - length (map f l))

  eight_long : (l : List A) → length l ≤ 8 → length (eight none (map f l)) ≡ 8
  eight_long l h =
      omega (arith, length-append (map f l) (replicate (8 - length (map f l)) none), length-replicate (8 - length (map f l)) none, length-map l f)

-- the parts of a text, an LF after each: how many bytes
abbrev pub size : List (List ℕ) → ℕ
size [] = 0
size (p ∷ ps) = length p + 1 + size ps

pub split_size : (c : ℕ) (l : List ℕ) → size (split c l) ≡ length l + 1
unfolding split onto
split_size c [] = refl
split_size c (b ∷ l) = by (eqb b c) (split c l) (split_size c l) where
  by : (t : Bool) (ps : List (List ℕ)) → size ps ≡ length l + 1 → size (cond t ([] ∷ ps) (onto b ps)) ≡ suc (length l) + 1
  by true ps h = omega arith
  by false [] h = absurd (omega arith)
  by false (p ∷ ps) h = omega arith

-- the lines among the parts: no more than there are bytes and one
lines_size : (ps : List (List ℕ)) → lines_among ps ≤ size ps
unfolding lines_among
lines_size [] = omega arith
lines_size (p ∷ []) = on_cond (λ n. n ≤ length p + 1 + 0) (is_empty p) (omega arith) (omega arith)
lines_size (p ∷ q ∷ ps) = omega (arith, lines_size (q ∷ ps))

-- What has a byte has a line.
lines_some : (c b : ℕ) (l : List ℕ) → 1 ≤ lines_among (split c (b ∷ l))
unfolding split onto is_empty lines_among
lines_some c b l = by (eqb b c) (split c l) (split_size c l) where
  by : (t : Bool) (ps : List (List ℕ)) → size ps ≡ length l + 1 → 1 ≤ lines_among (cond t ([] ∷ ps) (onto b ps))
  by true [] h = absurd (omega arith)
  by true (p ∷ ps) h = omega arith
  by false [] h = absurd (omega arith)
  by false (p ∷ []) h = omega arith
  by false (p ∷ q ∷ ps) h = omega arith

lines_long : (t : List ℕ) → lines_of t ≤ length t + 1
unfolding lines_of
lines_long [] = omega arith
lines_long (b ∷ l) = omega (arith, lines_size (split lf (b ∷ l)), split_size lf (b ∷ l))

lines_of_lem : (t : List ℕ) → (1 ≤ lines_of t) × (lines_among (split lf t) ≤ lines_of t)
unfolding lines_of lines_among split is_empty
lines_of_lem [] = (omega arith, omega arith)
lines_of_lem (b ∷ l) = (lines_some lf b l, omega arith)

bare_length : (p : List ℕ) → length (bare p) ≤ length p
unfolding bare
bare_length [] = omega arith
bare_length (b ∷ []) = on_cond (λ x. length x ≤ 1) (eqb b 13) {a = []} {b = b ∷ []} (omega arith) (omega arith)
bare_length (b ∷ c ∷ l) = omega (arith, bare_length (c ∷ l))

line_some : (l : List ℕ) → is_line l ≡ true → 1 ≤ length l
unfolding is_line
line_some [] h = clash (cc)
line_some (b ∷ l) h = omega arith

module _ (len lines : ℕ) where
  -- what holds of a text
  record Reads (t : Text) : Type 0 where
    fine : t.refusal ≡ 0 → (t.place ≡ 0) × GoodText t
    refused : (t.refusal ≡ 0 → ⊥) → Refused lines t
    spots : (i : ℕ) → i < t.count → Spotted len (get_or t.spots i no_spot)

  refusal_reads : (k n : ℕ) → (1 ≤ k) × (k ≤ 9) → (k ≡ 1 → n ≡ 0) → ((k ≡ 1 → ⊥) → (1 ≤ n) × (n ≤ lines)) → Reads (refusal k n)
  refusal_reads k n h p q =
      record {
        fine = λ e. absurd (omega (arith, e));
        refused = λ e. record { number = h; place = p; line = q; count = refl; media = refl; spots = refl };
        spots = λ i j. absurd (omega (arith, j));
      }

  fault_reads : (k n : ℕ) → (2 ≤ k) × (k ≤ 9) → (1 ≤ n) × (n ≤ lines) → Reads (refusal k n)
  fault_reads k n h i = refusal_reads k n (omega arith) (λ e. absurd (omega (arith, e))) (λ e. i)

  -- the end of the text
  module _ (session : Session) (served : Served len lines session) where
    -- a section that does not lack its address
    Ended : Section → Type 0
    Ended s = Fine len lines true s × (lacks (closed session s) ≡ false)

    none_lacks : (ms : List Section) → Every (Fine len lines true) ms → lacking session ms ≡ 0 → Every Ended ms
    unfolding lacking Ended
    none_lacks [] h e = tt
    none_lacks (s ∷ ms) h e = by (lacks (closed session s)) refl e (none_lacks ms h.1) where
      by : (t : Bool) → lacks (closed session s) ≡ t → cond t s.line (lacking session ms) ≡ 0 → (lacking session ms ≡ 0 → Every Ended ms) → Every Ended (s ∷ ms)
      by true k e r = absurd (omega (arith, (h.0.begun refl).1, e))
      by false k e r = ((h.0, k), r e)

    lacking_line : (ms : List Section) → Every (Fine len lines true) ms → lacking session ms ≤ lines
    unfolding lacking
    lacking_line [] h = omega arith
    lacking_line (s ∷ ms) h = on_cond (λ n. n ≤ lines) (lacks (closed session s)) (h.0.begun refl).1.1 (lacking_line ms h.1)

    good_reads : (ms : List Section) → length ms ≤ 8 → Every Ended ms → Reads (good session ms)
    unfolding Ended
    good_reads ms few h =
        record {
          fine = λ e. (
            refl,
            record {
              few = few;
              described = listed_at no_media (closed session) Ended MediaRange (λ s p. described len lines session s served p.0) ms _ h;
              live = listed_at no_media (closed session) Ended (λ m. (m.port ≡ 0 → ⊥) → m.known ≡ 1)
                  (λ s p. has_address (closed session s) (described len lines session s served p.0).address.flag p.1) ms _ h;
              unused_media = eight_past no_media (closed session) ms;
              unused_spots = eight_past no_spot (λ (s : Section). s.spot) ms;
              eight_media = eight_long no_media (closed session) ms few;
              eight_spots = eight_long no_spot (λ (s : Section). s.spot) ms few;
            },
          );
          refused = λ e. absurd (e refl);
          spots = listed_at no_spot (λ (s : Section). s.spot) Ended (Spotted len)
              (λ s p. record { some = (p.0.begun refl).2.0; end = (p.0.begun refl).2.1; ordered = p.0.from.0; to = p.0.from.1 }) ms _ h;
        }

    whole_reads : (ms : List Section) → length ms ≤ 8 → Every (Fine len lines true) ms
        → Reads (good_unless9 session ms)
    whole_reads ms few h = by (eqb (lacking session ms) 0) refl where
      by : (t : Bool) → eqb (lacking session ms) 0 ≡ t → Reads (cond t (good session ms) (refusal 9 (lacking session ms)))
      by true e = good_reads ms few (none_lacks ms h (eqb-true _ _ e))
      by false e = fault_reads 9 (lacking session ms) (omega arith) (omega (arith, eqb-false (lacking session ms) 0 e, lacking_line ms h))

  ends : (here : Reading) → Standing len lines here → Reads (whole here)
  unfolding whole
  ends (in_session s) h = whole_reads (session_of s) (serves len lines false s h.section) [] (omega arith) tt
  ends (in_media session ended s) h =
      whole_reads session h.passed.0 (ended ++ (s ∷ [])) (omega (arith, h.few, length-append ended (s ∷ [])))
      (every_snoc (Fine len lines true) ended s h.passed.1 h.section)

  -- a line
  abbrev Stepped : Step → Type 0
  Stepped (go here) = Standing len lines here
  Stepped (stop k) = Faulty k

  steps : (n at : ℕ) (l : List ℕ) (here : Reading) → (1 ≤ n) × (n ≤ lines) → 1 ≤ length l → at + length l ≤ len
      → Standing len lines here → Stepped (step n at l here)
  unfolding step
  steps n at l here i some fits h =
      on_cond Stepped (eqb (letter l) (code "m")) (by_count (leb most_media (media_lines here)) refl)
      (by_told (line_in (section_at here) (inside here) (letter l) (value l) at (at + length l))
      (line_in_lem len lines (inside here) (section_at here) h.section (letter l) (value l) at (at + length l) (omega arith))) where
        by_media : media_lines here < most_media → (m : Result MediaLine Fault) → MediaSaid m → Stepped (on_media m λ m. go (next_section here (begun (session_at here) m n at (at + length l))))
        by_media few (Ok m) k = next_section_lem len lines here _ few h (media_begins len lines (session_at here) (served_at len lines here h) m n at (at + length l) k i (omega arith))
        by_media few (Err f) k = k

        by_count : (t : Bool) → leb most_media (media_lines here) ≡ t
            → Stepped (cond t (stop 5) (on_media (media_of (value l)) λ m. go (next_section here (begun (session_at here) m n at (at + length l)))))
        by_count true e = omega arith
        by_count false e = by_media (leb-false most_media (media_lines here) e) (media_of (value l)) (media_said (value l))

        by_told : (t : Result Section Fault) → Tells (Fine len lines (inside here)) t → Stepped (on_told t λ s. go (replaced here s))
        by_told (Ok s) k = same_section len lines here s h k
        by_told (Err f) k = k

  -- the lines
  reads_from : (ps : List (List ℕ)) (n at : ℕ) (here : Reading) → 1 ≤ n → n + lines_among ps ≤ lines + 1 → at + size ps ≤ len + 1
      → Standing len lines here → Reads (read_from n at ps here)
  unfolding read_from lines_among
  reads_from [] n at here one few fits h = ends here h
  reads_from (p ∷ []) n at here one few fits h = by (is_empty p) few where
    by : (t : Bool) → n + cond t 0 1 ≤ lines + 1 → Reads (cond t (whole here) (refusal 2 n))
    by true k = ends here h
    by false k = fault_reads 2 n (omega arith) (omega arith)
  reads_from (p ∷ q ∷ ps) n at here one few fits h =
      by (is_line (bare p)) refl (λ next. reads_from (q ∷ ps) (n + 1) (at + length p + 1) next (omega arith) (omega arith) (omega arith)) where
        Rest : Reading → Text
        Rest next = read_from (n + 1) (at + length p + 1) (q ∷ ps) next

        by_step : (t : Step) → Stepped t → ((next : Reading) → Standing len lines next → Reads (Rest next)) → Reads (on_step t (λ k. refusal k n) Rest)
        by_step (go next) i r = r next i
        by_step (stop k) i r = fault_reads k n (omega arith) (omega arith)

        by : (t : Bool) → is_line (bare p) ≡ t → ((next : Reading) → Standing len lines next → Reads (Rest next))
            → Reads (cond t (on_step (step n at (bare p) here) (λ k. refusal k n) Rest) (refusal 2 n))
        by true e r =
            by_step (step n at (bare p) here) (steps n at (bare p) here (omega arith) (line_some (bare p) e) (omega (arith, bare_length p)) h) r
        by false e r = fault_reads 2 n (omega arith) (omega arith)

  reads_lines : (ps : List (List ℕ)) → lines_among ps ≤ lines → 1 ≤ lines → size ps ≤ len + 1 → Reads (read_lines ps)
  unfolding read_lines lines_among
  reads_lines [] few some fits = fault_reads 2 1 (omega arith) (omega arith)
  reads_lines (p ∷ []) few some fits = fault_reads 2 1 (omega arith) (omega arith)
  reads_lines (p ∷ q ∷ ps) few some fits =
      on_cond Reads (is_word (bytes "v=0") (bare p))
      (reads_from (q ∷ ps) 2 (length p + 1) (in_session no_section) (omega arith) (omega arith) (omega arith)
      (record { few = omega arith; passed = tt; section = session_begins len lines }))
      (fault_reads 2 1 (omega arith) (omega arith))

reads_text : (t : List ℕ) → Reads (length t) (lines_of t) (read_text t)
unfolding read_text
reads_text t =
    let l = lines_of_lem t in
    on_cond (Reads (length t) (lines_of t)) (ltb 4096 (length t))
    (refusal_reads (length t) (lines_of t) 1 0 (omega arith) (λ e. refl) (λ e. absurd (e refl)))
    (reads_lines (length t) (lines_of t) (split lf t) l.1 l.0 (omega (arith, split_size lf t)))

pub good_text : (t : List ℕ) → (read_text t).refusal ≡ 0 → ((read_text t).place ≡ 0) × GoodText (read_text t)
good_text t = (reads_text t).fine

pub refused_text : (t : List ℕ) → ((read_text t).refusal ≡ 0 → ⊥) → Refused (lines_of t) (read_text t)
refused_text t = (reads_text t).refused

pub spots_within : (t : List ℕ) (i : ℕ) → i < (read_text t).count → Spotted (length t) (get_or (read_text t).spots i no_spot)
spots_within t = (reads_text t).spots

pub text_bounds : (t : List ℕ) → ((read_text t).refusal ≤ 9) × (((read_text t).place ≤ 4097) × ((read_text t).count ≤ 8))
unfolding read_text
text_bounds t = by (ltb 4096 (length t)) refl where
  Bounded : Text → Type 0
  Bounded x = (x.refusal ≤ 9) × ((x.place ≤ 4097) × (x.count ≤ 8))

  by_place : length t ≤ 4096 → Refused (lines_of t) (read_text t) → Dec ((read_text t).refusal ≡ 1) → (read_text t).place ≤ 4097
  by_place h k (yes e) = omega (arith, k.place e)
  by_place h k (no e) = omega (arith, k.line e, lines_long t)

  by_refusal : length t ≤ 4096 → Dec ((read_text t).refusal ≡ 0) → Bounded (read_text t)
  by_refusal h (yes e) = omega (arith, good_text t e)
  by_refusal h (no e) =
      let k = refused_text t e in
      omega (arith, k.number, k.count, by_place h k (ℕ_discrete (read_text t).refusal 1))

  by : (b : Bool) → ltb 4096 (length t) ≡ b → Bounded (read_text t)
  by true e = rw e (omega arith)
  by false e = by_refusal (ltb-false 4096 (length t) e) (ℕ_discrete (read_text t).refusal 0)
