-- The loop over the lines: what is read from here on, in the state so far, is what is read of the whole. Assumes nothing.
use Prim.Native.Nat.{ℕ, suc, ◌+◌, ◌-◌, ◌≤◌, ◌<◌}
use mathlib.Core.Path.{◌≡◌, refl, ap, sym, ◌∙◌}
use mathlib.Core.List.{List, [], ◌∷◌, ◌++◌, map, append_assoc, append-nil}
use mathlib.Core.Bool.{Bool, true, false, cond, false≢true}
use lib.ListN.{length, set, drop, replicate, length-append, length-map}
use lib.Seq.{set-append_seam}
use lib.Dec.{leb, eqb}
use native.Mathlib.Omega.{arith}
use native.Mathlib.Decide.{dec_le}
use borrow.Author.Tests.{eqb-false, leb-false, eq-eqb, ne_eqb, le-leb, lt-leb}
use Rattle.std.specs.Prelude.{Option, Some, None, Result, Ok, Err}
use Rattle.cursor.specs.Bytes.{split}
use Rattle.cursor.specs.Cursor.{on_some}
use Rattle.cursor.specs.Parts.{part}
use Rattle.cursor.proofs.Parts.{clash}
use Rattle.sdp.specs.Fault.{fault_number}
use Rattle.sdp.specs.Media.{media_of}
use Rattle.sdp.specs.Line.{bare, letter}
use Rattle.sdp.specs.Section.{no_media, no_spot, no_section, begun, closed, lacks, line_in}
use Rattle.sdp.specs.Text.{most_media, eight, refusal, good, lacking, whole, Step, go, stop, on_media, on_told, step, on_step, read_from}
use Rattle.sdp.specs.Text.{Reading, in_session, in_media, media_lines, section_at, session_at, inside, replaced, next_section}
use Rattle.sdp.specs.declared.Media.{Media}
use Rattle.sdp.specs.declared.Spot.{Spot}
use Rattle.sdp.specs.declared.Text.{Text}
use Rattle.sdp.specs.declared.fault.Fault.{Fault}
use Rattle.sdp.specs.declared.fault.Fault.TheVariants as fault
use Rattle.sdp.specs.declared.media_line.MediaLine.{MediaLine}
use Rattle.sdp.specs.declared.section.Section.{Section}
use Rattle.sdp.specs.declared.section.Session.{Session}
use Rattle.heads.specs.Steps.{media_at}
use Rattle.reader.specs.Steps.{line_at, outcome, read_on, start, ends_line, ends_here, lacks_here, lacking_here, stop_here, media_after, with_section, inside_here, matters}
use Rattle.reader.specs.declared.line.Line.{Line}
use Rattle.reader.specs.declared.section.Span.{Span}
use Rattle.reader.specs.declared.scan.Here.{Here}
use Rattle.reader.specs.declared.scan.Refused.{Refused}
use Rattle.reader.proofs.Found.{Found, stepped, at_end, bad_line}
use Rattle.reader.proofs.Saying.{keeps, says_nothing}

-- of a place: the media sections that have ended, and those with the one that the line stands in
abbrev ended_at : Reading → List Section
ended_at (in_session t) = []
ended_at (in_media a ended t) = ended

abbrev medias_at : Reading → List Section
medias_at (in_session t) = []
medias_at (in_media a ended t) = ended ++ (t ∷ [])

-- the text that has them
abbrev text_at : Reading → Text
text_at p = good (session_at p) (ended_at p)

abbrev text_with : Reading → Text
text_with p = good (session_at p) (medias_at p)

-- the number of a line, or another where there is none
abbrev or_else : Option ℕ → ℕ → ℕ
or_else x n = on_some x n λ k. k

-- the scan's state where the definition stands in the session section, and where in a media section
pub record InSession (h : Here) (t : Section) : Type 0 where
  counted : h.count ≡ 0
  lack : h.lacking ≡ None
  section : h.section ≡ t

pub record InMedia (h : Here) (a : Session) (ended : List Section) (t : Section) : Type 0 where
  counted : h.count ≡ length ended + 1
  lack : (l : List Section) → lacking a (ended ++ l) ≡ or_else h.lacking (lacking a l)
  least : (n : ℕ) → h.lacking ≡ Some n → n ≡ 0 → ⊥
  session : h.session ≡ a
  section : h.section ≡ t
  lined : t.line ≡ 0 → ⊥

abbrev pub Stands : Here → Reading → Type 0
Stands h (in_session t) = InSession h t
Stands h (in_media a ended t) = InMedia h a ended t

pub record Going (s : List ℕ) (from : ℕ) (out : Text) (h : Here) : Type 0 where
  pub place : Reading
  pub stands : Stands h place
  pub few : h.count ≤ most_media
  pub kept : out ≡ text_at place
  pub numbered : (1 ≤ h.line) × (h.line ≤ h.at + 2)
  pub same : read_from h.line h.at (split 10 (drop h.at s)) place ≡ read_on s from

pub begin : (s : List ℕ) (from : ℕ) (out : Text) (h : Here) → out ≡ refusal 0 0 → h ≡ start from → Going s from out h
begin s from out h p q =
    rw q
    (record {
      place = in_session no_section;
      stands = record { counted = refl; lack = refl; section = refl };
      few = omega arith;
      kept = p;
      numbered = (omega arith, omega arith);
      same = refl;
    })

-- the section that ends is stored
eight_set : {A : Type 0} (d x : A) (l : List A) → length l < 8 → set (eight d l) (length l) x ≡ eight d (l ++ (x ∷ []))
eight_set d x l h =
    let n : 8 - length l ≡ suc (8 - length (l ++ (x ∷ []))) = omega (arith, length-append l (x ∷ [])) in
    rw n (set-append_seam l d (replicate (8 - length (l ++ (x ∷ []))) d) x ∙ sym (append_assoc l (x ∷ []) (replicate (8 - length (l ++ (x ∷ []))) d)))

map_snoc : {A B : Type 0} (f : A → B) (l : List A) (x : A) → map f (l ++ (x ∷ [])) ≡ map f l ++ (f x ∷ [])
map_snoc f [] x = refl
map_snoc f (y ∷ l) x = ap (λ (z : List _). f y ∷ z) (map_snoc f l x)

eight_next : {A B : Type 0} (d : B) (f : A → B) (l : List A) (x : A) → length l < 8
    → set (eight d (map f l)) (length l) (f x) ≡ eight d (map f (l ++ (x ∷ [])))
eight_next d f l x few =
    rw (← length-map l f) (eight_set d (f x) (map f l) (rw (length-map l f) few)) ∙ ap (eight d) (sym (map_snoc f l x))

-- the text so far, once the end of a section has been seen to
pub record Stored (p : Reading) (out out' : Text) (l : Option Line) : Type 0 where
  pub ends : ends_line l ≡ true → out' ≡ text_with p
  pub goes : ends_line l ≡ false → out' ≡ out

-- what the scan's state says, in the definition's terms
module _ (h : Here) where
  some_media : (n : ℕ) → h.count ≡ n + 1 → eqb h.count 0 ≡ false
  some_media n e = ne_eqb h.count 0 (λ z. omega (arith, e, z))

  count_is : (p : Reading) → Stands h p → h.count ≡ media_lines p
  count_is (in_session t) k = k.counted
  count_is (in_media a ended t) k = k.counted

  section_is : (p : Reading) → Stands h p → h.section ≡ section_at p
  section_is (in_session t) k = k.section
  section_is (in_media a ended t) k = k.section

  inside_is : (p : Reading) → Stands h p → inside_here h ≡ inside p
  inside_is (in_session t) k = rw (eq-eqb h.count 0 k.counted)
  inside_is (in_media a ended t) k = rw (some_media (length ended) k.counted)

  -- what the section that ends here lacks
  session_lacks : (t : Section) → InSession h t → lacking_here h ≡ None
  session_lacks t k = rw (k.lack, eq-eqb h.count 0 k.counted)

  module _ (a : Session) (ended : List Section) (t : Section) (k : InMedia h a ended t) where
    lacks_is : (n : ℕ) → cond (lacks (closed a t)) t.line n ≡ or_else (lacks_here h) n
    lacks_is n = rw (some_media (length ended) k.counted, k.session, k.section) (by (lacks (closed a t))) where
      by : (b : Bool) → cond b t.line n ≡ or_else (cond b (Some t.line) None) n
      by true = refl
      by false = refl

    lacking_is : (l : List Section) → lacking a ((ended ++ (t ∷ [])) ++ l) ≡ or_else (lacking_here h) (lacking a l)
    unfolding lacking
    lacking_is l = rw (append_assoc ended (t ∷ []) l, k.lack (t ∷ l), lacks_is (lacking a l)) (by h.lacking) where
      by : (x : Option ℕ) → or_else x (or_else (lacks_here h) (lacking a l)) ≡ or_else (on_some x (lacks_here h) Some) (lacking a l)
      by (Some n) = refl
      by None = refl

    lacking_least : (n : ℕ) → lacking_here h ≡ Some n → n ≡ 0 → ⊥
    lacking_least n e = by h.lacking refl e where
      own : (b : Bool) → cond b (Some t.line) None ≡ Some n → n ≡ 0 → ⊥
      own true q = let z : t.line ≡ n = cc in λ y. k.lined (z ∙ y)
      own false q = clash (cc)

      by : (x : Option ℕ) → h.lacking ≡ x → on_some x (lacks_here h) Some ≡ Some n → n ≡ 0 → ⊥
      by (Some m) f q = let z : h.lacking ≡ Some n = f ∙ q in k.least n z
      by None f q = own (lacks (closed a t)) (rw (some_media (length ended) k.counted, k.session, k.section) at q)

  -- the end: no good line is left
  whole_is : (p : Reading) → Stands h p → whole p ≡ on_some (lacking_here h) (text_with p) (λ n. refusal 9 n)
  unfolding whole lacking
  whole_is (in_session t) k = rw (session_lacks t k)
  whole_is (in_media a ended t) k = by (lacking_here h) refl (lacking_all ∙ lacking_is a ended t k []) where
    lacking_all : lacking a (ended ++ (t ∷ [])) ≡ lacking a ((ended ++ (t ∷ [])) ++ [])
    lacking_all = rw append-nil

    by : (x : Option ℕ) → lacking_here h ≡ x → lacking a (ended ++ (t ∷ [])) ≡ or_else x 0
        → cond (eqb (lacking a (ended ++ (t ∷ []))) 0) (text_with (in_media a ended t)) (refusal 9 (lacking a (ended ++ (t ∷ []))))
        ≡ on_some x (text_with (in_media a ended t)) (λ n. refusal 9 n)
    by (Some n) e q = rw (q, ne_eqb n 0 (lacking_least a ended t k n e))
    by None e q = rw q

-- the next line
abbrev pub next_line : ℕ → Here → Line → Here
next_line n h l = record { at = l.next; line = n + 1; lacking = h.lacking; count = h.count; session = h.session; section = h.section }

-- an `m=` line
after_media : (h : Here) (x : MediaLine) (at : Span) → 1 ≤ h.line → (p : Reading) → Stands h p
    → Stands (media_after h x at) (next_section p (begun (session_at p) x h.line at.from at.to))
unfolding lacking
after_media h x at one (in_session t) k =
    record {
      counted = omega (arith, k.counted);
      lack = λ l. rw (session_lacks h t k);
      least = λ n e. let z : None ≡ Some n = sym (session_lacks h t k) ∙ e in clash (cc);
      session = rw (eq-eqb h.count 0 k.counted, k.section);
      section = rw (eq-eqb h.count 0 k.counted, k.section);
      lined = λ z. omega (arith, z, one);
    }
after_media h x at one (in_media a ended t) k =
    record {
      counted = omega (arith, k.counted, length-append ended (t ∷ []));
      lack = lacking_is h a ended t k;
      least = lacking_least h a ended t k;
      session = rw (some_media h (length ended) k.counted) k.session;
      section = rw (some_media h (length ended) k.counted, k.session);
      lined = λ z. omega (arith, z, one);
    }

-- a line that keeps to its section
after_line : (h : Here) (x : Section) (p : Reading) → Stands h p → x.line ≡ h.section.line → Stands (with_section h x) (replaced p x)
after_line h x (in_session t) k e = record { counted = k.counted; lack = k.lack; section = refl }
after_line h x (in_media a ended t) k e =
    record {
      counted = k.counted;
      lack = k.lack;
      least = k.least;
      session = k.session;
      section = refl;
      lined = λ z. k.lined (sym (ap (λ (s : Section). s.line) k.section) ∙ sym e ∙ z);
    }

-- where it stands is not asked
at_next : (n : ℕ) (h : Here) (l : Line) (p : Reading) → Stands h p → Stands (next_line n h l) p
at_next n h l (in_session t) k = record { counted = k.counted; lack = k.lack; section = k.section }
at_next n h l (in_media a ended t) k =
    record { counted = k.counted; lack = k.lack; least = k.least; session = k.session; section = k.section; lined = k.lined }

-- the text where a section has ended, and where its lines go on
ended_text : (p : Reading) (t : Section) → text_at (next_section p t) ≡ text_with p
ended_text (in_session s) t = refl
ended_text (in_media a ended s) t = refl

same_text : (p : Reading) (t : Section) → text_at (replaced p t) ≡ text_at p
same_text (in_session s) t = refl
same_text (in_media a ended s) t = refl

-- the scan's state and the definition's
module _ (s : List ℕ) (from : ℕ) (out : Text) (h : Here) (g : Going s from out h) where
  pub ends_some : (l : Option Line) (t : Bool) → t ≡ ends_here h l → t ≡ true → 1 ≤ h.count
  ends_some l t ht e = by h.count (eqb h.count 0) refl (sym ht ∙ e) where
    by : (n : ℕ) (b : Bool) → eqb n 0 ≡ b → cond b false (ends_line l) ≡ true → 1 ≤ n
    by n true q k = absurd (false≢true k)
    by n false q k = let z = eqb-false n 0 q in omega (arith, z)

  -- the text with the section that ends here
  pub stored : (i c : ℕ) (m : Media) (p : Spot) → 1 ≤ h.count → i ≡ h.count - 1 → c ≡ h.count → m ≡ closed h.session h.section → p ≡ h.section.spot
      → record { refusal = out.refusal; place = out.place; count = c; media = set out.media i m; spots = set out.spots i p } ≡ text_with g.place
  stored i c m p z hi hc hm hp = by g.place g.stands g.kept where
    by : (here : Reading) → Stands h here → out ≡ text_at here
        → record { refusal = out.refusal; place = out.place; count = c; media = set out.media i m; spots = set out.spots i p } ≡ text_with here
    by (in_session t) k q = absurd (omega (arith, z, k.counted))
    by (in_media a ms t) k q =
        let few : length ms < 8 = omega (arith, g.few, k.counted) in
        let n : i ≡ length ms = omega (arith, hi, k.counted) in
        let c' : c ≡ length (ms ++ (t ∷ [])) = omega (arith, hc, k.counted, length-append ms (t ∷ [])) in
        rw (q, n, hm, k.session, hp, k.section, c', eight_next no_media (closed a) ms t few, eight_next no_spot (λ (x : Section). x.spot) ms t few)

  module _ (l : Option Line) (t : Bool) (ht : t ≡ ends_here h l) (out' : Text) where
    pub store_yes : t ≡ true → out' ≡ text_with g.place → Stored g.place out out' l
    store_yes e k =
        record { ends = (λ q. k); goes = (λ q. absurd (false≢true (by (eqb h.count 0) (ends_line l) q (sym ht ∙ e)))) } where
          by : (c b : Bool) → b ≡ false → cond c false b ≡ true → false ≡ true
          by true b q z = z
          by false b q z = sym q ∙ z

    pub store_no : t ≡ false → out' ≡ out → Stored g.place out out' l
    store_no e k = record { ends = by g.place g.stands g.kept; goes = (λ q. k) } where
      by : (p : Reading) → Stands h p → out ≡ text_at p → ends_line l ≡ true → out' ≡ text_with p
      by (in_session x) w q z = k ∙ q
      by (in_media a ended x) w q z = absurd (false≢true (sym e ∙ ht ∙ rw (some_media h (length ended) w.counted) z))

  module _ (l : Option Line) (hl : l ≡ line_at s h.at) (out' : Text) (st : Stored g.place out out' l) where
    -- no good line: the end of the text, or a refusal
    pub no_more : l ≡ None → (p : Result (Unit {0}) Refused) → p ≡ stop_here h (length s) → outcome out' p ≡ read_on s from
    no_more b p hp = ap (outcome out') hp ∙ by (dec_le (length s) h.at) ∙ g.same where
      last : (x : Option ℕ) → outcome out' (on_some x (Ok tt) λ n. Err (record { number = 9; place = n })) ≡ on_some x (text_with g.place) (λ n. refusal 9 n)
      last (Some n) = refl
      last None = st.ends (ap ends_line b)

      by : Dec (length s ≤ h.at) → outcome out' (stop_here h (length s)) ≡ read_from h.line h.at (split 10 (drop h.at s)) g.place
      by (yes k) = rw (le-leb (length s) h.at k) (last (lacking_here h) ∙ sym (at_end s h.at h.line g.place k ∙ whole_is h g.place g.stands))
      by (no k) =
          let j : h.at < length s = omega (arith, k) in
          rw (lt-leb (length s) h.at j) (sym (bad_line s h.at h.line g.place l hl b j))

    module _ (line : Line) (f : Found s h.at line) (hg : l ≡ Some line) (at : Span) (ha : at.from ≡ h.at) (hb : at.to ≡ line.end) where
      abbrev here_step : Step
      here_step = step h.line h.at (bare f.p) g.place

      -- the definition's step here, and what it reads on
      whole_by : (x : Step) → x ≡ here_step → on_step x (λ k. refusal k h.line) (λ p. read_from (h.line + 1) line.next (split 10 (drop line.next s)) p) ≡ read_on s from
      whole_by x q =
          ap (λ (x : Step). on_step x (λ k. refusal k h.line) (λ p. read_from (h.line + 1) line.next (split 10 (drop line.next s)) p)) q
          ∙ sym (stepped s h.at h.line line g.place f)
          ∙ g.same

      -- the line's value
      abbrev v : List ℕ
      v = part s (h.at + 2) line.end

      -- the place after an `m=` line
      abbrev begins : MediaLine → Reading
      begins x = next_section g.place (begun (session_at g.place) x h.line at.from at.to)

      media_step : line.letter ≡ 109 → here_step ≡ on_media (media_at h.count v) (λ (x : MediaLine). go (begins x))
      unfolding step
      media_step e =
          let b : letter (bare f.p) ≡ 109 = sym f.letters ∙ e in
          rw (eq-eqb (letter (bare f.p)) 109 b, count_is h g.place g.stands, ← f.values, ← f.ends, ha, hb) (by (leb 8 (media_lines g.place))) where
            by : (t : Bool) → cond t (stop 5) (on_media (media_of v) (λ (x : MediaLine). go (next_section g.place (begun (session_at g.place) x h.line h.at line.end))))
                ≡ on_media (cond t (Err fault.Ninth) (media_of v)) (λ (x : MediaLine). go (next_section g.place (begun (session_at g.place) x h.line h.at line.end)))
            by true = refl
            by false = refl

      line_step : (line.letter ≡ 109 → ⊥)
          → here_step ≡ on_told (line_in h.section (inside_here h) line.letter v at.from at.to) (λ (x : Section). go (replaced g.place x))
      unfolding step
      line_step e =
          let b : letter (bare f.p) ≡ 109 → ⊥ = (λ z. e (f.letters ∙ z)) in
          rw (ne_eqb (letter (bare f.p)) 109 b, inside_is h g.place g.stands, section_is h g.place g.stands, ← f.values, ← f.ends, ← f.letters, ha, hb)

      pub room : (x : MediaLine) → media_at h.count v ≡ Ok x → h.count < 8
      room x e = by (leb 8 h.count) refl e where
        by : (t : Bool) → leb 8 h.count ≡ t → cond t (Err fault.Ninth) (media_of v) ≡ Ok x → h.count < 8
        by true k q = clash (cc)
        by false k q = omega (arith, leb-false 8 h.count k)

      -- an `m=` line: reading goes on, or stops at it
      module _ (e : line.letter ≡ 109) (m : Result MediaLine Fault) (hm : m ≡ media_at h.count v) where
        pub media_on : (x : MediaLine) → m ≡ Ok x → Going s from out' (next_line h.line (media_after h x at) line)
        media_on x q =
            record {
              place = begins x;
              stands = at_next h.line (media_after h x at) line (begins x) (after_media h x at g.numbered.0 g.place g.stands);
              few = omega (arith, room x (sym hm ∙ q));
              kept = st.ends (ap ends_line hg ∙ eq-eqb line.letter 109 e) ∙ sym (ended_text g.place _);
              numbered = (omega arith, omega (arith, g.numbered.1, f.long, f.later));
              same = whole_by (go (begins x)) (sym (media_step e ∙ rw (← hm, q)));
            }

        pub media_out : (k : Fault) → m ≡ Err k → refusal (fault_number k) h.line ≡ read_on s from
        media_out k q = whole_by (stop (fault_number k)) (sym (media_step e ∙ rw (← hm, q)))

      -- a line other than `m=`
      module _ (e : line.letter ≡ 109 → ⊥) (r : Result Section Fault) (hr : r ≡ line_in h.section (inside_here h) line.letter v at.from at.to) where
        pub line_on : (x : Section) → r ≡ Ok x → Going s from out' (next_line h.line (with_section h x) line)
        line_on x q =
            let w = keeps h.section (inside_here h) line.letter v at.from at.to in
            let y : x.line ≡ h.section.line = rw (← hr, q) at w in
            record {
              place = replaced g.place x;
              stands = at_next h.line (with_section h x) line (replaced g.place x) (after_line h x g.place g.stands y);
              few = g.few;
              kept = st.goes (ap ends_line hg ∙ ne_eqb line.letter 109 e) ∙ g.kept ∙ sym (same_text g.place x);
              numbered = (omega arith, omega (arith, g.numbered.1, f.long, f.later));
              same = whole_by (go (replaced g.place x)) (sym (line_step e ∙ rw (← hr, q)));
            }

        pub line_out : (k : Fault) → r ≡ Err k → refusal (fault_number k) h.line ≡ read_on s from
        line_out k q = whole_by (stop (fault_number k)) (sym (line_step e ∙ rw (← hr, q)))

      -- one that cannot say anything
      pub nothing_on : (line.letter ≡ 109 → ⊥) → (b : Bool) → b ≡ matters line.letter v → b ≡ false → Going s from out' (next_line h.line h line)
      nothing_on e b hb q = line_on e (Ok h.section) (sym (says_nothing h.section v (inside_here h) line.letter at.from at.to (sym hb ∙ q))) h.section refl
