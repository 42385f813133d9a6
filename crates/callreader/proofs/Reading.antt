-- What a call file gives to the crate that plays its calls: sizes, places and counts. Assumes nothing.
use Rattle.std.specs.Prelude.{Option, Some, None}
use Prim.Native.Nat.{ℕ, zero, suc, ◌+◌, ◌*◌, ◌≤◌, ◌<◌}
use mathlib.Core.Path.{◌≡◌, refl, ap}
use mathlib.Core.List.{List, [], ◌∷◌}
use mathlib.Core.Bool.{Bool, true, false, cond, false≢true}
use lib.ListN.{length, get_or, set, replicate}
use lib.Dec.{ltb, leb, eqb}
use native.Mathlib.Omega.{arith}
use borrow.Author.Tests.{ltb-false, leb-false, eqb-false}
use Rattle.cursor.specs.Cursor.{mark_at, on_some}
use Rattle.cursor.specs.declared.Cursor.{Cursor}
use Rattle.cursor.proofs.Parts.{clash, found, mark_to}
use Rattle.frame.specs.Frame.{number_at, number_line, text_at, numbers_at}
use Rattle.frame.specs.declared.Span.{Span}
use Rattle.frame.proofs.Lines.{lined, text_within}
use Rattle.frame.proofs.Rows.{numbers_small}
use Rattle.sdp.proofs.Said.{on_cond}
use Rattle.flow.specs.declared.Settings.{Settings}
use Rattle.flow.specs.Range.{LimitRange, SettingsRange}
use Rattle.callfile.specs.declared.CallFile.{CallFile}
use Rattle.callfile.specs.declared.ask.Ask.{Ask}
use Rattle.callfile.specs.declared.ask.Ask.TheVariants as ask
use Rattle.callfile.specs.declared.spans.Texts.{Texts}
use Rattle.callfile.specs.Ask.{lf, space, no_span, letter_o, letter_a, letter_c, letter_x, figure_count, ask_with, lacks_text, behind, ask_at, asks_from, calls_good}
use Rattle.callfile.specs.Sections.{AllSmall, no_texts, pushed, settings_of, settings_at, texts_from, texts_at, file_of, calls_in, read_file}
use Rattle.callreader.proofs.Long.{numbers_long}

-- what stands behind a letter
record Row (l : ℕ) (s : List ℕ) (at : ℕ) (a : Ask) (e : Cursor) : Type 0 where
  figures : List ℕ
  row : numbers_at s at (figure_count l) space ≡ Some (figures, e)
  is : a ≡ ask_with l figures
  named : figure_count l ≡ 0 → ⊥

row_told : (l : ℕ) (s : List ℕ) (at : ℕ) (a : Ask) (e : Cursor) → behind l s at ≡ Some (a, e) → Row l s at a e
unfolding behind
row_told l s at a e = by (eqb (figure_count l) 0) refl (numbers_at s at (figure_count l) space) refl where
  by : (t : Bool) → eqb (figure_count l) 0 ≡ t → (m : Option (List ℕ × Cursor)) → numbers_at s at (figure_count l) space ≡ m
      → cond t None (on_some {A = Option (Ask × Cursor)} m None (λ (figures, p). Some (ask_with l figures, p))) ≡ Some (a, e) → Row l s at a e
  by true t m r z = clash (cc)
  by false t None r z = clash (cc)
  by false t (Some (figures, p)) r z =
      let k = found z in
      let x : e ≡ p = ap (λ (u : Ask × Cursor). u.1) k in
      record { figures = figures; row = rw x r; is = ap (λ (u : Ask × Cursor). u.0) k; named = eqb-false (figure_count l) 0 t }

-- what stands at the place of a call
record Line (s : List ℕ) (at texts : ℕ) (a : Ask) (c : Cursor) : Type 0 where
  end : Cursor
  row : Row (get_or s at 0) s (at + 1) a end
  next : c.at ≡ end.at + 1
  within : c.at ≤ length s
  has : lacks_text a texts ≡ false

line_told : (s : List ℕ) (at texts : ℕ) (a : Ask) (c : Cursor) → ask_at s at texts ≡ Some (a, c) → Line s at texts a c
unfolding ask_at
line_told s at texts a c = by (leb (length s) at) (behind L s (at + 1)) refl where
  L : ℕ
  L = get_or s at 0

  then : (b : Ask) (e : Cursor) → behind L s (at + 1) ≡ Some (b, e) → (m : Option Cursor) → m ≡ mark_at s e.at lf → (t : Bool) → lacks_text b texts ≡ t
      → on_some {A = Option (Ask × Cursor)} m None (λ q. cond t None (Some (b, q))) ≡ Some (a, c) → Line s at texts a c
  then b e r None h t l z = clash (cc)
  then b e r (Some q) h true l z = clash (cc)
  then b e r (Some q) h false l z =
      let k = found z in
      let x : a ≡ b = ap (λ (u : Ask × Cursor). u.0) k in
      let y : c.at ≡ q.at = ap (λ (u : Ask × Cursor). u.1.at) k in
      let m = mark_to s e.at lf (Some q) q h refl in
      record {
        end = e;
        row = rw x (row_told L s (at + 1) b e r);
        next = omega (arith, y, m.1.1);
        within = omega (arith, y, m.0, m.1.1);
        has = rw x l;
      }

  by : (t : Bool) (m : Option (Ask × Cursor)) → behind L s (at + 1) ≡ m
      → cond t None (on_some m None (λ (b, e). on_some (mark_at s e.at lf) None (λ q. cond {A = Option (Ask × Cursor)} (lacks_text b texts) None (Some (b, q))))) ≡ Some (a, c)
      → Line s at texts a c
  by true m r z = clash (cc)
  by false None r z = clash (cc)
  by false (Some (b, e)) r z = then b e r (mark_at s e.at lf) refl (lacks_text b texts) refl z

-- each figure of a call fits 32 bits
abbrev pub small : ℕ → Type 0
small n = n ≤ 4294967295

abbrev pub AskSmall : Ask → Type 0
AskSmall (ask.Offer session origin text) = small session × small origin × small text
AskSmall (ask.Answer session text) = small session × small text
AskSmall (ask.Cancel session) = small session
AskSmall (ask.Close session) = small session
AskSmall (ask.Bearer session asked) = small session × small asked.set × small asked.class × small asked.up × small asked.down

with_small : (l : ℕ) (figures : List ℕ) → AllSmall figures → AskSmall (ask_with l figures)
unfolding ask_with
with_small l figures h =
    on_cond AskSmall (eqb l letter_o) (h 0, h 1, h 2)
    (on_cond AskSmall (eqb l letter_a) (h 0, h 1)
    (on_cond AskSmall (eqb l letter_c) (h 0) (on_cond AskSmall (eqb l letter_x) (h 0) (h 0, h 1, h 2, h 3, h 4))))

-- a letter, a number or more, LF
long : (at count after q : ℕ) → (count ≡ 0 → ⊥) → at + 1 + 2 * count ≤ after → q ≡ after + 1 → at + 4 ≤ q
long at zero after q named h e = absurd (named refl)
long at (suc count) after q named h e = omega (arith, h, e)

module _ (s : List ℕ) (at texts : ℕ) where
  -- the place after a call is within the file
  pub ask_after : (a : Ask) (c : Cursor) → ask_at s at texts ≡ Some (a, c) → c.at ≤ length s
  ask_after a c e = (line_told s at texts a c e).within

  -- a call has four bytes of the file or more
  pub ask_long : (a : Ask) (c : Cursor) → ask_at s at texts ≡ Some (a, c) → at + 4 ≤ c.at
  ask_long a c e =
      let l = line_told s at texts a c e in
      long at (figure_count (get_or s at 0)) l.end.at c.at l.row.named (numbers_long s (at + 1) _ space l.row.figures l.end l.row.row) l.next

  pub ask_small : (a : Ask) (c : Cursor) → ask_at s at texts ≡ Some (a, c) → AskSmall a
  ask_small a c e =
      let l = line_told s at texts a c e in
      rw l.row.is (with_small (get_or s at 0) l.row.figures (numbers_small s (at + 1) _ space l.row.figures l.end l.row.row))

  -- the text that an offer names is in the file
  pub ask_offer : (session origin text : ℕ) (c : Cursor) → ask_at s at texts ≡ Some (ask.Offer session origin text, c) → text < texts
  unfolding lacks_text
  ask_offer session origin text c e = leb-false texts text (line_told s at texts (ask.Offer session origin text) c e).has

  -- the text that an answer names is in the file
  pub ask_answer : (session text : ℕ) (c : Cursor) → ask_at s at texts ≡ Some (ask.Answer session text, c) → text < texts
  unfolding lacks_text
  ask_answer session text c e = leb-false texts text (line_told s at texts (ask.Answer session text) c e).has

-- each of the six settings fits 32 bits: the defaults in the ranges of `flow`, and the pool
pub record SixRange (set : Settings) : Type 0 where
  pub defaults : SettingsRange set
  pub pool : LimitRange set.pool

of_small : (figures : List ℕ) → AllSmall figures → SixRange (settings_of figures)
unfolding settings_of
of_small figures h =
    record { defaults = record { media = record { up = h 0; down = h 1 }; rtcp = record { up = h 2; down = h 3 } }; pool = record { up = h 4; down = h 5 } }

settings_small : (s : List ℕ) (settings : Settings) (c : Cursor) → settings_at s ≡ Some (settings, c) → SixRange settings
unfolding settings_at
settings_small s settings c = by (number_at s 0) where
  six : (p : ℕ) (t : Bool) (n : Option (List ℕ × Cursor)) → numbers_at s p 6 lf ≡ n
      → cond t (on_some n None (λ (figures, q). on_some {A = Option (Settings × Cursor)} (mark_at s q.at lf) None (λ r. Some (settings_of figures, r)))) None ≡ Some (settings, c)
      → SixRange settings
  six p true (Some (figures, q)) e = marked (mark_at s q.at lf) where
    marked : (m : Option Cursor) → on_some {A = Option (Settings × Cursor)} m None (λ r. Some (settings_of figures, r)) ≡ Some (settings, c) → SixRange settings
    marked (Some r) z = rw (ap (λ (u : Settings × Cursor). u.0) (found z)) (of_small figures (numbers_small s p 6 lf figures q e))
    marked None z = clash (cc)
  six p true None e = λ z. clash (cc)
  six p false n e = λ z. clash (cc)

  by : (f : Option (ℕ × Cursor)) → on_some f None (λ (count, p). cond (eqb count 6) (on_some (numbers_at s p.at 6 lf) None (λ (figures, q).
      on_some {A = Option (Settings × Cursor)} (mark_at s q.at lf) None (λ r. Some (settings_of figures, r)))) None) ≡ Some (settings, c) → SixRange settings
  by (Some (n, p)) = six p.at (eqb n 6) (numbers_at s p.at 6 lf) refl
  by None = λ z. clash (cc)

-- a part of the file
abbrev pub In : List ℕ → Span → Type 0
In s p = (p.from ≤ p.end) × (p.end ≤ length s)

abbrev AllIn : List ℕ → List Span → Type 0
AllIn s spans = (j : ℕ) → In s (get_or spans j no_span)

none_in : (s : List ℕ) (k j : ℕ) → In s (get_or (replicate k no_span) j no_span)
none_in s zero j = (omega arith, omega arith)
none_in s (suc k) zero = (omega arith, omega arith)
none_in s (suc k) (suc j) = none_in s k j

-- what holds of each element holds after one is stored
set_each : {A : Type 0} (P : A → Type 0) (l : List A) (i j : ℕ) (a d : A) → P a → P (get_or l j d) → P (get_or (set l i a) j d)
set_each P [] i j a d p q = q
set_each P (x ∷ l) zero zero a d p q = p
set_each P (x ∷ l) zero (suc j) a d p q = q
set_each P (x ∷ l) (suc i) zero a d p q = q
set_each P (x ∷ l) (suc i) (suc j) a d p q = set_each P l i j a d p q

-- so many texts, each a part of the file
pub record Texted (s : List ℕ) (count : ℕ) (t : Texts) : Type 0 where
  pub many : t.count ≡ count
  pub in_file : AllIn s t.spans

abbrev Rest : ℕ → List ℕ → ℕ → Texts → Cursor → Type 0
Rest k s count t c = (at : ℕ) (texts : Texts) → Texted s count texts → texts_from k s at texts ≡ Some (t, c) → Texted s (count + k) t

from_in : (k : ℕ) (s : List ℕ) (at count : ℕ) (texts t : Texts) (c : Cursor) → Texted s count texts → texts_from k s at texts ≡ Some (t, c) → Texted s (count + k) t
unfolding texts_from
from_in zero s at count texts t c h = λ e.
    let x : t ≡ texts = ap (λ (u : Texts × Cursor). u.0) (found e) in
    record { many = omega (arith, ap (λ (u : Texts). u.count) x, h.many); in_file = rw x h.in_file }
from_in (suc k) s at count texts t c h = by (text_at s at) refl (λ q l. from_in k s q (count + 1) l t c) where
  by : (m : Option Span) → m ≡ text_at s at → Rest k s (count + 1) t c → on_some m None (λ span. texts_from k s span.end (pushed texts span)) ≡ Some (t, c)
      → Texted s (count + suc k) t
  by (Some span) e rest z =
      let r =
      rest span.end (pushed texts span)
      (record {
        many = omega (arith, h.many);
        in_file = λ j. set_each (In s) texts.spans texts.count j span no_span (text_within s at span (Some span) e refl) (h.in_file j);
      })
      z in
      record { many = omega (arith, r.many); in_file = r.in_file }
  by None e rest z = clash (cc)

-- the second section: at most 64 texts, each within the file
pub record TextsIn (s : List ℕ) (t : Texts) : Type 0 where
  pub few : t.count ≤ 64
  pub in_file : AllIn s t.spans

pub texts_in : (s : List ℕ) (from : ℕ) (t : Texts) (c : Cursor) → texts_at s from ≡ Some (t, c) → TextsIn s t
unfolding texts_at
texts_in s from t c = by (number_line s from) where
  few_texts : (count p : ℕ) (b : Bool) → ltb 64 count ≡ b → cond b None (texts_from count s p no_texts) ≡ Some (t, c) → TextsIn s t
  few_texts count p true e z = clash (cc)
  few_texts count p false e z =
      let r = from_in count s p 0 no_texts t c (record { many = refl; in_file = none_in s 64 }) z in
      record { few = omega (arith, r.many, ltb-false 64 count e); in_file = r.in_file }

  by : (f : Option (ℕ × Cursor)) → on_some f None (λ (count, p). cond (ltb 64 count) None (texts_from count s p.at no_texts)) ≡ Some (t, c) → TextsIn s t
  by (Some (n, p)) = few_texts n p.at (ltb 64 n) refl
  by None = λ z. clash (cc)

-- what a file that is well formed says
pub record Sections (s : List ℕ) (file : CallFile) : Type 0 where
  pub second : Cursor
  pub third : Cursor
  pub short : length s ≤ 49152
  pub settings : settings_at s ≡ Some (file.settings, second)
  pub texts : texts_at s second.at ≡ Some (file.texts, third)
  pub calls : number_line s third.at ≡ Some (file.calls, file.at)
  pub good : calls_good file.calls s file.texts.count file.at.at ≡ true

module _ (s : List ℕ) (file : CallFile) (few : length s ≤ 49152) (settings : Settings) (p : Cursor) (a : settings_at s ≡ Some (settings, p)) where
  module _ (texts : Texts) (q : Cursor) (b : texts_at s p.at ≡ Some (texts, q)) where
    whole : (calls : ℕ) (r : Cursor) → number_line s q.at ≡ Some (calls, r) → (t : Bool) → calls_good calls s texts.count r.at ≡ t
        → cond t (Some (file_of settings texts calls r)) None ≡ Some file → Sections s file
    whole calls r n true g z = rw (found z) (record { second = p; third = q; short = few; settings = a; texts = b; calls = n; good = g })
    whole calls r n false g z = clash (cc)

    counted : (m : Option (ℕ × Cursor)) → number_line s q.at ≡ m
        → on_some m None (λ (calls, r). cond (calls_good calls s texts.count r.at) (Some (file_of settings texts calls r)) None) ≡ Some file → Sections s file
    counted (Some (calls, r)) n z = whole calls r n (calls_good calls s texts.count r.at) refl z
    counted None n z = clash (cc)

  texted : (m : Option (Texts × Cursor)) → texts_at s p.at ≡ m → on_some m None (λ (texts, q). calls_in s settings texts q.at) ≡ Some file → Sections s file
  unfolding calls_in
  texted (Some (texts, q)) b z = counted texts q b (number_line s q.at) refl z
  texted None b z = clash (cc)

pub sections_told : (s : List ℕ) (file : CallFile) → read_file s ≡ Some file → Sections s file
unfolding read_file
sections_told s file = by (ltb 49152 (length s)) refl (settings_at s) refl where
  by : (t : Bool) → ltb 49152 (length s) ≡ t → (m : Option (Settings × Cursor)) → settings_at s ≡ m
      → cond t None (on_some m None (λ (settings, p). on_some (texts_at s p.at) None (λ (texts, q). calls_in s settings texts q.at))) ≡ Some file
      → Sections s file
  by true t m a z = clash (cc)
  by false t None a z = clash (cc)
  by false t (Some (settings, p)) a z = texted s file (ltb-false 49152 (length s) t) settings p a (texts_at s p.at) refl z

-- as many calls as were counted
calls_all : (k : ℕ) (s : List ℕ) (texts at : ℕ) → calls_good k s texts at ≡ true → length (asks_from k s texts at) ≡ k
unfolding calls_good asks_from
calls_all zero s texts at h = refl
calls_all (suc k) s texts at h = by (ask_at s at texts) h (λ p. calls_all k s texts p) where
  by : (m : Option (Ask × Cursor)) → on_some m false (λ (a, p). calls_good k s texts p.at) ≡ true
      → ((p : ℕ) → calls_good k s texts p ≡ true → length (asks_from k s texts p) ≡ k)
      → length (on_some m [] (λ (a, p). a ∷ asks_from k s texts p.at)) ≡ suc k
  by None h rest = absurd (false≢true h)
  by (Some (a, p)) h rest = ap suc (rest p.at h)

module _ (s : List ℕ) (file : CallFile) (read : read_file s ≡ Some file) where
  abbrev told : Sections s file
  told = sections_told s file read

  -- each of the six settings fits 32 bits
  pub file_small : SixRange file.settings
  file_small = settings_small s file.settings told.second told.settings

  abbrev held : TextsIn s file.texts
  held = texts_in s told.second.at file.texts told.third told.texts

  -- at most 64 texts
  pub file_texts : file.texts.count ≤ 64
  file_texts = held.few

  -- each text is a part of the file
  pub file_spans : (j : ℕ) → In s (get_or file.texts.spans j no_span)
  file_spans = held.in_file

  -- the count of the calls fits 32 bits
  pub file_calls_lem : file.calls ≤ 4294967295
  file_calls_lem = (lined s told.third.at file.calls file.at (number_line s told.third.at) refl told.calls).small

  -- a file that is well formed is not too long
  pub file_length : length s ≤ 49152
  file_length = told.short

  -- a file that is well formed has as many calls as it counts
  pub asks_all : length (asks_from file.calls s file.texts.count file.at.at) ≡ file.calls
  asks_all = calls_all file.calls s file.texts.count file.at.at told.good
