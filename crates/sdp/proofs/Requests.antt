-- "AS decides where present, else TIAS as it stands": what each media section of a good text requests is what its lines say, and beside an AS line
-- a TIAS line changes nothing. Assumes nothing.
use Rattle.cursor.specs.Cursor.{on_some}
use Rattle.sdp.specs.Fault.{fault_number}
use Rattle.std.specs.Prelude.{Option, Some, None, Result, Ok, Err}
use Rattle.sdp.specs.declared.fault.Fault.{Fault}
use Rattle.sdp.specs.declared.fault.Fault.TheVariants as fault
use Rattle.sdp.specs.declared.Address.{Address}
use Rattle.sdp.specs.declared.direction.Direction.{Direction}
use Prim.Native.Nat.{ℕ, ◌+◌, ◌≤◌}
use Prim.Native.Char.{code}
use mathlib.Core.Path.{◌≡◌, refl, ap, ap₂, sym, ◌∙◌}
use mathlib.Core.List.{List, [], ◌∷◌, ◌++◌, map, append_assoc}
use mathlib.Core.Bool.{Bool, true, false, cond}
use lib.ListN.{length, take}
use lib.Dec.{ltb, leb, eqb}
use native.Mathlib.Omega.{arith}
use borrow.Author.Tests.{eqb-true}
use Rattle.cursor.specs.Bytes.{is_word, is_empty, split, bytes}
use Rattle.sdp.specs.Line.{lf, bare, is_line, letter, value}
use Rattle.sdp.specs.Media.{media_of}
use Rattle.sdp.specs.Connection.{connection_of}
use Rattle.sdp.specs.Bandwidth.{bandwidth_of}
use Rattle.sdp.specs.Direction.{direction_of, direction_number}
use Rattle.sdp.specs.Section.{absent, no_rate, no_section, no_direction, begun, with_media, with_address, with_direction, own_requested, as_else_tias, session_of, closed}
use Rattle.sdp.specs.Section.{connection_in, rate_in, bandwidth_in, direction_in, line_in}
use Rattle.sdp.specs.Text.{most_text, most_media, refusal, lacking, good_unless9, in_session, in_media}
use Rattle.sdp.specs.Text.{whole, Step, go, on_media, on_told, step, on_step, read_from, read_lines, read_text}
use Rattle.sdp.specs.Default.{is_media_line}
use Rattle.sdp.specs.Requests.{as_of, tias_of, rate_of, rate_line, rate_among, requested_by, section_lines, media_sections}
use Rattle.sdp.specs.declared.Requested.{Requested}
use Rattle.sdp.specs.declared.Text.{Text}
use Rattle.sdp.specs.declared.media_line.MediaLine.{MediaLine}
use Rattle.sdp.specs.declared.bandwidth.Rate.{Rate}
use Rattle.sdp.specs.declared.bandwidth.Rate.TheVariants as rate
use Rattle.sdp.specs.declared.section.Section.{Section}
use Rattle.sdp.specs.declared.section.Session.{Session}
use Rattle.cursor.proofs.Words.{word_is}
use Rattle.sdp.proofs.Said.{on_cond, MediaSaid, media_said}

-- ---- rates, of which the first that is given counts
or_assoc : (a b c : Requested) → as_else_tias (as_else_tias a b) c ≡ as_else_tias a (as_else_tias b c)
or_assoc a b c = by (absent a.given) refl where
  by : (t : Bool) → absent a.given ≡ t → as_else_tias (cond t b a) c ≡ cond t (as_else_tias b c) a
  by true e = refl
  by false e = rw e

-- a rate is some, or none
abbrev Clean : (Rate → Requested) → Type 0
Clean f = (r : Rate) → as_else_tias (f r) no_rate ≡ f r

as_clean : Clean as_of
as_clean (rate.As b) = refl
as_clean (rate.Tias b) = refl
as_clean (rate.Rs b) = refl
as_clean (rate.Rr b) = refl
as_clean rate.Other = refl

tias_clean : Clean tias_of
tias_clean (rate.As b) = refl
tias_clean (rate.Tias b) = refl
tias_clean (rate.Rs b) = refl
tias_clean (rate.Rr b) = refl
tias_clean rate.Other = refl

module _ (f : Rate → Requested) (h : Clean f) where
  line_clean : (l : List ℕ) → as_else_tias (rate_line f l) no_rate ≡ rate_line f l
  line_clean l = by (eqb (letter l) (code "b")) (bandwidth_of (value l)) where
    by : (t : Bool) (b : Option Rate) → as_else_tias (cond t (rate_of f b) no_rate) no_rate ≡ cond t (rate_of f b) no_rate
    by true (Some r) = h r
    by true None = refl
    by false b = refl

  among_clean : (ls : List (List ℕ)) → as_else_tias (rate_among f ls) no_rate ≡ rate_among f ls
  unfolding rate_among
  among_clean [] = refl
  among_clean (l ∷ ls) = or_assoc (rate_among f ls) (rate_line f l) no_rate ∙ ap (as_else_tias (rate_among f ls)) (line_clean l)

-- ---- one line in a media section: what it says of AS and of TIAS comes to what was said, and nothing else does
module _ (s : Section) (l : List ℕ) where
  abbrev pub Rated : Result Section Fault → Type 0
  Rated (Ok r) =
      (own_requested r.media ≡ as_else_tias (rate_line as_of l) (own_requested s.media)) × (r.tias ≡ as_else_tias (rate_line tias_of l) s.tias)
  Rated (Err k) = 1 ≤ fault_number k

  connection_rated : eqb (letter l) (code "b") ≡ false → Rated (connection_in s (value l))
  unfolding connection_in
  connection_rated e = by (connection_of (value l)) where
    by : (c : Option Address)
        → Rated (on_some c (Err fault.Connection) λ a. cond (absent s.media.known) (Ok (with_media s (with_address s.media a))) (Err fault.Connection))
    by (Some a) = on_cond Rated (absent s.media.known) (rw e (refl, refl)) (omega arith)
    by None = omega arith

  rate_rated : (r : Rate) → rate_line as_of l ≡ as_of r → rate_line tias_of l ≡ tias_of r → Rated (rate_in s r)
  unfolding rate_in
  rate_rated (rate.As b) p q = on_cond Rated (absent s.media.requestedgiven) (rw (p, q) (refl, refl)) (omega arith)
  rate_rated (rate.Tias b) p q = on_cond Rated (absent s.tias.given) (rw (p, q) (refl, refl)) (omega arith)
  rate_rated (rate.Rs b) p q = on_cond Rated (absent s.media.rsgiven) (rw (p, q) (refl, refl)) (omega arith)
  rate_rated (rate.Rr b) p q = on_cond Rated (absent s.media.rrgiven) (rw (p, q) (refl, refl)) (omega arith)
  rate_rated rate.Other p q = rw (p, q) (refl, refl)

  bandwidth_rated : eqb (letter l) (code "b") ≡ true → Rated (bandwidth_in s (value l))
  unfolding bandwidth_in
  bandwidth_rated e = by (bandwidth_of (value l)) refl where
    by : (b : Option Rate) → bandwidth_of (value l) ≡ b → Rated (on_some b (Err fault.Bandwidth) λ r. rate_in s r)
    by (Some r) k = rate_rated r (rw (e, k)) (rw (e, k))
    by None k = omega arith

  direction_rated : eqb (letter l) (code "b") ≡ false → (at f : ℕ) → Rated (direction_in s (value l) at f)
  unfolding direction_in
  direction_rated e at f = by (direction_of (value l)) where
    by : (d : Option Direction)
        → Rated (on_some d (Ok s) λ d. cond (no_direction s.media.direction)
        (Ok (record {
          line = s.line;
          media = with_direction s.media (direction_number d);
          spot = record { start = s.spot.start; end = s.spot.end; from = at; to = f };
          tias = s.tias;
        }))
        (Err fault.Direction))
    by (Some d) = on_cond Rated (no_direction s.media.direction) (rw e (refl, refl)) (omega arith)
    by None = rw e (refl, refl)

  pub line_rated : (at f : ℕ) → Rated (line_in s true (letter l) (value l) at f)
  unfolding line_in
  line_rated at f = by (eqb (letter l) (code "c")) (eqb (letter l) (code "b")) refl refl where
    by : (c b : Bool) → eqb (letter l) (code "c") ≡ c → eqb (letter l) (code "b") ≡ b
        → Rated (cond c (connection_in s (value l)) (cond b (bandwidth_in s (value l)) (cond (eqb (letter l) (code "a")) (direction_in s (value l) at f) (Ok s))))
    by true true x y = absurd (omega (arith, eqb-true (letter l) (code "c") x, eqb-true (letter l) (code "b") y))
    by true false x y = connection_rated y
    by false true x y = bandwidth_rated y
    by false false x y = on_cond Rated (eqb (letter l) (code "a")) (direction_rated y at f) (rw y (refl, refl))

  -- .. and in the session section, that a fault has a number
  abbrev Faults : Result Section Fault → Type 0
  Faults (Ok r) = Unit {0}
  Faults (Err k) = 1 ≤ fault_number k

  faults : (r : Result Section Fault) → Rated r → Faults r
  faults (Ok r) h = tt
  faults (Err k) h = h

  session_faults : (at f : ℕ) → Faults (line_in s false (letter l) (value l) at f)
  unfolding line_in
  session_faults at f = by (eqb (letter l) (code "c")) (eqb (letter l) (code "a")) (eqb (letter l) (code "b")) refl refl refl where
    by : (c a b : Bool) → eqb (letter l) (code "c") ≡ c → eqb (letter l) (code "a") ≡ a → eqb (letter l) (code "b") ≡ b
        → Faults (cond c (connection_in s (value l)) (cond a (direction_in s (value l) at f) (Ok s)))
    by true a true x y z = absurd (omega (arith, eqb-true (letter l) (code "c") x, eqb-true (letter l) (code "b") z))
    by true a false x y z = faults (connection_in s (value l)) (connection_rated z)
    by false true true x y z = absurd (omega (arith, eqb-true (letter l) (code "a") y, eqb-true (letter l) (code "b") z))
    by false true false x y z = faults (direction_in s (value l) at f) (direction_rated z at f)
    by false false b x y z = tt

-- ---- what each section requests
abbrev Asks : Text → List Requested → Type 0
Asks t rs = t.refusal ≡ 0 → map own_requested (take t.count t.media) ≡ rs

refused_asks : (k n : ℕ) (rs : List Requested) → 1 ≤ k → Asks (refusal k n) rs
refused_asks k n rs h e = absurd (omega (arith, h, e))

-- of a section that has ended
abbrev asked_by : Session → Section → Requested
asked_by x s = own_requested (closed x s)

closed_asks : (x : Session) (s : Section) → asked_by x s ≡ as_else_tias (own_requested s.media) s.tias
unfolding closed
closed_asks x s = refl

module _ {A B C : Type 0} (f : A → B) (g : B → C) where
  taken : (l : List A) (r : List B) → map g (take (length l) (map f l ++ r)) ≡ map (λ (a : A). g (f a)) l
  taken [] r = refl
  taken (a ∷ l) r = ap (λ (cs : List C). g (f a) ∷ cs) (taken l r)

map_snoc : {A B : Type 0} (f : A → B) (l : List A) (a : A) → map f (l ++ (a ∷ [])) ≡ map f l ++ (f a ∷ [])
map_snoc f [] a = refl
map_snoc {A} {B} f (b ∷ l) a = ap (λ (bs : List B). f b ∷ bs) (map_snoc f l a)

ended_asks : (x : Session) (ms : List Section) → Asks (good_unless9 x ms) (map (asked_by x) ms)
ended_asks x ms = on_cond (λ t. Asks t (map (asked_by x) ms)) (eqb (lacking x ms) 0) (λ e. taken (closed x) own_requested ms _) (refused_asks 9 (lacking x ms) _ (omega arith))

-- .. and of the section at hand, with its lines to come
abbrev asked_from : Section → List (List ℕ) → Requested
asked_from s ls = as_else_tias (as_else_tias (rate_among as_of ls) (own_requested s.media)) (as_else_tias (rate_among tias_of ls) s.tias)

from_begun : (x : Session) (m : MediaLine) (n at e : ℕ) (ls : List (List ℕ)) → asked_from (begun x m n at e) ls ≡ requested_by ls
from_begun x m n at e ls = ap₂ as_else_tias (among_clean as_of as_clean ls) (among_clean tias_of tias_clean ls)

from_told : (s r : Section) (l : List ℕ) (ls : List (List ℕ)) → Rated s l (Ok r) → asked_from r ls ≡ asked_from s (l ∷ ls)
unfolding rate_among
from_told s r l ls h =
    ap₂ as_else_tias
    (ap (as_else_tias (rate_among as_of ls)) h.0 ∙ sym (or_assoc (rate_among as_of ls) (rate_line as_of l) (own_requested s.media)))
    (ap (as_else_tias (rate_among tias_of ls)) h.1 ∙ sym (or_assoc (rate_among tias_of ls) (rate_line tias_of l) s.tias))

abbrev asks_from : Session → List Section → Section → List (List ℕ) → List Requested
asks_from x ss s ps = map (asked_by x) ss ++ (asked_from s (section_lines ps) ∷ map requested_by (media_sections ps))

whole_asks : (x : Session) (ss : List Section) (s : Section) → Asks (whole (in_media x ss s)) (map (asked_by x) ss ++ (asked_from s [] ∷ []))
unfolding whole rate_among
whole_asks x ss s e = ended_asks x (ss ++ (s ∷ [])) e ∙ map_snoc (asked_by x) ss s ∙ ap (λ (r : Requested). map (asked_by x) ss ++ (r ∷ [])) (closed_asks x s)

media_asks : (ps : List (List ℕ)) (n at : ℕ) (x : Session) (ss : List Section) (s : Section) → 1 ≤ n
    → Asks (read_from n at ps (in_media x ss s)) (asks_from x ss s ps)
unfolding read_from section_lines media_sections rate_among step
media_asks [] n at x ss s i = whole_asks x ss s
media_asks (p ∷ []) n at x ss s i = on_cond (λ t. Asks t (asks_from x ss s (p ∷ []))) (is_empty p) (whole_asks x ss s) (refused_asks 2 n _ (omega arith))
media_asks (p ∷ q ∷ ps) n at x ss s i =
    on_cond (λ t. Asks t (asks_from x ss s (p ∷ q ∷ ps))) (is_line (bare p)) (by (is_media_line p) refl (media_asks (q ∷ ps))) (refused_asks 2 n _ (omega arith)) where
      after : Step → Text
      after r = on_step r (λ k. refusal k n) λ next. read_from (n + 1) (at + length p + 1) (q ∷ ps) next

      Onward : Type 0
      Onward = (n at : ℕ) (x : Session) (ss : List Section) (s : Section) → 1 ≤ n → Asks (read_from n at (q ∷ ps) (in_media x ss s)) (asks_from x ss s (q ∷ ps))

      rest : List Requested
      rest = map requested_by (media_sections (q ∷ ps))

      begins : Onward → (r : Result MediaLine Fault) → MediaSaid r
          → Asks (after (on_media r λ m. go (in_media x (ss ++ (s ∷ [])) (begun x m n at (at + length (bare p))))))
          (map (asked_by x) ss ++ (asked_from s [] ∷ requested_by (section_lines (q ∷ ps)) ∷ rest))
      begins onward (Ok m) h e =
          let new = begun x m n at (at + length (bare p)) in
          onward (n + 1) (at + length p + 1) x (ss ++ (s ∷ [])) new (omega arith) e
          ∙ ap (λ (rs : List Requested). rs ++ (asked_from new (section_lines (q ∷ ps)) ∷ rest)) (map_snoc (asked_by x) ss s)
          ∙ append_assoc (map (asked_by x) ss) (asked_by x s ∷ []) (asked_from new (section_lines (q ∷ ps)) ∷ rest)
          ∙ ap₂ (λ (a b : Requested). map (asked_by x) ss ++ (a ∷ b ∷ rest)) (closed_asks x s) (from_begun x m n at (at + length (bare p)) (section_lines (q ∷ ps)))
      begins onward (Err k) h e = refused_asks (fault_number k) n _ (omega (arith, h)) e

      tells : Onward → (r : Result Section Fault) → Rated s (bare p) r
          → Asks (after (on_told r λ u. go (in_media x ss u))) (map (asked_by x) ss ++ (asked_from s (bare p ∷ section_lines (q ∷ ps)) ∷ rest))
      tells onward (Ok u) h e =
          onward (n + 1) (at + length p + 1) x ss u (omega arith) e
          ∙ ap (λ (a : Requested). map (asked_by x) ss ++ (a ∷ rest)) (from_told s u (bare p) (section_lines (q ∷ ps)) h)
      tells onward (Err k) h e = refused_asks (fault_number k) n _ h e

      by : (M : Bool) → is_media_line p ≡ M → Onward
          → Asks (after (step n at (bare p) (in_media x ss s)))
          (map (asked_by x) ss ++ (asked_from s (cond M [] (bare p ∷ section_lines (q ∷ ps)))
          ∷ map requested_by (cond M (section_lines (q ∷ ps) ∷ media_sections (q ∷ ps)) (media_sections (q ∷ ps)))))
      by true e onward =
          rw e
          (on_cond (λ (r : Step). Asks (after r) (map (asked_by x) ss ++ (asked_from s [] ∷ requested_by (section_lines (q ∷ ps)) ∷ rest)))
          (leb most_media (length ss + 1)) (refused_asks 5 n _ (omega arith)) (begins onward (media_of (value (bare p))) (media_said (value (bare p)))))
      by false e onward = rw e (tells onward (line_in s true (letter (bare p)) (value (bare p)) at (at + length (bare p))) (line_rated s (bare p) at (at + length (bare p))))

session_asks : (ps : List (List ℕ)) (n at : ℕ) (s : Section) → 1 ≤ n → Asks (read_from n at ps (in_session s)) (map requested_by (media_sections ps))
unfolding read_from media_sections whole step lacking
session_asks [] n at s i = λ e. refl
session_asks (p ∷ []) n at s i =
    on_cond (λ t. Asks t []) (is_empty p) {a = good_unless9 (session_of s) []} (λ e. refl) (refused_asks 2 n [] (omega arith))
session_asks (p ∷ q ∷ ps) n at s i =
    on_cond (λ t. Asks t (map requested_by (media_sections (p ∷ q ∷ ps)))) (is_line (bare p)) (by (is_media_line p) refl (session_asks (q ∷ ps)))
    (refused_asks 2 n _ (omega arith)) where
      after : Step → Text
      after r = on_step r (λ k. refusal k n) λ next. read_from (n + 1) (at + length p + 1) (q ∷ ps) next

      rest : List Requested
      rest = map requested_by (media_sections (q ∷ ps))

      begins : (r : Result MediaLine Fault) → MediaSaid r
          → Asks (after (on_media r λ m. go (in_media (session_of s) [] (begun (session_of s) m n at (at + length (bare p)))))) (requested_by (section_lines (q ∷ ps)) ∷ rest)
      begins (Ok m) h e =
          media_asks (q ∷ ps) (n + 1) (at + length p + 1) (session_of s) [] (begun (session_of s) m n at (at + length (bare p))) (omega arith) e
          ∙ ap (λ (r : Requested). r ∷ rest) (from_begun (session_of s) m n at (at + length (bare p)) (section_lines (q ∷ ps)))
      begins (Err k) h e = refused_asks (fault_number k) n _ (omega (arith, h)) e

      tells : ((n at : ℕ) (s : Section) → 1 ≤ n → Asks (read_from n at (q ∷ ps) (in_session s)) rest)
          → (r : Result Section Fault) → Faults s (bare p) r → Asks (after (on_told r λ u. go (in_session u))) rest
      tells onward (Ok u) h e = onward (n + 1) (at + length p + 1) u (omega arith) e
      tells onward (Err k) h e = refused_asks (fault_number k) n _ h e

      by : (M : Bool) → is_media_line p ≡ M → ((n at : ℕ) (s : Section) → 1 ≤ n → Asks (read_from n at (q ∷ ps) (in_session s)) rest)
          → Asks (after (step n at (bare p) (in_session s))) (map requested_by (cond M (section_lines (q ∷ ps) ∷ media_sections (q ∷ ps)) (media_sections (q ∷ ps))))
      by true e onward = rw e (begins (media_of (value (bare p))) (media_said (value (bare p))))
      by false e onward =
          rw e (tells onward (line_in s false (letter (bare p)) (value (bare p)) at (at + length (bare p))) (session_faults s (bare p) at (at + length (bare p))))

lines_ask : (ps : List (List ℕ)) → Asks (read_lines ps) (map requested_by (media_sections ps))
unfolding read_lines media_sections
lines_ask [] = refused_asks 2 1 [] (omega arith)
lines_ask (p ∷ []) = refused_asks 2 1 [] (omega arith)
lines_ask (p ∷ q ∷ ps) = by (is_word (bytes "v=0") (bare p)) refl where
  by : (t : Bool) → is_word (bytes "v=0") (bare p) ≡ t
      → Asks (cond t (read_from 2 (length p + 1) (q ∷ ps) (in_session no_section)) (refusal 2 1)) (map requested_by (media_sections (p ∷ q ∷ ps)))
  by true e = rw (ap (λ (l : List ℕ). eqb (letter l) (code "m")) (word_is (bytes "v=0") (bare p) e)) (session_asks (q ∷ ps) 2 (length p + 1) no_section (omega arith))
  by false e = refused_asks 2 1 _ (omega arith)

-- What each media section of a good text requests is what its lines say: "AS decides where present, else TIAS as it stands".
pub requested_said : (t : List ℕ) → (read_text t).refusal ≡ 0
    → map own_requested (take (read_text t).count (read_text t).media) ≡ map requested_by (media_sections (split lf t))
unfolding read_text
requested_said t = on_cond (λ x. Asks x (map requested_by (media_sections (split lf t)))) (ltb most_text (length t)) (refused_asks 1 0 _ (omega arith)) (lines_ask (split lf t))
