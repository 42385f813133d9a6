-- A section while its lines are read: its `m=` line and its direction line are whole lines of the text. Assumes nothing.
use Rattle.cursor.specs.Cursor.{on_some}
use Rattle.sdp.specs.Fault.{fault_number}
use Rattle.std.specs.Prelude.{Option, Some, None, Result, Ok, Err}
use Rattle.sdp.specs.declared.fault.Fault.{Fault}
use Rattle.sdp.specs.declared.fault.Fault.TheVariants as fault
use Rattle.sdp.specs.declared.Address.{Address}
use Prim.Native.Nat.{ℕ, ◌+◌, ◌≤◌, ◌<◌}
use Prim.Native.Char.{code}
use mathlib.Core.Path.{◌≡◌, refl}
use mathlib.Core.Logic.{◌≢◌}
use mathlib.Core.List.{List, [], ◌∷◌, ◌++◌}
use mathlib.Core.Bool.{Bool, true, false, cond, ◌&&◌, false≢true}
use lib.ListN.{length}
use lib.Dec.{eqb}
use native.Mathlib.Omega.{arith}
use borrow.Author.Tests.{eqb-true, eqb-false}
use Rattle.cursor.specs.Bytes.{is_empty, split}
use Rattle.sdp.specs.Line.{lf, bare, letter, value}
use Rattle.sdp.specs.Media.{media_of}
use Rattle.sdp.specs.Connection.{connection_of}
use Rattle.sdp.specs.Bandwidth.{bandwidth_of}
use Rattle.sdp.specs.Direction.{direction_of, direction_number}
use Rattle.sdp.specs.Section.{absent, no_direction, begun, with_media, with_address, with_direction}
use Rattle.sdp.specs.Section.{connection_in, rate_in, bandwidth_in, direction_in, line_in}
use Rattle.sdp.specs.Spots.{WholeLine, media_among, media_section, MediaLineOf}
use Rattle.sdp.specs.declared.Media.{Media}
use Rattle.sdp.specs.declared.media_line.MediaLine.{MediaLine}
use Rattle.sdp.specs.declared.bandwidth.Rate.{Rate}
use Rattle.sdp.specs.declared.bandwidth.Rate.TheVariants as rate
use Rattle.sdp.specs.declared.direction.Direction.{Direction}
use Rattle.sdp.specs.declared.section.Section.{Section}
use Rattle.sdp.specs.declared.section.Session.{Session}
use Rattle.sdp.proofs.Said.{Faulty, on_cond, direction_range}
use Rattle.sdp.proofs.Ranges.{size, split_size}

-- one more line
among_snoc : (ps : List (List ℕ)) (p : List ℕ) → media_among (ps ++ (p ∷ [])) ≡ media_among ps + media_among (p ∷ [])
unfolding media_among
among_snoc [] p = omega arith
among_snoc (q ∷ ps) p = omega (arith, among_snoc ps p)

pub among_media : (ps : List (List ℕ)) (p : List ℕ) → letter p ≡ code "m" → media_among (ps ++ (p ∷ [])) ≡ media_among ps + 1
unfolding media_among
among_media ps p e = rw (among_snoc ps p, e)

pub among_other : (ps : List (List ℕ)) (p : List ℕ) → eqb (letter p) (code "m") ≡ false → media_among (ps ++ (p ∷ [])) ≡ media_among ps
unfolding media_among
among_other ps p e = rw (among_snoc ps p, e) (omega arith)

-- a line that is no direction line
abbrev pub Undirected : List ℕ → Type 0
Undirected l = letter l ≡ code "a" → direction_of (value l) ≡ None

-- of these lines, but for line 1, none is a direction line of a section, save one that starts at `from`: k `m=` lines and `at` bytes stand
-- before them
abbrev pub Only : ℕ → ℕ → ℕ → ℕ → List (List ℕ) → Type 0
Only section from k at [] = Unit {0}
Only section from k at (p ∷ ps) =
    (k ≡ section → 1 ≤ at → at ≢ from → Undirected (bare p)) × Only section from (k + media_among (p ∷ [])) (at + length p + 1) ps

module _ (section from : ℕ) where
  only_snoc : (k at : ℕ) (ps : List (List ℕ)) (p : List ℕ) → Only section from k at ps
      → (k + media_among ps ≡ section → at + size ps ≢ from → Undirected (bare p)) → Only section from k at (ps ++ (p ∷ []))
  unfolding media_among
  only_snoc k at [] p h u = ((λ e o n. u (omega (arith, e)) (λ z. n (omega (arith, z)))), tt)
  only_snoc k at (q ∷ ps) p h u = (
    h.0,
    only_snoc (k + media_among (q ∷ [])) (at + length q + 1) ps p h.1 (λ e n. u (omega (arith, e)) (λ z. n (omega (arith, z)))),
  )

  pub only_at : (k at : ℕ) (xs : List (List ℕ)) (p : List ℕ) (ys : List (List ℕ)) → Only section from k at (xs ++ (p ∷ ys))
      → k + media_among xs ≡ section → 1 ≤ at + size xs → at + size xs ≢ from → Undirected (bare p)
  unfolding media_among
  only_at k at [] p ys h e o n = h.0 (omega (arith, e)) (omega (arith, o)) (λ z. n (omega (arith, z)))
  only_at k at (x ∷ xs) p ys h e o n =
      only_at (k + media_among (x ∷ [])) (at + length x + 1) xs p ys h.1 (omega (arith, e)) (omega arith) (λ z. n (omega (arith, z)))

  -- no line stands in a section that has not begun
  only_early : (k at : ℕ) (ps : List (List ℕ)) → k + media_among ps < section → Only section from k at ps
  unfolding media_among
  only_early k at [] h = tt
  only_early k at (p ∷ ps) h =
      ((λ e o n. absurd (omega (arith, e, h))), only_early (k + media_among (p ∷ [])) (at + length p + 1) ps (omega (arith, h)))

  -- none at all
  only_none : (k at : ℕ) (ps : List (List ℕ)) → Only section 0 k at ps → Only section from k at ps
  only_none k at [] h = tt
  only_none k at (p ∷ ps) h =
      ((λ e o n. h.0 e o (λ z. omega (arith, o, z))), only_none (k + media_among (p ∷ [])) (at + length p + 1) ps h.1)

-- nothing is neither an `m=` line nor a direction line
pub among_empty : (ps : List (List ℕ)) (p : List ℕ) → is_empty p ≡ true → media_among (ps ++ (p ∷ [])) ≡ media_among ps
unfolding is_empty
among_empty ps [] e = among_other ps [] refl
among_empty ps (b ∷ l) e = absurd (false≢true e)

pub empty_undirected : (p : List ℕ) → is_empty p ≡ true → Undirected (bare p)
unfolding is_empty bare
empty_undirected [] e a = absurd (omega (arith, a))
empty_undirected (b ∷ l) e a = absurd (false≢true e)

-- two sections of one `m=` line
abbrev pub SameHead : Section → Section → Type 0
SameHead s u =
    (u.media.kind ≡ s.media.kind) × ((u.media.transport ≡ s.media.transport) × ((u.media.port ≡ s.media.port)
    × ((u.spot.start ≡ s.spot.start) × (u.spot.end ≡ s.spot.end))))

module _ (t : List ℕ) where
  pub media_alike : (j : ℕ) (m n : Media) (start end : ℕ) → (n.kind ≡ m.kind) × ((n.transport ≡ m.transport) × (n.port ≡ m.port))
      → (l : List ℕ) × MediaLineOf t j m start end l → (l : List ℕ) × MediaLineOf t j n start end l
  media_alike j m n start end e (l, h) =
      (l, record { whole = h.whole; is_m = h.is_m; section = h.section; says = rw (e.0, e.1.0, e.1.1) h.says })

  -- the direction of a section, of which these lines were read: by a line, or by none, and then x and y stand where a line would
  pub data Directing (parts : List (List ℕ)) (section x y d from to : ℕ) : Type 0 where
    one : Only section from 0 0 parts → (l : List ℕ) (w : WholeLine t from to l) → letter l ≡ code "a" → media_among (split lf w.before) ≡ section
        → (z : Direction) → direction_of (value l) ≡ Some z → direction_number z ≡ d → Directing parts section x y d from to
    none : Only section 0 0 0 parts → d ≡ 0 → from ≡ x → to ≡ y → Directing parts section x y d from to

  -- another line: of another section, or no direction line
  pub directing_more : (parts : List (List ℕ)) (p : List ℕ) (section x y d from to : ℕ) → (media_among parts ≡ section → Undirected (bare p))
      → Directing parts section x y d from to → Directing (parts ++ (p ∷ [])) section x y d from to
  directing_more parts p section x y d from to u (one o l w a n z e f) =
      one (only_snoc section from 0 0 parts p o (λ i k. u (omega (arith, i)))) l w a n z e f
  directing_more parts p section x y d from to u (none o e f g) =
      none (only_snoc section 0 0 0 parts p o (λ i k. u (omega (arith, i)))) e f g

  abbrev pub OwnDirecting : List (List ℕ) → ℕ → ℕ → ℕ → Section → Type 0
  OwnDirecting parts section x y s = Directing parts section x y s.media.direction s.spot.from s.spot.to

  -- media section j, of which these lines were read, after what the session section says
  pub record Stood (x : Session) (parts : List (List ℕ)) (j : ℕ) (s : Section) : Type 0 where
    pub head : (l : List ℕ) × MediaLineOf t j s.media s.spot.start s.spot.end l
    pub directing : OwnDirecting parts (media_section j) x.from x.to s

  pub stood_more : (x : Session) (parts : List (List ℕ)) (p : List ℕ) (j : ℕ) (s : Section) → (media_among parts ≡ media_section j → Undirected (bare p))
      → Stood x parts j s → Stood x (parts ++ (p ∷ [])) j s
  stood_more x parts p j s u h =
      record {
        head = h.head;
        directing = directing_more parts p (media_section j) x.from x.to s.media.direction s.spot.from s.spot.to u h.directing;
      }

  -- one line, p without its ending, after those before it
  module _ (p : List ℕ) (at : ℕ) (w : WholeLine t at (at + length (bare p)) (bare p)) where
    abbrev pub done : List (List ℕ)
    done = split lf w.before

    -- another than `m=`, in a section
    module _ (section x y : ℕ) (s : Section) (n : media_among done ≡ section) (h : OwnDirecting done section x y s) where
      abbrev pub Still : Result Section Fault → Type 0
      Still (Ok u) = SameHead s u × OwnDirecting (done ++ (p ∷ [])) section x y u
      Still (Err k) = Faulty (fault_number k)

      abbrev v : List ℕ
      v = value (bare p)

      -- the same direction and the same spot
      onward : Undirected (bare p) → OwnDirecting (done ++ (p ∷ [])) section x y s
      onward u = directing_more done p section x y s.media.direction s.spot.from s.spot.to (λ z. u) h

      connection_in_lem : Undirected (bare p) → Still (connection_in s v)
      unfolding connection_in
      connection_in_lem u = by (connection_of v) where
        by : (c : Option Address)
            → Still (on_some c (Err fault.Connection) λ a. cond (absent s.media.known) (Ok (with_media s (with_address s.media a))) (Err fault.Connection))
        by (Some a) = on_cond Still (absent s.media.known) ((refl, (refl, (refl, (refl, refl)))), onward u) (omega arith)
        by None = omega arith

      rate_in_lem : Undirected (bare p) → (r : Rate) → Still (rate_in s r)
      unfolding rate_in
      rate_in_lem u (rate.As b) = on_cond Still (absent s.media.requestedgiven) ((refl, (refl, (refl, (refl, refl)))), onward u) (omega arith)
      rate_in_lem u (rate.Tias b) = on_cond Still (absent s.tias.given) ((refl, (refl, (refl, (refl, refl)))), onward u) (omega arith)
      rate_in_lem u (rate.Rs b) = on_cond Still (absent s.media.rsgiven) ((refl, (refl, (refl, (refl, refl)))), onward u) (omega arith)
      rate_in_lem u (rate.Rr b) = on_cond Still (absent s.media.rrgiven) ((refl, (refl, (refl, (refl, refl)))), onward u) (omega arith)
      rate_in_lem u rate.Other = ((refl, (refl, (refl, (refl, refl)))), onward u)

      bandwidth_in_lem : Undirected (bare p) → Still (bandwidth_in s v)
      unfolding bandwidth_in
      bandwidth_in_lem u = by (bandwidth_of v) where
        by : (b : Option Rate) → Still (on_some b (Err fault.Bandwidth) λ r. rate_in s r)
        by (Some r) = rate_in_lem u r
        by None = omega arith

      direction_in_lem : letter (bare p) ≡ code "a" → Still (direction_in s v at (at + length (bare p)))
      unfolding direction_in
      direction_in_lem a = by (direction_of v) refl where
        with_line_lem : Direction → Section
        with_line_lem d =
            record {
              line = s.line;
              media = with_direction s.media (direction_number d);
              spot = record { start = s.spot.start; end = s.spot.end; from = at; to = at + length (bare p) };
              tias = s.tias;
            }

        by_first : (d : Direction) → direction_of v ≡ Some d → (b : Bool) → no_direction s.media.direction ≡ b
            → OwnDirecting done section x y s → Still (cond b (Ok (with_line_lem d)) (Err fault.Direction))
        by_first d e true z (one o l w' a' n' d' i f) =
            absurd (omega (arith, f, eqb-true s.media.direction 0 z, direction_range d'))
        by_first d e true z (none o i f g) = (
          (refl, (refl, (refl, (refl, refl)))),
          one
              (only_snoc section at 0 0 done p (only_none section at 0 0 done o)
              (λ j k. absurd (k (omega (arith, split_size lf w.before, w.starts)))))
              (bare p) w a n d e refl,
        )
        by_first d e false z k = omega arith

        by : (d : Option Direction) → direction_of v ≡ d
            → Still (on_some d (Ok s) λ d. cond (no_direction s.media.direction) (Ok (with_line_lem d)) (Err fault.Direction))
        by (Some d) e = by_first d e (no_direction s.media.direction) refl h
        by None e = ((refl, (refl, (refl, (refl, refl)))), onward (λ i. e))

      pub line_in_lem : (inside : Bool) → Still (line_in s inside (letter (bare p)) v at (at + length (bare p)))
      unfolding line_in
      line_in_lem inside =
          by (eqb (letter (bare p)) (code "c")) inside (eqb (letter (bare p)) (code "b")) (eqb (letter (bare p)) (code "a")) refl refl refl where
            passed : eqb (letter (bare p)) (code "a") ≡ false → Still (Ok s)
            passed z = ((refl, (refl, (refl, (refl, refl)))), onward (λ e. absurd (eqb-false (letter (bare p)) (code "a") z e)))

            by : (c i b a : Bool) → eqb (letter (bare p)) (code "c") ≡ c → eqb (letter (bare p)) (code "b") ≡ b → eqb (letter (bare p)) (code "a") ≡ a
                → Still (cond c (connection_in s v) (cond (i && b) (bandwidth_in s v) (cond a (direction_in s v at (at + length (bare p))) (Ok s))))
            by true i b a x y z = connection_in_lem (λ e. absurd (omega (arith, eqb-true (letter (bare p)) (code "c") x, e)))
            by false true true a x y z = bandwidth_in_lem (λ e. absurd (omega (arith, eqb-true (letter (bare p)) (code "b") y, e)))
            by false true false true x y z = direction_in_lem (eqb-true (letter (bare p)) (code "a") z)
            by false true false false x y z = passed z
            by false false b true x y z = direction_in_lem (eqb-true (letter (bare p)) (code "a") z)
            by false false b false x y z = passed z

    -- the same in a media section
    module _ (x : Session) where
      pub stood_still : (j : ℕ) (s u : Section) → SameHead s u → OwnDirecting (done ++ (p ∷ [])) (media_section j) x.from x.to u
          → Stood x done j s → Stood x (done ++ (p ∷ [])) j u
      stood_still j s u (e, (f, (g, (o, i)))) k h =
          record { head = media_alike j s.media u.media u.spot.start u.spot.end (e, (f, g)) (rw (o, i) h.head); directing = k }

      -- an `m=` line
      pub begins : (m : MediaLine) (n j : ℕ) → letter (bare p) ≡ code "m" → media_of (value (bare p)) ≡ Ok m → media_among done ≡ j
          → Stood x (done ++ (p ∷ [])) j (begun x m n at (at + length (bare p)))
      begins m n j a e k =
          record {
            head = (bare p, record { whole = w; is_m = a; section = k; says = e });
            directing =
                none (only_snoc (media_section j) 0 0 0 done p (only_early (media_section j) 0 0 0 done (omega (arith, k)))
                (λ z i. absurd (omega (arith, z, k)))) refl refl refl;
          }
