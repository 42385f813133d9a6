-- The three loops of `derive`: what holds before each turn, and how a turn keeps it. Assumes nothing.
use Prim.Native.Nat.{ℕ, ◌+◌, ◌-◌, ◌≤◌, ◌<◌}
use native.Mathlib.Omega.{arith}
use mathlib.Core.Path.{◌≡◌, refl, sym, ap, ◌∙◌}
use mathlib.Core.List.{List, ◌++◌}
use mathlib.Core.Bool.{Bool, true, false, cond, not, ◌||◌}
use lib.ListN.{length, get_or, take, drop, replicate}
use lib.ListN as list
use lib.Dec.{ltb}
use borrow.Author.Tests.{le-ltb}
use Rattle.std.proofs.lemmas.List.{get_or-take, get_or-drop, length-set, length-take, length-drop, set-append_left, take-append-drop}
use Rattle.std.proofs.Math.ListN.{get_or-append}
use Rattle.sdp.specs.Section.{no_media}
use Rattle.sdp.specs.declared.Media.{Media}
use Rattle.flow.specs.declared.Settings.{Settings}
use Rattle.flow.specs.declared.Component.{Component}
use Rattle.flow.specs.declared.Was.{Was}
use Rattle.flow.specs.declared.Before.{Before}
use Rattle.flow.specs.declared.Descriptions.{Descriptions}
use Rattle.policy.specs.declared.class.Sight.{Sight}
use Rattle.flow.specs.Before.{no_was, before_at}
use Rattle.flow.specs.Class.{class_of, talks, newly, gone, up_only, down_only, kept_class}
use Rattle.flow.specs.Derive.{flows_of, said_at, classed, slot_of, kept_after, component_of, derived}
use Rattle.flow.specs.Session.{no_component}
use Rattle.flow.specs.Slots.{through, some, every, slots, up_to_eight}
use Rattle.policy.specs.Steps.{nothing_seen, sees, seen_in, kept_by}
use Rattle.flow.proofs.Slots.{slots_at, slots_same, eight_most, eight_below, some_next, every_next}
use Rattle.flow.proofs.Derived.{flows_at, slot_below, slot_past}
use Rattle.policy.proofs.Slots.{up_to, slots_next, slots_none, below_count, past_count_lem}

-- one component more in sight
sight_next : (was : ℕ → Was) (now : ℕ → Component) (j : ℕ) → sees (seen_in was now j) (was j) (now j) ≡ seen_in was now (j + 1)
sight_next was now j =
    rw (
      some_next (λ k. talks (now k)) j,
      some_next (λ k. newly (was k) (now k)) j,
      some_next (λ k. gone (was k) (now k)) j,
      every_next (λ k. not (talks (now k)) || up_only (now k)) j,
      every_next (λ k. not (talks (now k)) || down_only (now k)) j,
    )

sight_none : (was : ℕ → Was) (now : ℕ → Component) → nothing_seen ≡ seen_in was now 0
unfolding some every through
sight_none was now = refl

-- before turn i of the third loop: of eight slots that began with these components, the first i have their class
pub record Classing (kept : ℕ) (began components : List Component) (i : ℕ) : Type 0 where
  pub same : length components ≡ length began
  pub so_far : (rest : List Component) (f : ℕ → Component) → began ++ rest ≡ slots f → components ++ rest ≡ slots (up_to i (λ k. classed kept (f k)) f)

pub classing_none : (kept : ℕ) (began : List Component) → Classing kept began began 0
unfolding slots
classing_none kept began = record { same = refl; so_far = λ rest f e. e }

pub classing_next : (kept : ℕ) (began components : List Component) (i : ℕ) (c : Component) → Classing kept began components i → i < length components → length began ≤ 8
    → c ≡ classed kept (get_or components i no_component) → Classing kept began (list.set components i c) (i + 1)
classing_next kept began components i c s h most e =
    record {
      same = length-set components i c ∙ s.same;
      so_far = λ rest f b.
          let m : i < 8 = omega (arith, h, most, s.same) in
          let all : components ++ rest ≡ slots (up_to i (λ k. classed kept (f k)) f) = s.so_far rest f b in
          let at : get_or components i no_component ≡ f i =
          sym (get_or-append components rest no_component i h) ∙ ap (λ l. get_or l i no_component) all
          ∙ slots_at (up_to i (λ k. classed kept (f k)) f) no_component i m ∙ rw (le-ltb i i (omega arith)) in
          let c_is : c ≡ classed kept (f i) = e ∙ ap (classed kept) at in
          sym (set-append_left components rest i c h) ∙ rw (all, c_is) (slots_next (λ k. classed kept (f k)) f i m);
    }

pub classed_is : (kept class : ℕ) (c : Component) → class ≡ class_of kept c.status c.kind
    → record { kind = c.kind; transport = c.transport; status = c.status; class = class; up = c.up; down = c.down } ≡ classed kept c
unfolding classed
classed_is kept class c e = rw e

-- the slots from n on, as a part of eight
pub past_below : (l : List Was) (n k : ℕ) → k < length (take (8 - n) (drop n l)) → n + k < 8
past_below l n k h = omega (arith, h, length-take (8 - n) (drop n l))

pub past_at : (l : List Was) (n k : ℕ) → n + k < 8 → get_or (take (8 - n) (drop n l)) k no_was ≡ get_or l (n + k) no_was
past_at l n k h = get_or-take (8 - n) (drop n l) k no_was (omega (arith, h)) ∙ get_or-drop n l k no_was

pub past_end : (l : List Was) (n k : ℕ) → length l ≡ 8 → n ≤ 8 → length (take (8 - n) (drop n l)) ≤ k → 8 ≤ n + k
past_end l n k e m h = omega (arith, e, m, h, length-take (8 - n) (drop n l), length-drop n l)

-- before turn k of the second loop, which began at slot i: if from there on no slot is used, the first i + k slots are seen
pub record Looked (before : Before) (began : Sight) (i : ℕ) (sight : Sight) (k : ℕ) : Type 0 where
  pub few : i + k ≤ 8
  pub looked : (now : ℕ → Component) → ((j : ℕ) → i ≤ j → j < 8 → now j ≡ no_component) → began ≡ seen_in (before_at before) now i
      → sight ≡ seen_in (before_at before) now (i + k)

pub looked_none : (before : Before) (began : Sight) (i : ℕ) → i ≤ 8 → Looked before began i began 0
looked_none before began i h = let e : i ≡ i + 0 = omega arith in record { few = omega (arith, h); looked = λ now unused f. f ∙ ap (seen_in (before_at before) now) e }

pub looked_next : (before : Before) (began sight sight' : Sight) (i k : ℕ) → Looked before began i sight k → i + k < 8
    → sight' ≡ sees sight (before_at before (i + k)) no_component → Looked before began i sight' (k + 1)
looked_next before began sight sight' i k s h f =
    let e : i + k + 1 ≡ i + (k + 1) = omega arith in
    record {
      few = omega (arith, h);
      looked = λ now unused g.
          f ∙ rw (s.looked now unused g)
          (ap (sees (seen_in (before_at before) now (i + k)) (before_at before (i + k))) (sym (unused (i + k) (omega arith) h))
          ∙ sight_next (before_at before) now (i + k) ∙ ap (seen_in (before_at before) now) e);
    }

module _ (set : Settings) (origin : ℕ) (before : Before) (offer answer : Descriptions) where
  abbrev Slot : ℕ → Component
  Slot = slot_of set origin before offer answer

  -- before turn j of the first loop: the first j slots are built and seen
  pub record Seen (components : List Component) (sight : Sight) (j : ℕ) : Type 0 where
    pub few : j ≤ up_to_eight offer.count
    pub built : components ≡ slots (up_to j Slot (λ k. no_component))
    pub looked : sight ≡ seen_in (before_at before) Slot j

  pub seen_none : (z : Component) (sight : Sight) → z ≡ no_component → sight ≡ nothing_seen → Seen (replicate 8 z) sight 0
  seen_none z sight e f =
      record { few = omega arith; built = rw e (slots_none Slot no_component); looked = f ∙ sight_none (before_at before) Slot }

  pub seen_next : (items : List Media) (components : List Component) (sight sight' : Sight) (j : ℕ) (now : Component)
      → items ≡ take (up_to_eight offer.count) offer.media → Seen components sight j → j < up_to_eight offer.count
      → now ≡ flows_of set origin (before_at before j) (get_or items j no_media) (said_at answer j)
      → sight' ≡ sees sight (before_at before j) now → Seen (list.set components j now) sight' (j + 1)
  seen_next items components sight sight' j now i s h e f =
      let m : j < 8 = omega (arith, h, eight_most offer.count) in
      let b : j < offer.count = below_count offer.count j h in
      let at : get_or items j no_media ≡ said_at offer j = rw i (get_or-take (up_to_eight offer.count) offer.media j no_media h) in
      let n : now ≡ Slot j =
      e ∙ ap (λ o. flows_of set origin (before_at before j) o (said_at answer j)) at ∙ rw (slot_below set origin before offer answer j b) in
      record {
        few = omega (arith, h);
        built = rw (s.built, n) (slots_next Slot (λ k. no_component) j m);
        looked = f ∙ rw (s.looked, n) (sight_next (before_at before) Slot j);
      }

  -- after the first loop
  built_slot : (k : ℕ) → k < 8 → up_to (up_to_eight offer.count) Slot (λ i. no_component) k ≡ Slot k
  unfolding slot_of
  built_slot k h = rw (eight_below offer.count k h) (by (ltb k offer.count)) where
    F : Component
    F = flows_at set origin before offer answer k

    by : (b : Bool) → cond b (cond b F no_component) no_component ≡ cond b F no_component
    by true = refl
    by false = refl

  pub all_built : (components : List Component) (sight : Sight) (j : ℕ) → Seen components sight j → up_to_eight offer.count ≤ j → components ≡ slots Slot
  all_built components sight j s h =
      let e : j ≡ up_to_eight offer.count = omega (arith, h, s.few) in
      s.built ∙ rw e (slots_same (up_to (up_to_eight offer.count) Slot (λ k. no_component)) Slot built_slot)

  -- after the second loop
  pub kept_seen : (components : List Component) (sight sight' : Sight) (j n k kept : ℕ) → Seen components sight j → up_to_eight offer.count ≤ j
      → n ≡ up_to_eight offer.count → Looked before sight n sight' k → 8 ≤ n + k → kept ≡ kept_by sight' before.kept → kept ≡ kept_after set origin before offer answer
  unfolding kept_after kept_class
  kept_seen components sight sight' j n k kept s h q l m e =
      let j_is : j ≡ n = omega (arith, h, s.few, q) in
      let all : n + k ≡ 8 = omega (arith, l.few, m) in
      let past : (i : ℕ) → n ≤ i → i < 8 → Slot i ≡ no_component = λ i a b. slot_past set origin before offer answer i (past_count_lem offer.count i (omega (arith, a, q)) b) in
      e ∙ rw (l.looked Slot past (s.looked ∙ ap (seen_in (before_at before) Slot) j_is), all)

  -- the class of each slot below the count, in the end
  slot_classed : (kept j : ℕ) → kept ≡ kept_after set origin before offer answer → j < 8
      → up_to (up_to_eight offer.count) (λ k. classed kept (Slot k)) Slot j ≡ component_of set origin before offer answer j
  unfolding component_of slot_of
  slot_classed kept j e h = rw (← e, eight_below offer.count j h) (by (ltb j offer.count)) where
    F : Component
    F = flows_at set origin before offer answer j

    by : (b : Bool) → cond b (classed kept (cond b F no_component)) (cond b F no_component) ≡ cond b (classed kept (cond b F no_component)) no_component
    by true = refl
    by false = refl

  -- after the third loop
  pub all_classed : (unclassed components : List Component) (kept count i : ℕ) → unclassed ≡ slots Slot → kept ≡ kept_after set origin before offer answer
      → count ≡ up_to_eight offer.count → Classing kept (take count unclassed) components i → i ≡ count
      → record { completed = 1; kept = kept; count = count; components = components ++ drop count unclassed } ≡ derived set origin before offer answer
  unfolding derived
  all_classed unclassed components kept count i b k n s l = rw (k, n) (ap (λ cs. record { completed = 1; kept = kept_after set origin before offer answer; count = up_to_eight offer.count; components = cs }) built) where
    whole : take count unclassed ++ drop count unclassed ≡ slots Slot
    whole = take-append-drop count unclassed ∙ b

    built : components ++ drop (up_to_eight offer.count) unclassed ≡ slots (component_of set origin before offer answer)
    built =
        ap (λ m. components ++ drop m unclassed) (sym n) ∙ s.so_far (drop count unclassed) Slot whole
        ∙ rw (l, n)
        (slots_same (up_to (up_to_eight offer.count) (λ j. classed kept (Slot j)) Slot) (component_of set origin before offer answer) (λ j h. slot_classed kept j k h))
