-- Mirror: an exchange that the network began gives what it would give had the handset begun it, with up and down exchanged. Assumes nothing.
use Prim.Native.Nat.{ℕ, ◌≤◌, ◌<◌}
use mathlib.Core.Path.{◌≡◌, refl, sym, ap₂, ◌∙◌}
use mathlib.Core.Bool.{Bool, true, false, cond, not, ◌&&◌, ◌||◌, and_comm, or_comm}
use lib.Dec.{ltb, eqb}
use borrow.Author.Tests.{ltb-true, ltb-false, eqb-true}
use Rattle.sdp.specs.declared.Media.{Media}
use Rattle.flow.specs.declared.Limit.{Limit}
use Rattle.flow.specs.declared.Settings.{Settings}
use Rattle.flow.specs.declared.Component.{Component}
use Rattle.flow.specs.declared.Held.{Held}
use Rattle.flow.specs.declared.Was.{Was}
use Rattle.flow.specs.declared.Before.{Before}
use Rattle.flow.specs.declared.Descriptions.{Descriptions}
use Rattle.flow.specs.Slots.{slots, up_to_eight}
use Rattle.flow.specs.Session.{no_component, held_at}
use Rattle.flow.specs.Before.{no_was, was_of, was_at, before_of, before_at}
use Rattle.flow.specs.Status.{uplink, downlink, is_removed, one_way, status_of, status}
use Rattle.flow.specs.Described.{stays_both, both_at, described_up, described_down}
use Rattle.flow.specs.Rates.{way_to}
use Rattle.flow.specs.Class.{class_of, talks, newly, gone, up_only, down_only, none_talks, none_newly, some_gone, all_up_only, all_down_only, kept_class}
use Rattle.flow.specs.Derive.{flows_of, classed, said_at, slot_of, kept_after, component_of, derived}
use Rattle.flow.proofs.Tests.{by_test}
use Rattle.flow.proofs.Slots.{slots_at, slots_same, eight_below, some_same, every_same}
use Rattle.flow.proofs.Derived.{flows_at, slot_below, slot_past, component_below, component_past, held_at_lem}

-- up and down exchanged: of a limit, of the settings, of a status
abbrev pub mirror_limit : Limit → Limit
mirror_limit l = record { up = l.down; down = l.up }

abbrev pub mirror_settings : Settings → Settings
mirror_settings set = record { media = mirror_limit set.media; rtcp = mirror_limit set.rtcp; pool = mirror_limit set.pool }

unfoldable pub mirror_status : ℕ → ℕ
mirror_status s = cond (eqb s 0) 1 (cond (eqb s 1) 0 s)

-- of a component, and of what a session holds; an unused slot is its own mirror
abbrev pub mirror_component : Component → Component
mirror_component c =
    record {
      kind = c.kind;
      transport = c.transport;
      status = mirror_status c.status;
      class = c.class;
      up = c.down;
      down = c.up;
    }

abbrev pub mirror_at : Held → ℕ → Component
mirror_at h j = cond (ltb j h.count) (mirror_component (held_at h j)) (held_at h j)

abbrev pub mirror_held : Held → Held
mirror_held h = record { completed = h.completed; kept = h.kept; count = h.count; components = slots (mirror_at h) }

-- of what was there before
abbrev pub mirror_was : Was → Was
mirror_was w = record { kind = w.kind; live = w.live; up = w.down; down = w.up }

abbrev pub mirror_before : Before → Before
mirror_before b = record { kept = b.kept; components = slots (λ j. mirror_was (before_at b j)) }

-- The mirror of a status is 0 for 1, 1 for 0, and itself for every other.
module _ (s : ℕ) where
  mirror_cases : (P : ℕ → ℕ → Type 0) → P 0 1 → P 1 0 → (eqb s 0 ≡ false → eqb s 1 ≡ false → P s s) → P s (mirror_status s)
  unfolding mirror_status
  mirror_cases P p q r =
      by_test (eqb s 0) (λ e. rw (eqb-true s 0 e) p) (λ e. by_test (eqb s 1) (λ f. rw (eqb-true s 1 f) q) (λ f. rw (e, f) (r e f)))

  pub mirror_removed : eqb (mirror_status s) 4 ≡ eqb s 4
  mirror_removed = mirror_cases (λ n m. eqb m 4 ≡ eqb n 4) refl refl (λ e f. refl)

  mirror_both : both_at (mirror_status s) ≡ both_at s
  mirror_both = mirror_cases (λ n m. both_at m ≡ both_at n) refl refl (λ e f. refl)

  mirror_up : eqb (mirror_status s) 0 ≡ eqb s 1
  mirror_up = mirror_cases (λ n m. eqb m 0 ≡ eqb n 1) refl refl (λ e f. e ∙ sym f)

  mirror_down : eqb (mirror_status s) 1 ≡ eqb s 0
  mirror_down = mirror_cases (λ n m. eqb m 1 ≡ eqb n 0) refl refl (λ e f. f ∙ sym e)

-- The status where the network offered is the mirror of the status where the handset did.
pub mirror_status_lem : (offer answer : Media) → status 1 offer answer ≡ mirror_status (status 0 offer answer)
unfolding status status_of one_way mirror_status
mirror_status_lem offer answer =
    by (is_removed offer answer) (eqb offer.direction 4) (eqb answer.direction 4) (eqb answer.direction 1) (eqb answer.direction 2) where
      by : (r i d e f : Bool)
          → cond r 4 (cond i 3 (cond d 3 (cond e 2 (cond f (one_way true) (one_way false)))))
          ≡ mirror_status (cond r 4 (cond i 3 (cond d 3 (cond e 2 (cond f (one_way false) (one_way true))))))
      by true i d e f = refl
      by false true d e f = refl
      by false false true e f = refl
      by false false false true f = refl
      by false false false false true = refl
      by false false false false false = refl

-- The flows of the mirror are mirrored.
module _ (s : ℕ) where
  mirror_way : (transport : ℕ) (here : Bool) (text answer : Media) (media rtcp : ℕ)
      → way_to (mirror_status s) transport here text answer media rtcp ≡ way_to s transport here text answer media rtcp
  unfolding way_to
  mirror_way transport here text answer media rtcp = rw (mirror_removed s)

  mirror_describes : (both : Bool) → (described_up (mirror_status s) both ≡ described_down s both) × (described_down (mirror_status s) both ≡ described_up s both)
  unfolding described_up described_down
  mirror_describes both = (rw (mirror_removed s, mirror_both s, mirror_up s), rw (mirror_removed s, mirror_both s, mirror_down s))

mirror_stays_both : (was : Was) (kind : ℕ) → stays_both (mirror_was was) kind ≡ stays_both was kind
unfolding stays_both
mirror_stays_both was kind = rw (and_comm (not (eqb was.down 0)) (not (eqb was.up 0)))

mirror_flows : (set : Settings) (was : Was) (offer answer : Media)
    → flows_of set 1 was offer answer ≡ mirror_component (flows_of (mirror_settings set) 0 (mirror_was was) offer answer)
unfolding flows_of uplink downlink
mirror_flows set was offer answer =
    rw (
      mirror_status_lem offer answer,
      mirror_stays_both was offer.kind,
      (mirror_describes (status 0 offer answer) (stays_both was offer.kind)).0,
      (mirror_describes (status 0 offer answer) (stays_both was offer.kind)).1,
      mirror_way (status 0 offer answer) offer.transport (described_down (status 0 offer answer) (stays_both was offer.kind)) offer answer set.media.up set.rtcp.up,
      mirror_way (status 0 offer answer) offer.transport (described_up (status 0 offer answer) (stays_both was offer.kind)) answer answer set.media.down set.rtcp.down,
    )

-- The class of the mirror is the class.
mirror_classed : (kept : ℕ) (c : Component) → classed kept (mirror_component c) ≡ mirror_component (classed kept c)
unfolding classed class_of
mirror_classed kept c = rw (mirror_removed c.status)

-- What matters of a slot for the kept class is mirrored: whether it is live audio or video, its kind, and the one direction that is described.
record Mirrored (c d : Component) : Type 0 where
  talking : talks c ≡ talks d
  kind : c.kind ≡ d.kind
  up : up_only c ≡ down_only d
  down : down_only c ≡ up_only d

mirror_mirrored : (c : Component) → Mirrored (mirror_component c) c
mirror_mirrored c = record { talking = rw (mirror_removed c.status); kind = refl; up = refl; down = refl }

none_mirrored : Mirrored no_component no_component
none_mirrored = record { talking = refl; kind = refl; up = refl; down = refl }

mirror_was_lem : (c : Component) → was_of (mirror_component c) ≡ mirror_was (was_of c)
unfolding was_of
mirror_was_lem c = rw (mirror_removed c.status)

-- What was before the mirror of what a session holds is the mirror of what was before it.
mirror_was_at : (h : Held) (j : ℕ) → j < 8 → was_at (mirror_held h) j ≡ mirror_was (before_at (before_of h) j)
unfolding was_at before_of
mirror_was_at h j k =
    rw (slots_at (was_at h) no_was j k, slots_at (mirror_at h) no_component j k)
    (by_test (ltb j h.count) (λ e. rw e (mirror_was_lem (held_at h j))) (λ e. rw e))

pub mirror_before_lem : (h : Held) → before_of (mirror_held h) ≡ mirror_before (before_of h)
unfolding before_of
mirror_before_lem h i =
    record { kept = h.kept; components = slots_same (was_at (mirror_held h)) (λ j. mirror_was (before_at (before_of h) j)) (mirror_was_at h) i }

module _ (set : Settings) (before : Before) (offer answer : Descriptions) where
  -- slot j of the exchange that the network began, and of its mirror
  abbrev here : ℕ → Component
  here = slot_of set 1 before offer answer

  abbrev there : ℕ → Component
  there = slot_of (mirror_settings set) 0 (mirror_before before) offer answer

  was_there : (j : ℕ) → j < 8 → before_at (mirror_before before) j ≡ mirror_was (before_at before j)
  was_there j k = slots_at (λ j. mirror_was (before_at before j)) no_was j k

  flows_below : (j : ℕ) → j < 8
      → flows_at set 1 before offer answer j ≡ mirror_component (flows_at (mirror_settings set) 0 (mirror_before before) offer answer j)
  flows_below j k = rw (was_there j k) (mirror_flows set (before_at before j) (said_at offer j) (said_at answer j))

  after : (j : ℕ) → j < 8 → Mirrored (here j) (there j)
  after j k =
      by_test (ltb j offer.count)
      (λ e.
      let h : j < offer.count = ltb-true j offer.count e in
      rw (slot_below set 1 before offer answer j h, slot_below (mirror_settings set) 0 (mirror_before before) offer answer j h, flows_below j k)
      (mirror_mirrored (flows_at (mirror_settings set) 0 (mirror_before before) offer answer j)))
      (λ e.
      let h : offer.count ≤ j = ltb-false j offer.count e in
      rw (slot_past set 1 before offer answer j h, slot_past (mirror_settings set) 0 (mirror_before before) offer answer j h) none_mirrored)

  -- The kept class is the same: all are described up only where in the mirror all are described down only.
  newly_same : (j : ℕ) → j < 8 → newly (before_at before j) (here j) ≡ newly (before_at (mirror_before before) j) (there j)
  newly_same j k = rw (was_there j k, (after j k).talking, (after j k).kind)

  gone_same : (j : ℕ) → j < 8 → gone (before_at before j) (here j) ≡ gone (before_at (mirror_before before) j) (there j)
  gone_same j k = rw (was_there j k, (after j k).talking)

  up_down : all_up_only here ≡ all_down_only there
  up_down =
      every_same (λ j. not (talks (here j)) || up_only (here j)) (λ j. not (talks (there j)) || down_only (there j)) 8
      (λ j k. ap₂ (λ t u. not t || u) (after j k).talking (after j k).up)

  down_up : all_down_only here ≡ all_up_only there
  down_up =
      every_same (λ j. not (talks (here j)) || down_only (here j)) (λ j. not (talks (there j)) || up_only (there j)) 8
      (λ j k. ap₂ (λ t u. not t || u) (after j k).talking (after j k).down)

  mirror_stays : (none_talks here || (none_newly (before_at before) here && some_gone (before_at before) here))
      ≡ (none_talks there || (none_newly (before_at (mirror_before before)) there && some_gone (before_at (mirror_before before)) there))
  mirror_stays i =
      not (some_same (λ j. talks (here j)) (λ j. talks (there j)) 8 (λ j k. (after j k).talking) i)
      || (not (some_same (λ j. newly (before_at before j) (here j)) (λ j. newly (before_at (mirror_before before) j) (there j)) 8 newly_same i)
      && some_same (λ j. gone (before_at before j) (here j)) (λ j. gone (before_at (mirror_before before) j) (there j)) 8 gone_same i)

  mirror_streams : (all_up_only here || all_down_only here) ≡ (all_up_only there || all_down_only there)
  mirror_streams = ap₂ ◌||◌ up_down down_up ∙ or_comm (all_down_only there) (all_up_only there)

  mirror_kept : kept_after set 1 before offer answer ≡ kept_after (mirror_settings set) 0 (mirror_before before) offer answer
  unfolding kept_after kept_class
  mirror_kept i = cond (mirror_stays i) before.kept (cond (mirror_streams i) 4 2)

  -- So each component is the mirror's, mirrored.
  mirror_component_lem : (j : ℕ) → j < 8 → component_of set 1 before offer answer j ≡ mirror_at (derived (mirror_settings set) 0 (mirror_before before) offer answer) j
  unfolding derived
  mirror_component_lem j k =
      rw (eight_below offer.count j k, held_at_lem (mirror_settings set) 0 (mirror_before before) offer answer j k)
      (by_test (ltb j offer.count)
      (λ e.
      let h : j < offer.count = ltb-true j offer.count e in
      rw (e, component_below set 1 before offer answer j h, component_below (mirror_settings set) 0 (mirror_before before) offer answer j h, flows_below j k, mirror_kept)
      (mirror_classed (kept_after (mirror_settings set) 0 (mirror_before before) offer answer) (flows_at (mirror_settings set) 0 (mirror_before before) offer answer j)))
      (λ e.
      let h : offer.count ≤ j = ltb-false j offer.count e in
      rw (e, component_past set 1 before offer answer j h, component_past (mirror_settings set) 0 (mirror_before before) offer answer j h)))

  -- What a session holds after an exchange that the network began is the mirror of what it would hold had the handset begun it, with the
  -- settings and what was held before mirrored too.
  pub mirror_derived : derived set 1 before offer answer ≡ mirror_held (derived (mirror_settings set) 0 (mirror_before before) offer answer)
  unfolding derived
  mirror_derived i =
      record {
        completed = 1;
        kept = mirror_kept i;
        count = up_to_eight offer.count;
        components =
            slots_same (component_of set 1 before offer answer) (mirror_at (derived (mirror_settings set) 0 (mirror_before before) offer answer)) mirror_component_lem i;
      }
