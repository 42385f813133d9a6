-- Ranges: what is derived from an offer and an answer that fits it lies in the ranges of document 01. Assumes nothing.
use Prim.Native.Nat.{ℕ, ◌≤◌, ◌<◌}
use mathlib.Core.Path.{◌≡◌, refl, sym, ◌∙◌}
use mathlib.Core.Bool.{Bool, true, false, cond, not, ◌&&◌, ◌||◌}
use lib.Dec.{ltb, leb, eqb}
use native.Mathlib.Omega.{arith}
use borrow.Author.Tests.{ltb-true, ltb-false, eqb-true, le-ltb, le-leb, not-false}
use Rattle.sdp.specs.declared.Media.{Media}
use Rattle.sdp.specs.declared.Bps.{Bps}
use Rattle.sdp.specs.declared.Text.{Text}
use Rattle.sdp.specs.Range.{MediaRange, GoodText}
use Rattle.sdp.proofs.Said.{on_cond}
use Rattle.sdp.proofs.Tests.{and_both}
use Rattle.flow.specs.declared.Settings.{Settings}
use Rattle.flow.specs.declared.Component.{Component}
use Rattle.flow.specs.declared.Was.{Was}
use Rattle.flow.specs.declared.Before.{Before}
use Rattle.flow.specs.declared.Descriptions.{Descriptions}
use Rattle.flow.specs.Slots.{slots, up_to_eight}
use Rattle.flow.specs.Session.{no_component, held_at}
use Rattle.flow.specs.Before.{before_at}
use Rattle.flow.specs.Status.{uplink, downlink, status}
use Rattle.flow.specs.Described.{has_rtcp}
use Rattle.flow.specs.Rates.{requested, present, figure, media_rate, twentieth, larger, rtcp_rate, way_to}
use Rattle.flow.specs.Class.{class_of, none_talks, none_newly, some_gone, all_up_only, all_down_only, kept_class}
use Rattle.flow.specs.Derive.{flows_of, classed, said_at, slot_of, kept_after, derived}
use Rattle.flow.specs.Range.{SettingsRange, is_class, WayRange, ComponentRange, HeldRange, DescriptionsRange, rates_in, held_rates}
use Rattle.flow.specs.Fit.{said, misfits, lowest, misfits_at, fit_at, fit_of}
use Rattle.flow.proofs.Tests.{by_test, neither_left, neither_right}
use Rattle.flow.proofs.Slots.{eight_most, eight_same, eight_below, has_every}
use Rattle.flow.proofs.Lowest.{lowest_none}
use Rattle.flow.proofs.Directed.{bit_most}
use Rattle.flow.proofs.Derived.{component_below, component_past, held_at_lem, held_past, by_below, both_texts}
use Rattle.flow.proofs.Removed.{status_most}

-- Where the fit at a place is not refused, the place is none.
fit_place : (place : ℕ) → (fit_at place).refusal ≡ 0 → place ≡ 0
unfolding fit_at
fit_place place h = by_test (eqb place 0) (eqb-true place 0) (λ e. absurd (omega (arith, rw e at h)))

-- Where the answer fits, it has the offer's count, and no component is the lowest that misfits.
pub fit_says : (offer answer : Descriptions) → (fit_of offer answer).refusal ≡ 0
    → (offer.count ≡ answer.count) × (lowest (misfits_at offer answer) (up_to_eight offer.count) ≡ 0)
unfolding fit_of
fit_says offer answer h =
    by_test (eqb offer.count answer.count) (λ e. (eqb-true offer.count answer.count e, fit_place _ (rw e at h)))
    (λ e. absurd (omega (arith, rw e at h)))

-- Two descriptions that do not misfit have one transport.
fit_transport : (offer answer : Media) → misfits offer answer ≡ false → offer.transport ≡ answer.transport
unfolding misfits
fit_transport offer answer h =
    eqb-true offer.transport answer.transport (not-false _ (neither_left _ _ (neither_right (not (eqb offer.kind answer.kind)) _ h)))

-- The class of a component is one of those named, if the kept class is.
class_range : (kept status kind : ℕ) → is_class kept ≡ true → is_class (class_of kept status kind) ≡ true
unfolding is_class class_of
class_range kept status kind h =
    on_cond Class (eqb status 4) refl
    (on_cond Class (eqb kind 1) h
    (on_cond Class (eqb kind 2) h
    (on_cond Class (eqb kind 3) refl
    (on_cond Class (eqb kind 4) refl
    (on_cond Class (eqb kind 5) refl refl))))) where
      Class : ℕ → Type 0
      Class n = is_class n ≡ true

-- The kept class stays one of those named.
kept_range : (kept : ℕ) (was : ℕ → Was) (now : ℕ → Component) → is_class kept ≡ true → is_class (kept_class kept was now) ≡ true
unfolding is_class kept_class
kept_range kept was now h = by (none_talks now || (none_newly was now && some_gone was now)) (all_up_only now || all_down_only now) where
  by : (stays streams : Bool) → is_class (cond stays kept (cond streams 4 2)) ≡ true
  by stays streams = on_cond (λ n. is_class n ≡ true) stays h (on_cond (λ n. is_class n ≡ true) streams {a = 4} {b = 2} refl refl)

-- A media rate is at most 4,294,967,295.
media_rate_range : (here : Bool) (text : Media) (default : ℕ) → text.requested ≤ 4294967295 → default ≤ 4294967295 → media_rate here text default ≤ 4294967295
unfolding media_rate requested
media_rate_range here text default h k =
    on_cond (λ n. n ≤ 4294967295) here (on_cond (λ n. n ≤ 4294967295) (eqb text.requestedgiven 0) k h) (omega arith)

larger_most : (most a b : ℕ) → a ≤ most → b ≤ most → larger a b ≤ most
unfolding larger
larger_most most a b h k = on_cond (λ n. n ≤ most) (ltb a b) k h

figure_most : (given n : ℕ) → n ≤ 4294967295 → figure given n ≤ 8589934590
unfolding figure
figure_most given n h = on_cond (λ m. m ≤ 8589934590) (eqb given 0) (omega arith) (omega (arith, h))

-- An RTCP rate is at most 8,589,934,590.
rtcp_rate_range : (answer text : Media) (default : ℕ) → text.requested ≤ 4294967295 → answer.rs ≤ 4294967295 → answer.rr ≤ 4294967295
    → default ≤ 4294967295 → (rtcp_rate answer text default).0 ≤ 8589934590
unfolding rtcp_rate requested twentieth
rtcp_rate_range answer text default h rs rr k =
    on_cond (λ (r : Bps). r.0 ≤ 8589934590) (present answer.rsgiven && present answer.rrgiven) (omega (arith, rs, rr))
    (on_cond (λ (r : Bps). r.0 ≤ 8589934590) (eqb text.requestedgiven 0) (omega arith)
    (larger_most 8589934590 (twentieth text.requested) _ (omega (arith, h))
    (larger_most 8589934590 (figure answer.rsgiven answer.rs) (figure answer.rrgiven answer.rr) (figure_most answer.rsgiven answer.rs rs)
    (figure_most answer.rrgiven answer.rr rr))))

-- a text of a component of this transport
Fitting : ℕ → Media → Type 0
Fitting transport m = MediaRange m × (transport ≡ 1 → m.port ≤ 65534)

-- A direction of a component lies in range.
way_range : (s transport : ℕ) (here : Bool) (text answer : Media) (media rtcp : ℕ) → Fitting transport text → MediaRange answer → media ≤ 4294967295 → rtcp ≤ 4294967295
    → WayRange transport (way_to s transport here text answer media rtcp)
unfolding way_to Fitting
way_range s transport here text answer media rtcp t a m r =
    on_cond (WayRange transport) (eqb s 4)
    (record { rtcp = omega arith; address = omega arith; media = omega arith; port = omega arith; rtp = λ z. omega arith; described = omega arith })
    (record {
      rtcp = on_cond (λ (b : Bps). b.0 ≤ 8589934590) (has_rtcp s transport) (rtcp_rate_range answer text rtcp t.0.requested.figure a.rs.figure a.rr.figure r) (omega arith);
      address = t.0.address.figure;
      media = media_rate_range here text media t.0.requested.figure m;
      port = t.0.port;
      rtp = t.1;
      described = bit_most here;
    })

-- Of an offer and an answer of one transport the component lies in range.
pub component_range : (set : Settings) (origin kept : ℕ) (was : Was) (offer answer : Media) → SettingsRange set → is_class kept ≡ true
    → MediaRange offer → MediaRange answer → offer.transport ≡ answer.transport → ComponentRange (classed kept (flows_of set origin was offer answer))
unfolding classed flows_of Fitting
component_range set origin kept was offer answer limit class o a same =
    record {
      kind = o.kind;
      transport = o.transport;
      status = status_most origin offer answer;
      class = class_range kept (status origin offer answer) offer.kind class;
      up = way_range _ offer.transport _ (downlink origin offer answer) answer set.media.up set.rtcp.up texts.1 a limit.media.up limit.rtcp.up;
      down = way_range _ offer.transport _ (uplink origin offer answer) answer set.media.down set.rtcp.down texts.0 a limit.media.down limit.rtcp.down;
    } where
      texts : Fitting offer.transport (uplink origin offer answer) × Fitting offer.transport (downlink origin offer answer)
      texts = both_texts (Fitting offer.transport) origin offer answer (o, o.rtp) (a, λ e. a.rtp (sym same ∙ e))

module _ (set : Settings) (origin : ℕ) (before : Before) (offer answer : Descriptions) where
  -- The class kept after the exchange is one of those named.
  kept_after_range : is_class before.kept ≡ true → is_class (kept_after set origin before offer answer) ≡ true
  unfolding kept_after
  kept_after_range = kept_range before.kept (before_at before) (slot_of set origin before offer answer)

  -- Below the count the components lie in range.
  below_range : SettingsRange set → is_class before.kept ≡ true → DescriptionsRange offer → DescriptionsRange answer → (fit_of offer answer).refusal ≡ 0
      → (j : ℕ) → j < offer.count → ComponentRange (held_at (derived set origin before offer answer) j)
  below_range limit kept o a fit j h =
      rw (held_at_lem set origin before offer answer j (omega (arith, o.count)), component_below set origin before offer answer j h)
      (component_range set origin (kept_after set origin before offer answer) (before_at before j) (said_at offer j) (said_at answer j) limit (kept_after_range kept)
      (o.described j h)
      (a.described j (omega (arith, (fit_says offer answer fit).0)))
      (fit_transport (said_at offer j) (said_at answer j)
      (lowest_none (misfits_at offer answer) (up_to_eight offer.count) (fit_says offer answer fit).1 j (omega (arith, eight_same offer.count o.count)))))

  -- Past the count a session then holds zeros.
  pub unused_zeros : (j : ℕ) → up_to_eight offer.count ≤ j → held_at (derived set origin before offer answer) j ≡ no_component
  unused_zeros j h =
      by_test (ltb j 8)
      (λ e.
      let k : j < 8 = ltb-true j 8 e in
      held_at_lem set origin before offer answer j k
      ∙ component_past set origin before offer answer j
      (ltb-false j offer.count (sym (eight_below offer.count j k) ∙ le-ltb j (up_to_eight offer.count) h)))
      (λ e. held_past set origin before offer answer j (ltb-false j 8 e))

  -- What a session holds after an exchange whose answer fits lies in the ranges of document 01.
  pub derived_range : SettingsRange set → is_class before.kept ≡ true → DescriptionsRange offer → DescriptionsRange answer → (fit_of offer answer).refusal ≡ 0
      → HeldRange (derived set origin before offer answer)
  unfolding derived slots
  derived_range limit class o a fit =
      record {
        completed = omega arith;
        kept = kept_after_range class;
        count = eight_most offer.count;
        underived = λ z. absurd (omega (arith, z));
        components = λ j h. below_range limit class o a fit j (omega (arith, h, eight_same offer.count o.count));
        unused = unused_zeros;
        eight = refl;
      }

-- The rates that a description gives are in range.
pub record RatesSaid (m : Media) : Type 0 where
  pub requested : m.requested ≤ 4294967295
  pub rs : m.rs ≤ 4294967295
  pub rr : m.rr ≤ 4294967295

-- The rates that are derived are then in range, whatever else the offer says and whatever was there.
module _ (set : Settings) (origin : ℕ) (before : Before) (offer answer : Descriptions) (limit : SettingsRange set)
    (offered : (j : ℕ) → (said_at offer j).requested ≤ 4294967295) (answered : (j : ℕ) → RatesSaid (said_at answer j)) where
  rates_of_lem : (s transport : ℕ) (here : Bool) (text : Media) (j media rtcp : ℕ) → text.requested ≤ 4294967295 → media ≤ 4294967295 → rtcp ≤ 4294967295
      → rates_in (way_to s transport here text (said_at answer j) media rtcp) ≡ true
  unfolding way_to
  rates_of_lem s transport here text j media rtcp h m r =
      on_cond (λ w. rates_in w ≡ true) (eqb s 4) refl
      (and_both (leb (media_rate here text media) 4294967295) _ (le-leb _ 4294967295 (media_rate_range here text media h m))
      (le-leb _ 8589934590
      (on_cond (λ (b : Bps). b.0 ≤ 8589934590) (has_rtcp s transport) (rtcp_rate_range (said_at answer j) text rtcp h (answered j).rs (answered j).rr r) (omega arith))))

  pub derived_rates : held_rates (derived set origin before offer answer) ≡ true
  unfolding held_rates classed flows_of
  derived_rates =
      has_every (λ j. rates_in (held_at (derived set origin before offer answer) j).up && rates_in (held_at (derived set origin before offer answer) j).down) 8
      (λ j k.
      rw (held_at_lem set origin before offer answer j k)
      (by_below (λ c. (rates_in c.up && rates_in c.down) ≡ true) set origin before offer answer j
      (λ h.
      and_both _ _ (rates_of_lem _ _ _ _ j set.media.up set.rtcp.up (texts j).1 limit.media.up limit.rtcp.up)
      (rates_of_lem _ _ _ _ j set.media.down set.rtcp.down (texts j).0 limit.media.down limit.rtcp.down))
      (λ h. refl))) where
        Asks : Media → Type 0
        Asks m = m.requested ≤ 4294967295

        texts : (j : ℕ) → Asks (uplink origin (said_at offer j) (said_at answer j)) × Asks (downlink origin (said_at offer j) (said_at answer j))
        texts j = both_texts Asks origin (said_at offer j) (said_at answer j) (offered j) (answered j).requested

-- An exchange is then completed.
pub derived_completed : (set : Settings) (origin : ℕ) (before : Before) (offer answer : Descriptions) → (derived set origin before offer answer).completed ≡ 1
unfolding derived
derived_completed set origin before offer answer = refl

-- What a good text says lies in range.
pub said_range : {t : Text} → GoodText t → DescriptionsRange (said t)
said_range h = record { count = h.few; described = h.described; unused = h.unused_media; eight = h.eight_media }

-- So do its rates, also past its count.
pub said_rates : {t : Text} → GoodText t → (j : ℕ) → RatesSaid (said_at (said t) j)
said_rates {t} h j =
    by_test (ltb j t.count)
    (λ e. let d = h.described j (ltb-true j t.count e) in record { requested = d.requested.figure; rs = d.rs.figure; rr = d.rr.figure })
    (λ e. rw (h.unused_media j (ltb-false j t.count e)) (record { requested = omega arith; rs = omega arith; rr = omega arith }))
