-- The ranges of what a session holds. "Ranges for 19": what document 01 lists, field by field.
use Rattle.std.specs.Prelude.{ℕ, ◌≤◌, ◌<◌, ◌≡◌, Bool, true, cond, ◌&&◌, ◌||◌, length, ltb, leb, eqb}
use Rattle.sdp.specs.Bandwidth.{most_rate}
use Rattle.sdp.specs.Media.{audio_kind, other_kind, rtp_avp, udp, most_rtp_port, most_udp_port}
use Rattle.sdp.specs.Range.{MediaRange, most_address, from1, most_port, media_in, is_no_media}
use Rattle.sdp.specs.Section.{no_media}
use Rattle.flow.specs.declared.Limit.{Limit}
use Rattle.flow.specs.declared.Settings.{Settings}
use Rattle.flow.specs.declared.Way.{Way}
use Rattle.flow.specs.declared.Component.{Component}
use Rattle.flow.specs.declared.Held.{Held}
use Rattle.flow.specs.declared.Descriptions.{Descriptions}
use Rattle.flow.specs.Session.{removed, no_component, held_at}
use Rattle.flow.specs.Derive.{said_at}
use Rattle.flow.specs.Slots.{every}

-- "Settings, each 0 to 4,294,967,295 bit/s": of the defaults; the pool may be any number, since nothing is added to it
pub record LimitRange (l : Limit) : Type 0 where
  pub up : l.up ≤ most_rate
  pub down : l.down ≤ most_rate

pub record SettingsRange (set : Settings) : Type 0 where
  pub media : LimitRange set.media
  pub rtcp : LimitRange set.rtcp

-- all zeros: where a call file gives none, and for a call that reads none
abbrev pub no_settings : Settings
no_settings = record { media = record { up = 0; down = 0 }; rtcp = record { up = 0; down = 0 }; pool = record { up = 0; down = 0 } }

-- the classes named in document 01, "class also 0"
unfoldable pub is_class : ℕ → Bool
is_class n =
    cond (eqb n 0) true
    (cond (eqb n 2) true
    (cond (eqb n 4) true
    (cond (eqb n 6) true
    (cond (eqb n 8) true
    (eqb n 9)))))

-- "kinds, statuses and classes those named here, class also 0; ports to 65,535 (the media port of an RTP/AVP component to 65,534); media rates
-- to 4,294,967,295, RTCP rates to 8,589,934,590"
abbrev pub most_rtcp : ℕ
most_rtcp = 8589934590

pub record WayRange (transport : ℕ) (w : Way) : Type 0 where
  pub rtcp : w.rtcp.0 ≤ most_rtcp
  pub address : w.address ≤ most_address
  pub media : w.media ≤ most_rate
  pub port : w.port ≤ most_udp_port
  pub rtp : transport ≡ rtp_avp → w.port ≤ most_rtp_port
  pub described : w.described ≤ 1

pub record ComponentRange (c : Component) : Type 0 where
  pub kind : (audio_kind ≤ c.kind) × (c.kind ≤ other_kind)
  pub transport : (rtp_avp ≤ c.transport) × (c.transport ≤ udp)
  pub status : c.status ≤ removed
  pub class : is_class c.class ≡ true
  pub up : WayRange c.transport c.up
  pub down : WayRange c.transport c.down

-- "count to 8"; "An unused part of a row (components past the count, .. count and kept class where nothing was derived since the last close) is
-- all zeros"
pub record HeldRange (h : Held) : Type 0 where
  pub completed : h.completed ≤ 1
  pub kept : is_class h.kept ≡ true
  pub count : h.count ≤ 8
  pub underived : h.completed ≡ 0 → (h.kept ≡ 0) × (h.count ≡ 0)
  pub components : (j : ℕ) → j < h.count → ComponentRange (held_at h j)
  pub unused : (j : ℕ) → h.count ≤ j → held_at h j ≡ no_component
  pub eight : length h.components ≡ 8

-- the same as tests, for 19
abbrev pub rates_in : Way → Bool
rates_in w = leb w.media most_rate && leb w.rtcp.0 most_rtcp

abbrev pub way_in : ℕ → Way → Bool
way_in transport w = leb w.port (most_port transport) && (leb w.described 1 && (leb w.address most_address && rates_in w))

unfoldable pub component_in : Component → Bool
component_in c =
    from1 other_kind c.kind && (from1 udp c.transport && (leb c.status removed && (is_class c.class
    && (way_in c.transport c.up && way_in c.transport c.down))))

-- "An unused part of a row .. is all zeros"
abbrev pub is_no_way : Way → Bool
is_no_way w = eqb w.rtcp.0 0 && (eqb w.address 0 && (eqb w.media 0 && (eqb w.port 0 && eqb w.described 0)))

unfoldable pub is_no_component : Component → Bool
is_no_component c =
    eqb c.kind 0 && (eqb c.transport 0 && (eqb c.status 0 && (eqb c.class 0 && (is_no_way c.up && is_no_way c.down))))

-- "components past the count"
unfoldable pub component_at : Held → ℕ → Bool
component_at h j = cond (ltb j h.count) (component_in (held_at h j)) (is_no_component (held_at h j))

-- the rates of all slots, whose sums then fit
unfoldable pub held_rates : Held → Bool
held_rates h = every (λ j. rates_in (held_at h j).up && rates_in (held_at h j).down) 8

-- "count to 8"; "count and kept class where nothing was derived since the last close"
unfoldable pub held_in : Held → Bool
held_in h =
    leb h.completed 1 && (is_class h.kept && (leb h.count 8
    && ((eqb h.completed 1 || (eqb h.kept 0 && eqb h.count 0)) && every (component_at h) 8)))

-- what a good text says: "each field of an open offer what a text can give"
pub record DescriptionsRange (d : Descriptions) : Type 0 where
  pub count : d.count ≤ 8
  pub described : (j : ℕ) → j < d.count → MediaRange (said_at d j)
  pub unused : (j : ℕ) → d.count ≤ j → said_at d j ≡ no_media
  pub eight : length d.media ≡ 8

-- its slots as tests, for 19
unfoldable pub media_at : Descriptions → ℕ → Bool
media_at d j = cond (ltb j d.count) (media_in (said_at d j)) (is_no_media (said_at d j))
