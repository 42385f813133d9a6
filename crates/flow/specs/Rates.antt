-- Requested rates, and authorised rates (table 6.3.1), in bit/s.
use Rattle.std.specs.Prelude.{ℕ, ◌+◌, ◌/◌, Bool, cond, not, ◌&&◌, ltb, eqb}
use Rattle.sdp.specs.Section.{absent}
use Rattle.sdp.specs.declared.Bps.{Bps}
use Rattle.sdp.specs.declared.Media.{Media}
use Rattle.flow.specs.declared.Way.{Way}
use Rattle.flow.specs.Before.{bit}
use Rattle.flow.specs.Described.{has_rtcp}
use Rattle.flow.specs.Session.{removed, rate, no_way}

-- Requested rates. "Up: AS of the downlink SDP. Down: AS of the uplink SDP." (Table 6.2.1, Max-Requested-Bandwidth-UL and -DL.) "AS decides where
-- present, else TIAS as it stands" (02, 7): the one requested rate of a text, none or some
unfoldable pub requested : {A : Type 0} → Media → A → (ℕ → A) → A
requested text none some = cond (absent text.requestedgiven) none (some text.requested)

-- "RS and RR: from the answer." (Table 6.2.1, RR-Bandwidth, RS-Bandwidth and NOTE 6)
abbrev pub present : ℕ → Bool
present given = not (absent given)

unfoldable pub figure : ℕ → ℕ → ℕ
figure given n = cond (absent given) 0 n

-- Authorised rates. "Media, per direction: 0 if not described, else the requested rate, else the media default." (Table 6.3.1, not RTCP)
unfoldable pub media_rate : Bool → Media → ℕ → ℕ
media_rate described text default = cond described (requested text default (λ r. r)) 0

unfoldable pub larger : ℕ → ℕ → ℕ
larger a b = cond (ltb a b) b a

-- "One twentieth is no longer always whole; it is rounded up, so RTCP is never short." (02, 7)
unfoldable pub twentieth : ℕ → ℕ
twentieth r = (r + 19) / 20

-- "RTCP: if RS and RR are both present, their sum both ways. Else, per direction, if a rate is requested: the largest of one twentieth of it
-- and whichever of RS, RR is present. Else the RTCP default." (Table 6.3.1, RTCP IP flow(s))
unfoldable pub rtcp_rate : Media → Media → ℕ → Bps
rtcp_rate answer text default =
    cond (present answer.rsgiven && present answer.rrgiven) (rate (answer.rs + answer.rr))
    (requested text (rate default)
    (λ r. rate (larger (twentieth r) (larger (figure answer.rsgiven answer.rs) (figure answer.rrgiven answer.rr)))))

-- one direction of a component of this status and transport, to the text that its packets go to, by the defaults for media and RTCP. "No RTCP
-- flow: RTCP 0. Removed: all 0." Address and port are the text's, whether the media flow is described in this direction or not: RTCP goes there
-- too (table 6.2.2: "for RTCP IP flows uplink and downlink Flow-Description AVPs shall be provided irrespective of the SDP direction attribute")
unfoldable pub way_to : ℕ → ℕ → Bool → Media → Media → ℕ → ℕ → Way
way_to status transport described text answer media rtcp =
    cond (eqb status removed) no_way
    (record {
      rtcp = cond (has_rtcp status transport) (rtcp_rate answer text rtcp) (rate 0);
      address = text.address;
      media = media_rate described text media;
      port = text.port;
      described = bit described;
    })
