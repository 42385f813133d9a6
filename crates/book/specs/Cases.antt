-- The starred cases of document 01, as one table: settings, calls with the bytes of their texts, and what they give. "Cases have those
-- settings, origin 0 and the two texts above ("First") but for what they name."
use Rattle.std.specs.Prelude.{ℕ, ◌+◌, List, [], ◌∷◌, ◌++◌, ℤ, pos, negsuc, get_or}
use Rattle.cursor.specs.Bytes.{bytes}
use Rattle.flow.specs.declared.Component.{Component}
use Rattle.flow.specs.declared.Settings.{Settings}
use Rattle.flow.specs.Session.{held_at}
use Rattle.flow.specs.Gates.{gates_of}
use Rattle.book.specs.declared.Reply.{Reply}
use Rattle.book.specs.Calls.{fresh_row, accepted_reply}
use Rattle.book.specs.Model.{Call, offers, answers, asks, Out, log, end}

-- what a case is about: the last answer, and the first component of session 0 with its open gates counted
pub record Figures : Type 0 where
  pub refusal : ℕ
  pub up : ℤ
  pub down : ℤ
  pub granted_class : ℕ
  pub granted_up : ℕ
  pub granted_down : ℕ
  pub status : ℕ
  pub class : ℕ
  pub media_up : ℕ
  pub media_down : ℕ
  pub rtcp_up : ℕ
  pub rtcp_down : ℕ
  pub open_gates : ℕ

pub record Case : Type 0 where
  pub settings : Settings
  pub calls : List Call
  pub figures : Figures

abbrev pub last : Out → List Out → Out
last out [] = out
last out (next ∷ outs) = last next outs

abbrev pub gates_counted : Component → ℕ
gates_counted c = (gates_of c).media.up + (gates_of c).media.down + (gates_of c).rtcp.up + (gates_of c).rtcp.down

abbrev pub case_figures : Reply → Component → Figures
case_figures r c =
    record {
      refusal = r.refusal;
      up = r.change.up;
      down = r.change.down;
      granted_class = r.class;
      granted_up = r.granted.up.0;
      granted_down = r.granted.down.0;
      status = c.status;
      class = c.class;
      media_up = c.up.media;
      media_down = c.down.media;
      rtcp_up = c.up.rtcp.0;
      rtcp_down = c.down.rtcp.0;
      open_gates = gates_counted c;
    }

-- a case played on a fresh book
abbrev pub played : Case → Figures
played k =
    case_figures (last (record { reply = accepted_reply; bytes = [] }) (log k.settings (fresh_row ∷ []) k.calls)).reply
    (held_at (get_or (end k.settings (fresh_row ∷ []) k.calls) 0 fresh_row).held 0)

-- the settings and the texts of the examples
abbrev pub with_pool : ℕ → ℕ → Settings
with_pool up down = record { media = record { up = 100000; down = 100000 }; rtcp = record { up = 5000; down = 5000 }; pool = record { up = up; down = down } }

abbrev pub usual : Settings
usual = with_pool 1000000 1000000

abbrev pub offer_text : List ℕ → List ℕ
offer_text more = bytes "v=0\nc=IN IP4 192.0.2.1\nm=audio 40000 RTP/AVP 0\n" ++ more

abbrev pub answer_text : List ℕ → List ℕ
answer_text more = bytes "v=0\nc=IN IP4 192.0.2.9\nm=audio 50000 RTP/AVP 0\n" ++ more

abbrev pub offer_then_answer : List ℕ → List ℕ → List Call
offer_then_answer offer answer = offers 0 0 offer ∷ answers 0 answer ∷ []

abbrev pub first : List Call
first = offer_then_answer (offer_text (bytes "b=AS:64\n")) (answer_text [])

abbrev pub answered_with : List ℕ → List Call
answered_with more = offer_then_answer (offer_text (bytes "b=AS:64\n")) (answer_text more)

abbrev pub removal : List Call
removal = offer_then_answer (bytes "v=0\nc=IN IP4 192.0.2.1\nm=audio 0 RTP/AVP 0\nb=AS:64\n") (bytes "v=0\nc=IN IP4 192.0.2.9\nm=audio 0 RTP/AVP 0\n")

abbrev pub one_way : List Call
one_way = offer_then_answer (offer_text (bytes "b=AS:64\na=sendonly\n")) (answer_text (bytes "a=recvonly\n"))

abbrev pub wide : List Call
wide = offer_then_answer (offer_text (bytes "b=AS:300000\n")) (answer_text [])

abbrev pub bearer : ℕ → List Call
bearer down = asks 0 (record { set = 1; class = 2; up = 105000; down = down }) ∷ []

-- the figures of First after its answer, and what a removal leaves
abbrev pub first_figures : Figures
first_figures =
    record {
      refusal = 0;
      up = pos 105000;
      down = pos 67200;
      granted_class = 0;
      granted_up = 0;
      granted_down = 0;
      status = 2;
      class = 2;
      media_up = 100000;
      media_down = 64000;
      rtcp_up = 5000;
      rtcp_down = 3200;
      open_gates = 4;
    }

abbrev pub with_change : ℤ → ℤ → Figures → Figures
with_change up down f =
    record {
      refusal = f.refusal;
      up = up;
      down = down;
      granted_class = f.granted_class;
      granted_up = f.granted_up;
      granted_down = f.granted_down;
      status = f.status;
      class = f.class;
      media_up = f.media_up;
      media_down = f.media_down;
      rtcp_up = f.rtcp_up;
      rtcp_down = f.rtcp_down;
      open_gates = f.open_gates;
    }

abbrev pub with_component : ℕ → ℕ → ℕ → ℕ → ℕ → ℕ → ℕ → Figures → Figures
with_component status class media_up media_down rtcp_up rtcp_down open_gates f =
    record {
      refusal = f.refusal;
      up = f.up;
      down = f.down;
      granted_class = f.granted_class;
      granted_up = f.granted_up;
      granted_down = f.granted_down;
      status = status;
      class = class;
      media_up = media_up;
      media_down = media_down;
      rtcp_up = rtcp_up;
      rtcp_down = rtcp_down;
      open_gates = open_gates;
    }

abbrev pub answered_bearer : ℕ → Figures → Figures
answered_bearer refusal f =
    record {
      refusal = refusal;
      up = pos 0;
      down = pos 0;
      granted_class = 2;
      granted_up = 105000;
      granted_down = 256000000;
      status = f.status;
      class = f.class;
      media_up = f.media_up;
      media_down = f.media_down;
      rtcp_up = f.rtcp_up;
      rtcp_down = f.rtcp_down;
      open_gates = f.open_gates;
    }

abbrev pub nothing : Figures
nothing = with_component 4 0 0 0 0 0 0 first_figures

abbrev pub wide_figures : Figures
wide_figures = with_change (pos 105000) (pos 315000000) (with_component 2 2 100000 300000000 5000 15000000 4 first_figures)

-- -1 is negsuc 0
abbrev pub cases : List Case
cases =
    -- a. First: booked 105,000 up, 67,200 down, class 2.
    record { settings = usual; calls = first; figures = first_figures }
    -- b. Then port 0 in both texts: change -105,000 and -67,200. Again: 0 and 0.
    ∷ record { settings = usual; calls = first ++ removal; figures = with_change (negsuc 104999) (negsuc 67199) nothing }
    ∷ record { settings = usual; calls = first ++ (removal ++ removal); figures = with_change (pos 0) (pos 0) nothing }
    -- c. First, answer adds RS:800 and RR:2400: RTCP 3,200 both ways.
    ∷ record { settings = usual; calls = answered_with (bytes "b=RS:800\nb=RR:2400\n"); figures = with_change (pos 103200) (pos 67200) (with_component 2 2 100000 64000 3200 3200 4 first_figures) }
    -- d. Only RS:800: down 3,200, up 5,000.
    ∷ record { settings = usual; calls = answered_with (bytes "b=RS:800\n"); figures = first_figures }
    -- e. Only RR:8000: down 8,000.
    ∷ record { settings = usual; calls = answered_with (bytes "b=RR:8000\n"); figures = with_change (pos 105000) (pos 72000) (with_component 2 2 100000 64000 5000 8000 4 first_figures) }
    -- f. Offer inactive, answer sendrecv: 3, gates closed, still booked.
    ∷ record {
      settings = usual;
      calls = offer_then_answer (offer_text (bytes "b=AS:64\na=inactive\n")) (answer_text (bytes "a=sendrecv\n"));
      figures = with_component 3 2 100000 64000 5000 3200 0 first_figures;
    }
    -- g. Fresh, offer sendonly, answer recvonly: status 0, class 4, media down 0.
    ∷ record { settings = usual; calls = one_way; figures = with_change (pos 105000) (pos 3200) (with_component 0 4 100000 0 5000 3200 3 first_figures) }
    -- h. First, then g's texts with the same rates: status 0, class 2, change 0 and 0.
    ∷ record { settings = usual; calls = first ++ one_way; figures = with_change (pos 0) (pos 0) (with_component 0 2 100000 64000 5000 3200 3 first_figures) }
    -- j. Pool up 105,000 takes First; 104,999 is 16.
    ∷ record { settings = with_pool 105000 1000000; calls = first; figures = first_figures }
    ∷ record {
      settings = with_pool 104999 1000000;
      calls = first;
      figures =
          record {
            refusal = 16;
            up = pos 0;
            down = pos 0;
            granted_class = 0;
            granted_up = 0;
            granted_down = 0;
            status = 0;
            class = 0;
            media_up = 0;
            media_down = 0;
            rtcp_up = 0;
            rtcp_down = 0;
            open_gates = 0;
          };
    }
    -- k. AS:300000, large pool: down 315,000,000; bearer at 256,000,000 accepted, one more 17.
    ∷ record { settings = with_pool 4294967295 4294967295; calls = wide; figures = wide_figures }
    ∷ record { settings = with_pool 4294967295 4294967295; calls = wide ++ bearer 256000000; figures = answered_bearer 0 wide_figures }
    ∷ record { settings = with_pool 4294967295 4294967295; calls = wide ++ bearer 256000001; figures = answered_bearer 17 wide_figures }
    ∷ []
