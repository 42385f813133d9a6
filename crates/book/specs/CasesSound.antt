-- 19, field by field. "Ranges for 19: .." "An unused part of a row (components past the count, the offer where none is open, count and kept
-- class where nothing was derived since the last close) is all zeros, else 19."
use Rattle.std.specs.Prelude.{ℕ, List, [], ◌∷◌, ◌++◌, replicate}
use Rattle.sdp.specs.Section.{no_media}
use Rattle.sdp.specs.declared.Media.{Media}
use Rattle.flow.specs.declared.Component.{Component}
use Rattle.flow.specs.declared.Way.{Way}
use Rattle.flow.specs.Session.{no_way, no_component}
use Rattle.book.specs.declared.Row.{Row}
use Rattle.book.specs.Calls.{fresh_row}
use Rattle.book.specs.Cases.{usual}
use Rattle.book.specs.CasesRows.{way, component, media, holding, offering, one_component, one_media, seven, first_open, first_held, held, with_offer, nothing_held}
use Rattle.book.specs.Model.{cancels, call_of}

-- rows with any value in one field: a good value, and the first bad one
pub record Bound : Type 0 where
  pub good : ℕ
  pub bad : ℕ
  pub row : ℕ → Row

abbrev pub bound : ℕ → ℕ → (ℕ → Row) → Bound
bound good bad row = record { good = good; bad = bad; row = row }

-- an unused part: 0, else 19
abbrev pub unused : (ℕ → Row) → Bound
unused = bound 0 1

-- a cancel at a fresh session, beside the row: 12, since no offer is open there, and 19 where the row is out of range
abbrev pub cancel_beside : Row → ℕ
cancel_beside row = (call_of usual (fresh_row ∷ row ∷ []) (cancels 0)).out.reply.refusal

abbrev pub good_beside : Bound → ℕ
good_beside b = cancel_beside (b.row b.good)

abbrev pub bad_beside : Bound → ℕ
bad_beside b = cancel_beside (b.row b.bad)

-- the same with an offer open beside what is held, and with an exchange completed beside the offer
abbrev pub with_open : Bound → Bound
with_open b = bound b.good b.bad (λ n. with_offer (b.row n).held (first_open 1))

abbrev pub with_held : Bound → Bound
with_held b = bound b.good b.bad (λ n. with_offer first_held (b.row n).offer)

-- one component, and a good one; one description in an open offer, and a good one
abbrev pub holds_one : Component → Row
holds_one c = held (holding 1 0 1 (one_component c))

abbrev pub good : Component
good = component 1 1 0 0 no_way no_way

abbrev pub offers_one : Media → Row
offers_one m = with_offer nothing_held.held (offering 1 0 1 (one_media m))

abbrev pub port9 : Media
port9 = media 1 1 1 9 0 0 0 0 0 0 0 0

-- "classes those named here, class also 0"
abbrev pub classes : (ℕ → Row) → List Bound
classes row = bound 0 1 row ∷ bound 2 3 row ∷ bound 4 5 row ∷ bound 6 7 row ∷ bound 8 7 row ∷ bound 9 10 row ∷ []

-- "ports to 65,535 (the media port of an RTP/AVP component to 65,534); media rates to 4,294,967,295, RTCP rates to 8,589,934,590"
abbrev pub ways : (Way → Component) → (Way → Component) → List Bound
ways rtp udp =
    bound 8589934590 8589934591 (λ n. holds_one (rtp (way n 0 0 0 0)))
    ∷ bound 4294967295 4294967296 (λ n. holds_one (rtp (way 0 n 0 0 0)))
    ∷ bound 4294967295 4294967296 (λ n. holds_one (rtp (way 0 0 n 0 0)))
    ∷ bound 65534 65535 (λ n. holds_one (rtp (way 0 0 0 n 0)))
    ∷ bound 65535 65536 (λ n. holds_one (udp (way 0 0 0 n 0)))
    ∷ bound 1 2 (λ n. holds_one (rtp (way 0 0 0 0 n)))
    ∷ []

-- "count to 8"; "kinds, statuses and classes those named here"
abbrev pub held_bounds : List Bound
held_bounds =
    bound 1 2 (λ n. held (holding n 0 0 (replicate 8 no_component)))
    ∷ bound 8 9 (λ n. held (holding 1 0 n (replicate 8 good)))
    ∷ bound 1 0 (λ n. holds_one (component n 1 0 0 no_way no_way))
    ∷ bound 6 7 (λ n. holds_one (component n 1 0 0 no_way no_way))
    ∷ bound 1 0 (λ n. holds_one (component 1 n 0 0 no_way no_way))
    ∷ bound 2 3 (λ n. holds_one (component 1 n 0 0 no_way no_way))
    ∷ bound 4 5 (λ n. holds_one (component 1 1 n 0 no_way no_way))
    -- the eighth component is looked at like the first
    ∷ bound 6 7 (λ n. held (holding 1 0 8 (seven good (component n 1 0 0 no_way no_way))))
    ∷ classes (λ n. held (holding 1 n 0 (replicate 8 no_component)))
    ++ (classes (λ n. holds_one (component 1 1 0 n no_way no_way))
    ++ (ways (λ w. component 1 1 0 0 w no_way) (λ w. component 1 2 0 0 w no_way)
    ++ ways (λ w. component 1 1 0 0 no_way w) (λ w. component 1 2 0 0 no_way w)))

-- "19 tests each field by itself": a removed component that books and is described, udp with an RTCP rate, a live one of class 0, an open offer of fewer
-- lines than are held
abbrev pub held_anyhow : List Row
held_anyhow =
    holds_one (component 1 1 4 2 (way 1 0 1 9 1) no_way)
    ∷ holds_one (component 1 2 2 2 (way 1 0 0 0 0) no_way)
    ∷ holds_one (component 1 1 2 0 no_way no_way)
    ∷ with_offer first_held (offering 1 0 0 (replicate 8 no_media))
    ∷ []

-- "components past the count": each field of the first slot where the count is 0, and the last slot where it is 7
abbrev pub past_count : Component → Row
past_count c = held (holding 1 0 0 (one_component c))

abbrev pub held_unused : List Bound
held_unused =
    unused (λ n. past_count (component n 0 0 0 no_way no_way))
    ∷ unused (λ n. past_count (component 0 n 0 0 no_way no_way))
    ∷ unused (λ n. past_count (component 0 0 n 0 no_way no_way))
    ∷ bound 0 2 (λ n. past_count (component 0 0 0 n no_way no_way))
    ∷ unused (λ n. past_count (component 0 0 0 0 (way n 0 0 0 0) no_way))
    ∷ unused (λ n. past_count (component 0 0 0 0 (way 0 n 0 0 0) no_way))
    ∷ unused (λ n. past_count (component 0 0 0 0 (way 0 0 n 0 0) no_way))
    ∷ unused (λ n. past_count (component 0 0 0 0 (way 0 0 0 n 0) no_way))
    ∷ unused (λ n. past_count (component 0 0 0 0 (way 0 0 0 0 n) no_way))
    ∷ unused (λ n. past_count (component 0 0 0 0 no_way (way n 0 0 0 0)))
    ∷ unused (λ n. past_count (component 0 0 0 0 no_way (way 0 n 0 0 0)))
    ∷ unused (λ n. past_count (component 0 0 0 0 no_way (way 0 0 n 0 0)))
    ∷ unused (λ n. past_count (component 0 0 0 0 no_way (way 0 0 0 n 0)))
    ∷ unused (λ n. past_count (component 0 0 0 0 no_way (way 0 0 0 0 n)))
    ∷ unused (λ n. held (holding 1 0 7 (seven good (component n 0 0 0 no_way no_way))))
    -- .. also where nothing was derived since the last close
    ∷ unused (λ n. held (holding 0 0 0 (one_component (component n 0 0 0 no_way no_way))))
    ∷ unused (λ n. held (holding 0 0 0 (one_component (component 0 0 0 0 (way 0 0 n 0 0) no_way))))
    ∷ unused (λ n. held (holding 0 0 0 (seven no_component (component 0 0 0 0 no_way (way n 0 0 0 0)))))
    -- "count and kept class where nothing was derived since the last close"
    ∷ bound 1 0 (λ n. held (holding n 0 1 (one_component good)))
    ∷ bound 1 0 (λ n. held (holding n 2 0 (replicate 8 no_component)))
    ∷ []

-- "origin 0 or 1; each field of an open offer what a text can give"
abbrev pub offer_bounds : List Bound
offer_bounds =
    bound 1 2 (λ n. with_offer nothing_held.held (offering n 0 0 (replicate 8 no_media)))
    ∷ bound 1 2 (λ n. with_offer nothing_held.held (offering 1 n 1 (one_media port9)))
    ∷ bound 8 9 (λ n. with_offer nothing_held.held (offering 1 0 n (replicate 8 port9)))
    ∷ bound 1 0 (λ n. offers_one (media n 1 1 9 0 0 0 0 0 0 0 0))
    ∷ bound 6 7 (λ n. offers_one (media n 1 1 9 0 0 0 0 0 0 0 0))
    ∷ bound 1 0 (λ n. offers_one (media 1 n 1 9 0 0 0 0 0 0 0 0))
    ∷ bound 2 3 (λ n. offers_one (media 1 n 1 9 0 0 0 0 0 0 0 0))
    ∷ bound 1 0 (λ n. offers_one (media 1 1 n 9 0 0 0 0 0 0 0 0))
    ∷ bound 4 5 (λ n. offers_one (media 1 1 n 9 0 0 0 0 0 0 0 0))
    ∷ bound 65534 65535 (λ n. offers_one (media 1 1 1 n 0 0 0 0 0 0 0 0))
    ∷ bound 65535 65536 (λ n. offers_one (media 1 2 1 n 0 0 0 0 0 0 0 0))
    -- an address, a requested rate, RS or RR: given or not, its largest figure, and 0 where it is not given
    ∷ bound 1 2 (λ n. offers_one (media 1 1 1 9 n 0 0 0 0 0 0 0))
    ∷ bound 4294967295 4294967296 (λ n. offers_one (media 1 1 1 9 1 n 0 0 0 0 0 0))
    ∷ unused (λ n. offers_one (media 1 1 1 9 0 n 0 0 0 0 0 0))
    ∷ bound 1 2 (λ n. offers_one (media 1 1 1 9 0 0 n 0 0 0 0 0))
    ∷ bound 4294967295 4294967296 (λ n. offers_one (media 1 1 1 9 0 0 1 n 0 0 0 0))
    ∷ unused (λ n. offers_one (media 1 1 1 9 0 0 0 n 0 0 0 0))
    ∷ bound 1 2 (λ n. offers_one (media 1 1 1 9 0 0 0 0 n 0 0 0))
    ∷ bound 4294967295 4294967296 (λ n. offers_one (media 1 1 1 9 0 0 0 0 1 n 0 0))
    ∷ unused (λ n. offers_one (media 1 1 1 9 0 0 0 0 0 n 0 0))
    ∷ bound 1 2 (λ n. offers_one (media 1 1 1 9 0 0 0 0 0 0 n 0))
    ∷ bound 4294967295 4294967296 (λ n. offers_one (media 1 1 1 9 0 0 0 0 0 0 1 n))
    ∷ unused (λ n. offers_one (media 1 1 1 9 0 0 0 0 0 0 0 n))
    -- the eighth description is looked at like the first
    ∷ bound 6 7 (λ n. with_offer nothing_held.held (offering 1 0 8 (seven port9 (media n 1 1 9 0 0 0 0 0 0 0 0))))
    ∷ []

-- each field of a description, in a row
abbrev pub media_unused : (Media → Row) → List Bound
media_unused row =
    unused (λ n. row (media n 0 0 0 0 0 0 0 0 0 0 0))
    ∷ unused (λ n. row (media 0 n 0 0 0 0 0 0 0 0 0 0))
    ∷ unused (λ n. row (media 0 0 n 0 0 0 0 0 0 0 0 0))
    ∷ unused (λ n. row (media 0 0 0 n 0 0 0 0 0 0 0 0))
    ∷ unused (λ n. row (media 0 0 0 0 n 0 0 0 0 0 0 0))
    ∷ unused (λ n. row (media 0 0 0 0 0 n 0 0 0 0 0 0))
    ∷ unused (λ n. row (media 0 0 0 0 0 0 n 0 0 0 0 0))
    ∷ unused (λ n. row (media 0 0 0 0 0 0 0 n 0 0 0 0))
    ∷ unused (λ n. row (media 0 0 0 0 0 0 0 0 n 0 0 0))
    ∷ unused (λ n. row (media 0 0 0 0 0 0 0 0 0 n 0 0))
    ∷ unused (λ n. row (media 0 0 0 0 0 0 0 0 0 0 n 0))
    ∷ unused (λ n. row (media 0 0 0 0 0 0 0 0 0 0 0 n))
    ∷ []

-- "the offer where none is open", and the descriptions past the count of an open one
abbrev pub offer_unused : List Bound
offer_unused =
    unused (λ n. with_offer nothing_held.held (offering 0 n 0 (replicate 8 no_media)))
    ∷ bound 1 0 (λ n. with_offer nothing_held.held (offering n 0 1 (one_media port9)))
    ∷ unused (λ n. with_offer nothing_held.held (offering 1 0 7 (seven port9 (media n 0 0 0 0 0 0 0 0 0 0 0))))
    ∷ media_unused (λ m. with_offer nothing_held.held (offering 0 0 0 (one_media m)))
    ++ media_unused (λ m. with_offer nothing_held.held (offering 1 0 0 (one_media m)))
