-- Rows field by field, for the tables of cases.
use Rattle.std.specs.Prelude.{ℕ, List, [], ◌∷◌, replicate}
use Rattle.sdp.specs.Section.{no_media}
use Rattle.sdp.specs.declared.Media.{Media}
use Rattle.flow.specs.declared.Component.{Component}
use Rattle.flow.specs.declared.Held.{Held}
use Rattle.flow.specs.declared.Way.{Way}
use Rattle.flow.specs.Session.{rate, no_way, no_component}
use Rattle.book.specs.declared.Offer.{Offer}
use Rattle.book.specs.declared.Row.{Row}

abbrev pub way : (rtcp address media port described : ℕ) → Way
way rtcp address media port described =
    record { rtcp = rate rtcp; address = address; media = media; port = port; described = described }

abbrev pub component : (kind transport status class : ℕ) (up down : Way) → Component
component kind transport status class up down =
    record { kind = kind; transport = transport; status = status; class = class; up = up; down = down }

-- of the address, the requested rate, RS and RR: whether there is one, and the figure
abbrev pub media : (kind transport direction port known address requestedgiven requested rsgiven rs rrgiven rr : ℕ) → Media
media kind transport direction port known address requestedgiven requested rsgiven rs rrgiven rr =
    record {
      address = address;
      requested = requested;
      rs = rs;
      rr = rr;
      port = port;
      kind = kind;
      transport = transport;
      direction = direction;
      known = known;
      requestedgiven = requestedgiven;
      rsgiven = rsgiven;
      rrgiven = rrgiven;
    }

abbrev pub holding : (completed kept count : ℕ) → List Component → Held
holding completed kept count components = record { completed = completed; kept = kept; count = count; components = components }

abbrev pub offering : (present origin count : ℕ) → List Media → Offer
offering present origin count said = record { present = present; origin = origin; said = record { count = count; media = said } }

-- the first slot alone, and seven alike before the last
abbrev pub one_component : Component → List Component
one_component c = c ∷ replicate 7 no_component

abbrev pub one_media : Media → List Media
one_media m = m ∷ replicate 7 no_media

abbrev pub seven : {A : Type 0} → A → A → List A
seven a last = a ∷ a ∷ a ∷ a ∷ a ∷ a ∷ a ∷ last ∷ []

-- nothing said, nothing held: all zeros
abbrev pub nothing_offered : Offer
nothing_offered = offering 0 0 0 (replicate 8 no_media)

abbrev pub nothing_held : Row
nothing_held = record { held = holding 0 0 0 (replicate 8 no_component); offer = nothing_offered }

-- First: its offer, open, by either side; what is held after its answer, and after its answer with AS:20. 192.0.2.1 is 3221225985, 192.0.2.9
-- is 3221225993
abbrev pub first_open : ℕ → Offer
first_open origin = offering 1 origin 1 (one_media (media 1 1 1 40000 1 3221225985 1 64000 0 0 0 0))

abbrev pub first_held : Held
first_held = holding 1 2 1 (one_component (component 1 1 2 2 (way 5000 3221225993 100000 50000 1) (way 3200 3221225985 64000 40000 1)))

abbrev pub slow_held : Held
slow_held = holding 1 2 1 (one_component (component 1 1 2 2 (way 1000 3221225993 20000 50000 1) (way 3200 3221225985 64000 40000 1)))

-- First with TIAS:64001 in place of AS: its offer, open, and what is held after First's answer
abbrev pub tias_open : Offer
tias_open = offering 1 0 1 (one_media (media 1 1 1 40000 1 3221225985 1 64001 0 0 0 0))

abbrev pub tias_held : Held
tias_held = holding 1 2 1 (one_component (component 1 1 2 2 (way 5000 3221225993 100000 50000 1) (way 3201 3221225985 64001 40000 1)))

-- what is held after First where the network offered it, and of that with the answer at AS:20
abbrev pub network_held : Held
network_held = holding 1 2 1 (one_component (component 1 1 2 2 (way 3200 3221225985 64000 40000 1) (way 5000 3221225993 100000 50000 1)))

abbrev pub network_slow_held : Held
network_slow_held = holding 1 2 1 (one_component (component 1 1 2 2 (way 3200 3221225985 64000 40000 1) (way 1000 3221225993 20000 50000 1)))

-- First and video by udp: the offer, open, and what is held then
abbrev pub two_open : Offer
two_open = offering 1 0 2 (media 1 1 1 40000 1 3221225985 1 64000 0 0 0 0 ∷ media 2 2 1 40002 1 3221225985 0 0 0 0 0 0 ∷ replicate 6 no_media)

abbrev pub two_held : Held
two_held =
    holding 1 2 2
    (component 1 1 2 2 (way 5000 3221225993 100000 50000 1) (way 3200 3221225985 64000 40000 1)
    ∷ component 2 2 2 2 (way 0 3221225993 100000 50002 1) (way 0 3221225985 100000 40002 1)
    ∷ replicate 6 no_component)

-- .. its video dropped: the offer, open, and what is held then
abbrev pub drop_open : Offer
drop_open = offering 1 0 2 (media 1 1 1 40000 1 3221225985 1 64000 0 0 0 0 ∷ media 2 2 1 0 1 3221225985 0 0 0 0 0 0 ∷ replicate 6 no_media)

abbrev pub dropped_held : Held
dropped_held =
    holding 1 2 2
    (component 1 1 2 2 (way 5000 3221225993 100000 50000 1) (way 3200 3221225985 64000 40000 1) ∷ component 2 2 4 0 no_way no_way ∷ replicate 6 no_component)

-- .. its sound on hold as the video comes: the offer, open, and what is held then where First was held
abbrev pub hold_two_open : Offer
hold_two_open = offering 1 0 2 (media 1 1 2 40000 1 3221225985 1 64000 0 0 0 0 ∷ media 2 2 1 40002 1 3221225985 0 0 0 0 0 0 ∷ replicate 6 no_media)

abbrev pub hold_two_held : Held
hold_two_held =
    holding 1 2 2
    (component 1 1 0 2 (way 5000 3221225993 100000 50000 1) (way 3200 3221225985 64000 40000 1)
    ∷ component 2 2 2 2 (way 0 3221225993 100000 50002 1) (way 0 3221225985 100000 40002 1)
    ∷ replicate 6 no_component)

-- First, declined by its answer; First on hold by the handset
abbrev pub declined_held : Held
declined_held = holding 1 0 1 (one_component (component 1 1 4 0 no_way no_way))

abbrev pub handset_hold_held : Held
handset_hold_held = holding 1 2 1 (one_component (component 1 1 0 2 (way 5000 3221225993 100000 50000 1) (way 3200 3221225985 64000 40000 1)))

-- First on hold: the offer sendonly, open; and what is held after the answer recvonly where the network offered and First was held
abbrev pub hold_open : ℕ → Offer
hold_open origin = offering 1 origin 1 (one_media (media 1 1 2 40000 1 3221225985 1 64000 0 0 0 0))

abbrev pub network_hold_held : Held
network_hold_held = holding 1 2 1 (one_component (component 1 1 1 2 (way 3200 3221225985 64000 40000 1) (way 5000 3221225993 100000 50000 1)))

-- one component with the largest RTCP rate up; one that is removed and yet has rates; one with a media rate where it is not described
abbrev pub large_held : Held
large_held = holding 1 2 1 (one_component (component 1 1 2 2 (way 8589934590 0 0 9 1) no_way))

abbrev pub removed_held : Held
removed_held = holding 1 2 1 (one_component (component 1 1 4 2 (way 1 0 2 9 1) (way 4 0 8 9 1)))

abbrev pub undescribed_held : Held
undescribed_held = holding 1 2 1 (one_component (component 1 1 2 2 (way 1 0 2 9 0) (way 4 0 8 9 0)))

-- First without its sound: the offer, and what is held then, where the class is kept
abbrev pub gone_open : ℕ → Offer
gone_open origin = offering 1 origin 1 (one_media (media 1 1 1 0 0 0 0 0 0 0 0 0))

abbrev pub gone_held : Held
gone_held = holding 1 2 1 (one_component (component 1 1 4 0 no_way no_way))

-- a row with no open offer, and one with
abbrev pub held : Held → Row
held h = record { held = h; offer = nothing_offered }

abbrev pub with_offer : Held → Offer → Row
with_offer h o = record { held = h; offer = o }

-- First's offer by the handset, open on a fresh row, and once more on a row that holds First
abbrev pub opened : Row
opened = with_offer nothing_held.held (first_open 0)

abbrev pub opened_again : Row
opened_again = with_offer first_held (first_open 0)

-- a row with a kept class that there is not
abbrev pub unsound : Row
unsound = held (holding 0 1 0 (replicate 8 no_component))
