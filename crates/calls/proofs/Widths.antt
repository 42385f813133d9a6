-- What an open offer tells by the width of its fields: its requested rates are any 32 bits, and no more. Assumes nothing.
use Prim.Native.Nat.{ℕ, zero, suc, ◌≤◌}
use mathlib.Core.List.{List, [], ◌∷◌}
use lib.ListN.{get_or}
use native.Mathlib.Omega.{arith}
use mir.Val.{Val}
use denote.Array.{each}
use denote.Laws.{Is}
use denote.Shadow.{shadow}
use denote.Struct.Declared.{row}
use Rattle.sdp.specs.contracts.Media as media
use Rattle.sdp.specs.Section.{no_media}
use Rattle.sdp.specs.declared.Media.{Media}
use Rattle.flow.specs.Derive.{said_at}
use Rattle.book.specs.contracts.Offer as lent
use Rattle.book.specs.declared.Offer.{Offer}

each_asks : (xs : List Media) (us : List Val)
    → shadow (each (media.the_row).Denot (media.the_row).own_val xs us) → (j : ℕ)
    → (get_or xs j no_media).requested ≤ 4294967295
each_asks [] us p j = omega arith
each_asks (m ∷ xs) [] p j = absurd p
each_asks (m ∷ xs) (u ∷ us) p zero = omega (arith, p.0.1.1.1.0.1)
each_asks (m ∷ xs) (u ∷ us) p (suc j) = each_asks xs us p.1 j

pub offered_fits : (x : Offer) (vs : List Val) → Is (row lent.the_type) x vs → (j : ℕ) → (said_at x.said j).requested ≤ 4294967295
offered_fits x vs p =
    let said = p.1.1.1.1.0 in
    let descriptions = said.1.1.1.0 in
    each_asks x.said.media descriptions.0 descriptions.1.1
