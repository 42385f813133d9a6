-- Whole answers and the rows after them, by computation. Assumes nothing.
use Rattle.book.specs.Refusing.{number_of}
use Rattle.book.specs.declared.refusal.Refusal.TheVariants as refusal
use Prim.Native.Nat.{ℕ}
use mathlib.Core.Path.{◌≡◌, refl}
use mathlib.Core.List.{[], ◌∷◌, ◌++◌, map}
use lib.ListN.{replicate}
use Rattle.cursor.specs.Bytes.{bytes}
use Rattle.flow.specs.Session.{rate}
use Rattle.book.specs.declared.Seen.{Seen}
use Rattle.book.specs.Calls.{statement_into}
use Rattle.book.specs.CasesRows.{first_held, held, nothing_held}
use Rattle.book.specs.CasesReplied.{Play, call_played, offer_plays, answer_plays, pool_plays, unsound_plays, bearer_plays, statement_plays}
use Rattle.book.proofs.Computing.{computing}

-- Offers and cancels.
pub offers_replied : map call_played offer_plays ≡ map (λ (p : Play). p.called) offer_plays
unfolding computing
offers_replied = refl

-- Answers and closes.
pub answers_replied : map call_played answer_plays ≡ map (λ (p : Play). p.called) answer_plays
unfolding computing
answers_replied = refl

-- 16, on each side of the pool.
pub pool_replied : map call_played pool_plays ≡ map (λ (p : Play). p.called) pool_plays
unfolding computing
pool_replied = refl

-- 19.
pub unsound_replied : map call_played unsound_plays ≡ map (λ (p : Play). p.called) unsound_plays
unfolding computing
unsound_replied = refl

-- Bearers.
pub bearers_replied : map call_played bearer_plays ≡ map (λ (p : Play). p.called) bearer_plays
unfolding computing
bearers_replied = refl

-- Statements.
pub statements_replied : map call_played statement_plays ≡ map (λ (p : Play). p.called) statement_plays
unfolding computing
statements_replied = refl

abbrev saw : ℕ → ℕ → Seen
saw rows sound = record { rows = rows; sound = sound; booked = record { up = rate 0; down = rate 0 } }

abbrev one_row : Seen
one_row = saw 1 1

-- "bytes past the end unchanged": what a buffer of 50 bytes holds then, one of 47, which is 20, and one where nothing was completed; on 19, and on 10.
pub buffers_written : (statement_into (held first_held) one_row (replicate 50 7) ≡ bytes "components 1\n1 audio 2 2 100000 64000 5000 3200\n" ++ (7 ∷ 7 ∷ []))
    × (statement_into (held first_held) one_row (replicate 47 7) ≡ replicate 47 7)
    × (statement_into nothing_held one_row (replicate 50 7) ≡ replicate 50 7)
    × (map (λ (seen : Seen). statement_into (held first_held) seen (replicate 50 7)) (saw 2 0 ∷ saw 0 1 ∷ saw 17 1 ∷ []) ≡ replicate 3 (replicate 50 7))
unfolding computing
buffers_written = (refl, refl, refl, refl)

-- the numbers of the refusals of a call
pub refusals : map number_of (refusal.Argument ∷ refusal.OfferOpen ∷ refusal.NoneOpen ∷ refusal.NotCompleted ∷ refusal.FewerLines ∷ refusal.Misfit ∷ refusal.AbovePool ∷ refusal.OutOfRange ∷ [])
    ≡ 10 ∷ 11 ∷ 12 ∷ 13 ∷ 14 ∷ 15 ∷ 16 ∷ 19 ∷ []
refusals = refl
