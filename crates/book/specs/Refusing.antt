-- The numbers of document 01 for what is refused of a call.
use Rattle.std.specs.Prelude.{ℕ}
use Rattle.book.specs.declared.refusal.Refusal.{Refusal}
use Rattle.book.specs.declared.refusal.Refusal.TheVariants as refusal

-- "rows not 1-16; origin not 0 or 1; class not 2, 4, 6, 8, 9", "session not below the rows lent"; "offer or close while an offer is open"; "answer
-- or cancel with none open"; "offer with fewer m= lines"; "new booked total above the pool"
abbrev pub number_of : Refusal → ℕ
number_of refusal.Argument = 10
number_of refusal.OfferOpen = 11
number_of refusal.NoneOpen = 12
number_of refusal.NotCompleted = 13
number_of refusal.FewerLines = 14
number_of refusal.Misfit = 15
number_of refusal.AbovePool = 16
number_of refusal.OutOfRange = 19
