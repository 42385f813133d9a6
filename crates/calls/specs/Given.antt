-- What the functions of a call give.
use Rattle.std.specs.Prelude.{◌≤◌, Result, Ok, Err}
use Rattle.flow.specs.declared.Rates.{Rates}
use Rattle.book.specs.declared.refusal.Refused.{Refused}
use Rattle.book.specs.declared.Reply.{Reply}
use Rattle.book.specs.declared.Row.{Row}
use Rattle.book.specs.declared.Stepped.{Stepped}
use Rattle.book.specs.Calls.{refused_with, stays}

-- a step, or the row as it was and the refusal
abbrev pub or_stays : Row → Result Stepped Refused → Stepped
or_stays row (Ok s) = s
or_stays row (Err e) = stays row e.refusal e.place

-- an answer, or the refusal
abbrev pub or_refused : Result Reply Refused → Reply
or_refused (Ok r) = r
or_refused (Err e) = refused_with e.refusal e.place

-- booked rates whose difference fits 64 bits with a sign
abbrev pub IsSmall : Rates → Type 0
IsSmall r = (r.up.0 ≤ 1099511627776) × (r.down.0 ≤ 1099511627776)
