-- The order of play of demand 3: which calls of a log are left, and in what order.
use Rattle.std.specs.Prelude.{ℕ, Bool, true, false, cond, not, List, [], ◌∷◌, map, eqb}
use Rattle.std.proofs.Math.Option.{Option, none, some}
use Rattle.flow.specs.declared.Settings.{Settings}
use Rattle.book.specs.declared.Row.{Row}
use Rattle.book.specs.Model.{Call, offers, answers, cancels, closes, asks, states, Out, log}

-- a call with the answer it gave
pub record Entry : Type 0 where
  pub call : Call
  pub out : Out

-- "Take any calls that came": each with its answer, in the order of their coming
abbrev pub paired : List Call → List Out → List Entry
paired [] outs = []
paired (call ∷ calls) [] = []
paired (call ∷ calls) (out ∷ outs) = record { call = call; out = out } ∷ paired calls outs

abbrev pub logged : Settings → List Row → List Call → List Entry
logged settings rows calls = paired calls (log settings rows calls)

abbrev pub calls_of : List Entry → List Call
calls_of = map (λ (e : Entry). e.call)

abbrev pub refused : Out → Bool
refused out = not (eqb out.reply.refusal 0)

-- the accepted offers that wait for their answers, by session
abbrev pub Waiting : Type 0
Waiting = ℕ → Option Entry

abbrev pub none_waits : Waiting
none_waits session = none

-- of one session nothing waits from now on, or this offer does
abbrev pub now_waits : Waiting → ℕ → Option Entry → Waiting
now_waits waiting session offer s = cond (eqb s session) offer (waiting s)

abbrev pub behind : Option Entry → List Entry → List Entry
behind none l = l
behind (some offer) l = offer ∷ l

-- one call and its answer, `rest` being what is left of those that came later
abbrev pub placed : Bool → Call → Entry → Waiting → (Waiting → List Entry) → List Entry
-- "Leave out the refused ones,"
placed true call e waiting rest = rest waiting
-- an accepted offer waits
placed false (offers session origin text) e waiting rest = rest (now_waits waiting session (some e))
-- "the offers later cancelled with their cancellations,"
placed false (cancels session) e waiting rest = rest (now_waits waiting session none)
-- "Move each remaining offer to just before its accepted answer."
placed false (answers session text) e waiting rest = behind (waiting session) (e ∷ rest (now_waits waiting session none))
-- what is no offer, answer or cancellation keeps its place
placed false (closes session) e waiting rest = e ∷ rest waiting
placed false (asks session bearer) e waiting rest = e ∷ rest waiting
placed false (states session room) e waiting rest = e ∷ rest waiting

unfoldable pub serial_from : Waiting → List Entry → List Entry
-- "and the offers still open."
serial_from waiting [] = []
serial_from waiting (e ∷ l) = placed (refused e.out) e.call e waiting (λ later. serial_from later l)

unfoldable pub serial : List Entry → List Entry
serial = serial_from none_waits
