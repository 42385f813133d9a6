-- What an exchange starts from and what it leaves, by its mode: 0 go on, 1 fresh, 2 from the saved state, 3 fresh, and save.
use Rattle.std.specs.Prelude.{ℕ, List, cond, not, eqb}
use Rattle.sdp.specs.Text.{read_text}
use Rattle.sdp.specs.declared.Text.{Text}
use Rattle.flow.specs.declared.Held.{Held}
use Rattle.flow.specs.declared.Settings.{Settings}
use Rattle.flow.specs.Before.{before_of}
use Rattle.flow.specs.Derive.{derived}
use Rattle.flow.specs.Session.{fresh_held}
use Rattle.flow.specs.Fit.{said, fit_of}
use Rattle.flows.specs.declared.head.Head.{Head}
use Rattle.flows.specs.declared.head.Mode.{Mode}
use Rattle.flows.specs.declared.head.Mode.TheVariants.{GoOn, Fresh, FromSaved, FreshAndSave}
use Rattle.flows.specs.declared.states.States.{States}

abbrev pub no_states : States
no_states = record { last = fresh_held; saved = fresh_held }

abbrev pub start_of : States → Mode → Held
start_of states GoOn = states.last
start_of states Fresh = fresh_held
start_of states FromSaved = states.saved
start_of states FreshAndSave = fresh_held

abbrev pub saved_of : States → Mode → Held → Held
saved_of states GoOn held = states.saved
saved_of states Fresh held = states.saved
saved_of states FromSaved held = states.saved
saved_of states FreshAndSave held = held

abbrev pub after_of : States → Mode → Held → States
after_of states mode held = record { last = held; saved = saved_of states mode held }

-- the settings of the stored exchanges; the pool is not used
abbrev pub stored : Settings
stored = record { media = record { up = 100000; down = 90000 }; rtcp = record { up = 5000; down = 4000 }; pool = record { up = 0; down = 0 } }

-- a refused exchange leaves the states as they were
unfoldable pub states_with : States → Head → Text → Text → States
states_with states head o a =
    cond (not (eqb o.refusal 0)) states
    (cond (not (eqb a.refusal 0)) states
    (cond (not (eqb (fit_of (said o) (said a)).refusal 0)) states
    (after_of states head.mode (derived stored head.origin (before_of (start_of states head.mode)) (said o) (said a)))))

unfoldable pub states_after : States → Head → List ℕ → List ℕ → States
states_after states head offer answer = states_with states head (read_text offer) (read_text answer)
