-- What private functions compute on the way. No promise cites it.
use Rattle.std.specs.Prelude.{ℕ, Bool, true, false, cond, not, ◌&&◌, ◌||◌, eqb, Option, Some, None}
use Rattle.flow.specs.declared.Component.{Component}
use Rattle.flow.specs.declared.Was.{Was}
use Rattle.policy.specs.declared.class.Sight.{Sight}
use Rattle.flow.specs.Described.{both_at, none_at}
use Rattle.flow.specs.Class.{talks, newly, gone, up_only, down_only}
use Rattle.flow.specs.Slots.{some, every}

-- whether a direction is described, which the status `alone` enables without the other
abbrev pub described_by : ℕ → ℕ → Bool → Bool
described_by alone status stays = not (none_at status) && (stays || (both_at status || eqb status alone))

-- a figure, if it was given
abbrev pub when : Bool → ℕ → Option ℕ
when true n = Some n
when false n = None

abbrev pub nothing_seen : Sight
nothing_seen = record { talks = false; newly = false; gone = false; allup = true; alldown = true }

abbrev pub sees : Sight → Was → Component → Sight
sees s was now =
    record {
      talks = s.talks || talks now;
      newly = s.newly || newly was now;
      gone = s.gone || gone was now;
      allup = s.allup && (not (talks now) || up_only now);
      alldown = s.alldown && (not (talks now) || down_only now);
    }

-- after the first n slots
abbrev pub seen_in : (ℕ → Was) → (ℕ → Component) → ℕ → Sight
seen_in was now n =
    record {
      talks = some (λ j. talks (now j)) n;
      newly = some (λ j. newly (was j) (now j)) n;
      gone = some (λ j. gone (was j) (now j)) n;
      allup = every (λ j. not (talks (now j)) || up_only (now j)) n;
      alldown = every (λ j. not (talks (now j)) || down_only (now j)) n;
    }

abbrev pub kept_by : Sight → ℕ → ℕ
kept_by s kept =
    cond (not s.talks || (not s.newly && s.gone)) kept
    (cond (s.allup || s.alldown) 4 2)
