-- Class (table 6.3.1, Authorized QoS Class Identifier).
use Rattle.std.specs.Prelude.{ℕ, Bool, cond, not, ◌&&◌, ◌||◌, eqb}
use Rattle.flow.specs.declared.Component.{Component}
use Rattle.flow.specs.declared.Was.{Was}
use Rattle.sdp.specs.Media.{audio_kind, video_kind, application_kind, data_kind, control_kind}
use Rattle.flow.specs.Session.{removed, live, described}
use Rattle.flow.specs.Slots.{some, every}

-- "application 2, data 8, control 6, other 9, removed 0 (none). Audio and video take the session's kept class." (Table 6.3.1, CASE
-- Media-Type; NOTE 6: 2 of 1 OR 2; NOTE 8: 8 of 6 OR 7 OR 8)
unfoldable pub class_of : ℕ → ℕ → ℕ → ℕ
class_of kept status kind =
    cond (eqb status removed) 0
    (cond (eqb kind audio_kind) kept
    (cond (eqb kind video_kind) kept
    (cond (eqb kind application_kind) 2
    (cond (eqb kind data_kind) 8
    (cond (eqb kind control_kind) 6
    9)))))

-- "look at live audio and video"; and whether it was before
abbrev pub talks : Component → Bool
talks c = live c && (eqb c.kind audio_kind || eqb c.kind video_kind)

abbrev pub talked : Was → Bool
talked was = not (eqb was.live 0) && (eqb was.kind audio_kind || eqb was.kind video_kind)

-- "newly live or changed in kind"
abbrev pub newly : Was → Component → Bool
newly was now = talks now && (not (talked was) || not (eqb was.kind now.kind))

-- "was live audio or video [and] no longer is"
abbrev pub gone : Was → Component → Bool
gone was now = talked was && not (talks now)

-- "described up only", "down only"
abbrev pub up_only : Component → Bool
up_only c = described c.up && not (described c.down)

abbrev pub down_only : Component → Bool
down_only c = described c.down && not (described c.up)

-- of what the slots hold now, and of what they held: none is live audio or video; none is newly so or changed in kind; some no longer is; all
-- live audio and video are described up only, or down only
abbrev pub none_talks : (ℕ → Component) → Bool
none_talks now = not (some (λ j. talks (now j)) 8)

abbrev pub none_newly : (ℕ → Was) → (ℕ → Component) → Bool
none_newly was now = not (some (λ j. newly (was j) (now j)) 8)

abbrev pub some_gone : (ℕ → Was) → (ℕ → Component) → Bool
some_gone was now = some (λ j. gone (was j) (now j)) 8

abbrev pub all_up_only : (ℕ → Component) → Bool
all_up_only now = every (λ j. not (talks (now j)) || up_only (now j)) 8

abbrev pub all_down_only : (ℕ → Component) → Bool
all_down_only now = every (λ j. not (talks (now j)) || down_only (now j)) 8

-- the kept class after an exchange, by what each slot held and holds. "None: kept class stays. None newly live or changed in kind, and at least
-- one that was live audio or video no longer is: it stays (NOTE 2). Otherwise 4 if all are described up only, or all down only, else 2."
-- (Table 6.3.1, MaxClassDerivation, NOTES 2, 3, 6 and 9)
unfoldable pub kept_class : ℕ → (ℕ → Was) → (ℕ → Component) → ℕ
kept_class kept was now =
    cond (none_talks now || (none_newly was now && some_gone was now)) kept
    (cond (all_up_only now || all_down_only now) 4
    2)
