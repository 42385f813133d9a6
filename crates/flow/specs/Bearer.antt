-- Bearer (table 6.5.2.2 for the two rates; the class that ranks first for the class).
use Rattle.std.specs.Prelude.{ℕ, ◌+◌, ◌/◌, ◌%◌, ◌≤◌, ◌<◌, ◌≡◌, ◌⊎◌, Bool, true, cond, not, ◌&&◌, ◌||◌, ltb, leb, eqb}
use Rattle.flow.specs.declared.Component.{Component}
use Rattle.flow.specs.declared.Held.{Held}
use Rattle.flow.specs.declared.Asked.{Asked}
use Rattle.flow.specs.declared.Authorised.{Authorised}
use Rattle.flow.specs.Session.{live, held_at}
use Rattle.flow.specs.Slots.{through, some, up_to_eight}

-- "Component 1 is bit value 1 of the set": the set without its first n, and whether it names the one at slot j
unfoldable pub rest : ℕ → ℕ → ℕ
rest set = through (λ j s. s / 2) set

unfoldable pub named : ℕ → ℕ → Bool
named set j = eqb (rest set j % 2) 1

-- the set names one past the first n
abbrev pub names_past : ℕ → ℕ → Bool
names_past set n = not (eqb (rest set n) 0)

-- "Sum media and RTCP rates of the named components"
abbrev pub booked_up : Component → ℕ
booked_up c = c.up.media + c.up.rtcp.0

abbrev pub booked_down : Component → ℕ
booked_down c = c.down.media + c.down.rtcp.0

-- over the named of the first n slots
unfoldable pub over_named : {A : Type 0} → (Component → A → A) → A → Held → ℕ → ℕ → A
over_named f none held set = through (λ j so_far. cond (named set j) (f (held_at held j) so_far) so_far) none

-- "each direction then at most 256,000,000"
abbrev pub ceiling : ℕ
ceiling = 256000000

unfoldable pub at_most : ℕ → ℕ
at_most n = cond (ltb n ceiling) n ceiling

-- "Class is the smallest non-zero number named, else 0."
unfoldable pub smaller : ℕ → ℕ → ℕ
smaller a b = cond (eqb a 0) b (cond (eqb b 0) a (cond (ltb a b) a b))

abbrev pub count_of : Held → ℕ
count_of held = up_to_eight held.count

unfoldable pub authorised_up : Held → ℕ → ℕ
authorised_up held set = at_most (over_named (λ c sum. sum + booked_up c) 0 held set (count_of held))

unfoldable pub authorised_down : Held → ℕ → ℕ
authorised_down held set = at_most (over_named (λ c sum. sum + booked_down c) 0 held set (count_of held))

unfoldable pub authorised_class : Held → ℕ → ℕ
authorised_class held set = over_named (λ c least. smaller least c.class) 0 held set (count_of held)

unfoldable pub some_live : Held → ℕ → Bool
some_live held set = some (λ j. named set j && live (held_at held j)) (count_of held)

-- "Accepted exactly if some named component is live, the asked class number is not smaller, and both asked rates are not larger."
unfoldable pub accepted : Held → Asked → Bool
accepted held asked =
    some_live held asked.set
    && (leb (authorised_class held asked.set) asked.class
    && (leb asked.up (authorised_up held asked.set) && leb asked.down (authorised_down held asked.set)))

abbrev pub authorises : Held → ℕ → ℕ → Authorised
authorises held set refusal =
    record { refusal = refusal; class = authorised_class held set; up = authorised_up held set; down = authorised_down held set }

-- 18: "bearer's component set is empty or names one past the count". 17: "bearer beyond the authorisation". "Bearer returns authorised class
-- and rates on acceptance and on 17, else zeros."
unfoldable pub authorised : Held → Asked → Authorised
authorised held asked =
    cond (eqb asked.set 0 || names_past asked.set (count_of held)) (record { refusal = 18; class = 0; up = 0; down = 0 })
    (cond (accepted held asked) (authorises held asked.set 0) (authorises held asked.set 17))

-- the same in words, for the theorem `past_exactly`: a component from slot n on is named
abbrev pub SomePast : ℕ → ℕ → Type 0
SomePast set n = (j : ℕ) × (n ≤ j) × (named set j ≡ true)

-- .. and for the theorem `smallest_named`: "the smallest non-zero number named, else 0"
pub record SmallestNamed (held : Held) (set class : ℕ) : Type 0 where
  pub is_named : (class ≡ 0) ⊎ ((j : ℕ) × (j < count_of held) × (named set j ≡ true) × ((held_at held j).class ≡ class))
  pub smallest : (j : ℕ) → j < count_of held → named set j ≡ true → ((held_at held j).class ≡ 0 → ⊥) → (1 ≤ class) × (class ≤ (held_at held j).class)

-- .. and for the theorem `authorised_exactly`: some named component is live, the asked class number is not smaller, and both asked
-- rates are not larger
pub record Within (held : Held) (asked : Asked) : Type 0 where
  pub live : (j : ℕ) × (j < count_of held) × (named asked.set j ≡ true) × (live (held_at held j) ≡ true)
  pub class : authorised_class held asked.set ≤ asked.class
  pub up : asked.up ≤ authorised_up held asked.set
  pub down : asked.down ≤ authorised_down held asked.set
