-- The room for an evening. Assumes nothing.
use Prim.Native.Nat.{ℕ, ◌+◌, ◌*◌, ◌≤◌, ◌<◌}
use mathlib.Core.Path.{◌≡◌}
use borrow.Author.Tests.{lt-ltb, le-ltb}
use Rattle.evening.specs.Playing.{}
use Rattle.player.specs.Steps.{room_for}

-- `room`
pub room_past : (calls r : ℕ) → r ≡ 18446744073709551615 → 4294967295 < calls → r ≡ room_for calls
unfolding room_for
room_past calls r e h = rw (e, lt-ltb 4294967295 calls h)

pub room_near : (calls r : ℕ) → r ≡ 128 + 128 * calls → calls ≤ 4294967295 → r ≡ room_for calls
unfolding room_for
room_near calls r e h = rw (e, le-ltb 4294967295 calls h)
