-- "Direction: `a=sendrecv`, `sendonly`, `recvonly`, `inactive`, exactly."
use Rattle.std.specs.Prelude.{Option, Some, None, Result, MatchResult, ◌≡◌, ◌<◌, ◌⊎◌}
use Rattle.sdp.specs.declared.Unnamed.{Unnamed}
use Rattle.std.specs.Prelude.{ℕ, List, cond}
use Rattle.cursor.specs.Bytes.{is_word, bytes}
use Rattle.sdp.specs.declared.direction.Direction.{Direction}
use Rattle.sdp.specs.declared.direction.Direction.TheVariants as direction

-- the value of an `a=` line
unfoldable pub direction_of : List ℕ → Option Direction
direction_of v =
    cond (is_word (bytes "sendrecv") v) (Some direction.Sendrecv)
    (cond (is_word (bytes "sendonly") v) (Some direction.Sendonly)
    (cond (is_word (bytes "recvonly") v) (Some direction.Recvonly)
    (cond (is_word (bytes "inactive") v) (Some direction.Inactive) None)))

-- the numbers of a description
abbrev pub sendrecv : ℕ
sendrecv = 1

abbrev pub sendonly : ℕ
sendonly = 2

abbrev pub recvonly : ℕ
recvonly = 3

abbrev pub inactive : ℕ
inactive = 4

abbrev pub direction_number : Direction → ℕ
direction_number direction.Sendrecv = sendrecv
direction_number direction.Sendonly = sendonly
direction_number direction.Recvonly = recvonly
direction_number direction.Inactive = inactive

-- the result is the direction of this number, or the number again where it is none's
abbrev pub NamesDirection : ℕ → Result Direction Unnamed → Type 0
NamesDirection n r = MatchResult r (λ d. direction_number d ≡ n) (λ e. (e.0 ≡ n) × ((n ≡ 0) ⊎ (inactive < n)))
