-- A text's answer as one number, for C.
use Rattle.std.specs.Prelude.{ℕ, ◌+◌, ◌*◌}
use Rattle.sdp.specs.declared.Text.{Text}

-- the place is at most 4,097 and the refusal at most 9, so each can be read back
abbrev pub packed : Text → ℕ
packed t = t.refusal + 256 * t.place + 4294967296 * t.count
