-- What the calls on lent rows promise: the answer, the rows and the bytes of the book's model.
use Rattle.std.specs.Prelude.{ℕ, ◌≡◌, List, [], ◌++◌, length, drop}
use Rattle.flow.specs.declared.Settings.{Settings}
use Rattle.book.specs.declared.Reply.{Reply}
use Rattle.book.specs.declared.Row.{Row}
use Rattle.book.specs.Model.{Call, call_of}

-- "bytes past the end unchanged"; where no byte is written, none changes
abbrev pub over : List ℕ → List ℕ → List ℕ
over bytes l = bytes ++ drop (length bytes) l

-- what a call gave: its answer, the rows at exit, and the buffer, as it was lent and at exit
pub record Made : Type 0 where
  pub reply : Reply
  pub rows : List Row
  pub lent : List ℕ
  pub buffer : List ℕ

-- a call that is lent no buffer
abbrev pub gave : Reply → List Row → Made
gave reply rows = record { reply = reply; rows = rows; lent = []; buffer = [] }

-- a statement; the room that it brings is the length of what is lent
abbrev pub gave_into : Reply → List Row → List ℕ → List ℕ → Made
gave_into reply rows lent buffer = record { reply = reply; rows = rows; lent = lent; buffer = buffer }

-- What is promised of one call, by the rows that it finds. The contracts of the six functions for C say this and nothing else: an answer with the
-- settings that it brings, every other call with all settings. Rows that are lent to be read are at exit what they were.
pub record Promised (settings : Settings) (found : List Row) (call : Call) (made : Made) : Type 0 where
  pub answer : made.reply ≡ (call_of settings found call).out.reply
  pub rows : made.rows ≡ (call_of settings found call).rows
  pub buffer : made.buffer ≡ over (call_of settings found call).out.bytes made.lent
