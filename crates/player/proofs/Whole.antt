-- The whole output: it is measured on no buffer, or has room for sure. Assumes nothing.
use Rattle.std.specs.Prelude.{Option, Some, None}
use Prim.Native.Nat.{ℕ, suc, ◌+◌, ◌*◌, ◌≤◌, ◌<◌}
use native.Mathlib.Omega.{arith}
use mathlib.Core.Path.{◌≡◌, refl, ap, ◌∙◌}
use mathlib.Core.List.{List, [], ◌∷◌, ◌++◌, map}
use lib.ListN.{length, take, length-append}
use borrow.Author.Tests.{le-leb, lt-leb, le-ltb}
use Rattle.cursor.specs.Bytes.{bytes}
use Rattle.cursor.specs.Cursor.{on_some}
use Rattle.put.specs.declared.Buffer.{Buffer}
use Rattle.put.specs.Put.{Puts, Takes, place}
use Rattle.put.proofs.Places.{place_near}
use Rattle.put.proofs.Taking.{take_then}
use Rattle.put.proofs.Texts.{puts_fits, unwritten}
use Rattle.flow.specs.declared.Settings.{Settings}
use Rattle.book.specs.declared.Row.{Row}
use Rattle.book.specs.Model.{Out, log, end}
use Rattle.book.specs.Demand3.{fresh_book}
use Rattle.frame.specs.declared.Span.{Span}
use Rattle.callfile.specs.declared.CallFile.{CallFile}
use Rattle.callfile.specs.declared.ask.Ask.{Ask}
use Rattle.callfile.specs.Ask.{letter, asks_from}
use Rattle.callfile.specs.Sections.{read_file}
use Rattle.callreader.proofs.Reading.{asks_all, file_calls_lem}
use Rattle.evening.specs.Playing.{call_as, answer_line, answer_lines, calls_line, booked_line, answered, evening, output_of, output, output_into}
use Rattle.player.specs.Steps.{calls_of, room_for}
use Rattle.printing.proofs.Lengths.{answer_short, calls_short, booked_short}

-- `put_output`
module _ (s : List ℕ) (m : Option CallFile) where
  pub all_bad : {a b : Buffer} → m ≡ None → Takes a (bytes "bad file\n") b → Takes a (output_of s m) b
  unfolding output_of
  all_bad e p = rw e p

  pub all_good_lem : (file : CallFile) {a b c : Buffer} → m ≡ Some file → Takes a (calls_line file.calls) b
      → Takes b (answered file.settings (fresh_book 16) 1 s file.texts.spans (asks_from file.calls s file.texts.count file.at.at)) c
      → Takes a (output_of s m) c
  unfolding output_of evening
  all_good_lem file e p q = rw e (take_then p q)

-- The answers are short.
lines_short : (position : ℕ) (asks : List Ask) (outs : List Out) → length (answer_lines position asks outs) ≤ 128 * length asks
unfolding answer_lines
lines_short position [] outs = omega arith
lines_short position (ask ∷ asks) [] = omega arith
lines_short position (ask ∷ asks) (out ∷ outs) =
    omega (
      arith,
      length-append (answer_line position (letter ask) out.reply) (answer_lines (suc position) asks outs),
      answer_short position (letter ask) out.reply,
      lines_short (suc position) asks outs,
    )

answered_short : (settings : Settings) (rows : List Row) (position : ℕ) (s : List ℕ) (spans : List Span) (asks : List Ask)
    → length (answered settings rows position s spans asks) ≤ 64 + 128 * length asks
unfolding answered
answered_short settings rows position s spans asks =
    let calls = map (call_as s spans) asks in
    omega (
      arith,
      length-append (answer_lines position asks (log settings rows calls)) (booked_line (end settings rows calls)),
      lines_short position asks (log settings rows calls),
      booked_short (end settings rows calls),
    )

good_short : (s : List ℕ) (file : CallFile) → read_file s ≡ Some file → length (evening s file) ≤ 128 + 128 * file.calls
unfolding evening
good_short s file read =
    let asks = asks_from file.calls s file.texts.count file.at.at in
    let rest = answered file.settings (fresh_book 16) 1 s file.texts.spans asks in
    omega (
      arith,
      length-append (calls_line file.calls) rest,
      calls_short file.calls,
      answered_short file.settings (fresh_book 16) 1 s file.texts.spans asks,
      asks_all s file read,
    )

module _ (s : List ℕ) where
  pub short : length (output s) ≤ 128 + 128 * calls_of (read_file s)
  unfolding output output_of
  short = by (read_file s) refl where
    by : (m : Option CallFile) → read_file s ≡ m → length (on_some m (bytes "bad file\n") (evening s)) ≤ 128 + 128 * calls_of m
    by (Some file) e = good_short s file e
    by None e = omega arith

  few : calls_of (read_file s) ≤ 4294967295
  few = by (read_file s) refl where
    by : (m : Option CallFile) → read_file s ≡ m → calls_of m ≤ 4294967295
    by (Some file) e = file_calls_lem s file e
    by None e = omega arith

  counted : {l x : List ℕ} {n : ℕ} → Puts l 0 (output_of s (read_file s)) n x → n ≡ length (output s)
  unfolding output
  counted p =
      let n = length (output s) in
      let e : 0 + n ≡ n = omega arith in
      p.next_is ∙ ap place e ∙ place_near n (omega (arith, short, few))

  -- The buffer has room.
  into : (l x : List ℕ) (n : ℕ) → length (output s) ≤ length l → Puts l 0 (output_of s (read_file s)) n x
      → (n ≡ length (output s)) × (x ≡ output_into s l)
  unfolding output output_into
  into l x n h p = (counted p, rw (le-leb (length (output s)) (length l) h) (puts_fits p h))

  room_is : (room : ℕ) → room ≡ room_for (calls_of (read_file s)) → room ≡ 128 + 128 * calls_of (read_file s)
  unfolding room_for
  room_is room e = e ∙ rw (le-ltb 4294967295 (calls_of (read_file s)) (few))

  module _ (file : Option CallFile) (f : file ≡ read_file s) (l : List ℕ) where
    pub roomy : (room : ℕ) → room ≡ room_for (calls_of file) → room ≤ length l → (x : List ℕ) (n : ℕ) → Puts l 0 (output_of s file) n x
        → (n ≡ length (output s)) × (x ≡ output_into s l)
    roomy room e h x n p = into l x n (omega (arith, short, room_is room (rw f at e), h)) (rw f at p)

    -- what is put into no buffer is only counted
    module _ (part : List ℕ) (n : ℕ) (p : Puts (take 0 l) 0 (output_of s file) n part) where
      stays : part ++ l ≡ l
      stays = unwritten l p

      need_is : n ≡ length (output s)
      need_is = counted (rw f at p)

      pub too_long : length (part ++ l) < n → (n ≡ length (output s)) × (part ++ l ≡ output_into s l)
      unfolding output_into
      too_long h =
          let k : length l < length (output s) = omega (arith, h, need_is, ap length stays) in
          (need_is, rw (lt-leb (length (output s)) (length l) k) stays)

      pub fitting : n ≤ length (part ++ l) → (m : ℕ) (x : List ℕ) → Puts (part ++ l) 0 (output_of s file) m x
          → (m ≡ length (output s)) × (x ≡ output_into s l)
      fitting h m x q =
          into l x m (omega (arith, h, need_is, ap length stays)) (rw f at (rw stays at q))
