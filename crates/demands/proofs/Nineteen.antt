-- 10 and 19, exactly: of any rows, sound or not (for 19 of eight slots, which every row lent has), any settings and any call. Assumes nothing.
use Prim.Native.Nat.{ℕ, zero, suc, ◌+◌, ◌≤◌, ◌<◌}
use native.Mathlib.Omega.{arith}
use mathlib.Core.Path.{◌≡◌, refl, sym, ◌∙◌, ap}
use mathlib.Core.Logic.{◌↔◌, ◌⊎◌, inl, inr}
use mathlib.Core.Bool.{Bool, true, false, cond, not, ◌||◌, true≢false}
use mathlib.Core.List.{List, [], ◌∷◌}
use lib.Dec.{ltb, leb, eqb}
use lib.ListN.{length, get_or}
use borrow.Author.Tests.{ltb-true, ltb-false, leb-true, eqb-true, eqb-false, not-true, not-false}
use Rattle.sdp.specs.Text.{read_text}
use Rattle.sdp.specs.Range.{from1}
use Rattle.sdp.proofs.Said.{on_cond}
use Rattle.sdp.proofs.Ranged.{range_1, in_1}
use Rattle.sdp.proofs.Ranges.{text_bounds}
use Rattle.flow.specs.declared.Authorised.{Authorised}
use Rattle.flow.specs.declared.Settings.{Settings}
use Rattle.flow.specs.Bearer.{rest, count_of, accepted, authorised}
use Rattle.flow.specs.Fit.{said, fit_of}
use Rattle.flow.specs.Range.{held_rates}
use Rattle.flow.proofs.Tests.{by_test, or_either, neither_left, neither_right}
use Rattle.statement.specs.declared.Written.{Written}
use Rattle.statement.specs.Statement.{statement_of, written}
use Rattle.book.specs.declared.Reply.{Reply}
use Rattle.book.specs.declared.Row.{Row}
use Rattle.book.specs.declared.Seen.{Seen}
use Rattle.book.specs.declared.Stepped.{Stepped}
use Rattle.book.specs.Booking.{rates_of, above}
use Rattle.book.specs.Calls.{fresh_row, refused_with, stays, barred, offer_said, offer_step, derives, answer_books, answer_said, answer_step, cancel_step, close_step, is_asked, bearer_step, statement_step}
use Rattle.book.specs.Look.{nothing_seen, looked}
use Rattle.book.specs.Model.{Call, offers, answers, cancels, closes, asks, states, session_of, Out, look, row_call, call_of}
use Rattle.book.specs.Sound.{is_sound}
use Rattle.book.proofs.Ranged.{range_sound, range_rates, sound_exactly}
use Rattle.demands.specs.Table.{Brings, NotTen, SomeOutside, EightSlots}
use Rattle.demands.proofs.Looks.{seen_sound}
use Rattle.demands.proofs.Named.{out_in, out_far}

-- what it brings, as a test
abbrev pub is_well : Call → Bool
is_well (offers session origin text) = leb origin 1
is_well (answers session text) = true
is_well (cancels session) = true
is_well (closes session) = true
is_well (asks session bearer) = is_asked bearer.class
is_well (states session room) = true

origin_is : (origin : ℕ) → origin ≤ 1 → (origin ≡ 0) ⊎ (origin ≡ 1)
origin_is zero h = inl refl
origin_is (suc zero) h = inr refl
origin_is (suc (suc origin)) h = absurd (omega (arith, h))

well_brings : (call : Call) → is_well call ≡ true → Brings call
unfolding is_asked
well_brings (offers session origin text) e = origin_is origin (leb-true origin 1 e)
well_brings (answers session text) e = tt
well_brings (cancels session) e = tt
well_brings (closes session) e = tt
well_brings (asks session bearer) e =
    let n = bearer.class in
    by_test (eqb n 2) (λ t. inl (eqb-true n 2 t))
    (λ t.
    inr
    (by_test (eqb n 4) (λ u. inl (eqb-true n 4 u))
    (λ u.
    inr
    (by_test (eqb n 6) (λ v. inl (eqb-true n 6 v))
    (λ v. inr (by_test (eqb n 8) (λ w. inl (eqb-true n 8 w)) (λ w. inr (eqb-true n 9 (rw (t, u, v, w) at e)))))))))
well_brings (states session room) e = tt

brings_well : (call : Call) → Brings call → is_well call ≡ true
unfolding is_asked
brings_well (offers session origin text) (inl e) = rw e
brings_well (offers session origin text) (inr e) = rw e
brings_well (answers session text) h = refl
brings_well (cancels session) h = refl
brings_well (closes session) h = refl
brings_well (asks session bearer) (inl e) = rw e
brings_well (asks session bearer) (inr (inl e)) = rw e
brings_well (asks session bearer) (inr (inr (inl e))) = rw e
brings_well (asks session bearer) (inr (inr (inr (inl e)))) = rw e
brings_well (asks session bearer) (inr (inr (inr (inr e)))) = rw e
brings_well (states session room) h = refl

-- A look counts the rows; more than sixteen are seventeen.
counts : (rows : List Row) (seen : Seen) → seen.rows ≤ 17
    → (seen.rows + length rows ≤ 17 → (look seen rows).rows ≡ seen.rows + length rows) × (17 ≤ seen.rows + length rows → (look seen rows).rows ≡ 17)
unfolding look looked
counts [] seen few = (λ h. omega arith, λ h. omega (arith, h))
counts (row ∷ rows) seen few =
    by_test (ltb seen.rows 17)
    (λ t.
    let next : (looked seen row).rows ≡ seen.rows + 1 = rw t in
    let c = counts rows (looked seen row) (omega (arith, next, ltb-true seen.rows 17 t)) in
    (λ h. omega (arith, next, c.0 (omega (arith, next, h))), λ h. c.1 (omega (arith, next, h))))
    (λ t.
    let next : (looked seen row).rows ≡ 17 = rw t in
    let c = counts rows (looked seen row) (omega (arith, next)) in
    (λ h. absurd (omega (arith, h, ltb-false seen.rows 17 t)), λ h. c.1 (omega (arith, next))))

-- It finds 1 to 16 where so many are lent.
found_lent : (rows : List Row) → from1 16 (look nothing_seen rows).rows ≡ true → (1 ≤ length rows) × (length rows ≤ 16)
found_lent rows e =
    let r = range_1 16 (look nothing_seen rows).rows e in
    let c = counts rows nothing_seen (omega arith) in
    by_test (ltb (length rows) 17) (λ t. let l = ltb-true (length rows) 17 t in omega (arith, r, l, c.0 (omega (arith, l))))
    (λ t. absurd (omega (arith, r, c.1 (omega (arith, ltb-false (length rows) 17 t)))))

lent_found : (rows : List Row) → (1 ≤ length rows) × (length rows ≤ 16) → from1 16 (look nothing_seen rows).rows ≡ true
lent_found rows h = in_1 16 (look nothing_seen rows).rows (omega (arith, h, (counts rows nothing_seen (omega arith)).0 (omega (arith, h))))

-- A look that does not find all rows sound has found one that is not.
unsound_found : (rows : List Row) (seen : Seen) → (seen.sound ≡ 0 → ⊥) → (look seen rows).sound ≡ 0
    → (i : ℕ) × (i < length rows) × (is_sound (get_or rows i fresh_row) ≡ false)
unfolding look looked
unsound_found [] seen h e = absurd (h e)
unsound_found (row ∷ rows) seen h e =
    by_test (is_sound row)
    (λ t. let u = unsound_found rows (looked seen row) (rw t h) e in (suc u.0, omega (arith, u.1), u.2))
    (λ t. (0, omega arith, t))

-- the number of an answer that passed 10 and 19
abbrev pub Later : ℕ → Type 0
Later n = (n ≡ 10 → ⊥) × (n ≡ 19 → ⊥)

-- the number of an answer: what bars the call, else a later one
record Barred (bar number : ℕ) : Type 0 where
  first : (bar ≡ 0 → ⊥) → number ≡ bar
  later : bar ≡ 0 → Later number

-- What is barred first, and else has a later number, has that number.
bars : {A : Type 0} (number_of : A → ℕ) (bar : ℕ) (stop next : A) → number_of stop ≡ bar → Later (number_of next)
    → Barred bar (number_of (cond (not (eqb bar 0)) stop next))
bars number_of bar stop next e h =
    by_test (eqb bar 0) (λ t. rw t (record { first = λ n. absurd (n (eqb-true bar 0 t)); later = λ z. h }))
    (λ t. rw t (record { first = λ n. e; later = λ z. absurd (eqb-false bar 0 t z) }))

module _ (row : Row) (seen : Seen) where
  abbrev Past : Stepped → Type 0
  Past step = Later step.reply.refusal

  abbrev PastReply : Reply → Type 0
  PastReply reply = Later reply.refusal

  bars_step : (well : Bool) (next : Stepped) → Past next
      → Barred (barred seen row well) (cond (not (eqb (barred seen row well) 0)) (stays row (barred seen row well) 0) next).reply.refusal
  bars_step well next h = bars (λ (s : Stepped). s.reply.refusal) (barred seen row well) (stays row (barred seen row well) 0) next refl h

  bars_reply : (well : Bool) (next : Reply) → PastReply next
      → Barred (barred seen row well) (cond (not (eqb (barred seen row well) 0)) (refused_with (barred seen row well) 0) next).refusal
  bars_reply well next h = bars (λ (r : Reply). r.refusal) (barred seen row well) (refused_with (barred seen row well) 0) next refl h

  -- A text's number is at most 9.
  reads : (text : List ℕ) (next : Stepped) → Past next
      → Past (cond (not (eqb (read_text text).refusal 0)) (stays row (read_text text).refusal (read_text text).place) next)
  reads text next h = on_cond Past (not (eqb (read_text text).refusal 0)) (omega (arith, (text_bounds text).0)) h

  -- Every call is barred first: "Offer: 10, 19, 11, ..", "Answer: 10, 19, 12, ..", and so on.
  call_barred : (settings : Settings) (call : Call) → Barred (barred seen row (is_well call)) (row_call settings seen row call).out.reply.refusal
  unfolding row_call offer_step offer_said answer_step answer_said answer_books cancel_step close_step bearer_step authorised statement_step written
  call_barred settings (offers session origin text) =
      bars_step (leb origin 1) _
      (on_cond Past (not (eqb row.offer.present 0)) (omega arith)
      (reads text _ (on_cond Past (ltb (read_text text).count row.held.count) (omega arith) (omega arith))))
  call_barred settings (answers session text) =
      bars_step true _
      (on_cond Past (eqb row.offer.present 0) (omega arith)
      (reads text _
      (on_cond Past (not (eqb (fit_of row.offer.said (said (read_text text))).refusal 0)) (omega arith)
      (on_cond Past (above settings.pool seen.booked (rates_of row.held) (rates_of (derives settings row (read_text text)))) (omega arith)
      (omega arith)))))
  call_barred settings (cancels session) = bars_step true _ (on_cond Past (eqb row.offer.present 0) (omega arith) (omega arith))
  call_barred settings (closes session) =
      bars_step true _
      (on_cond Past (not (eqb row.offer.present 0)) (omega arith) (on_cond Past (eqb row.held.completed 0) (omega arith) (omega arith)))
  call_barred settings (asks session bearer) =
      bars_reply (is_asked bearer.class) _
      (on_cond PastReply (eqb row.held.completed 0) (omega arith)
      (on_cond (λ (a : Authorised). Later a.refusal) (eqb bearer.set 0 || not (eqb (rest bearer.set (count_of row.held)) 0)) (omega arith)
      (on_cond (λ (a : Authorised). Later a.refusal) (accepted row.held bearer) (omega arith) (omega arith))))
  call_barred settings (states session room) =
      bars_reply true _
      (on_cond PastReply (eqb row.held.completed 0) (omega arith)
      (on_cond (λ (w : Written). Later w.refusal) (leb (length (statement_of row.held)) room) (omega arith) (omega arith)))

module _ (settings : Settings) (rows : List Row) (call : Call) where
  abbrev seen : Seen
  seen = look nothing_seen rows

  abbrev row : Row
  row = get_or rows (session_of call) fresh_row

  abbrev number : ℕ
  number = (call_of settings rows call).out.reply.refusal

  -- the tests of 10, but for the session, and of 19
  abbrev ten_test : Bool
  ten_test = not (from1 16 seen.rows) || not (is_well call)

  abbrev nineteen_test : Bool
  nineteen_test = eqb seen.sound 0 || not (held_rates row.held)

  -- what is found: 10 is not passed; or it is, and a row is outside its ranges; or it is, and none is, and the call is not barred
  pub data Found : Type 0 where
    ten : number ≡ 10 → (NotTen rows call → ⊥) → Found
    nineteen : number ≡ 19 → NotTen rows call → SomeOutside rows → Found
    neither : Later number → NotTen rows call → (EightSlots rows → SomeOutside rows → ⊥) → barred seen row (is_well call) ≡ 0 → Found

  passes_test : NotTen rows call → ten_test ≡ false
  passes_test p = rw (lent_found rows p.lent, brings_well call p.brings)

  test_passes : session_of call < length rows → ten_test ≡ false → NotTen rows call
  test_passes lt e =
      record {
        session = lt;
        lent = found_lent rows (not-false _ (neither_left (not (from1 16 seen.rows)) (not (is_well call)) e));
        brings = well_brings call (not-false _ (neither_right (not (from1 16 seen.rows)) (not (is_well call)) e));
      }

  -- Where the test of 19 stops the call, some row is outside its ranges: one that the look has found, or the named one.
  test_outside : session_of call < length rows → nineteen_test ≡ true → SomeOutside rows
  test_outside lt e = by (or_either (eqb seen.sound 0) (not (held_rates row.held)) e) where
    by : (eqb seen.sound 0 ≡ true) ⊎ (not (held_rates row.held) ≡ true) → SomeOutside rows
    by (inl t) =
        let u = unsound_found rows nothing_seen (λ z. omega (arith, z)) (eqb-true seen.sound 0 t) in
        record { at = u.0; lent = u.1; outside = λ r. true≢false (sym (range_sound _ r) ∙ u.2) }
    by (inr t) = record { at = session_of call; lent = lt; outside = λ r. true≢false (sym (range_rates row r) ∙ not-true _ t) }

  -- Where it does not, none is.
  test_inside : nineteen_test ≡ false → EightSlots rows → SomeOutside rows → ⊥
  test_inside e eight o =
      let z = eqb-false seen.sound 0 (neither_left (eqb seen.sound 0) (not (held_rates row.held)) e) in
      o.outside
      ((sound_exactly (get_or rows o.at fresh_row) (eight.components o.at o.lent) (eight.media o.at o.lent)).0
      (seen_sound rows nothing_seen z o.at o.lent))

  bar_10 : ten_test ≡ true → barred seen row (is_well call) ≡ 10
  unfolding barred
  bar_10 t = rw t

  bar_19 : ten_test ≡ false → nineteen_test ≡ true → barred seen row (is_well call) ≡ 19
  unfolding barred
  bar_19 t u = rw (t, u)

  bar_0 : ten_test ≡ false → nineteen_test ≡ false → barred seen row (is_well call) ≡ 0
  unfolding barred
  bar_0 t u = rw (t, u)

  -- The number is that of the call on its row.
  named : session_of call < length rows → Barred (barred seen row (is_well call)) (call_of settings rows call).out.reply.refusal
  named lt = rw (out_in settings rows call lt) (call_barred row seen settings call)

  pub found : Found
  found =
      by_test (ltb (session_of call) (length rows))
      (λ l.
      let lt = ltb-true (session_of call) (length rows) l in
      by_test ten_test (λ t. ten ((named lt).first (λ z. omega (arith, z, bar_10 t)) ∙ bar_10 t) (λ p. true≢false (sym t ∙ passes_test p)))
      (λ t.
      by_test nineteen_test
      (λ u. nineteen ((named lt).first (λ z. omega (arith, z, bar_19 t u)) ∙ bar_19 t u) (test_passes lt t) (test_outside lt u))
      (λ u. neither ((named lt).later (bar_0 t u)) (test_passes lt t) (test_inside u) (bar_0 t u))))
      (λ l.
      ten (ap (λ (o : Out). o.reply.refusal) (out_far settings rows call l)) (λ p. omega (arith, p.session, ltb-false (session_of call) (length rows) l)))

  -- 10, exactly: a call is refused with 10 exactly if it does not pass it.
  pub ten_exactly : ((call_of settings rows call).out.reply.refusal ≡ 10) ↔ (NotTen rows call → ⊥)
  ten_exactly = by found where
    by : Found → (number ≡ 10) ↔ (NotTen rows call → ⊥)
    by (ten e n) = (λ h. n, λ h. e)
    by (nineteen e p o) = (λ h. absurd (omega (arith, e, h)), λ h. absurd (h p))
    by (neither k p o b) = (λ h. absurd (k.0 h), λ h. absurd (h p))

  -- 19, exactly: a call on rows of eight slots is refused with 19 exactly if it passes 10 and some lent row, named or not, is outside its ranges.
  pub nineteen_exactly : EightSlots rows → ((call_of settings rows call).out.reply.refusal ≡ 19) ↔ (NotTen rows call × SomeOutside rows)
  nineteen_exactly eight = by found where
    by : Found → (number ≡ 19) ↔ (NotTen rows call × SomeOutside rows)
    by (ten e n) = (λ h. absurd (omega (arith, e, h)), λ h. absurd (n h.0))
    by (nineteen e p o) = (λ h. (p, o), λ h. e)
    by (neither k p o b) = (λ h. absurd (k.1 h), λ h. absurd (o eight h.1))
