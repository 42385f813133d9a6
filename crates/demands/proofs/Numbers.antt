-- The number of every answer is the first of its order, each given exactly when the table says: of any rows of eight slots, sound or not, any
-- settings and any call. Assumes nothing.
use Prim.Native.Nat.{ℕ, ◌+◌, ◌-◌, ◌≤◌, ◌<◌}
use native.Mathlib.Omega.{arith}
use native.Mathlib.Decide.{ℕ_discrete}
use mathlib.Core.Path.{◌≡◌, refl, sym, ◌∙◌, ap}
use mathlib.Core.Logic.{◌↔◌, inl, inr, ⊎_map}
use mathlib.Core.Bool.{Bool, true, false, cond, not, true≢false}
use mathlib.Core.List.{List, [], ◌∷◌}
use lib.Dec.{ltb, leb, eqb}
use lib.ListN.{length, get_or, set, get_or-eq_default}
use borrow.Author.Tests.{lt-ltb, ltb-true, ltb-false, leb-true, leb-false, eqb-true, eqb-false, not-true, not-false}
use Rattle.sdp.specs.Text.{read_text}
use Rattle.flow.specs.declared.Asked.{Asked}
use Rattle.flow.specs.declared.Authorised.{Authorised}
use Rattle.flow.specs.declared.Descriptions.{Descriptions}
use Rattle.flow.specs.declared.Fit.{Fit}
use Rattle.flow.specs.declared.Held.{Held}
use Rattle.flow.specs.declared.Settings.{Settings}
use Rattle.flow.specs.Bearer.{rest, count_of, names_past, authorised, Within}
use Rattle.flow.specs.Fit.{said, misfits_at, fit_of, Fits}
use Rattle.flow.specs.Slots.{up_to_eight}
use Rattle.flow.proofs.Exactly.{empty_outside, past_outside, beyond_authorised, authorised_exactly}
use Rattle.flow.proofs.Lowest.{lowest_none}
use Rattle.flow.proofs.Naming.{past_exactly}
use Rattle.flow.proofs.Misfit.{fits_exactly}
use Rattle.flow.proofs.Ranges.{fit_says}
use Rattle.flow.proofs.Tests.{by_test, or_either, either_or}
use Rattle.statement.specs.Statement.{statement_of, written}
use Rattle.book.specs.declared.Reply.{Reply}
use Rattle.book.specs.declared.Row.{Row}
use Rattle.book.specs.declared.Stepped.{Stepped}
use Rattle.book.specs.Booking.{rates_of, above}
use Rattle.book.specs.Calls.{fresh_row, barred, offer_said, offer_step, derives, answer_books, answer_said, answer_step, cancel_step, close_step, bearer_step, statement_step}
use Rattle.book.specs.Look.{nothing_seen}
use Rattle.book.specs.Model.{Call, offers, answers, cancels, closes, asks, states, session_of, look, row_call, call_of}
use Rattle.book.specs.Sound.{is_sound, RowRange}
use Rattle.book.specs.Totals.{sum_of, row_up, row_down}
use Rattle.book.proofs.Ranged.{range_sound, sound_exactly}
use Rattle.demands.proofs.Named.{out_in}
use Rattle.demands.specs.Table.{Refusal, SomeOutside, EightSlots, given11, given12, given_text, given13, given14, given15, answered, given16, given17, given18, given20, then_of, order_of, First}
use Rattle.demands.proofs.Nineteen.{is_well, Found, ten, nineteen, neither, found}
use Rattle.demands.proofs.RowRanges.{fresh_range, RowsRange}
use Rattle.demands.proofs.Totals.{sum_set, fresh_books, look_finds}

-- There is no other first.
pub first_only : (rs : List Refusal) (n m : ℕ) → First rs n → First rs m → n ≡ m
unfolding First
first_only [] n m h k = h ∙ sym k
first_only (r ∷ rs) n m (inl h) (inl k) = h.1 ∙ sym k.1
first_only (r ∷ rs) n m (inl h) (inr k) = absurd (k.0 h.0)
first_only (r ∷ rs) n m (inr h) (inl k) = absurd (h.0 k.0)
first_only (r ∷ rs) n m (inr h) (inr k) = first_only rs n m h.1 k.1

-- One test of an order, and then the others.
tests : {A : Type 0} (number_of : A → ℕ) (r : Refusal) (rs : List Refusal) (b : Bool) (stop next : A) → number_of stop ≡ r.number
    → (b ≡ true → r.when) → (b ≡ false → r.when → ⊥) → First rs (number_of next) → First (r ∷ rs) (number_of (cond b stop next))
unfolding First
tests number_of r rs true stop next e is isnt h = inl (is refl, e)
tests number_of r rs false stop next e is isnt h = inr (isnt refl, h)

-- Where no test is left, it is accepted.
passes : First [] 0
unfolding First
passes = refl

-- A test of a number that is not 0, and of one that is.
some_yes : (n : ℕ) → not (eqb n 0) ≡ true → n ≡ 0 → ⊥
some_yes n e = eqb-false n 0 (not-true (eqb n 0) e)

some_no : (n : ℕ) → not (eqb n 0) ≡ false → (n ≡ 0 → ⊥) → ⊥
some_no n e h = h (eqb-true n 0 (not-false (eqb n 0) e))

-- An answer whose fit is no refusal fits, and one that fits has no refusal.
fit_fits : (offer answer : Descriptions) → (fit_of offer answer).refusal ≡ 0 → Fits offer answer
fit_fits offer answer h =
    let f = fit_says offer answer h in record { counts = f.0; none = lowest_none (misfits_at offer answer) (up_to_eight offer.count) f.1 }

fits_fit : (offer answer : Descriptions) → Fits offer answer → (fit_of offer answer).refusal ≡ 0
fits_fit offer answer f = ap (λ (t : Fit). t.refusal) ((fits_exactly offer answer).1 f)

-- Where no row is outside its ranges, all are inside.
all_inside : (rows : List Row) → EightSlots rows → (SomeOutside rows → ⊥) → RowsRange rows
all_inside rows eight none = record { each = each } where
  inside : (j : ℕ) → j < length rows → RowRange (get_or rows j fresh_row)
  inside j l =
      by_test (is_sound (get_or rows j fresh_row)) (sound_exactly (get_or rows j fresh_row) (eight.components j l) (eight.media j l)).0
      (λ t. absurd (none (record { at = j; lent = l; outside = λ r. true≢false (sym (range_sound _ r) ∙ t) })))

  each : (j : ℕ) → RowRange (get_or rows j fresh_row)
  each j =
      by_test (ltb j (length rows)) (λ t. inside j (ltb-true j (length rows) t))
      (λ t. rw (get_or-eq_default rows fresh_row (ltb-false j (length rows) t)) fresh_range)

-- The total with one row changed, by the total before.
total_then : (f : Row → ℕ) (rows : List Row) (j : ℕ) (now : Row) → f fresh_row ≡ 0 → j < length rows
    → sum_of f rows - f (get_or rows j fresh_row) + f now ≡ sum_of f (set rows j now)
total_then f rows j now none l = omega (arith, none, sum_set f rows j fresh_row l, sum_set f rows j now l)

module _ (settings : Settings) (rows : List Row) (session : ℕ) (text : List ℕ) where
  abbrev row : Row
  row = get_or rows session fresh_row

  abbrev pool_test : Bool
  pool_test = above settings.pool (look nothing_seen rows).booked (rates_of row.held) (rates_of (derives settings row (read_text text)))

  -- The test of the pool is whether one of the new totals is above it.
  pool_exactly : session < length rows → RowsRange rows → length rows ≤ 16 → (pool_test ≡ true) ↔ (given16 settings rows session row text).when
  unfolding above
  pool_exactly below range few =
      rw (
        look_finds rows range few,
        total_then row_up rows session (answered settings row text) fresh_books.0 below,
        total_then row_down rows session (answered settings row text) fresh_books.1 below,
      ) (
        (λ e. ⊎_map (ltb-true _ _) (ltb-true _ _) (or_either _ _ e)),
        (λ h. either_or _ _ (⊎_map (lt-ltb _ _) (lt-ltb _ _) h)),
      )

-- The numbers of a bearer past 13, in order.
bearer_then : (row : Row) (bearer : Asked) → First (given18 row bearer ∷ given17 row bearer ∷ []) (authorised row.held bearer).refusal
unfolding First
bearer_then row bearer =
    by_test (eqb bearer.set 0)
    (λ t. let z = eqb-true bearer.set 0 t in inl (inl z, ap number (empty_outside held bearer z)))
    (λ t.
    by_test (names_past bearer.set (count_of held))
    (λ u. inl (inr ((past_exactly bearer.set (count_of held)).0 u), ap number (past_outside held bearer (some_yes (rest bearer.set (count_of held)) u))))
    (λ u. inr (counted t u, judged (eqb-false bearer.set 0 t) (eqb-true _ 0 (not-false _ u)) (ℕ_discrete (authorised held bearer).refusal 0)))) where
      held : Held
      held = row.held

      number : Authorised → ℕ
      number a = a.refusal

      counted : eqb bearer.set 0 ≡ false → names_past bearer.set (count_of held) ≡ false → (given18 row bearer).when → ⊥
      counted t u (inl e) = eqb-false bearer.set 0 t e
      counted t u (inr s) = true≢false (sym ((past_exactly bearer.set (count_of held)).1 s) ∙ u)

      judged : (bearer.set ≡ 0 → ⊥) → rest bearer.set (count_of held) ≡ 0 → Dec ((authorised held bearer).refusal ≡ 0)
          → First (given17 row bearer ∷ []) (authorised held bearer).refusal
      judged some none (yes e) = inr (λ h. h ((authorised_exactly held bearer some none).0 e), e)
      judged some none (no e) =
          let beyond : Within held bearer → ⊥ = λ w. e ((authorised_exactly held bearer some none).1 w) in
          inl (beyond, ap number (beyond_authorised held bearer some none beyond))

-- The number of a statement past 13.
statement_then : (row : Row) (room : ℕ) → First (given20 row room ∷ []) (written row.held room).refusal
unfolding First written
statement_then row room =
    let n = length (statement_of row.held) in
    by_test (leb n room) (λ t. rw t (inr (λ h. omega (arith, h, leb-true n room t), refl))) (λ t. rw t (inl (leb-false n room t, refl)))

abbrev step_number : Stepped → ℕ
step_number s = s.reply.refusal

abbrev reply_number : Reply → ℕ
reply_number r = r.refusal

module _ (settings : Settings) (rows : List Row) (few : length rows ≤ 16) (range : RowsRange rows) where
  abbrev at : ℕ → Row
  at session = get_or rows session fresh_row

  abbrev Answers : Call → Type 0
  Answers call =
      session_of call < length rows → barred (look nothing_seen rows) (at (session_of call)) (is_well call) ≡ 0
      → First (then_of settings rows (at (session_of call)) call) (row_call settings (look nothing_seen rows) (at (session_of call)) call).out.reply.refusal

  -- A call that is not barred is answered by the rest of its order.
  row_then : (call : Call) → Answers call
  unfolding session_of row_call offer_step offer_said answer_step answer_said answer_books cancel_step close_step bearer_step statement_step
  row_then (offers s origin text) below free =
      rw free
      (tests step_number (given11 (at s)) _ (not (eqb (at s).offer.present 0)) _ _ refl (some_yes _) (some_no _)
      (tests step_number (given_text text) _ (not (eqb (read_text text).refusal 0)) _ _ refl (some_yes _) (some_no _)
      (tests step_number (given14 (at s) text) _ (ltb (read_text text).count (at s).held.count) _ _ refl (ltb-true _ _)
      (λ t h. omega (arith, h, ltb-false (read_text text).count (at s).held.count t))
      passes)))
  row_then (answers s text) below free =
      rw free
      (tests step_number (given12 (at s)) _ (eqb (at s).offer.present 0) _ _ refl (eqb-true _ _) (eqb-false _ _)
      (tests step_number (given_text text) _ (not (eqb (read_text text).refusal 0)) _ _ refl (some_yes _) (some_no _)
      (tests step_number (given15 (at s) text) _ (not (eqb (fit_of (at s).offer.said (said (read_text text))).refusal 0)) _ _ refl
      (λ t f. some_yes (fit_of (at s).offer.said (said (read_text text))).refusal t (fits_fit (at s).offer.said (said (read_text text)) f))
      (λ t h. some_no (fit_of (at s).offer.said (said (read_text text))).refusal t (λ z. h (fit_fits (at s).offer.said (said (read_text text)) z)))
      (tests step_number (given16 settings rows s (at s) text) _ (pool_test settings rows s text) _ _ refl (pool_exactly settings rows s text below range few).0
      (λ t h. true≢false (sym ((pool_exactly settings rows s text below range few).1 h) ∙ t))
      passes))))
  row_then (cancels s) below free =
      rw free (tests step_number (given12 (at s)) _ (eqb (at s).offer.present 0) _ _ refl (eqb-true _ _) (eqb-false _ _) passes)
  row_then (closes s) below free =
      rw free
      (tests step_number (given11 (at s)) _ (not (eqb (at s).offer.present 0)) _ _ refl (some_yes _) (some_no _)
      (tests step_number (given13 (at s)) _ (eqb (at s).held.completed 0) _ _ refl (eqb-true _ _) (eqb-false _ _) passes))
  row_then (asks s bearer) below free =
      rw free
      (tests reply_number (given13 (at s)) _ (eqb (at s).held.completed 0) _ _ refl (eqb-true _ _) (eqb-false _ _) (bearer_then (at s) bearer))
  row_then (states s room) below free =
      rw free
      (tests reply_number (given13 (at s)) _ (eqb (at s).held.completed 0) _ _ refl (eqb-true _ _) (eqb-false _ _) (statement_then (at s) room))

-- Every call on rows of eight slots is answered with the first of its order that is given, and with 0 where none is.
pub first_given : (settings : Settings) (rows : List Row) (call : Call) → EightSlots rows
    → First (order_of settings rows call) (call_of settings rows call).out.reply.refusal
unfolding First
first_given settings rows call eight = by (found settings rows call) where
  by : Found settings rows call → First (order_of settings rows call) (call_of settings rows call).out.reply.refusal
  by (ten e n) = inl (n, e)
  by (nineteen e p o) = inr (λ h. h p, inl (o, e))
  by (neither k p o free) =
      let range = all_inside rows eight (o eight) in
      inr (λ h. h p, inr (o eight, rw (out_in settings rows call p.session) (row_then settings rows p.lent.1 range call p.session free)))
