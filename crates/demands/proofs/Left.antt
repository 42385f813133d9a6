-- What is left of a log: all that remains, what is no offer and the offers of each session in their order. Assumes nothing.
use Prim.Native.Nat.{ℕ}
use native.Mathlib.Omega.{arith}
use native.Mathlib.Decide.{ℕ_discrete}
use mathlib.Core.Path.{◌≡◌, refl, sym, ◌∙◌, ap, subst}
use mathlib.Core.Bool.{Bool, true, false, cond, not, ◌&&◌}
use mathlib.Core.List.{List, [], ◌∷◌}
use mathlib.Core.Option.{Option, none, some, some-injective}
use lib.Dec.{eqb}
use borrow.Author.Tests.{eqb-true, eq-eqb, ne_eqb}
use Rattle.book.specs.Model.{Call, offers, answers, cancels, closes, asks, states, session_of}
use Rattle.book.specs.Serial.{Entry, refused, Waiting, none_waits, now_waits, behind, placed, serial_from, serial}
use Rattle.book.specs.Left.{call_kind, answered_next, remaining, offers_of, others, AllAccepted}

none_some : {X : Type 0} (o : Entry) → none ≡ some o → X
none_some o e = let z : ◌≡◌ {A = ℕ} 0 1 = cc in absurd (omega arith)

-- what waits is an accepted offer of its session
record Offer (s : ℕ) (o : Entry) : Type 0 where
  accepted : refused o.out ≡ false
  offer : call_kind o.call ≡ 0
  session : session_of o.call ≡ s

abbrev Waits : Waiting → Type 0
Waits waiting = (s : ℕ) (o : Entry) → waiting s ≡ some o → Offer s o

waits_now : (waiting : Waiting) (s : ℕ) (offer : Option Entry) → Waits waiting → ((o : Entry) → offer ≡ some o → Offer s o) → Waits (now_waits waiting s offer)
waits_now waiting s offer h new t o = by (eqb t s) refl where
  by : (c : Bool) → eqb t s ≡ c → cond c offer (waiting t) ≡ some o → Offer t o
  by true q e = rw (eqb-true t s q) (new o e)
  by false q e = h t o e

-- Induction on a log and what is left of it.
record Steps (Q : Waiting → List Entry → List Entry → Type 0) : Type 0 where
  nil : (waiting : Waiting) → Q waiting [] []
  refuses : (e : Entry) (waiting : Waiting) (l k : List Entry) → refused e.out ≡ true → Q waiting l k → Q waiting (e ∷ l) k
  opens : (e : Entry) (waiting : Waiting) (l k : List Entry) → refused e.out ≡ false → call_kind e.call ≡ 0
      → Q (now_waits waiting (session_of e.call) (some e)) l k → Q waiting (e ∷ l) k
  drops : (e : Entry) (waiting : Waiting) (l k : List Entry) → refused e.out ≡ false → call_kind e.call ≡ 2
      → Q (now_waits waiting (session_of e.call) none) l k → Q waiting (e ∷ l) k
  books : (e : Entry) (waiting : Waiting) (l k : List Entry) → refused e.out ≡ false → call_kind e.call ≡ 1 → Waits waiting
      → Q (now_waits waiting (session_of e.call) none) l k → Q waiting (e ∷ l) (behind (waiting (session_of e.call)) (e ∷ k))
  stays : (e : Entry) (waiting : Waiting) (l k : List Entry) → refused e.out ≡ false → call_kind e.call ≡ 3 → Q waiting l k → Q waiting (e ∷ l) (e ∷ k)

module _ (Q : Waiting → List Entry → List Entry → Type 0) (steps : Steps Q) where
  by_entry : (e : Entry) (call : Call) → e.call ≡ call → (no : Bool) → refused e.out ≡ no → (waiting : Waiting) → Waits waiting → (l : List Entry)
      → (rest : Waiting → List Entry) → ((w : Waiting) → Waits w → Q w l (rest w)) → Q waiting (e ∷ l) (placed no call e waiting rest)
  unfolding session_of
  by_entry e call c true f waiting h l rest ih = steps.refuses e waiting l (rest waiting) f (ih waiting h)
  by_entry e (offers session origin text) c false f waiting h l rest ih =
      let s = ap session_of c in
      let w = now_waits waiting session (some e) in
      steps.opens e waiting l (rest w) f (ap call_kind c)
      (rw s (ih w (waits_now waiting session (some e) h (λ o q. subst (Offer session) (some-injective e o q) (record { accepted = f; offer = ap call_kind c; session = s })))))
  by_entry e (cancels session) c false f waiting h l rest ih =
      let w = now_waits waiting session none in
      steps.drops e waiting l (rest w) f (ap call_kind c) (rw (ap session_of c) (ih w (waits_now waiting session none h (λ o q. none_some o q))))
  by_entry e (answers session text) c false f waiting h l rest ih =
      let w = now_waits waiting session none in
      subst (λ s. Q waiting (e ∷ l) (behind (waiting s) (e ∷ rest w))) (ap session_of c)
      (steps.books e waiting l (rest w) f (ap call_kind c) h (rw (ap session_of c) (ih w (waits_now waiting session none h (λ o q. none_some o q)))))
  by_entry e (closes session) c false f waiting h l rest ih = steps.stays e waiting l (rest waiting) f (ap call_kind c) (ih waiting h)
  by_entry e (asks session bearer) c false f waiting h l rest ih = steps.stays e waiting l (rest waiting) f (ap call_kind c) (ih waiting h)
  by_entry e (states session room) c false f waiting h l rest ih = steps.stays e waiting l (rest waiting) f (ap call_kind c) (ih waiting h)

  by_log : (l : List Entry) (waiting : Waiting) → Waits waiting → Q waiting l (serial_from waiting l)
  unfolding serial_from
  by_log [] waiting h = steps.nil waiting
  by_log (e ∷ l) waiting h = by_entry e e.call refl (refused e.out) refl waiting h l (λ w. serial_from w l) (λ w g. by_log l w g)

  by_serial : (log : List Entry) → Q none_waits log (serial log)
  unfolding serial
  by_serial log = by_log log none_waits (λ s o e. none_some o e)

-- What each list has of its first entry, by what that is.
module _ (e : Entry) (l : List Entry) where
  pub others_skip : call_kind e.call ≡ 0 → others (e ∷ l) ≡ others l
  others_skip m = rw m

  pub others_keep : (n : ℕ) → call_kind e.call ≡ n → eqb n 0 ≡ false → others (e ∷ l) ≡ e ∷ others l
  others_keep n m z = rw (m, z)

  pub offers_skip : (s n : ℕ) → call_kind e.call ≡ n → eqb n 0 ≡ false → offers_of s (e ∷ l) ≡ offers_of s l
  offers_skip s n m z = rw (m, z)

  pub offers_far : (s : ℕ) → eqb (session_of e.call) s ≡ false → offers_of s (e ∷ l) ≡ offers_of s l
  offers_far s z = by (eqb (call_kind e.call) 0) where
    by : (t : Bool) → cond (t && eqb (session_of e.call) s) (e ∷ offers_of s l) (offers_of s l) ≡ offers_of s l
    by true = rw z
    by false = refl

  pub offers_own : (s : ℕ) → call_kind e.call ≡ 0 → eqb (session_of e.call) s ≡ true → offers_of s (e ∷ l) ≡ e ∷ offers_of s l
  offers_own s m z = rw (m, z)

  remains_refused : refused e.out ≡ true → remaining (e ∷ l) ≡ remaining l
  remains_refused f = rw f

  remains_cancel : refused e.out ≡ false → call_kind e.call ≡ 2 → remaining (e ∷ l) ≡ remaining l
  remains_cancel f m = rw (f, m)

  remains_keep : (n : ℕ) → refused e.out ≡ false → call_kind e.call ≡ n → eqb n 2 ≡ false → eqb n 0 ≡ false → remaining (e ∷ l) ≡ e ∷ remaining l
  remains_keep n f m y z = rw (f, m, y, z)

  remains_offer : refused e.out ≡ false → call_kind e.call ≡ 0 → remaining (e ∷ l) ≡ cond (not (answered_next (session_of e.call) l)) (remaining l) (e ∷ remaining l)
  remains_offer f m = rw (f, m)

  next_refused : (s : ℕ) → refused e.out ≡ true → answered_next s (e ∷ l) ≡ answered_next s l
  next_refused s f = rw f

  next_reads : (s : ℕ) → refused e.out ≡ false → call_kind e.call ≡ 3 → answered_next s (e ∷ l) ≡ answered_next s l
  next_reads s f m = rw (f, m)

  next_far : (s n : ℕ) → refused e.out ≡ false → call_kind e.call ≡ n → eqb n 3 ≡ false → eqb (session_of e.call) s ≡ false → answered_next s (e ∷ l) ≡ answered_next s l
  next_far s n f m y z = rw (f, m, y, z)

  next_own : (s n : ℕ) → refused e.out ≡ false → call_kind e.call ≡ n → eqb n 3 ≡ false → eqb (session_of e.call) s ≡ true → answered_next s (e ∷ l) ≡ eqb n 1
  next_own s n f m y z = rw (f, m, y, z)

-- Nothing refused is left.
pub left_accepted : (log : List Entry) → AllAccepted (serial log)
left_accepted =
    by_serial (λ waiting l k. AllAccepted k)
    (record {
      nil = λ waiting. tt;
      refuses = λ e waiting l k f q. q;
      opens = λ e waiting l k f m q. q;
      drops = λ e waiting l k f m q. q;
      books = λ e waiting l k f m h q. by_answer (waiting (session_of e.call)) (e ∷ k) (λ o w. (h (session_of e.call) o w).accepted) (f, q);
      stays = λ e waiting l k f m q. (f, q);
    }) where
      by_answer : (offer : Option Entry) (k : List Entry) → ((o : Entry) → offer ≡ some o → refused o.out ≡ false) → AllAccepted k → AllAccepted (behind offer k)
      by_answer none k h q = q
      by_answer (some o) k h q = (h o refl, q)

-- All that remains and is no offer is left, in its order.
pub left_order : (log : List Entry) → others (serial log) ≡ others (remaining log)
left_order =
    by_serial (λ waiting l k. others k ≡ others (remaining l))
    (record {
      nil = λ waiting. refl;
      refuses = λ e waiting l k f q. q ∙ ap others (sym (remains_refused e l f));
      opens = λ e waiting l k f m q. q ∙ sym (ap others (remains_offer e l f m) ∙ by_offer e l m (not (answered_next (session_of e.call) l)));
      drops = λ e waiting l k f m q. q ∙ ap others (sym (remains_cancel e l f m));
      books = λ e waiting l k f m h q. by_answer e k m (waiting (session_of e.call)) (λ o w. (h (session_of e.call) o w).offer) ∙ keeps e l k 1 f m refl refl q;
      stays = λ e waiting l k f m q. others_keep e k 3 m refl ∙ keeps e l k 3 f m refl refl q;
    }) where
      keeps : (e : Entry) (l k : List Entry) (n : ℕ) → refused e.out ≡ false → call_kind e.call ≡ n → eqb n 2 ≡ false → eqb n 0 ≡ false
          → others k ≡ others (remaining l) → e ∷ others k ≡ others (remaining (e ∷ l))
      keeps e l k n f m y z q = ap (λ r. e ∷ r) q ∙ sym (ap others (remains_keep e l n f m y z) ∙ others_keep e (remaining l) n m z)

      by_offer : (e : Entry) (l : List Entry) → call_kind e.call ≡ 0 → (b : Bool) → others (cond b (remaining l) (e ∷ remaining l)) ≡ others (remaining l)
      by_offer e l m true = refl
      by_offer e l m false = others_skip e (remaining l) m

      by_answer : (e : Entry) (k : List Entry) → call_kind e.call ≡ 1 → (offer : Option Entry) → ((o : Entry) → offer ≡ some o → call_kind o.call ≡ 0)
          → others (behind offer (e ∷ k)) ≡ e ∷ others k
      by_answer e k m none h = others_keep e k 1 m refl
      by_answer e k m (some o) h = others_skip o (e ∷ k) (h o refl) ∙ others_keep e k 1 m refl

-- with the offer that waits, if it is answered
abbrev pending : Option Entry → Bool → List Entry → List Entry
pending none answered l = l
pending (some o) true l = o ∷ l
pending (some o) false l = l

pending_not : (offer : Option Entry) (l : List Entry) → pending offer false l ≡ l
pending_not none l = refl
pending_not (some o) l = refl

-- what is left of a log has of the session's offers the one that waits, if it is answered, and those that remain
abbrev Has : ℕ → Waiting → List Entry → List Entry → Type 0
Has s waiting l k = offers_of s k ≡ pending (waiting s) (answered_next s l) (offers_of s (remaining l))

-- an entry of the session, or of another
module _ (s : ℕ) (e : Entry) (waiting : Waiting) (l k : List Entry) (f : refused e.out ≡ false) where
  abbrev t : ℕ
  t = session_of e.call

  has_opens : call_kind e.call ≡ 0 → Has s (now_waits waiting t (some e)) l k → Has s waiting (e ∷ l) k
  has_opens m q = by (ℕ_discrete s t) where
    own : eqb t s ≡ true → (b : Bool) → pending (some e) b (offers_of s (remaining l)) ≡ offers_of s (cond (not b) (remaining l) (e ∷ remaining l))
    own z true = sym (offers_own e (remaining l) s m z)
    own z false = refl

    far : eqb t s ≡ false → (b : Bool) → offers_of s (cond b (remaining l) (e ∷ remaining l)) ≡ offers_of s (remaining l)
    far z true = refl
    far z false = offers_far e (remaining l) s z

    by : Dec (s ≡ t) → Has s waiting (e ∷ l) k
    by (yes z) =
        rw (next_own e l s 0 f m refl (eq-eqb t s (sym z)), pending_not (waiting s) (offers_of s (remaining (e ∷ l))), remains_offer e l f m, ← z)
        ((rw (eq-eqb s t z) at q) ∙ own (eq-eqb t s (sym z)) (answered_next s l))
    by (no z) =
        let y = ne_eqb t s (λ h. z (sym h)) in
        rw (next_far e l s 0 f m refl y, remains_offer e l f m, far y (not (answered_next t l))) (rw (ne_eqb s t z) at q)

  has_drops : call_kind e.call ≡ 2 → Has s (now_waits waiting t none) l k → Has s waiting (e ∷ l) k
  has_drops m q = by (ℕ_discrete s t) where
    by : Dec (s ≡ t) → Has s waiting (e ∷ l) k
    by (yes z) =
        rw (next_own e l s 2 f m refl (eq-eqb t s (sym z)), pending_not (waiting s) (offers_of s (remaining (e ∷ l))), remains_cancel e l f m) (rw (eq-eqb s t z) at q)
    by (no z) = rw (next_far e l s 2 f m refl (ne_eqb t s (λ h. z (sym h))), remains_cancel e l f m) (rw (ne_eqb s t z) at q)

  has_books : call_kind e.call ≡ 1 → Waits waiting → Has s (now_waits waiting t none) l k → Has s waiting (e ∷ l) (behind (waiting t) (e ∷ k))
  has_books m h q = by (ℕ_discrete s t) where
    skips : offers_of s (e ∷ k) ≡ offers_of s k
    skips = offers_skip e k s 1 m refl

    own : offers_of s k ≡ offers_of s (remaining l) → (offer : Option Entry) → ((o : Entry) → offer ≡ some o → Offer s o)
        → offers_of s (behind offer (e ∷ k)) ≡ pending offer true (offers_of s (remaining l))
    own p none w = skips ∙ p
    own p (some o) w = offers_own o (e ∷ k) s (w o refl).offer (eq-eqb (session_of o.call) s (w o refl).session) ∙ ap (λ r. o ∷ r) (skips ∙ p)

    far : (s ≡ t → ⊥) → (offer : Option Entry) → ((o : Entry) → offer ≡ some o → session_of o.call ≡ t) → offers_of s (behind offer (e ∷ k)) ≡ offers_of s k
    far z none w = skips
    far z (some o) w = offers_far o (e ∷ k) s (ne_eqb (session_of o.call) s (λ y. z (sym y ∙ w o refl))) ∙ skips

    by : Dec (s ≡ t) → Has s waiting (e ∷ l) (behind (waiting t) (e ∷ k))
    by (yes z) =
        rw (next_own e l s 1 f m refl (eq-eqb t s (sym z)), remains_keep e l 1 f m refl refl, offers_skip e (remaining l) s 1 m refl, ← z)
        (own (rw (eq-eqb s t z) at q) (waiting s) (h s))
    by (no z) =
        rw (next_far e l s 1 f m refl (ne_eqb t s (λ y. z (sym y))), remains_keep e l 1 f m refl refl, offers_skip e (remaining l) s 1 m refl)
        (far z (waiting t) (λ o w. (h t o w).session) ∙ (rw (ne_eqb s t z) at q))

-- Of each session's offers all that remain are left, in their order.
pub left_offers : (log : List Entry) (s : ℕ) → offers_of s (serial log) ≡ offers_of s (remaining log)
left_offers log s =
    by_serial (Has s)
    (record {
      nil = λ waiting. sym (pending_not (waiting s) []);
      refuses = λ e waiting l k f q. rw (next_refused e l s f, remains_refused e l f) q;
      opens = has_opens s;
      drops = has_drops s;
      books = has_books s;
      stays = λ e waiting l k f m q. offers_skip e k s 3 m refl ∙ rw (next_reads e l s f m, remains_keep e l 3 f m refl refl, offers_skip e (remaining l) s 3 m refl) q;
    })
    log
