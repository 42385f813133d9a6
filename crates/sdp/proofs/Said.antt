-- What a line says lies in range, and a fault is one of the line's numbers. Assumes nothing.
use Rattle.sdp.specs.Fault.{fault_number}
use Rattle.std.specs.Prelude.{Option, Some, None, Result, Ok, Err}
use Rattle.sdp.specs.declared.fault.Fault.{Fault}
use Rattle.sdp.specs.declared.fault.Fault.TheVariants as fault
use Rattle.sdp.specs.declared.media_line.MediaLine.{MediaLine}
use Prim.Native.Nat.{ℕ, ◌*◌, ◌≤◌}
use mathlib.Core.Path.{◌≡◌, refl}
use mathlib.Core.List.{List, [], ◌∷◌}
use mathlib.Core.Bool.{Bool, true, false, cond}
use lib.ListN.{length, drop}
use lib.Dec.{ltb, leb}
use native.Mathlib.Omega.{arith}
use borrow.Author.Tests.{ltb-false, leb-true}
use Rattle.cursor.specs.Bytes.{all, is_empty, is_digit, decimal, split, starts_with, bytes}
use Rattle.cursor.specs.Parts.{is_number, on_field, on_number, on_whole, some_fields}
use Rattle.cursor.proofs.Parts.{clash}
use Rattle.sdp.specs.Media.{kind_of, transport_of, kind_number, verdict, media_of}
use Rattle.sdp.specs.Connection.{on_none, address_of, connection_of}
use Rattle.sdp.specs.Bandwidth.{bandwidth_of}
use Rattle.sdp.specs.Direction.{direction_number}
use Rattle.sdp.specs.Range.{KnownAddress}
use Rattle.sdp.specs.declared.Address.{Address}
use Rattle.sdp.specs.declared.media_line.Kind.{Kind}
use Rattle.sdp.specs.declared.media_line.Kind.TheVariants as kind
use Rattle.sdp.specs.declared.media_line.Transport.{Transport}
use Rattle.sdp.specs.declared.media_line.Transport.TheVariants as transport
use Rattle.sdp.specs.declared.bandwidth.Rate.{Rate}
use Rattle.sdp.specs.declared.bandwidth.Rate.TheVariants as rate
use Rattle.sdp.specs.declared.direction.Direction.{Direction}
use Rattle.sdp.specs.declared.direction.Direction.TheVariants as direction

-- the numbers of the faults of a line
abbrev pub Faulty : ℕ → Type 0
Faulty k = (2 ≤ k) × (k ≤ 8)

-- what holds of both answers of a test holds of the test
pub on_cond : {A : Type 0} (P : A → Type 0) (t : Bool) {a b : A} → P a → P b → P (cond t a b)
on_cond P true p q = p
on_cond P false p q = q

number_small : (most max : ℕ) (x : List ℕ) → is_number most max x ≡ true → decimal 0 x ≤ max
unfolding is_number
number_small most max x h = by (all is_digit x) (leb 1 (length x)) (leb (length x) most) h where
  by : (a b c : Bool) → cond a (cond b (cond c (leb (decimal 0 x) max) false) false) false ≡ true → decimal 0 x ≤ max
  by true true true k = leb-true _ _ k
  by true true false k = clash (cc)
  by true false c k = clash (cc)
  by false b c k = clash (cc)

-- the same of the parts of a line: what holds of the fault, and of each good part, holds of the whole
module _ {A : Type 0} (P : A → Type 0) (bad : A) (no : P bad) where
  on_field_lem : (parts : List (List ℕ)) (f : List ℕ → List (List ℕ) → A) → ((x : List ℕ) (xs : List (List ℕ)) → P (f x xs)) → P (on_field parts bad f)
  on_field_lem [] f h = no
  on_field_lem (x ∷ xs) f h = on_cond P (is_empty x) no (h x xs)

  on_whole_lem : (most max : ℕ) (x : List ℕ) (f : ℕ → A) → ((n : ℕ) → n ≤ max → P (f n)) → P (on_whole most max x bad f)
  on_whole_lem most max x f h = by (is_number most max x) refl where
    by : (t : Bool) → is_number most max x ≡ t → P (cond t (f (decimal 0 x)) bad)
    by true e = h (decimal 0 x) (number_small most max x e)
    by false e = no

  on_number_lem : (most max : ℕ) (parts : List (List ℕ)) (f : ℕ → List (List ℕ) → A) → ((n : ℕ) (xs : List (List ℕ)) → n ≤ max → P (f n xs)) → P (on_number most max parts bad f)
  on_number_lem most max [] f h = no
  on_number_lem most max (x ∷ xs) f h = on_whole_lem most max x (λ n. f n xs) (λ n. h n xs)

-- `m=`
pub record Headed (k t p : ℕ) : Type 0 where
  pub kind : (1 ≤ k) × (k ≤ 6)
  pub transport : (1 ≤ t) × (t ≤ 2)
  pub port : p ≤ 65535
  pub rtp : t ≡ 1 → p ≤ 65534

abbrev pub MediaSaid : Result MediaLine Fault → Type 0
MediaSaid (Ok m) = Headed m.kind m.transport m.port
MediaSaid (Err k) = Faulty (fault_number k)

kind_range : (k : Kind) → (1 ≤ kind_number k) × (kind_number k ≤ 6)
kind_range kind.Audio = omega arith
kind_range kind.Video = omega arith
kind_range kind.Application = omega arith
kind_range kind.Data = omega arith
kind_range kind.Control = omega arith
kind_range kind.Other = omega arith

verdict_said : (k : Kind) (p : ℕ) (t : Option Transport) → p ≤ 65535 → MediaSaid (verdict k p t)
unfolding verdict
verdict_said k p (Some transport.Rtp) h = by (ltb 65534 p) refl where
  by : (t : Bool) → ltb 65534 p ≡ t → MediaSaid (cond t (Err fault.MediaLine) (Ok (record { kind = kind_number k; transport = 1; port = p })))
  by true e = omega arith
  by false e =
      record { kind = kind_range k; transport = omega arith; port = h; rtp = λ z. ltb-false _ _ e }
verdict_said k p (Some transport.Udp) h =
    record { kind = kind_range k; transport = omega arith; port = h; rtp = λ z. absurd (omega (arith, z)) }
verdict_said k p None h = omega arith

pub media_said : (v : List ℕ) → MediaSaid (media_of v)
unfolding media_of
media_said v =
    on_field_lem MediaSaid (Err fault.MediaLine) three (split 32 v) _ λ name fields.
    on_number_lem MediaSaid (Err fault.MediaLine) three 5 65535 fields _ λ port fields' h.
    on_field_lem MediaSaid (Err fault.MediaLine) three fields' _ λ transport formats.
    on_cond MediaSaid (some_fields formats) (verdict_said (kind_of name) port (transport_of transport) h) three where
      three : Faulty 3
      three = omega arith

-- `c=`
abbrev pub ConnectionSaid : Option Address → Type 0
ConnectionSaid (Some a) = KnownAddress a
ConnectionSaid None = Unit {0}

pub connection_said : (v : List ℕ) → ConnectionSaid (connection_of v)
unfolding connection_of address_of
connection_said v = on_cond ConnectionSaid (starts_with (bytes "IN IP4 ") v) (four (split 46 (drop 7 v))) tt where
  none : (parts : List (List ℕ)) (a : Address) → KnownAddress a → ConnectionSaid (on_none parts (Some a))
  none [] a h = h
  none (x ∷ xs) a h = tt

  four : (parts : List (List ℕ)) → ConnectionSaid (address_of parts)
  four parts =
      on_number_lem ConnectionSaid None tt 3 255 parts _ λ a parts₁ ha.
      on_number_lem ConnectionSaid None tt 3 255 parts₁ _ λ b parts₂ hb.
      on_number_lem ConnectionSaid None tt 3 255 parts₂ _ λ c parts₃ hc.
      on_number_lem ConnectionSaid None tt 3 255 parts₃ _ λ d parts₄ hd.
      none parts₄ _ (record { flag = omega arith; figure = omega arith; absent = λ z. absurd (omega (arith, z)) })

-- `b=`
abbrev pub RateSaid : Rate → Type 0
RateSaid (rate.As b) = b ≤ 4294967295
RateSaid (rate.Tias b) = b ≤ 4294967295
RateSaid (rate.Rs b) = b ≤ 4294967295
RateSaid (rate.Rr b) = b ≤ 4294967295
RateSaid rate.Other = Unit {0}

abbrev pub BandwidthSaid : Option Rate → Type 0
BandwidthSaid (Some r) = RateSaid r
BandwidthSaid None = Unit {0}

pub bandwidth_said : (v : List ℕ) → BandwidthSaid (bandwidth_of v)
unfolding bandwidth_of
bandwidth_said v =
    on_cond BandwidthSaid (starts_with (bytes "AS:") v) (whole 4294967 (drop 3 v) (λ n. Some (rate.As (n * 1000))) λ n h. omega (arith, h))
    (on_cond BandwidthSaid (starts_with (bytes "TIAS:") v) (whole 4294967295 (drop 5 v) (λ n. Some (rate.Tias n)) λ n h. h)
    (on_cond BandwidthSaid (starts_with (bytes "RS:") v) (whole 4294967295 (drop 3 v) (λ n. Some (rate.Rs n)) λ n h. h)
    (on_cond BandwidthSaid (starts_with (bytes "RR:") v) (whole 4294967295 (drop 3 v) (λ n. Some (rate.Rr n)) λ n h. h) tt))) where
      whole : (max : ℕ) (x : List ℕ) (f : ℕ → Option Rate) → ((n : ℕ) → n ≤ max → BandwidthSaid (f n)) → BandwidthSaid (on_whole 10 max x None f)
      whole = on_whole_lem BandwidthSaid None tt 10

-- `a=`
pub direction_range : (d : Direction) → (1 ≤ direction_number d) × (direction_number d ≤ 4)
direction_range direction.Sendrecv = omega arith
direction_range direction.Sendonly = omega arith
direction_range direction.Recvonly = omega arith
direction_range direction.Inactive = omega arith
