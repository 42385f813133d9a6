-- `judge`: for each return the law that it follows. Assumes nothing.
use Prim.Native.Nat.{ℕ, ◌≤◌, ◌<◌}
use mathlib.Core.Path.{◌≡◌}
use borrow.Author.Tests.{lt-ltb, le-ltb}
use Rattle.std.specs.Prelude.{Option, Some, None, Ok, Err}
use Rattle.sdp.specs.Media.{kind_number, verdict}
use Rattle.sdp.specs.declared.fault.Fault.TheVariants as fault
use Rattle.sdp.specs.declared.media_line.Kind.{Kind}
use Rattle.sdp.specs.declared.media_line.Transport.{Transport}
use Rattle.sdp.specs.declared.media_line.Transport.TheVariants as transport

module _ (k : Kind) (p : ℕ) (t : Option Transport) where
  pub judge_high : t ≡ Some transport.Rtp → 65534 < p → Err fault.MediaLine ≡ verdict k p t
  unfolding verdict
  judge_high e h = rw (e, lt-ltb 65534 p h)

  pub judge_rtp : (n m : ℕ) → t ≡ Some transport.Rtp → p ≤ 65534 → n ≡ kind_number k → m ≡ 1 → Ok (record { kind = n; transport = m; port = p }) ≡ verdict k p t
  unfolding verdict
  judge_rtp n m e h q z = rw (e, le-ltb 65534 p h, q, z)

  pub judge_udp : (n m : ℕ) → t ≡ Some transport.Udp → n ≡ kind_number k → m ≡ 2 → Ok (record { kind = n; transport = m; port = p }) ≡ verdict k p t
  unfolding verdict
  judge_udp n m e q z = rw (e, q, z)

  pub judge_unknown : t ≡ None → Err fault.Transport ≡ verdict k p t
  unfolding verdict
  judge_unknown e = rw e
