-- `media`. The invariant: the media left, written behind those made, give the whole.
-- Assumes nothing.
use mathlib.Core.Path.{◌≡◌, sym, ap, ap₂, ◌∙◌}
use Prim.Native.Nat.{ℕ, suc, ◌+◌, ◌-◌, ◌*◌, ◌<◌, ◌≤◌}
use native.Mathlib.Nat.{suc-mul, mul-le-mul_right}
use native.Mathlib.Omega.{arith}
use lib.ListN.{length}
use borrow.Rule.Slice.PartMut.{put_mid}
use Rattle.octets.specs.Octets.{write_at}
use Rattle.storage.specs.Sizes.{medium_size}
use Rattle.cluster.specs.State.{fresh_media}
use Rattle.fresh.proofs.Making.{turn_length, turn, made_all}
use Rattle.fresh.proofs.media.Goals as goal

-- the i-th of R parts lies within them, and the next one behind it
within : (i R z : ℕ) → i < R → i * z + z ≤ R * z
within i R z h = omega (arith, suc-mul i z, mul-le-mul_right {m = suc i} {n = R} z h)

behind : (i z M : ℕ) → z ≡ M → i * z + z ≡ (i + 1) * M
behind i z M e = rw e (omega arith)

pub loop-i-preserved : goal.loop-i-preserved
loop-i-preserved c =
    let a = c.args in
    let l = c.loop-i in
    let z = c.medium_size-size.result in
    let zs : z ≡ medium_size a.places = c.medium_size-size.ensures in
    let at = l.i * z in
    let e = at + z in
    let q : at + medium_size a.places ≡ e = ap (λ (k : ℕ). at + k) (sym zs) in
    let h : e ≤ length l.m = omega (arith, within l.i a.replicas z c.loop-i-test.true, ap (λ (k : ℕ). a.replicas * k) zs, l.invariant.0, c.requires.m_len) in
    let y = c.medium.ensures in
    let r : a.replicas - l.i - 1 ≡ a.replicas - (l.i + 1) = omega arith in (
      turn_length a.places at e l.m _ q h y ∙ l.invariant.0,
      l.invariant.1
          ∙ ap (λ (k : ℕ). write_at (l.i * k) (fresh_media (a.replicas - l.i) a.places) l.m) (sym zs)
          ∙ turn a.places at e l.m c.medium.new.m q h y (a.replicas - l.i) (omega arith)
          ∙ ap₂ (λ (o k : ℕ). write_at o (fresh_media k a.places) (put_mid at (e - at) l.m c.medium.new.m)) (behind l.i z (medium_size a.places) zs) r,
    )

pub returns : goal.returns
returns c =
    let a = c.args in
    let l = c.loop-i in
    made_all a.replicas a.places (a.replicas - l.i) (l.i * medium_size a.places) a.m.now l.m c.requires.m_len (omega arith) l.invariant.1
