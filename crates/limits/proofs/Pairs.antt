-- Laws of limit pairs: which pair is a client's, and when a request exceeds one.
-- Assumes nothing.
use mathlib.Core.Path.{◌≡◌, refl}
use mathlib.Core.Bool.{Bool, true, false, cond, ◌||◌}
use mathlib.Core.Logic.{◌↔◌, ◌⊎◌, inl, inr, ⊎_elim}
use Prim.Native.Nat.{ℕ, ◌≤◌, ◌<◌}
use lib.Dec.{ltb}
use borrow.Author.Tests.{ltb-true, ltb-false, lt-ltb, le-ltb}
use Rattle.base.proofs.Tests.{either, neither}
use Rattle.limits.specs.declared.Limits.{Limits}
use Rattle.limits.specs.Limits.{gate_limits, booking_limits, limits_of, too_much}

-- ---- the pair of a client

pub of_gate : (client : ℕ) → client < 100 → limits_of client ≡ gate_limits
unfolding limits_of
of_gate client g = rw (lt-ltb client 100 g)

pub of_booking : (client : ℕ) → 100 ≤ client → limits_of client ≡ booking_limits
unfolding limits_of
of_booking client b = rw (le-ltb client 100 b)

-- what holds of both pairs holds of every client's
pub of_any : (P : Limits → Type 0) → P gate_limits → P booking_limits → (client : ℕ) → P (limits_of client)
unfolding limits_of
of_any P g b client = go (ltb client 100)
  where
    go : (t : Bool) → P (cond t gate_limits booking_limits)
    go true = g
    go false = b

-- ---- a request against a pair

pub exceeds_exactly : (l : Limits) (size locks : ℕ) → (too_much l size locks ≡ true) ↔ ((l.bytes < size) ⊎ (l.locks < locks))
exceeds_exactly l size locks = (
  λ e. ⊎_elim (λ a. inl (ltb-true l.bytes size a)) (λ b. inr (ltb-true l.locks locks b)) (either (ltb l.bytes size) (ltb l.locks locks) e),
  ⊎_elim (λ a. rw (lt-ltb l.bytes size a)) (λ b. second (ltb l.bytes size) (lt-ltb l.locks locks b)),
)
  where
    second : (a : Bool) {b : Bool} → b ≡ true → (a || b) ≡ true
    second true e = refl
    second false e = e

pub within_pair : (l : Limits) (size locks : ℕ) → too_much l size locks ≡ false → (size ≤ l.bytes) × (locks ≤ l.locks)
within_pair l size locks e =
    let n = neither (ltb l.bytes size) (ltb l.locks locks) e in
    (ltb-false l.bytes size n.0, ltb-false l.locks locks n.1)
