-- Steps of the lanes, one behind the other.
-- Assumes nothing.
use mathlib.Core.Path.{◌≡◌, refl, sym, ap, ap₂, ◌∙◌}
use mathlib.Core.List.{List}
use Prim.Native.Nat.{ℕ, suc, ◌+◌, ◌*◌, ◌<◌, ◌≤◌}
use native.Mathlib.Nat.{mul-le-mul_left}
use native.Mathlib.Omega.{arith}
use lib.ListN.{get_or}
use Rattle.octets.specs.Octets.{part}
use Rattle.octets.proofs.Reading.{parts_join}
use Rattle.crc32.specs.Crc32.{crc_from}
use Rattle.crc32.proofs.Words.{crc_append}
use Rattle.lanes.specs.Lanes.{lanes, Onward}

-- a lane's piece lies within the slice
pub within : (size j : ℕ) → j < lanes → size * j + size ≤ size * lanes
within size j h = let e : size * j + size ≡ size * suc j = omega arith in rw e (mul-le-mul_left size h)

-- no step
pub onward_none : (at size : ℕ) (s rs : List ℕ) → Onward 0 at size s rs rs
unfolding crc_from
onward_none at size s rs = λ j h. refl

-- v bytes behind w
pub onward_join : (w v at size : ℕ) (s rs rs' rs'' : List ℕ) → Onward w at size s rs rs' → Onward v (at + w) size s rs' rs'' → Onward (w + v) at size s rs rs''
onward_join w v at size s rs rs' rs'' p q = λ j h.
    let o : at + w + size * j ≡ at + size * j + w = omega arith in
    q j h ∙ ap₂ (λ (r k : ℕ). crc_from r (part k v s)) (p j h) o
    ∙ sym (crc_append (get_or rs j 0) (part (at + size * j) w s) (part (at + size * j + w) v s))
    ∙ ap (crc_from (get_or rs j 0)) (parts_join (at + size * j) w v s)
