-- Lists of bytes: from their elements, and their parts.
-- Assumes nothing.
use mathlib.Core.List.{List, [], ◌∷◌}
use Prim.Native.Nat.{ℕ, zero, suc, ◌<◌}
use lib.ListN.{get_or, take, drop}
use Rattle.octets.specs.Octets.{Bytes}

pub bytes_known : (s : List ℕ) → ((i : ℕ) → get_or s i 0 < 256) → Bytes s
bytes_known [] h = tt
bytes_known (b ∷ s) h = (h 0, bytes_known s (λ i. h (suc i)))

pub bytes_take : (n : ℕ) (s : List ℕ) → Bytes s → Bytes (take n s)
bytes_take zero s p = tt
bytes_take (suc n) [] p = tt
bytes_take (suc n) (b ∷ s) p = (p.0, bytes_take n s p.1)

pub bytes_drop : (n : ℕ) (s : List ℕ) → Bytes s → Bytes (drop n s)
bytes_drop zero s p = p
bytes_drop (suc n) [] p = tt
bytes_drop (suc n) (b ∷ s) p = bytes_drop n s p.1
