-- A write at an offset, an element at a time.
-- Assumes nothing.
use mathlib.Core.Path.{◌≡◌, refl, sym, ap, ◌∙◌}
use mathlib.Core.List.{List, [], ◌∷◌, ◌++◌}
use Prim.Native.Nat.{ℕ, ◌+◌, ◌<◌}
use native.Mathlib.Numerals.{add-one}
use native.Mathlib.Omega.{arith}
use lib.ListN.{length, take, drop, set}
use lib.Seq.{set_split}
use Rattle.octets.specs.Octets.{write_at}
use Rattle.octets.proofs.Laws.{write_write}

set_write : (l : List ℕ) (i v : ℕ) → i < length l → set l i v ≡ write_at i (v ∷ []) l
unfolding write_at
set_write l i v h = set_split l i v h ∙ ap (λ (n : ℕ). take i l ++ (v ∷ drop n l)) (sym (add-one i))

-- the first element is written, then the others behind it
pub write_next : (l : List ℕ) (i v : ℕ) (vs : List ℕ) → i < length l → write_at i (v ∷ vs) l ≡ write_at (i + 1) vs (set l i v)
write_next l i v vs h = sym (ap (write_at (i + 1) vs) (set_write l i v h) ∙ write_write i (i + 1) (v ∷ []) vs l (omega arith) refl)
