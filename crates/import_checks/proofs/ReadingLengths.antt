-- Refusal 1, case by case, in the order in which the code tries them.
-- Assumes nothing.
use mathlib.Core.Path.{◌≡◌}
use mathlib.Core.Bool.{true, false, not, ◌&&◌}
use Prim.Native.Nat.{ℕ, ◌-◌, ◌*◌, ◌≤◌}
use native.Mathlib.Omega.{arith}
use lib.Dec.{eqb, leb}
use borrow.Author.Tests.{eq-eqb, ne_eqb}
use Rattle.storage.specs.Sizes.{places_limit, medium_size}
use Rattle.segment.specs.Header.{header_size}
use Rattle.segment.specs.Pair.{offset_size, index_size}
use Rattle.import_checks.specs.Refusals.{offsets_in, outside}

-- all of them are in the file, behind its header
pub offsets_fit : (size : ℕ) → offset_size * offsets_in size ≤ size - header_size
unfolding offsets_in
offsets_fit size = omega arith

module _ (N medium index : ℕ) where
  pub out_of_range : (leb 1 N && leb N places_limit) ≡ false → true ≡ outside N medium index
  unfolding outside
  out_of_range e = rw e

  module _ (e : (leb 1 N && leb N places_limit) ≡ true) where
    pub other_medium : (medium ≡ medium_size N → ⊥) → true ≡ outside N medium index
    unfolding outside
    other_medium d = rw (e, ne_eqb medium (medium_size N) d)

    pub by_index : medium ≡ medium_size N → not (eqb index (index_size (offsets_in index))) ≡ outside N medium index
    unfolding outside
    by_index d = rw (e, eq-eqb medium (medium_size N) d)
