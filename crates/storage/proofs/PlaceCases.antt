-- The cases of a place's validity in the journal's layout, and all that it says: proofs/PlaceLayouts' laws.
-- Assumes nothing.
use mathlib.Core.Path.{◌≡◌, sym, ap, ◌∙◌}
use mathlib.Core.Bool.{Bool, true, false, ◌&&◌}
use mathlib.Core.List.{List}
use Prim.Native.Nat.{ℕ, ◌+◌, ◌-◌, ◌<◌, ◌≤◌}
use native.Mathlib.Omega.{arith}
use lib.ListN.{length, take, drop}
use Rattle.octets.specs.Octets.{part, all_zero}
use Rattle.crc32.specs.Crc32.{checked}
use Rattle.storage.specs.Layout.{data_offset, check_offset}
use Rattle.storage.specs.Sizes.{place_layout, data_limit, place_size}
use Rattle.storage.specs.Places.{id_of, size_of, valid_place}
use Rattle.storage.proofs.Layouts as layout
use Rattle.storage.proofs.PlaceLayouts as any

-- the zeros behind the data, up to the most data, and those before the check
abbrev behind_data : List ℕ → List ℕ
behind_data s = part (data_offset place_layout + size_of s) (data_limit - size_of s) s

abbrev before_check : List ℕ → List ℕ
before_check s = part (data_offset place_layout + data_limit) place_layout.zeros s

module _ (n : ℕ) (s : List ℕ) where
  pub bad_length : (length s ≡ place_size → ⊥) → false ≡ valid_place n s
  unfolding valid_place
  bad_length h = any.bad_length place_layout n s h

  pub bad_id : (id_of s ≡ n → ⊥) → false ≡ valid_place n s
  unfolding valid_place id_of
  bad_id h = any.bad_id place_layout n s h

  module _ (l : length s ≡ place_size) where
    pub bad_size : data_limit < size_of s → false ≡ valid_place n s
    unfolding valid_place size_of
    bad_size h = any.bad_size place_layout n s l h

    module _ (z : size_of s ≤ data_limit) (i : id_of s ≡ n) where
      -- all zeros and the check are what is left
      by_tail : valid_place n s ≡ (all_zero (behind_data s) && all_zero (before_check s) && checked (check_offset place_layout) s)
      unfolding valid_place id_of size_of
      by_tail = any.by_tail place_layout n s l z i ∙ ap (λ (b : Bool). b && checked (check_offset place_layout) s) (any.tail_split place_layout s z)

      pub bad_tail : all_zero (behind_data s) ≡ false → false ≡ valid_place n s
      bad_tail h = sym (by_tail ∙ rw h)

      -- the zeros before the check, and the check
      pub by_zeros : all_zero (behind_data s) ≡ true → valid_place n s ≡ (all_zero (before_check s) && checked (check_offset place_layout) s)
      by_zeros h = by_tail ∙ rw h

-- the bytes behind the data, as the code takes them
pub tail_is : (k : ℕ) (s : List ℕ) → k ≡ size_of s
    → take (data_offset place_layout + data_limit - (data_offset place_layout + k)) (drop (data_offset place_layout + k) s) ≡ behind_data s
tail_is k s e =
    let q : data_offset place_layout + data_limit - (data_offset place_layout + k) ≡ data_limit - k = omega arith in
    ap (λ (i : ℕ). take i (drop (data_offset place_layout + k) s)) q ∙ ap (λ (i : ℕ). take (data_limit - i) (drop (data_offset place_layout + i) s)) e

pub record Tests (n : ℕ) (s : List ℕ) : Type 0 where
  pub size : length s ≡ place_size
  pub id : id_of s ≡ n
  pub short : size_of s ≤ data_limit
  pub form : layout.Tests place_layout (size_of s) s

pub valid_tests : (n : ℕ) (s : List ℕ) → valid_place n s ≡ true → Tests n s
unfolding valid_place id_of size_of
valid_tests n s v =
    let t = any.valid_tests place_layout n s v in
    record { size = t.form.size; id = t.id; short = t.form.short; form = t.form }
