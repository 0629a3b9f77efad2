-- The head of a place, written in three pieces.
-- Assumes nothing.
use mathlib.Core.Path.{◌≡◌, refl, sym, ap, ◌∙◌}
use mathlib.Core.List.{List}
use Prim.Native.Nat.{ℕ, ◌+◌, ◌-◌, ◌≤◌, zero-le}
use native.Mathlib.Omega.{arith}
use borrow.Rule.Slice.PartMut.{put_mid}
use lib.ListN.{length, take, drop, replicate, length-replicate}
use Rattle.octets.specs.Octets.{write_at, fields_of, offset_of}
use Rattle.octets.proofs.Laws.{write_write, mid_write, length_write, length_between}
use Rattle.octets.proofs.Numbers.{fields_append, length_fields}
use Rattle.storage.specs.declared.place.Fields.{Fields}
use Rattle.storage.specs.Layout.{data_offset, check_offset, padded, head_of}
use Rattle.storage.specs.Sizes.{place_layout, data_limit, place_size}
use Rattle.storage.specs.Places.{place_numbers}

-- the data written, and what lies behind them cleared
pub fill_written : (d m l z : List ℕ) → length m ≡ place_size → length d ≤ data_limit → l ≡ write_at (data_offset place_layout) d m
    → let k = data_offset place_layout + length d in z ≡ replicate (length (take (check_offset place_layout - k) (drop k l))) 0
    → put_mid k (check_offset place_layout - k) l z ≡ write_at (data_offset place_layout) (padded place_layout d) m
fill_written d m l z hm hd e f =
    let o = data_offset place_layout in
    let c = check_offset place_layout in
    let k = o + length d in
    let n : length l ≡ place_size = ap length e ∙ length_write o d m (omega arith) ∙ hm in
    let behind = data_limit + place_layout.zeros - length d in
    let q : length (take (c - k) (drop k l)) ≡ behind = length_between k c l (omega arith) (omega arith) ∙ omega arith in
    let r : k + length (replicate {A = ℕ} behind 0) ≡ c = simp length-replicate (omega arith) in
    mid_write k c l z (replicate behind 0) r (f ∙ ap (λ (i : ℕ). replicate i 0) q)
    ∙ ap (write_at k (replicate behind 0)) e
    ∙ write_write o k d (replicate behind 0) m (omega arith) refl

module _ (t : Fields) (d m : List ℕ) where
  lower : List (ℕ × ℕ)
  lower = take 4 (place_numbers t 0)

  upper : List (ℕ × ℕ)
  upper = drop 4 (place_numbers t (length d))

  pub head_written : (l₁ l₂ l₃ : List ℕ) → l₁ ≡ write_at 0 (fields_of (take 4 (place_numbers t 0))) m
      → l₂ ≡ write_at (offset_of place_layout.widths 4) (fields_of (drop 4 (place_numbers t (length d)))) l₁
      → l₃ ≡ write_at (data_offset place_layout) (padded place_layout d) l₂ → l₃ ≡ write_at 0 (head_of place_layout (place_numbers t (length d)) d) m
  unfolding lower upper
  head_written l₁ l₂ l₃ e₁ e₂ e₃ =
      let o = offset_of place_layout.widths 4 in
      let w₂ : l₂ ≡ write_at 0 (fields_of (place_numbers t (length d))) m =
      e₂ ∙ ap (write_at o (fields_of upper)) e₁
      ∙ write_write 0 o (fields_of lower) (fields_of upper) m zero-le (ap (λ (n : ℕ). 0 + n) (length_fields lower))
      ∙ ap (λ (r : List ℕ). write_at 0 r m) (sym (fields_append lower upper)) in
      e₃ ∙ ap (write_at (data_offset place_layout) (padded place_layout d)) w₂
      ∙ write_write 0 (data_offset place_layout) (fields_of (place_numbers t (length d))) (padded place_layout d) m zero-le
      (ap (λ (n : ℕ). 0 + n) (length_fields (place_numbers t (length d))))
