-- A group's places, judged together: all that is no check first, place by place; then the checks, by lanes that start behind the IDs.
-- Assumes nothing.
use mathlib.Core.Path.{◌≡◌, sym, ap, ap₂, ◌∙◌}
use mathlib.Core.List.{List}
use mathlib.Core.Logic.{⊎_elim}
use Prim.Native.Nat.{ℕ, ◌+◌, ◌-◌, ◌*◌, ◌<◌}
use native.Mathlib.Omega.{arith}
use lib.Bits.{bit_xor}
use lib.Dec.{eqb, lit≤}
use lib.ListN.{length, get_or, take}
use Rattle.base.proofs.Tests.{lt_or_le}
use Rattle.octets.specs.Octets.{part, be_of, be_bytes, Bytes, offset_of}
use Rattle.octets.proofs.Laws.{length_part, part_part}
use Rattle.octets.proofs.Numbers.{bytes_back}
use Rattle.octets.proofs.Reading.{bytes_part, parts_join}
use Rattle.crc32.specs.Crc32.{crc_from, crc_of, checked}
use Rattle.crc32.proofs.Words.{crc_append}
use Rattle.lanes.specs.Lanes.{lanes, Onward, after_number, Numbered}
use Rattle.storage.specs.Layout.{check_offset, check_size}
use Rattle.storage.specs.Sizes.{place_layout, place_size}
use Rattle.storage.specs.Places.{id_of, valid_place}
use Rattle.scan.specs.Rows.{row, Fit, AllFit, Checks}

-- the bytes of a place's ID, and those behind it and before the check
abbrev id_size : ℕ
id_size = offset_of place_layout.widths 1

abbrev behind_id : ℕ
behind_id = check_offset place_layout - id_size

-- one place more fits
pub fit_next : (n j : ℕ) (s p : List ℕ) → p ≡ row j s → valid_place (n + j + 1) p ≡ checked (check_offset place_layout) p → id_of p ≡ n + j + 1
    → ((i : ℕ) → i < j → Fit n s i) → (i : ℕ) → i < j + 1 → Fit n s i
fit_next n j s p e v d f = λ i h.
    ⊎_elim (λ l. f i l) (λ g. let q : i ≡ j = omega arith in rw (q, ← e) (v, d)) (lt_or_le i j)

module _ (n : ℕ) (s behind rs : List ℕ) (b : Bytes s) (size : length s ≡ place_size * lanes) (fit : AllFit n s) where
  module _ (j : ℕ) (h : j < lanes) where
    whole : length (row j s) ≡ place_size
    whole = length_part (place_size * j) place_size s (omega arith)

    bytes : Bytes (row j s)
    bytes = bytes_part (place_size * j) place_size s b

    -- the ID's bytes are those of the place's number
    behind_id_lem : crc_from 0xffff_ffff (part 0 id_size (row j s)) ≡ after_number (n + 1 + j)
    unfolding after_number id_of
    behind_id_lem =
        let i : n + j + 1 ≡ n + 1 + j = omega arith in
        ap (crc_from 0xffff_ffff) (sym (bytes_back (part 0 id_size (row j s)) (bytes_part 0 id_size (row j s) bytes)))
        ∙ ap₂ (λ (k v : ℕ). crc_from 0xffff_ffff (be_bytes k v)) (length_part 0 id_size (row j s) (omega (arith, whole))) ((fit j h).1 ∙ i)

    lane : Numbered (n + 1) behind → Onward behind_id id_size place_size s behind rs → crc_from 0xffff_ffff (take (check_offset place_layout) (row j s)) ≡ get_or rs j 0
    lane d w =
        let o : place_size * j + id_size ≡ id_size + place_size * j = omega arith in
        ap (crc_from 0xffff_ffff) (sym (parts_join 0 id_size behind_id (row j s)))
        ∙ crc_append 0xffff_ffff (part 0 id_size (row j s)) (part id_size behind_id (row j s))
        ∙ ap₂ crc_from (behind_id_lem ∙ sym (d j h)) (part_part (place_size * j) place_size id_size behind_id s (lit≤ tt) ∙ ap (λ (x : ℕ). part x behind_id s) o)
        ∙ sym (w j h)

  -- so a place is valid exactly if its lane comes to its check
  pub by_lanes : Numbered (n + 1) behind → Onward behind_id id_size place_size s behind rs → Checks n s rs
  unfolding checked crc_of
  by_lanes d w = λ j h.
      let o : place_size * j + check_offset place_layout ≡ check_offset place_layout + place_size * j = omega arith in
      (fit j h).0
      ∙ ap₂ (λ (r : ℕ) (c : List ℕ). eqb (bit_xor r 0xffff_ffff) (be_of c)) (lane j h d w)
      (part_part (place_size * j) place_size (check_offset place_layout) check_size s (lit≤ tt) ∙ ap (λ (x : ℕ). part x check_size s) o)
