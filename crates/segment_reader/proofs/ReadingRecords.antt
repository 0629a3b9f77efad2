-- A record at the front of bytes: its size, and its cases in the order in which the code tries them.
-- Assumes nothing.
use mathlib.Core.Path.{◌≡◌, refl, sym, ap, ◌∙◌}
use mathlib.Core.Bool.{Bool, true, false, ◌&&◌}
use mathlib.Core.List.{List, []}
use Prim.Native.Nat.{ℕ, ◌+◌, ◌-◌, ◌<◌, ◌≤◌}
use native.Mathlib.Omega.{arith}
use lib.Dec.{eqb, leb}
use lib.ListN.{length, take, drop, length-take, length-drop}
use lib.Seq.{take_all}
use borrow.Author.Tests.{le-leb, lt-leb, eq-eqb, ne_eqb}
use Rattle.octets.specs.Octets.{part, all_zero}
use Rattle.crc32.specs.Crc32.{crc_of, checked}
use Rattle.storage.specs.Layout.{layout_size, formed}
use Rattle.storage.specs.Sizes.{data_limit}
use Rattle.storage.specs.Places.{id_of, size_of}
use Rattle.segment.specs.Records.{record_layout, record_size, check_in, content_in, sized, is_record, numbers_size, content_offset}

-- what `&s[a..]` refers to
pub to_end : (a : ℕ) (s : List ℕ) → take (length s - a) (drop a s) ≡ drop a s
to_end a s = take_all (length s - a) (drop a s) (omega (arith, length-drop a s))

-- ---- its size

pub not_there : (s : List ℕ) → length s < numbers_size → sized s ≡ false
unfolding sized
not_there s h = rw (lt-leb numbers_size (length s) h)

pub too_long : (s : List ℕ) → data_limit < size_of s → sized s ≡ false
unfolding sized
too_long s h = go (leb numbers_size (length s))
  where
    go : (b : Bool) → (b && leb (size_of s) data_limit) ≡ false
    go true = lt-leb (size_of s) data_limit h
    go false = refl

-- ---- its cases

module _ (n : ℕ) (s : List ℕ) where
  abbrev k : ℕ
  k = size_of s

  abbrev r : List ℕ
  r = take (record_size s) s

  -- what is left of the list once its length field is within the limit
  abbrev others : Bool
  others = eqb (id_of s) n && formed (record_layout k) k r && eqb (check_in s) (crc_of (content_in s))

  within : size_of s ≤ data_limit → is_record n s ≡ others
  unfolding is_record
  within h = rw (le-leb (size_of s) data_limit h)

  length_record : length r ≡ record_size s → formed (record_layout k) k r ≡ checked (content_offset + k) r
  unfolding record_size all_zero
  length_record e =
      let q : k + 0 - k ≡ 0 = omega arith in
      let none : part (content_offset + k) (k + 0 - k) r ≡ [] = ap (λ (j : ℕ). part (content_offset + k) j r) q in
      rw (eq-eqb (length r) (layout_size (record_layout k)) e, le-leb k k (omega arith), none)
      (let w : content_offset + (k + 0) ≡ content_offset + k = omega arith in ap (λ (j : ℕ). checked j r) w)

  pub cut_short : size_of s ≤ data_limit → length s < record_size s → false ≡ is_record n s
  unfolding record_size
  cut_short h l =
      let w : eqb (length r) (layout_size (record_layout k)) ≡ false = ne_eqb (length r) (layout_size (record_layout k)) (λ e. omega (arith, e, length-take (record_size s) s, l)) in
      sym (within h ∙ go (eqb (id_of s) n) w)
    where
      go : (b : Bool) → eqb (length r) (layout_size (record_layout k)) ≡ false → (b && formed (record_layout k) k r && eqb (check_in s) (crc_of (content_in s))) ≡ false
      go true w = rw w
      go false w = refl

  pub misnumbered : size_of s ≤ data_limit → (id_of s ≡ n → ⊥) → false ≡ is_record n s
  misnumbered h e = sym (within h ∙ rw (ne_eqb (id_of s) n e))

  pub spoilt_data : size_of s ≤ data_limit → id_of s ≡ n → (crc_of (content_in s) ≡ check_in s → ⊥) → false ≡ is_record n s
  spoilt_data h i e =
      sym (within h ∙ rw (eq-eqb (id_of s) n i, ne_eqb (check_in s) (crc_of (content_in s)) (λ q. e (sym q))) (go (formed (record_layout k) k r)))
    where
      go : (b : Bool) → (b && false) ≡ false
      go true = refl
      go false = refl

  pub by_check : size_of s ≤ data_limit → record_size s ≤ length s → id_of s ≡ n → crc_of (content_in s) ≡ check_in s → checked (content_offset + size_of s) (take (record_size s) s) ≡ is_record n s
  by_check h l i e =
      let lr : length r ≡ record_size s = length-take (record_size s) s ∙ omega (arith, l) in
      sym (within h ∙ rw (eq-eqb (id_of s) n i, eq-eqb (check_in s) (crc_of (content_in s)) (sym e), length_record lr) (go (checked (content_offset + k) r)))
    where
      go : (b : Bool) → (b && true) ≡ b
      go true = refl
      go false = refl
