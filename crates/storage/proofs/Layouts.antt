-- Records of any layout (specs/Layout): slots, places, and any other list of widths, limit of data and zeros.
--
--   read-back      the record of numbers of their widths and of data within the limit is formed, and its numbers and data are read back
--   only-records   bytes are formed with k bytes of data exactly if they are the record of some numbers of their widths and k bytes of data
-- Assumes nothing.
use mathlib.Core.Path.{◌≡◌, refl, sym, ap, ap₂, ◌∙◌}
use mathlib.Core.Logic.{◌↔◌}
use mathlib.Core.Bool.{true, false, ◌&&◌, and-eq-true_iff}
use mathlib.Core.List.{List, ◌++◌, append_assoc}
use Prim.Native.Nat.{ℕ, ◌+◌, ◌-◌, ◌≤◌, ◌<◌}
use native.Mathlib.Omega.{arith}
use lib.Dec.{eqb, leb}
use lib.ListN.{length, take, drop, replicate, length-append, length-replicate}
use lib.Seq.{take_at, drop_at, drop-drop}
use borrow.Author.Tests.{eq-eqb, ne_eqb, le-leb, lt-leb, eqb-true, leb-true}
use Rattle.octets.specs.Octets.{part, be_bytes, fields_of, widths_of, total, numbers_at, Fits, Bytes, all_zero}
use Rattle.octets.proofs.Laws.{length_part}
use Rattle.octets.proofs.Numbers.{length_fields, bytes_append, bytes_fields}
use Rattle.octets.proofs.Reading.{bytes_part, take_more, parts_join, numbers_back, numbers_read, numbers_fit, numbers_widths, zeros_are, zeros_zero, bytes_zeros}
use Rattle.crc32.specs.Crc32.{crc_of, checked, sealed}
use Rattle.crc32.proofs.Sealed.{sealed_checked, checked_sealed, length_sealed}
use Rattle.storage.specs.Layout.{Layout, check_size, data_offset, check_offset, layout_size, padded, head_of, record_of, data_in, formed}

-- ================ the statements

-- what is read of the record of numbers and data
pub record Read (L : Layout) (fs : List (ℕ × ℕ)) (d : List ℕ) : Type 0 where
  pub valid : formed L (length d) (record_of L fs d) ≡ true
  pub numbers : numbers_at L.widths 0 (record_of L fs d) ≡ fs
  pub content : data_in L (length d) (record_of L fs d) ≡ d

-- the record of some numbers and k bytes of data
pub record Written (L : Layout) (k : ℕ) (s : List ℕ) : Type 0 where
  pub numbers : List (ℕ × ℕ)
  pub content : List ℕ
  pub widths : widths_of numbers ≡ L.widths
  pub fitting : Fits numbers
  pub bytes : Bytes content
  pub size : length content ≡ k
  pub short : k ≤ L.limit
  pub same : s ≡ record_of L numbers content

abbrev pub ReadBack : Type 0
ReadBack = (L : Layout) (fs : List (ℕ × ℕ)) (d : List ℕ) → widths_of fs ≡ L.widths → Fits fs → length d ≤ L.limit → Bytes d → Read L fs d

abbrev pub OnlyRecords : Type 0
OnlyRecords = (L : Layout) (k : ℕ) (s : List ℕ) → Bytes s → (formed L k s ≡ true) ↔ Written L k s

-- ================ the cases of `formed`, in the order in which they are tried, and all that it says

pub record Tests (L : Layout) (k : ℕ) (s : List ℕ) : Type 0 where
  pub size : length s ≡ layout_size L
  pub short : k ≤ L.limit
  pub tail : all_zero (part (data_offset L + k) (L.limit + L.zeros - k) s) ≡ true
  pub check : checked (check_offset L) s ≡ true

module _ (L : Layout) (k : ℕ) (s : List ℕ) where
  pub bad_length : (length s ≡ layout_size L → ⊥) → formed L k s ≡ false
  bad_length h = rw (ne_eqb (length s) (layout_size L) h)

  module _ (l : length s ≡ layout_size L) where
    pub bad_size : L.limit < k → formed L k s ≡ false
    bad_size h = rw (eq-eqb (length s) (layout_size L) l, lt-leb k L.limit h)

    module _ (z : k ≤ L.limit) where
      pub bad_tail : all_zero (part (data_offset L + k) (L.limit + L.zeros - k) s) ≡ false → formed L k s ≡ false
      bad_tail h = rw (eq-eqb (length s) (layout_size L) l, le-leb k L.limit z, h)

      pub by_check : all_zero (part (data_offset L + k) (L.limit + L.zeros - k) s) ≡ true → formed L k s ≡ checked (check_offset L) s
      by_check h = rw (eq-eqb (length s) (layout_size L) l, le-leb k L.limit z, h)

  pub tests : formed L k s ≡ true → Tests L k s
  tests v =
      let a = eqb (length s) (layout_size L) in
      let b = leb k L.limit in
      let c = all_zero (part (data_offset L + k) (L.limit + L.zeros - k) s) in
      let v₃ = (and-eq-true_iff (a && b && c) (checked (check_offset L) s)).0 v in
      let v₂ = (and-eq-true_iff (a && b) c).0 v₃.0 in
      let v₁ = (and-eq-true_iff a b).0 v₂.0 in
      record { size = eqb-true (length s) (layout_size L) v₁.0; short = leb-true k L.limit v₁.1; tail = v₂.1; check = v₃.1 }

-- ================ written, then read

module _ (L : Layout) (fs : List (ℕ × ℕ)) (d : List ℕ) (e : widths_of fs ≡ L.widths) (short : length d ≤ L.limit) where
  numbers_size_lem : length (fields_of fs) ≡ data_offset L
  numbers_size_lem = length_fields fs ∙ ap total e

  length_padded : length (padded L d) ≡ L.limit + L.zeros
  length_padded = simp (length-append, length-replicate) (omega arith)

  pub length_head : length (head_of L fs d) ≡ check_offset L
  length_head = length-append (fields_of fs) (padded L d) ∙ ap₂ (λ (a b : ℕ). a + b) numbers_size_lem length_padded

  pub record_length : length (record_of L fs d) ≡ layout_size L
  record_length = length_sealed (head_of L fs d) ∙ ap (λ (n : ℕ). n + check_size) length_head

  check : List ℕ
  check = be_bytes 4 (crc_of (head_of L fs d))

  split : record_of L fs d ≡ fields_of fs ++ (padded L d ++ check)
  unfolding sealed check
  split = append_assoc (fields_of fs) (padded L d) (be_bytes 4 (crc_of (head_of L fs d)))

  pub numbers_again : Fits fs → numbers_at L.widths 0 (record_of L fs d) ≡ fs
  numbers_again w = ap (λ (ws : List ℕ). numbers_at ws 0 (record_of L fs d)) (sym e) ∙ numbers_read fs 0 (record_of L fs d) (padded L d ++ check) w split

  zeros : List ℕ
  zeros = replicate (L.limit + L.zeros - length d) 0

  behind : drop (data_offset L) (record_of L fs d) ≡ d ++ (zeros ++ check)
  unfolding zeros
  behind =
      ap (drop (data_offset L)) split ∙ drop_at (fields_of fs) (padded L d ++ check) (data_offset L) numbers_size_lem
      ∙ append_assoc d (replicate (L.limit + L.zeros - length d) 0) check

  pub data_again : data_in L (length d) (record_of L fs d) ≡ d
  data_again = ap (take (length d)) behind ∙ take_at d (zeros ++ check) (length d) refl

  tail_zero : all_zero (part (data_offset L + length d) (L.limit + L.zeros - length d) (record_of L fs d)) ≡ true
  unfolding zeros
  tail_zero =
      let n = L.limit + L.zeros - length d in
      ap (λ (l : List ℕ). all_zero (take n l))
      (sym (drop-drop (length d) (data_offset L) (record_of L fs d)) ∙ ap (drop (length d)) behind ∙ drop_at d (zeros ++ check) (length d) refl)
      ∙ ap all_zero (take_at zeros check n (length-replicate n 0)) ∙ zeros_zero n

  pub record_formed : Bytes d → formed L (length d) (record_of L fs d) ≡ true
  record_formed b =
      let n = L.limit + L.zeros - length d in
      by_check L (length d) (record_of L fs d) record_length short tail_zero
      ∙ sealed_checked (check_offset L) (head_of L fs d) length_head
      (bytes_append (fields_of fs) (padded L d) (bytes_fields fs) (bytes_append d (replicate n 0) b (bytes_zeros n)))

pub read_back : ReadBack
read_back L fs d e w h b =
    record { valid = record_formed L fs d e h b; numbers = numbers_again L fs d e h w; content = data_again L fs d e h }

-- ================ read, then written

-- formed bytes are the record of the numbers and data that are read from them
pub record Rewritten (L : Layout) (k : ℕ) (s : List ℕ) : Type 0 where
  pub fitting : Fits (numbers_at L.widths 0 s)
  pub bytes : Bytes (data_in L k s)
  pub size : length (data_in L k s) ≡ k
  pub same : s ≡ record_of L (numbers_at L.widths 0 s) (data_in L k s)

module _ (L : Layout) (k : ℕ) (s : List ℕ) (b : Bytes s) (v : Tests L k s) where
  data_size_lem : length (data_in L k s) ≡ k
  data_size_lem = length_part (data_offset L) k s (omega (arith, v.short, v.size))

  padding : padded L (data_in L k s) ≡ part (data_offset L) (L.limit + L.zeros) s
  padding =
      let n = L.limit + L.zeros in
      let o = data_offset L in
      let z = part (o + k) (n - k) s in
      let l : length z ≡ n - k = length_part (o + k) (n - k) s (omega (arith, v.short, v.size)) in
      let tail : replicate (n - length (data_in L k s)) 0 ≡ z =
      ap (λ (i : ℕ). replicate (n - i) 0) data_size_lem ∙ ap (λ (i : ℕ). replicate i 0) (sym l) ∙ sym (zeros_are z v.tail) in
      let whole : k + (n - k) ≡ n = omega (arith, v.short) in
      ap (λ (r : List ℕ). part o k s ++ r) tail ∙ parts_join o k (n - k) s ∙ ap (λ (i : ℕ). part o i s) whole

  head : head_of L (numbers_at L.widths 0 s) (data_in L k s) ≡ take (check_offset L) s
  head =
      ap₂ (λ (x y : List ℕ). x ++ y) (numbers_back L.widths 0 s b (omega (arith, v.size))) padding
      ∙ take_more (data_offset L) (L.limit + L.zeros) s

  pub rewritten : Rewritten L k s
  rewritten =
      record {
        fitting = numbers_fit L.widths 0 s b (omega (arith, v.size));
        bytes = bytes_part (data_offset L) k s b;
        size = data_size_lem;
        same = checked_sealed (check_offset L) s b v.size v.check ∙ ap sealed (sym head);
      }

pub only_records : OnlyRecords
only_records L k s b = (to, from)
  where
    to : formed L k s ≡ true → Written L k s
    to f =
        let v = tests L k s f in
        let r = rewritten L k s b v in
        record {
          numbers = numbers_at L.widths 0 s;
          content = data_in L k s;
          widths = numbers_widths L.widths 0 s;
          fitting = r.fitting;
          bytes = r.bytes;
          size = r.size;
          short = v.short;
          same = r.same;
        }

    from : Written L k s → formed L k s ≡ true
    from w =
        ap₂ (formed L) (sym w.size) w.same
        ∙ record_formed L w.numbers w.content w.widths (omega (arith, w.size, w.short)) w.bytes
