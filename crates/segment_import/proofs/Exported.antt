-- The pair written for the first k places of a log: its headers, records and offsets, and that import's tests over the files pass.
-- Assumes nothing.
use mathlib.Core.Path.{◌≡◌, sym, ap, ap₂, ◌∙◌}
use mathlib.Core.Bool.{false}
use mathlib.Core.List.{List}
use Prim.Native.Nat.{ℕ, zero, suc, ◌+◌, ◌*◌, ◌≤◌}
use native.Mathlib.Omega.{arith}
use lib.ListN.{length, take, drop, length-append}
use lib.Seq.{take_at, drop_at}
use Rattle.octets.specs.Octets.{Bytes}
use Rattle.octets.proofs.Reading.{bytes_part}
use Rattle.storage.specs.Sizes.{place_size, places_limit, place_offset}
use Rattle.storage.specs.Places.{valid_place}
use Rattle.storage.specs.Log.{place_at, places_from, mark_of}
use Rattle.storage.proofs.Scan.{length_places, log_valid}
use Rattle.segment.specs.declared.header.Stamp.{Stamp}
use Rattle.segment.specs.Header.{header_size, key_size, header_bytes}
use Rattle.segment.specs.Pair.{Files, offset_size, records_of, offsets_from, pair_of, index_size}
use Rattle.segment.proofs.Headers.{length_header}
use Rattle.segment.proofs.Writing.{length_offsets}
use Rattle.import_checks.specs.Refusals.{offsets_in}
use Rattle.storage.proofs.Filled.{AllValid}
use Rattle.segment_import.proofs.Places.{places_in, AllBytes, records_fit, places_back, offsets_agree}
use Rattle.segment_import.proofs.Medium.{valid_places}
use Rattle.import_checks.proofs.Judged.{offsets_of_lem}
use Rattle.segment_import.proofs.Replies.{differs, unfits}

bytes_places : (k n : ℕ) (m : List ℕ) → Bytes m → AllBytes (places_from k n m)
unfolding places_from place_at
bytes_places zero n m b = tt
bytes_places (suc k) n m b = (bytes_part (place_offset n) place_size m b, bytes_places k (n + 1) m b)

module _ (N k : ℕ) (m : List ℕ) (z : Stamp) (b : Bytes m) (key : length z.key ≡ key_size) (h : k ≤ mark_of N m) where
  -- the places exported, and the pair
  abbrev ps : List (List ℕ)
  ps = places_from k 1 m

  abbrev pair : Files
  pair = pair_of z (places_from k 1 m)

  count : length ps ≡ k
  count = length_places k 1 m

  pub all_valid : AllValid 1 ps
  all_valid = valid_places k 1 m (λ i g. let q : 1 + i ≡ i + 1 = omega arith in ap (λ (j : ℕ). valid_place j (place_at j m)) q ∙ log_valid N i m (omega arith))

  all_bytes : AllBytes ps
  all_bytes = bytes_places k 1 m b

  -- the header of each file and what stands behind it
  pub heads : (take header_size pair.data_file ≡ header_bytes z) × (take header_size pair.index_file ≡ header_bytes z)
  unfolding pair_of
  heads =
      let l = length_header z key in
      (take_at (header_bytes z) (records_of ps) header_size l, take_at (header_bytes z) (offsets_from header_size ps) header_size l)

  pub tails : (drop header_size pair.data_file ≡ records_of ps) × (drop header_size pair.index_file ≡ offsets_from header_size ps)
  unfolding pair_of
  tails =
      let l = length_header z key in
      (drop_at (header_bytes z) (records_of ps) header_size l, drop_at (header_bytes z) (offsets_from header_size ps) header_size l)

  pub index_size_lem : length pair.index_file ≡ index_size k
  unfolding pair_of
  index_size_lem =
      length-append (header_bytes z) (offsets_from header_size ps)
      ∙ ap₂ (λ (x y : ℕ). x + y) (length_header z key) (length_offsets header_size ps ∙ ap (λ (i : ℕ). offset_size * i) count)

  pub offsets : offsets_in (length pair.index_file) ≡ k
  offsets = offsets_of_lem k (length pair.index_file) index_size_lem

  offsets' : offsets_in (length pair.index_file) ≡ length ps
  offsets' = offsets ∙ sym count

  pub agree : k ≤ places_limit → differs pair ≡ false
  agree g = rw (offsets', tails.0, tails.1) (offsets_agree 1 header_size ps all_valid all_bytes (omega (arith, count)))

  pub fit : unfits pair ≡ false
  fit = rw (offsets', tails.0) (records_fit 1 ps all_valid all_bytes)

  -- the records are read as the places that they were written for
  pub places_again : places_in k (records_of ps) ≡ ps
  places_again = ap (λ (i : ℕ). places_in i (records_of ps)) (sym count) ∙ places_back 1 ps all_valid all_bytes
