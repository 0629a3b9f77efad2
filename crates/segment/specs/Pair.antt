-- The two files of a segment: the records of places one behind the other, and the offset of each. Document 02, No. 3: "a 128-byte header for each file
-- and the records and offsets in the fields and widths of document 004".
-- Assumes nothing.
use Rattle.std.specs.Prelude.{List, [], ◌∷◌, ◌++◌, ℕ, ◌+◌, ◌*◌, ◌≤◌}
use Rattle.octets.specs.Octets.{be_bytes}
use Rattle.storage.specs.Sizes.{data_limit}
use Rattle.storage.specs.Places.{fields_in, data_of, size_of}
use Rattle.storage.specs.Log.{place_at}
use Rattle.segment.specs.declared.header.Stamp.{Stamp}
use Rattle.segment.specs.Header.{header_size, header_bytes}
use Rattle.segment.specs.Records.{record_bytes, record_size}

-- a data file and an index file
pub record Files : Type 0 where
  pub data_file : List ℕ
  pub index_file : List ℕ

-- 004: "transaction record offset long"
abbrev pub offset_size : ℕ
offset_size = 8

-- the records of places
unfoldable pub records_of : List (List ℕ) → List ℕ
records_of [] = []
records_of (p ∷ ps) = record_bytes (fields_in p) (data_of p) ++ records_of ps

-- and where each begins if the first is at offset o: 004, "Each element is byte offsets of the transaction record in the data file."
unfoldable pub offsets_from : ℕ → List (List ℕ) → List ℕ
offsets_from o [] = []
offsets_from o (p ∷ ps) = be_bytes offset_size o ++ offsets_from (o + record_size p) ps

-- the pair that is written for places, with a time and a cluster key
unfoldable pub pair_of : Stamp → List (List ℕ) → Files
pair_of z ps = record { data_file = header_bytes z ++ records_of ps; index_file = header_bytes z ++ offsets_from header_size ps }

-- "the exact lengths"
unfoldable pub records_size : List (List ℕ) → ℕ
records_size [] = 0
records_size (p ∷ ps) = record_size p + records_size ps

abbrev pub data_size : List (List ℕ) → ℕ
data_size ps = header_size + records_size ps

abbrev pub index_size : ℕ → ℕ
index_size k = header_size + offset_size * k

-- the first k places have lengths within the limit, as valid ones do: what the writer needs to know of them
abbrev pub AllSized : ℕ → List ℕ → Type 0
AllSized k m = (n : ℕ) → 1 ≤ n → n ≤ k → size_of (place_at n m) ≤ data_limit
