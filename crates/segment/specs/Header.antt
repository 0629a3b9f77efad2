-- The header of a segment's two files, "Exactly same" in both (document 004). Document 02, No. 3: "a 128-byte header for each file .. in the fields and
-- widths of document 004, big-endian, with version 1, partition 0, first ID 1, time and cluster key handed in, and the rest zero"; No. 7: "Segment files
-- carry the 64 bits too, as version 2, and only version 2 is read".
-- Assumes nothing.
use Rattle.std.specs.Prelude.{List, [], ◌∷◌, ◌++◌, ℕ, replicate}
use Rattle.octets.specs.Octets.{fields_of, paired}
use Rattle.segment.specs.declared.header.Stamp.{Stamp}

-- "version 2"
abbrev pub version : ℕ
version = 2

-- "partition 0", of the header; a record keeps its own
abbrev pub header_partition : ℕ
header_partition = 0

-- "first ID 1", for an empty log too
abbrev pub first_id : ℕ
first_id = 1

-- 004: "The header size of 128 bytes"
abbrev pub header_size : ℕ
header_size = 128

-- 004: "format version number int, creation time long, cluster key UUID, partition id int, first transaction ID long, reserved for future use
-- 88 bytes". The key is 16 bytes as they are.
abbrev pub key_size : ℕ
key_size = 16

abbrev pub before_key : Stamp → List (ℕ × ℕ)
before_key z = paired (4 ∷ 8 ∷ []) (version ∷ z.time ∷ [])

abbrev pub behind_key : List (ℕ × ℕ)
behind_key = paired (4 ∷ 8 ∷ []) (header_partition ∷ first_id ∷ [])

abbrev pub reserved : List ℕ
reserved = replicate 88 0

unfoldable pub header_bytes : Stamp → List ℕ
header_bytes z = (fields_of (before_key z) ++ (z.key ++ fields_of behind_key)) ++ reserved
