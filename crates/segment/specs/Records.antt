-- A record of a segment's data file. Document 02, No. 3: "A record is ID, request, header, length, data check, data, record check; 004's table has one
-- checksum row more, which we drop. The checks are CRC-32 of the data and of the record before its check." "IDs stay ours."
-- Document 02, No. 7: "Segment files carry the 64 bits too".
-- The numbers before the data check are those of a place, in the same order and widths (storage specs/Sizes `place_layout`): a width is named once, and
-- both are read alike.
-- Assumes nothing.
use Rattle.std.specs.Prelude.{List, [], ◌∷◌, ◌++◌, Bool, ◌&&◌, ℕ, eqb, leb, length, take}
use Rattle.crc32.specs.Crc32.{crc_of}
use Rattle.storage.specs.declared.place.Fields.{Fields}
use Rattle.storage.specs.Layout.{Layout, check_size, data_offset, layout_size, record_of, number_in, data_in, formed}
use Rattle.storage.specs.Sizes.{place_layout, data_limit}
use Rattle.storage.specs.Places as place

-- a record with k bytes of data: no zeros stand behind them
abbrev pub record_layout : ℕ → Layout
record_layout k = record { widths = place_layout.widths ++ (check_size ∷ []); limit = k; zeros = 0 }

-- the bytes before the data check, before the data, and of a record without data
abbrev pub numbers_size : ℕ
numbers_size = data_offset place_layout

abbrev pub content_offset : ℕ
content_offset = data_offset (record_layout 0)

abbrev pub least_record : ℕ
least_record = layout_size (record_layout 0)

-- ---- writing

-- "ID, request, header, length, data check", each with its width
abbrev pub record_numbers : Fields → List ℕ → List (ℕ × ℕ)
record_numbers f d = place.place_numbers f (length d) ++ ((check_size, crc_of d) ∷ [])

-- the record of fields and data
unfoldable pub record_bytes : Fields → List ℕ → List ℕ
record_bytes f d = record_of (record_layout (length d)) (record_numbers f d) d

-- ---- reading: s begins with the record

-- how many bytes the record has that the length field of a place or a record speaks of
unfoldable pub record_size : List ℕ → ℕ
record_size s = layout_size (record_layout (place.size_of s))

-- the longest record: with as much data as a place holds
abbrev pub longest_record : ℕ
longest_record = layout_size (record_layout data_limit)

-- its data check and its data
unfoldable pub check_in : List ℕ → ℕ
check_in s = number_in (record_layout (place.size_of s)) 7 s

unfoldable pub content_in : List ℕ → List ℕ
content_in s = data_in (record_layout (place.size_of s)) (place.size_of s) s

-- the place that the record was written from
unfoldable pub place_in : List ℕ → List ℕ
place_in s = place.record_bytes (place.fields_in s) (content_in s)

-- "(until a length field is above 28 or not wholly in the slice)": the length field, the last of a place's numbers, is there and within its limit
unfoldable pub sized : List ℕ → Bool
sized s = leb (data_offset place_layout) (length s) && leb (place.size_of s) data_limit

-- record n, and not "a record cut short, misnumbered, too long or failing a check"
unfoldable pub is_record : ℕ → List ℕ → Bool
is_record n s =
    leb (place.size_of s) data_limit
    && eqb (place.id_of s) n
    && formed (record_layout (place.size_of s)) (place.size_of s) (take (record_size s) s)
    && eqb (check_in s) (crc_of (content_in s))
