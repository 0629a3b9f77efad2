-- A place of the log: bytes that hold one record. Document 01, "Medium", second point. What is written, read and judged is said for any layout
-- that has a place's seven numbers in their order, and then of the one that the journal has; the converter reads another (its specs/Old).
-- Assumes nothing.
use Rattle.std.specs.Prelude.{List, [], ◌∷◌, Bool, ◌&&◌, ℕ, ◌^◌, ◌<◌, length, replicate, eqb}
use Rattle.octets.specs.Octets.{paired}
use Rattle.storage.specs.declared.place.Fields.{Fields}
use Rattle.storage.specs.Layout.{Layout, record_of, number_in, data_in, formed}
use Rattle.storage.specs.Sizes.{place_layout, place_size}

-- ================ in any layout of a place

-- "ID, client, generation, partition, sequence, header, data length", each with its width
abbrev pub numbers_as : Layout → Fields → ℕ → List (ℕ × ℕ)
numbers_as L f n =
    paired L.widths (f.id ∷ f.client ∷ f.generation ∷ f.partition ∷ f.sequence ∷ f.header ∷ n ∷ [])

-- the record written for fields and data
abbrev pub record_as : Layout → Fields → List ℕ → List ℕ
record_as L f d = record_of L (numbers_as L f (length d)) d

abbrev pub fields_as : Layout → List ℕ → Fields
fields_as L s =
    record {
      id = number_in L 0 s;
      client = number_in L 1 s;
      generation = number_in L 2 s;
      partition = number_in L 3 s;
      sequence = number_in L 4 s;
      header = number_in L 5 s;
    }

abbrev pub size_as : Layout → List ℕ → ℕ
size_as L s = number_in L 6 s

abbrev pub data_as : Layout → List ℕ → List ℕ
data_as L s = data_in L (size_as L s) s

-- "A place is valid if its ID is its number, its length and zeros fit and its check agrees."
abbrev pub valid_as : Layout → ℕ → List ℕ → Bool
valid_as L n s = eqb (number_in L 0 s) n && formed L (size_as L s) s

-- ================ in the journal's

abbrev pub place_numbers : Fields → ℕ → List (ℕ × ℕ)
place_numbers f n = numbers_as place_layout f n

unfoldable pub record_bytes : Fields → List ℕ → List ℕ
record_bytes f d = record_as place_layout f d

unfoldable pub id_of : List ℕ → ℕ
id_of s = number_in place_layout 0 s

unfoldable pub size_of : List ℕ → ℕ
size_of s = size_as place_layout s

unfoldable pub fields_in : List ℕ → Fields
fields_in s = fields_as place_layout s

unfoldable pub data_of : List ℕ → List ℕ
data_of s = data_as place_layout s

-- its four zeros before the check are among those that have to fit: document 02, No. 7
unfoldable pub valid_place : ℕ → List ℕ → Bool
valid_place n s = valid_as place_layout n s

-- "A wiped place is 64 zeros": 72 since document 02, No. 7
unfoldable pub wiped : List ℕ
wiped = replicate place_size 0

-- each number has its width: what the types u64 and u32 say of them
pub record Fitting (f : Fields) : Type 0 where
  pub id : f.id < 2 ^ 64
  pub client : f.client < 2 ^ 32
  pub generation : f.generation < 2 ^ 32
  pub partition : f.partition < 2 ^ 32
  pub sequence : f.sequence < 2 ^ 64
  pub header : f.header < 2 ^ 32
