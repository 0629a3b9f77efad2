-- Why an import is declined. Document 02, No. 3: "Import the pair, with the same time and key handed in, into a medium that is in no cluster and whose
-- places are all wiped." Each condition under its sentence, in import's order.
-- Assumes nothing.
use Rattle.std.specs.Prelude.{List, [], ◌∷◌, Result, Ok, Err, Bool, true, false, not, cond, ◌&&◌, ◌||◌, ℕ, zero, suc, ◌+◌, ◌-◌, ◌/◌, eqb, leb, ltb, length, take, drop}
use Rattle.octets.specs.Octets.{be_of, all_zero}
use Rattle.storage.specs.Sizes.{slots_size, places_limit, medium_size}
use Rattle.segment.specs.declared.header.Stamp.{Stamp}
use Rattle.segment.specs.Header.{header_size, header_bytes}
use Rattle.segment.specs.Records.{record_size, sized, is_record}
use Rattle.segment.specs.Pair.{Files, offset_size, index_size}
use Rattle.import_checks.specs.declared.Reason.{Reason}
use Rattle.import_checks.specs.declared.Reason.TheVariants.{UnfitSlices, Unready, OtherOffset, UnfitRecord}

-- ================ the replies

-- "a call with no named answer gives ok alone"
pub data Reply : Type 0 where
  ok : Reply
  no : ℕ → Reply

-- "Import declines with 24 .., with 25 .. and with 26"; "Slices of other than the exact lengths .. meet refusal 1"
abbrev pub number_of : Reason → ℕ
number_of UnfitSlices = 1
number_of Unready = 24
number_of OtherOffset = 25
number_of UnfitRecord = 26

abbrev pub reply_of : Result (Unit {0}) Reason → Reply
reply_of (Ok done) = ok
reply_of (Err why) = no (number_of why)

-- ================ the conditions

-- how many offsets an index file of so many bytes has room for
unfoldable pub offsets_in : ℕ → ℕ
offsets_in size = (size - header_size) / offset_size

-- 1 "R or N is outside its values, or a lent slice has another length" (document 01), of a medium of N places and "an import's index: 128 + 8 an
-- offset; its data: any": medium and index are the lengths of the lent slices
unfoldable pub outside : ℕ → ℕ → ℕ → Bool
outside N medium index =
    not (leb 1 N && leb N places_limit)
    || not (eqb medium (medium_size N))
    || not (eqb index (index_size (offsets_in index)))

-- 24 "a header other than export would write, a place not wiped or more offsets than N"
unfoldable pub same_bytes : List ℕ → List ℕ → Bool
same_bytes [] [] = true
same_bytes [] (b ∷ t) = false
same_bytes (a ∷ s) [] = false
same_bytes (a ∷ s) (b ∷ t) = eqb a b && same_bytes s t

unfoldable pub other_header : Stamp → List ℕ → Bool
other_header z file = not (same_bytes (take header_size file) (header_bytes z))

unfoldable pub unready : ℕ → List ℕ → Stamp → Files → Bool
unready N m z files =
    other_header z files.data_file
    || other_header z files.index_file
    || not (all_zero (drop slots_size m))
    || ltb N (offsets_in (length files.index_file))

-- 25 "a first offset that isn't 128 or a later one that isn't the one before plus that record's size (until a length field is above 28 or not wholly
-- in the slice)": k offsets stand at the front of `is`, of which the first should be o; s is the data file from there on
unfoldable pub offsets_differ : ℕ → List ℕ → ℕ → List ℕ → Bool
offsets_differ zero is o s = false
offsets_differ (suc k) is o s =
    not (eqb (be_of (take offset_size is)) o)
    || (sized s && offsets_differ k (drop offset_size is) (o + record_size s) (drop (record_size s) s))

-- 26 "a record cut short, misnumbered, too long or failing a check, or bytes after the last": k records, of which the first is n, are all of s
unfoldable pub records_unfit : ℕ → ℕ → List ℕ → Bool
records_unfit n zero s = not (eqb (length s) 0)
records_unfit n (suc k) s = not (is_record n s) || records_unfit (n + 1) k (drop (record_size s) s)

-- ================ the reply

-- "in that order over the whole pair"
unfoldable pub verdict : ℕ → List ℕ → Stamp → Files → Reply
verdict N m z files =
    let k = offsets_in (length files.index_file) in
    let records = drop header_size files.data_file in
    cond (outside N (length m) (length files.index_file)) (no 1)
    (cond (unready N m z files) (no 24)
    (cond (offsets_differ k (drop header_size files.index_file) header_size records) (no 25)
    (cond (records_unfit 1 k records) (no 26)
    ok)))
