-- Import: a pair of files read into a medium. Document 02, No. 3: "Import is no cluster call and writes only its records' places." What it declines is in
-- import_checks specs/Refusals; here what it writes.
-- Assumes nothing.
use Rattle.std.specs.Prelude.{List, ℕ, zero, suc, ◌+◌, length, drop}
use Rattle.octets.specs.Octets.{write_at}
use Rattle.storage.specs.Sizes.{place_offset}
use Rattle.segment.specs.declared.header.Stamp.{Stamp}
use Rattle.segment.specs.Header.{header_size}
use Rattle.segment.specs.Records.{record_size, place_in}
use Rattle.segment.specs.Pair.{Files}
use Rattle.import_checks.specs.Refusals.{Reply, ok, no, offsets_in, verdict}

-- "writes only its records' places": those of k records at the front of s, from place n on
unfoldable pub filled : ℕ → ℕ → List ℕ → List ℕ → List ℕ
filled n zero s m = m
filled n (suc k) s m = filled (n + 1) k (drop (record_size s) s) (write_at (place_offset n) (place_in s) m)

-- "with the medium unchanged": declined
unfoldable pub if_ok : Reply → List ℕ → List ℕ → List ℕ
if_ok ok new old = new
if_ok (no n) new old = old

-- the medium after it
unfoldable pub imported : ℕ → List ℕ → Stamp → Files → List ℕ
imported N m z files =
    if_ok (verdict N m z files) (filled 1 (offsets_in (length files.index_file)) (drop header_size files.data_file) m) m
