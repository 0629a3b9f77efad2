-- The converter. Document 02, No. 7: "A converter turns an old medium into a new one in a second slice; every slot and every record of the log is kept,
-- and all other places come out wiped." First when it declines, then what it writes.
-- Assumes nothing.
use Rattle.std.specs.Prelude.{List, [], ◌∷◌, ◌++◌, Result, Ok, Err, Bool, cond, ◌&&◌, ◌||◌, ℕ, ◌-◌, ◌*◌, ◌/◌, eqb, leb, length, take, replicate}
use Rattle.storage.specs.Sizes.{slots_size, place_size, places_limit, medium_size}
use Rattle.storage.specs.Slots.{valid_slot, first_of, second_of}
use Rattle.converter.specs.declared.NotConvertible.{NotConvertible}
use Rattle.old_places.specs.Old.{old_place_size, old_medium_size, old_log, old_mark, renewed}

-- ================ the replies

pub data Reply : Type 0 where
  ok : Reply
  no : ℕ → Reply

-- "Number 27 is given by the converter"
abbrev pub reply_of : Result (Unit {0}) NotConvertible → Reply
reply_of (Ok done) = ok
reply_of (Err why) = no 27

-- ================ when it declines

-- how many places an old medium of so many bytes has room for
unfoldable pub places_of : ℕ → ℕ
places_of size = (size - slots_size) / old_place_size

-- the lengths of an old medium and a new one of N places, "N from 1 to 1,000"
abbrev pub lengths_of : ℕ → ℕ → ℕ → Bool
lengths_of N old new = leb 1 N && leb N places_limit && eqb old (old_medium_size N) && eqb new (medium_size N)

-- "when the lengths aren't those of one N from 1 to 1,000": they are
unfoldable pub sizes_fit : ℕ → ℕ → Bool
sizes_fit old new = lengths_of (places_of old) old new

-- "or the old medium has no valid slot": it has one
unfoldable pub has_slot : List ℕ → Bool
has_slot m = valid_slot (first_of m) || valid_slot (second_of m)

unfoldable pub verdict : List ℕ → List ℕ → Reply
verdict old new = cond (sizes_fit (length old) (length new) && has_slot old) ok (no 27)

-- ================ what it writes

-- the records of old places in the new layout, one behind the other
unfoldable pub all_renewed : List (List ℕ) → List ℕ
all_renewed [] = []
all_renewed (s ∷ ss) = renewed s ++ all_renewed ss

-- "every slot and every record of the log is kept, and all other places come out wiped": the new medium of an old one of N places
unfoldable pub converted : ℕ → List ℕ → List ℕ
converted N m = take slots_size m ++ (all_renewed (old_log N m) ++ replicate (place_size * (N - old_mark N m)) 0)

-- "with the second slice unchanged": declined
unfoldable pub if_ok : Reply → List ℕ → List ℕ → List ℕ
if_ok ok new old = new
if_ok (no n) new old = old

-- the second slice after it
unfoldable pub new_medium : List ℕ → List ℕ → List ℕ
new_medium old new = if_ok (verdict old new) (converted (places_of (length old)) old) new
