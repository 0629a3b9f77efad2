-- A replica's operations, each as the list of its writes. Document 01, "Calls on a cluster".
-- Assumes nothing.
use Rattle.std.specs.Prelude.{List, [], ◌∷◌, ◌++◌, cond, ◌≡◌, ℕ, zero, suc, ◌+◌, ◌-◌, ◌*◌, ◌≤◌, ◌<◌, min, eqb}
use Rattle.octets.specs.Octets.{part, write_at}
use Rattle.fate.specs.Fates.{Write}
use Rattle.storage.specs.declared.slot.Slot.{Slot}
use Rattle.storage.specs.declared.slot.Current.{Current}
use Rattle.storage.specs.declared.operation.Target.{Target}
use Rattle.storage.specs.declared.operation.Target.TheVariants.{Whole, Mark, LowWater}
use Rattle.storage.specs.declared.operation.Operation.{Operation}
use Rattle.storage.specs.declared.operation.Operation.TheVariants.{Prepare, Trim, Note, Append}
use Rattle.storage.specs.Sizes.{place_offset, medium_size}
use Rattle.storage.specs.Places.{wiped}
use Rattle.storage.specs.Slots.{slot_bytes, current_of, stored_slot, other_at}
use Rattle.storage.specs.Log.{mark_of}

-- "A slot write goes to the other one."
abbrev pub slot_write : Current → Slot → Write
slot_write c x = record { at = other_at c; bytes = slot_bytes x }

abbrev pub place_write : ℕ → List ℕ → Write
place_write n bs = record { at = place_offset n; bytes = bs }

-- "Truncating wipes from the highest ID down, one write per place": d places above place t
unfoldable pub wipes : ℕ → ℕ → List Write
wipes t zero = []
wipes t (suc d) = place_write (t + suc d) wiped ∷ wipes t d

-- truncating a log with mark n to place t
abbrev pub truncation : ℕ → ℕ → List Write
truncation n t = wipes t (n - t)

-- "a slot with the new promise, other fields kept, unless the promise is equal"
unfoldable pub promising : Current → Slot → ℕ → List Write
promising c x session =
    cond (eqb x.promise session) [] (slot_write c (record { promise = session; low = x.low; local = x.local }) ∷ [])

-- "then truncates to the entry's closing mark if there is one"; document 02, No. 10: "Preparing a restored replica truncates to its low-water mark", low
unfoldable pub closing : ℕ → ℕ → Target → List Write
closing n low Whole = []
closing n low (Mark t) = truncation n t
closing n low LowWater = truncation n low

-- the mark that this leaves of a log with mark n
abbrev pub closed_mark : ℕ → Target → ℕ → ℕ
closed_mark low Whole n = n
closed_mark low (Mark t) n = min t n
closed_mark low LowWater n = min low n

-- prepare: a new promise keeps the low-water marks, so before or after it is the same
unfoldable pub prepare_writes : ℕ → ℕ → Target → List ℕ → List Write
prepare_writes N session to m = promising (current_of m) (stored_slot m) session ++ closing (mark_of N m) (stored_slot m).low to

-- trim: truncates to a mark
unfoldable pub trim_writes : ℕ → ℕ → List ℕ → List Write
trim_writes N t m = truncation (mark_of N m) t

-- send and copy: a record in the place behind mark n
abbrev pub append_writes : ℕ → List ℕ → List Write
append_writes n bs = place_write (n + 1) bs ∷ []

-- note: "a slot with the promise kept", and these low-water marks
unfoldable pub note_writes : ℕ → ℕ → List ℕ → List Write
note_writes low local m =
    slot_write (current_of m) (record { promise = (stored_slot m).promise; low = low; local = local }) ∷ []

-- the writes of an operation on the medium m; bs are the bytes that lie beside an append
abbrev pub writes_of : ℕ → List ℕ → Operation → List ℕ → List Write
writes_of N bs (Prepare session to) m = prepare_writes N session to m
writes_of N bs (Trim t) m = trim_writes N t m
writes_of N bs (Note low local) m = note_writes low local m
writes_of N bs (Append n) m = append_writes n bs

-- an append writes a place of the medium
abbrev pub HasPlace : ℕ → Operation → Type 0
HasPlace N (Prepare session to) = Unit {0}
HasPlace N (Trim t) = Unit {0}
HasPlace N (Note low local) = Unit {0}
HasPlace N (Append n) = n < N

-- what is known, before any byte is read again, of the mark of m after an operation on a medium with this low-water mark and a log with mark n: behind an
-- append the log may go on
abbrev pub MarkKnown : ℕ → Operation → ℕ → ℕ → List ℕ → Type 0
MarkKnown N (Prepare session to) low n m = mark_of N m ≡ closed_mark low to n
MarkKnown N (Trim t) low n m = mark_of N m ≡ min t n
MarkKnown N (Note noted local) low n m = mark_of N m ≡ n
MarkKnown N (Append k) low n m = n ≤ mark_of N m

-- "The media lie one after another in a single lent slice": replica i's medium, and the media with another in its place
abbrev pub medium_at : ℕ → ℕ → List ℕ → List ℕ
medium_at N i media = part (i * medium_size N) (medium_size N) media

abbrev pub with_medium : ℕ → ℕ → List ℕ → List ℕ → List ℕ
with_medium N i m media = write_at (i * medium_size N) m media
