-- Stored records read back as the same fields, and only the layout's records are read (condition 2). Both are proofs/Layouts' laws, for
-- the layout of a place (by way of proofs/PlaceLayouts, whose laws the converter's old layout has too) and that of a slot.
--
--   read-back      for all fields of their widths and data of 0 to 28 bytes, the record written for ID n is a valid place n, and reading
--                  it gives the same ID, client, generation, partition, sequence, header, length and data
--   only-records   bytes are a valid place n exactly if they are the record written for some fields with ID n
--   sizes          the sizes that specs/Sizes names are those of the layouts
--   only-slots     32 bytes are a valid slot exactly if they are the slot written for some fields (that these are read back: SlotReadBack)
-- Assumes nothing.
use mathlib.Core.Path.{◌≡◌, refl, sym, ap, ap₂, ◌∙◌}
use mathlib.Core.Logic.{◌↔◌}
use mathlib.Core.Bool.{true}
use mathlib.Core.List.{List}
use Prim.Native.Nat.{ℕ, ◌*◌, ◌≤◌}
use lib.Dec.{lit<}
use lib.ListN.{length}
use Rattle.octets.specs.Octets.{Fits, Bytes}
use Rattle.storage.specs.declared.place.Fields.{Fields}
use Rattle.storage.specs.declared.slot.Slot.{Slot}
use Rattle.storage.specs.Layout.{layout_size}
use Rattle.storage.specs.Sizes.{place_layout, slot_layout, data_limit, slot_size, slots_size, place_size}
use Rattle.storage.specs.Places.{place_numbers, record_bytes, size_of, fields_in, data_of, valid_place, Fitting}
use Rattle.storage.specs.Slots.{slot_bytes, slot_of, valid_slot, FittingSlot}
use Rattle.storage.proofs.Layouts as layout
use Rattle.storage.proofs.SlotReadBack.{slot_valid}
use Rattle.storage.proofs.PlaceLayouts as place

-- ================ the statements

-- what is read of the record of fields and data
pub record Read (f : Fields) (d : List ℕ) : Type 0 where
  pub valid : valid_place f.id (record_bytes f d) ≡ true
  pub fields : fields_in (record_bytes f d) ≡ f
  pub size : size_of (record_bytes f d) ≡ length d
  pub content : data_of (record_bytes f d) ≡ d

-- the record written for some fields with ID n
pub record Written (n : ℕ) (s : List ℕ) : Type 0 where
  pub fields : Fields
  pub content : List ℕ
  pub fitting : Fitting fields
  pub short : length content ≤ data_limit
  pub bytes : Bytes content
  pub id : fields.id ≡ n
  pub same : s ≡ record_bytes fields content

abbrev pub ReadBack : Type 0
ReadBack = (f : Fields) (d : List ℕ) → Fitting f → length d ≤ data_limit → Bytes d → Read f d

abbrev pub OnlyRecords : Type 0
OnlyRecords = (n : ℕ) (s : List ℕ) → Bytes s → (valid_place n s ≡ true) ↔ Written n s

-- the slot written for some fields
pub record SlotWritten (s : List ℕ) : Type 0 where
  pub slot : Slot
  pub fitting : FittingSlot slot
  pub same : s ≡ slot_bytes slot

abbrev pub OnlySlots : Type 0
OnlySlots = (s : List ℕ) → Bytes s → (valid_slot s ≡ true) ↔ SlotWritten s

abbrev pub Sizes : Type 0
Sizes = (slot_size ≡ layout_size slot_layout) × (slots_size ≡ 2 * slot_size) × (place_size ≡ layout_size place_layout)

-- ================ the proofs

pub sizes : Sizes
sizes = (refl, refl, refl)

-- the numbers have their widths
fits : (f : Fields) → Fitting f → Fits (place_numbers f 0)
fits f w = (w.id, (w.client, (w.generation, (w.partition, (w.sequence, (w.header, (lit< tt, tt)))))))

pub read_back : ReadBack
unfolding record_bytes valid_place fields_in size_of data_of
read_back f d w h b =
    let r = place.read_back 8 4 f d (fits f w) h b in
    record { valid = r.valid; fields = r.fields; size = r.size; content = r.content }

written : (n : ℕ) (s : List ℕ) → Bytes s → valid_place n s ≡ true → Written n s
unfolding record_bytes valid_place
written n s b e =
    let r = (place.only_records 8 4 n s b).0 e in
    let w = r.fitting in
    record {
      fields = r.fields;
      content = r.content;
      fitting = record { id = w.0; client = w.1.0; generation = w.1.1.0; partition = w.1.1.1.0; sequence = w.1.1.1.1.0; header = w.1.1.1.1.1.0 };
      short = r.short;
      bytes = r.bytes;
      id = r.id;
      same = r.same;
    }

pub only_records : OnlyRecords
only_records n s b = (
  written n s b,
  λ w. ap₂ valid_place (sym w.id) w.same ∙ (read_back w.fields w.content w.fitting w.short w.bytes).valid,
)

slot_written : (s : List ℕ) → Bytes s → valid_slot s ≡ true → SlotWritten s
unfolding valid_slot slot_bytes slot_of
slot_written s b e =
    let r = layout.rewritten slot_layout 0 s b (layout.tests slot_layout 0 s e) in
    record { slot = slot_of s; fitting = record { promise = r.fitting.0; low = r.fitting.1.0; local = r.fitting.1.1.0 }; same = r.same }

pub only_slots : OnlySlots
only_slots s b = (slot_written s b, λ w. ap valid_slot w.same ∙ slot_valid w.slot)
