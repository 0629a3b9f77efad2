-- Condition 2's promises hold for the old layout too: they are the laws that the new layout has (storage proofs/PlaceLayouts), with a sequence of four
-- bytes and no zeros before the check.
--
--   old-read-back      the old record of fields of the old widths (the sequence below 2^32) reads back as the same fields and data
--   old-only-records   bytes are a valid old place n exactly if they are the old record of some fields with ID n
--   old-sizes          the size that specs/Old names is the layout's
--   renews             a valid old place n, written in the new layout, is a valid place n with the same fields and data
-- Assumes nothing.
use mathlib.Core.Path.{◌≡◌, refl, sym, ap, ◌∙◌}
use mathlib.Core.Logic.{◌↔◌}
use mathlib.Core.Bool.{true}
use mathlib.Core.List.{List}
use Prim.Native.Nat.{ℕ, ◌≤◌}
use native.Mathlib.Nat.{lt_of_lt_of_le}
use lib.Dec.{lit≤}
use lib.ListN.{length}
use Rattle.octets.specs.Octets.{Fits, Bytes}
use Rattle.storage.specs.declared.place.Fields.{Fields}
use Rattle.storage.specs.Layout.{layout_size}
use Rattle.storage.specs.Sizes.{data_limit}
use Rattle.storage.specs.Places.{numbers_as, record_bytes, fields_in, data_of, valid_place, Fitting}
use Rattle.storage.proofs.PlaceLayouts as place
use Rattle.storage.proofs.Records as records
use Rattle.old_places.specs.Old.{old_layout, old_place_size, old_fields, old_data, old_valid, renewed}

-- ================ the statements

-- each number has its old width
abbrev pub OldFitting : Fields → Type 0
OldFitting f = Fits (numbers_as old_layout f 0)

abbrev pub OldReadBack : Type 0
OldReadBack = (f : Fields) (d : List ℕ) → OldFitting f → length d ≤ data_limit → Bytes d → place.Read old_layout f d

abbrev pub OldOnlyRecords : Type 0
OldOnlyRecords = (n : ℕ) (s : List ℕ) → Bytes s → (old_valid n s ≡ true) ↔ place.Written old_layout n s

-- an old place n and its record in the new layout: valid again, with the same fields and data
pub record Renewed (n : ℕ) (s : List ℕ) : Type 0 where
  pub valid : valid_place n (renewed s) ≡ true
  pub fields : fields_in (renewed s) ≡ old_fields s
  pub content : data_of (renewed s) ≡ old_data s

-- ================ the proofs

pub old_sizes : old_place_size ≡ layout_size old_layout
old_sizes = refl

pub old_read_back : OldReadBack
old_read_back f d h short b = place.read_back 4 0 f d h short b

pub old_only_records : OldOnlyRecords
unfolding old_valid
old_only_records n s b = place.only_records 4 0 n s b

-- numbers of the old widths have the new ones
widened : (f : Fields) → OldFitting f → Fitting f
widened f h =
    record {
      id = h.0;
      client = h.1.0;
      generation = h.1.1.0;
      partition = h.1.1.1.0;
      sequence = lt_of_lt_of_le h.1.1.1.1.0 (lit≤ tt);
      header = h.1.1.1.1.1.0;
    }

pub renews : (n : ℕ) (s : List ℕ) → Bytes s → old_valid n s ≡ true → Renewed n s
unfolding renewed old_fields old_data
renews n s b v =
    let w = (old_only_records n s b).0 v in
    let o = old_read_back w.fields w.content w.fitting w.short w.bytes in
    let f : old_fields s ≡ w.fields = ap old_fields w.same ∙ o.fields in
    let d : old_data s ≡ w.content = ap old_data w.same ∙ o.content in
    let r = records.read_back w.fields w.content (widened w.fields w.fitting) w.short w.bytes in
    let same : renewed s ≡ record_bytes w.fields w.content = λ i. record_bytes (f i) (d i) in
    record {
      valid = ap (valid_place n) same ∙ ap (λ (i : ℕ). valid_place i (record_bytes w.fields w.content)) (sym w.id) ∙ r.valid;
      fields = ap fields_in same ∙ r.fields ∙ sym f;
      content = ap data_of same ∙ r.content ∙ sym d;
    }
