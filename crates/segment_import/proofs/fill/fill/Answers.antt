-- `fill::fill`. The invariant: the records that are left are fit, and their places, written into the medium as it is, give the whole.
use mathlib.Core.Path.{◌≡◌, refl, sym, ap, ◌∙◌}
use Prim.Native.Nat.{ℕ, ◌+◌, ◌-◌, ◌*◌}
use lib.ListN.{length, drop, length-drop}
use native.Mathlib.Omega.{arith}
use Rattle.octets.proofs.Laws.{length_between}
use Rattle.storage.specs.Sizes.{slots_size, place_size}
use Rattle.storage.specs.Places.{size_of}
use Rattle.segment.specs.Header.{header_size}
use Rattle.segment.specs.Records.{record_size, place_in, least_record}
use Rattle.import_checks.specs.Refusals.{records_unfit}
use Rattle.segment_import.specs.Import.{filled}
use Rattle.segment.proofs.Writing.{size_is}
use Rattle.segment_reader.proofs.ReadingRecords.{to_end}
use Rattle.segment_import.proofs.Filling.{length_place, this_record, next_records, filled_next, filled_end}
use Rattle.segment_import.proofs.fill.fill.Goals as goal

-- where place n + 1 begins
abbrev at_place : ℕ → ℕ
at_place n = slots_size + place_size * n

pub loop-n-init : goal.loop-n-init
loop-n-init c =
    let a = c.args in
    let q : a.count - 0 ≡ a.count = omega arith in record {
      inside = c.requires.header_size_in_bounds;
      fit = ap (λ (k : ℕ). records_unfit 1 k (drop header_size a.file.now)) q ∙ c.requires.file_value;
      places = ap (λ (k : ℕ). filled 1 k (drop header_size a.file.now) a.m.now) (sym q);
    }

pub slice_bounds-length_field-count : goal.slice_bounds-length_field-count
slice_bounds-length_field-count c = c.loop-n.invariant.inside

pub slice_bounds-length_field-start : goal.slice_bounds-length_field-start
slice_bounds-length_field-start c = c.loop-n.invariant.inside

pub length_field-requires : goal.length_field-requires
length_field-requires c =
    let a = c.args in
    let l = c.loop-n in
    let w = this_record l.n a.count l.at a.file.now c.loop-n-test.true l.invariant.fit in
    rw (to_end l.at a.file.now) (omega (arith, w.whole, size_is (drop l.at a.file.now)))

pub overflow_add-size : goal.overflow_add-size
overflow_add-size c =
    let a = c.args in
    let l = c.loop-n in
    let w = this_record l.n a.count l.at a.file.now c.loop-n-test.true l.invariant.fit in
    omega (arith, c.length_field.ensures ∙ ap size_of (to_end l.at a.file.now), w.short)

pub slice_bounds-write_place-count-in-loop-n : goal.slice_bounds-write_place-count-in-loop-n
slice_bounds-write_place-count-in-loop-n c = c.loop-n.invariant.inside

pub slice_bounds-write_place-start-in-loop-n : goal.slice_bounds-write_place-start-in-loop-n
slice_bounds-write_place-start-in-loop-n c = c.loop-n.invariant.inside

pub write_place-requires : goal.write_place-requires
write_place-requires c =
    let a = c.args in
    let l = c.loop-n in
    let w = this_record l.n a.count l.at a.file.now c.loop-n-test.true l.invariant.fit in
    let e = to_end l.at a.file.now in
    let size = length_between (at_place l.n) (at_place l.n + place_size) l.m (omega arith) (omega (arith, l.auto.m, c.requires.count_in_bounds, c.loop-n-test.true)) in record {
      out_len = size ∙ omega arith;
      s_bound = rw e w.short;
      s_in_bounds = rw e w.whole;
    }

pub overflow_add-at : goal.overflow_add-at
overflow_add-at c =
    let a = c.args in
    let l = c.loop-n in
    let w = this_record l.n a.count l.at a.file.now c.loop-n-test.true l.invariant.fit in
    omega (arith, c.length_field.ensures ∙ ap size_of (to_end l.at a.file.now), size_is (drop l.at a.file.now), length-drop l.at a.file.now, w.whole, l.invariant.inside, c.well_formed)

pub loop-n-preserved : goal.loop-n-preserved
loop-n-preserved c =
    let a = c.args in
    let l = c.loop-n in
    let w = this_record l.n a.count l.at a.file.now c.loop-n-test.true l.invariant.fit in
    let e = to_end l.at a.file.now in
    let s = drop l.at a.file.now in
    let r : least_record + c.length_field.result ≡ record_size s = omega (arith, c.length_field.ensures ∙ ap size_of e, size_is (drop l.at a.file.now)) in
    let ys : c.write_place.new.out ≡ place_in s = c.write_place.ensures ∙ ap place_in e in record {
      inside = omega (arith, r, length-drop l.at a.file.now, w.whole, l.invariant.inside);
      fit = next_records l.n a.count l.at a.file.now c.loop-n-test.true _ l.invariant.fit r;
      places = l.invariant.places ∙ filled_next l.n a.count l.at a.file.now c.loop-n-test.true _ (at_place l.n) l.m _ r refl ys (ap length ys ∙ length_place s w.short w.whole);
    }

pub returns : goal.returns
returns c =
    let a = c.args in
    let l = c.loop-n in
    sym (l.invariant.places ∙ filled_end l.n a.count l.at a.file.now l.m c.loop-n-test.false)
