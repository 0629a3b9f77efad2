-- `export::export_by`: no mark is heard, by its tag (`not_exported`); the files have other lengths (`not_sized`); or they are written (`exported`).
use mathlib.Core.Path.{refl, sym, ap₂, ◌∙◌}
use Rattle.checks.specs.Results.{files_of}
use Rattle.export_calls.proofs.Exporting.{exact, not_exported, not_sized, exported}
use Rattle.export_calls.proofs.export.export_by.Goals as goal

pub returns-in_default : goal.returns-in_default
returns-in_default c =
    let a = c.args in
    not_exported a.records a.s a.i _ _ (files_of a.file.now a.index.now) a.heard c.in_default.not-Mark c.read_by.ensures

pub invariant_of-log : goal.invariant_of-log
invariant_of-log c =
    let p = c.requires in record {
      inside = p.k_in_bounds.0;
      sized = p.by_index _ c.in-Mark.is;
      few = p.k_in_bounds.1;
    }

pub returns-then-other_sizes : goal.returns-then-other_sizes
returns-then-other_sizes c =
    let a = c.args in
    let files = files_of a.file.now a.index.now in
    not_sized a.records a.s a.i _ _ files c.in-Mark.is (sym c.if-other_sizes.true ∙ c.other_sizes.ensures files refl refl) c.declined.ensures

pub write_pair-requires : goal.write_pair-requires
write_pair-requires c =
    let a = c.args in
    let files = files_of a.file.now a.index.now in
    let l = exact a.k a.m.now files (sym (c.other_sizes.ensures files refl refl) ∙ c.if-other_sizes.false) in record {
      file_len = l.0;
      index_len = l.1;
    }

pub returns : goal.returns
returns c =
    let a = c.args in
    let files = files_of a.file.now a.index.now in
    exported a.records a.s a.i _ _ files c.in-Mark.is (sym c.if-other_sizes.false ∙ c.other_sizes.ensures files refl refl) c.read_by-2.ensures
    (ap₂ files_of c.write_pair.ensures.0 c.write_pair.ensures.1)
