-- `import::import`: the lengths, the headers and the medium, the pass over both files; what passes is written, and what is declined leaves the medium.
use mathlib.Core.Path.{◌≡◌, sym, ap, ◌∙◌}
use Prim.Native.Nat.{ℕ}
use lib.ListN.{drop}
use native.Mathlib.Omega.{arith}
use Rattle.std.proofs.lemmas.Result.{err_from_is_err_and}
use Rattle.segment.specs.Header.{header_size}
use Rattle.segment.specs.Pair.{Files, index_size}
use Rattle.import_checks.specs.Refusals.{ok, reply_of}
use Rattle.segment_import.specs.Import.{filled}
use Rattle.segment_import.proofs.Importing.{judged_of, medium_fits, index_fits, places_enough, by_sizes, by_header, by_pass, stays, fills, all_fit}
use Rattle.segment_import.proofs.import.import.Goals as goal

pub returns-then-is_outside : goal.returns-then-is_outside
returns-then-is_outside c =
    let a = c.args in
    let f : Files = record { data_file = a.file.now; index_file = a.index.now } in
    let v = by_sizes a.places a.m.now a.z f (sym c.is_outside.ensures ∙ c.if-is_outside.true) in
    (v, stays a.places a.m.now a.z f 1 v)

pub is_unready-requires : goal.is_unready-requires
is_unready-requires c =
    let a = c.args in
    let f : Files = record { data_file = a.file.now; index_file = a.index.now } in
    omega (arith, medium_fits a.places a.m.now a.z f (sym c.is_outside.ensures ∙ c.if-is_outside.false))

pub returns-then-is_unready : goal.returns-then-is_unready
returns-then-is_unready c =
    let a = c.args in
    let f : Files = record { data_file = a.file.now; index_file = a.index.now } in
    let v = by_header a.places a.m.now a.z f (sym c.is_outside.ensures ∙ c.if-is_outside.false) (sym c.is_unready.ensures.0 ∙ c.if-is_unready.true) in
    (v, stays a.places a.m.now a.z f 24 v)

pub judge_pair-requires : goal.judge_pair-requires
judge_pair-requires c =
    let a = c.args in
    let f : Files = record { data_file = a.file.now; index_file = a.index.now } in record {
      index_len = index_fits a.places a.m.now a.z f (sym c.is_outside.ensures ∙ c.if-is_outside.false) ∙ ap index_size (sym c.offsets_in-count.ensures);
      header_size_in_bounds = c.is_unready.ensures.1 c.if-is_unready.false;
    }

pub returns-in_err-judge_pair : goal.returns-in_err-judge_pair
returns-in_err-judge_pair c =
    let a = c.args in
    let f : Files = record { data_file = a.file.now; index_file = a.index.now } in
    let small = sym c.is_outside.ensures ∙ c.if-is_outside.false in
    let ready = sym c.is_unready.ensures.0 ∙ c.if-is_unready.false in
    let v = sym (ap reply_of c.in_err-judge_pair.was) ∙ c.judge_pair.ensures ∙ ap (λ (j : ℕ). judged_of j f) c.offsets_in-count.ensures ∙ by_pass a.places a.m.now a.z f small ready in
    let p = err_from_is_err_and c.from_residual.result c.from_residual.ensures.1 in
    rw (p.1, p.2) (v, stays a.places a.m.now a.z f _ v)

pub fill-requires : goal.fill-requires
fill-requires c =
    let a = c.args in
    let f : Files = record { data_file = a.file.now; index_file = a.index.now } in
    let small = sym c.is_outside.ensures ∙ c.if-is_outside.false in
    let ready = sym c.is_unready.ensures.0 ∙ c.if-is_unready.false in
    let k = c.offsets_in-count.ensures in
    let said : judged_of c.offsets_in-count.result f ≡ ok = sym c.judge_pair.ensures ∙ ap reply_of c.in_ok-judge_pair.was in record {
      count_in_bounds = omega (arith, k, medium_fits a.places a.m.now a.z f small, places_enough a.places a.m.now a.z f ready);
      header_size_in_bounds = c.is_unready.ensures.1 c.if-is_unready.false;
      file_value = all_fit c.offsets_in-count.result f said;
    }

pub returns : goal.returns
returns c =
    let a = c.args in
    let f : Files = record { data_file = a.file.now; index_file = a.index.now } in
    let small = sym c.is_outside.ensures ∙ c.if-is_outside.false in
    let ready = sym c.is_unready.ensures.0 ∙ c.if-is_unready.false in
    let k = c.offsets_in-count.ensures in
    let v = sym (ap reply_of c.in_ok-judge_pair.was) ∙ c.judge_pair.ensures ∙ ap (λ (j : ℕ). judged_of j f) k ∙ by_pass a.places a.m.now a.z f small ready in
    (v, fills a.places a.m.now a.z f _ v (c.fill.ensures ∙ ap (λ (j : ℕ). filled 1 j (drop header_size a.file.now) a.m.now) k))
