-- `judge::judge_pair`. The invariant: what is judged of the whole pair is judged of what is left, with what has failed so far in mind (`ReadingPass`).
use mathlib.Core.Path.{◌≡◌, sym, ap, ◌∙◌}
use mathlib.Core.Bool.{Bool, true, false, not, ◌||◌}
use Prim.Native.Nat.{ℕ, ◌+◌, ◌-◌, ◌*◌}
use lib.Dec.{leb}
use lib.ListN.{length, drop, length-drop}
use native.Mathlib.Omega.{arith}
use borrow.Author.Tests.{lt-leb, le-leb}
use Rattle.segment.specs.Header.{header_size}
use Rattle.segment.specs.Pair.{offset_size}
use Rattle.segment.specs.Records.{is_record}
use Rattle.segment_reader.proofs.ReadingRecords.{to_end}
use Rattle.import_checks.proofs.ReadingPass.{judged, size_none, size_some, turn_other, turn_unsized, turn_next, turn_end, within}
use borrow.Author.Rules.{rules}
use Rattle.import_checks.proofs.judge.judge_pair.Goals.{then-spoilt, else-spoilt, then-spoilt-2-via-then-spoilt-2, then-spoilt-2-via-else-spoilt-2+then-at-file}
use Rattle.import_checks.proofs.judge.judge_pair.Goals as goal

-- where offset n stands
abbrev at_offset : ℕ → ℕ
at_offset n = header_size + offset_size * n

pub loop-n-init : goal.loop-n-init
unfolding judged
loop-n-init c =
    let a = c.args in
    (search rules, let q : a.count ≡ a.count - 0 = omega arith in ap (λ (k : ℕ). judged false 1 k (drop header_size a.index.now) header_size (drop header_size a.file.now)) q)

pub returns-then-get_be-at : goal.returns-then-get_be-at
unfolding judged
returns-then-get_be-at c =
    let a = c.args in
    let l = c.loop-n in
    sym (l.invariant.1 ∙ turn_other l.spoilt l.n l.at (at_offset l.n) a.count a.index.now a.file.now c.loop-n-test.true (λ q. c.if-get_be-at.true (c.get_be.ensures.0 ∙ q)))

pub returns-in_default : goal.returns-in_default
unfolding judged
returns-in_default c =
    let a = c.args in
    let l = c.loop-n in
    sym (l.invariant.1 ∙ turn_unsized l.spoilt l.n l.at (at_offset l.n) a.count a.index.now a.file.now c.loop-n-test.true (sym c.get_be.ensures.0 ∙ c.if-get_be-at.false) (size_none (drop l.at a.file.now) (sym c.in_default.is ∙ c.size_at.ensures)))

pub slice_bounds-is_record-count : goal.slice_bounds-is_record-count
slice_bounds-is_record-count c =
    let a = c.args in
    let l = c.loop-n in
    let w = size_some c.in-Some.size (drop l.at a.file.now) (sym c.in-Some.is ∙ c.size_at.ensures) in
    let g = within l.spoilt l.n l.at (at_offset l.n) a.count a.index.now a.file.now w.0 in
    omega (arith, g.0, length-drop l.at a.file.now)

pub slice_bounds-is_record-start : goal.slice_bounds-is_record-start
slice_bounds-is_record-start c =
    let a = c.args in
    let l = c.loop-n in
    let w = size_some c.in-Some.size (drop l.at a.file.now) (sym c.in-Some.is ∙ c.size_at.ensures) in
    let g = within l.spoilt l.n l.at (at_offset l.n) a.count a.index.now a.file.now w.0 in
    omega (arith, g.0, length-drop l.at a.file.now)

pub is_record-requires : goal.is_record-requires
is_record-requires c =
    let a = c.args in
    let l = c.loop-n in
    let w = size_some c.in-Some.size (drop l.at a.file.now) (sym c.in-Some.is ∙ c.size_at.ensures) in
    let g = within l.spoilt l.n l.at (at_offset l.n) a.count a.index.now a.file.now w.0 in
    let e = to_end l.at a.file.now in record {
      place_layout_in_bounds = rw e g.0;
      s_bound = rw e g.1;
    }

pub overflow_add-at : goal.overflow_add-at
overflow_add-at c =
    let a = c.args in
    let l = c.loop-n in
    let w = size_some c.in-Some.size (drop l.at a.file.now) (sym c.in-Some.is ∙ c.size_at.ensures) in
    let g = within l.spoilt l.n l.at (at_offset l.n) a.count a.index.now a.file.now w.0 in
    omega (arith, g.2, w.1, c.well_formed)

pub loop-n-preserved : goal.loop-n-preserved
unfolding judged
loop-n-preserved c =
    let a = c.args in
    let l = c.loop-n in
    let w = size_some c.in-Some.size (drop l.at a.file.now) (sym c.in-Some.is ∙ c.size_at.ensures) in
    let g = within l.spoilt l.n l.at (at_offset l.n) a.count a.index.now a.file.now w.0 in
    let e = to_end l.at a.file.now in
    let failed : c.if-spoilt.spoilt ≡ (l.spoilt || not (is_record (l.n + 1) (drop l.at a.file.now))) =
    elim c.if-spoilt.branch [
      | then-spoilt b ↦ b.spoilt-is ∙ b.if-spoilt.true ∙ ap (λ (p : Bool). p || not (is_record (l.n + 1) (drop l.at a.file.now))) (sym b.if-spoilt.true)
      | else-spoilt b ↦ b.spoilt-is ∙ ap not (b.is_record.ensures ∙ ap (is_record (l.n + 1)) e) ∙ ap (λ (p : Bool). p || not (is_record (l.n + 1) (drop l.at a.file.now))) (sym b.if-spoilt.false)
    ] in
    let next : at_offset l.n + offset_size ≡ at_offset (l.n + 1) = omega arith in (
      omega (arith, g.2, w.1),
      l.invariant.1
          ∙ turn_next l.spoilt l.n l.at (at_offset l.n) a.count a.index.now a.file.now c.in-Some.size _ c.loop-n-test.true (sym c.get_be.ensures.0 ∙ c.if-get_be-at.false) w.0 w.1 failed
          ∙ ap (λ (i : ℕ). judged c.if-spoilt.spoilt (l.n + 1 + 1) (a.count - (l.n + 1)) (drop i a.index.now) (l.at + c.in-Some.size) (drop (l.at + c.in-Some.size) a.file.now)) next,
    )

pub returns-then-spoilt-2 : goal.returns-then-spoilt-2
unfolding judged
returns-then-spoilt-2 c =
    let a = c.args in
    let l = c.loop-n in
    let n = length a.file.now in
    let unfit : true ≡ (l.spoilt || not (leb n l.at)) =
    elim c.then-spoilt-2.branch [
      | then-spoilt-2-via-then-spoilt-2 w ↦ ap (λ (p : Bool). p || not (leb n l.at)) (sym w.if-spoilt-2.true)
      | then-spoilt-2-via-else-spoilt-2+then-at-file w ↦ rw (w.if-spoilt-2.false, lt-leb n l.at w.if-at-file.true)
    ] in
    sym (l.invariant.1 ∙ turn_end l.spoilt l.n l.at (at_offset l.n) a.count a.index.now a.file.now true c.loop-n-test.false unfit)

pub returns : goal.returns
unfolding judged
returns c =
    let a = c.args in
    let l = c.loop-n in
    let fit : false ≡ (l.spoilt || not (leb (length a.file.now) l.at)) = rw (c.if-spoilt-2.false, le-leb (length a.file.now) l.at c.if-at-file.false) in
    sym (l.invariant.1 ∙ turn_end l.spoilt l.n l.at (at_offset l.n) a.count a.index.now a.file.now false c.loop-n-test.false fit)
