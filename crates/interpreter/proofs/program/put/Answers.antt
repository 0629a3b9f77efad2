-- `put`: a reply has at most 24 bytes.
-- Assumes nothing.
use mathlib.Core.Path.{ap, ◌∙◌}
use mathlib.Core.List.{List}
use Prim.Native.Nat.{ℕ, ◌+◌, ◌-◌}
use lib.ListN.{length-take}
use Rattle.octets.specs.Octets.{write_at}
use Rattle.replies.specs.Texts.{text_of}
use Rattle.replies.proofs.Lengths.{text_short}
use Rattle.answers.proofs.Answers.{first_written}
use native.Mathlib.Omega.{arith}
use Rattle.interpreter.proofs.program.put.Goals as goal

pub slice_bounds-text-end : goal.slice_bounds-text-end
slice_bounds-text-end c = omega (arith, text_short c.args.printed, c.print-k.ensures.value, c.print-k.auto.out)

pub slice_bounds-put-end-2 : goal.slice_bounds-put-end-2
slice_bounds-put-end-2 c =
    let r = c.print-k in
    omega (arith, text_short c.args.printed, r.ensures.value, r.auto.out, length-take r.result r.new.out)

pub put-requires : goal.put-requires
put-requires c =
    let r = c.print-k in
    omega (arith, text_short c.args.printed, r.ensures.value, length-take r.result r.new.out, c.requires.o_bound)

pub overflow_add-result : goal.overflow_add-result
overflow_add-result c = omega (arith, text_short c.args.printed, c.print-k.ensures.value, c.requires)

pub returns : goal.returns
returns c =
    let a = c.args in
    let r = c.print-k in record {
      upper_bound = omega (arith, text_short a.printed, r.ensures.value, c.requires);
      value = ap (λ (k : ℕ). a.o + k) r.ensures.value;
      out_after = c.put.ensures
          ∙ ap (λ (l : List ℕ). write_at a.o l a.out.now) (first_written (text_of a.printed) _ r.new.out r.result r.ensures.value r.ensures.out_after);
    }
