-- `Log::data_size`. The invariant: the size so far and that of the records that are left make the whole.
use mathlib.Core.Path.{ap, ◌∙◌}
use mathlib.Core.List.{List}
use Prim.Native.Nat.{ℕ}
use Rattle.segment.specs.Records.{record_size}
use Rattle.segment.specs.Pair.{data_size}
use Rattle.segment.proofs.Writing.{left_all, size_turn, size_none}
use native.Mathlib.Omega.{arith}
use borrow.Author.Rules.{rules}
use Rattle.segment_writer.proofs.Log.data_size.Goals as goal

pub loop-n-init : goal.loop-n-init
loop-n-init c =
    let log = c.args.self.now in record {
      whole = ap (λ (ps : List (List ℕ)). data_size ps) (left_all log.places log.medium.now);
      bound = search rules;
    }

pub overflow_add-size : goal.overflow_add-size
overflow_add-size c =
    let log = c.args.self.now in
    let l = c.loop-n in
    let s = size_turn log.places l.n c.size_of-size.result log.medium.now c.loop-n-test.true log.sized (c.size_of-size.ensures ∙ ap record_size c.place.ensures.value) in
    omega (arith, s.1, l.invariant, log.few, c.loop-n-test.true)

pub loop-n-preserved : goal.loop-n-preserved
loop-n-preserved c =
    let log = c.args.self.now in
    let l = c.loop-n in
    let s = size_turn log.places l.n c.size_of-size.result log.medium.now c.loop-n-test.true log.sized (c.size_of-size.ensures ∙ ap record_size c.place.ensures.value) in
    record { whole = omega (arith, s.0, l.invariant.whole); bound = omega (arith, s.1, l.invariant.bound) }

pub returns : goal.returns
returns c =
    let log = c.args.self.now in
    let l = c.loop-n in
    omega (arith, l.invariant.whole, size_none log.places l.n log.medium.now c.loop-n-test.false)
