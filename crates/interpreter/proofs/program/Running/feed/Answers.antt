-- `Running::feed`. The invariant: a line held fits, and so do the replies to what is left. The measure is what is left of the bytes.
-- Assumes nothing.
use mathlib.Core.Path.{refl, sym, ◌∙◌}
use Prim.Native.Nat.{◌<◌}
use lib.ListN.{length}
use Rattle.interpreter.specs.Input.{program_in}
use Rattle.interpreter.proofs.Fed.{fed_none, end_turn, line_turn}
use native.Mathlib.Omega.{arith}
use borrow.Author.Rules.{rules}
use Rattle.interpreter.proofs.program.Running.feed.Goals as goal

pub loop-i-init : goal.loop-i-init
loop-i-init c =
    let p = c.requires in
    (p.n_bound, omega (arith, p.o_bound), omega arith, refl)

pub returns-then-j-chunk : goal.returns-then-j-chunk
returns-then-j-chunk c =
    let a = c.args in
    let l = c.loop-i in
    let s = l.self in
    let f = c.find-j in
    let k = c.keep-self in record {
      n_bound_after = search rules;
      o_bound_after = omega (arith, l.invariant.1);
      value = sym (l.invariant.3 ∙ end_turn a.chunk.now l.i f.result l.invariant.2 f.ensures.0 s.n s.o k.result s.cluster.held s.line k.new.held s.cluster.media s.cluster.tables s.out (search rules) (search rules) k.ensures.value k.ensures.held_after c.if-j-chunk.true);
    }

pub loop-i-smaller : goal.loop-i-smaller
loop-i-smaller c =
    let f = c.find-j.ensures in
    omega (arith, c.if-j-chunk.false, f.0, f.1)

pub loop-i-preserved : goal.loop-i-preserved
loop-i-preserved c =
    let a = c.args in
    let l = c.loop-i in
    let s = l.self in
    let f = c.find-j in
    let k = c.keep-self in
    let r = c.reply in
    let x : f.result < length a.chunk.now = omega (arith, c.if-j-chunk.false, f.ensures.1) in (
      omega (arith, r.ensures.n_value),
      omega (arith, x, f.ensures.0, r.ensures.upper_bound, l.invariant.1),
      omega (arith, x),
      l.invariant.3 ∙ line_turn a.chunk.now l.i f.result l.invariant.2 f.ensures.0 s.n s.o k.result s.cluster.held s.line k.new.held s.cluster.media s.cluster.tables s.out (search rules) (search rules) k.ensures.value k.ensures.held_after _ x r.ensures.value,
    )

pub returns : goal.returns
returns c =
    let l = c.loop-i in record {
      n_bound_after = l.invariant.0;
      o_bound_after = omega (arith, l.invariant.1);
      value = sym (l.invariant.3 ∙ fed_none (program_in l.self) _ l.i c.loop-i-test.false);
    }
