-- `Running::reply`: what `answer` leaves, and its text behind the replies not written yet.
-- Assumes nothing.
use mathlib.Core.Path.{refl}
use native.Mathlib.Omega.{arith}
use Rattle.interpreter.proofs.Fed.{answered_line}
use Rattle.interpreter.proofs.program.Running.reply.Goals as goal

pub returns : goal.returns
returns c =
    let s = c.args.self.now in
    let x = c.answer-printed in
    let k = x.new.self in
    let w = c.put-self in record {
      upper_bound = w.ensures.upper_bound;
      n_value = refl;
      value = answered_line s.n s.o w.result s.cluster.held s.line s.cluster.media s.cluster.tables s.out k.media k.tables w.new.out (record { printed = x.result; held = k.held }) (omega arith) x.ensures w.ensures.value w.ensures.out_after;
    }
