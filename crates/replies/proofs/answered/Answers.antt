-- `answered`, by the answer.
-- Assumes nothing.
use Rattle.replies.proofs.answered.Goals as goal

pub returns-in-Done : goal.returns-in-Done
returns-in-Done c = rw c.in-Done.is (record { value = c.put_whole.ensures.value; out_after = c.put_whole.ensures.out_after })

pub returns-in-Value : goal.returns-in-Value
returns-in-Value c = rw c.in-Value.is (record { value = c.put_tagged.ensures.value; out_after = c.put_tagged.ensures.out_after })

pub returns-in-Silent : goal.returns-in-Silent
returns-in-Silent c = rw c.in-Silent.is (record { value = c.put_whole-in-Silent.ensures.value; out_after = c.put_whole-in-Silent.ensures.out_after })

pub returns-in-Declined : goal.returns-in-Declined
returns-in-Declined c = rw (c.in-Declined.is, ← c.number_of.ensures) (record { value = c.put_tagged-in-Declined.ensures.value; out_after = c.put_tagged-in-Declined.ensures.out_after })
