-- `print`, by whether the line is bad.
-- Assumes nothing.
use Rattle.replies.proofs.print.Goals as goal

pub returns-in-Bad : goal.returns-in-Bad
returns-in-Bad c = rw c.in-Bad.is (record { value = c.put_whole.ensures.value; out_after = c.put_whole.ensures.out_after })

pub returns-in-Reply : goal.returns-in-Reply
returns-in-Reply c = rw c.in-Reply.is (record { value = c.answered.ensures.value; out_after = c.answered.ensures.out_after })
