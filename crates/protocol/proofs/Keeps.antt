-- Every event keeps the invariant, and so does every list of events. One file for each event stands in Keeps/.
-- Assumes nothing.
use Rattle.protocol.specs.State.{State}
use Rattle.protocol.specs.Events.{Step, Steps, ◌▸◌}
use Rattle.protocol.proofs.Invariant.{Inv}
use Rattle.protocol.proofs.Keeps.Take.{take_inv}
use Rattle.protocol.proofs.Keeps.Promise.{promise_inv}
use Rattle.protocol.proofs.Keeps.Cut.{cut_inv}
use Rattle.protocol.proofs.Keeps.Learn.{learn_inv}
use Rattle.protocol.proofs.Keeps.Forget.{forget_inv}
use Rattle.protocol.proofs.Keeps.Copy.{copy_inv}
use Rattle.protocol.proofs.Keeps.Trim.{trim_inv}
use Rattle.protocol.proofs.Keeps.Opens.{open_inv}
use Rattle.protocol.proofs.Keeps.Issue.{issue_inv}
use Rattle.protocol.proofs.Keeps.Append.{append_inv}
use Rattle.protocol.proofs.Keeps.Hear.{hear_inv}
use Rattle.protocol.proofs.Keeps.Acknowledge.{acknowledge_inv}
use Rattle.protocol.proofs.Keeps.Stop.{stop_inv}
use Rattle.protocol.proofs.Keeps.Note.{note_inv}
use Rattle.protocol.proofs.Keeps.Restore.{restore_inv}
pub mod Take
pub mod Promise
pub mod Cut
pub mod Learn
pub mod Forget
pub mod Copy
pub mod Trim
pub mod Opens
pub mod Issue
pub mod Append
pub mod Hear
pub mod Acknowledge
pub mod Stop
pub mod Note
pub mod Restore

step_inv : {σ τ : State} → Step σ τ → Inv σ → Inv τ
step_inv (Step.take σ) I = take_inv σ I
step_inv (Step.promise σ s i g) I = promise_inv σ I s i g
step_inv (Step.cut σ s i k g) I = cut_inv σ I s i k g
step_inv (Step.learn σ s i g) I = learn_inv σ I s i g
step_inv (Step.forget σ s i) I = forget_inv σ I s i
step_inv (Step.copy σ s a b g) I = copy_inv σ I s a b g
step_inv (Step.trim σ s i D k g) I = trim_inv σ I s i D k g
step_inv (Step.opens σ s D a g) I = open_inv σ I s D a g
step_inv (Step.issue σ s x e g) I = issue_inv σ I s x e g
step_inv (Step.append σ s i x g) I = append_inv σ I s i x g
step_inv (Step.hear σ s i g) I = hear_inv σ I s i g
step_inv (Step.acknowledge σ s m g) I = acknowledge_inv σ I s m g
step_inv (Step.stop σ s) I = stop_inv σ I s
step_inv (Step.note σ s i g) I = note_inv σ I s i g
step_inv (Step.restore σ i c g) I = restore_inv σ I i c g

pub steps_inv : {σ τ : State} → Steps σ τ → Inv σ → Inv τ
steps_inv Steps.none I = I
steps_inv (r ▸ e) I = step_inv e (steps_inv r I)
