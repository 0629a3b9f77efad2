-- `number_of`, refusal by refusal.
-- Assumes nothing.
use Rattle.replies.proofs.number_of.Goals as goal

pub returns-in-OutsideShape : goal.returns-in-OutsideShape
returns-in-OutsideShape c = rw c.in-OutsideShape.is

pub returns-in-MarkAbovePlaces : goal.returns-in-MarkAbovePlaces
returns-in-MarkAbovePlaces c = rw c.in-MarkAbovePlaces.is

pub returns-in-NoSuchServer : goal.returns-in-NoSuchServer
returns-in-NoSuchServer c = rw c.in-NoSuchServer.is

pub returns-in-NoSuchReplica : goal.returns-in-NoSuchReplica
returns-in-NoSuchReplica c = rw c.in-NoSuchReplica.is

pub returns-in-OtherPhase : goal.returns-in-OtherPhase
returns-in-OtherPhase c = rw c.in-OtherPhase.is

pub returns-in-UnfitList : goal.returns-in-UnfitList
returns-in-UnfitList c = rw c.in-UnfitList.is

pub returns-in-UnfitFate : goal.returns-in-UnfitFate
returns-in-UnfitFate c = rw c.in-UnfitFate.is

pub returns-in-ReplicaOut : goal.returns-in-ReplicaOut
returns-in-ReplicaOut c = rw c.in-ReplicaOut.is

pub returns-in-Undecided : goal.returns-in-Undecided
returns-in-Undecided c = rw c.in-Undecided.is

pub returns-in-TooFewClean : goal.returns-in-TooFewClean
returns-in-TooFewClean c = rw c.in-TooFewClean.is

pub returns-in-OtherGeneration : goal.returns-in-OtherGeneration
returns-in-OtherGeneration c = rw c.in-OtherGeneration.is

pub returns-in-ClientAhead : goal.returns-in-ClientAhead
returns-in-ClientAhead c = rw c.in-ClientAhead.is

pub returns-in-TooMuch : goal.returns-in-TooMuch
returns-in-TooMuch c = rw c.in-TooMuch.is

pub returns-in-HeaderZero : goal.returns-in-HeaderZero
returns-in-HeaderZero c = rw c.in-HeaderZero.is

pub returns-in-Unacknowledged : goal.returns-in-Unacknowledged
returns-in-Unacknowledged c = rw c.in-Unacknowledged.is

pub returns-in-Full : goal.returns-in-Full
returns-in-Full c = rw c.in-Full.is

pub returns-in-CheckpointDue : goal.returns-in-CheckpointDue
returns-in-CheckpointDue c = rw c.in-CheckpointDue.is

pub returns-in-Locked : goal.returns-in-Locked
returns-in-Locked c = rw c.in-Locked.is

pub returns-in-NothingToDo : goal.returns-in-NothingToDo
returns-in-NothingToDo c = rw c.in-NothingToDo.is

pub returns-in-UnfitSource : goal.returns-in-UnfitSource
returns-in-UnfitSource c = rw c.in-UnfitSource.is

pub returns-in-NoSlot : goal.returns-in-NoSlot
returns-in-NoSlot c = rw c.in-NoSlot.is

pub returns-in-OtherPromise : goal.returns-in-OtherPromise
returns-in-OtherPromise c = rw c.in-OtherPromise.is

pub returns-in-OtherMark : goal.returns-in-OtherMark
returns-in-OtherMark c = rw c.in-OtherMark.is

pub returns-in-AtTop : goal.returns-in-AtTop
returns-in-AtTop c = rw c.in-AtTop.is

pub returns-in-OtherSession : goal.returns-in-OtherSession
returns-in-OtherSession c = rw c.in-OtherSession.is

pub returns-in-NoBackupSlot : goal.returns-in-NoBackupSlot
returns-in-NoBackupSlot c = rw c.in-NoBackupSlot.is
