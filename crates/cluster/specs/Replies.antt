-- Replies in the papers' numbers and values, and what each case of the answer enums is in them.
-- Assumes nothing.
use Rattle.std.specs.Prelude.{ℕ, List, [], ◌∷◌}
use Rattle.cluster.specs.declared.Refusal.{Refusal}
use Rattle.cluster.specs.declared.Refusal.TheVariants as why
use Rattle.cluster.specs.declared.Answer.{Answer}
use Rattle.cluster.specs.declared.Answer.TheVariants as answer

-- "Reply: ok and the value, no and the number, or silent"
pub data Reply : Type 0 where
  ok : List ℕ → Reply
  no : ℕ → List ℕ → Reply
  silent : Reply

-- the number of each refusal in the list of document 01, "Why a call is declined"; document 02: "Number 23, which like each below joins
-- document 01's list"
abbrev pub number_of : Refusal → ℕ
number_of why.OutsideShape = 1
number_of why.MarkAbovePlaces = 2
number_of why.NoSuchServer = 3
number_of why.NoSuchReplica = 4
number_of why.OtherPhase = 5
number_of why.UnfitList = 29
number_of why.UnfitFate = 6
number_of why.ReplicaOut = 7
number_of why.Undecided = 8
number_of why.TooFewClean = 9
number_of why.OtherGeneration = 10
number_of why.ClientAhead = 11
number_of why.TooMuch = 12
number_of why.HeaderZero = 28
number_of why.Unacknowledged = 13
number_of why.Full = 14
number_of why.CheckpointDue = 23
number_of (why.Locked k e) = 15
number_of why.NothingToDo = 16
number_of why.UnfitSource = 17
number_of why.NoSlot = 18
number_of why.OtherPromise = 19
number_of why.OtherMark = 20
number_of why.AtTop = 21
number_of why.OtherSession = 22
number_of why.NoBackupSlot = 30

-- "the first such lock and its estimate are given"
abbrev pub values_of : Refusal → List ℕ
values_of why.OutsideShape = []
values_of why.MarkAbovePlaces = []
values_of why.NoSuchServer = []
values_of why.NoSuchReplica = []
values_of why.OtherPhase = []
values_of why.UnfitList = []
values_of why.UnfitFate = []
values_of why.ReplicaOut = []
values_of why.Undecided = []
values_of why.TooFewClean = []
values_of why.OtherGeneration = []
values_of why.ClientAhead = []
values_of why.TooMuch = []
values_of why.HeaderZero = []
values_of why.Unacknowledged = []
values_of why.Full = []
values_of why.CheckpointDue = []
values_of (why.Locked k e) = k ∷ e ∷ []
values_of why.NothingToDo = []
values_of why.UnfitSource = []
values_of why.NoSlot = []
values_of why.OtherPromise = []
values_of why.OtherMark = []
values_of why.AtTop = []
values_of why.OtherSession = []
values_of why.NoBackupSlot = []

abbrev pub reply_of : Answer → Reply
reply_of answer.Done = ok []
reply_of (answer.Value v) = ok (v ∷ [])
reply_of answer.Silent = silent
reply_of (answer.Declined w) = no (number_of w) (values_of w)
