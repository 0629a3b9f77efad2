-- What a replica says to a message: it declines, or it answers its mark; and its tests on what it has read. Document 01, refusals 18 to 20.
-- Assumes nothing.
use Rattle.std.specs.Prelude.{ℕ, Bool, false, cond, not, ◌||◌, ltb, eqb, ⊤, Result, Ok, Err}
use Rattle.storage.specs.declared.operation.Read.{Read}
use Rattle.cluster.specs.declared.Refusal.{Refusal}
use Rattle.cluster.specs.declared.Refusal.TheVariants.{NoSlot, OtherPromise, OtherMark}
use Rattle.cluster.specs.Refusals.{is_neither}
use Rattle.replica_checks.specs.declared.Heard.{Heard}
use Rattle.replica_checks.specs.declared.Heard.TheVariants.{Declined, Mark}

-- a replica without a slot (18), with another promise (19) or another mark (20), or with the mark n after the message
abbrev pub says : Bool → Bool → Bool → ℕ → Heard
says slot promise mark n = cond slot (Declined NoSlot) (cond promise (Declined OtherPromise) (cond mark (Declined OtherMark) (Mark n)))

-- the same of the code's judgement: why the replica declines, or the mark n
abbrev pub said : Result ⊤ Refusal → ℕ → Heard
said (Ok _) n = Mark n
said (Err why) n = Declined why

-- ---- the three tests, on what the replica has read

abbrev pub lacks_slot : Read → Bool
lacks_slot r = is_neither r.current

abbrev pub read_promise : Bool → Read → ℕ → Bool
read_promise prepares r session = cond prepares (ltb session r.slot.promise) (not (eqb r.slot.promise session))

abbrev pub read_mark : Bool → Read → ℕ → Bool
read_mark prepares r recorded = cond prepares false (not (eqb r.mark recorded))

abbrev pub read_declines : Bool → Read → ℕ → ℕ → Bool
read_declines prepares r session recorded = lacks_slot r || read_promise prepares r session || read_mark prepares r recorded
