-- A list of 17 calls with a restore, in four parts: a booking is acknowledged on two replicas, one of these gets its bytes of before the booking back, and
-- the next session finds the booking on the other one, copies it back and reads its log on the restored one. Document 02, No. 10: "Whoever booked before the
-- restore must still find the booking, for lists that include this call with such bytes".
-- proofs/Restored.antt: the replies are those given here, the guarantee speaks of this list, and by it the booking is in the next session's log.
-- Assumes nothing.
use Rattle.std.specs.Prelude.{List, [], ◌∷◌, ◌++◌, ℕ, ◌*◌, replicate}
use Rattle.fate.specs.declared.Fate.TheVariants.{Answered}
use Rattle.storage.specs.declared.slot.Slot.{Slot}
use Rattle.storage.specs.Sizes.{place_size}
use Rattle.storage.specs.Slots.{slot_bytes}
use Rattle.cluster.specs.declared.Shape.{Shape}
use Rattle.cluster.specs.declared.Call.TheVariants as call
use Rattle.cluster.specs.Replies.{Reply, no}
use Rattle.guarantee.specs.History.{Element, Logged}
use Rattle.guarantee_example.specs.Elements.{plain, restoring, issuing, value, logged}

-- three replicas with two places each, which one session may fill
abbrev pub shape : Shape
shape = record { replicas = 3; places = 2; interval = 2 }

-- ================ the calls

-- server 0 opens session 1 with replicas 0 and 2
abbrev pub calls_1 : List Element
calls_1 =
    plain (call.Take 0 Answered)
    ∷ plain (call.Prepare 0 0 Answered)
    ∷ plain (call.Prepare 0 2 Answered)
    ∷ plain (call.Open 0 Answered)
    ∷ []

-- and acknowledges a booking
abbrev pub calls_2 : List Element
calls_2 =
    issuing 0 [] (0xAB ∷ [])
    ∷ plain (call.Send 0 0 Answered)
    ∷ plain (call.Send 0 2 Answered)
    ∷ []

-- what replica 2 held after part 1: its promise of session 1 in the second slot, and nothing stored
abbrev slot : ℕ → Slot
slot promise = record { promise = promise; low = 0; local = 0 }

abbrev pub backup : List ℕ
backup = slot_bytes (slot 0) ++ (slot_bytes (slot 1) ++ replicate {A = ℕ} (2 * place_size) 0)

-- it gets that back, and the booking is on replica 0 alone
abbrev pub calls_3 : List Element
calls_3 = restoring 2 backup 4 ∷ []

-- Server 1 opens session 3. Replica 2 is known and does not vote, so that its first open meets 8: with replica 2 among them, three would be known and two
-- of them empty. Replica 2 may receive a copy, but is no source of one before the session is open.
abbrev pub calls_4 : List Element
calls_4 =
    plain (call.Take 1 Answered)
    ∷ plain (call.Prepare 1 2 Answered)
    ∷ plain (call.Prepare 1 1 Answered)
    ∷ plain (call.Prepare 1 0 Answered)
    ∷ plain (call.Open 1 Answered)
    ∷ plain (call.Copy 1 0 2 Answered)
    ∷ plain (call.Copy 1 2 1 Answered)
    ∷ plain (call.Copy 1 0 1 Answered)
    ∷ plain (call.Open 1 Answered)
    ∷ []

abbrev pub calls : List Element
calls = calls_1 ++ (calls_2 ++ (calls_3 ++ calls_4))

-- ================ what they come to

abbrev pub replies_1 : List Reply
replies_1 = value 1 ∷ value 0 ∷ value 0 ∷ value 0 ∷ []

abbrev pub replies_2 : List Reply
replies_2 = value 1 ∷ value 0 ∷ value 1 ∷ []

-- the raised session, which is no server's
abbrev pub replies_3 : List Reply
replies_3 = value 2 ∷ []

abbrev pub replies_4 : List Reply
replies_4 = value 3 ∷ value 0 ∷ value 0 ∷ value 1 ∷ no 8 [] ∷ value 1 ∷ no 17 [] ∷ value 1 ∷ value 1 ∷ []

-- the booking
abbrev pub first : Logged
first = logged 1 4 0 [] (0xAB ∷ [])
