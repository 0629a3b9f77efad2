-- A list with three recoveries, in four parts: the second meets a cut and a loss and does not open, and the session that the third one opens finds what the
-- first one's acknowledged. Document 02, No. 9: "A cut or a loss during it must leave a cluster that later sessions can still trust: a list of demand 3 may
-- hold it, as the calls it makes."
-- proofs/Recovered.antt: the recoveries make the calls given here, with these replies, the guarantee speaks of this list, and by it the booking is in the
-- last session's log.
-- Assumes nothing.
use Rattle.std.specs.Prelude.{List, [], ◌∷◌, ◌++◌, map, ℕ, ◌*◌, length, replicate}
use Rattle.fate.specs.declared.Fate.{Fate}
use Rattle.fate.specs.declared.Fate.TheVariants.{Answered, Lost, Cut}
use Rattle.fate.specs.declared.Left.TheVariants.{New}
use Rattle.storage.specs.Sizes.{place_size}
use Rattle.cluster.specs.declared.Shape.{Shape}
use Rattle.cluster.specs.declared.Call.{Call}
use Rattle.cluster.specs.declared.Call.TheVariants as call
use Rattle.cluster.specs.Replies.{Reply, no, silent}
use Rattle.cluster.specs.Refusals.{Input}
use Rattle.cluster.specs.Effects.{no_bytes}
use Rattle.recovery.specs.Recovery.{Recovery, bare}
use Rattle.guarantee.specs.History.{Element, Logged}
use Rattle.guarantee.specs.Recoveries.{Item, one, recovery, reading}
use Rattle.guarantee_example.specs.Elements.{plain, issuing, value, logged}

-- three replicas with two places each, which one session may fill
abbrev pub shape : Shape
shape = record { replicas = 3; places = 2; interval = 2 }

-- ================ the list

-- a recovery with these fates; no write here is torn, so that the given bytes may be any
abbrev driven : ℕ → List ℕ → List Fate → Recovery
driven server listed fates =
    record { server = server; listed = listed; fates = fates; given = replicate {A = ℕ} (length fates * place_size) 0 }

-- server 0 opens session 1 with replicas 0 and 1: the prepare of replica 2 is lost
abbrev pub recovery_1 : Recovery
recovery_1 = driven 0 (0 ∷ 1 ∷ 2 ∷ []) (Answered ∷ Answered ∷ Answered ∷ Lost ∷ [])

-- and acknowledges a booking
abbrev pub calls_2 : List Element
calls_2 = issuing 0 [] (0xAB ∷ []) ∷ plain (call.Send 0 0 Answered) ∷ plain (call.Send 0 1 Answered) ∷ []

-- Server 1 takes session 2. The prepare of replica 0 is cut at its only write, which leaves the new slot; the copy of the booking to replica 2 is lost.
abbrev pub recovery_3 : Recovery
recovery_3 = driven 1 (2 ∷ 0 ∷ 1 ∷ []) (Answered ∷ Answered ∷ Cut 1 New ∷ Answered ∷ Lost ∷ [])

-- server 2 takes session 3, with replicas 2 and 1; no fates are given, so all its messages are answered
abbrev pub recovery_4 : Recovery
recovery_4 = driven 2 (2 ∷ 1 ∷ []) []

-- Session 1's starting log is read on replica 1, session 3's on replica 2, which gets the booking by a copy. The second recovery opens no session.
abbrev pub items : List Item
items = recovery recovery_1 1 ∷ (map one calls_2 ++ (recovery recovery_3 0 ∷ recovery recovery_4 2 ∷ []))

-- ================ the calls that it stands for

-- a recovery's calls to the register, and to a replica
abbrev register : Call → Input
register c = bare c []

abbrev message : Call → Input
message c = bare c no_bytes

abbrev pub calls_1 : List Input
calls_1 =
    register (call.Take 0 Answered)
    ∷ message (call.Prepare 0 0 Answered)
    ∷ message (call.Prepare 0 1 Answered)
    ∷ message (call.Prepare 0 2 Lost)
    ∷ register (call.Open 0 Answered)
    ∷ []

-- replica 0 is passed over and is not known; replicas 2 and 1 have marks 0 and 1, so the copy is from 1 to 2. Without its answer replica 1 alone is known.
abbrev pub calls_3 : List Input
calls_3 =
    register (call.Take 1 Answered)
    ∷ message (call.Prepare 1 2 Answered)
    ∷ message (call.Prepare 1 0 (Cut 1 New))
    ∷ message (call.Prepare 1 1 Answered)
    ∷ message (call.Copy 1 1 2 Lost)
    ∷ register (call.Open 1 Answered)
    ∷ []

abbrev pub calls_4 : List Input
calls_4 =
    register (call.Take 2 Answered)
    ∷ message (call.Prepare 2 2 Answered)
    ∷ message (call.Prepare 2 1 Answered)
    ∷ message (call.Copy 2 1 2 Answered)
    ∷ register (call.Open 2 Answered)
    ∷ []

abbrev pub calls : List Element
calls = map (reading 1) calls_1 ++ (calls_2 ++ (map (reading 0) calls_3 ++ map (reading 2) calls_4))

-- ================ what they come to

abbrev pub replies_1 : List Reply
replies_1 = value 1 ∷ value 0 ∷ value 0 ∷ silent ∷ value 0 ∷ []

abbrev pub replies_2 : List Reply
replies_2 = value 1 ∷ value 0 ∷ value 1 ∷ []

abbrev pub replies_3 : List Reply
replies_3 = value 2 ∷ value 0 ∷ silent ∷ value 1 ∷ silent ∷ no 8 [] ∷ []

abbrev pub replies_4 : List Reply
replies_4 = value 3 ∷ value 0 ∷ value 1 ∷ value 1 ∷ value 1 ∷ []

-- the booking: five calls came before its issue
abbrev pub first : Logged
first = logged 1 5 0 [] (0xAB ∷ [])
