-- A list of 17 calls with a checkpoint interval below N, in three parts: a server that may issue no more opens its next session, which finds what the
-- one before acknowledged. Document 02, No. 1: "Once issued exceeds the starting mark by K, the server must open a new session before issuing again.
-- Bookings made before the forced change must be found after it like any others".
-- proofs/Checkpoint.antt: the replies are those given here, the guarantee speaks of this list, and by it both bookings are in the next session's log.
-- Assumes nothing.
use Rattle.std.specs.Prelude.{List, [], ◌∷◌, ◌++◌}
use Rattle.fate.specs.declared.Fate.TheVariants.{Answered}
use Rattle.cluster.specs.declared.Shape.{Shape}
use Rattle.cluster.specs.declared.Call.TheVariants as call
use Rattle.cluster.specs.Replies.{Reply, ok, no}
use Rattle.guarantee.specs.History.{Element, Logged}
use Rattle.guarantee_example.specs.Elements.{plain, issuing, value, logged}

-- three replicas with four places each, of which a session may fill two
abbrev pub shape : Shape
shape = record { replicas = 3; places = 4; interval = 2 }

-- ================ the calls

-- server 0 opens session 1 with replicas 0 and 2
abbrev pub calls_1 : List Element
calls_1 =
    plain (call.Take 0 Answered)
    ∷ plain (call.Prepare 0 0 Answered)
    ∷ plain (call.Prepare 0 2 Answered)
    ∷ plain (call.Open 0 Answered)
    ∷ []

-- and acknowledges two bookings. A third is declined: places are free and all is acknowledged, but issued is the starting mark plus K.
abbrev pub calls_2 : List Element
calls_2 =
    issuing 0 [] (0xAB ∷ [])
    ∷ plain (call.Send 0 0 Answered)
    ∷ plain (call.Send 0 2 Answered)
    ∷ issuing 1 [] []
    ∷ plain (call.Send 0 0 Answered)
    ∷ plain (call.Send 0 2 Answered)
    ∷ issuing 2 [] []
    ∷ []

-- the forced change: server 0 opens session 2, which takes the booking that was declined
abbrev pub calls_3 : List Element
calls_3 =
    plain (call.Stop 0)
    ∷ plain (call.Take 0 Answered)
    ∷ plain (call.Prepare 0 0 Answered)
    ∷ plain (call.Prepare 0 2 Answered)
    ∷ plain (call.Open 0 Answered)
    ∷ issuing 2 [] []
    ∷ []

abbrev pub calls : List Element
calls = calls_1 ++ (calls_2 ++ calls_3)

-- ================ what they come to

abbrev pub replies_1 : List Reply
replies_1 = value 1 ∷ value 0 ∷ value 0 ∷ value 0 ∷ []

abbrev pub replies_2 : List Reply
replies_2 = value 1 ∷ value 0 ∷ value 1 ∷ value 2 ∷ value 1 ∷ value 2 ∷ no 23 [] ∷ []

abbrev pub replies_3 : List Reply
replies_3 = ok [] ∷ value 2 ∷ value 2 ∷ value 2 ∷ value 2 ∷ value 3 ∷ []

-- the bookings: two by session 1, and the one that session 2 took
abbrev pub first : Logged
first = logged 1 4 0 [] (0xAB ∷ [])

abbrev pub second : Logged
second = logged 2 7 1 [] []

abbrev pub third : Logged
third = logged 3 16 2 [] []
