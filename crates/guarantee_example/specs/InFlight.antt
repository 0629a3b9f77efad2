-- A list of 25 calls with up to three records in flight, in six parts: a server is stopped while its records have reached different replicas, and the next
-- session opens at what a majority had. Document 02, No. 5: "A server stopped with records in flight is one more case that the recovery guarantee has to
-- cover, whichever of the eight reached whom."
-- proofs/InFlight.antt: the replies are those given here, the guarantee speaks of this list, and each of its conclusions says something. (Eight in flight,
-- and a member that is left behind, are in the stored runs; when exactly 13 and 16 are given is said in cluster proofs/InFlight.antt.)
-- Assumes nothing.
use Rattle.std.specs.Prelude.{List, [], ◌∷◌, ◌++◌}
use Rattle.fate.specs.declared.Fate.TheVariants.{Answered, AnswerLost}
use Rattle.cluster.specs.declared.Shape.{Shape}
use Rattle.cluster.specs.declared.Call.TheVariants as call
use Rattle.cluster.specs.Replies.{Reply, ok, no, silent}
use Rattle.guarantee.specs.History.{Element, Logged}
use Rattle.guarantee_example.specs.Elements.{plain, issuing, value, logged}

-- three replicas with four places each, which one session may fill
abbrev pub shape : Shape
shape = record { replicas = 3; places = 4; interval = 4 }

-- ================ the calls

-- server 0 opens session 1 with all three replicas
abbrev pub calls_1 : List Element
calls_1 =
    plain (call.Take 0 Answered)
    ∷ plain (call.Prepare 0 0 Answered)
    ∷ plain (call.Prepare 0 1 Answered)
    ∷ plain (call.Prepare 0 2 Answered)
    ∷ plain (call.Open 0 Answered)
    ∷ []

-- A lock while its writer is in flight: ID 1 has lock 7. The next writer of lock 7 is declined by 15; ID 2, with another lock, is issued all the same.
abbrev pub calls_2 : List Element
calls_2 = issuing 0 (7 ∷ []) (0xAB ∷ []) ∷ issuing 0 (7 ∷ []) [] ∷ issuing 0 (5 ∷ []) [] ∷ []

-- ID 1 is acknowledged. The next writer is declined again, since its client has not read ID 1, and gets ID 3 when its client has. With ID 4 three are in
-- flight.
abbrev pub calls_3 : List Element
calls_3 =
    plain (call.Send 0 0 Answered)
    ∷ plain (call.Send 0 1 Answered)
    ∷ issuing 0 (7 ∷ []) []
    ∷ issuing 1 (7 ∷ []) []
    ∷ issuing 1 [] []
    ∷ []

-- IDs 2 and 3 reach replica 0; ID 2 reaches replica 1, whose answer is lost; replica 2 gets ID 1, which follows its mark; ID 4 reaches none. Then the
-- server is stopped: it has acknowledged ID 1.
abbrev pub calls_4 : List Element
calls_4 =
    plain (call.Send 0 0 Answered)
    ∷ plain (call.Send 0 0 Answered)
    ∷ plain (call.Send 0 1 AnswerLost)
    ∷ plain (call.Send 0 2 Answered)
    ∷ plain (call.Stop 0)
    ∷ []

-- server 1 takes session 2 and finds marks 2 and 1: that is not decided
abbrev pub calls_5 : List Element
calls_5 =
    plain (call.Take 1 Answered)
    ∷ plain (call.Prepare 1 1 Answered)
    ∷ plain (call.Prepare 1 2 Answered)
    ∷ plain (call.Open 1 Answered)
    ∷ []

-- With mark 3 of replica 0 it is: a majority has ID 2, which was never acknowledged, and no majority has ID 3. ID 2 is copied to replica 2, and the session
-- opens at 2.
abbrev pub calls_6 : List Element
calls_6 =
    plain (call.Prepare 1 0 Answered)
    ∷ plain (call.Copy 1 0 2 Answered)
    ∷ plain (call.Open 1 Answered)
    ∷ []

abbrev pub calls : List Element
calls = calls_1 ++ (calls_2 ++ (calls_3 ++ (calls_4 ++ (calls_5 ++ calls_6))))

-- ================ what they come to

abbrev pub replies_1 : List Reply
replies_1 = value 1 ∷ value 0 ∷ value 0 ∷ value 0 ∷ value 0 ∷ []

abbrev pub replies_2 : List Reply
replies_2 = value 1 ∷ no 15 (7 ∷ 1 ∷ []) ∷ value 2 ∷ []

abbrev pub replies_3 : List Reply
replies_3 = value 0 ∷ value 1 ∷ no 15 (7 ∷ 1 ∷ []) ∷ value 3 ∷ value 4 ∷ []

abbrev pub replies_4 : List Reply
replies_4 = value 1 ∷ value 1 ∷ silent ∷ value 1 ∷ ok [] ∷ []

abbrev pub replies_5 : List Reply
replies_5 = value 2 ∷ value 2 ∷ value 1 ∷ no 8 [] ∷ []

abbrev pub replies_6 : List Reply
replies_6 = value 3 ∷ value 2 ∷ value 2 ∷ []

-- what session 1's log has under IDs 1 to 4
abbrev pub first : Logged
first = logged 1 5 0 (7 ∷ []) (0xAB ∷ [])

abbrev pub second : Logged
second = logged 2 7 0 (5 ∷ []) []

abbrev pub third : Logged
third = logged 3 11 1 (7 ∷ []) []

abbrev pub fourth : Logged
fourth = logged 4 12 1 [] []
