-- A list of 24 calls on three replicas with three places each, which one session may fill, in five parts, and what it comes to.
-- proofs/Example.antt: the replies and logs are those given here, the guarantee speaks of this list, and each of its conclusions says something.
-- Assumes nothing.
use Rattle.std.specs.Prelude.{List, [], ◌∷◌, ◌++◌}
use Rattle.fate.specs.declared.Fate.TheVariants.{Answered, Cut}
use Rattle.fate.specs.declared.Left.TheVariants.{New}
use Rattle.cluster.specs.declared.Shape.{Shape}
use Rattle.cluster.specs.declared.Call.TheVariants as call
use Rattle.cluster.specs.Replies.{Reply, no, silent}
use Rattle.guarantee.specs.History.{Element, Logged}
use Rattle.guarantee_example.specs.Elements.{plain, asking, bookings, issuing, value, logged_for, logged}

abbrev pub shape : Shape
shape = record { replicas = 3; places = 3; interval = 3 }

-- ================ the calls

-- server 0 opens session 1 with all three replicas
abbrev pub calls_1 : List Element
calls_1 =
    plain (call.Take 0 Answered)
    ∷ plain (call.Prepare 0 0 Answered)
    ∷ plain (call.Prepare 0 1 Answered)
    ∷ plain (call.Prepare 0 2 Answered)
    ∷ plain (call.Open 0 Answered)
    ∷ []

-- and acknowledges ID 1, which has lock 7: on an empty log a client that has read nothing may have any lock
abbrev pub calls_2 : List Element
calls_2 =
    issuing 0 (7 ∷ []) (0xAB ∷ [])
    ∷ plain (call.Send 0 0 Answered)
    ∷ plain (call.Send 0 1 Answered)
    ∷ plain (call.Send 0 2 Answered)
    ∷ []

-- ID 2 has lock 7 too: its client has read ID 1, the lock's last writer. Its write on replica 2 is cut, with the new bytes left. A client that has read
-- no more asks for the same lock and is declined, since it does not know ID 2. So is one that asks for three locks: it is a gate. The booking system, which
-- shares the partition, gets ID 3 with them (9 shares a place of the table with 7). ID 3 reaches replica 0 only.
abbrev pub calls_3 : List Element
calls_3 =
    issuing 1 (7 ∷ []) []
    ∷ plain (call.Send 0 0 Answered)
    ∷ plain (call.Send 0 1 Answered)
    ∷ plain (call.Send 0 2 (Cut 1 New))
    ∷ issuing 1 (7 ∷ []) []
    ∷ issuing 1 (5 ∷ 9 ∷ 9 ∷ []) []
    ∷ asking bookings 1 (5 ∷ 9 ∷ 9 ∷ []) []
    ∷ plain (call.Send 0 0 Answered)
    ∷ []

-- server 1 takes session 2 and finds marks 3 and 2: that is not decided
abbrev pub calls_4 : List Element
calls_4 =
    plain (call.Take 1 Answered)
    ∷ plain (call.Prepare 1 0 Answered)
    ∷ plain (call.Prepare 1 2 Answered)
    ∷ plain (call.Open 1 Answered)
    ∷ []

-- It copies ID 3 to replica 2 and opens; replica 2 is read, where a sent record stands, then the one whose write was cut, then the copied one.
-- Server 0, still in session 1, sends ID 3 to replica 1 and acknowledges it.
abbrev pub calls_5 : List Element
calls_5 =
    plain (call.Copy 1 0 2 Answered)
    ∷ plain (call.Open 1 Answered)
    ∷ plain (call.Send 0 1 Answered)
    ∷ []

abbrev pub calls : List Element
calls = calls_1 ++ (calls_2 ++ (calls_3 ++ (calls_4 ++ calls_5)))

-- ================ what they come to

abbrev pub replies_1 : List Reply
replies_1 = value 1 ∷ value 0 ∷ value 0 ∷ value 0 ∷ value 0 ∷ []

abbrev pub replies_2 : List Reply
replies_2 = value 1 ∷ value 0 ∷ value 1 ∷ value 1 ∷ []

abbrev pub replies_3 : List Reply
replies_3 = value 2 ∷ value 1 ∷ value 2 ∷ silent ∷ no 15 (7 ∷ 2 ∷ []) ∷ no 12 [] ∷ value 3 ∷ value 2 ∷ []

abbrev pub replies_4 : List Reply
replies_4 = value 2 ∷ value 3 ∷ value 2 ∷ no 8 [] ∷ []

abbrev pub replies_5 : List Reply
replies_5 = value 3 ∷ value 3 ∷ value 3 ∷ []

-- what both logs have under IDs 1 to 3
abbrev pub first : Logged
first = logged 1 5 0 (7 ∷ []) (0xAB ∷ [])

abbrev pub second : Logged
second = logged 2 9 1 (7 ∷ []) []

abbrev pub third : Logged
third = logged_for bookings 3 15 1 (5 ∷ 9 ∷ 9 ∷ []) []
