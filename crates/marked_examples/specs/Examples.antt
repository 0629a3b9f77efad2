-- Document 01, "Marked examples of the definitions": a to j, as one table, with i as document 02 has it. `Says` is what a row of it says of the
-- definitions.
-- Assumes nothing.
use Rattle.std.specs.Prelude.{◌≡◌, Bool, true, false, List, [], ◌∷◌, map, ℕ, length, get_or, replicate, Option, Some, None}
use Rattle.quorum.specs.Vote.{vote_of}
use Rattle.locks.specs.Locks.{place_of}
use Rattle.cluster.specs.declared.Phase.TheVariants.{Open}
use Rattle.cluster.specs.declared.Server.{Server}
use Rattle.cluster.specs.declared.Request.{Request}
use Rattle.cluster.specs.State.{idle_server}
use Rattle.limits.specs.Limits.{limits_of}
use Rattle.cluster.specs.Refusals.{request_rows, Verdict, pass, first_of}

pub data Example : Type 0 where
  -- the replicas' marks, `None` for an absent one, and the vote: the mark, `None` where it is undecided
  vote : List (Option ℕ) → Option ℕ → Example
  -- a lock, and its three places
  places : ℕ → List ℕ → Example
  -- a request's one lock, the table's entries, all alike, the client's mark, and what issue's own list makes of it
  request : ℕ → ℕ → ℕ → Verdict → Example

abbrev pub table : List Example
table =
    -- a "Marks 7, 9, 5: mark 7."
    vote (Some 7 ∷ Some 9 ∷ Some 5 ∷ []) (Some 7)
    -- b "7, absent, 5: undecided."
    ∷ vote (Some 7 ∷ None ∷ Some 5 ∷ []) None
    -- c "7, absent, 7: mark 7."
    ∷ vote (Some 7 ∷ None ∷ Some 7 ∷ []) (Some 7)
    -- d "R = 1, mark 0: mark 0."
    ∷ vote (Some 0 ∷ []) (Some 0)
    -- e "4, 4, absent, absent, absent: undecided."
    ∷ vote (Some 4 ∷ Some 4 ∷ None ∷ None ∷ None ∷ []) None
    -- f "4, 4, 4, absent, absent: mark 4."
    ∷ vote (Some 4 ∷ Some 4 ∷ Some 4 ∷ None ∷ None ∷ []) (Some 4)
    -- g "Lock 1: places 632, 765, 595."
    ∷ places 1 (632 ∷ 765 ∷ 595 ∷ [])
    -- h "Lock 0: 0, 0, 0."
    ∷ places 0 (0 ∷ 0 ∷ 0 ∷ [])
    -- i "One lock, client mark 0, entries 0: refusal 15."; document 02, No. 2: "example i becomes granted"
    ∷ request 1 0 0 pass
    -- j "Client 6, estimate 5: granted."
    ∷ request 1 5 6 pass
    ∷ []

-- what an example says of the definitions

abbrev pub known : Option ℕ → Bool
known None = false
known (Some m) = true

abbrev pub mark_of : Option ℕ → ℕ
mark_of None = 0
mark_of (Some m) = m

abbrev pub vote_in : List (Option ℕ) → Option ℕ
vote_in marks = vote_of (λ i. known (get_or marks i None)) (λ i. mark_of (get_or marks i None)) (length marks)

abbrev pub places_of : ℕ → List ℕ
places_of k = map (place_of k) (0 ∷ 1 ∷ 2 ∷ [])

-- an open server that has acknowledged all that it issued, up to the client's mark
abbrev pub server_at_mark : ℕ → Server
server_at_mark n =
    record {
      phase = Open;
      session = 1;
      generation = 0;
      entries = idle_server.entries;
      known = idle_server.known;
      dropped = idle_server.dropped;
      marks = idle_server.marks;
      start = 0;
      issued = n;
      acked = n;
      held = idle_server.held;
    }

abbrev pub request_at_mark : ℕ → Request
request_at_mark n = record { mark = n; client = 0; generation = 0; partition = 0; sequence = 0; header = 1 }

-- issue's own refusals, of a cluster of 1,000 places, in which a session may issue as many IDs, and a request without data, under its client's limits
abbrev pub request_on : ℕ → ℕ → ℕ → Verdict
request_on k entry mark =
    let q = request_at_mark mark in
    first_of (request_rows (record { replicas = 1; places = 1000; interval = 1000 }) (limits_of q.client) (server_at_mark mark) q 0 (replicate 1024 entry) (k ∷ []))

abbrev pub Says : Example → Type 0
Says (vote marks v) = vote_in marks ≡ v
Says (places k ps) = places_of k ≡ ps
Says (request k entry client t) = request_on k entry client ≡ t
