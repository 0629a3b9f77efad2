-- Locks (document 01, "issue" and refusal 15; document 02, No. 2): a lock's places in a server's table of marks, its estimate, which locks refuse a request,
-- and what a granted request writes.
-- Assumes nothing.
use Rattle.std.specs.Prelude.{ℕ, ◌*◌, ◌%◌, ◌/◌, ◌^◌, min, Bool, cond, List, [], ◌∷◌, get_or, set, ltb, Option, Some, None}
use Rattle.locks.specs.declared.HeldLock.{HeldLock}

-- "c = hex 9E3779B97F4A7C15, BF58476D1CE4E5B9, 94D049BB133111EB"
abbrev pub factors : List ℕ
factors = 0x9E3779B97F4A7C15 ∷ 0xBF58476D1CE4E5B9 ∷ 0x94D049BB133111EB ∷ []

-- place j, from 0 to 2, of lock k: "(k × c mod 2^64) divided by 2^54, rounded down"
unfoldable pub place_of : ℕ → ℕ → ℕ
place_of k j = (k * get_or factors j 0) % 2 ^ 64 / 2 ^ 54

-- "A lock's estimate is the least of its three entries."
unfoldable pub estimate_of : List ℕ → ℕ → ℕ
estimate_of table k = min (min (get_or table (place_of k 0) 0) (get_or table (place_of k 1) 0)) (get_or table (place_of k 2) 0)

-- "writes that ID in the three table places of each of its 0 to 4 locks": of one lock
unfoldable pub marked_at : List ℕ → ℕ → ℕ → List ℕ
marked_at table k id = set (set (set table (place_of k 0) id) (place_of k 1) id) (place_of k 2) id

-- and of a request's locks, one after another
unfoldable pub marked_all : List ℕ → List ℕ → ℕ → List ℕ
marked_all table [] id = table
marked_all table (k ∷ ks) id = marked_all (marked_at table k id) ks id

-- Refusal 15, document 02, No. 2: "The trade's rule, followed in place of 004's, is now that a client's mark equal to the estimate suffices. Refusal
-- 15 is given only if an estimate is above the client's mark". It replaces document 01's "A lock's estimate is not below the client's mark (004: the
-- client's mark must be higher)".
abbrev pub conflict : ℕ → ℕ → Bool
conflict estimate client = ltb client estimate

-- a lock with an estimate
abbrev pub held_lock : ℕ → ℕ → HeldLock
held_lock k e = record { lock = k; estimate = e }

-- "the first such lock and its estimate are given"
unfoldable pub first_held : List ℕ → List ℕ → ℕ → Option HeldLock
first_held table [] client = None
first_held table (k ∷ ks) client =
    cond (conflict (estimate_of table k) client) (Some (held_lock k (estimate_of table k))) (first_held table ks client)
