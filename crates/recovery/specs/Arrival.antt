-- THAT A RECOVERY ARRIVES, the statement; proofs/Arrives.antt has the theorem. Document 02, No. 9: "If it isn't declined, all messages are answered, no number is
-- at its top, no valid place lies above a listed mark and at least Q of the replicas listed have valid slots and promises not above the new session, it opens.
-- Its count then is 2 + listed replicas + the sum over known ones of what each lacked of the highest mark after prepare." Document 02, No. 10, beside restored
-- replicas: it "is sure to open only with Q others", so that the Q are of those listed that are not restored.
-- It is about every state that the running calls can be handed, not only those that a list of calls from a fresh cluster leaves.
-- Assumes nothing.
use Rattle.std.specs.Prelude.{ℕ, ◌+◌, ◌^◌, ◌≤◌, ◌<◌, ◌≡◌, List, [], ◌∷◌, Bool, true, false, not, cond, ◌&&◌, length, get_or}
use Rattle.octets.specs.Octets.{Bytes}
use Rattle.base.specs.Below.{bit}
use Rattle.fate.specs.declared.Fate.TheVariants.{Answered}
use Rattle.storage.specs.Places.{valid_place}
use Rattle.storage.specs.Log.{place_at, mark_of}
use Rattle.storage.specs.Operations.{medium_at}
use Rattle.quorum.specs.Vote.{quorum}
use Rattle.cluster.specs.declared.Shape.{Shape}
use Rattle.cluster.specs.declared.Server.{Server}
use Rattle.cluster.specs.declared.Phase.TheVariants.{Open}
use Rattle.cluster.specs.State.{State, server_at, entry_at, active_at, is_restored}
use Rattle.cluster.specs.Replies.{ok}
use Rattle.cluster.specs.Refusals.{no_slot, promise_above, session_at_top, pass, first_of}
use Rattle.recovery.specs.Recovery.{Recovery, Trail, played, one, taking, prepares, server_of, highest_known, lacks, contains, recovery_rows, begun, recovered}

-- what the types of the running calls say of a state: four servers, a session of 64 bits, media of bytes
pub record Typed (x : State) : Type 0 where
  pub servers : length x.records.servers ≡ 4
  pub session : x.records.register.session < 2 ^ 64
  pub bytes : Bytes x.media

-- "valid slots and promises not above the new session"
abbrev pub ready : Shape → State → ℕ → Bool
ready h x i =
    let m = medium_at h.places i x.media in
    not (no_slot m) && not (promise_above (x.records.register.session + 1) m)

-- the same, and "others" than restored ones: by the register's entry, which its take hands over
abbrev pub counts : Shape → State → ℕ → Bool
counts h x i = ready h x i && not (is_restored (entry_at x.records.register.entries i).closing)

-- how many of a list
unfoldable pub how_many : (ℕ → Bool) → List ℕ → ℕ
how_many p [] = 0
how_many p (i ∷ is) = bit (p i) + how_many p is

-- "after prepare": take and all prepares are made; and "the highest mark" then
abbrev pub taken : Shape → State → Recovery → Trail
taken h x d = one h (begun h x d) (taking d (begun h x d))

abbrev pub prepared : Shape → State → Recovery → Trail
prepared h x d = played h (taken h x d) (prepares h d (taken h x d) d.listed)

abbrev pub highest_mark : Shape → State → Recovery → ℕ
highest_mark h x d = highest_known (server_of d (prepared h x d)) d.listed

-- "the sum over known ones of what each lacked of the highest mark": v is the server's record after the prepares
unfoldable pub lacking : Server → ℕ → List ℕ → ℕ
lacking v m [] = 0
lacking v m (i ∷ is) = cond (active_at v i) (lacks v m i) 0 + lacking v m is

pub record Met (h : Shape) (x : State) (d : Recovery) : Type 0 where
  pub admitted : first_of (recovery_rows h x d) ≡ pass  -- "If it isn't declined"
  pub answered : (k : ℕ) → k < (recovered h x d).count → get_or d.fates k Answered ≡ Answered  -- "all messages are answered": of the calls that it makes
  pub below_top : session_at_top x.records.register.session ≡ false  -- "no number is at its top": take raises the session alone
  pub clean : (i : ℕ) → contains d.listed i ≡ true  -- "no valid place lies above a listed mark"
      → let m = medium_at h.places i x.media in (n : ℕ) → mark_of h.places m < n → n ≤ h.places → valid_place n (place_at n m) ≡ false
  pub enough : quorum h.replicas ≤ how_many (counts h x) d.listed  -- "at least Q of the replicas listed have ..", "Q others"

pub record Arrived (h : Shape) (x : State) (d : Recovery) : Type 0 where
  pub opens : (server_at (recovered h x d).state.records d.server).phase ≡ Open  -- "it opens"
  pub reply : (recovered h x d).reply ≡ ok (highest_mark h x d ∷ [])
  pub count : (recovered h x d).count ≡ 2 + length d.listed + lacking (server_of d (prepared h x d)) (highest_mark h x d) d.listed

abbrev pub Arrives : Type 0
Arrives = (h : Shape) (x : State) (d : Recovery) → Typed x → Met h x d → Arrived h x d
