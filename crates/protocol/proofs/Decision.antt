-- The decision lemma: where an opening session is newer than every opened one and D is decided, the newest opened one never acknowledges more.
-- So trimming to D loses nothing that is acknowledged or will be, and D reaches all that an earlier session acknowledges.
-- Assumes nothing.
use mathlib.Core.Path.{◌≡◌, refl}
use mathlib.Core.Logic.{◌⊎◌, inl, inr, ⊎_elim}
use mathlib.Core.Bool.{Bool, true, false}
use Prim.Native.Nat.{ℕ, ◌≤◌, ◌<◌}
use native.Mathlib.Omega.{arith}
use native.Mathlib.Decide.{dec_lt}
use Rattle.protocol.specs.State.{Opening, State}
use Rattle.protocol.specs.Marks.{unflagged?, above?, voter, Decided}
use Rattle.protocol.proofs.Counting.{count_union}
use Rattle.protocol.proofs.Invariant.{Could, could?, Never, Inv}

pub decision : (σ : State) → Inv σ → (s D m : ℕ) → σ.phase s ≡ Opening → σ.newest < s → Decided σ s D → D < m → Never σ σ.newest m
decision σ I s D m p l d h = go (dec_lt _ σ.Q)
  where
    -- Suppose m still within reach. Then each member that may count for it is absent or restored, or known with more than D: these are fewer than Q.
    votes : ¬ Never σ σ.newest m → (j : ℕ) → Could (σ.member σ.newest) (σ.recorded σ.newest) σ.promise σ.newest m j
        → ((voter σ s j ≡ true) × (D < σ.recorded s j)) ⊎ (voter σ s j ≡ false)
    votes n j c = split (σ.known s j) (σ.handed_restored s j) refl refl
      where
        -- it promised s, so it counts only by what it recorded
        counts : σ.known s j ≡ true → m ≤ σ.recorded σ.newest j
        counts k = ⊎_elim (λ r. r) (λ e. absurd (omega (arith, I.known.promised s j p k))) c.1

        -- were it heard below m, m would be unackable
        more : σ.known s j ≡ true → σ.handed_restored s j ≡ false → Dec (σ.recorded s j < m) → D < σ.recorded s j
        more k v (yes r) = absurd (n (I.votes.missed s j m p l k v c.0 r (counts k)))
        more k v (no r) = omega arith

        split : (a b : Bool) → σ.known s j ≡ a → σ.handed_restored s j ≡ b → ((voter σ s j ≡ true) × (D < σ.recorded s j)) ⊎ (voter σ s j ≡ false)
        split false b k v = inr (rw k)
        split true true k v = inr (cc (k, v))
        split true false k v = inl (cc (k, v), more k v (dec_lt (σ.recorded s j) m))

    go : Dec (Never σ σ.newest m) → Never σ σ.newest m
    go (yes u) = u
    go (no n) = omega (
      arith,
      count_union (could? (σ.member σ.newest) (σ.recorded σ.newest) σ.promise σ.newest m) (above? (voter σ s) (σ.recorded s) D)
          (unflagged? (voter σ s)) (votes n) σ.R,
    )
