-- What a replica held at any earlier time may be restored, then and ever after: up to its low-water mark it is in the log of a session that was opened
-- by then, and neither that session's starting mark nor its log up to there ever changes.
-- Assumes nothing.
use mathlib.Core.Path.{◌∙◌, sym}
use Prim.Native.Nat.{ℕ, ◌<◌, ◌≤◌}
use native.Mathlib.Omega.{arith}
use Rattle.protocol.specs.State.{State, Content, content, fresh}
use Rattle.protocol.specs.Events.{Can-restore, Steps}
use Rattle.protocol.proofs.Invariant.{Inv}
use Rattle.protocol.proofs.Fresh.{fresh_inv}
use Rattle.protocol.proofs.Keeps.{steps_inv}
use Rattle.protocol.proofs.Persistence.{steps_grow}

-- what is held now
pub held : (σ : State) → Inv σ → (i : ℕ) → Can-restore σ (content σ i)
held σ I i = let w = I.lows i in record {
  session = w.session;
  below = omega (arith, w.below, I.numbers.promise≤ i);
  «open» = w.«open»;
  within = w.within;
  agrees = w.agrees;
}

-- what may be restored stays so
pub lasts : {σ τ : State} → Inv σ → Steps σ τ → (c : Content) → Can-restore σ c → Can-restore τ c
lasts {σ} {τ} I r c w =
    let g = steps_grow r I in
    let J = steps_inv r I in
    let o = g.stays w.session w.«open» in
    record {
      session = w.session;
      below = omega (arith, J.numbers.none_newer w.session o, J.numbers.newest≤);
      «open» = o;
      within = omega (arith, w.within, g.starts w.session w.«open»);
      agrees = λ n l h. w.agrees n l h ∙ sym (g.places w.session n w.«open» (omega (arith, w.within, I.chain.filled w.session w.«open»)));
    }

-- from any time ρ of a list to any later time σ: what replica i held at ρ may be restored at σ, on i or on another one
pub earlier : (R Q : ℕ) → 0 < Q → Q ≤ R → {ρ σ : State} → Steps (fresh R Q) ρ → Steps ρ σ → (i : ℕ) → Can-restore σ (content ρ i)
earlier R Q q h {ρ} r t i = let I = steps_inv r (fresh_inv R Q q h) in lasts I t (content ρ i) (held ρ I i)
