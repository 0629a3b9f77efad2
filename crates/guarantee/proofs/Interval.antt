-- A SESSION ISSUES K IDS AT MOST: `interval`. The statement is specs/Interval.antt.
-- Assumes nothing.
use mathlib.Core.Path.{◌≡◌, ap, ◌∙◌}
use mathlib.Core.List.{◌∷◌}
use Prim.Native.Nat.{ℕ, ◌+◌}
use native.Mathlib.Omega.{arith}
use Rattle.protocol.specs.State as protocol
use Rattle.protocol.proofs.Invariant.{Inv}
use Rattle.cluster.specs.declared.Shape.{Shape}
use Rattle.cluster.specs.declared.Call.TheVariants as call
use Rattle.cluster.specs.State.{State, server_at}
use Rattle.cluster.specs.Refusals.{Input, rows_of}
use Rattle.cluster.specs.Effects.{issue_effect}
use Rattle.cluster.specs.Step.{effect, unless, step}
use Rattle.cluster.proofs.Numbers.{ok_passes}
use Rattle.cluster.proofs.Checkpoint.{within_interval}
use Rattle.guarantee.specs.History.{History, with_call}
use Rattle.guarantee.specs.Interval.{Within, Interval}
use Rattle.guarantee.proofs.Ties.{Sim}
use Rattle.guarantee.proofs.Facts.{open_lives}
use Rattle.guarantee.proofs.Passing.{below_four, passed, is_open_lem}
use Rattle.guarantee.proofs.Along.{from_fresh}

module _ (h : Shape) (x : State) (H : History) (σ : protocol.State) (S : Sim h x H σ) (I : Inv σ) where
  within : Within h x H
  unfolding step unless issue_effect
  within s n q a vs r =
      let p : Input = with_call (call.Issue s q) a in
      let all = ok_passes (rows_of h x p) x (effect h x p p.call) (n ∷ vs) r in
      let P = passed h x p all in
      let v = server_at x.records s in
      let o = is_open_lem v.phase (P 5) in
      let T = S.servers.each s (below_four s (P 3)) in
      let live = I.numbers.live v.session (T.serving o).phase in
      let told = (S.sessions v.session).opened live in
      let start : (H.sessions (H.current s)).start ≡ σ.start v.session =
      ap (λ (t : ℕ). (H.sessions t).start) (T.current (open_lives v o)) ∙ told.start in
      let next : v.issued + 1 ≡ n = cc (rw all at r) in (
        omega (arith, start, next, (T.serving o).issued, I.chain.filled v.session live),
        omega (arith, start, (T.serving o).start, within_interval h x s q a.content a.locks a.given a.stamp a.files a.backup n vs r),
      )

pub interval : Interval
interval h range es a = let w = from_fresh h range es a in within h _ _ w.state w.tied.sim w.inv
