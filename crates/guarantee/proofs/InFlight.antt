-- WHAT A SERVER HOLDS IS WHAT ITS SESSION ISSUED: after every list of calls, the record that an open server holds of an ID is byte for byte the one that
-- its session issued under this ID: `in_flight`. Document 02, No. 5: "A server record holds the last eight records that its session issued, in order".
-- So no send delivers a record of another session or of another ID.
-- The statement comes first, then its proof.
-- Assumes nothing.
use mathlib.Core.Path.{◌≡◌, sym, ap, ◌∙◌}
use mathlib.Core.Bool.{true}
use mathlib.Core.List.{List}
use mathlib.Core.Option.{some}
use Prim.Native.Nat.{ℕ, ◌<◌}
use native.Mathlib.Omega.{arith}
use Rattle.protocol.specs.State as protocol
use Rattle.protocol.proofs.Invariant.{Inv}
use Rattle.cluster.specs.declared.Shape.{Shape}
use Rattle.cluster.specs.declared.Phase.TheVariants.{Open}
use Rattle.cluster.specs.State.{State, server_at, holds, record_of}
use Rattle.cluster.proofs.Window.{within}
use Rattle.guarantee.specs.History.{Element, Logged, History, beginning, along}
use Rattle.guarantee.specs.Guarantee.{InRange, CoveredAll}
use Rattle.guarantee.proofs.Ties.{Sim, logged_of}
use Rattle.guarantee.proofs.Sessions.{log_issued}
use Rattle.guarantee.proofs.Facts.{open_lives}
use Rattle.guarantee.proofs.Along.{from_fresh}

-- ================ the statement

-- of the session that the server's last take answered
abbrev pub Holding : State → History → Type 0
Holding x H =
    (s n : ℕ)
    → let v = server_at x.records s in
    s < 4 → v.phase ≡ Open → holds v n ≡ true
    → (l : Logged) × ((H.sessions (H.current s)).issues n ≡ some l) × (l.bytes ≡ record_of v n)

abbrev pub InFlight : Type 0
InFlight = (h : Shape) → InRange h → (es : List Element) → CoveredAll h (beginning h) es
    → Holding (along h (beginning h) es).state (along h (beginning h) es).history

-- ================ its proof

module _ (h : Shape) (x : State) (H : History) (σ : protocol.State) (S : Sim h x H σ) (I : Inv σ) where
  holding : Holding x H
  holding s n l o e =
      let v = server_at x.records s in
      let z = v.session in
      let T = S.servers.each s l in
      let row = T.serving o in
      let told = (S.sessions z).opened (I.numbers.live z row.phase) in
      let i = within v n e in
      let issued : (H.sessions z).issues n ≡ some (logged_of (σ.log z n)) =
      sym (log_issued (H.sessions z) n (omega (arith, told.start, row.start, i.above)))
      ∙ told.logged n (omega (arith, i.above)) (omega (arith, row.issued, i.reached)) in (
        logged_of (σ.log z n),
        ap (λ (t : ℕ). (H.sessions t).issues n) (T.current (open_lives v o)) ∙ issued,
        sym (row.held n e),
      )

pub in_flight : InFlight
in_flight h range es a = let w = from_fresh h range es a in holding h _ _ w.state w.tied.sim w.inv
