-- send: the record that follows the member's log comes behind it, or the log stays; then the acknowledged mark is computed anew.
-- Assumes nothing.
use mathlib.Core.Path.{◌≡◌, refl, sym, ap, ◌∙◌}
use mathlib.Core.Bool.{true, false}
use mathlib.Core.List.{List}
use mathlib.Core.Option.{Option, some}
use Prim.Native.Nat.{ℕ, suc, ◌+◌}
use native.Mathlib.Omega.{arith}
use borrow.Author.Tests.{not-false}
use Rattle.fate.specs.declared.Fate.{Fate}
use Rattle.storage.specs.Operations.{medium_at}
use Rattle.protocol.specs.State as protocol
use Rattle.cluster.specs.declared.Shape.{Shape}
use Rattle.cluster.specs.declared.Phase.TheVariants.{Open}
use Rattle.cluster.specs.declared.Server.{Server}
use Rattle.cluster.specs.declared.Call.TheVariants as call
use Rattle.cluster.specs.State.{State, server_at, mark_at, active_at, holds, record_of, table_at}
use Rattle.cluster.specs.Refusals.{refuses_at}
use Rattle.cluster.proofs.Window.{Within, within}
use Rattle.guarantee.specs.History.{Element, Transaction, History, transaction_in, told}
use Rattle.guarantee.proofs.Ties.{Sim, ReplicaTie, OpenTie, copy_of, row_of, logged_of, transaction_of}
use Rattle.guarantee.proofs.Passing.{below_four, is_open_lem}
use Rattle.guarantee.proofs.Sessions.{log_issued}
use Rattle.guarantee.proofs.Facts.{open_lives}
use Rattle.guarantee.proofs.Messages.{Message, message_of, agrees, accepts}
use Rattle.guarantee.proofs.Hearing.{of_member}
use Rattle.guarantee.proofs.Appending.{Appendable, open_append}
use Rattle.guarantee.proofs.Played.{with_call_lem, Before, Played}

module _ (h : Shape) (x : State) (H : History) (σ : protocol.State) (beside : Element) (s i : ℕ) (f : Fate)
    (B : Before h x H σ (with_call_lem (call.Send s i f) beside)) where
  abbrev given : List ℕ
  given = beside.input.given

  S : Sim h x H σ
  S = B.sim

  M : Message h x s i f given
  M =
      message_of h x s i f given B.range (B.covered.fits.given refl) (B.passed 2) (below_four s (B.passed 3)) (B.passed 4) (B.passed 6)

  abbrev v : Server
  v = server_at x.records s

  abbrev z : ℕ
  z = v.session

  abbrev m : List ℕ
  m = medium_at h.places i x.media

  opened : v.phase ≡ Open
  opened = is_open_lem v.phase (B.passed 5)

  active : active_at v i ≡ true
  active = not-false (active_at v i) (B.passed 7)

  row : OpenTie h.replicas v (table_at s x.tables) (row_of σ z)
  row = (S.servers.each s M.server).serving opened

  T : ReplicaTie h.places m (H.standing i) (copy_of σ i)
  T = S.replicas.each i M.replica

  member : σ.member z i ≡ true
  member = of_member h x H σ S s i f given M opened active

  -- the transactions of the session's issues
  abbrev issues : ℕ → Option Transaction
  issues n = transaction_in ((H.sessions (H.current s)).issues n)

  -- a replica that does not decline: a record is held of the ID behind its log, whichever of the session's that is
  module _ (e : refuses_at h.places v x.media i ≡ false) where
    next : mark_at v i + 1 ≡ suc (σ.mark i)
    next = omega (arith, (agrees h.places v i m e).mark, T.mark)

    there : holds v (suc (σ.mark i)) ≡ true
    there = ap (holds v) (sym next) ∙ not-false _ (B.passed 16)

    -- which this session issued
    own : Within v.start v.issued (suc (σ.mark i))
    own = within v (suc (σ.mark i)) there

    issued : issues (suc (σ.mark i)) ≡ some (transaction_of (σ.log z (suc (σ.mark i))))
    issued =
        let told = (S.sessions z).opened (B.inv.numbers.live z row.phase) in
        let n = suc (σ.mark i) in
        let l : (H.sessions z).issues n ≡ some (logged_of (σ.log z n)) =
        sym (log_issued (H.sessions z) n (omega (arith, told.start, row.start, own.above))) ∙ told.logged n (omega arith) (omega (arith, row.issued, own.reached)) in
        ap (λ (u : ℕ). transaction_in ((H.sessions u).issues n)) ((S.servers.each s M.server).current (open_lives v opened)) ∙ ap transaction_in l

    sends : Appendable h σ z i (record_of v (mark_at v i + 1)) issues
    sends =
        record {
          tx = σ.log z (suc (σ.mark i));
          can =
              record {
                phase = row.phase;
                member = member;
                promise = sym T.promise ∙ (agrees h.places v i m e).promise;
                issued = omega (arith, row.issued, own.reached);
                next = refl;
              };
          bytes = ap (record_of v) next ∙ row.held (suc (σ.mark i)) there;
          valid = rw next (row.written (suc (σ.mark i)) there);
          room = omega (arith, own.reached, M.within.issued);
          whose = issued;
        }

  pub send_played : Played h x H σ (with_call_lem (call.Send s i f) beside)
  unfolding told
  send_played =
      open_append h x H σ S B.inv s i f given M opened active issues (record_of v (mark_at v i + 1))
      (accepts h.places v x.media i f (B.passed 18) (B.passed 19) (B.passed 20))
      sends (λ n. n) (λ n. omega arith)
