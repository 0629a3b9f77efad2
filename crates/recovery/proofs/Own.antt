-- What a recovery's own refusals leave known, and that its take then meets none of 1 to 5.
-- Assumes nothing.
use mathlib.Core.Path.{◌≡◌}
use mathlib.Core.Bool.{false, ◌&&◌}
use mathlib.Core.List.{[], ◌∷◌}
use Prim.Native.Nat.{◌*◌, ◌<◌}
use native.Mathlib.Omega.{arith}
use lib.ListN.{length}
use borrow.Author.Tests.{eqb-true, ltb-false, le-ltb, not-false}
use Rattle.base.proofs.Tests.{neither}
use Rattle.storage.specs.Sizes.{place_size}
use Rattle.cluster.specs.declared.Shape.{Shape}
use Rattle.cluster.specs.State.{State, server_at}
use Rattle.cluster.specs.Refusals.{outside, only_idle, wrong_phase, is_cut, answered, session_at_top, row, rows_of, pass, first_of}
use Rattle.cluster.proofs.Rows.{passed}
use Rattle.recovery.specs.Recovery.{Recovery, Trail, fate_at, taking, other_given, not_below, repeats, names_none, recovery_rows}
use Rattle.recovery.proofs.Steady.{Steady}

pub record Admitted (h : Shape) (x : State) (d : Recovery) : Type 0 where
  pub steady : Steady h x
  pub given : length d.given ≡ length d.fates * place_size
  pub server : d.server < 4
  pub below : not_below h.replicas d.listed ≡ false
  pub idle : wrong_phase only_idle (server_at x.records d.server) ≡ false
  pub once : repeats d.listed ≡ false
  pub some : names_none d.listed ≡ false

pub own : (h : Shape) (x : State) (d : Recovery) → first_of (recovery_rows h x d) ≡ pass → Admitted h x d
own h x d e =
    let none = passed (recovery_rows h x d) e in
    let one = neither (outside h (length x.media) (length x.tables)) (other_given d) (none 1) in
    let list = neither (repeats d.listed) (names_none d.listed) (none 29) in
    record {
      steady = record { inside = one.0; fits = none 2 };
      given = eqb-true (length d.given) (length d.fates * place_size) (not-false _ one.1);
      server = omega (arith, ltb-false 3 d.server (none 3));
      below = none 4;
      idle = none 5;
      once = list.0;
      some = list.1;
    }

-- what is left of the take's list
pub take_rows : (h : Shape) (d : Recovery) (t : Trail) → Admitted h t.state d
    → let f = fate_at d t.count in
    first_of (rows_of h t.state (taking d t)) ≡ first_of (row 6 (is_cut f) ∷ row 21 (answered f && session_at_top t.state.records.register.session) ∷ [])
unfolding first_of
take_rows h d t A = rw (A.steady.inside, A.steady.fits, le-ltb 3 d.server (omega (arith, A.server)), A.idle)
