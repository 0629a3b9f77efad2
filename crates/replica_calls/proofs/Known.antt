-- What passed rows leave known: the replica that is named, its medium, and room for a record.
-- Assumes nothing.
use mathlib.Core.Path.{◌≡◌}
use mathlib.Core.Bool.{Bool, false, not, ◌||◌}
use mathlib.Core.List.{List, [], ◌∷◌}
use lib.ListN.{length}
use Prim.Native.Nat.{ℕ, ◌+◌, ◌≤◌, ◌<◌}
use native.Mathlib.Omega.{arith}
use lib.Dec.{eqb, leb, ltb}
use borrow.Author.Tests.{leb-false, not-false, ltb-true}
use Rattle.base.proofs.Tests.{neither}
use Rattle.cluster.specs.declared.Shape.{Shape}
use Rattle.cluster.specs.declared.Server.{Server}
use Rattle.cluster.specs.State.{holds}
use Rattle.cluster.proofs.Window.{within}
use Rattle.cluster.specs.Refusals.{wrong_phase, not_two, row, replica_rows, pass, first_of}
use Rattle.cluster.specs.declared.Records.{Records}
use Rattle.cluster.specs.declared.Phases.{Phases}
use Rattle.cluster.specs.State.{server_at}
use Rattle.checks.specs.Results.{state_of}
use Rattle.checks.proofs.Behind.{no}
use Rattle.checks.proofs.Frame.{Admitted, admitted}
use Rattle.delivery.specs.Messages.{Named}

pub named : (h : Shape) (v : Server) (s i bytes marks : ℕ) → Admitted h v s bytes marks → i < h.replicas → Named h v i bytes
named h v s i bytes marks a l = record {
  least = a.least;
  few = a.most;
  replicas = a.replicas;
  replica = l;
  within = a.media i l;
  mark = a.fits.marks i l;
  issued = a.fits.issued;
}

-- a call that names replicas and is admitted
pub admits :
    (h : Shape) (r : Records) (m t : List ℕ) (s : ℕ) (unnamed : Bool) (phases : Phases)
    → pass ≡ first_of (replica_rows h (state_of r m t) s unnamed phases)
    → Admitted h (server_at r s) s (length m) (length t) × (unnamed ≡ false)
admits h r m t s unnamed phases e = (
  admitted h r m t s (row 4 unnamed ∷ row 5 (wrong_phase phases (server_at r s)) ∷ []) e,
  no (replica_rows h (state_of r m t) s unnamed phases) e 4,
)

-- 16 of send and of copy: the place behind the mark is one of the medium's
pub send_room : (v : Server) (mark N : ℕ) → not (holds v (mark + 1)) ≡ false → v.issued ≤ N → mark < N
send_room v mark N e l = omega (arith, (within v (mark + 1) (not-false (holds v (mark + 1)) e)).reached)

pub copy_room : (mark source N : ℕ) → not (ltb mark source) ≡ false → source ≤ N → mark < N
copy_room mark source N e l = omega (arith, ltb-true mark source (not-false (ltb mark source) e))

-- 4 of copy
pub both_named : (r a b : ℕ) → not_two r a b ≡ false → (a < r) × (b < r)
both_named r a b e =
    let q = neither (leb r a) (leb r b) (neither (leb r a || leb r b) (eqb a b) e).0 in
    (leb-false r a q.0, leb-false r b q.1)
