-- `media`. The invariant: the media left, written behind those made, give the whole.
-- Assumes nothing.
use mathlib.Core.Path.{◌≡◌}
use Prim.Native.Nat.{◌-◌, ◌*◌}
use lib.ListN.{length}
use Rattle.octets.specs.Octets.{write_at}
use Rattle.storage.specs.Sizes.{medium_size}
use Rattle.cluster.specs.State.{fresh_media}
use Rattle.fresh.proofs.media.Given as goal

abbrev pub invariant-loop-i : goal.invariant-loop-i
invariant-loop-i l =
    (length l.m ≡ length l.initial.m)
    × (write_at 0 (fresh_media l.replicas l.places) l.initial.m ≡ write_at (l.i * medium_size l.places) (fresh_media (l.replicas - l.i) l.places) l.m)
