-- `copies::copy_all`. The invariant: the copies of the replicas left, made from here on, come to what all of them come to; each replica needs at most as many as the mark.
use mathlib.Core.Path.{◌≡◌}
use Prim.Native.Nat.{◌+◌, ◌*◌, ◌≤◌}
use lib.ListN.{length, drop}
use Rattle.recovery.proofs.Played.{over, caught_up}
use Rattle.recovery.specs.Asked.{recovery_of, trail_of}
use Rattle.driver_stages.proofs.copies.copy_all.Given as goal

abbrev pub invariant-loop-to : goal.invariant-loop-to
invariant-loop-to l =
    (length l.media ≡ length l.initial.media) × (l.r.calls ≤ l.initial.r.calls + 1000 * l.to-index)
    × (let f = caught_up l.asked.shape (recovery_of l.asked) l.from l.mark in over f (trail_of l.initial.r l.initial.media l.tables) l.asked.listed.now ≡ over f (trail_of l.r l.media l.tables) (drop l.to-index l.asked.listed.now))
