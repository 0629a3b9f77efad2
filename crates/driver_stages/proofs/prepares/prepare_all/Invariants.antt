-- `prepares::prepare_all`. The invariant: the prepares left, made from here on, come to what all of them come to, and each one made is counted.
use mathlib.Core.Path.{◌≡◌}
use Prim.Native.Nat.{◌+◌}
use lib.ListN.{length, drop}
use Rattle.recovery.proofs.Played.{over, prepared}
use Rattle.recovery.specs.Asked.{recovery_of, trail_of}
use Rattle.driver_stages.proofs.prepares.prepare_all.Given as goal

abbrev pub invariant-loop-i : goal.invariant-loop-i
invariant-loop-i l =
    (length l.media ≡ length l.initial.media) × (l.r.calls ≡ l.initial.r.calls + l.i-index)
    × (let f = prepared l.asked.shape (recovery_of l.asked) in over f (trail_of l.initial.r l.initial.media l.tables) l.asked.listed.now ≡ over f (trail_of l.r l.media l.tables) (drop l.i-index l.asked.listed.now))
