-- `copies::copy_up`. The invariant: the copies of the turns left, made from here on, come to what all of them come to, and each one made is counted.
use mathlib.Core.Path.{◌≡◌}
use Prim.Native.Nat.{◌+◌, ◌-◌}
use lib.ListN.{length}
use Rattle.recovery.proofs.Played.{copied_up}
use Rattle.recovery.specs.Asked.{recovery_of, trail_of}
use Rattle.driver_stages.proofs.copies.copy_up.Given as goal

abbrev pub invariant-loop-turn : goal.invariant-loop-turn
invariant-loop-turn l =
    (length l.media ≡ length l.initial.media) × (l.r.calls ≡ l.initial.r.calls + l._turn)
    × (let f = copied_up l.asked.shape (recovery_of l.asked) l.from l.mark l.to in
    f l.turns (trail_of l.initial.r l.initial.media l.tables) ≡ f (l.turns - l._turn) (trail_of l.r l.media l.tables))
