-- `has_no_slot`: the current slot of the bytes is none.
use mathlib.Core.Path.{◌≡◌, refl}
use mathlib.Core.Bool.{false}
use Rattle.storage.specs.declared.slot.Current.{Current}
use Rattle.storage.specs.declared.slot.Current.TheVariants.{First, Second, Neither}
use Rattle.cluster.specs.Refusals.{is_neither, no_slot}
use Rattle.restore_checks.proofs.has_no_slot.Goals as goal

one_is_current : (c : Current) → (c ≡ Neither → ⊥) → false ≡ is_neither c
one_is_current First h = refl
one_is_current Second h = refl
one_is_current Neither h = absurd (h refl)

pub returns-in-Neither : goal.returns-in-Neither
unfolding no_slot
returns-in-Neither c = rw (← c.choose.ensures, c.in-Neither.is)

pub returns-in_default : goal.returns-in_default
unfolding no_slot
returns-in_default c = rw (← c.choose.ensures) (one_is_current _ c.in_default.not-Neither)
