-- The medium that a restore writes: the log is the bytes', and so are the low-water marks; the promise is the raised session.
-- Assumes nothing.
use mathlib.Core.Path.{◌≡◌, sym, ap, ◌∙◌}
use mathlib.Core.List.{List}
use mathlib.Core.Option.{Option}
use Prim.Native.Nat.{ℕ, ◌^◌, ◌<◌}
use native.Mathlib.Omega.{arith}
use lib.ListN.{length, take}
use lib.Seq.{take-length}
use Rattle.octets.specs.Octets.{write_at}
use Rattle.storage.specs.declared.slot.Slot.{Slot}
use Rattle.storage.specs.Sizes.{slot_size}
use Rattle.storage.specs.Slots.{slot_bytes, stored_slot, FittingSlot}
use Rattle.storage.specs.Log.{log_of, Sound}
use Rattle.storage.proofs.SlotReadBack.{slot_length}
use Rattle.storage.proofs.LogWrites.{log_kept}
use Rattle.storage.proofs.Truncating.{mark_is}
use Rattle.cluster.specs.Effects.{restored_slot, restored_medium}
use Rattle.cluster.proofs.Restores.{Restored, restored}
use Rattle.guarantee.specs.History.{Transaction}
use Rattle.guarantee.proofs.Ties.{Copy, ReplicaTie}
use Rattle.guarantee.proofs.Media.{part_tie}

module _ (N : ℕ) (m : List ℕ) (standing : ℕ → Option Transaction) (c : Copy) (T : ReplicaTie N m standing c) (z : ℕ) (w : z < 2 ^ 64) where
  abbrev y : Slot
  y = restored_slot z m

  abbrev b : List ℕ
  b = slot_bytes y

  abbrev m₁ : List ℕ
  m₁ = write_at slot_size b m

  abbrev m₂ : List ℕ
  m₂ = write_at 0 b m₁

  fits : FittingSlot y
  fits = record { promise = w; low = T.fitting.low; local = T.fitting.local }

  one : (log_of N m₁ ≡ log_of N m) × Sound N m₁
  one = log_kept N m T.sound slot_size b (omega (arith, slot_length y))

  two : (log_of N m₂ ≡ log_of N m₁) × Sound N m₂
  two = log_kept N m₁ one.1 0 b (omega (arith, slot_length y))

  written : Restored N z m m₂
  written = restored N z m T.sound.size

  slot : stored_slot m₂ ≡ y
  slot = written.reads fits

  pub restored_tie : ReplicaTie N (restored_medium z m) standing (record { promise = z; mark = c.mark; place = c.place; low = c.low })
  restored_tie =
      let k : c.mark ≡ length (log_of N m) = sym T.mark ∙ mark_is N m in
      part_tie N c.mark m m₂ (omega (arith, T.mark)) (two.0 ∙ one.0 ∙ sym (ap (λ (n : ℕ). take n (log_of N m)) k ∙ take-length (log_of N m)))
      standing c T two.1 written.valid (rw slot fits) z c.low
      (ap (λ (x : Slot). x.promise) slot) (ap (λ (x : Slot). x.low) slot ∙ T.low)
