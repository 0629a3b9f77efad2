-- What a restore leaves of the media: its medium is cut out of them at its place.
-- Assumes nothing.
use mathlib.Core.Path.{◌≡◌, ap, ◌∙◌}
use mathlib.Core.List.{List}
use Prim.Native.Nat.{ℕ, ◌+◌, ◌-◌, ◌*◌, ◌≤◌}
use native.Mathlib.Omega.{arith}
use lib.ListN.{length, take, drop}
use borrow.Rule.Slice.PartMut.{put_mid}
use Rattle.octets.proofs.Laws.{length_part, between_part, mid_write}
use Rattle.storage.specs.Sizes.{medium_size}
use Rattle.cluster.specs.declared.Records.{Records}
use Rattle.cluster.specs.declared.Outcome.{Outcome}
use Rattle.cluster.specs.State.{put_register}
use Rattle.cluster.specs.Effects.{restored_medium, restored_register, restore_effect}
use Rattle.checks.specs.Results.{state_of, result_of, value_of}

module _ (i bytes : ℕ) (media : List ℕ) (fits : i * bytes + bytes ≤ length media) where
  abbrev pub lent : List ℕ
  lent = take ((i * bytes + bytes) - i * bytes) (drop (i * bytes) media)

  pub lent_length : length lent ≡ bytes
  lent_length = ap length (between_part (i * bytes) bytes media) ∙ length_part (i * bytes) bytes media fits

  -- m is what the medium becomes
  pub put_back :
      {o : Outcome} {m : List ℕ} (r : Records) (backup : List ℕ)
      → (let g = restored_register r.register i in (o ≡ value_of (put_register r g) g.session) × (m ≡ restored_medium g.session backup))
      → length m ≡ length lent
      → (N : ℕ) (tables : List ℕ) → bytes ≡ medium_size N
      → result_of o (put_mid (i * bytes) ((i * bytes + bytes) - i * bytes) media m) tables ≡ restore_effect N (state_of r media tables) i backup
  unfolding restore_effect
  put_back {o} {m} r backup (eo, em) el N tables e =
      rw (eo, mid_write (i * bytes) (i * bytes + bytes) media m (restored_medium (r.register.session + 1) backup) (omega (arith, lent_length, ap length em)) em, e)
