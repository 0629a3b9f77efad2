-- What a restore's refusals leave known that did not decline.
-- Assumes nothing.
use mathlib.Core.Path.{◌≡◌}
use mathlib.Core.Bool.{false}
use mathlib.Core.List.{List}
use Prim.Native.Nat.{ℕ, ◌+◌, ◌*◌, ◌≤◌, ◌<◌}
use native.Mathlib.Nat.{mul-le-mul}
use native.Mathlib.Omega.{arith}
use lib.ListN.{length}
use borrow.Author.Tests.{eqb-true, leb-false, not-false}
use Rattle.base.proofs.Tests.{neither}
use Rattle.storage.specs.Sizes.{medium_size}
use Rattle.cluster.specs.declared.Shape.{Shape}
use Rattle.cluster.specs.declared.Records.{Records}
use Rattle.cluster.specs.Refusals.{outside, other_length, rows_of, pass, first_of}
use Rattle.cluster.proofs.Rows.{condition_of}
use Rattle.checks.specs.Results.{state_of, restore_of}
use Rattle.checks.proofs.Behind.{no}
use Rattle.shape_checks.proofs.Sizes.{within, media_fit}
use Rattle.restore_effect.specs.Fitting.{Fits}

module _ (h : Shape) (r : Records) (media tables : List ℕ) (i : ℕ) (backup : List ℕ)
    (v : pass ≡ first_of (rows_of h (state_of r media tables) (restore_of i backup))) where
  none : (n : ℕ) → condition_of n (rows_of h (state_of r media tables) (restore_of i backup)) ≡ false
  none = no (rows_of h (state_of r media tables) (restore_of i backup)) v

  pub has_length : length backup ≡ medium_size h.places
  unfolding other_length
  has_length = eqb-true (length backup) (medium_size h.places) (not-false _ (neither (outside h (length media) (length tables)) (other_length h.places backup) (none 1)).1)

  pub fitting : Fits r (length media) i (length backup)
  fitting =
      let w = within h (length media) (length tables) (neither (outside h (length media) (length tables)) (other_length h.places backup) (none 1)).0 in
      let l : i < h.replicas = leb-false h.replicas i (none 4) in
      let a : (i + 1) * medium_size h.places ≤ h.replicas * medium_size h.places = mul-le-mul {n₂ = h.replicas} {m₂ = medium_size h.places} (omega arith) (omega arith) in
      rw has_length record {
        replica = omega (arith, w.replicas);
        slots = omega arith;
        within = omega (arith, w.media, a);
        small = omega (arith, a, media_fit h.replicas h.places w.replicas w.most);
        session = none 21;
      }
