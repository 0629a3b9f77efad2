-- import, case by case: what is judged first decides, and what is declined leaves the medium.
-- Assumes nothing.
use mathlib.Core.Path.{◌≡◌, refl, ap, ◌∙◌}
use mathlib.Core.Bool.{Bool, true, false, cond}
use mathlib.Core.List.{List}
use Prim.Native.Nat.{ℕ, ◌≤◌}
use native.Mathlib.Omega.{arith}
use lib.ListN.{length, drop}
use Rattle.storage.specs.Sizes.{medium_size}
use Rattle.segment.specs.declared.header.Stamp.{Stamp}
use Rattle.segment.specs.Header.{header_size}
use Rattle.segment.specs.Pair.{Files, index_size}
use Rattle.import_checks.proofs.Judged.{inside_iff, ready_iff}
use Rattle.import_checks.specs.Refusals.{Reply, ok, no, offsets_in, outside, unready, offsets_differ, records_unfit, verdict}
use Rattle.segment_import.specs.Import.{filled, if_ok, imported}

-- what is said of k offsets and as many records
abbrev pub judged_of : ℕ → Files → Reply
judged_of k f =
    cond (offsets_differ k (drop header_size f.index_file) header_size (drop header_size f.data_file)) (no 25)
    (cond (records_unfit 1 k (drop header_size f.data_file)) (no 26) ok)

module _ (N : ℕ) (m : List ℕ) (z : Stamp) (f : Files) where
  abbrev count : ℕ
  count = offsets_in (length f.index_file)

  abbrev records : List ℕ
  records = drop header_size f.data_file

  -- ---- what is left known

  pub medium_fits : outside N (length m) (length f.index_file) ≡ false → length m ≡ medium_size N
  medium_fits e = ((inside_iff N (length m) (length f.index_file)).0 e).places

  pub index_fits : outside N (length m) (length f.index_file) ≡ false → length f.index_file ≡ index_size (offsets_in (length f.index_file))
  index_fits e = ((inside_iff N (length m) (length f.index_file)).0 e).offsets

  pub places_enough : unready N m z f ≡ false → offsets_in (length f.index_file) ≤ N
  places_enough e = ((ready_iff N m z f).0 e).room

  -- ---- the verdict

  pub by_sizes : outside N (length m) (length f.index_file) ≡ true → no 1 ≡ verdict N m z f
  unfolding verdict
  by_sizes e = rw e

  module _ (a : outside N (length m) (length f.index_file) ≡ false) where
    pub by_header : unready N m z f ≡ true → no 24 ≡ verdict N m z f
    unfolding verdict
    by_header e = rw (a, e)

    pub by_pass : unready N m z f ≡ false → judged_of (offsets_in (length f.index_file)) f ≡ verdict N m z f
    unfolding verdict
    by_pass e = rw (a, e)

  -- ---- the medium

  pub stays : (n : ℕ) → no n ≡ verdict N m z f → m ≡ imported N m z f
  unfolding imported if_ok
  stays n e = ap (λ (r : Reply). if_ok r (filled 1 count records m) m) e

  pub fills : (m' : List ℕ) → ok ≡ verdict N m z f → m' ≡ filled 1 (offsets_in (length f.index_file)) (drop header_size f.data_file) m → m' ≡ imported N m z f
  unfolding imported if_ok
  fills m' e q = q ∙ ap (λ (r : Reply). if_ok r (filled 1 count records m) m) e

-- ok is said only where every record is fit
no_other : (d u : Bool) → cond d (no 25) (cond u (no 26) ok) ≡ ok → u ≡ false
no_other true u e = let w : ◌≡◌ {A = ℕ} 0 1 = cc in absurd (omega arith)
no_other false true e = let w : ◌≡◌ {A = ℕ} 0 1 = cc in absurd (omega arith)
no_other false false e = refl

pub all_fit : (k : ℕ) (f : Files) → judged_of k f ≡ ok → records_unfit 1 k (drop header_size f.data_file) ≡ false
all_fit k f e =
    no_other (offsets_differ k (drop header_size f.index_file) header_size (drop header_size f.data_file)) (records_unfit 1 k (drop header_size f.data_file)) e
