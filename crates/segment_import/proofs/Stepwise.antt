-- 25 one offset after the other, as document 02 says it: "a first offset that isn't 128 or a later one that isn't the one before plus that record's size".
-- Each is compared with the offset before it as the index file has it; the first that is wrong is the first that is not where its record begins.
-- Assumes nothing.
use mathlib.Core.Path.{◌≡◌, refl, sym, ap, ◌∙◌}
use mathlib.Core.Logic.{◌↔◌}
use mathlib.Core.Bool.{true}
use mathlib.Core.List.{List}
use Prim.Native.Nat.{ℕ, zero, suc, ◌+◌, ◌<◌}
use native.Mathlib.Omega.{arith}
use native.Mathlib.Decide.{ℕ_discrete}
use lib.ListN.{drop}
use Rattle.segment.specs.Header.{header_size}
use Rattle.segment.specs.Records.{record_size, sized}
use Rattle.segment.specs.Pair.{Files}
use Rattle.segment_import.proofs.Segments.{offsets_of, records_in, offset_at, rest_at, start_at, Differs}

-- what the j-th offset should be, from 0
unfoldable pub due_at : ℕ → Files → ℕ
due_at zero files = header_size
due_at (suc i) files = offset_at i files.index_file + record_size (rest_at i (records_in files))

-- "(until a length field is above 28 or not wholly in the slice)"
abbrev pub Wrong : Files → Type 0
Wrong files =
    (j : ℕ) × (j < offsets_of files) × ((i : ℕ) → i < j → sized (rest_at i (records_in files)) ≡ true) × (¬ (offset_at j files.index_file ≡ due_at j files))

abbrev pub Stepwise : Type 0
Stepwise = (files : Files) → Differs files ↔ Wrong files

-- a record begins where the one before it ends
start_next : (j o : ℕ) (s : List ℕ) → start_at (suc j) o s ≡ start_at j o s + record_size (rest_at j s)
unfolding start_at rest_at
start_next zero o s = refl
start_next (suc j) o s = start_next j (o + record_size s) (drop (record_size s) s)

module _ (files : Files) where
  abbrev starts : ℕ → ℕ
  starts j = start_at j header_size (records_in files)

  abbrev at : ℕ → ℕ
  at j = offset_at j files.index_file

  -- where the offset before is right, the next should be where its record begins
  due_start : (i : ℕ) → at i ≡ starts i → due_at (suc i) files ≡ starts (suc i)
  unfolding due_at
  due_start i e = ap (λ (o : ℕ). o + record_size (rest_at i (records_in files))) e ∙ sym (start_next i header_size (records_in files))

  to : (j : ℕ) → j < offsets_of files → ((i : ℕ) → i < j → sized (rest_at i (records_in files)) ≡ true) → (¬ (at j ≡ starts j)) → Wrong files
  unfolding due_at start_at
  to zero h f w = (0, h, f, w)
  to (suc i) h f w = go (ℕ_discrete (at i) (starts i)) (to i (omega arith) (λ j g. f j (omega arith)))
    where
      go : Dec (at i ≡ starts i) → ((¬ (at i ≡ starts i)) → Wrong files) → Wrong files
      go (yes e) before = (suc i, h, f, λ v. w (v ∙ due_start i e))
      go (no ne) before = before ne

  from : (j : ℕ) → j < offsets_of files → ((i : ℕ) → i < j → sized (rest_at i (records_in files)) ≡ true) → (¬ (at j ≡ due_at j files)) → Differs files
  unfolding due_at start_at
  from zero h f w = (0, h, f, w)
  from (suc i) h f w = go (ℕ_discrete (at i) (starts i))
    where
      go : Dec (at i ≡ starts i) → Differs files
      go (yes e) = (suc i, h, f, λ v. w (v ∙ sym (due_start i e)))
      go (no ne) = (i, omega arith, λ j g. f j (omega arith), ne)

pub stepwise : Stepwise
stepwise files = (λ r. to files r.0 r.1 r.2 r.3, λ r. from files r.0 r.1 r.2 r.3)
