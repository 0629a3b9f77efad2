-- The tests of a restore's refusals, in the order in which the code makes them, are the list of its rows.
-- Assumes nothing.
use mathlib.Core.Path.{◌≡◌, sym, ap, ◌∙◌}
use mathlib.Core.Bool.{Bool, true, false, not, ◌||◌, or-true, or-false}
use mathlib.Core.List.{List, [], ◌∷◌, ◌++◌}
use Prim.Native.Nat.{ℕ, ◌+◌, ◌-◌, ◌*◌, ◌/◌, ◌%◌, ◌≤◌, ◌<◌}
use native.Mathlib.Nat.{div-add-mod'}
use native.Mathlib.Omega.{arith}
use native.Mathlib.Decide.{ℕ_discrete}
use lib.Dec.{eqb}
use lib.ListN.{length}
use borrow.Author.Tests.{eq-eqb, ne_eqb}
use Rattle.storage.specs.Sizes.{slots_size, place_size, medium_size}
use Rattle.cluster.specs.declared.Shape.{Shape}
use Rattle.cluster.specs.State.{State}
use Rattle.cluster.specs.Refusals.{outside, other_length, no_replica_at, session_at_top, no_backup_slot, Row, row, cluster_rows, rows_of, Verdict, declined, first_of}
use Rattle.checks.specs.Results.{restore_of}

-- ---- the bytes' length, by quotient and rest of what lies behind the slots

module _ (places bytes : ℕ) where
  pub too_short : bytes < slots_size → true ≡ not (eqb bytes (medium_size places))
  too_short l = rw (ne_eqb bytes (medium_size places) (λ x. omega arith))

  pub divided : (b : Bool) → slots_size ≤ bytes → b ≡ (not (eqb ((bytes - slots_size) / place_size) places) || not (eqb ((bytes - slots_size) % place_size) 0))
      → b ≡ not (eqb bytes (medium_size places))
  divided b l e = e ∙ go (ℕ_discrete (n / place_size) places) (ℕ_discrete (n % place_size) 0)
    where
      n : ℕ
      n = bytes - slots_size

      whole : n / place_size * place_size + n % place_size ≡ n
      whole = div-add-mod' n place_size

      go : Dec (n / place_size ≡ places) → Dec (n % place_size ≡ 0) → (not (eqb (n / place_size) places) || not (eqb (n % place_size) 0)) ≡ not (eqb bytes (medium_size places))
      go (yes p) (yes q) = rw (eq-eqb (n / place_size) places p, eq-eqb (n % place_size) 0 q, eq-eqb bytes (medium_size places) (omega arith))
      go (yes p) (no q) = rw (eq-eqb (n / place_size) places p, ne_eqb (n % place_size) 0 q, ne_eqb bytes (medium_size places) (λ x. omega arith))
      go (no p) q = rw (ne_eqb (n / place_size) places p, ne_eqb bytes (medium_size places) (λ x. omega arith))

-- ---- the rows

module _ (h : Shape) (x : State) (i : ℕ) (backup : List ℕ) {b : Bool} (q : b ≡ not (eqb (length backup) (medium_size h.places))) where
  pub by_length : b ≡ true → declined 1 [] ≡ first_of (rows_of h x (restore_of i backup))
  unfolding first_of other_length
  by_length e = rw (sym q ∙ e, or-true (outside h (length x.media) (length x.tables)))

  abbrev own : List Row
  own = row 4 (no_replica_at h.replicas i) ∷ row 21 (session_at_top x.records.register.session) ∷ row 30 (no_backup_slot backup) ∷ []

  rows_are : b ≡ false → cluster_rows h x ++ own ≡ rows_of h x (restore_of i backup)
  unfolding other_length
  rows_are e = rw (sym q ∙ e, or-false (outside h (length x.media) (length x.tables)))

  pub by_rows : {v : Verdict} → b ≡ false → v ≡ first_of (cluster_rows h x ++ own) → v ≡ first_of (rows_of h x (restore_of i backup))
  by_rows e ev = ev ∙ ap first_of (rows_are e)
