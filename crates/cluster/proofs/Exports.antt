-- What an export gives: document 02, No. 3, "Export a member's log, up to the lesser of its mark and the acknowledged one, as one segment". Its files are the
-- pair of these places, by the mark that the member has stored, and each of them is of its log. The theorem is `exports`.
-- Assumes nothing.
use mathlib.Core.Path.{◌≡◌, sym, ap, ◌∙◌}
use mathlib.Core.Bool.{not, true, false}
use mathlib.Core.List.{List}
use Prim.Native.Nat.{ℕ, zero, suc, ◌+◌, ◌≤◌, min}
use native.Mathlib.Omega.{arith}
use lib.Dec.{eqb}
use borrow.Author.Tests.{not-false, eqb-true}
use Rattle.fate.specs.declared.Fate.{Fate}
use Rattle.storage.specs.Places.{valid_place}
use Rattle.storage.specs.Log.{place_at, places_from, mark_of}
use Rattle.storage.specs.Operations.{medium_at}
use Rattle.storage.proofs.Scan.{log_valid}
use Rattle.segment.specs.declared.header.Stamp.{Stamp}
use Rattle.segment.specs.Pair.{Files, pair_of}
use Rattle.cluster.specs.declared.Shape.{Shape}
use Rattle.cluster.specs.declared.Call.TheVariants as call
use Rattle.cluster.specs.State.{State, server_at, mark_at}
use Rattle.cluster.specs.Replies.{Reply, ok}
use Rattle.cluster.specs.Refusals.{Input, mark_differs, answered, rows_of, first_of}
use Rattle.cluster.specs.Effects.{export_effect}
use Rattle.cluster.specs.Step.{effect, unless, step, if_ok, files_after}
use Rattle.cluster.proofs.Rows.{passed}
use Rattle.cluster.proofs.Reading.{passes, is_answered_lem}

-- ---- the statement

-- m is the member's medium, a the acknowledged mark
pub record Exported (N : ℕ) (m : List ℕ) (a : ℕ) (z : Stamp) (files : Files) : Type 0 where
  pub pair : files ≡ pair_of z (places_from (min (mark_of N m) a) 1 m)
  pub of_log : (n : ℕ) → 1 ≤ n → n ≤ min (mark_of N m) a → valid_place n (place_at n m) ≡ true

abbrev pub Statement : Type 0
Statement =
    (h : Shape) (x : State) (s i : ℕ) (f : Fate) (content locks given : List ℕ) (stamp : Stamp) (files : Files) (backup : List ℕ) (values : List ℕ)
    → (let p : Input = record { call = call.Export s i f; content = content; locks = locks; given = given; stamp = stamp; files = files; backup = backup } in
    (step h x p).reply ≡ ok values
    → Exported h.places (medium_at h.places i x.media) (server_at x.records s).acked stamp (files_after h x p))

-- ---- its proof

in_log : (N a : ℕ) (m : List ℕ) (n : ℕ) → 1 ≤ n → n ≤ min (mark_of N m) a → valid_place n (place_at n m) ≡ true
in_log N a m zero lo hi = absurd (omega arith)
in_log N a m (suc k) lo hi =
    let q : k + 1 ≡ suc k = omega arith in
    rw q at (log_valid N k m (omega arith))

pub exports : Statement
unfolding step unless export_effect mark_differs files_after if_ok
exports h x s i f content locks given stamp files backup values q =
    let p : Input = record { call = call.Export s i f; content = content; locks = locks; given = given; stamp = stamp; files = files; backup = backup } in
    let v = server_at x.records s in
    let N = h.places in
    let m = medium_at N i x.media in
    let through = passes (first_of (rows_of h x p)) x (effect h x p (call.Export s i f)) values q in
    let none = passed (rows_of h x p) through in
    let a = is_answered_lem (answered f) _ values (rw through at q) in
    let differs : not (eqb (mark_of N m) (mark_at v i)) ≡ false = rw a at (none 20) in
    let mark = eqb-true (mark_of N m) (mark_at v i) (not-false _ differs) in
    record {
      pair =
          ap (λ (r : Reply). if_ok r (pair_of stamp (places_from (min (mark_at v i) v.acked) 1 m)) files) q
          ∙ ap (λ (k : ℕ). pair_of stamp (places_from (min k v.acked) 1 m)) (sym mark);
      of_log = in_log N v.acked m;
    }
