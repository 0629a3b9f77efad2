-- export is its rows and the two files of a member's first places: what a mark that is heard says of these places, when the files have the exact lengths,
-- and that no reply but ok changes them.
-- Assumes nothing.
use mathlib.Core.Path.{◌≡◌, refl, ap, ap₂, ◌∙◌}
use mathlib.Core.Bool.{Bool, true, false, not, cond}
use mathlib.Core.List.{List, ◌++◌}
use Prim.Native.Nat.{ℕ}
use native.Mathlib.Omega.{arith}
use lib.ListN.{length}
use lib.Dec.{eqb}
use borrow.Author.Tests.{eqb-true, not-false, eq-eqb, ne_eqb}
use Rattle.base.proofs.Tests.{neither}
use Rattle.fate.specs.declared.Fate.{Fate}
use Rattle.storage.specs.Log.{places_from, mark_of}
use Rattle.storage.specs.Operations.{medium_at}
use Rattle.storage.proofs.Scan.{length_places}
use Rattle.segment.specs.declared.header.Stamp.{Stamp}
use Rattle.segment.specs.Pair.{Files, data_size, index_size}
use Rattle.cluster.specs.declared.Shape.{Shape}
use Rattle.cluster.specs.declared.Records.{Records}
use Rattle.cluster.specs.declared.Server.{Server}
use Rattle.cluster.specs.declared.Refusal.{Refusal}
use Rattle.cluster.specs.declared.Refusal.TheVariants.{OutsideShape}
use Rattle.cluster.specs.declared.Outcome.{Outcome}
use Rattle.cluster.specs.declared.Call.TheVariants as call
use Rattle.cluster.specs.State.{State}
use Rattle.cluster.specs.Replies.{reply_of}
use Rattle.cluster.specs.Refusals.{Input, no_slot, promise_differs, mark_differs, answered, exported_mark, exported_places, other_sizes, no_replica_at, only_open, replica_rows, checks_of}
use Rattle.cluster.specs.Effects.{Result, no_bytes, exported_pair}
use Rattle.cluster.specs.Step.{effect, rest, step, if_ok, files_after}
use Rattle.replica_checks.specs.declared.Heard.{Heard}
use Rattle.replica_checks.specs.declared.Heard.TheVariants.{Silent, Declined, Mark}
use Rattle.replica_checks.specs.Says.{says}
use Rattle.replica.specs.Answers.{read_heard}
use Rattle.checks.specs.Results.{files_of, export_of, declined_of}
use Rattle.hearing.specs.Hearing.{read_by, export_by}

-- ---- the rows, and the files of a whole call

module _ (h : Shape) (x : State) (s i : ℕ) (f : Fate) (given : List ℕ) (z : Stamp) (data_file index_file : List ℕ) where
  abbrev p : Input
  p = export_of (call.Export s i f) given z data_file index_file

  pub export_whole : step h x p ≡ rest (replica_rows h x s (no_replica_at h.replicas i) only_open
      ++ ((checks_of h x p (call.Export s i f)).sending ++ (checks_of h x p (call.Export s i f)).receiving)) x (effect h x p (call.Export s i f))
  unfolding step
  export_whole = refl

  -- by the result, which the reply is of
  pub files_whole : {r : Result} {now : Files} → r ≡ step h x p
      → now ≡ if_ok r.reply (exported_pair h.places x s i z) (files_of data_file index_file)
      → now ≡ files_after h x p
  unfolding files_after
  files_whole e q = rw (← e) q

-- a decline leaves them
pub declined_files : (r : Records) {why : Refusal} (new old : Files) {o : Outcome} → o ≡ declined_of r why → old ≡ if_ok (reply_of o.answer) new old
unfolding if_ok
declined_files r new old e = rw e

-- ---- the places

-- those of the member's medium
pub places_are : (h : Shape) (v : Server) (i k : ℕ) (medium media : List ℕ) → medium ≡ medium_at h.places i media → k ≡ exported_mark v i
    → places_from k 1 medium ≡ exported_places h.places v i media
places_are h v i k medium media e q = ap₂ (λ (n : ℕ) (m : List ℕ). places_from n 1 m) q e

-- 20: the mark that is heard is the recorded one
pub heard_mark : (N session recorded n : ℕ) (f : Fate) (m : List ℕ) → read_heard N session recorded f m ≡ Mark n → mark_of N m ≡ recorded
unfolding read_heard mark_differs
heard_mark N session recorded n f m e =
    eqb-true (mark_of N m) recorded (not-false _ (go (answered f) (no_slot m) (promise_differs session m) (mark_differs N recorded m) e))
  where
    go : (ans a b c : Bool) → cond ans (says a b c (mark_of N m)) Silent ≡ Mark n → c ≡ false
    go true true b c e = let z : ◌≡◌ {A = ℕ} 0 1 = cc in absurd (omega arith)
    go true false true c e = let z : ◌≡◌ {A = ℕ} 0 1 = cc in absurd (omega arith)
    go true false false true e = let z : ◌≡◌ {A = ℕ} 0 1 = cc in absurd (omega arith)
    go true false false false e = refl
    go false a b c e = let z : ◌≡◌ {A = ℕ} 0 1 = cc in absurd (omega arith)

-- ---- the lengths

-- of two files with so many bytes, where the data file should have size
module _ (k : ℕ) (m : List ℕ) {size : ℕ} (e : size ≡ data_size (places_from k 1 m)) (file index : ℕ) (files : Files)
    (d : length files.data_file ≡ file) (i : length files.index_file ≡ index) where
  pub other_data : (file ≡ size → ⊥) → true ≡ other_sizes (places_from k 1 m) files
  unfolding other_sizes
  other_data n = rw (d, ← e, ne_eqb file size n)

  pub other_index : file ≡ size → not (eqb index (index_size k)) ≡ other_sizes (places_from k 1 m) files
  unfolding other_sizes
  other_index q = rw (d, i, ← e, eq-eqb file size q, length_places k 1 m)

-- files that pass have the exact lengths
pub exact : (k : ℕ) (m : List ℕ) (files : Files) → other_sizes (places_from k 1 m) files ≡ false
    → (length files.data_file ≡ data_size (places_from k 1 m)) × (length files.index_file ≡ index_size k)
unfolding other_sizes
exact k m files e =
    let ps = places_from k 1 m in
    let b = neither (not (eqb (length files.data_file) (data_size ps))) (not (eqb (length files.index_file) (index_size (length ps)))) e in (
      eqb-true (length files.data_file) (data_size ps) (not-false _ b.0),
      eqb-true (length files.index_file) (index_size (length ps)) (not-false _ b.1) ∙ ap index_size (length_places k 1 m),
    )

-- ---- what the server makes of the answer

module _ (r : Records) (s i : ℕ) (other : Bool) (new old : Files) where
  abbrev Made : Heard → Outcome → Files → Type 0
  Made h o now = (o ≡ export_by r s i other h) × (now ≡ if_ok (reply_of o.answer) new old)

  -- no mark is heard
  pub not_exported : (h : Heard) {o : Outcome} → ((n : ℕ) → h ≡ Mark n → ⊥) → o ≡ read_by r s i no_bytes h → Made h o old
  unfolding export_by read_by if_ok
  not_exported Silent t e = rw e (refl, refl)
  not_exported (Declined why) t e = rw e (refl, refl)
  not_exported (Mark n) t e = absurd (t n refl)

  pub not_sized : {h : Heard} {n : ℕ} {o : Outcome} → h ≡ Mark n → true ≡ other → o ≡ declined_of r OutsideShape → Made h o old
  unfolding export_by read_by if_ok
  not_sized e b d = rw (e, ← b, d) (refl, refl)

  pub exported : {h : Heard} {n : ℕ} {o : Outcome} {now : Files} → h ≡ Mark n → false ≡ other → o ≡ read_by r s i no_bytes h → now ≡ new → Made h o now
  unfolding export_by read_by if_ok
  exported e b d w = rw (d, e, ← b, w) (refl, refl)
