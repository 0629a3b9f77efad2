-- Condition 2, records, for the call that reads them: what read answers with ok is the record written for some fields with that ID.
-- The theorem is `reads`.
-- Assumes nothing.
use mathlib.Core.Path.{◌≡◌, refl}
use mathlib.Core.Bool.{Bool, true, false, not, cond}
use mathlib.Core.List.{List}
use Prim.Native.Nat.{ℕ, zero, suc, ◌+◌, ◌*◌, ◌≤◌}
use native.Mathlib.Omega.{arith}
use lib.Dec.{eqb, ltb}
use borrow.Author.Tests.{not-false, eqb-true, eqb-false, ltb-false}
use Rattle.base.proofs.Tests.{neither}
use Rattle.octets.specs.Octets.{Bytes}
use Rattle.octets.proofs.Reading.{bytes_part}
use Rattle.fate.specs.declared.Fate.{Fate}
use Rattle.storage.specs.Sizes.{place_size, medium_size, place_offset}
use Rattle.storage.specs.Places.{valid_place}
use Rattle.storage.specs.Log.{place_at, mark_of}
use Rattle.storage.specs.Operations.{medium_at}
use Rattle.storage.proofs.Scan.{log_valid}
use Rattle.storage.proofs.Records.{Written, only_records}
use Rattle.segment.specs.declared.header.Stamp.{Stamp}
use Rattle.segment.specs.Pair.{Files}
use Rattle.cluster.specs.declared.Shape.{Shape}
use Rattle.cluster.specs.declared.Call.TheVariants as call
use Rattle.cluster.specs.State.{State, server_at, mark_at}
use Rattle.cluster.specs.Replies.{ok, silent}
use Rattle.cluster.specs.Refusals.{Input, mark_differs, answered, rows_of, Verdict, pass, declined, first_of}
use Rattle.cluster.specs.Effects.{Result, read_effect}
use Rattle.cluster.specs.Step.{effect, unless, step}
use Rattle.cluster.proofs.Rows.{passed}

-- ---- the statement

abbrev pub Statement : Type 0
Statement =
    (h : Shape) (x : State) (s i n : ℕ) (f : Fate) (content locks given : List ℕ) (stamp : Stamp) (files : Files) (backup : List ℕ) (values : List ℕ)
    → Bytes x.media
    → (let p : Input = record { call = call.Read s i n f; content = content; locks = locks; given = given; stamp = stamp; files = files; backup = backup } in
    (step h x p).reply ≡ ok values → Written n (step h x p).bytes)

-- ---- its proof

-- what is answered ok was not declined
pub passes : (d : Verdict) (x : State) (e : Result) (values : List ℕ) → (unless d x e).reply ≡ ok values → d ≡ pass
unfolding unless
passes pass x e values q = refl
passes (declined n vs) x e values q = let z : ◌≡◌ {A = ℕ} 0 1 = cc in absurd (omega arith)

pub is_answered_lem : (b : Bool) (us vs : List ℕ) → cond b (ok us) silent ≡ ok vs → b ≡ true
is_answered_lem true us vs e = refl
is_answered_lem false us vs e = let z : ◌≡◌ {A = ℕ} 0 1 = cc in absurd (omega arith)

-- the place of an ID from 1 up to the mark is valid
at_place : (N n : ℕ) (m : List ℕ) → (n ≡ 0 → ⊥) → n ≤ mark_of N m → valid_place n (place_at n m) ≡ true
at_place N zero m e l = absurd (e refl)
at_place N (suc k) m e l =
    let q : k + 1 ≡ suc k = omega arith in
    rw q at (log_valid N k m (omega arith))

pub reads : Statement
unfolding step unless read_effect mark_differs place_at
reads h x s i n f content locks given stamp files backup values b q =
    let p : Input = record { call = call.Read s i n f; content = content; locks = locks; given = given; stamp = stamp; files = files; backup = backup } in
    let v = server_at x.records s in
    let N = h.places in
    let m = medium_at N i x.media in
    let through = passes (first_of (rows_of h x p)) x (effect h x p (call.Read s i n f)) values q in
    let none = passed (rows_of h x p) through in
    let known = (neither _ (ltb v.acked n) (none 16)).0 in
    let low = ltb-false (mark_at v i) n (neither (eqb n 0) (ltb (mark_at v i) n) known).1 in
    let one = eqb-false n 0 (neither (eqb n 0) (ltb (mark_at v i) n) known).0 in
    let a = is_answered_lem (answered f) _ values (rw through at q) in
    let differs : not (eqb (mark_of N m) (mark_at v i)) ≡ false = rw a at (none 20) in
    let mark = eqb-true (mark_of N m) (mark_at v i) (not-false _ differs) in
    rw (through, a)
    ((only_records n (place_at n m) (bytes_part (place_offset n) place_size m (bytes_part (i * medium_size N) (medium_size N) x.media b))).0
    (at_place N n m one (omega (arith, mark, low))))
