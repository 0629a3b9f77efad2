-- The replies of an import in their order: the tests that a pair has passed when the reply is ok, which test each number tells of, and what the medium then is.
-- Assumes nothing.
use mathlib.Core.Path.{◌≡◌, refl, sym, ◌∙◌}
use mathlib.Core.Logic.{◌↔◌, ◌⊎◌, inl, inr}
use mathlib.Core.Bool.{Bool, true, false, cond, false≢true}
use mathlib.Core.List.{List}
use Prim.Native.Nat.{ℕ}
use native.Mathlib.Omega.{arith}
use lib.ListN.{length, drop}
use Rattle.segment.specs.declared.header.Stamp.{Stamp}
use Rattle.segment.specs.Header.{header_size}
use Rattle.segment.specs.Pair.{Files}
use Rattle.import_checks.specs.Refusals.{Reply, ok, no, offsets_in, outside, unready, offsets_differ, records_unfit, verdict}
use Rattle.segment_import.specs.Import.{filled, if_ok, imported}
use Rattle.import_checks.proofs.Judged.{Inside, inside_iff, Ready, ready_iff}

-- the two tests over the files, at the numbers that the verdict gives them
abbrev pub differs : Files → Bool
differs files = offsets_differ (offsets_in (length files.index_file)) (drop header_size files.index_file) header_size (drop header_size files.data_file)

abbrev pub unfits : Files → Bool
unfits files = records_unfit 1 (offsets_in (length files.index_file)) (drop header_size files.data_file)

-- "in that order"
abbrev pub chain : Bool → Bool → Bool → Bool → Reply
chain a b c d = cond a (no 1) (cond b (no 24) (cond c (no 25) (cond d (no 26) ok)))

pub verdict_is : (N : ℕ) (m : List ℕ) (z : Stamp) (files : Files)
    → verdict N m z files ≡ chain (outside N (length m) (length files.index_file)) (unready N m z files) (differs files) (unfits files)
unfolding verdict
verdict_is N m z files = refl

-- ---- which test each reply tells of

same_number : (m n : ℕ) → no m ≡ no n → m ≡ n
same_number m n e = cc e

never_ok : (n : ℕ) → no n ≡ ok → ⊥
never_ok n e = let z : ◌≡◌ {A = ℕ} 0 1 = cc e in omega arith

module _ (P Q R S : Type 0) where
  -- the reply v to a pair of which the conditions are P, Q, R and S, in this order
  pub record Replies (v : Reply) : Type 0 where
    pub one : (v ≡ no 1) ↔ P
    pub header : (v ≡ no 24) ↔ ((¬ P) × Q)
    pub offset : (v ≡ no 25) ↔ ((¬ P) × (¬ Q) × R)
    pub unfit : (v ≡ no 26) ↔ ((¬ P) × (¬ Q) × (¬ R) × S)
    pub accepted : (v ≡ ok) ↔ ((¬ P) × (¬ Q) × (¬ R) × (¬ S))
    pub only : (n : ℕ) → v ≡ no n → (n ≡ 1) ⊎ (n ≡ 24) ⊎ (n ≡ 25) ⊎ (n ≡ 26)

  -- each test tells of its condition, the second one at least where the first is not passed
  pub replies : (a b c d : Bool) → ((a ≡ true) ↔ P) → (a ≡ false → (b ≡ true) ↔ Q) → ((c ≡ true) ↔ R) → ((d ≡ true) ↔ S) → Replies (chain a b c d)
  replies true b c d p q r s =
      let y = p.0 refl in
      record {
        one = (λ e. y, λ w. refl);
        header = (λ e. absurd (omega (arith, same_number 1 24 e)), λ w. absurd (w.0 y));
        offset = (λ e. absurd (omega (arith, same_number 1 25 e)), λ w. absurd (w.0 y));
        unfit = (λ e. absurd (omega (arith, same_number 1 26 e)), λ w. absurd (w.0 y));
        accepted = (λ e. absurd (never_ok 1 e), λ w. absurd (w.0 y));
        only = λ n e. inl (sym (same_number 1 n e));
      }
  replies false true c d p q r s =
      let x : ¬ P = λ w. false≢true (p.1 w) in
      let y = (q refl).0 refl in
      record {
        one = (λ e. absurd (omega (arith, same_number 24 1 e)), λ w. absurd (x w));
        header = (λ e. (x, y), λ w. refl);
        offset = (λ e. absurd (omega (arith, same_number 24 25 e)), λ w. absurd (w.1 y));
        unfit = (λ e. absurd (omega (arith, same_number 24 26 e)), λ w. absurd (w.1 y));
        accepted = (λ e. absurd (never_ok 24 e), λ w. absurd (w.1 y));
        only = λ n e. inr (inl (sym (same_number 24 n e)));
      }
  replies false false true d p q r s =
      let x : ¬ P = λ w. false≢true (p.1 w) in
      let x₁ : ¬ Q = λ w. false≢true ((q refl).1 w) in
      let y = r.0 refl in
      record {
        one = (λ e. absurd (omega (arith, same_number 25 1 e)), λ w. absurd (x w));
        header = (λ e. absurd (omega (arith, same_number 25 24 e)), λ w. absurd (x₁ w.1));
        offset = (λ e. (x, x₁, y), λ w. refl);
        unfit = (λ e. absurd (omega (arith, same_number 25 26 e)), λ w. absurd (w.2 y));
        accepted = (λ e. absurd (never_ok 25 e), λ w. absurd (w.2 y));
        only = λ n e. inr (inr (inl (sym (same_number 25 n e))));
      }
  replies false false false true p q r s =
      let x : ¬ P = λ w. false≢true (p.1 w) in
      let x₁ : ¬ Q = λ w. false≢true ((q refl).1 w) in
      let x₂ : ¬ R = λ w. false≢true (r.1 w) in
      let y = s.0 refl in
      record {
        one = (λ e. absurd (omega (arith, same_number 26 1 e)), λ w. absurd (x w));
        header = (λ e. absurd (omega (arith, same_number 26 24 e)), λ w. absurd (x₁ w.1));
        offset = (λ e. absurd (omega (arith, same_number 26 25 e)), λ w. absurd (x₂ w.2));
        unfit = (λ e. (x, x₁, x₂, y), λ w. refl);
        accepted = (λ e. absurd (never_ok 26 e), λ w. absurd (w.3 y));
        only = λ n e. inr (inr (inr (sym (same_number 26 n e))));
      }
  replies false false false false p q r s =
      let x : ¬ P = λ w. false≢true (p.1 w) in
      let x₁ : ¬ Q = λ w. false≢true ((q refl).1 w) in
      let x₂ : ¬ R = λ w. false≢true (r.1 w) in
      let x₃ : ¬ S = λ w. false≢true (s.1 w) in
      record {
        one = (λ e. absurd (never_ok 1 (sym e)), λ w. absurd (x w));
        header = (λ e. absurd (never_ok 24 (sym e)), λ w. absurd (x₁ w.1));
        offset = (λ e. absurd (never_ok 25 (sym e)), λ w. absurd (x₂ w.2));
        unfit = (λ e. absurd (never_ok 26 (sym e)), λ w. absurd (x₃ w.3));
        accepted = (λ e. (x, x₁, x₂, x₃), λ w. refl);
        only = λ n e. absurd (never_ok n (sym e));
      }

-- ---- a pair that is imported

-- all tests are passed
pub record Passed (N : ℕ) (m : List ℕ) (z : Stamp) (files : Files) : Type 0 where
  pub inside : Inside N (length m) (length files.index_file)
  pub ready : Ready N m z files
  pub agree : differs files ≡ false
  pub fit : unfits files ≡ false

chain_ok : (a b c d : Bool) → chain a b c d ≡ ok → (a ≡ false) × (b ≡ false) × (c ≡ false) × (d ≡ false)
chain_ok true b c d e = absurd (never_ok 1 e)
chain_ok false true c d e = absurd (never_ok 24 e)
chain_ok false false true d e = absurd (never_ok 25 e)
chain_ok false false false true e = absurd (never_ok 26 e)
chain_ok false false false false e = (refl, refl, refl, refl)

module _ (N : ℕ) (m : List ℕ) (z : Stamp) (files : Files) where
  pub passed_iff : (verdict N m z files ≡ ok) ↔ Passed N m z files
  passed_iff = (to, from)
    where
      to : verdict N m z files ≡ ok → Passed N m z files
      to e =
          let index = length files.index_file in
          let t = chain_ok (outside N (length m) index) (unready N m z files) (differs files) (unfits files) (sym (verdict_is N m z files) ∙ e) in
          record {
            inside = (inside_iff N (length m) index).0 t.0;
            ready = (ready_iff N m z files).0 t.1;
            agree = t.2;
            fit = t.3;
          }

      from : Passed N m z files → verdict N m z files ≡ ok
      from p =
          verdict_is N m z files
          ∙ rw (
            (inside_iff N (length m) (length files.index_file)).1 p.inside,
            (ready_iff N m z files).1 p.ready,
            p.agree,
            p.fit,
          )

  pub imported_ok : verdict N m z files ≡ ok
      → imported N m z files ≡ filled 1 (offsets_in (length files.index_file)) (drop header_size files.data_file) m
  unfolding imported if_ok
  imported_ok e = rw e

  pub imported_no : (n : ℕ) → verdict N m z files ≡ no n → imported N m z files ≡ m
  unfolding imported if_ok
  imported_no n e = rw e
