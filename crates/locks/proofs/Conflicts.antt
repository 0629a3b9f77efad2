-- Which requests a lock table refuses, said without the search through their locks. A request is granted exactly if none of its locks has an estimate
-- above the client's mark (`granted_exactly`); and the lock given with a refusal is the first in the request's order that has one (`held_exactly`).
-- Document 02, No. 2: "Refusal 15 is given only if an estimate is above the client's mark"; document 01: "the first such lock and its estimate are given".
-- The statements come first, then their proofs.
-- Assumes nothing.
use mathlib.Core.Path.{◌≡◌, refl, sym, ap, ◌∙◌}
use mathlib.Core.Bool.{Bool, true, false}
use mathlib.Core.Logic.{◌↔◌, ⊎_elim}
use mathlib.Core.List.Memᴰ
use mathlib.Core.List.{List, [], ◌∷◌, ◌++◌, Memᴰ}
use Prim.Native.Nat.{ℕ, ◌≤◌, ◌<◌}
use native.Mathlib.Omega.{arith}
use borrow.Author.Tests.{ltb-true, ltb-false, lt-ltb, le-ltb}
use Rattle.std.specs.Prelude.{Some, None}
use Rattle.std.proofs.lemmas.Option.{same_Some}
use Rattle.locks.specs.declared.HeldLock.{HeldLock}
use Rattle.locks.specs.Locks.{estimate_of, conflict, held_lock, first_held}

-- ---- the statements

-- no lock of the request has an estimate above the client's mark
abbrev pub NoneAbove : List ℕ → List ℕ → ℕ → Type 0
NoneAbove table ks client = (k : ℕ) → Memᴰ k ks → estimate_of table k ≤ client

-- k is the first lock of the request with an estimate above the client's mark, and e is that estimate
pub record FirstAbove (table ks : List ℕ) (client k e : ℕ) : Type 0 where
  pub before : List ℕ
  pub behind : List ℕ
  pub request : ks ≡ before ++ (k ∷ behind)
  pub passed : NoneAbove table before client
  pub estimate : e ≡ estimate_of table k
  pub above : client < e

abbrev pub GrantedExactly : Type 0
GrantedExactly = (table ks : List ℕ) (client : ℕ) → (first_held table ks client ≡ None) ↔ NoneAbove table ks client

abbrev pub HeldExactly : Type 0
HeldExactly = (table ks : List ℕ) (client k e : ℕ) → (first_held table ks client ≡ Some (held_lock k e)) ↔ FirstAbove table ks client k e

-- ---- their proofs

-- the comparison: all that is used of it
conflict_above : (estimate client : ℕ) → (conflict estimate client ≡ true) ↔ (client < estimate)
conflict_above estimate client = (ltb-true client estimate, lt-ltb client estimate)

no_conflict_above : (estimate client : ℕ) → (conflict estimate client ≡ false) ↔ (estimate ≤ client)
no_conflict_above estimate client = (ltb-false client estimate, le-ltb client estimate)

module _ (table : List ℕ) (client : ℕ) where
  passes : (ks : List ℕ) → first_held table ks client ≡ None → NoneAbove table ks client
  unfolding first_held
  passes [] f k m = absurd (Memᴰ.not-nil m)
  passes (h ∷ ks) f k m = go (conflict (estimate_of table h) client) refl (passes ks)
    where
      go :
          (b : Bool)
          → conflict (estimate_of table h) client ≡ b
          → (first_held table ks client ≡ None → NoneAbove table ks client)
          → estimate_of table k ≤ client
      go true c more = absurd (let g = rw c at f in let w : ◌≡◌ {A = ℕ} 0 1 = cc in omega arith)
      go false c more = ⊎_elim (λ (q : k ≡ h). rw q ((no_conflict_above (estimate_of table h) client).0 c)) (more (rw c at f) k) (Memᴰ.cases_cons m)

  grants : (ks : List ℕ) → NoneAbove table ks client → first_held table ks client ≡ None
  unfolding first_held
  grants [] n = refl
  grants (h ∷ ks) n = rw ((no_conflict_above (estimate_of table h) client).1 (n h (Memᴰ.head refl))) (grants ks (λ k m. n k (Memᴰ.tail m)))

  refuses : (ks : List ℕ) (k e : ℕ) → first_held table ks client ≡ Some (held_lock k e) → FirstAbove table ks client k e
  unfolding first_held
  refuses [] k e f = absurd (let w : ◌≡◌ {A = ℕ} 0 1 = cc in omega arith)
  refuses (h ∷ ks) k e f = go (conflict (estimate_of table h) client) refl (refuses ks k e)
    where
      go :
          (b : Bool)
          → conflict (estimate_of table h) client ≡ b
          → (first_held table ks client ≡ Some (held_lock k e) → FirstAbove table ks client k e)
          → FirstAbove table (h ∷ ks) client k e
      go true c more =
          let g = rw c at f in
          let lock : h ≡ k = ap (λ (x : HeldLock). x.lock) (same_Some _ _ g) in
          let estimate : estimate_of table h ≡ e = ap (λ (x : HeldLock). x.estimate) (same_Some _ _ g) in
          record {
            before = [];
            behind = ks;
            request = ap (λ (j : ℕ). j ∷ ks) lock;
            passed = λ j m. absurd (Memᴰ.not-nil m);
            estimate = sym estimate ∙ ap (estimate_of table) lock;
            above = omega (arith, estimate, (conflict_above (estimate_of table h) client).0 c);
          }
      go false c more =
          let r = more (rw c at f) in
          record {
            before = h ∷ r.before;
            behind = r.behind;
            request = ap (λ (js : List ℕ). h ∷ js) r.request;
            passed = λ j m. ⊎_elim (λ (q : j ≡ h). rw q ((no_conflict_above (estimate_of table h) client).0 c)) (r.passed j) (Memᴰ.cases_cons m);
            estimate = r.estimate;
            above = r.above;
          }

  finds :
      (before behind : List ℕ) (k : ℕ)
      → NoneAbove table before client
      → client < estimate_of table k
      → first_held table (before ++ (k ∷ behind)) client ≡ Some (held_lock k (estimate_of table k))
  unfolding first_held
  finds [] behind k n l = rw ((conflict_above (estimate_of table k) client).1 l)
  finds (h ∷ before) behind k n l =
      rw ((no_conflict_above (estimate_of table h) client).1 (n h (Memᴰ.head refl))) (finds before behind k (λ j m. n j (Memᴰ.tail m)) l)

pub granted_exactly : GrantedExactly
granted_exactly table ks client = (passes table client ks, grants table client ks)

pub held_exactly : HeldExactly
held_exactly table ks client k e = (
  refuses table client ks k e,
  λ r. rw (r.request, r.estimate) (finds table client r.before r.behind k r.passed (omega (arith, r.estimate, r.above))),
)
