-- The register that an open leaves: which entries it sets, and that it is another one than before.
-- Assumes nothing.
use mathlib.Core.Path.{◌≡◌, refl, sym, ap, ◌∙◌}
use mathlib.Core.Bool.{Bool, true, false, not, cond, ◌&&◌}
use Prim.Native.Nat.{ℕ, zero, suc, ◌≤◌, ◌<◌}
use native.Mathlib.Omega.{arith}
use lib.ListN.{length}
use lib.Dec.{eqb}
use borrow.Author.Tests.{eqb-true, eq-eqb}
use Rattle.base.specs.Below.{all}
use Rattle.base.proofs.Tests.{both}
use Rattle.base.proofs.Below.{all_at, up_to_length, up_to_at}
use Rattle.cluster.specs.declared.Closing.{Closing}
use Rattle.cluster.specs.declared.Closing.TheVariants.{Unresolved, Mark, Restored}
use Rattle.protocol.specs.Columns.{upd}
use Rattle.protocol.proofs.Columns.{upd_same, upd_elim}
use Rattle.cluster.specs.declared.Entry.{Entry}
use Rattle.cluster.specs.declared.Register.{Register}
use Rattle.cluster.specs.declared.Server.{Server}
use Rattle.cluster.specs.State.{fresh_entry, entry_at, is_restored}
use Rattle.cluster.specs.Refusals.{vote_mark, clean_at}
use Rattle.cluster.specs.Effects.{closed_at, entry_after, opened_register}
use Rattle.guarantee.specs.Registers.{same_closing, same_entry, changed}
use Rattle.guarantee.proofs.Ties.{is_unresolved, RegisterTie}

-- ================ changed

all_true : (p : ℕ → Bool) → ((i : ℕ) → p i ≡ true) → (n : ℕ) → all p n ≡ true
unfolding all
all_true p h zero = refl
all_true p h (suc n) = rw (all_true p h n, h n)

same_closing_lem : (c : Closing) → same_closing c c ≡ true
same_closing_lem Unresolved = refl
same_closing_lem (Mark c) = eq-eqb c c refl
same_closing_lem Restored = refl

pub unchanged : (g : Register) → changed g g ≡ false
unfolding changed
unchanged g =
    rw (
      eq-eqb g.session g.session refl,
      eq-eqb g.generation g.generation refl,
      all_true (λ i. same_entry (entry_at g.entries i) (entry_at g.entries i))
          (λ i. rw (eq-eqb (entry_at g.entries i).session (entry_at g.entries i).session refl) (same_closing_lem (entry_at g.entries i).closing)) 7,
    )

pub changes : (g k : Register) (i : ℕ) → i < 7 → ((entry_at g.entries i).session ≡ (entry_at k.entries i).session → ⊥) → changed g k ≡ true
unfolding changed
changes g k i l d = go _ refl
  where
    same : ℕ → Bool
    same j = same_entry (entry_at g.entries j) (entry_at k.entries j)

    go : (b : Bool) → (eqb g.session k.session && eqb g.generation k.generation && all same 7) ≡ b
        → not (eqb g.session k.session && eqb g.generation k.generation && all same 7) ≡ true
    go false e = rw e
    go true e =
        let a = all_at same 7 i (both (eqb g.session k.session && eqb g.generation k.generation) (all same 7) e).1 l in
        let e = entry_at g.entries i in
        let f = entry_at k.entries i in
        absurd (d (eqb-true e.session f.session (both (eqb e.session f.session) (same_closing e.closing f.closing) a).0))

-- a register whose session is another one
pub raises : (g k : Register) → (g.session ≡ k.session → ⊥) → changed g k ≡ true
unfolding changed
raises g k d = go _ refl
  where
    same : ℕ → Bool
    same j = same_entry (entry_at g.entries j) (entry_at k.entries j)

    go : (b : Bool) → eqb g.session k.session ≡ b → not (eqb g.session k.session && eqb g.generation k.generation && all same 7) ≡ true
    go false e = rw e
    go true e = absurd (d (eqb-true g.session k.session e))

-- ================ an open's register

module _ (R : ℕ) (g : Register) (v : Server) (le : R ≤ length g.entries) where
  pub entry_after_lem : (i : ℕ) → i < R
      → entry_at (opened_register R g v (vote_mark R v)).entries i ≡ entry_after (entry_at g.entries i) (clean_at v (vote_mark R v) i) v.session (vote_mark R v)
  unfolding opened_register
  entry_after_lem i l =
      up_to_at (λ i. entry_after (entry_at g.entries i) (clean_at v (vote_mark R v) i) v.session (vote_mark R v)) g.entries R i fresh_entry l le

  -- the entries of the clean replicas get the session; no other entry does
  pub entry_set : (i : ℕ) → i < R → clean_at v (vote_mark R v) i ≡ true → (entry_at (opened_register R g v (vote_mark R v)).entries i).session ≡ v.session
  entry_set i l e = ap (λ (x : Entry). x.session) (entry_after_lem i l) ∙ rw e

  pub entry_kept : (i : ℕ) → i < R → clean_at v (vote_mark R v) i ≡ false
      → (entry_at (opened_register R g v (vote_mark R v)).entries i).session ≡ (entry_at g.entries i).session
  entry_kept i l e = ap (λ (x : Entry). x.session) (entry_after_lem i l) ∙ rw e (kept (entry_at g.entries i).closing)
    where
      kept : (c : Closing) → (closed_at (entry_at g.entries i) (vote_mark R v) c).session ≡ (entry_at g.entries i).session
      kept Unresolved = refl
      kept (Mark c) = refl
      kept Restored = refl

  -- ---- its tie: the clean ones are unresolved, and the others that were get the mark

  module _ (session' : ℕ) (unresolved' : ℕ → Bool) (closing' : ℕ → ℕ) (restored' opened : ℕ → Bool)
      (T : RegisterTie R g session' unresolved' closing' restored' opened) (clean : ℕ → Bool) (same : (i : ℕ) → i < R → clean_at v (vote_mark R v) i ≡ clean i) where
    abbrev after : ℕ → Bool → Entry
    after i b = entry_after (entry_at g.entries i) b v.session (vote_mark R v)

    -- a restored one is ordinary if it is clean, and stays restored if not
    restored : (i : ℕ) → i < R → (b : Bool) → is_restored (after i b).closing ≡ (not b && restored' i)
    restored i l true = refl
    restored i l false = go (entry_at g.entries i).closing refl ∙ T.restored i l
      where
        go : (c : Closing) → (entry_at g.entries i).closing ≡ c
            → is_restored (closed_at (entry_at g.entries i) (vote_mark R v) c).closing ≡ is_restored (entry_at g.entries i).closing
        go Unresolved e = rw e
        go (Mark c) e = refl
        go Restored e = refl

    unresolved : (i : ℕ) → i < R → (b : Bool) → is_unresolved (after i b).closing ≡ b
    unresolved i l true = refl
    unresolved i l false = go (entry_at g.entries i).closing refl
      where
        go : (c : Closing) → (entry_at g.entries i).closing ≡ c → is_unresolved (closed_at (entry_at g.entries i) (vote_mark R v) c).closing ≡ false
        go Unresolved e = refl
        go (Mark c) e = rw e
        go Restored e = rw e

    closing : (i c : ℕ) → i < R → (b : Bool) → (after i b).closing ≡ Mark c → cond (unresolved' i) (vote_mark R v) (closing' i) ≡ c
    closing i c l true e = let z : ◌≡◌ {A = ℕ} 0 1 = cc in absurd (omega arith)
    closing i c l false e = go (entry_at g.entries i).closing refl e
      where
        go : (k : Closing) → (entry_at g.entries i).closing ≡ k → (closed_at (entry_at g.entries i) (vote_mark R v) k).closing ≡ Mark c
            → cond (unresolved' i) (vote_mark R v) (closing' i) ≡ c
        go Unresolved q e =
            let r : restored' i ≡ false = sym (T.restored i l) ∙ ap is_restored q in
            let u : unresolved' i ≡ true = sym (T.unresolved i l r) ∙ ap is_unresolved q in
            rw u (let d : vote_mark R v ≡ c = cc (e) in d)
        go (Mark k) q e =
            let r : restored' i ≡ false = sym (T.restored i l) ∙ ap is_restored q in
            let u : unresolved' i ≡ false = sym (T.unresolved i l r) ∙ ap is_unresolved q in
            rw u (T.closing i c l e)
        go Restored q e = let z : ◌≡◌ {A = ℕ} 0 1 = cc in absurd (omega arith)

    entry : (i : ℕ) → i < R → (b : Bool) → upd opened v.session true (after i b).session ≡ true
    entry i l true = upd_same opened v.session true
    entry i l false = go (entry_at g.entries i).closing
      where
        old : upd opened v.session true (entry_at g.entries i).session ≡ true
        old = upd_elim (λ (b : Bool). b ≡ true) opened v.session true (entry_at g.entries i).session (λ e. refl) (λ n. T.entry i l)

        go : (k : Closing) → upd opened v.session true (closed_at (entry_at g.entries i) (vote_mark R v) k).session ≡ true
        go Unresolved = old
        go (Mark k) = old
        go Restored = old

    pub opened_tie : RegisterTie R (opened_register R g v (vote_mark R v)) session' clean (λ i. cond (unresolved' i) (vote_mark R v) (closing' i))
        (λ i. not (clean i) && restored' i) (upd opened v.session true)
    unfolding opened_register
    opened_tie =
        record {
          session = T.session;
          fits = T.fits;
          size = up_to_length (λ i. entry_after (entry_at g.entries i) (clean_at v (vote_mark R v) i) v.session (vote_mark R v)) g.entries R ∙ T.size;
          restored = λ i l. rw (entry_after_lem i l) (restored i l (clean_at v (vote_mark R v) i) ∙ rw (same i l));
          unresolved = λ i l r. rw (entry_after_lem i l) (unresolved i l (clean_at v (vote_mark R v) i) ∙ same i l);
          closing = λ i c l e. closing i c l (clean_at v (vote_mark R v) i) (rw (entry_after_lem i l) at e);
          entry = λ i l. rw (entry_after_lem i l) (entry i l (clean_at v (vote_mark R v) i));
        }
