-- ONE FATE A CALL. Document 02, No. 9: "one of fates, one a call (answered once these run out)": the k-th call that a recovery makes, whatever it is and
-- whatever became of those before it, has the k-th fate of the list and the k-th 72 of the bytes beside it; behind the end of the list it is answered. And it is
-- a take, a prepare, a copy or an open. The statement comes first; the theorem is `one_a_call`.
-- Assumes nothing.
use mathlib.Core.Path.{◌≡◌, refl, subst}
use mathlib.Core.Bool.{Bool, true, false, cond}
use mathlib.Core.List.{List, [], ◌∷◌, ◌++◌}
use Prim.Native.Nat.{ℕ, zero, suc, ◌+◌, ◌*◌, ◌<◌}
use native.Mathlib.Omega.{arith}
use lib.ListN.{length, get_or}
use lib.Dec.{ltb}
use borrow.Author.Tests.{lt-ltb}
use Rattle.octets.specs.Octets.{part}
use Rattle.fate.specs.declared.Fate.TheVariants.{Answered}
use Rattle.storage.specs.Sizes.{place_size}
use Rattle.cluster.specs.declared.Shape.{Shape}
use Rattle.cluster.specs.declared.Call.{Call}
use Rattle.cluster.specs.declared.Call.TheVariants as call
use Rattle.cluster.specs.State.{State, mark_at, active_at}
use Rattle.cluster.specs.Refusals.{Input, Verdict, pass, declined, first_of}
use Rattle.recovery.specs.Recovery.{Recovery, Trail, fate_at, given_at, one, played, taking, preparing, copying, opening, is_ok, server_of, prepares, copies, copies_to, lacks, all_copies, catching_up, after_take, from_take, recovery_rows, begun, unless_declined, calls_of}
use Rattle.recovery.proofs.Counts.{played_count}

-- ---- the statement

-- call k has fate k, and if it writes to a replica the k-th 72 bytes; a recovery makes no other calls than these four
abbrev pub Its : Recovery → ℕ → Call → List ℕ → Type 0
Its d k (call.Take s f) given = f ≡ get_or d.fates k Answered
Its d k (call.Prepare s i f) given = (f ≡ get_or d.fates k Answered) × (k < length d.fates → given ≡ part (k * place_size) place_size d.given)
Its d k (call.Copy s a b f) given = (f ≡ get_or d.fates k Answered) × (k < length d.fates → given ≡ part (k * place_size) place_size d.given)
Its d k (call.Open s f) given = f ≡ get_or d.fates k Answered
Its d k (call.Trim s i f) given = ⊥
Its d k (call.Issue s q) given = ⊥
Its d k (call.Send s i f) given = ⊥
Its d k (call.Note s i f) given = ⊥
Its d k (call.Read s i n f) given = ⊥
Its d k (call.Export s i f) given = ⊥
Its d k (call.Stop s) given = ⊥
Its d k call.Reassign given = ⊥
Its d k (call.Restore i) given = ⊥

abbrev pub OneEach : Recovery → ℕ → List Input → Type 0
OneEach d k [] = Unit {0}
OneEach d k (p ∷ ps) = Its d k p.call p.given × OneEach d (k + 1) ps

abbrev pub OneACall : Type 0
OneACall = (h : Shape) (x : State) (d : Recovery) → OneEach d 0 (calls_of h x d)

-- ---- its proof

each_join : (d : Recovery) (k : ℕ) (ps qs : List Input) → OneEach d k ps → OneEach d (k + length ps) qs → OneEach d k (ps ++ qs)
each_join d k [] qs a b = subst (λ (n : ℕ). OneEach d n qs) (omega arith) b
each_join d k (p ∷ ps) qs a b = (a.0, each_join d (k + 1) ps qs a.1 (subst (λ (n : ℕ). OneEach d n qs) (omega arith) b))

its_fate : (d : Recovery) (k : ℕ) → fate_at d k ≡ get_or d.fates k Answered
unfolding fate_at
its_fate d k = refl

its_bytes : (d : Recovery) (k : ℕ) → k < length d.fates → given_at d k ≡ part (k * place_size) place_size d.given
unfolding given_at
its_bytes d k l = rw (lt-ltb k (length d.fates) l)

module _ (h : Shape) (d : Recovery) where
  each_prepares : (is : List ℕ) (t : Trail) → OneEach d t.count (prepares h d t is)
  unfolding prepares
  each_prepares [] t = tt
  each_prepares (i ∷ is) t = ((its_fate d t.count, its_bytes d t.count), each_prepares is (one h t (preparing d t i)))

  each_copies : (a m b n : ℕ) (t : Trail) → OneEach d t.count (copies h d a m b n t)
  unfolding copies
  each_copies a m b zero t = tt
  each_copies a m b (suc n) t =
      let u = one h t (copying d t a b) in go (ltb (mark_at (server_of d t) b) m) (is_ok u.reply) (each_copies a m b n u)
    where
      go : (below fine : Bool) → let u = one h t (copying d t a b) in OneEach d u.count (copies h d a m b n u)
          → OneEach d t.count (cond below (copying d t a b ∷ cond fine (copies h d a m b n u) []) [])
      go true true r = ((its_fate d t.count, its_bytes d t.count), r)
      go true false r = ((its_fate d t.count, its_bytes d t.count), tt)
      go false fine r = tt

  each_to : (a m b : ℕ) (t : Trail) → OneEach d t.count (copies_to h d a m b t)
  each_to a m b t = go (active_at (server_of d t) b) (each_copies a m b (lacks (server_of d t) m b) t)
    where
      go : (k : Bool) → OneEach d t.count (copies h d a m b (lacks (server_of d t) m b) t)
          → OneEach d t.count (cond k (copies h d a m b (lacks (server_of d t) m b) t) [])
      go true r = r
      go false r = tt

  then : (t : Trail) (ps qs : List Input) → OneEach d t.count ps → OneEach d (played h t ps).count qs → OneEach d t.count (ps ++ qs)
  then t ps qs a b = each_join d t.count ps qs a (subst (λ (n : ℕ). OneEach d n qs) (played_count h t ps) b)

  each_all : (a m : ℕ) (bs : List ℕ) (t : Trail) → OneEach d t.count (all_copies h d a m t bs)
  unfolding all_copies
  each_all a m [] t = tt
  each_all a m (b ∷ bs) t =
      let ps = copies_to h d a m b t in then t ps (all_copies h d a m (played h t ps) bs) (each_to a m b t) (each_all a m bs (played h t ps))

  each_after : (t : Trail) → OneEach d t.count (after_take h d t)
  unfolding after_take
  each_after t =
      let ps = prepares h d t d.listed in
      let u = played h t ps in
      let cs = catching_up h d u in
      let o = opening d (played h u cs) ∷ [] in
      then t ps (cs ++ o) (each_prepares d.listed t)
      (then u cs o (each_all _ _ d.listed u) (its_fate d (played h u cs).count, tt))

  each_from : (t : Trail) → OneEach d t.count (from_take h d t)
  unfolding from_take
  each_from t = (its_fate d t.count, go (is_ok (one h t (taking d t)).reply))
    where
      go : (b : Bool) → OneEach d (t.count + 1) (cond b (after_take h d (one h t (taking d t))) [])
      go true = each_after (one h t (taking d t))
      go false = tt

pub one_a_call : OneACall
unfolding calls_of begun
one_a_call h x d = go (first_of (recovery_rows h x d))
  where
    go : (w : Verdict) → OneEach d 0 (unless_declined w (from_take h d (begun h x d)))
    go pass = each_from h d (begun h x d)
    go (declined n values) = tt
