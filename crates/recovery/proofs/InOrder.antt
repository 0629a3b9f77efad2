-- THE ORDER OF A RECOVERY'S CALLS. Document 02, No. 9: "It takes, prepares in list order, copies each known replica in that order .., from the first that then had
-- it, and opens." Whatever the fates and the replies: a take; a prepare of each listed replica, in the order of the list; copies from one source, to one replica
-- to its end before the next, in the order of the list; one open. The source votes: it is not restored. The statement comes first; the theorem is `in_order`.
-- Which source: `first_source`.
-- Assumes nothing.
use mathlib.Core.Path.{◌≡◌, refl, sym, ap, ap₂, ◌∙◌}
use mathlib.Core.Bool.{Bool, true, false, cond, ◌&&◌}
use mathlib.Core.Logic.{◌⊎◌, inl, inr, ⊎_elim}
use mathlib.Core.List.{List, [], ◌∷◌, ◌++◌, map}
use Prim.Native.Nat.{ℕ, zero, suc}
use native.Mathlib.Omega.{arith}
use lib.ListN.{replicate}
use lib.Dec.{ltb, eqb}
use Rattle.fate.specs.declared.Fate.TheVariants.{Answered}
use Rattle.cluster.specs.declared.Shape.{Shape}
use Rattle.cluster.specs.declared.Server.{Server}
use Rattle.cluster.specs.declared.Call.{Call}
use Rattle.cluster.specs.declared.Call.TheVariants as call
use Rattle.cluster.specs.State.{State, mark_at, active_at, votes_at}
use Rattle.cluster.specs.Refusals.{Input, pass, first_of}
use Rattle.recovery.specs.Recovery.{Recovery, Trail, one, played, preparing, copying, opening, is_ok, server_of, contains, prepares, highest_known, first_at, copies, copies_to, lacks, all_copies, catching_up, after_take, from_take, recovery_rows, calls_of}
use Rattle.recovery.specs.Arrival.{taken, prepared}
use Rattle.recovery.proofs.Listed.{first_in, later_in}
use Rattle.recovery.proofs.Highest.{source_or_none}

-- ---- the statement

-- a call without its fate: those that a recovery makes are named, any other is a reassign
abbrev pub named : Input → Call
named p = go p.call
  where
    go : Call → Call
    go (call.Take s f) = call.Take s Answered
    go (call.Prepare s i f) = call.Prepare s i Answered
    go (call.Copy s a b f) = call.Copy s a b Answered
    go (call.Open s f) = call.Open s Answered
    go (call.Trim s i f) = call.Reassign
    go (call.Issue s q) = call.Reassign
    go (call.Send s i f) = call.Reassign
    go (call.Note s i f) = call.Reassign
    go (call.Read s i n f) = call.Reassign
    go (call.Export s i f) = call.Reassign
    go (call.Stop s) = call.Reassign
    go call.Reassign = call.Reassign
    go (call.Restore i) = call.Reassign

-- so many copies from a to each of a list, one to the end before the next
unfoldable pub runs : ℕ → ℕ → List ℕ → List ℕ → List Call
runs s a [] ns = []
runs s a (b ∷ bs) [] = []
runs s a (b ∷ bs) (n ∷ ns) = replicate n (call.Copy s a b Answered) ++ runs s a bs ns

-- the calls of a recovery that isn't declined: a take alone, if that is without ok; else all of these, with a copy or more, or none, to each listed replica
pub record Ordered (h : Shape) (x : State) (d : Recovery) : Type 0 where
  pub alone : is_ok (taken h x d).reply ≡ false → map named (calls_of h x d) ≡ call.Take d.server Answered ∷ []
  pub source : ℕ
  pub numbers : List ℕ
  pub all : is_ok (taken h x d).reply ≡ true
      → map named (calls_of h x d)
      ≡ call.Take d.server Answered
      ∷ (map (λ i. call.Prepare d.server i Answered) d.listed ++ (runs d.server source d.listed numbers ++ (call.Open d.server Answered ∷ [])))
  -- document 02, No. 10: the driver "copies from none such": the source is known and not restored, or there are no copies
  pub votes : (votes_at (server_of d (prepared h x d)) source ≡ true) ⊎ (runs d.server source d.listed numbers ≡ [])

abbrev pub InOrder : Type 0
InOrder = (h : Shape) (x : State) (d : Recovery) → first_of (recovery_rows h x d) ≡ pass → Ordered h x d

-- ---- its proof

map_join : (ps qs : List Input) → map named (ps ++ qs) ≡ map named ps ++ map named qs
map_join [] qs = refl
map_join (p ∷ ps) qs = ap (λ (l : List Call). named p ∷ l) (map_join ps qs)

module _ (h : Shape) (d : Recovery) where
  named_prepares : (is : List ℕ) (t : Trail) → map named (prepares h d t is) ≡ map (λ i. call.Prepare d.server i Answered) is
  unfolding prepares
  named_prepares [] t = refl
  named_prepares (i ∷ is) t = ap (λ (l : List Call). call.Prepare d.server i Answered ∷ l) (named_prepares is (one h t (preparing d t i)))

  module _ (a m : ℕ) where
    abbrev Run : ℕ → List Input → Type 0
    Run b ps = (n : ℕ) × (map named ps ≡ replicate n (call.Copy d.server a b Answered))

    run_copies : (b n : ℕ) (t : Trail) → Run b (copies h d a m b n t)
    unfolding copies
    run_copies b zero t = (0, refl)
    run_copies b (suc n) t =
        let u = one h t (copying d t a b) in go (ltb (mark_at (server_of d t) b) m) (is_ok u.reply) (run_copies b n u)
      where
        go : (below fine : Bool) → let u = one h t (copying d t a b) in Run b (copies h d a m b n u)
            → Run b (cond below (copying d t a b ∷ cond fine (copies h d a m b n u) []) [])
        go true true (k, e) = (suc k, ap (λ (l : List Call). call.Copy d.server a b Answered ∷ l) e)
        go true false r = (1, refl)
        go false fine r = (0, refl)

    run_to : (b : ℕ) (t : Trail) → Run b (copies_to h d a m b t)
    run_to b t = go (active_at (server_of d t) b) (run_copies b (lacks (server_of d t) m b) t)
      where
        go : (k : Bool) → Run b (copies h d a m b (lacks (server_of d t) m b) t) → Run b (cond k (copies h d a m b (lacks (server_of d t) m b) t) [])
        go true r = r
        go false r = (0, refl)

    run_all : (bs : List ℕ) (t : Trail) → (ns : List ℕ) × (map named (all_copies h d a m t bs) ≡ runs d.server a bs ns)
    unfolding all_copies runs
    run_all [] t = ([], refl)
    run_all (b ∷ bs) t =
        let ps = copies_to h d a m b t in
        let r = run_to b t in
        let rest = run_all bs (played h t ps) in
        (r.0 ∷ rest.0, map_join ps (all_copies h d a m (played h t ps) bs) ∙ ap₂ ◌++◌ r.1 rest.1)

  -- nobody lacks anything of the mark 0
  none_to : (a b : ℕ) (t : Trail) → copies_to h d a 0 b t ≡ []
  unfolding copies
  none_to a b t = let z : lacks (server_of d t) 0 b ≡ 0 = omega arith in rw z (go (active_at (server_of d t) b))
    where
      go : (k : Bool) → cond {A = List Input} k [] [] ≡ []
      go true = refl
      go false = refl

  none_all : (a : ℕ) (bs : List ℕ) (t : Trail) → all_copies h d a 0 t bs ≡ []
  unfolding all_copies played
  none_all a [] t = refl
  none_all a (b ∷ bs) t = rw (none_to a b t) (none_all a bs t)

pub in_order : InOrder
unfolding calls_of from_take after_take
in_order h x d e =
    let t = taken h x d in
    let ps = prepares h d t d.listed in
    let u = played h t ps in
    let v = server_of d u in
    let m = highest_known v d.listed in
    let a = first_at v m d.listed in
    let cs = catching_up h d u in
    let r = run_all h d a m d.listed u in
    let o = opening d (played h u cs) in
    record {
      alone = λ k. rw (e, k);
      source = a;
      numbers = r.0;
      all = λ k. rw (e, k)
          (ap (λ (l : List Call). call.Take d.server Answered ∷ l)
          (map_join ps (cs ++ (o ∷ [])) ∙ ap₂ ◌++◌ (named_prepares h d d.listed t) (map_join cs (o ∷ []) ∙ ap (λ (l : List Call). l ++ (call.Open d.server Answered ∷ [])) r.1)));
      votes = ⊎_elim
          (λ g. inl g.votes)
          (λ z. inr (sym r.1 ∙ ap (λ (n : ℕ). map named (all_copies h d a n u d.listed)) z ∙ ap (map named) (none_all h d a d.listed u)))
          (source_or_none v d.listed);
    }

-- ---- the source

-- "from the first that then had it": whoever stands before it in the list is not known at the mark, or is restored
pub first_source : (v : Server) (m : ℕ) (is js : List ℕ) (a : ℕ) → ((i : ℕ) → contains is i ≡ true → (votes_at v i && eqb (mark_at v i) m) ≡ false)
    → (votes_at v a && eqb (mark_at v a) m) ≡ true → first_at v m (is ++ (a ∷ js)) ≡ a
unfolding first_at
first_source v m [] js a f e = rw e
first_source v m (i ∷ is) js a f e = rw (f i (first_in i is)) (first_source v m is js a (λ k q. f k (later_in i k is q)) e)
