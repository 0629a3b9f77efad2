-- Condition 2 for the calls: an open or a trim that passes the refusals before number 8 is declined by 8 exactly if two ways of filling in
-- the absent replicas' marks with 0 to N give different highest marks held by a majority; otherwise open answers, and trim truncates to,
-- the mark that every way gives. Absent are the replicas that don't vote: those that the server doesn't know, and (document 02, No. 10: "counts as absent in the
-- vote") those that were restored when it took its session, known or not and whatever they hold now. The statement comes first, then its proof; the theorems are
-- `open_decides` and `trim_decides`.
-- Assumes nothing.
use mathlib.Core.Path.{◌≡◌, refl, sym, ap, ◌∙◌}
use mathlib.Core.Bool.{Bool, true, false, not, cond, ◌||◌}
use mathlib.Core.Logic.{◌↔◌, ◌⊎◌, inl, inr, ⊎_elim}
use mathlib.Core.List.{List, [], ◌∷◌, ◌++◌}
use Prim.Native.Nat.{ℕ, ◌<◌}
use native.Mathlib.Omega.{arith}
use lib.Dec.{eqb, leb}
use borrow.Author.Tests.{not-true, not-false, eqb-true, leb-true, ltb-false}
use Rattle.base.proofs.Tests.{both, either, neither}
use Rattle.quorum.specs.Vote.{decided}
use Rattle.quorum.proofs.Filling.{EveryFillingGives, FillingsDiffer, ClusterSize, KnownWithin}
use Rattle.quorum.proofs.Decided.{deciding}
use Rattle.fate.specs.declared.Fate.{Fate}
use Rattle.segment.specs.declared.header.Stamp.{Stamp}
use Rattle.segment.specs.Pair.{Files}
use Rattle.cluster.specs.declared.Shape.{Shape}
use Rattle.cluster.specs.declared.Server.{Server}
use Rattle.cluster.specs.declared.Call.TheVariants as call
use Rattle.cluster.specs.State.{State, server_at, mark_at, votes_at}
use Rattle.cluster.specs.Replies.{ok, no, silent}
use Rattle.cluster.specs.Refusals.{Input, replicas_fit, outside, mark_above, no_replica_at, only_opening, is_cut, vote_mark, too_few_clean, nothing_to_trim, session_differs, answered, seen, Row, row, phase_rows, replica_rows, message_rows, received_at, rows_of, pass, first_of}
use Rattle.cluster.specs.Effects.{Result, trim_effect, open_effect}
use Rattle.cluster.specs.Step.{effect, unless, rest, step}
use Rattle.cluster.proofs.Rows.{passed}
use Rattle.cluster.proofs.Marks.{marks_fit}
use Rattle.cluster.proofs.Numbers.{mentions, given_exactly, ok_passes}
use Rattle.cluster.proofs.Declines.{effect_never_no}

-- ---- the statement

-- the replies that the ways of filling in ask for: FillingsDiffer and EveryFillingGives are quorum's (proofs/Filling)
pub record OpenDecides (h : Shape) (x : State) (p : Input) (v : Server) : Type 0 where
  pub undecided : ((step h x p).reply ≡ no 8 []) ↔ FillingsDiffer (votes_at v) (mark_at v) h.replicas h.places
  pub answers :
      (d : ℕ) (values : List ℕ)
      → EveryFillingGives (votes_at v) (mark_at v) h.replicas h.places d
      → (step h x p).reply ≡ ok values
      → values ≡ d ∷ []

pub record TrimDecides (h : Shape) (x : State) (p : Input) (v : Server) (s i : ℕ) (f : Fate) : Type 0 where
  pub undecided : ((step h x p).reply ≡ no 8 []) ↔ FillingsDiffer (votes_at v) (mark_at v) h.replicas h.places
  pub truncates :
      (d : ℕ)
      → EveryFillingGives (votes_at v) (mark_at v) h.replicas h.places d
      → first_of (rows_of h x p) ≡ pass
      → step h x p ≡ trim_effect h.places d x s i f p.given

abbrev pub OpenStatement : Type 0
OpenStatement =
    (h : Shape) (x : State) (s : ℕ) (f : Fate) (content locks given : List ℕ) (stamp : Stamp) (files : Files) (backup : List ℕ)
    → first_of (phase_rows h x s only_opening ++ (row 6 (is_cut f) ∷ [])) ≡ pass
    → OpenDecides h x (record { call = call.Open s f; content = content; locks = locks; given = given; stamp = stamp; files = files; backup = backup }) (server_at x.records s)

abbrev pub TrimStatement : Type 0
TrimStatement =
    (h : Shape) (x : State) (s i : ℕ) (f : Fate) (content locks given : List ℕ) (stamp : Stamp) (files : Files) (backup : List ℕ)
    → first_of (replica_rows h x s (no_replica_at h.replicas i) only_opening ++ message_rows h (server_at x.records s) i f given) ≡ pass
    → TrimDecides h x (record { call = call.Trim s i f; content = content; locks = locks; given = given; stamp = stamp; files = files; backup = backup }) (server_at x.records s) s i f

-- ---- what refusals 1 to 3 leave known

odd : (r : ℕ) → replicas_fit r ≡ true → (r ≡ 1) ⊎ (r ≡ 3) ⊎ (r ≡ 5) ⊎ (r ≡ 7)
unfolding replicas_fit
odd r e =
    ⊎_elim
    (λ a. ⊎_elim (λ b. ⊎_elim (λ c. inl (eqb-true r 1 c)) (λ c. inr (inl (eqb-true r 3 c))) (either (eqb r 1) (eqb r 3) b)) (λ b. inr (inr (inl (eqb-true r 5 b)))) (either (eqb r 1 || eqb r 3) (eqb r 5) a))
    (λ a. inr (inr (inr (eqb-true r 7 a))))
    (either (eqb r 1 || eqb r 3 || eqb r 5) (eqb r 7) e)

size_of : (h : Shape) (media tables : ℕ) → outside h media tables ≡ false → ClusterSize h.replicas h.places
unfolding outside
size_of h media tables e =
    let a = neither _ _ (neither _ _ (neither _ _ (neither _ _ e).0).0).0 in
    let b = both (leb 1 h.places) (leb h.places 1000) (not-false _ a.1) in
    (odd h.replicas (not-false _ a.0), leb-true 1 h.places b.0, leb-true h.places 1000 b.1)

known_of : (h : Shape) (x : State) (s : ℕ) → mark_above h x.records ≡ false → s < 4 → KnownWithin (votes_at (server_at x.records s)) (mark_at (server_at x.records s)) h.replicas h.places
known_of h x s e l i k q = (marks_fit h x.records s l e).marks i k

-- number 8 of a vote that is decided or not, where the rows before it pass
eight : (ws us : List Row) (x : State) (e : Result) (b : Bool) → mentions 8 ws ≡ false → mentions 8 us ≡ false → (e.reply ≡ no 8 [] → ⊥)
    → first_of ws ≡ pass → ((rest (ws ++ (row 8 (not b) ∷ us)) x e).reply ≡ no 8 []) ↔ (b ≡ false)
eight ws us x e b before after never k =
    let g = given_exactly ws (row 8 (not b)) us x e [] before after never in
    (λ r. not-true b (g.0 r).1, λ q. g.1 (k, ap not q, refl))

-- a call that is answered ok was not declined
ok_reply : (ws : List Row) (x : State) (e : Result) (values : List ℕ) → (rest ws x e).reply ≡ ok values → e.reply ≡ ok values
unfolding unless
ok_reply ws x e values q = rw (ok_passes ws x e values q) at q

same_values : (b : Bool) (us vs : List ℕ) → cond b (ok us) silent ≡ ok vs → vs ≡ us
same_values true us vs e = cc
same_values false us vs e = let z : ◌≡◌ {A = ℕ} 0 1 = cc in absurd (omega arith)

flipped : {A B C : Type 0} → (A ↔ B) → (B ↔ C) → A ↔ C
flipped f g = (λ a. g.0 (f.0 a), λ c. f.1 (g.1 c))

-- ---- open and trim

pub open_decides : OpenStatement
unfolding step open_effect mentions
open_decides h x s f content locks given stamp files backup e =
    let p : Input = record { call = call.Open s f; content = content; locks = locks; given = given; stamp = stamp; files = files; backup = backup } in
    let v = server_at x.records s in
    let ws = phase_rows h x s only_opening ++ (row 6 (is_cut f) ∷ []) in
    let us = row 9 (too_few_clean h.replicas v (vote_mark h.replicas v)) ∷ seen f 22 (session_differs x.records.register v) ∷ [] in
    let none = passed ws e in
    let D = deciding (votes_at v) (mark_at v) h.replicas h.places (size_of h _ _ (none 1)) (known_of h x s (none 2) (omega (arith, ltb-false 3 s (none 3)))) in
    record {
      undecided =
          flipped (eight ws us x (effect h x p (call.Open s f)) (decided (votes_at v) (mark_at v) h.replicas) refl refl (effect_never_no h x p 8 []) e) D.undecided;
      answers = λ d values g q.
          same_values (answered f) (vote_mark h.replicas v ∷ []) values (ok_reply (rows_of h x p) x (effect h x p (call.Open s f)) values q)
          ∙ ap (λ (k : ℕ). k ∷ []) (sym (D.only d g));
    }

pub trim_decides : TrimStatement
unfolding step unless mentions
trim_decides h x s i f content locks given stamp files backup e =
    let p : Input = record { call = call.Trim s i f; content = content; locks = locks; given = given; stamp = stamp; files = files; backup = backup } in
    let v = server_at x.records s in
    let ws = replica_rows h x s (no_replica_at h.replicas i) only_opening ++ message_rows h v i f given in
    let us = row 16 (nothing_to_trim (vote_mark h.replicas v) v i) ∷ received_at h.places v i x.media f in
    let none = passed ws e in
    let D = deciding (votes_at v) (mark_at v) h.replicas h.places (size_of h _ _ (none 1)) (known_of h x s (none 2) (omega (arith, ltb-false 3 s (none 3)))) in
    record {
      undecided =
          flipped (eight ws us x (effect h x p (call.Trim s i f)) (decided (votes_at v) (mark_at v) h.replicas) refl refl (effect_never_no h x p 8 []) e) D.undecided;
      truncates = λ d g q. rw q (ap (λ (k : ℕ). trim_effect h.places k x s i f given) (sym (D.only d g)));
    }
