-- An open, answered, of a server whose voters (known and not restored) all stand at one mark and are at least Q: it answers that mark. Where a restored replica
-- stands does not matter: at that mark it is clean too, else it is not counted.
-- Assumes nothing.
use mathlib.Core.Path.{◌≡◌, refl, sym, ap, ◌∙◌}
use mathlib.Core.Bool.{Bool, true, false, not, ◌&&◌, ◌||◌}
use mathlib.Core.Logic.{⊎_elim}
use mathlib.Core.List.{[], ◌∷◌}
use Prim.Native.Nat.{ℕ, suc, ◌+◌, ◌-◌, ◌≤◌, ◌<◌}
use native.Mathlib.Omega.{arith}
use lib.Seq.{get_or-set_same}
use lib.Dec.{eqb, leb, ltb}
use borrow.Author.Tests.{leb-true, ltb-true, le-ltb, lt-ltb, le-leb, eq-eqb, eqb-true, not-false}
use Rattle.base.specs.Below.{bit, count}
use Rattle.base.proofs.Below.{count_le, count_mono}
use Rattle.base.proofs.Same.{count_same}
use Rattle.base.proofs.Tests.{both, neither, either}
use Rattle.fate.specs.declared.Fate.TheVariants.{Answered}
use Rattle.quorum.specs.Vote.{quorum, reach, decided}
use Rattle.quorum.proofs.Reach.{reach_none, majority_is}
use Rattle.cluster.specs.declared.Shape.{Shape}
use Rattle.cluster.specs.declared.Server.{Server}
use Rattle.cluster.specs.declared.Phase.TheVariants.{Open}
use Rattle.cluster.specs.State.{no_server, mark_at, active_at, restored_at, votes_at}
use Rattle.cluster.specs.Replies.{ok}
use Rattle.cluster.specs.Refusals.{replicas_fit, outside, undecided, vote_mark, clean_at, too_few_clean, session_differs, rows_of, pass, first_of}
use Rattle.cluster.specs.Effects.{opened_server, open_effect}
use Rattle.cluster.specs.Step.{unless, step}
use Rattle.recovery.specs.Recovery.{Recovery, Trail, fate_at, one, opening, server_of}
use Rattle.recovery.proofs.Underway.{Underway}

-- ---- R is 1, 3, 5 or 7

pub record Odd (r : ℕ) : Type 0 where
  pub most : r ≤ 7
  pub least : 1 ≤ quorum r
  pub majority : r < quorum r + quorum r

odd : (r : ℕ) → replicas_fit r ≡ true → Odd r
unfolding replicas_fit
odd r e =
    ⊎_elim
    (λ a. ⊎_elim
    (λ b. ⊎_elim (λ c. rw (eqb-true r 1 c) (of 1 refl refl refl)) (λ c. rw (eqb-true r 3 c) (of 3 refl refl refl)) (either (eqb r 1) (eqb r 3) b))
    (λ b. rw (eqb-true r 5 b) (of 5 refl refl refl))
    (either (eqb r 1 || eqb r 3) (eqb r 5) a))
    (λ a. rw (eqb-true r 7 a) (of 7 refl refl refl))
    (either (eqb r 1 || eqb r 3 || eqb r 5) (eqb r 7) e)
  where
    of : (n : ℕ) → leb n 7 ≡ true → leb 1 (quorum n) ≡ true → ltb n (quorum n + quorum n) ≡ true → Odd n
    of n a b c = record { most = leb-true n 7 a; least = leb-true 1 (quorum n) b; majority = ltb-true n (quorum n + quorum n) c }

pub odd_replicas : (h : Shape) (media tables : ℕ) → outside h media tables ≡ false → Odd h.replicas
unfolding outside
odd_replicas h media tables e =
    odd h.replicas (not-false _ (neither _ _ (neither _ _ (neither _ _ (neither _ _ e).0).0).0).0)

-- ---- the vote

module _ (v : Server) (r mark : ℕ) (o : Odd r) (at : (i : ℕ) → i < r → votes_at v i ≡ true → mark_at v i ≡ mark) (many : quorum r ≤ count (votes_at v) r) where
  -- every voter reaches the mark, and none a higher one
  all_reach : reach (votes_at v) (mark_at v) r mark ≡ count (votes_at v) r
  all_reach = count_same r (λ i. votes_at v i && leb mark (mark_at v i)) (votes_at v) (λ i l. go i l (votes_at v i) refl)
    where
      go : (i : ℕ) → i < r → (b : Bool) → votes_at v i ≡ b → (votes_at v i && leb mark (mark_at v i)) ≡ votes_at v i
      go i l true e = rw (e, le-leb mark (mark_at v i) (omega (arith, at i l e)))
      go i l false e = rw e

  none_higher : reach (votes_at v) (mark_at v) r (suc mark) ≡ 0
  none_higher = reach_none (votes_at v) (mark_at v) r (suc mark) (λ i l e. omega (arith, at i l e))

  pub vote_mark_lem : vote_mark r v ≡ mark
  vote_mark_lem = majority_is (votes_at v) (mark_at v) r mark o.least (omega (arith, all_reach, many)) (omega (arith, none_higher, o.least))

  pub is_decided : undecided r v ≡ false
  unfolding decided
  is_decided =
      rw (
        vote_mark_lem,
        none_higher,
        le-leb (quorum r) (count (votes_at v) r) many,
        lt-ltb (0 + (r - count (votes_at v) r)) (quorum r) (omega (arith, many, o.majority, count_le (votes_at v) r)),
      )

  pub are_clean : too_few_clean r v mark ≡ false
  are_clean = le-ltb (count (clean_at v mark) r) (quorum r) (omega (arith, more, many))
    where
      go : (i : ℕ) → i < r → (b : Bool) → votes_at v i ≡ b → bit b ≤ bit (clean_at v mark i)
      go i l true e = rw ((both (active_at v i) (not (restored_at v i)) e).0, eq-eqb (mark_at v i) mark (at i l e)) (omega arith)
      go i l false e = omega arith

      more : count (votes_at v) r ≤ count (clean_at v mark) r
      more = count_mono (votes_at v) (clean_at v mark) r (λ i l. go i l (votes_at v i) refl)

-- ---- the call

module _ (h : Shape) (d : Recovery) (new : ℕ) (t : Trail) (U : Underway h d new t) (mark : ℕ) (o : Odd h.replicas)
    (at : (i : ℕ) → i < h.replicas → votes_at (server_of d t) i ≡ true → mark_at (server_of d t) i ≡ mark)
    (many : quorum h.replicas ≤ count (votes_at (server_of d t)) h.replicas) (ans : fate_at d t.count ≡ Answered) where
  abbrev v : Server
  v = server_of d t

  same_session : session_differs t.state.records.register v ≡ false
  same_session = ap not (eq-eqb t.state.records.register.session v.session (U.register ∙ sym U.session))

  admitted : first_of (rows_of h t.state (opening d t)) ≡ pass
  unfolding first_of
  admitted =
      rw (
        U.steady.inside,
        U.steady.fits,
        le-ltb 3 d.server (omega (arith, U.server)),
        U.phase,
        ans,
        is_decided v h.replicas mark o at many,
        vote_mark_lem v h.replicas mark o at many,
        are_clean v h.replicas mark o at many,
        same_session,
      )

  pub opens : (one h t (opening d t)).reply ≡ ok (mark ∷ [])
  unfolding step unless open_effect
  opens = rw (admitted, ans, vote_mark_lem v h.replicas mark o at many)

  pub is_open_lem : (server_of d (one h t (opening d t))).phase ≡ Open
  unfolding step unless open_effect opened_server
  is_open_lem =
      rw (admitted, ans)
      (ap (λ (u : Server). u.phase)
      (get_or-set_same t.state.records.servers d.server (opened_server h.replicas v (vote_mark h.replicas v)) no_server (omega (arith, U.server, U.servers))))
