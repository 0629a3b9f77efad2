-- The calls of a recovery, whatever state it finds: their arguments fit, none opens a session but an open by its server, which is the last, and none is a
-- restore (`calls_fit`).
-- Assumes nothing.
use mathlib.Core.Path.{◌≡◌, refl, sym, ap}
use mathlib.Core.Logic.{◌⊎◌, inl, inr}
use mathlib.Core.Bool.{Bool, true, false, cond, true≢false}
use mathlib.Core.List.{List, [], ◌∷◌, ◌++◌, append_assoc}
use Prim.Native.Nat.{ℕ, zero, suc, ◌*◌}
use native.Mathlib.Omega.{arith}
use lib.ListN.{length, length-replicate}
use lib.Dec.{ltb}
use borrow.Author.Tests.{ltb-true}
use Rattle.octets.specs.Octets.{part}
use Rattle.octets.proofs.Laws.{length_part}
use Rattle.fate.specs.declared.Fate.{Fate}
use Rattle.storage.specs.Sizes.{place_size}
use Rattle.cluster.specs.declared.Shape.{Shape}
use Rattle.cluster.specs.declared.Call.TheVariants as call
use Rattle.cluster.specs.State.{State, active_at, mark_at}
use Rattle.cluster.specs.Refusals.{Input, Verdict, pass, declined, first_of}
use Rattle.cluster.specs.Effects.{no_bytes}
use Rattle.recovery.specs.Recovery.{Recovery, Trail, one, played, given_at, bare, taking, preparing, copying, opening, is_ok, server_of, prepares, copies, lacks, copies_to, all_copies, catching_up, after_take, from_take, recovery_rows, begun, calls_of}
use Rattle.recovery.proofs.Own.{own}
use Rattle.guarantee.specs.Guarantee.{Fits}

-- ================ what is shown

-- its arguments fit, and it is neither an open nor a restore
pub record Quiet (p : Input) : Type 0 where
  pub fits : Fits p
  pub no_open : (s : ℕ) (f : Fate) → p.call ≡ call.Open s f → ⊥
  pub no_restore : (i : ℕ) → p.call ≡ call.Restore i → ⊥

abbrev pub AllQuiet : List Input → Type 0
AllQuiet [] = Unit {0}
AllQuiet (p ∷ ps) = Quiet p × AllQuiet ps

-- calls of which the last is an open by the recovery's server
pub record Ending (d : Recovery) (ps : List Input) : Type 0 where
  pub before : List Input
  pub fate : Fate
  pub quiet : AllQuiet before
  pub all : ps ≡ before ++ (bare (call.Open d.server fate) [] ∷ [])

abbrev pub CallsFit : Type 0
CallsFit = (h : Shape) (x : State) (d : Recovery) → AllQuiet (calls_of h x d) ⊎ Ending d (calls_of h x d)

-- ================ one call

quiet_take : (s : ℕ) (f : Fate) → Quiet (bare (call.Take s f) [])
quiet_take s f =
    record {
      fits =
          record {
            given = λ m. absurd (true≢false (sym m));
            content = tt;
            request = λ t q e. let z : ◌≡◌ {A = ℕ} 0 1 = cc in absurd (omega arith);
          };
      no_open = λ t g e. let z : ◌≡◌ {A = ℕ} 0 1 = cc in omega arith;
      no_restore = λ j e. let z : ◌≡◌ {A = ℕ} 0 1 = cc in omega arith;
    }

quiet_prepare : (s i : ℕ) (f : Fate) (given : List ℕ) → length given ≡ place_size → Quiet (bare (call.Prepare s i f) given)
quiet_prepare s i f given l =
    record {
      fits = record { given = λ m. l; content = tt; request = λ t q e. let z : ◌≡◌ {A = ℕ} 0 1 = cc in absurd (omega arith) };
      no_open = λ t g e. let z : ◌≡◌ {A = ℕ} 0 1 = cc in omega arith;
      no_restore = λ j e. let z : ◌≡◌ {A = ℕ} 0 1 = cc in omega arith;
    }

quiet_copy : (s a b : ℕ) (f : Fate) (given : List ℕ) → length given ≡ place_size → Quiet (bare (call.Copy s a b f) given)
quiet_copy s a b f given l =
    record {
      fits = record { given = λ m. l; content = tt; request = λ t q e. let z : ◌≡◌ {A = ℕ} 0 1 = cc in absurd (omega arith) };
      no_open = λ t g e. let z : ◌≡◌ {A = ℕ} 0 1 = cc in omega arith;
      no_restore = λ j e. let z : ◌≡◌ {A = ℕ} 0 1 = cc in omega arith;
    }

pub open_fits : (s : ℕ) (f : Fate) → Fits (bare (call.Open s f) [])
open_fits s f =
    record {
      given = λ m. absurd (true≢false (sym m));
      content = tt;
      request = λ t q e. let z : ◌≡◌ {A = ℕ} 0 1 = cc in absurd (omega arith);
    }

-- ================ lists of calls

quiet_then : (ps qs : List Input) → AllQuiet ps → AllQuiet qs → AllQuiet (ps ++ qs)
quiet_then [] qs a b = b
quiet_then (p ∷ ps) qs a b = (a.0, quiet_then ps qs a.1 b)

quiet_if : (b : Bool) (ps : List Input) → AllQuiet ps → AllQuiet (cond b ps [])
quiet_if true ps a = a
quiet_if false ps a = tt

-- the given bytes are 72 for each fate, so there are 72 beside each call
given_fits : (d : Recovery) → length d.given ≡ length d.fates * place_size → (k : ℕ) → length (given_at d k) ≡ place_size
unfolding given_at
given_fits d e k = go (ltb k (length d.fates)) refl
  where
    go : (b : Bool) → ltb k (length d.fates) ≡ b → length (cond b (part (k * place_size) place_size d.given) no_bytes) ≡ place_size
    go true l =
        let m = ltb-true k (length d.fates) l in
        length_part (k * place_size) place_size d.given (omega (arith, e, m))
    go false l = length-replicate {A = ℕ} place_size 0

module _ (h : Shape) (d : Recovery) (fit : length d.given ≡ length d.fates * place_size) where
  quiet_prepares : (t : Trail) (is : List ℕ) → AllQuiet (prepares h d t is)
  unfolding prepares
  quiet_prepares t [] = tt
  quiet_prepares t (i ∷ is) = (quiet_prepare d.server i _ _ (given_fits d fit t.count), quiet_prepares (one h t (preparing d t i)) is)

  quiet_copies : (a m b turns : ℕ) (t : Trail) → AllQuiet (copies h d a m b turns t)
  unfolding copies
  quiet_copies a m b zero t = tt
  quiet_copies a m b (suc turns) t =
      let p = copying d t a b in
      quiet_if (ltb (mark_at (server_of d t) b) m) _ (
        quiet_copy d.server a b _ _ (given_fits d fit t.count),
        quiet_if (is_ok (one h t p).reply) _ (quiet_copies a m b turns (one h t p)),
      )

  quiet_all : (a m : ℕ) (t : Trail) (bs : List ℕ) → AllQuiet (all_copies h d a m t bs)
  unfolding all_copies
  quiet_all a m t [] = tt
  quiet_all a m t (b ∷ bs) =
      let ps = copies_to h d a m b t in
      quiet_then ps _ (quiet_if (active_at (server_of d t) b) _ (quiet_copies a m b (lacks (server_of d t) m b) t)) (quiet_all a m (played h t ps) bs)

  -- a take that is without ok, or a take, prepares, copies and an open
  from_take_lem : (t : Trail) → AllQuiet (from_take h d t) ⊎ Ending d (from_take h d t)
  unfolding from_take after_take
  from_take_lem t = go (taking d t) (quiet_take d.server _) (one h t (taking d t)) (is_ok (one h t (taking d t)).reply)
    where
      go : (p : Input) → Quiet p → (t' : Trail) (b : Bool)
          → AllQuiet (p ∷ cond b (after_take h d t') []) ⊎ Ending d (p ∷ cond b (after_take h d t') [])
      go p taken t' false = inl (taken, tt)
      go p taken t' true =
          let ps = prepares h d t' d.listed in
          let t'' = played h t' ps in
          let cs = catching_up h d t'' in
          inr
          (record {
            before = p ∷ (ps ++ cs);
            fate = _;
            quiet = (taken, quiet_then ps cs (quiet_prepares t' d.listed) (quiet_all _ _ t'' d.listed));
            all = ap (λ (l : List Input). p ∷ l) (sym (append_assoc ps cs (opening d (played h t'' cs) ∷ [])));
          })

-- ================ all of them

pub calls_fit : CallsFit
unfolding calls_of
calls_fit h x d = go (first_of (recovery_rows h x d)) refl
  where
    go : (v : Verdict) → first_of (recovery_rows h x d) ≡ v → AllQuiet (calls_of h x d) ⊎ Ending d (calls_of h x d)
    go (declined n values) e = rw e (inl tt)
    go pass e = rw e (from_take_lem h d (own h x d e).given (begun h x d))
