-- What a recovery's own refusals leave known at each stage of it: after the take, before the copies, before the open.
-- Assumes nothing.
use mathlib.Core.Path.{◌≡◌, ap, ◌∙◌}
use mathlib.Core.Bool.{false}
use mathlib.Core.List.{List, [], ◌∷◌}
use Prim.Native.Nat.{ℕ, zero, suc, ◌+◌, ◌*◌, ◌≤◌, ◌<◌, ◌^◌}
use native.Mathlib.Omega.{arith}
use lib.ListN.{length, get_or, length-map}
use Rattle.storage.specs.Sizes.{place_size}
use Rattle.cluster.specs.declared.Shape.{Shape}
use Rattle.cluster.specs.State.{State}
use Rattle.cluster.specs.Refusals.{pass, first_of}
use Rattle.shape_checks.proofs.Sizes.{within}
use Rattle.recovery.specs.Recovery.{Recovery, Trail, one, played, taking, server_of, prepares, highest_known, catching_up, not_below, recovery_rows}
use Rattle.recovery.specs.Asked.{fate_of}
use Rattle.recovery.proofs.Steady.{Steady, steady_take}
use Rattle.recovery.proofs.Own.{own}
use Rattle.recovery.proofs.Listed.{first_below}
use Rattle.recovery.proofs.Bound.{listed_length, steady_prepares}
use Rattle.recovery.proofs.StageCounts.{prepares_count, highest_within, catching_count}
use Rattle.recovery.specs.Asked.{asked_of, Named}

-- 4 by the list's indexes
below_at : (r : ℕ) (l : List ℕ) (k : ℕ) → not_below r l ≡ false → k < length l → get_or l k 0 < r
below_at r [] k e h = absurd (omega arith)
below_at r (i ∷ is) zero e h = (first_below r i is e).0
below_at r (i ∷ is) (suc k) e h = below_at r is k (first_below r i is e).1 (omega arith)

-- what a recovery that isn't declined knows
pub record Known (h : Shape) (x : State) (s : ℕ) (listed fs given : List ℕ) : Type 0 where
  pub steady : Steady h x
  pub beside : length given ≡ length fs * place_size
  pub server : s < 4
  pub below : not_below h.replicas listed ≡ false
  pub named : Named listed

pub known : (h : Shape) (x : State) (s : ℕ) (listed fs given : List ℕ) → first_of (recovery_rows h x (asked_of s listed fs given)) ≡ pass → Known h x s listed fs given
known h x s listed fs given e =
    let a = own h x (asked_of s listed fs given) e in
    let w = within h (length x.media) (length x.tables) a.steady.inside in
    record {
      steady = a.steady;
      beside = a.given ∙ ap (λ (n : ℕ). n * place_size) (length-map fs fate_of);
      server = a.server;
      below = a.below;
      named =
          record {
            few = omega (arith, w.replicas, listed_length h.replicas listed a.once a.below);
            below = λ k l. omega (arith, w.replicas, below_at h.replicas listed k a.below l);
          };
    }

module _ (h : Shape) (d : Recovery) where
  pub after_take_lem : {u : Trail} (t : Trail) → u ≡ one h t (taking d t) → Steady h t.state → Steady h u.state
  after_take_lem t e s = rw e (steady_take h d t s)

  -- u is what the prepares leave, v what the copies leave
  module _ {u : Trail} (t : Trail) (eu : u ≡ played h t (prepares h d t d.listed)) (few : t.count + length d.listed ≤ 8) where
    pub count_prepared : u.count ≤ 8
    count_prepared = omega (arith, prepares_count h d t eu)

    module _ (s : Steady h t.state) (l : d.server < 4) (below : not_below h.replicas d.listed ≡ false) where
      pub mark_prepared : highest_known (server_of d u) d.listed ≤ 1000
      mark_prepared =
          let q : Steady h u.state = rw eu (steady_prepares h d d.listed t s) in
          omega (arith, highest_within h d u q l below, (within h (length u.state.media) (length u.state.tables) q.inside).most)

      pub count_copied : {v : Trail} → v ≡ played h u (catching_up h d u) → length d.listed ≤ 7 → v.count + 1 < 2 ^ 64
      count_copied ev seven = omega (arith, count_prepared, catching_count h d 1000 u mark_prepared ev)
