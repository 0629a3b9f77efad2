-- How many calls are made up to each stage of a recovery, so that a word can count them. z is what is come to.
-- Assumes nothing.
use mathlib.Core.Path.{◌≡◌, ap}
use mathlib.Core.Bool.{false}
use Prim.Native.Nat.{ℕ, ◌+◌, ◌*◌, ◌≤◌, ◌<◌}
use native.Mathlib.Nat.{mul-le-mul_left}
use native.Mathlib.Omega.{arith}
use lib.ListN.{length}
use Rattle.cluster.specs.declared.Shape.{Shape}
use Rattle.cluster.proofs.Marks.{marks_fit}
use Rattle.recovery.specs.Recovery.{Recovery, Trail, played, server_of, prepares, highest_known, first_at, copies_to, catching_up, not_below}
use Rattle.recovery.proofs.Counts.{played_count}
use Rattle.recovery.proofs.Steady.{Steady}
use Rattle.recovery.proofs.Played.{prepares_length}
use Rattle.recovery.proofs.Bound.{highest_le, to_most, all_most}

module _ (h : Shape) (d : Recovery) where
  pub prepares_count : {z : Trail} (t : Trail) → z ≡ played h t (prepares h d t d.listed) → z.count ≡ t.count + length d.listed
  prepares_count t e =
      let ps = prepares h d t d.listed in
      omega (arith, ap (λ (u : Trail). u.count) e, played_count h t ps, prepares_length h d t d.listed)

  pub copies_to_count : (a m b : ℕ) {z : Trail} (t : Trail) → z ≡ played h t (copies_to h d a m b t) → z.count ≤ t.count + m
  copies_to_count a m b t e =
      let ps = copies_to h d a m b t in
      omega (arith, ap (λ (u : Trail). u.count) e, played_count h t ps, to_most h d a m b t)

  -- the mark that is copied up to is at most N
  pub highest_within : (t : Trail) → Steady h t.state → d.server < 4 → not_below h.replicas d.listed ≡ false → highest_known (server_of d t) d.listed ≤ h.places
  highest_within t s l e = highest_le h (server_of d t) d.listed e (marks_fit h t.state.records d.server l s.fits).marks

  -- with that mark at most n
  pub catching_count : (n : ℕ) {z : Trail} (t : Trail) → highest_known (server_of d t) d.listed ≤ n → z ≡ played h t (catching_up h d t) → z.count ≤ t.count + length d.listed * n
  catching_count n t w e =
      let v = server_of d t in
      let m = highest_known v d.listed in
      let ps = catching_up h d t in
      omega (
        arith,
        ap (λ (u : Trail). u.count) e,
        played_count h t ps,
        all_most h d (first_at v m d.listed) m d.listed t,
        mul-le-mul_left {m = m} {n = n} (length d.listed) w,
      )
