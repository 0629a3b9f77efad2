-- The fresh cluster, with no call yet, is tied to the protocol's fresh state.
-- Assumes nothing.
use mathlib.Core.Path.{◌≡◌, refl, ap, ◌∙◌}
use mathlib.Core.List.{List, ◌++◌}
use mathlib.Core.Option.{none}
use Prim.Native.Nat.{ℕ, zero, suc, ◌+◌, ◌*◌, ◌≤◌, ◌<◌}
use native.Mathlib.Omega.{arith}
use lib.Dec.{lit<}
use lib.ListN.{length, get_or, take, replicate, length-append, length-replicate, get_or-replicate}
use lib.Seq.{take_at, drop-append-add}
use Rattle.octets.specs.Octets.{part}
use Rattle.storage.specs.declared.slot.Slot.{Slot}
use Rattle.storage.specs.Sizes.{medium_size}
use Rattle.storage.specs.Fresh.{fresh_medium}
use Rattle.storage.specs.Operations.{medium_at}
use Rattle.storage.proofs.Fresh.{fresh_medium_lem}
use Rattle.quorum.specs.Vote.{quorum}
use Rattle.protocol.specs.State as protocol
use Rattle.cluster.specs.declared.Shape.{Shape}
use Rattle.cluster.specs.declared.Server.{Server}
use Rattle.cluster.specs.State.{fresh_entry, idle_server, no_server, entry_at, table_size, fresh_media, fresh}
use Rattle.guarantee.specs.History.{beginning}
use Rattle.guarantee.specs.Guarantee.{InRange}
use Rattle.guarantee.proofs.Ties.{Row, copy_of, ReplicaTie, ServerTie, Sim, Past}
use Rattle.guarantee.proofs.Facts.{at_most_seven}

-- ---- media

media_size : (r N : ℕ) → length (fresh_media r N) ≡ r * medium_size N
unfolding fresh_media
media_size zero N = omega arith
media_size (suc r) N =
    length-append (fresh_medium N) (fresh_media r N) ∙ omega (arith, (fresh_medium_lem N).sound.size, media_size r N)

media_at : (r N i : ℕ) → i < r → medium_at N i (fresh_media r N) ≡ fresh_medium N
unfolding fresh_media
media_at zero N i l = absurd (omega arith)
media_at (suc r) N zero l =
    let q : 0 * medium_size N ≡ 0 = omega arith in
    ap (λ (o : ℕ). part o (medium_size N) (fresh_medium N ++ fresh_media r N)) q
    ∙ take_at (fresh_medium N) (fresh_media r N) (medium_size N) (fresh_medium_lem N).sound.size
media_at (suc r) N (suc i) l =
    let q : suc i * medium_size N ≡ length (fresh_medium N) + i * medium_size N = omega (arith, (fresh_medium_lem N).sound.size) in
    ap (λ (o : ℕ). part o (medium_size N) (fresh_medium N ++ fresh_media r N)) q
    ∙ ap (take (medium_size N)) (drop-append-add (fresh_medium N) (fresh_media r N) (i * medium_size N))
    ∙ media_at r N i (omega arith)

replica_tie : (N : ℕ) → ReplicaTie N (fresh_medium N) (λ n. none) (copy_of (protocol.fresh 0 0) 0)
replica_tie N =
    let f = fresh_medium_lem N in
    record {
      sound = f.sound;
      valid = f.valid;
      fitting = rw f.slot (record { promise = lit< tt; low = lit< tt; local = lit< tt });
      promise = ap (λ (x : Slot). x.promise) f.slot;
      mark = f.mark;
      low = ap (λ (x : Slot). x.low) f.slot;
      bytes = λ n lo hi. absurd (omega arith);
      whose = λ n lo hi. absurd (omega arith);
    }

-- ---- servers

server_tie : (R : ℕ) (table : List ℕ) (rows : ℕ → Row) → ServerTie R idle_server table 0 rows
server_tie R table rows =
    record {
      sized = record { known = refl; dropped = refl; marks = refl; held = refl };
      current = λ a. absurd (a refl);
      opening = λ p. let e : ◌≡◌ {A = ℕ} 0 1 = cc in absurd (omega arith);
      serving = λ p. let e : ◌≡◌ {A = ℕ} 0 1 = cc in absurd (omega arith);
    }

idle_at : (s : ℕ) → s < 4 → get_or (replicate 4 idle_server) s no_server ≡ idle_server
idle_at s l = get_or-replicate 4 s idle_server no_server l

-- ---- the register

entry_at_lem : (R i : ℕ) → R ≤ 7 → i < R → entry_at (replicate 7 fresh_entry) i ≡ fresh_entry
entry_at_lem R i h l = get_or-replicate 7 i fresh_entry fresh_entry (omega arith)

pub fresh_tie : (h : Shape) → InRange h
    → Sim h (beginning h).state (beginning h).history (protocol.fresh h.replicas (quorum h.replicas))
unfolding beginning fresh
fresh_tie h r =
    let R = h.replicas in
    let N = h.places in
    let seven = at_most_seven h r in
    record {
      R = refl;
      Q = refl;
      register =
          record {
            session = refl;
            fits = lit< tt;
            size = refl;
            restored = λ i l. rw (entry_at_lem R i seven l);
            unresolved = λ i l u. rw (entry_at_lem R i seven l);
            closing = λ i c l e. let q = rw (entry_at_lem R i seven l) at e in let z : ◌≡◌ {A = ℕ} 0 1 = cc in absurd (omega arith);
            entry = λ i l. rw (entry_at_lem R i seven l);
          };
      replicas = record { size = media_size R N; each = λ i l. rw (media_at R N i l) (replica_tie N) };
      servers =
          record {
            size = refl;
            tables_size = length-replicate {A = ℕ} (4 * table_size) 0;
            each = λ s l. rw (idle_at s l) (server_tie R _ _);
            apart = λ s t l k a. absurd (a (ap (λ (v : Server). v.phase) (idle_at s l)));
          };
      sessions = λ s.
          record {
            opened = λ e. record { start = refl; logged = λ n lo hi. absurd (omega arith); beyond = λ n l. refl; acknowledged = omega arith };
            before = λ e. refl;
          };
    }

-- what the fresh cluster holds may be restored in it; the history has it for the moments that are not reached yet too
pub fresh_past : (h : Shape) → InRange h → Past h (beginning h).history.past (protocol.fresh h.replicas (quorum h.replicas))
unfolding beginning fresh
fresh_past h r k i l =
    record {
      copy = copy_of (protocol.fresh 0 0) 0;
      tie = rw (media_at h.replicas h.places i l) (replica_tie h.places);
      can = record { session = 0; below = omega arith; «open» = refl; within = omega arith; agrees = λ n a b. refl };
    }
