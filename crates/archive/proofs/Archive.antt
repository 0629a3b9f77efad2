-- An export, imported. Document 02, No. 3: "Importing an export restores all places exported". Of the calls themselves: an export that says ok leaves two files
-- which, imported with the same time and key into a medium of wiped places with room for them, give ok and the member's places, byte for byte, up to the lesser
-- of its mark and the acknowledged one. The theorem is `archived`; it joins cluster proofs/Exports `exports` and segment_import proofs/Segments `restores`.
-- Assumes nothing.
use mathlib.Core.Path.{◌≡◌, sym, subst}
use mathlib.Core.List.{List}
use Prim.Native.Nat.{ℕ, ◌*◌, ◌≤◌, min}
use native.Mathlib.Omega.{arith}
use lib.ListN.{length}
use Rattle.octets.specs.Octets.{Bytes}
use Rattle.octets.proofs.Reading.{bytes_part}
use Rattle.fate.specs.declared.Fate.{Fate}
use Rattle.storage.specs.Sizes.{places_limit, medium_size}
use Rattle.storage.specs.Places.{wiped}
use Rattle.storage.specs.Log.{place_at, mark_of}
use Rattle.storage.specs.Operations.{medium_at}
use Rattle.segment.specs.declared.header.Stamp.{Stamp}
use Rattle.segment.specs.Header.{key_size}
use Rattle.segment.specs.Pair.{Files}
use Rattle.segment_import.specs.Import.{imported}
use Rattle.segment_import.proofs.Segments.{Restored, restores}
use Rattle.cluster.specs.declared.Shape.{Shape}
use Rattle.cluster.specs.declared.Call.TheVariants as call
use Rattle.cluster.specs.State.{State, server_at}
use Rattle.cluster.specs.Replies.{ok}
use Rattle.cluster.specs.Refusals.{Input}
use Rattle.cluster.specs.Step.{step, files_after}
use Rattle.cluster.proofs.Exports.{exports}

-- ---- the statement

-- "into a medium that is in no cluster and whose places are all wiped", with room for k places
pub record Wiped (N : ℕ) (m : List ℕ) (k : ℕ) : Type 0 where
  pub least : 1 ≤ N
  pub most : N ≤ places_limit
  pub size : length m ≡ medium_size N
  pub wiped_all : (n : ℕ) → 1 ≤ n → n ≤ N → place_at n m ≡ wiped
  pub room : k ≤ N

abbrev pub Archived : Type 0
Archived =
    (h : Shape) (x : State) (s i : ℕ) (f : Fate) (content locks given : List ℕ) (stamp : Stamp) (lent : Files) (backup values : List ℕ) (N : ℕ) (w : List ℕ)
    → Bytes x.media
    → length stamp.key ≡ key_size
    → (let p : Input = record { call = call.Export s i f; content = content; locks = locks; given = given; stamp = stamp; files = lent; backup = backup } in
    let m = medium_at h.places i x.media in
    let k = min (mark_of h.places m) (server_at x.records s).acked in
    let files = files_after h x p in
    (step h x p).reply ≡ ok values → Wiped N w k → Restored k m N w stamp files (imported N w stamp files))

-- ---- its proof

pub archived : Archived
archived h x s i f content locks given stamp lent backup values N w b key q e =
    let m = medium_at h.places i x.media in
    let k = min (mark_of h.places m) (server_at x.records s).acked in
    let d = exports h x s i f content locks given stamp lent backup values q in
    subst (λ (files : Files). Restored k m N w stamp files (imported N w stamp files)) (sym d.pair)
    (restores h.places k m stamp N w (bytes_part (i * medium_size h.places) (medium_size h.places) x.media b) key (omega arith) e.least e.most e.size e.wiped_all e.room)
