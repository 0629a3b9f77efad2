-- The records that a server holds: of which IDs, and what one more makes of them. The newest is the last then, and each of the others lies one place before.
-- Assumes nothing.
use mathlib.Core.Path.{◌≡◌, sym, ap, ◌∙◌}
use mathlib.Core.Bool.{true, ◌&&◌}
use mathlib.Core.List.{List}
use Prim.Native.Nat.{ℕ, suc, ◌+◌, ◌-◌, ◌*◌, ◌≤◌, ◌<◌}
use native.Mathlib.Omega.{arith}
use lib.ListN.{length, take, drop, length-append, length-drop}
use lib.Seq.{drop-drop, drop_at, drop-append-le, take-append-le, take_all}
use lib.Dec.{ltb, leb}
use borrow.Author.Tests.{ltb-true, leb-true, lt-ltb, le-leb}
use borrow.Rule.Slice.PartMut.{put_mid}
use Rattle.base.proofs.Tests.{both}
use Rattle.octets.specs.Octets.{write_at}
use Rattle.octets.proofs.Laws.{mid_write, write_write, write_all}
use Rattle.storage.specs.Sizes.{place_size}
use Rattle.storage.specs.Places.{record_bytes}
use Rattle.cluster.specs.declared.Server.{Server}
use Rattle.cluster.specs.declared.Request.{Request}
use Rattle.cluster.specs.State.{window, held_size, held_at, held_after, holds, record_of}
use Rattle.cluster.specs.Effects.{issued_fields, issued_server}

-- what "held" says of an ID
pub record Within (start issued n : ℕ) : Type 0 where
  pub above : start < n
  pub reached : n ≤ issued
  pub recent : issued < n + window

pub within : (v : Server) (n : ℕ) → holds v n ≡ true → Within v.start v.issued n
within v n e =
    let q = both (ltb v.start n && leb n v.issued) (ltb v.issued (n + window)) e in
    let p = both (ltb v.start n) (leb n v.issued) q.0 in
    record { above = ltb-true v.start n p.0; reached = leb-true n v.issued p.1; recent = ltb-true v.issued (n + window) q.1 }

pub is_within : (v : Server) (n : ℕ) → Within v.start v.issued n → holds v n ≡ true
is_within v n w =
    rw (lt-ltb v.start n w.above, le-leb n v.issued w.reached, lt-ltb v.issued (n + window) w.recent)

module _ (held bytes : List ℕ) (size : length held ≡ held_size) where
  -- all but the oldest
  rest : length (drop place_size held) ≡ held_size - place_size
  rest = length-drop place_size held ∙ ap (λ (k : ℕ). k - place_size) size

  pub older : (j : ℕ) → j + 1 < window → held_at j (held_after held bytes) ≡ held_at (suc j) held
  older j h =
      let others = drop place_size held in
      let up : place_size + j * place_size ≡ suc j * place_size = omega arith in
      ap (λ (l : List ℕ). take place_size l) (drop-append-le (j * place_size) others bytes (omega (arith, rest)))
      ∙ take-append-le place_size (drop (j * place_size) others) bytes (omega (arith, rest, length-drop (j * place_size) others))
      ∙ ap (λ (l : List ℕ). take place_size l) (drop-drop (j * place_size) place_size held ∙ ap (λ (k : ℕ). drop k held) up)

  module _ (full : length bytes ≡ place_size) where
    pub newest : held_at (window - 1) (held_after held bytes) ≡ bytes
    newest =
        ap (λ (l : List ℕ). take place_size l) (drop_at (drop place_size held) bytes (held_size - place_size) rest)
        ∙ take_all place_size bytes (omega (arith, full))

    pub length_held : length (held_after held bytes) ≡ held_size
    length_held = length-append (drop place_size held) bytes ∙ omega (arith, rest, full)

    -- written in place: the others first, the newest behind them
    pub in_place : (others new : List ℕ) → others ≡ drop place_size held → new ≡ bytes
        → put_mid (held_size - place_size) place_size (put_mid 0 (held_size - place_size) held others) new ≡ held_after held bytes
    in_place others new p q =
        let end = held_size - place_size in
        let first = mid_write 0 end held others (drop place_size held) (omega (arith, rest)) p in
        ap (λ (l : List ℕ). put_mid end place_size l new) first
        ∙ mid_write end held_size (write_at 0 (drop place_size held) held) new bytes (omega (arith, full)) q
        ∙ write_write 0 end (drop place_size held) bytes held (omega arith) (omega (arith, rest))
        ∙ write_all (held_after held bytes) held (length_held ∙ sym size)

-- ---- an issue: the record of the next ID is the newest, and whatever else is held was held before

module _ (v : Server) (q : Request) (content : List ℕ) (size : length v.held ≡ held_size) where
  abbrev bytes : List ℕ
  bytes = record_bytes (issued_fields (v.issued + 1) q) content

  abbrev w : Server
  w = issued_server v q content

  pub issued_newest : length bytes ≡ place_size → record_of w (v.issued + 1) ≡ bytes
  issued_newest full =
      let last : window - 1 - (v.issued + 1 - (v.issued + 1)) ≡ window - 1 = omega arith in
      ap (λ (j : ℕ). held_at j w.held) last ∙ newest v.held bytes size full

  pub issued_older : (n : ℕ) → n ≤ v.issued → holds w n ≡ true → (holds v n ≡ true) × (record_of w n ≡ record_of v n)
  issued_older n l e =
      let i = within w n e in
      let j = window - 1 - (v.issued + 1 - n) in
      let up : suc j ≡ window - 1 - (v.issued - n) = omega (arith, i.recent) in (
        is_within v n (record { above = i.above; reached = l; recent = omega (arith, i.recent) }),
        older v.held bytes size j (omega arith) ∙ ap (λ (k : ℕ). held_at k v.held) up,
      )
