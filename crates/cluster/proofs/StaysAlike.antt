-- Two states that are the same but for headers of stored records get the same reply to every call and are the same but for such headers after it, whatever fate
-- its message has (`stays_alike`); so they get the same replies to every list of calls (`same_replies`). Such states there are: any stored record can be written
-- with another header (`rewritten`). Document 02, No. 8: "Stored ones stay readable, are copied in recovery and exported": with header 0 a record goes every
-- way that it would go with any other. The statements come first, then their proofs.
-- Assumes nothing.
use mathlib.Core.Path.{◌≡◌, refl, sym, ap₂, subst, ◌∙◌}
use mathlib.Core.Bool.{Bool, true, false, cond, ◌||◌}
use mathlib.Core.Logic.{inl}
use mathlib.Core.List.{List, [], ◌∷◌}
use Prim.Native.Nat.{ℕ, ◌+◌, ◌*◌, ◌^◌, ◌≤◌, ◌<◌}
use native.Mathlib.Omega.{arith}
use native.Mathlib.Decide.{ℕ_discrete}
use lib.ListN.{length}
use lib.Dec.{eqb, leb, ltb}
use borrow.Author.Tests.{not-false, eqb-true, eqb-false, leb-false, ltb-true, ltb-false}
use Rattle.base.proofs.Tests.{neither}
use Rattle.octets.specs.Octets.{Bytes, write_at}
use Rattle.octets.proofs.Laws.{length_part, length_write}
use Rattle.fate.specs.declared.Fate.{Fate}
use Rattle.fate.specs.Fates.{Write}
use Rattle.storage.specs.declared.place.Fields.{Fields}
use Rattle.storage.specs.Sizes.{place_layout, data_limit, place_size, medium_size, place_offset}
use Rattle.storage.specs.Places.{place_numbers, record_bytes, Fitting}
use Rattle.storage.specs.Slots.{current_of, stored_slot}
use Rattle.storage.specs.Log.{place_at, mark_of}
use Rattle.storage.specs.Operations.{medium_at, with_medium, prepare_writes, trim_writes, note_writes}
use Rattle.storage.proofs.Layouts.{record_length}
use Rattle.storage.proofs.Scan.{mark_le}
use Rattle.cluster.specs.declared.Shape.{Shape}
use Rattle.cluster.specs.declared.Records.{Records}
use Rattle.cluster.specs.declared.Server.{Server}
use Rattle.cluster.specs.declared.Call.{Call}
use Rattle.cluster.specs.declared.Call.TheVariants as call
use Rattle.cluster.specs.State.{State, held_size, server_at, entry_at, put_server, mark_at, index_of, record_of}
use Rattle.cluster.specs.Replies.{Reply}
use Rattle.cluster.specs.Refusals.{Input, outside, other_length, answered, refuses_prepare, refuses_at, checks_of, list_of, rows_of, Verdict, pass, declined, first_of}
use Rattle.cluster.specs.Effects.{Result, no_bytes, after_message, medium_after, message, target_of, prepare_effect, trim_effect, note_effect, read_effect, export_effect, append_effect, take_effect, open_effect, issue_effect, stop_effect, reassign_effect, restored_medium, restored_register, restore_effect}
use Rattle.cluster.specs.Step.{effect, unless, step}
use Rattle.cluster.proofs.Blocks.{room, block_length, block_same, block_other}
use Rattle.cluster.proofs.Rows.{passed, condition_of}
use Rattle.cluster.proofs.Marks.{marks_fit}
use Rattle.cluster.proofs.Window.{within}
use Rattle.cluster.proofs.AsStored.{media_size, place_length}
use Rattle.cluster.proofs.Restores.{restored_length}
use Rattle.cluster.proofs.StoredHeaders.{AlikePlace, AlikeMedium, AlikeState, with_header, header_blind, reheads, mark_alike, current_same, slot_same, no_slot_lem, promise_above_lem, promise_differs_lem, mark_differs_lem, place_alike}
use Rattle.cluster.proofs.AlikeMedia.{Pair, AllWrites, after_alike, note_fits, trim_fits, prepare_fits, append_fits}

-- ---- the statements

pub record SameButHeaders (N : ℕ) (x y : State) : Type 0 where
  pub records : x.records ≡ y.records
  pub size : length x.media ≡ length y.media
  pub media : (i : ℕ) → AlikeMedium N (medium_at N i x.media) (medium_at N i y.media)
  pub tables : x.tables ≡ y.tables

-- what a call leaves; the bytes are read's answer
pub record AlikeResult (N : ℕ) (a b : Result) : Type 0 where
  pub reply : a.reply ≡ b.reply
  pub bytes : AlikePlace a.bytes b.bytes
  pub state : SameButHeaders N a.state b.state

-- the calls with a message to a replica: bytes for a torn write lie beside them
abbrev pub messages : Call → Bool
messages (call.Take s f) = false
messages (call.Prepare s i f) = true
messages (call.Copy s a b f) = true
messages (call.Trim s i f) = true
messages (call.Open s f) = false
messages (call.Issue s q) = false
messages (call.Send s i f) = true
messages (call.Note s i f) = true
messages (call.Read s i n f) = true
messages (call.Export s i f) = true
messages (call.Stop s) = false
messages call.Reassign = false
messages (call.Restore i) = false

-- what the types of a running call say of its arguments: "Given bytes are 64", 72 since No. 7, and the eight records that a server holds
pub record Sized (x : State) (p : Input) : Type 0 where
  pub given : messages p.call ≡ true → length p.given ≡ place_size
  pub held : (s : ℕ) → s < 4 → length (server_at x.records s).held ≡ held_size

abbrev pub StaysAlike : Type 0
StaysAlike = (h : Shape) (x y : State) (p : Input) → Sized x p → SameButHeaders h.places x y → AlikeResult h.places (step h x p) (step h y p)

-- the replies to a list of calls, each of which gets the state as the one before left it
unfoldable pub replies : Shape → State → List Input → List Reply
replies h x [] = []
replies h x (p ∷ ps) = (step h x p).reply ∷ replies h (step h x p).state ps

-- all arguments have their sizes, along the list
unfoldable pub AllSized : Shape → State → List Input → Type 0
AllSized h x [] = Unit {0}
AllSized h x (p ∷ ps) = Sized x p × AllSized h (step h x p).state ps

abbrev pub SameReplies : Type 0
SameReplies = (h : Shape) (x y : State) (ps : List Input) → AllSized h x ps → SameButHeaders h.places x y → replies h x ps ≡ replies h y ps

-- such states there are: any stored record can be written with another header
abbrev pub Rewritten : Type 0
Rewritten =
    (N R : ℕ) (x : State) (i n : ℕ) (f : Fields) (d : List ℕ) (k : ℕ)
    → length x.media ≡ R * medium_size N → i < R → 1 ≤ n → n ≤ N
    → Fitting f → k < 2 ^ 32 → length d ≤ data_limit → Bytes d
    → let m = medium_at N i x.media in
    place_at n m ≡ record_bytes f d
    → SameButHeaders N x (record { records = x.records; media = with_medium N i (write_at (place_offset n) (record_bytes (with_header f k) d) m) x.media; tables = x.tables })

-- ---- media with one of them replaced

module _ (h : Shape) (x : State) (media : List ℕ) (p : Input)
    (size : length x.media ≡ length media)
    (S : (i : ℕ) → AlikeMedium h.places (medium_at h.places i x.media) (medium_at h.places i media)) where
  abbrev N : ℕ
  N = h.places

  abbrev R : ℕ
  R = h.replicas

  abbrev y : State
  y = record { records = x.records; media = media; tables = x.tables }

  -- nothing but the records and tables is changed, alike in both
  still : (r : Records) (t : List ℕ) → SameButHeaders N (record { records = r; media = x.media; tables = t }) (record { records = r; media = media; tables = t })
  still r t = record { records = refl; size = size; media = S; tables = refl }

  -- 1
  sizes : outside h (length x.media) (length x.tables) ≡ false → length x.media ≡ R * medium_size N
  sizes e = media_size h (length x.media) (length x.tables) e

  -- replica i's medium is replaced, alike in both, and the records are the same
  module _ (i : ℕ) (fits : length x.media ≡ R * medium_size N) (named : i < R) where
    put : (m' n' : List ℕ) → Pair N m' n' → (r : Records)
        → SameButHeaders N
        (record { records = r; media = with_medium N i m' x.media; tables = x.tables })
        (record { records = r; media = with_medium N i n' media; tables = x.tables })
    put m' n' P r =
        record {
          records = refl;
          size =
              block_length (medium_size N) R i m' x.media named P.one fits ∙ size
              ∙ sym (block_length (medium_size N) R i n' media named P.other (sym size ∙ fits));
          media = λ j. go j (ℕ_discrete i j);
          tables = refl;
        }
      where
        go : (j : ℕ) → Dec (i ≡ j) → AlikeMedium N (medium_at N j (with_medium N i m' x.media)) (medium_at N j (with_medium N i n' media))
        go j (yes e) =
            rw (← e)
            (rw (
              block_same (medium_size N) R i m' x.media named P.one fits,
              block_same (medium_size N) R i n' media named P.other (sym size ∙ fits),
            ) P.alike)
        go j (no d) =
            rw (
              block_other (medium_size N) R i m' x.media named P.one fits j d,
              block_other (medium_size N) R i n' media named P.other (sym size ∙ fits) j d,
            ) (S j)

  module _ (s i : ℕ) (given : length p.given ≡ place_size) (fits : length x.media ≡ R * medium_size N) (named : i < R) where
    abbrev v : Server
    v = server_at x.records s

    abbrev m : List ℕ
    m = medium_at N i x.media

    abbrev n : List ℕ
    n = medium_at N i media

    pair : Pair N m n
    pair =
        record {
          alike = S i;
          one = length_part (i * medium_size N) (medium_size N) x.media (room (medium_size N) R i x.media named fits);
          other = length_part (i * medium_size N) (medium_size N) media (room (medium_size N) R i media named (sym size ∙ fits));
        }

    -- a replica declines in both or in neither
    after_both : (d e : Bool) → d ≡ e → (f : Fate) (ws us : List Write) → AllWrites N ws us
        → Pair N (medium_after d f p.given ws m) (medium_after e f p.given us n)
    after_both d e q f ws us a = rw q (go e)
      where
        go : (e : Bool) → Pair N (medium_after e f p.given ws m) (medium_after e f p.given us n)
        go true = pair
        go false = after_alike N p.given given f ws us m n a pair

    messaged : (f : Fate) (m' n' : List ℕ) → Pair N m' n' → AlikeResult N (message N x s i f m') (message N y s i f n')
    messaged f m' n' P =
        rw (mark_alike N m' n' P.alike)
        (record { reply = refl; bytes = inl refl; state = put i fits named m' n' P (put_server x.records s (after_message f v i (mark_of N n'))) })

    mark_both : mark_of N m ≡ mark_of N n
    mark_both = mark_alike N m n (S i)

    refuses_both : refuses_at N v x.media i ≡ refuses_at N v media i
    refuses_both =
        rw (no_slot_lem N i x.media media (S i), promise_differs_lem N i x.media media (S i) v.session, mark_differs_lem N i x.media media (S i) (mark_at v i))

    refuses_prepare_lem : refuses_prepare v.session m ≡ refuses_prepare v.session n
    refuses_prepare_lem = rw (no_slot_lem N i x.media media (S i), promise_above_lem N i x.media media (S i) v.session)

    -- ---- the calls with a message to replica i

    prepares : (f : Fate) → AlikeResult N (prepare_effect N x s i f p.given) (prepare_effect N y s i f p.given)
    unfolding prepare_effect prepare_writes
    prepares f =
        let to = target_of (entry_at v.entries i).closing in
        let both : AllWrites N (prepare_writes N v.session to m) (prepare_writes N v.session to n) =
        rw (current_same N i x.media media (S i), slot_same N i x.media media (S i), mark_both)
        (prepare_fits N (current_of n) (stored_slot n) v.session (mark_of N n) to (mark_le N n)) in
        messaged f _ _ (after_both _ _ refuses_prepare_lem f _ _ both)

    trims : (d : ℕ) (f : Fate) → AlikeResult N (trim_effect N d x s i f p.given) (trim_effect N d y s i f p.given)
    unfolding trim_effect trim_writes
    trims d f =
        let both : AllWrites N (trim_writes N d m) (trim_writes N d n) = rw mark_both (trim_fits N (mark_of N n) d (mark_le N n)) in
        messaged f _ _ (after_both _ _ refuses_both f _ _ both)

    notes : (f : Fate) → AlikeResult N (note_effect N x s i f p.given) (note_effect N y s i f p.given)
    unfolding note_effect note_writes
    notes f =
        let both : AllWrites N (note_writes v.start (mark_at v i) m) (note_writes v.start (mark_at v i) n) =
        rw (current_same N i x.media media (S i), slot_same N i x.media media (S i)) (note_fits N (current_of n) _) in
        messaged f _ _ (after_both _ _ refuses_both f _ _ both)

    appends : (bs cs : List ℕ) (f : Fate) → AlikePlace bs cs → length bs ≡ place_size → length cs ≡ place_size → mark_at v i < N
        → AlikeResult N (append_effect R N x s i bs f p.given) (append_effect R N y s i cs f p.given)
    unfolding append_effect
    appends bs cs f e fb fc l =
        let P = after_both _ _ refuses_both f _ _ (append_fits N (mark_at v i) bs cs l e fb fc) in
        rw (mark_alike N _ _ P.alike) (record { reply = refl; bytes = inl refl; state = put i fits named _ _ P _ })

    reads : (k : ℕ) (f : Fate) → 1 ≤ k → AlikeResult N (read_effect N x s i k f) (read_effect N y s i k f)
    unfolding read_effect
    reads k f l =
        rw mark_both (record { reply = refl; bytes = go (answered f); state = still _ _ })
      where
        go : (t : Bool) → AlikePlace (cond t (place_at k m) no_bytes) (cond t (place_at k n) no_bytes)
        go true = place_alike N i x.media media (S i) k l
        go false = inl refl

    exports : (f : Fate) → AlikeResult N (export_effect N x s i f) (export_effect N y s i f)
    unfolding export_effect
    exports f = rw mark_both (record { reply = refl; bytes = inl refl; state = still _ _ })

  -- ---- every call that is not declined

  module _ (held : (s : ℕ) → s < 4 → length (server_at x.records s).held ≡ held_size) where
    effects : (c : Call) → (messages c ≡ true → length p.given ≡ place_size) → ((k : ℕ) → condition_of k (list_of (checks_of h x p c)) ≡ false)
        → AlikeResult N (effect h x p c) (effect h y p c)
    unfolding take_effect open_effect issue_effect stop_effect reassign_effect restore_effect other_length
    effects (call.Take s f) given none = record { reply = refl; bytes = inl refl; state = still _ _ }
    effects (call.Prepare s i f) given none = prepares s i (given refl) (sizes (none 1)) (leb-false R i (none 4)) f
    effects (call.Copy s a b f) given none =
        let v = server_at x.records s in
        let fits = sizes (none 1) in
        let two = (neither (leb R a || leb R b) (eqb a b) (none 4)).0 in
        let named-a = leb-false R a (neither (leb R a) (leb R b) two).0 in
        let named-b = leb-false R b (neither (leb R a) (leb R b) two).1 in
        let most = (marks_fit h x.records s (omega (arith, ltb-false 3 s (none 3))) (none 2)).marks a named-a in
        let below = ltb-true (mark_at v b) (mark_at v a) (not-false _ (none 16)) in
        let P = pair s a (given refl) fits named-a in
        let k = mark_at v b + 1 in
        appends s b (given refl) fits named-b _ _ f ((S a).places k (omega arith) (omega (arith, most, below)))
        (place_length N k _ P.one (omega arith) (omega (arith, most, below)))
        (place_length N k _ P.other (omega arith) (omega (arith, most, below)))
        (omega (arith, most, below))
    effects (call.Trim s i f) given none = trims s i (given refl) (sizes (none 1)) (leb-false R i (none 4)) _ f
    effects (call.Open s f) given none = record { reply = refl; bytes = inl refl; state = still _ _ }
    effects (call.Issue s q) given none = record { reply = refl; bytes = inl refl; state = still _ _ }
    effects (call.Send s i f) given none =
        let v = server_at x.records s in
        let server : s < 4 = omega (arith, ltb-false 3 s (none 3)) in
        let most = (marks_fit h x.records s server (none 2)).issued in
        let is = within v (mark_at v i + 1) (not-false _ (none 16)) in
        let full : length (record_of v (mark_at v i + 1)) ≡ place_size =
        length_part (index_of v.issued (mark_at v i + 1) * place_size) place_size v.held (omega (arith, held s server)) in
        appends s i (given refl) (sizes (none 1)) (leb-false R i (none 4)) _ _ f (inl refl) full full (omega (arith, most, is.reached))
    effects (call.Note s i f) given none = notes s i (given refl) (sizes (none 1)) (leb-false R i (none 4)) f
    effects (call.Read s i k f) given none =
        let v = server_at x.records s in
        let some = (neither (eqb k 0 || ltb (mark_at v i) k) (ltb v.acked k) (none 16)).0 in
        let above = eqb-false k 0 (neither (eqb k 0) (ltb (mark_at v i) k) some).0 in
        reads s i (given refl) (sizes (none 1)) (leb-false R i (none 4)) k f (omega (arith, above))
    effects (call.Export s i f) given none = exports s i (given refl) (sizes (none 1)) (leb-false R i (none 4)) f
    effects (call.Stop s) given none = record { reply = refl; bytes = inl refl; state = still _ _ }
    effects call.Reassign given none = record { reply = refl; bytes = inl refl; state = still _ _ }
    effects (call.Restore i) given none =
        let g = restored_register x.records.register i in
        let m = restored_medium g.session p.backup in
        let one = neither (outside h (length x.media) (length x.tables)) (other_length N p.backup) (none 1) in
        let l : length m ≡ medium_size N = restored_length N g.session p.backup (eqb-true _ _ (not-false _ one.1)) in
        let P : Pair N m m = record { alike = record { first = refl; second = refl; places = λ n a b. inl refl }; one = l; other = l } in
        record { reply = refl; bytes = inl refl; state = put i (sizes one.0) (leb-false R i (none 4)) m m P _ }

    alike : AlikeState N x y
    alike = record { register = refl; servers = λ s. refl; size = size; media = S; tables = refl }

    stepped : (messages p.call ≡ true → length p.given ≡ place_size) → AlikeResult N (step h x p) (step h y p)
    unfolding step unless
    stepped given = go (first_of (rows_of h x p)) refl (header_blind h x y p alike)
      where
        go : (d : Verdict) → first_of (rows_of h x p) ≡ d → first_of (rows_of h x p) ≡ first_of (rows_of h y p)
            → AlikeResult N (unless (first_of (rows_of h x p)) x (effect h x p p.call)) (unless (first_of (rows_of h y p)) y (effect h y p p.call))
        go pass e q = rw (← q, e) (effects p.call given (passed (rows_of h x p) e))
        go (declined k values) e q = rw (← q, e) (record { reply = refl; bytes = inl refl; state = still _ _ })

-- ---- the theorems

pub stays_alike : StaysAlike
stays_alike h x y p sized S =
    let same : record { records = x.records; media = y.media; tables = x.tables } ≡ y = rw (S.records, S.tables) in
    subst (λ (z : State). AlikeResult h.places (step h x p) (step h z p)) same (stepped h x y.media p S.size S.media sized.held sized.given)

pub same_replies : SameReplies
unfolding replies AllSized
same_replies h x y [] sized S = refl
same_replies h x y (p ∷ ps) sized S =
    let r = stays_alike h x y p sized.0 S in
    ap₂ (λ (r : Reply) (rs : List Reply). r ∷ rs) r.reply (same_replies h (step h x p).state (step h y p).state ps sized.1 r.state)

-- ---- one place of one medium with another header

module _ (N R : ℕ) (x : State) (i n : ℕ) (f : Fields) (d : List ℕ) (k : ℕ) (size : length x.media ≡ R * medium_size N) (named : i < R) (lo : 1 ≤ n) (hi : n ≤ N)
    (w : Fitting f) (fits : k < 2 ^ 32) (short : length d ≤ data_limit) (bytes : Bytes d) (stored : place_at n (medium_at N i x.media) ≡ record_bytes f d) where
  abbrev old : List ℕ
  old = medium_at N i x.media

  abbrev new : List ℕ
  new = write_at (place_offset n) (record_bytes (with_header f k) d) old

  old_size : length old ≡ medium_size N
  old_size = length_part (i * medium_size N) (medium_size N) x.media (room (medium_size N) R i x.media named size)

  record_size_lem : length (record_bytes (with_header f k) d) ≡ place_size
  unfolding record_bytes
  record_size_lem = record_length place_layout (place_numbers (with_header f k) (length d)) d refl short

  new_size : length new ≡ medium_size N
  new_size = length_write (place_offset n) (record_bytes (with_header f k) d) old (omega (arith, old_size, record_size_lem, lo, hi)) ∙ old_size

  medium_alike : (j : ℕ) → Dec (i ≡ j) → AlikeMedium N (medium_at N j x.media) (medium_at N j (with_medium N i new x.media))
  medium_alike j (yes e) =
      rw (← e) (rw (block_same (medium_size N) R i new x.media named new_size size) (reheads N n old f d k old_size lo hi w fits short bytes stored))
  medium_alike j (no ne) =
      rw (block_other (medium_size N) R i new x.media named new_size size j ne) (record { first = refl; second = refl; places = λ q l u. inl refl })

  one_rewritten : SameButHeaders N x (record { records = x.records; media = with_medium N i new x.media; tables = x.tables })
  one_rewritten =
      record {
        records = refl;
        size = sym (block_length (medium_size N) R i new x.media named new_size size);
        media = λ j. medium_alike j (ℕ_discrete i j);
        tables = refl;
      }

pub rewritten : Rewritten
rewritten = one_rewritten
