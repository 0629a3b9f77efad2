-- Document 02, No. 8: "Stored ones stay readable, are copied in recovery and exported." Two states that differ only in headers of stored records (and so in
-- the checks over them) and in what servers hold decline the same calls by the same numbers, whichever call it is: `header_blind`. So a call that would go on
-- with a record of another header goes on with one of header 0; StaysAlike.antt says the same of what it then does. Such media there are: a place of any
-- medium can be written with another header (`reheads`). The statements come first, then their proofs.
-- Assumes nothing.
use mathlib.Core.Path.{◌≡◌, refl, sym, ap, ap₂, ◌∙◌}
use mathlib.Core.Bool.{Bool, true, false, not, ◌&&◌, cond}
use mathlib.Core.Logic.{◌⊎◌, inl, inr}
use mathlib.Core.List.{List, [], ◌∷◌}
use Prim.Native.Nat.{ℕ, zero, suc, ◌+◌, ◌*◌, ◌^◌, ◌≤◌, ◌<◌}
use native.Mathlib.Omega.{arith}
use native.Mathlib.Decide.{ℕ_discrete}
use lib.ListN.{length, take, drop, length-take, drop_of_length-le}
use lib.Dec.{eqb}
use Rattle.base.proofs.Tests.{both, lt_or_le}
use Rattle.base.proofs.Same.{all_same}
use Rattle.octets.specs.Octets.{Bytes, write_at}
use Rattle.fate.specs.declared.Fate.{Fate}
use Rattle.storage.specs.declared.place.Fields.{Fields}
use Rattle.storage.specs.declared.slot.Current.{Current}
use Rattle.storage.specs.declared.slot.Current.TheVariants.{First, Second, Neither}
use Rattle.storage.specs.Layout.{number_in, formed}
use Rattle.storage.specs.Sizes.{place_layout, data_limit, slot_size, place_size, medium_size, place_offset}
use Rattle.storage.specs.Places.{place_numbers, record_bytes, size_as, size_of, fields_in, valid_place, Fitting}
use Rattle.storage.specs.Slots.{slot_of, first_of as first_slot, second_of as secondSlot, current_of, held_of, stored_slot}
use Rattle.storage.specs.Log.{place_at, places_from, run, run_by, log_of, mark_of}
use Rattle.storage.specs.Operations.{medium_at}
use Rattle.storage.proofs.Layouts.{record_length}
use Rattle.storage.proofs.Records.{read_back}
use Rattle.storage.proofs.Blocks as blocks
use Rattle.segment.specs.Records.{record_size}
use Rattle.segment.specs.Pair.{Files, records_size}
use Rattle.cluster.specs.declared.Shape.{Shape}
use Rattle.cluster.specs.declared.Server.{Server}
use Rattle.cluster.specs.declared.Call.{Call}
use Rattle.cluster.specs.declared.Call.TheVariants as call
use Rattle.cluster.specs.State.{State, server_at, restored_at}
use Rattle.cluster.specs.Refusals.{Input, entries_fit, server_fits, mark_above, no_slot, promise_above, promise_differs, mark_differs, other_sizes, undecided, vote_mark, too_few_clean, refuses_at, exported_places, received_at, checks_of, list_of, rows_of, first_of}

-- ---- the statements

abbrev pub with_header : Fields → ℕ → Fields
with_header f k =
    record { id = f.id; client = f.client; generation = f.generation; partition = f.partition; sequence = f.sequence; header = k }

-- the records of one ID, request and data under two headers
pub record Reheaded (a b : List ℕ) : Type 0 where
  pub fields : Fields
  pub content : List ℕ
  pub header : ℕ
  pub fitting : Fitting fields
  pub fits : header < 2 ^ 32
  pub short : length content ≤ data_limit
  pub bytes : Bytes content
  pub one : a ≡ record_bytes fields content
  pub other : b ≡ record_bytes (with_header fields header) content

abbrev pub AlikePlace : List ℕ → List ℕ → Type 0
AlikePlace a b = (a ≡ b) ⊎ Reheaded a b

-- of N places: the same slots, and in each place the same bytes or another header
pub record AlikeMedium (N : ℕ) (a b : List ℕ) : Type 0 where
  pub first : first_slot a ≡ first_slot b
  pub second : secondSlot a ≡ secondSlot b
  pub places : (n : ℕ) → 1 ≤ n → n ≤ N → AlikePlace (place_at n a) (place_at n b)

-- a server's record without the bytes that it holds: of which IDs these are is said by the starting and the issued mark
abbrev pub without_held : Server → Server
without_held v =
    record {
      phase = v.phase;
      session = v.session;
      generation = v.generation;
      entries = v.entries;
      known = v.known;
      dropped = v.dropped;
      marks = v.marks;
      start = v.start;
      issued = v.issued;
      acked = v.acked;
      held = [];
    }

-- the same but for headers of stored records, and for what servers hold, which may be any bytes
pub record AlikeState (N : ℕ) (x y : State) : Type 0 where
  pub register : x.records.register ≡ y.records.register
  pub servers : (s : ℕ) → without_held (server_at x.records s) ≡ without_held (server_at y.records s)
  pub size : length x.media ≡ length y.media
  pub media : (i : ℕ) → AlikeMedium N (medium_at N i x.media) (medium_at N i y.media)
  pub tables : x.tables ≡ y.tables

abbrev pub HeaderBlind : Type 0
HeaderBlind = (h : Shape) (x y : State) (p : Input) → AlikeState h.places x y → first_of (rows_of h x p) ≡ first_of (rows_of h y p)

abbrev pub Reheads : Type 0
Reheads =
    (N n : ℕ) (m : List ℕ) (f : Fields) (d : List ℕ) (k : ℕ)
    → length m ≡ medium_size N → 1 ≤ n → n ≤ N
    → Fitting f → k < 2 ^ 32 → length d ≤ data_limit → Bytes d
    → place_at n m ≡ record_bytes f d
    → AlikeMedium N m (write_at (place_offset n) (record_bytes (with_header f k) d) m)

-- ---- a place

and_true : (a b : Bool) → b ≡ true → (a && b) ≡ a
and_true true b e = e
and_true false b e = refl

-- a record is valid in the place of its ID and in no other
valid_as_lem : (n : ℕ) (f : Fields) (d : List ℕ) → Fitting f → length d ≤ data_limit → Bytes d → valid_place n (record_bytes f d) ≡ eqb f.id n
unfolding valid_place fields_in
valid_as_lem n f d w l b =
    let r = read_back f d w l b in
    let s = record_bytes f d in
    let formed-here = formed place_layout (size_as place_layout s) s in
    ap (λ (g : Fields). eqb g.id n && formed-here) r.fields
    ∙ and_true (eqb f.id n) formed-here (both (eqb (number_in place_layout 0 s) f.id) formed-here r.valid).1

module _ (a b : List ℕ) (r : Reheaded a b) where
  fitting_other : Fitting (with_header r.fields r.header)
  fitting_other =
      let w = r.fitting in
      record { id = w.id; client = w.client; generation = w.generation; partition = w.partition; sequence = w.sequence; header = r.fits }

  reheaded_valid : (n : ℕ) → valid_place n a ≡ valid_place n b
  reheaded_valid n =
      ap (valid_place n) r.one
      ∙ valid_as_lem n r.fields r.content r.fitting r.short r.bytes
      ∙ sym (ap (valid_place n) r.other ∙ valid_as_lem n _ r.content fitting_other r.short r.bytes)

  reheaded_size : size_of a ≡ size_of b
  reheaded_size =
      ap size_of r.one
      ∙ (read_back r.fields r.content r.fitting r.short r.bytes).size
      ∙ sym (ap size_of r.other ∙ (read_back _ r.content fitting_other r.short r.bytes).size)

-- ---- a medium

-- a run that goes on or ends here
one_more : (t : Bool) (p q : List ℕ) (ps qs : List (List ℕ)) → length ps ≡ length qs → length (cond t (p ∷ ps) []) ≡ length (cond t (q ∷ qs) [])
one_more true p q ps qs e = ap suc e
one_more false p q ps qs e = refl

module _ (N : ℕ) (a b : List ℕ) (S : AlikeMedium N a b) where
  valid_same : (n : ℕ) → 1 ≤ n → n ≤ N → valid_place n (place_at n a) ≡ valid_place n (place_at n b)
  valid_same n lo hi = go (S.places n lo hi)
    where
      go : AlikePlace (place_at n a) (place_at n b) → valid_place n (place_at n a) ≡ valid_place n (place_at n b)
      go (inl e) = ap (valid_place n) e
      go (inr r) = reheaded_valid _ _ r n

  run_same : (k n : ℕ) → 1 ≤ n → n + k ≤ suc N → length (run n (places_from k n a)) ≡ length (run n (places_from k n b))
  unfolding places_from run_by
  run_same zero n lo hi = refl
  run_same (suc k) n lo hi =
      rw (valid_same n lo (omega arith)) (one_more (valid_place n (place_at n b)) _ _ _ _ (run_same k (n + 1) (omega arith) (omega arith)))

  pub mark_alike : mark_of N a ≡ mark_of N b
  unfolding mark_of log_of
  mark_alike = run_same N 1 (omega arith) (omega arith)

-- above its last place a medium has nothing
above_last : (N i n : ℕ) (media : List ℕ) → N < n → place_at n (medium_at N i media) ≡ []
unfolding place_at
above_last N i n media l =
    let m = medium_at N i media in
    let short : length m ≤ place_offset n = omega (arith, l, length-take (medium_size N) (drop (i * medium_size N) media)) in
    ap (take place_size) (drop_of_length-le m short)

-- medium i of the two
module _ (N i : ℕ) (one other : List ℕ) (S : AlikeMedium N (medium_at N i one) (medium_at N i other)) where
  abbrev here : List ℕ
  here = medium_at N i one

  abbrev there : List ℕ
  there = medium_at N i other

  pub place_alike : (n : ℕ) → 1 ≤ n → AlikePlace (place_at n here) (place_at n there)
  place_alike n l = go (lt_or_le N n)
    where
      go : (N < n) ⊎ (n ≤ N) → AlikePlace (place_at n here) (place_at n there)
      go (inl m) = inl (above_last N i n one m ∙ sym (above_last N i n other m))
      go (inr m) = S.places n l m

  size_same : (n : ℕ) → 1 ≤ n → size_of (place_at n here) ≡ size_of (place_at n there)
  size_same n l = go (place_alike n l)
    where
      go : AlikePlace (place_at n here) (place_at n there) → size_of (place_at n here) ≡ size_of (place_at n there)
      go (inl e) = ap size_of e
      go (inr r) = reheaded_size _ _ r

  mark_same : mark_of N here ≡ mark_of N there
  mark_same = mark_alike N here there S

  count_same : (k n : ℕ) → length (places_from k n here) ≡ length (places_from k n there)
  unfolding places_from
  count_same zero n = refl
  count_same (suc k) n = ap suc (count_same k (n + 1))

  records_same : (k n : ℕ) → 1 ≤ n → records_size (places_from k n here) ≡ records_size (places_from k n there)
  unfolding places_from records_size record_size
  records_same zero n l = refl
  records_same (suc k) n l = rw (size_same n l, records_same k (n + 1) (omega arith))

  pub current_same : current_of here ≡ current_of there
  unfolding current_of
  current_same = rw (S.first, S.second)

  held_same : (c : Current) → held_of c here ≡ held_of c there
  held_same First = ap slot_of S.first
  held_same Second = ap slot_of S.second
  held_same Neither = refl

  pub slot_same : stored_slot here ≡ stored_slot there
  unfolding stored_slot
  slot_same = ap (λ (c : Current). held_of c here) current_same ∙ held_same (current_of there)

  -- ---- what a replica's rows look at

  pub no_slot_lem : no_slot here ≡ no_slot there
  unfolding no_slot
  no_slot_lem = rw current_same

  pub promise_above_lem : (session : ℕ) → promise_above session here ≡ promise_above session there
  unfolding promise_above
  promise_above_lem session = rw slot_same

  pub promise_differs_lem : (session : ℕ) → promise_differs session here ≡ promise_differs session there
  unfolding promise_differs
  promise_differs_lem session = rw slot_same

  pub mark_differs_lem : (recorded : ℕ) → mark_differs N recorded here ≡ mark_differs N recorded there
  unfolding mark_differs
  mark_differs_lem recorded = rw mark_same

  other_sizes_lem : (k : ℕ) (files : Files) → other_sizes (places_from k 1 here) files ≡ other_sizes (places_from k 1 there) files
  unfolding other_sizes
  other_sizes_lem k files = rw (records_same k 1 (omega arith), count_same k 1)

-- ---- a server

-- what the rows look at of a server's record, all but what it holds
record SameFields (v w : Server) : Type 0 where
  pub phase : v.phase ≡ w.phase
  pub session : v.session ≡ w.session
  pub generation : v.generation ≡ w.generation
  pub known : v.known ≡ w.known
  pub dropped : v.dropped ≡ w.dropped
  pub marks : v.marks ≡ w.marks
  pub start : v.start ≡ w.start
  pub issued : v.issued ≡ w.issued
  pub acked : v.acked ≡ w.acked

fields_same : (v w : Server) → without_held v ≡ without_held w → SameFields v w
fields_same v w e =
    record {
      phase = ap (λ (u : Server). u.phase) e;
      session = ap (λ (u : Server). u.session) e;
      generation = ap (λ (u : Server). u.generation) e;
      known = ap (λ (u : Server). u.known) e;
      dropped = ap (λ (u : Server). u.dropped) e;
      marks = ap (λ (u : Server). u.marks) e;
      start = ap (λ (u : Server). u.start) e;
      issued = ap (λ (u : Server). u.issued) e;
      acked = ap (λ (u : Server). u.acked) e;
    }

-- ---- a call

module _ (h : Shape) (x y : State) (p : Input) (S : AlikeState h.places x y) where
  above_same : mark_above h x.records ≡ mark_above h y.records
  unfolding mark_above server_fits
  above_same =
      ap₂ (λ (a b : Bool). not (a && b)) (ap (λ g. entries_fit h g.entries) S.register)
      (all_same 4 (λ s. server_fits h (server_at x.records s)) (λ s. server_fits h (server_at y.records s)) (λ s l. ap (server_fits h) (S.servers s)))

  abbrev SameRows : Call → Type 0
  SameRows c = list_of (checks_of h x p c) ≡ list_of (checks_of h y p c)

  server : (s : ℕ) → SameFields (server_at x.records s) (server_at y.records s)
  server s = fields_same _ _ (S.servers s)

  -- the vote is over the flags and the recorded marks
  abbrev r : ℕ
  r = h.replicas

  undecided_same : (s : ℕ) → undecided r (server_at x.records s) ≡ undecided r (server_at y.records s)
  undecided_same s = ap (undecided r) (S.servers s)

  vote_same : (s : ℕ) → vote_mark r (server_at x.records s) ≡ vote_mark r (server_at y.records s)
  vote_same s = ap (vote_mark r) (S.servers s)

  restored_same : (s i : ℕ) → restored_at (server_at x.records s) i ≡ restored_at (server_at y.records s) i
  restored_same s i = ap (λ (u : Server). restored_at u i) (S.servers s)

  clean_same : (s : ℕ)
      → too_few_clean r (server_at x.records s) (vote_mark r (server_at x.records s)) ≡ too_few_clean r (server_at y.records s) (vote_mark r (server_at y.records s))
  clean_same s = ap (λ (u : Server). too_few_clean r u (vote_mark r u)) (S.servers s)

  -- 18 to 20, of a replica that server s has sent a message to
  received_same : (s i : ℕ) (f : Fate)
      → received_at h.places (server_at x.records s) i x.media f ≡ received_at h.places (server_at y.records s) i y.media f
  received_same s i f =
      let v = server s in
      let m = S.media i in
      rw (v.session, v.marks, no_slot_lem _ _ _ _ m, promise_differs_lem _ _ _ _ m _, mark_differs_lem _ _ _ _ m _)

  refuses_same : (s i : ℕ) → refuses_at h.places (server_at x.records s) x.media i ≡ refuses_at h.places (server_at y.records s) y.media i
  refuses_same s i =
      let v = server s in
      let m = S.media i in
      rw (v.session, v.marks, no_slot_lem _ _ _ _ m, promise_differs_lem _ _ _ _ m _, mark_differs_lem _ _ _ _ m _)

  exported_same : (s i : ℕ)
      → other_sizes (exported_places h.places (server_at x.records s) i x.media) p.files
      ≡ other_sizes (exported_places h.places (server_at y.records s) i y.media) p.files
  exported_same s i = let v = server s in rw (v.marks, v.acked, other_sizes_lem _ _ _ _ (S.media i) _ _)

  rows_same : (c : Call) → SameRows c
  rows_same (call.Take s f) = let v = server s in rw (S.size, S.tables, above_same, v.phase, S.register)
  rows_same (call.Prepare s i f) =
      let v = server s in
      let m = S.media i in
      rw (S.size, S.tables, above_same, v.phase, v.session, no_slot_lem _ _ _ _ m, promise_above_lem _ _ _ _ m _)
  rows_same (call.Copy s a b f) =
      let v = server s in
      rw (received_same s b f, refuses_same s a, restored_same s a, S.size, S.tables, above_same, v.phase, v.known, v.dropped, v.marks)
  rows_same (call.Trim s i f) =
      let v = server s in
      rw (received_same s i f, S.size, S.tables, above_same, v.phase, undecided_same s, vote_same s, v.known, v.dropped, v.marks)
  rows_same (call.Open s f) =
      let v = server s in rw (S.size, S.tables, above_same, v.phase, undecided_same s, clean_same s, v.session, S.register)
  rows_same (call.Issue s q) = let v = server s in rw (S.size, S.tables, above_same, v.phase, v.generation, v.acked, v.issued, v.start)
  rows_same (call.Send s i f) =
      let v = server s in
      rw (received_same s i f, S.size, S.tables, above_same, v.phase, v.known, v.dropped, v.marks, v.start, v.issued)
  rows_same (call.Note s i f) =
      let v = server s in rw (received_same s i f, S.size, S.tables, above_same, v.phase, v.known, v.dropped)
  rows_same (call.Read s i n f) =
      let v = server s in
      rw (received_same s i f, S.size, S.tables, above_same, v.phase, v.known, v.dropped, v.marks, v.acked)
  rows_same (call.Export s i f) =
      let v = server s in
      let m = S.media i in
      rw (S.size, S.tables, above_same, exported_same s i, v.phase, v.known, v.dropped, v.marks, v.session)
      (rw (no_slot_lem _ _ _ _ m, promise_differs_lem _ _ _ _ m _, mark_differs_lem _ _ _ _ m _))
  rows_same (call.Stop s) = rw (S.size, S.tables, above_same)
  rows_same call.Reassign = rw (S.size, S.tables, above_same, S.register)
  rows_same (call.Restore i) = rw (S.size, S.tables, above_same, S.register)

pub header_blind : HeaderBlind
header_blind h x y p S = ap first_of (rows_same h x y p S p.call)

-- ---- a place that gets another header

pub reheads : Reheads
unfolding record_bytes
reheads N n m f d k size lo hi w fits short bytes here =
    let g = with_header f k in
    let new = record_bytes g d in
    let full : length new ≡ place_size = record_length place_layout (place_numbers g (length d)) d refl short in
    record {
      first = sym (blocks.slots_kept N m new size n 0 slot_size lo hi (omega arith));
      second = sym (blocks.slots_kept N m new size n slot_size slot_size lo hi (omega arith));
      places = λ j l u. at j l u (ℕ_discrete j n) full;
    }
  where
    at : (j : ℕ) → 1 ≤ j → j ≤ N → Dec (j ≡ n) → length (record_bytes (with_header f k) d) ≡ place_size
        → AlikePlace (place_at j m) (place_at j (write_at (place_offset n) (record_bytes (with_header f k) d) m))
    at j l u (yes e) full =
        inr
        (record {
          fields = f;
          content = d;
          header = k;
          fitting = w;
          fits = fits;
          short = short;
          bytes = bytes;
          one = ap (λ (i : ℕ). place_at i m) e ∙ here;
          other = ap (λ (i : ℕ). place_at i (write_at (place_offset n) (record_bytes (with_header f k) d) m)) e ∙ blocks.place_same N m _ size n lo hi full;
        })
    at j l u (no ne) full = inl (sym (blocks.place_other N m _ size j n l lo hi full ne))
