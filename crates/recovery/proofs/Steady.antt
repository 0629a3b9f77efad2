-- What passes refusals 1 and 2 still passes them after a take, a prepare or a copy: lengths stay, and every mark that is recorded is one that a medium has.
-- So the calls of a recovery that passed them itself never meet them.
-- Assumes nothing.
use mathlib.Core.Path.{◌≡◌, refl, ap, ◌∙◌, subst⁻¹}
use mathlib.Core.Bool.{Bool, true, false, not, cond, ◌&&◌, ◌||◌}
use mathlib.Core.Logic.{◌⊎◌, inl, inr}
use mathlib.Core.List.{List, [], ◌∷◌, ◌++◌}
use Prim.Native.Nat.{ℕ, zero, suc, ◌+◌, ◌-◌, ◌*◌, ◌≤◌, ◌<◌}
use native.Mathlib.Omega.{arith}
use lib.ListN.{length, get_or, set, take, replicate, length-take}
use lib.Dec.{leb, eqb}
use borrow.Author.Tests.{not-false, leb-true, leb-false, le-leb, ltb-true, ltb-false}
use Rattle.base.specs.Below.{all}
use Rattle.base.proofs.Below.{all_at, highest_ind}
use Rattle.base.proofs.Tests.{both, neither, lt_or_le}
use Rattle.octets.specs.Octets.{write_at}
use Rattle.octets.proofs.Laws.{length_part, length_write}
use Rattle.fate.specs.declared.Fate.{Fate}
use Rattle.fate.specs.declared.Fate.TheVariants.{Answered, Lost, AnswerLost, Cut}
use Rattle.fate.specs.declared.Left.{Left}
use Rattle.fate.specs.declared.Left.TheVariants.{Old, New, Torn}
use Rattle.fate.specs.Fates.{Write, all_of, leave, cut_at, after}
use Rattle.storage.specs.declared.slot.Slot.{Slot}
use Rattle.storage.specs.declared.slot.Current.{Current}
use Rattle.storage.specs.declared.operation.Target.{Target}
use Rattle.storage.specs.declared.operation.Target.TheVariants.{Whole, Mark, LowWater}
use Rattle.storage.specs.Sizes.{place_size, medium_size}
use Rattle.storage.specs.Slots.{current_of, stored_slot}
use Rattle.storage.specs.Log.{place_at, mark_of}
use Rattle.storage.specs.Operations.{slot_write, place_write, wipes, promising, closing, prepare_writes, writes_of, medium_at}
use Rattle.storage.proofs.LogWrites.{length_wiped}
use Rattle.storage.proofs.SlotReadBack.{slot_length}
use Rattle.storage.proofs.Writing.{other_le}
use Rattle.storage.proofs.Scan.{mark_le}
use Rattle.quorum.specs.Vote.{quorum, reach, backed, majority_mark}
use Rattle.cluster.specs.declared.Shape.{Shape}
use Rattle.cluster.specs.declared.Entry.{Entry}
use Rattle.cluster.specs.declared.Register.{Register}
use Rattle.cluster.specs.declared.Server.{Server}
use Rattle.cluster.specs.declared.Records.{Records}
use Rattle.cluster.specs.State.{State, no_server, idle_server, fresh_entry, server_at, entry_at, mark_at, member_at}
use Rattle.cluster.specs.Refusals.{Input, outside, closing_fits, entries_fit, server_fits, mark_above, answered, is_open, session_at_top, refuses_prepare, refuses_at, rows_of, Verdict, pass, declined, first_of}
use Rattle.cluster.specs.Effects.{with_replica, after_message, medium_after, with_medium_and_server, acknowledge, prepare_operation, arrives, raised_session, opening_server, prepare_effect, append_effect, take_effect}
use Rattle.cluster.specs.Step.{effect, unless, step}
use Rattle.cluster.proofs.Rows.{passed}
use Rattle.cluster.proofs.Blocks.{room, block_length}
use Rattle.cluster.proofs.AsStored.{media_size, place_length}
use Rattle.recovery.specs.Recovery.{Recovery, Trail, fate_at, given_at, one, taking, preparing, copying}

-- ---- the statement

-- refusals 1 and 2 are passed
pub record Steady (h : Shape) (x : State) : Type 0 where
  pub inside : outside h (length x.media) (length x.tables) ≡ false
  pub fits : mark_above h x.records ≡ false

-- ---- a medium keeps its length

-- every write lies within n bytes
Within : ℕ → List Write → Type 0
Within n [] = Unit {0}
Within n (w ∷ ws) = (w.at + length w.bytes ≤ n) × Within n ws

within_append : (n : ℕ) (ws us : List Write) → Within n ws → Within n us → Within n (ws ++ us)
unfolding Within
within_append n [] us a b = b
within_append n (w ∷ ws) us a b = (a.0, within_append n ws us a.1 b)

left_length : (l : Left) (given : List ℕ) (w : Write) (m : List ℕ) → w.at + length w.bytes ≤ length m → length (leave l given w m) ≡ length m
unfolding leave
left_length Old given w m e = refl
left_length New given w m e = length_write w.at w.bytes m e
left_length Torn given w m e =
    length_write w.at (take (length w.bytes) given) m (omega (arith, e, length-take (length w.bytes) given))

all_length : (ws : List Write) (m : List ℕ) → Within (length m) ws → length (all_of ws m) ≡ length m
unfolding Within all_of
all_length [] m e = refl
all_length (w ∷ ws) m e =
    let q = length_write w.at w.bytes m e.0 in
    all_length ws (write_at w.at w.bytes m) (subst⁻¹ (λ (n : ℕ). Within n ws) q e.1) ∙ q

cut_length : (k : ℕ) (l : Left) (given : List ℕ) (ws : List Write) (m : List ℕ) → Within (length m) ws → length (cut_at k l given ws m) ≡ length m
unfolding Within cut_at
cut_length k l given [] m e = refl
cut_length zero l given (w ∷ ws) m e = refl
cut_length (suc zero) l given (w ∷ ws) m e = left_length l given w m e.0
cut_length (suc (suc k)) l given (w ∷ ws) m e =
    let q = length_write w.at w.bytes m e.0 in
    cut_length (suc k) l given ws (write_at w.at w.bytes m) (subst⁻¹ (λ (n : ℕ). Within n ws) q e.1) ∙ q

after_length : (f : Fate) (given : List ℕ) (ws : List Write) (m : List ℕ) → Within (length m) ws → length (after f given ws m) ≡ length m
unfolding after
after_length Answered given ws m e = all_length ws m e
after_length Lost given ws m e = refl
after_length AnswerLost given ws m e = all_length ws m e
after_length (Cut k l) given ws m e = cut_length k l given ws m e

wipes_within : (N t d : ℕ) → t + d ≤ N → Within (medium_size N) (wipes t d)
unfolding Within wipes
wipes_within N t zero l = tt
wipes_within N t (suc d) l = (omega (arith, length_wiped), wipes_within N t d (omega arith))

promising_within : (N : ℕ) (c : Current) (x : Slot) (s : ℕ) → Within (medium_size N) (promising c x s)
unfolding Within promising
promising_within N c x s = go (eqb x.promise s)
  where
    go : (b : Bool) → Within (medium_size N) (cond b [] (slot_write c (record { promise = s; low = x.low; local = x.local }) ∷ []))
    go true = tt
    go false = (omega (arith, other_le c, slot_length (record { promise = s; low = x.low; local = x.local })), tt)

truncating_within : (N n t : ℕ) → n ≤ N → Within (medium_size N) (wipes t (n - t))
unfolding Within wipes
truncating_within N n t l = go (lt_or_le n t)
  where
    go : (n < t) ⊎ (t ≤ n) → Within (medium_size N) (wipes t (n - t))
    go (inl k) = let z : n - t ≡ 0 = omega (arith, k) in rw z tt
    go (inr k) = wipes_within N t (n - t) (omega (arith, k, l))

closing_within : (N n low : ℕ) (to : Target) → n ≤ N → Within (medium_size N) (closing n low to)
unfolding Within closing
closing_within N n low Whole l = tt
closing_within N n low (Mark t) l = truncating_within N n t l
closing_within N n low LowWater l = truncating_within N n low l

prepare_within : (N session : ℕ) (to : Target) (m : List ℕ) → Within (medium_size N) (prepare_writes N session to m)
unfolding prepare_writes
prepare_within N session to m =
    within_append (medium_size N) (promising (current_of m) (stored_slot m) session) (closing (mark_of N m) (stored_slot m).low to)
    (promising_within N (current_of m) (stored_slot m) session) (closing_within N (mark_of N m) (stored_slot m).low to (mark_le N m))

append_within : (N n : ℕ) (bs : List ℕ) → n < N → length bs ≡ place_size → Within (medium_size N) (place_write (n + 1) bs ∷ [])
unfolding Within
append_within N n bs l e = (omega (arith, e), tt)

-- a replica's medium after a message, of which a part may have happened
medium_length : (N : ℕ) (b : Bool) (f : Fate) (given : List ℕ) (ws : List Write) (m : List ℕ) → length m ≡ medium_size N → Within (medium_size N) ws
    → length (medium_after b f given ws m) ≡ medium_size N
medium_length N true f given ws m e w = e
medium_length N false f given ws m e w = after_length f given ws m (subst⁻¹ (λ (n : ℕ). Within n ws) e w) ∙ e

pub medium_size_lem : (h : Shape) (i : ℕ) (media : List ℕ) → i < h.replicas → length media ≡ h.replicas * medium_size h.places
    → length (medium_at h.places i media) ≡ medium_size h.places
medium_size_lem h i media l e =
    length_part (i * medium_size h.places) (medium_size h.places) media (room (medium_size h.places) h.replicas i media l e)

-- ---- a server's record keeps within N

all_intro : (p : ℕ → Bool) (n : ℕ) → ((i : ℕ) → i < n → p i ≡ true) → all p n ≡ true
unfolding all
all_intro p zero f = refl
all_intro p (suc n) f = rw (all_intro p n (λ i l. f i (omega arith)), f n (omega arith))

-- an element of a list in which one was replaced
pub set_any : {A : Type 0} (P : A → Type 0) (l : List A) (i j : ℕ) (a d : A) → P (get_or l j d) → P a → P (get_or (set l i a) j d)
set_any P [] i j a d p q = p
set_any P (x ∷ xs) zero zero a d p q = q
set_any P (x ∷ xs) zero (suc j) a d p q = p
set_any P (x ∷ xs) (suc i) zero a d p q = p
set_any P (x ∷ xs) (suc i) (suc j) a d p q = set_any P xs i j a d p q

pub record Fitting (h : Shape) (v : Server) : Type 0 where
  pub entries : entries_fit h v.entries ≡ true
  pub marks : (i : ℕ) → i < h.replicas → mark_at v i ≤ h.places
  pub start : v.start ≤ h.places
  pub issued : v.issued ≤ h.places
  pub acked : v.acked ≤ h.places

fitting : (h : Shape) (v : Server) → server_fits h v ≡ true → Fitting h v
unfolding server_fits
fitting h v e =
    let marks = all (λ i. leb (mark_at v i) h.places) h.replicas in
    let a = both _ (leb v.acked h.places) e in
    let b = both _ (leb v.issued h.places) a.0 in
    let d = both _ (leb v.start h.places) b.0 in
    let m = both (entries_fit h v.entries) marks d.0 in
    record {
      entries = m.0;
      marks = λ i l. leb-true (mark_at v i) h.places (all_at (λ i. leb (mark_at v i) h.places) h.replicas i m.1 l);
      start = leb-true v.start h.places d.1;
      issued = leb-true v.issued h.places b.1;
      acked = leb-true v.acked h.places a.1;
    }

fits_again : (h : Shape) (v : Server) → Fitting h v → server_fits h v ≡ true
unfolding server_fits
fits_again h v f =
    rw (
      f.entries,
      all_intro (λ i. leb (mark_at v i) h.places) h.replicas (λ i l. le-leb (mark_at v i) h.places (f.marks i l)),
      le-leb v.start h.places f.start,
      le-leb v.issued h.places f.issued,
      le-leb v.acked h.places f.acked,
    )

module _ (h : Shape) (v : Server) (f : Fitting h v) where
  with_mark : (i : ℕ) (known dropped : Bool) (mark : ℕ) → mark ≤ h.places → Fitting h (with_replica v i known dropped mark)
  with_mark i known dropped mark l =
      record {
        entries = f.entries;
        marks = λ j k. set_any (λ (n : ℕ). n ≤ h.places) v.marks i j mark 0 (f.marks j k) l;
        start = f.start;
        issued = f.issued;
        acked = f.acked;
      }

  after_message_lem : (a : Fate) (i mark : ℕ) → i < h.replicas → mark ≤ h.places → Fitting h (after_message a v i mark)
  after_message_lem a i mark l k = go (answered a) (is_open v.phase)
    where
      go : (b c : Bool) → Fitting h (cond b (with_replica v i true false mark) (cond c (with_replica v i true true (mark_at v i)) (with_replica v i false false 0)))
      go true c = with_mark i true false mark k
      go false true = with_mark i true true (mark_at v i) (f.marks i l)
      go false false = with_mark i false false 0 (omega arith)

  acknowledged : Fitting h (acknowledge h.replicas v)
  unfolding majority_mark backed
  acknowledged =
      record {
        entries = f.entries;
        marks = f.marks;
        start = f.start;
        issued = f.issued;
        acked = highest_ind (λ (n : ℕ). n ≤ h.places) (backed (member_at v) (mark_at v) h.replicas) h.replicas (omega arith) backing;
      }
    where
      go : (i : ℕ) → i < h.replicas → (b : Bool) → cond b (mark_at v i) 0 ≤ h.places
      go i l true = f.marks i l
      go i l false = omega arith

      backing : (i : ℕ) → i < h.replicas → backed (member_at v) (mark_at v) h.replicas i ≤ h.places
      backing i l = go i l (member_at v i && leb (quorum h.replicas) (reach (member_at v) (mark_at v) h.replicas (mark_at v i)))

-- ---- the records

pub register_fits : (h : Shape) (r : Records) → mark_above h r ≡ false → entries_fit h r.register.entries ≡ true
unfolding mark_above
register_fits h r e = (both (entries_fit h r.register.entries) (all (λ s. server_fits h (server_at r s)) 4) (not-false _ e)).0

pub server_fits_lem : (h : Shape) (r : Records) (s : ℕ) → s < 4 → mark_above h r ≡ false → Fitting h (server_at r s)
unfolding mark_above
server_fits_lem h r s l e =
    let servers = all (λ s. server_fits h (server_at r s)) 4 in
    fitting h (server_at r s) (all_at (λ s. server_fits h (server_at r s)) 4 s (both (entries_fit h r.register.entries) servers (not-false _ e)).1 l)

records_fit : (h : Shape) (r : Records) (g : Register) (s : ℕ) (v : Server) → mark_above h r ≡ false → entries_fit h g.entries ≡ true → Fitting h v
    → mark_above h (record { register = g; servers = set r.servers s v }) ≡ false
unfolding mark_above
records_fit h r g s v e k f =
    rw (
      k,
      all_intro (λ j. server_fits h (get_or (set r.servers s v) j no_server)) 4
          (λ j l. set_any (λ (u : Server). server_fits h u ≡ true) r.servers s j v no_server (fits_again h (server_at r j) (server_fits_lem h r j l e)) (fits_again h v f)),
    )

-- ---- the three calls

-- what holds of the state before a call and, if it passed its list, of what it does, holds after it: a call that is declined leaves the state
pub after_call : (P : State → Type 0) (h : Shape) (x : State) (p : Input) → P x → (first_of (rows_of h x p) ≡ pass → P (effect h x p p.call).state) → P (step h x p).state
unfolding step unless
after_call P h x p s k = go (first_of (rows_of h x p)) refl
  where
    go : (d : Verdict) → first_of (rows_of h x p) ≡ d → P (unless d x (effect h x p p.call)).state
    go pass e = k e
    go (declined n values) e = s

module _ (h : Shape) (x : State) (s : Steady h x) where
  abbrev size : length x.media ≡ h.replicas * medium_size h.places
  size = media_size h (length x.media) (length x.tables) s.inside

  with_medium_lem : (k i : ℕ) (m : List ℕ) (v : Server) → i < h.replicas → length m ≡ medium_size h.places → Fitting h v
      → Steady h (with_medium_and_server h.places x k i m v)
  with_medium_lem k i m v l e f =
      let n = block_length (medium_size h.places) h.replicas i m x.media l e size in
      record {
        inside = subst⁻¹ (λ (z : ℕ). outside h z (length x.tables) ≡ false) n s.inside;
        fits = records_fit h x.records x.records.register k v s.fits (register_fits h x.records s.fits) f;
      }

-- a register that a message may have raised, and the server that it may have handed it to
registered : (h : Shape) (g : Register) → entries_fit h g.entries ≡ true → (b : Bool) → entries_fit h (cond b (raised_session g) g).entries ≡ true
registered h g e true = e
registered h g e false = e

-- equal elements, the default among them
pub equal_at : {A : Type 0} (n i : ℕ) (a : A) → get_or (replicate n a) i a ≡ a
equal_at zero i a = refl
equal_at (suc n) zero a = refl
equal_at (suc n) (suc i) a = equal_at n i a

none_recorded : (i : ℕ) → get_or (replicate {A = ℕ} 7 0) i 0 ≡ 0
none_recorded i = equal_at 7 i 0

handed : (h : Shape) (g : Register) → entries_fit h g.entries ≡ true → entries_fit h idle_server.entries ≡ true → (b : Bool)
    → Fitting h (cond b (opening_server g) idle_server)
handed h g e z true =
    record { entries = e; marks = λ i l. omega (arith, none_recorded i); start = omega arith; issued = omega arith; acked = omega arith }
handed h g e z false =
    record { entries = z; marks = λ i l. omega (arith, none_recorded i); start = omega arith; issued = omega arith; acked = omega arith }

-- the entries of an idle server are unresolved
fresh_entries : (i : ℕ) → entry_at idle_server.entries i ≡ fresh_entry
fresh_entries i = equal_at 7 i fresh_entry

idle_entries : (h : Shape) → entries_fit h idle_server.entries ≡ true
unfolding entries_fit
idle_entries h =
    all_intro (λ i. closing_fits (entry_at idle_server.entries i).closing h.places) h.replicas
    (λ i l. ap (λ (e : Entry). closing_fits e.closing h.places) (fresh_entries i))

pub steady_take : (h : Shape) (d : Recovery) (t : Trail) → Steady h t.state → Steady h (one h t (taking d t)).state
unfolding take_effect
steady_take h d t s =
    let x = t.state in
    let p = taking d t in
    let g = x.records.register in
    let f = fate_at d t.count in
    let e = registered h g (register_fits h x.records s.fits) (arrives f && not (session_at_top g.session)) in
    let g' = cond (arrives f && not (session_at_top g.session)) (raised_session g) g in
    after_call (Steady h) h x p s
    (λ _. record { inside = s.inside; fits = records_fit h x.records g' d.server _ s.fits e (handed h g' e (idle_entries h) (answered f)) })

pub steady_prepare : (h : Shape) (d : Recovery) (t : Trail) (i : ℕ) → Steady h t.state → Steady h (one h t (preparing d t i)).state
unfolding prepare_effect
steady_prepare h d t i s =
    let x = t.state in
    let p = preparing d t i in
    let f = fate_at d t.count in
    let N = h.places in
    let v = server_at x.records d.server in
    let m = medium_at N i x.media in
    let ws = writes_of N [] (prepare_operation v i) m in
    after_call (Steady h) h x p s
    (λ e.
    let none = passed (rows_of h x p) e in
    let named = leb-false h.replicas i (none 4) in
    let long = medium_length N (refuses_prepare v.session m) f (given_at d t.count) ws m (medium_size_lem h i x.media named (size h x s)) (prepare_within N v.session _ m) in
    with_medium_lem h x s d.server i _ _ named long
    (after_message_lem h v (server_fits_lem h x.records d.server (omega (arith, ltb-false 3 d.server (none 3))) s.fits) f i _ named (mark_le N _)))

-- the acknowledged mark of an open server is one of its marks
once_open : (h : Shape) (b : Bool) (v : Server) → Fitting h v → Fitting h (cond b (acknowledge h.replicas v) v)
once_open h true v f = acknowledged h v f
once_open h false v f = f

pub steady_copy : (h : Shape) (d : Recovery) (t : Trail) (a b : ℕ) → Steady h t.state → Steady h (one h t (copying d t a b)).state
unfolding append_effect
steady_copy h d t a b s =
    let x = t.state in
    let p = copying d t a b in
    let f = fate_at d t.count in
    let N = h.places in
    let v = server_at x.records d.server in
    let m = medium_at N b x.media in
    let n = mark_at v b + 1 in
    let bs = place_at n (medium_at N a x.media) in
    after_call (Steady h) h x p s
    (λ e.
    let none = passed (rows_of h x p) e in
    let two = (neither (leb h.replicas a || leb h.replicas b) (eqb a b) (none 4)).0 in
    let named-a = leb-false h.replicas a (neither (leb h.replicas a) (leb h.replicas b) two).0 in
    let named = leb-false h.replicas b (neither (leb h.replicas a) (leb h.replicas b) two).1 in
    let fit = server_fits_lem h x.records d.server (omega (arith, ltb-false 3 d.server (none 3))) s.fits in
    let below : mark_at v b < N = omega (arith, ltb-true (mark_at v b) (mark_at v a) (not-false _ (none 16)), fit.marks a named-a) in
    let full : length bs ≡ place_size = place_length N n (medium_at N a x.media) (medium_size_lem h a x.media named-a (size h x s)) (omega arith) (omega (arith, below)) in
    let long = medium_length N (refuses_at N v x.media b) f (given_at d t.count) (place_write n bs ∷ []) m (medium_size_lem h b x.media named (size h x s)) (append_within N (mark_at v b) bs below full) in
    with_medium_lem h x s d.server b _ _ named long (once_open h (is_open v.phase) _ (after_message_lem h v fit f b _ named (mark_le N _))))
