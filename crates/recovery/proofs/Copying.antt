-- A copy from one good replica that is not restored to another that is below it, answered: that one has one record more, and both are good still. Then the copies
-- of one replica, and those of all; a replica above the mark, which a restored one may be, gets none.
-- Assumes nothing.
use mathlib.Core.Path.{◌≡◌, refl, sym, ap, ap₂, ◌∙◌, subst, subst⁻¹}
use mathlib.Core.Bool.{true, false, not, cond, false≢true}
use mathlib.Core.Logic.{◌⊎◌, inl, inr, ⊎_elim}
use mathlib.Core.List.{List, [], ◌∷◌}
use Prim.Native.Nat.{ℕ, zero, suc, ◌+◌, ◌*◌, ◌≤◌, ◌<◌, max}
use native.Mathlib.Omega.{arith}
use native.Mathlib.Decide.{ℕ_discrete}
use lib.ListN.{length, length-append}
use borrow.Author.Tests.{le-ltb, lt-ltb, lt-leb, eq-eqb, ne_eqb}
use Rattle.fate.specs.declared.Fate.TheVariants.{Answered}
use Rattle.fate.specs.Fates.{all_of, after}
use Rattle.fate.specs.Numbered.{effect_of}
use Rattle.storage.specs.declared.slot.Slot.{Slot}
use Rattle.storage.specs.declared.slot.Current.{Current}
use Rattle.storage.specs.declared.slot.Current.TheVariants.{First, Second, Neither}
use Rattle.storage.specs.Sizes.{place_size, medium_size}
use Rattle.storage.specs.Places.{valid_place, wiped}
use Rattle.storage.specs.Slots.{current_of, stored_slot, HasSlot}
use Rattle.storage.specs.Log.{place_at, log_of, mark_of}
use Rattle.storage.specs.Operations.{append_writes, medium_at}
use Rattle.storage.proofs.Scan.{mark_le, log_valid}
use Rattle.storage.proofs.Truncating.{mark_is}
use Rattle.storage.proofs.Promises.{Appended, appends}
use Rattle.cluster.specs.declared.Shape.{Shape}
use Rattle.cluster.specs.declared.Entry.{Entry}
use Rattle.cluster.specs.declared.Server.{Server}
use Rattle.cluster.specs.State.{State, entry_at, mark_at, active_at, is_restored, restored_at}
use Rattle.cluster.specs.Replies.{ok}
use Rattle.cluster.specs.Refusals.{Input, is_neither, no_slot, promise_differs, mark_differs, rows_of, pass, first_of}
use Rattle.cluster.specs.Effects.{with_replica, with_medium_and_server, append_effect}
use Rattle.cluster.specs.Step.{unless, step}
use Rattle.cluster.proofs.AsStored.{media_size, place_length}
use Rattle.recovery.specs.Recovery.{Recovery, Trail, fate_at, one, played, copying, is_ok, server_of, copies, lacks, copies_to, all_copies, contains, repeats, not_below}
use Rattle.recovery.specs.Arrival.{lacking}
use Rattle.recovery.proofs.Steady.{steady_copy, medium_size_lem}
use Rattle.recovery.proofs.Counts.{played_more, played_join}
use Rattle.recovery.proofs.Listed.{first_unique, first_below, first_in, later_in, not_first, in_either, differs}
use Rattle.recovery.proofs.Underway.{Underway, Good, Same, same_state, same_then, still_good, heard_underway, heard_other, heard_now, heard_good}
use Rattle.recovery.proofs.Staying.{entries_copy, entries_copies}
use Rattle.recovery.proofs.Preparing.{harmless}

-- ---- a good replica does not decline

pub slot_there : (m : List ℕ) → HasSlot m → no_slot m ≡ false
unfolding no_slot
slot_there m e = go (current_of m) refl
  where
    go : (c : Current) → current_of m ≡ c → is_neither c ≡ false
    go First q = refl
    go Second q = refl
    go Neither q = absurd (e q)

module _ (h : Shape) (d : Recovery) (new : ℕ) (t : Trail) (U : Underway h d new t) (i : ℕ) (g : Good h d new t i) where
  abbrev good_medium : List ℕ
  good_medium = medium_at h.places i t.state.media

  good_promise : promise_differs (server_of d t).session good_medium ≡ false
  unfolding promise_differs
  good_promise = ap not (eq-eqb (stored_slot good_medium).promise (server_of d t).session (g.promise ∙ sym U.session))

  good_mark : mark_differs h.places (mark_at (server_of d t) i) good_medium ≡ false
  unfolding mark_differs
  good_mark = ap not (eq-eqb (mark_of h.places good_medium) (mark_at (server_of d t) i) g.mark)

-- ---- one copy

module _ (h : Shape) (d : Recovery) (new : ℕ) (seven : h.replicas ≤ 7) (t : Trail) (U : Underway h d new t) (a b : ℕ)
    (la : a < h.replicas) (lb : b < h.replicas) (ga : Good h d new t a) (gb : Good h d new t b)
    (below : mark_at (server_of d t) b < mark_at (server_of d t) a) (fit : restored_at (server_of d t) a ≡ false) (ans : fate_at d t.count ≡ Answered) where
  abbrev x : State
  x = t.state

  abbrev N : ℕ
  N = h.places

  abbrev v : Server
  v = server_of d t

  abbrev m : List ℕ
  m = medium_at N b x.media

  abbrev u : Trail
  u = one h t (copying d t a b)

  apart : a ≡ b → ⊥
  apart e = let q : mark_at v b ≡ mark_at v a = ap (mark_at v) (sym e) in omega (arith, below, q)

  admitted : first_of (rows_of h x (copying d t a b)) ≡ pass
  unfolding first_of
  admitted =
      rw (
        U.steady.inside,
        U.steady.fits,
        le-ltb 3 d.server (omega (arith, U.server)),
        lt-leb h.replicas a la,
        lt-leb h.replicas b lb,
        ne_eqb a b apart,
        U.phase,
        ans,
        ga.active,
        gb.active,
        lt-ltb (mark_at v b) (mark_at v a) below,
        fit,
        slot_there (medium_at N a x.media) ga.slot,
        good_promise h d new t U a ga,
        good_mark h d new t U a ga,
        slot_there m gb.slot,
        good_promise h d new t U b gb,
        good_mark h d new t U b gb,
      )

  abbrev bs : List ℕ
  bs = place_at (mark_at v b + 1) (medium_at N a x.media)

  abbrev m' : List ℕ
  m' = all_of (append_writes (mark_at v b) bs) m

  abbrev w : Server
  w = with_replica v b true false (mark_of N m')

  done : u ≡ record { state = with_medium_and_server N x d.server b m' w; reply = ok (mark_of N m' ∷ []); count = t.count + 1 }
  unfolding step unless append_effect after
  done =
      rw (admitted, ans, slot_there m gb.slot, good_promise h d new t U b gb, good_mark h d new t U b gb, U.phase)

  size : length x.media ≡ h.replicas * medium_size N
  size = media_size h (length x.media) (length x.tables) U.steady.inside

  -- a's mark is at most N, so there is room behind b's
  reached : mark_at v a ≤ N
  reached = omega (arith, mark_le N (medium_at N a x.media), ga.mark)

  full : length bs ≡ place_size
  full = place_length N (mark_at v b + 1) (medium_at N a x.media) (medium_size_lem h a x.media la size) (omega arith) (omega (arith, below, reached))

  -- what stands behind b's mark in a is a record
  valid : valid_place (mark_at v b + 1) bs ≡ true
  valid = log_valid N (mark_at v b) (medium_at N a x.media) (omega (arith, below, ga.mark))

  added : Appended N Answered bs m m'
  unfolding after
  added =
      subst (λ (k : ℕ). Appended N Answered bs m (all_of (append_writes k bs) m)) gb.mark
      (appends N Answered wiped m gb.sound (harmless N) bs (omega (arith, below, reached, gb.mark)) full
      (subst⁻¹ (λ (k : ℕ). valid_place (k + 1) bs ≡ true) gb.mark valid))

  one_more : mark_of N m' ≡ mark_at v b + 1
  unfolding effect_of
  one_more =
      mark_is N m' ∙ ap length added.log ∙ length-append (log_of N m) (bs ∷ []) ∙ omega (arith, mark_is N m, gb.mark)

  pub record Copied : Type 0 where
    pub underway : Underway h d new u
    pub others : (j : ℕ) → (j ≡ b → ⊥) → Same h d t u j
    pub good : Good h d new u b
    pub mark : mark_at (server_of d u) b ≡ mark_at v b + 1
    pub reply : is_ok u.reply ≡ true

  pub copy_one : Copied
  copy_one =
      let e : u.state ≡ with_medium_and_server N x d.server b m' w = ap (λ (z : Trail). z.state) done in
      record {
        underway = heard_underway h d new t U b lb seven m' added.sound.size size u e (steady_copy h d t a b U.steady);
        others = heard_other h d new t U b lb seven m' added.sound.size size u e;
        good = heard_good h d new t U b lb seven m' added.sound.size size u e
            (λ q. gb.slot (sym added.slots.current ∙ q)) (ap (λ (z : Slot). z.promise) added.slots.slot ∙ gb.promise) added.sound;
        mark = heard_now h d new t U b lb seven m' added.sound.size size u e ∙ one_more;
        reply = ap (λ (z : Trail). is_ok z.reply) done;
      }

-- ---- all copies of one replica

module _ (h : Shape) (d : Recovery) (new : ℕ) (seven : h.replicas ≤ 7) (a : ℕ) (la : a < h.replicas) (mark : ℕ) where
  -- a is a good replica at the mark, and not restored
  abbrev pub Source : Trail → Type 0
  Source t = Good h d new t a × (mark_at (server_of d t) a ≡ mark) × (restored_at (server_of d t) a ≡ false)

  -- who is restored stays so as long as the entries do
  restored_still : (t u : Trail) → (server_of d u).entries ≡ (server_of d t).entries → restored_at (server_of d t) a ≡ false → restored_at (server_of d u) a ≡ false
  restored_still t u e q = ap (λ (es : List Entry). is_restored (entry_at es a).closing) e ∙ q

  abbrev Answers : Trail → Type 0
  Answers u = (k : ℕ) → k < u.count → fate_at d k ≡ Answered

  module _ (b : ℕ) (lb : b < h.replicas) where
    abbrev up_to : ℕ → Trail → Trail
    up_to n t = played h t (copies h d a mark b n t)

    -- n calls that bring b n records and touch no other
    pub record Along (n : ℕ) (t : Trail) (ps : List Input) : Type 0 where
      pub made : length ps ≡ n
      pub underway : Underway h d new (played h t ps)
      pub others : (j : ℕ) → (j ≡ b → ⊥) → Same h d t (played h t ps) j
      pub good : Good h d new (played h t ps) b
      pub there : mark_at (server_of d (played h t ps)) b ≡ mark_at (server_of d t) b + n

    abbrev pub Reached : ℕ → Trail → Type 0
    Reached n t = Along n t (copies h d a mark b n t)

    -- a turn in which b is below the mark makes a copy, and goes on if that is ok
    turn : (n : ℕ) (t : Trail) → mark_at (server_of d t) b < mark → let p = copying d t a b in
        copies h d a mark b (suc n) t ≡ p ∷ cond (is_ok (one h t p).reply) (copies h d a mark b n (one h t p)) []
    unfolding copies
    turn n t l = rw (lt-ltb (mark_at (server_of d t) b) mark l)

    goes_on : (n : ℕ) (t : Trail) → mark_at (server_of d t) b < mark → let p = copying d t a b in is_ok (one h t p).reply ≡ true
        → copies h d a mark b (suc n) t ≡ p ∷ copies h d a mark b n (one h t p)
    goes_on n t l e = turn n t l ∙ rw e

    pub copy_up : (n : ℕ) (t : Trail) → Underway h d new t → Source t → Good h d new t b → lacks (server_of d t) mark b ≡ n → Answers (up_to n t) → Reached n t
    unfolding played copies
    copy_up zero t U s g e A = record { made = refl; underway = U; others = λ j n. same_state h d t t j refl; good = g; there = omega arith }
    copy_up (suc n) t U s g e A =
        let p = copying d t a b in
        let u = one h t p in
        let less : mark_at (server_of d t) b < mark = omega (arith, e) in
        let below : mark_at (server_of d t) b < mark_at (server_of d t) a = omega (arith, less, s.1) in
        let first = turn n t less in
        let now : t.count < (up_to (suc n) t).count =
        subst⁻¹ (λ (ps : List Input). t.count < (played h t ps).count) first
        (omega (arith, played_more h u (cond (is_ok u.reply) (copies h d a mark b n u) []))) in
        let c = copy_one h d new seven t U a b la lb s.0 g below s.2 (A t.count now) in
        let whole = goes_on n t less c.reply in
        let far : a ≡ b → ⊥ = λ q. let z : mark_at (server_of d t) b ≡ mark_at (server_of d t) a = ap (mark_at (server_of d t)) (sym q) in omega (arith, below, z) in
        let o = c.others a far in
        let source : Source u = (still_good h d new t u a o s.0, o.mark ∙ s.1, restored_still t u (entries_copy h d a b t) s.2) in
        let r = copy_up n u c.underway source c.good (omega (arith, c.mark, e)) (subst (λ (ps : List Input). Answers (played h t ps)) whole A) in
        subst⁻¹ (λ (ps : List Input). Along (suc n) t ps) whole
        (record {
          made = ap suc r.made;
          underway = r.underway;
          others = λ j q. same_then h d t u (up_to n u) j (c.others j q) (r.others j q);
          good = r.good;
          there = omega (arith, r.there, c.mark);
        })

  -- ---- and of all

  -- a replica of the list: good, or not known; and afterwards, at the mark unless it stood above it. t is before the copies, u after them.
  abbrev pub Before : Trail → ℕ → Type 0
  Before t b = Good h d new t b ⊎ (active_at (server_of d t) b ≡ false)

  abbrev pub After : Trail → Trail → ℕ → Type 0
  After t u b = (Good h d new u b × (mark_at (server_of d u) b ≡ max mark (mark_at (server_of d t) b))) ⊎ (active_at (server_of d u) b ≡ false)

  before_still : (t u : Trail) (b : ℕ) → Same h d t u b → Before t b → Before u b
  before_still t u b e (inl g) = inl (still_good h d new t u b e g)
  before_still t u b e (inr n) = inr (e.active ∙ n)

  after_still : (t u z : Trail) (b : ℕ) → Same h d u z b → After t u b → After t z b
  after_still t u z b e (inl (g, l)) = inl (still_good h d new u z b e g, e.mark ∙ l)
  after_still t u z b e (inr n) = inr (e.active ∙ n)

  after_later : (t u z : Trail) (b : ℕ) → Same h d t u b → After u z b → After t z b
  after_later t u z b e (inl (g, l)) = inl (g, l ∙ ap (max mark) e.mark)
  after_later t u z b e (inr n) = inr n

  -- what those of a list lack is the same as long as they are
  lacking_same : (t u : Trail) (bs : List ℕ) → ((b : ℕ) → contains bs b ≡ true → Same h d t u b) → lacking (server_of d u) mark bs ≡ lacking (server_of d t) mark bs
  unfolding lacking
  lacking_same t u [] e = refl
  lacking_same t u (b ∷ bs) e =
      let s = e b (first_in b bs) in
      rw (s.active, s.mark, lacking_same t u bs (λ j q. e j (later_in b j bs q)))

  -- the copies of one replica, whichever it is
  pub record Turn (t u : Trail) (b : ℕ) : Type 0 where
    pub underway : Underway h d new u
    pub source : Source u
    pub others : (j : ℕ) → (j ≡ b → ⊥) → Same h d t u j
    pub known : active_at (server_of d u) b ≡ active_at (server_of d t) b
    pub there : After t u b

  still_known : (t u : Trail) (b j : ℕ) → Turn t u b → Dec (j ≡ b) → active_at (server_of d u) j ≡ active_at (server_of d t) j
  still_known t u b j c (yes q) = rw q c.known
  still_known t u b j c (no q) = (c.others j q).active

  one_replica : (b : ℕ) (t : Trail) → b < h.replicas → Underway h d new t → Source t → Before t b → let ps = copies_to h d a mark b t in Answers (played h t ps)
      → (length ps ≡ cond (active_at (server_of d t) b) (lacks (server_of d t) mark b) 0) × Turn t (played h t ps) b
  unfolding played
  one_replica b t lb U s (inr n) A =
      rw n (refl, record { underway = U; source = s; others = λ j q. same_state h d t t j refl; known = refl; there = inr n })
  one_replica b t lb U s (inl g) A =
      let n = lacks (server_of d t) mark b in
      let c = copy_up b lb n t U s g refl (rw g.active at A) in
      rw g.active (
        c.made,
        record { underway = c.underway; source = still c (ℕ_discrete a b); others = c.others; known = c.good.active ∙ sym g.active; there = inl (c.good, omega (arith, c.there)) },
      )
    where
      ps : List Input
      ps = copies h d a mark b (lacks (server_of d t) mark b) t

      fit : restored_at (server_of d (played h t ps)) a ≡ false
      fit = restored_still t (played h t ps) (entries_copies h d t a mark b (lacks (server_of d t) mark b)) s.2

      -- a itself lacks nothing
      still : Along b lb (lacks (server_of d t) mark b) t ps → Dec (a ≡ b) → Source (played h t ps)
      still c (yes q) =
          let at_b : mark_at (server_of d t) b ≡ mark = ap (mark_at (server_of d t)) (sym q) ∙ s.1 in
          let now : mark_at (server_of d (played h t ps)) b ≡ mark = omega (arith, c.there, at_b) in
          (subst⁻¹ (Good h d new (played h t ps)) q c.good, ap (mark_at (server_of d (played h t ps))) q ∙ now, fit)
      still c (no q) = let o = c.others a q in (still_good h d new t (played h t ps) a o s.0, o.mark ∙ s.1, fit)

  abbrev after_all_lem : Trail → List ℕ → Trail
  after_all_lem t bs = played h t (all_copies h d a mark t bs)

  pub record All (t : Trail) (bs : List ℕ) : Type 0 where
    pub made : length (all_copies h d a mark t bs) ≡ lacking (server_of d t) mark bs
    pub underway : Underway h d new (after_all_lem t bs)
    pub others : (j : ℕ) → contains bs j ≡ false → Same h d t (after_all_lem t bs) j
    pub known : (b : ℕ) → active_at (server_of d (after_all_lem t bs)) b ≡ active_at (server_of d t) b
    pub there : (b : ℕ) → contains bs b ≡ true → After t (after_all_lem t bs) b

  pub copy_all : (bs : List ℕ) (t : Trail) → repeats bs ≡ false → not_below h.replicas bs ≡ false → Underway h d new t → Source t
      → ((b : ℕ) → contains bs b ≡ true → Before t b) → Answers (after_all_lem t bs) → All t bs
  unfolding played all_copies lacking contains
  copy_all [] t once below U s B A = record { made = refl; underway = U; others = λ j e. same_state h d t t j refl; known = λ b. refl; there = λ b e. absurd (false≢true e) }
  copy_all (b ∷ bs) t once below U s B A =
      let ps = copies_to h d a mark b t in
      let u = played h t ps in
      let f = first_unique b bs once in
      let l = first_below h.replicas b bs below in
      let joined = played_join h t ps (all_copies h d a mark u bs) in
      let A' : Answers (after_all_lem u bs) = subst Answers joined A in
      let c = one_replica b t l.0 U s (B b (first_in b bs)) (λ k q. A' k (omega (arith, q, played_more h u (all_copies h d a mark u bs)))) in
      let apart : (j : ℕ) → contains bs j ≡ true → j ≡ b → ⊥ = λ j e. differs b j bs e f.0 in
      let r = copy_all bs u f.1 l.1 c.1.underway c.1.source (λ j e. before_still t u j (c.1.others j (apart j e)) (B j (later_in b j bs e))) A' in
      let z = after_all_lem u bs in
      record {
        made = length-append ps (all_copies h d a mark u bs) ∙ ap₂ ◌+◌ c.0 (r.made ∙ lacking_same t u bs (λ j e. c.1.others j (apart j e)));
        underway = subst⁻¹ (Underway h d new) joined r.underway;
        others = λ j e. let n = not_first b j bs e in subst⁻¹ (λ (y : Trail). Same h d t y j) joined (same_then h d t u z j (c.1.others j n.0) (r.others j n.1));
        known = λ j. ap (λ (y : Trail). active_at (server_of d y) j) joined ∙ r.known j ∙ still_known t u b j c.1 (ℕ_discrete j b);
        there = λ j e. subst⁻¹ (λ (y : Trail). After t y j) joined
            (⊎_elim
            (λ q. subst⁻¹ (After t z) q (after_still t u z b (r.others b f.0) c.1.there))
            (λ q. after_later t u z j (c.1.others j (apart j q)) (r.there j q))
            (in_either b j bs e));
      }
