-- That a recovery arrives: `arrives : Arrives`. The statement is specs/Arrival.antt.
-- Why: the take is answered; every listed replica that has a valid slot and no higher promise is known after its prepare (Preparing), with a mark that its medium
-- has and no valid place above it; each copy then brings one record (Copying), from a source that votes, since at least Q of them are not restored; so all that
-- vote come to stand at the highest mark of them and none above it, and those that are absent, restored ones among them, are fewer than Q: the mark is decided,
-- and Q are clean (Opening).
-- Assumes nothing.
use mathlib.Core.Path.{◌≡◌, refl, sym, ap, ap₂, ◌∙◌, subst, subst⁻¹}
use mathlib.Core.Bool.{Bool, true, false, not, cond, ◌&&◌, false≢true}
use mathlib.Core.Logic.{inl, inr, ⊎_elim}
use mathlib.Core.List.{List, []}
use Prim.Native.Nat.{ℕ, ◌+◌, ◌*◌, ◌^◌, ◌≤◌, ◌<◌}
use native.Mathlib.Omega.{arith}
use lib.ListN.{length}
use borrow.Author.Tests.{eqb-false, not-true}
use Rattle.base.specs.Below.{bit, count}
use Rattle.base.proofs.Below.{count_mono, count_some}
use Rattle.base.proofs.Same.{count_same}
use Rattle.base.proofs.Tests.{both}
use Rattle.octets.specs.Octets.{Bytes}
use Rattle.octets.proofs.Reading.{bytes_part}
use Rattle.fate.specs.declared.Fate.TheVariants.{Answered}
use Rattle.storage.specs.Sizes.{medium_size}
use Rattle.storage.specs.Log.{Sound}
use Rattle.storage.specs.Operations.{medium_at}
use Rattle.quorum.specs.Vote.{quorum}
use Rattle.cluster.specs.declared.Shape.{Shape}
use Rattle.cluster.specs.declared.Entry.{Entry}
use Rattle.cluster.specs.State.{State, entry_at, mark_at, active_at, is_restored, restored_at, votes_at}
use Rattle.cluster.specs.Refusals.{Input, no_slot, promise_above, refuses_prepare, rows_of, pass, first_of}
use Rattle.cluster.proofs.AsStored.{media_size}
use Rattle.recovery.specs.Recovery.{Recovery, Trail, fate_at, one, played, taking, opening, is_ok, server_of, prepares, first_at, catching_up, after_take, from_take, contains, recovery_rows, begun, calls_of, recovered}
use Rattle.recovery.specs.Arrival.{Typed, ready, counts, taken, prepared, highest_mark, lacking, Met, Arrived, Arrives}
use Rattle.recovery.proofs.Counts.{played_count, played_more}
use Rattle.recovery.proofs.Played.{prepares_length, after_take_is}
use Rattle.recovery.proofs.Steady.{medium_size_lem}
use Rattle.recovery.proofs.Own.{Admitted, own, take_rows}
use Rattle.recovery.proofs.Listed.{listed_below}
use Rattle.recovery.proofs.Highest.{highest_ge, Has, source_has, many_listed}
use Rattle.recovery.proofs.Underway.{Underway, Good, taken_underway, taken_none, taken_entries, taken_media, taken_reply}
use Rattle.recovery.proofs.Staying.{entries_prepares, entries_all}
use Rattle.recovery.proofs.Preparing as preparing
use Rattle.recovery.proofs.Copying as copying
use Rattle.recovery.proofs.Opening.{Odd, odd_replicas, opens, is_open_lem}

-- ---- where the calls of a recovery that isn't declined end

module _ (h : Shape) (x : State) (d : Recovery) (admitted : first_of (recovery_rows h x d) ≡ pass) where
  -- the calls behind the take
  abbrev pub rest : List Input
  rest = cond (is_ok (taken h x d).reply) (after_take h d (taken h x d)) []

  pub begins : recovered h x d ≡ played h (taken h x d) rest
  unfolding recovered calls_of from_take played
  begins = rw admitted

  pub first_call : 0 < (recovered h x d).count
  unfolding begun
  first_call = subst⁻¹ (λ (u : Trail). 0 < u.count) begins (omega (arith, played_more h (taken h x d) rest))

  -- where the take is ok
  abbrev pub caught : Trail
  caught = played h (prepared h x d) (catching_up h d (prepared h x d))

  pub ends : is_ok (taken h x d).reply ≡ true → recovered h x d ≡ one h caught (opening d caught)
  ends e = begins ∙ ap (played h (taken h x d)) (goes_on (is_ok (taken h x d).reply) e) ∙ sym (after_take_is h d (taken h x d) refl refl refl)
    where
      goes_on : (b : Bool) → b ≡ true → cond b (after_take h d (taken h x d)) [] ≡ after_take h d (taken h x d)
      goes_on b q = rw q

-- ---- the theorem

module _ (h : Shape) (x : State) (d : Recovery) (T : Typed x) (M : Met h x d) where
  abbrev t₀ : Trail
  t₀ = begun h x d

  abbrev t₁ : Trail
  t₁ = taken h x d

  abbrev t₂ : Trail
  t₂ = prepared h x d

  abbrev new : ℕ
  new = x.records.register.session + 1

  abbrev N : ℕ
  N = h.places

  A : Admitted h x d
  A = own h x d M.admitted

  o : Odd h.replicas
  o = odd_replicas h _ _ A.steady.inside

  size : length x.media ≡ h.replicas * medium_size N
  size = media_size h (length x.media) (length x.tables) A.steady.inside

  top : new < 2 ^ 64
  top = omega (arith, T.session, eqb-false new (2 ^ 64) M.below_top)

  -- ---- the take

  takes : fate_at d 0 ≡ Answered
  unfolding fate_at
  takes = M.answered 0 (first_call h x d M.admitted)

  take_passes : first_of (rows_of h x (taking d t₀)) ≡ pass
  unfolding begun first_of
  take_passes = take_rows h d t₀ A ∙ rw (takes, M.below_top)

  underway₁ : Underway h d new t₁
  unfolding begun
  underway₁ = taken_underway h d t₀ A.steady T.servers take_passes takes M.below_top A.server

  unknown₁ : (i : ℕ) → active_at (server_of d t₁) i ≡ false
  unfolding begun
  unknown₁ = taken_none h d t₀ A.steady T.servers take_passes takes M.below_top A.server

  entries₁ : (server_of d t₁).entries ≡ x.records.register.entries
  unfolding begun
  entries₁ = taken_entries h d t₀ A.steady T.servers take_passes takes M.below_top A.server

  media₁ : t₁.state.media ≡ x.media
  unfolding begun
  media₁ = taken_media h d t₀ A.steady T.servers take_passes takes M.below_top

  ok₁ : is_ok t₁.reply ≡ true
  unfolding begun
  ok₁ = ap is_ok (taken_reply h d t₀ A.steady T.servers take_passes takes M.below_top)

  -- ---- so it ends with its open, and all fates before are answered

  abbrev t₃ : Trail
  t₃ = caught h x d M.admitted

  last : recovered h x d ≡ one h t₃ (opening d t₃)
  last = ends h x d M.admitted ok₁

  answers : (k : ℕ) → k < (one h t₃ (opening d t₃)).count → fate_at d k ≡ Answered
  unfolding fate_at
  answers = subst (λ (u : Trail). (k : ℕ) → k < u.count → fate_at d k ≡ Answered) last M.answered

  counts₃ : t₂.count ≤ t₃.count
  counts₃ = played_more h t₂ (catching_up h d t₂)

  -- ---- the prepares

  waiting : (i : ℕ) → contains d.listed i ≡ true → preparing.Waiting h d t₁ i
  waiting i e =
      let same : medium_at N i t₁.state.media ≡ medium_at N i x.media = ap (medium_at N i) media₁ in
      record {
        sound = subst⁻¹ (Sound N) same (record { size = medium_size_lem h i x.media (listed_below h.replicas i d.listed A.below e) size; clean = M.clean i e });
        bytes = subst⁻¹ Bytes same (bytes_part (i * medium_size N) (medium_size N) x.media T.bytes);
        unknown = unknown₁ i;
      }

  P : preparing.All h d new o.most top t₁ d.listed
  P = preparing.prepare_all h d new o.most top d.listed t₁ underway₁ A.once A.below waiting (λ k l. answers k (omega (arith, l, counts₃)))

  -- whoever is known was listed, and is good
  known_listed : (i : ℕ) → active_at (server_of d t₂) i ≡ true → contains d.listed i ≡ true
  known_listed i e = go (contains d.listed i) refl
    where
      go : (b : Bool) → contains d.listed i ≡ b → b ≡ true
      go true q = refl
      go false q = absurd (false≢true (sym ((P.others i q).active ∙ unknown₁ i) ∙ e))

  known_good : (i : ℕ) → active_at (server_of d t₂) i ≡ true → Good h d new t₂ i
  known_good i e = go (refuses_prepare new (medium_at N i t₁.state.media)) refl
    where
      go : (b : Bool) → refuses_prepare new (medium_at N i t₁.state.media) ≡ b → Good h d new t₂ i
      go true q = absurd (false≢true (sym ((P.tried i (known_listed i e)).refused q) ∙ e))
      go false q = (P.tried i (known_listed i e)).good q

  -- who is ready is known afterwards, and votes unless it is restored, so at least Q do
  ready_known : (i : ℕ) → contains d.listed i ≡ true → ready h x i ≡ true → active_at (server_of d t₂) i ≡ true
  ready_known i e r =
      let m = medium_at N i x.media in
      let b = both (not (no_slot m)) (not (promise_above new m)) r in
      let passes : refuses_prepare new m ≡ false = rw (not-true (no_slot m) b.0, not-true (promise_above new m) b.1) in
      ((P.tried i e).good (ap (λ (z : List ℕ). refuses_prepare new (medium_at N i z)) media₁ ∙ passes)).active

  -- the take handed the register's entries over, and no prepare changes them
  restored₂ : (i : ℕ) → restored_at (server_of d t₂) i ≡ is_restored (entry_at x.records.register.entries i).closing
  restored₂ i = ap (λ (es : List Entry). is_restored (entry_at es i).closing) (entries_prepares h d t₁ d.listed ∙ entries₁)

  counts_votes : (i : ℕ) → contains d.listed i ≡ true → counts h x i ≡ true → votes_at (server_of d t₂) i ≡ true
  counts_votes i e r =
      let b = both (ready h x i) (not (is_restored (entry_at x.records.register.entries i).closing)) r in
      rw (ready_known i e b.0, restored₂ i, not-true (is_restored (entry_at x.records.register.entries i).closing) b.1)

  many : quorum h.replicas ≤ count (votes_at (server_of d t₂)) h.replicas
  many =
      let v = server_of d t₂ in
      let a = many_listed (counts h x) (votes_at v) h.replicas d.listed A.once A.below counts_votes in
      let b = count_mono (λ i. votes_at v i && contains d.listed i) (votes_at v) h.replicas (λ i l. less (votes_at v i) (contains d.listed i)) in
      omega (arith, M.enough, a, b)
    where
      less : (b c : Bool) → bit (b && c) ≤ bit b
      less true true = omega arith
      less true false = omega arith
      less false c = omega arith

  -- ---- the copies

  abbrev mark : ℕ
  mark = highest_mark h x d

  -- who votes is known, and not restored
  is_known : (i : ℕ) → votes_at (server_of d t₂) i ≡ true → active_at (server_of d t₂) i ≡ true
  is_known i e = (both (active_at (server_of d t₂) i) (not (restored_at (server_of d t₂) i)) e).0

  -- one votes, so the first of those at the highest mark is a source
  abbrev a : ℕ
  a = first_at (server_of d t₂) mark d.listed

  has_mark : Has (server_of d t₂) d.listed mark a
  has_mark =
      let some = count_some (votes_at (server_of d t₂)) h.replicas (omega (arith, many, o.least)) in
      source_has (server_of d t₂) d.listed some.0 (known_listed some.0 (is_known some.0 some.2)) some.2

  below : a < h.replicas
  below = listed_below h.replicas a d.listed A.below has_mark.listed

  source : copying.Source h d new o.most a below mark t₂
  source =
      let b = both (active_at (server_of d t₂) a) (not (restored_at (server_of d t₂) a)) has_mark.votes in
      (known_good a b.0, has_mark.mark_is, not-true (restored_at (server_of d t₂) a) b.1)

  before : (b : ℕ) → contains d.listed b ≡ true → copying.Before h d new o.most a below mark t₂ b
  before b e = go (active_at (server_of d t₂) b) refl
    where
      go : (k : Bool) → active_at (server_of d t₂) b ≡ k → copying.Before h d new o.most a below mark t₂ b
      go true q = inl (known_good b q)
      go false q = inr q

  C : copying.All h d new o.most a below mark t₂ d.listed
  C = copying.copy_all h d new o.most a below mark d.listed t₂ A.once A.below P.underway source before (λ k l. answers k (omega (arith, l)))

  -- ---- the open

  -- the same replicas vote as before the copies
  still_votes : (i : ℕ) → votes_at (server_of d t₃) i ≡ votes_at (server_of d t₂) i
  still_votes i =
      let es = entries_all h d t₂ a mark d.listed in
      ap₂ (λ (b : Bool) (z : List Entry). b && not (is_restored (entry_at z i).closing)) (C.known i) es

  -- one that votes stood at the highest mark of them or below it
  all_there : (i : ℕ) → i < h.replicas → votes_at (server_of d t₃) i ≡ true → mark_at (server_of d t₃) i ≡ mark
  all_there i l e =
      let voted = sym (still_votes i) ∙ e in
      let listed = known_listed i (is_known i voted) in
      let below = highest_ge (server_of d t₂) d.listed i listed voted in
      ⊎_elim (λ (g, q). omega (arith, q, below)) (λ q. absurd (false≢true (sym q ∙ C.known i ∙ is_known i voted))) (C.there i listed)

  still_many : quorum h.replicas ≤ count (votes_at (server_of d t₃)) h.replicas
  still_many =
      let same = count_same h.replicas (votes_at (server_of d t₃)) (votes_at (server_of d t₂)) (λ i l. still_votes i) in
      omega (arith, many, same)

  opened : fate_at d t₃.count ≡ Answered
  opened = answers t₃.count (omega arith)

  made : t₃.count ≡ 1 + length d.listed + lacking (server_of d t₂) mark d.listed
  unfolding begun
  made =
      omega (
        arith,
        played_count h t₁ (prepares h d t₁ d.listed),
        prepares_length h d t₁ d.listed,
        played_count h t₂ (catching_up h d t₂),
        C.made,
      )

  pub has_arrived : Arrived h x d
  has_arrived =
      record {
        opens = ap (λ (u : Trail). (server_of d u).phase) last ∙ is_open_lem h d new t₃ C.underway mark o all_there still_many opened;
        reply = ap (λ (u : Trail). u.reply) last ∙ opens h d new t₃ C.underway mark o all_there still_many opened;
        count = ap (λ (u : Trail). u.count) last ∙ omega (arith, made);
      }

pub arrives : Arrives
arrives h x d T M = has_arrived h x d T M
