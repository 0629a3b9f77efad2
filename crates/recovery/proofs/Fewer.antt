-- WITH FEWER IT NEVER OPENS. Document 02, No. 10: the driver "is sure to open only with Q others" than restored replicas. Where fewer than Q of the listed
-- replicas are not restored, by the register's entries when it starts, it opens no session, whatever the fates: its reply is not ok, and the register has the
-- entries that it had. In any state with four servers, as the type says. The statement comes first; the theorem is `fewer`.
-- Assumes nothing.
use mathlib.Core.Path.{◌≡◌, refl, sym, ap, ◌∙◌, subst⁻¹}
use mathlib.Core.Bool.{Bool, true, false, not, cond, ◌&&◌, false≢true}
use mathlib.Core.List.{List, []}
use Prim.Native.Nat.{ℕ, ◌≤◌, ◌<◌}
use native.Mathlib.Omega.{arith}
use lib.ListN.{length}
use borrow.Author.Tests.{lt-leb}
use Rattle.base.specs.Below.{bit, count}
use Rattle.base.proofs.Below.{count_mono}
use Rattle.base.proofs.Tests.{both}
use Rattle.fate.specs.declared.Fate.{Fate}
use Rattle.quorum.specs.Vote.{quorum, decided}
use Rattle.cluster.specs.declared.Shape.{Shape}
use Rattle.cluster.specs.declared.Entry.{Entry}
use Rattle.cluster.specs.declared.Register.{Register}
use Rattle.cluster.specs.declared.Server.{Server}
use Rattle.cluster.specs.State.{State, entry_at, active_at, is_restored, restored_at, votes_at}
use Rattle.cluster.specs.Refusals.{Input, is_cut, undecided, session_at_top, rows_of, Verdict, pass, declined, first_of}
use Rattle.cluster.specs.Effects.{arrives, raised_session, prepare_effect, append_effect, take_effect}
use Rattle.cluster.specs.Step.{unless, step}
use Rattle.recovery.specs.Recovery.{Recovery, Trail, fate_at, one, taking, preparing, copying, opening, is_ok, server_of, highest_known, first_at, contains, recovery_rows, begun, recovered}
use Rattle.recovery.specs.Arrival.{how_many, taken, prepared}
use Rattle.recovery.proofs.Steady.{after_call}
use Rattle.recovery.proofs.Listed.{differs}
use Rattle.recovery.proofs.Highest.{listed_most}
use Rattle.recovery.proofs.Underway.{other_active}
use Rattle.recovery.proofs.Staying.{Keeps, keeps_prepare, keeps_copy, along_prepares, along_all, entries_prepares, entries_all}
use Rattle.recovery.proofs.Arrives.{caught, ends}
use Rattle.recovery.proofs.Refused.{own_reply, open_rows, handed_over, knows_none, when_opening, alone}

-- ---- the statement

-- "others": replica i is not restored
abbrev pub other : State → ℕ → Bool
other x i = not (is_restored (entry_at x.records.register.entries i).closing)

pub record NotOpened (x : State) (t : Trail) : Type 0 where
  pub reply : is_ok t.reply ≡ false
  pub entries : t.state.records.register.entries ≡ x.records.register.entries

abbrev pub Fewer : Type 0
Fewer = (h : Shape) (x : State) (d : Recovery) → length x.records.servers ≡ 4 → how_many (other x) d.listed < quorum h.replicas
    → NotOpened x (recovered h x d)

-- ---- what stays under every fate: the register's entries, and that no replica is known that isn't listed

abbrev Listed : Recovery → ℕ → Type 0
Listed d i = contains d.listed i ≡ true

module _ (h : Shape) (d : Recovery) (es : List Entry) where
  abbrev Kept : Trail → Type 0
  Kept t = t.state.records.register.entries ≡ es

  abbrev KeptIn : State → Type 0
  KeptIn x = x.records.register.entries ≡ es

  kept_take : (t : Trail) → Kept t → Kept (one h t (taking d t))
  unfolding take_effect
  kept_take t q = after_call KeptIn h t.state (taking d t) q (λ e. go (arrives f && not (session_at_top g.session)))
    where
      f : Fate
      f = fate_at d t.count

      g : Register
      g = t.state.records.register

      go : (b : Bool) → (cond b (raised_session g) g).entries ≡ es
      go true = q
      go false = q

  kept_prepare : (i : ℕ) (t : Trail) → Listed d i → Kept t → Kept (one h t (preparing d t i))
  unfolding prepare_effect
  kept_prepare i t l q = after_call KeptIn h t.state (preparing d t i) q (λ e. q)

  kept_copy : (a b : ℕ) (t : Trail) → Listed d b → Kept t → Kept (one h t (copying d t a b))
  unfolding append_effect
  kept_copy a b t l q = after_call KeptIn h t.state (copying d t a b) q (λ e. q)

module _ (h : Shape) (d : Recovery) where
  abbrev Unlisted : Server → Type 0
  Unlisted v = (i : ℕ) → contains d.listed i ≡ false → active_at v i ≡ false

  abbrev UnlistedIn : Trail → Type 0
  UnlistedIn t = Unlisted (server_of d t)

  keeps_unlisted : (j : ℕ) → Listed d j → Keeps Unlisted j
  keeps_unlisted j l =
      record {
        replica = λ v known dropped mark q i e. other_active v j known dropped mark i (λ z. differs i j d.listed l e (sym z)) ∙ q i e;
        acked = λ r v q. q;
      }

  unlisted_prepare : (i : ℕ) (t : Trail) → Listed d i → UnlistedIn t → UnlistedIn (one h t (preparing d t i))
  unlisted_prepare i t l q = keeps_prepare Unlisted i (keeps_unlisted i l) h d t q

  unlisted_copy : (a b : ℕ) (t : Trail) → Listed d b → UnlistedIn t → UnlistedIn (one h t (copying d t a b))
  unlisted_copy a b t l q = keeps_copy Unlisted b (keeps_unlisted b l) h d a t q

-- ---- the theorem

module _ (h : Shape) (x : State) (d : Recovery) (four : length x.records.servers ≡ 4) (few : how_many (other x) d.listed < quorum h.replicas)
    (admitted : first_of (recovery_rows h x d) ≡ pass) where
  abbrev t₁ : Trail
  t₁ = taken h x d

  abbrev t₂ : Trail
  t₂ = prepared h x d

  abbrev mark : ℕ
  mark = highest_known (server_of d t₂) d.listed

  abbrev a : ℕ
  a = first_at (server_of d t₂) mark d.listed

  abbrev t₃ : Trail
  t₃ = caught h x d admitted

  abbrev v : Server
  v = server_of d t₃

  abbrev es : List Entry
  es = x.records.register.entries

  entries₁ : Kept h d es t₁
  unfolding begun
  entries₁ = kept_take h d es (begun h x d) refl

  entries₃ : Kept h d es t₃
  entries₃ =
      along_all h d (Kept h d es) (Listed d) (kept_prepare h d es) (kept_copy h d es) a mark d.listed t₂ (λ i e. e)
      (along_prepares h d (Kept h d es) (Listed d) (kept_prepare h d es) (kept_copy h d es) d.listed t₁ (λ i e. e) entries₁)

  module _ (k : is_ok t₁.reply ≡ true) where
    -- whoever votes when it opens is listed, and was not restored when it started
    handed : v.entries ≡ es
    handed = entries_all h d t₂ a mark d.listed ∙ entries_prepares h d t₁ d.listed ∙ handed_over h x d four admitted k

    unlisted : UnlistedIn h d t₃
    unlisted =
        along_all h d (UnlistedIn h d) (Listed d) (unlisted_prepare h d) (unlisted_copy h d) a mark d.listed t₂ (λ i e. e)
        (along_prepares h d (UnlistedIn h d) (Listed d) (unlisted_prepare h d) (unlisted_copy h d) d.listed t₁ (λ i e. e)
        (λ i e. knows_none h x d four admitted k i))

    voters : (i : ℕ) (b : Bool) → votes_at v i ≡ b → bit b ≤ bit (other x i && contains d.listed i)
    voters i true e =
        let voting = both (active_at v i) (not (restored_at v i)) e in
        let fit : other x i ≡ true = ap (λ (z : List Entry). not (is_restored (entry_at z i).closing)) (sym handed) ∙ voting.1 in
        let named : contains d.listed i ≡ true = go voting.0 (contains d.listed i) refl in
        rw (fit, named) (omega arith)
      where
        go : active_at v i ≡ true → (c : Bool) → contains d.listed i ≡ c → c ≡ true
        go q true r = refl
        go q false r = absurd (false≢true (sym (unlisted i r) ∙ q))
    voters i false e = omega arith

    too_few : count (votes_at v) h.replicas < quorum h.replicas
    too_few =
        omega (
          arith,
          few,
          count_mono (votes_at v) (λ i. other x i && contains d.listed i) h.replicas (λ i l. voters i (votes_at v i) refl),
          listed_most (other x) h.replicas d.listed,
        )

    no_vote : undecided h.replicas v ≡ true
    unfolding decided
    no_vote = rw (lt-leb (quorum h.replicas) (count (votes_at v) h.replicas) too_few)

    -- so the open is declined, by 6 or 8
    abbrev p : Input
    p = opening d t₃

    open_declined : (b : Bool) → is_cut (fate_at d t₃.count) ≡ b → NotOpened x (one h t₃ p)
    unfolding step unless first_of
    open_declined b e =
        let rows = open_rows h d _ t₃ (when_opening h x d four admitted k) in
        go b (rows ∙ rw (e, no_vote))
      where
        go : (b : Bool) → first_of (rows_of h t₃.state p) ≡ cond b (declined 6 []) (declined 8 []) → NotOpened x (one h t₃ p)
        go true q = record { reply = rw q; entries = rw q entries₃ }
        go false q = record { reply = rw q; entries = rw q entries₃ }

  ended : (b : Bool) → is_ok t₁.reply ≡ b → NotOpened x (recovered h x d)
  ended true k = subst⁻¹ (NotOpened x) (ends h x d admitted k) (open_declined k (is_cut (fate_at d t₃.count)) refl)
  ended false k = subst⁻¹ (NotOpened x) (alone h x d four admitted k) (record { reply = k; entries = entries₁ })

pub fewer : Fewer
fewer h x d four few = go (first_of (recovery_rows h x d)) refl
  where
    go : (w : Verdict) → first_of (recovery_rows h x d) ≡ w → NotOpened x (recovered h x d)
    go pass e = ended h x d four few e (is_ok (taken h x d).reply) refl
    go (declined n values) e = subst⁻¹ (NotOpened x) (own_reply h x d n values e) (record { reply = refl; entries = refl })
