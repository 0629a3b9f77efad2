-- A recovery stays on its way under every fate of every prepare and copy, also where one is declined: the server is opening, with the session that the register
-- has, and with the entries that the take handed over.
-- Assumes nothing.
use mathlib.Core.Path.{◌≡◌, refl, ap, ◌∙◌, subst⁻¹}
use mathlib.Core.Bool.{Bool, true, false, cond}
use mathlib.Core.List.{List, [], ◌∷◌}
use Prim.Native.Nat.{ℕ, zero, suc}
use lib.Dec.{ltb}
use Rattle.fate.specs.declared.Fate.{Fate}
use Rattle.cluster.specs.declared.Shape.{Shape}
use Rattle.cluster.specs.declared.Entry.{Entry}
use Rattle.cluster.specs.declared.Server.{Server}
use Rattle.cluster.specs.declared.Phase.{Phase}
use Rattle.cluster.specs.declared.Phase.TheVariants.{Opening}
use Rattle.cluster.specs.State.{State, no_server, server_at, put_server, mark_at, active_at}
use Rattle.cluster.specs.Refusals.{answered, is_open}
use Rattle.cluster.specs.Effects.{with_replica, after_message, acknowledge, prepare_effect, append_effect}
use Rattle.cluster.specs.Step.{effect}
use Rattle.recovery.specs.Recovery.{Recovery, Trail, fate_at, one, played, preparing, copying, is_ok, server_of, prepares, copies, copies_to, lacks, all_copies, contains}
use Rattle.recovery.proofs.Steady.{Steady, set_any, after_call, steady_prepare, steady_copy}
use Rattle.recovery.proofs.Counts.{played_join}
use Rattle.recovery.proofs.Listed.{first_in, later_in}
use Rattle.recovery.proofs.Underway.{Underway, underway_state, set_underway}

-- a state in which a recovery is on its way
abbrev Going : Shape → Recovery → ℕ → State → Type 0
Going h d new x = (u : Trail) → u.state ≡ x → Steady h x → Underway h d new u

module _ (h : Shape) (d : Recovery) (new : ℕ) (t : Trail) (U : Underway h d new t) where
  abbrev v : Server
  v = server_of d t

  -- the server after a message while it is opening
  messaged : (x : State) (f : Fate) (i mark : ℕ) → x.records ≡ put_server t.state.records d.server (after_message f v i mark) → Going h d new x
  messaged x f i mark e u q s =
      go (answered f) v.phase U.phase e
    where
      go : (b : Bool) (p : Phase) → p ≡ Opening
          → x.records ≡ put_server t.state.records d.server (cond b (with_replica v i true false mark) (cond (is_open p) (with_replica v i true true (mark_at v i)) (with_replica v i false false 0)))
          → Underway h d new u
      go true p k e = set_underway h d new t U i true mark u (ap (λ (y : State). y.records) q ∙ e) (rw q s)
      go false p k e = set_underway h d new t U i false 0 u (ap (λ (y : State). y.records) q ∙ (rw k at e)) (rw q s)

  -- the same of one that opens no session: the acknowledged mark is an open server's
  acknowledged_not : (b : Bool) (r : ℕ) (w : Server) → b ≡ false → cond b (acknowledge r w) w ≡ w
  acknowledged_not b r w e = rw e

  pub underway_prepare : (i : ℕ) → Underway h d new (one h t (preparing d t i))
  unfolding prepare_effect
  underway_prepare i =
      after_call (Going h d new) h t.state (preparing d t i)
      (λ u q s. underway_state h d new t u q U)
      (λ e. messaged (effect h t.state (preparing d t i) (preparing d t i).call).state (fate_at d t.count) i _ refl)
      (one h t (preparing d t i)) refl (steady_prepare h d t i U.steady)

  pub underway_copy : (a b : ℕ) → Underway h d new (one h t (copying d t a b))
  unfolding append_effect
  underway_copy a b =
      after_call (Going h d new) h t.state (copying d t a b)
      (λ u q s. underway_state h d new t u q U)
      (λ e. messaged (effect h t.state (copying d t a b) (copying d t a b).call).state (fate_at d t.count) b _
      (ap (put_server t.state.records d.server) (acknowledged_not (is_open v.phase) h.replicas _ (ap is_open U.phase))))
      (one h t (copying d t a b)) refl (steady_copy h d t a b U.steady)

-- ---- what no message changes

-- whatever is set of replica i, and whatever is acknowledged, Q holds of a server's record still
pub record Keeps (Q : Server → Type 0) (i : ℕ) : Type 0 where
  pub replica : (v : Server) (known dropped : Bool) (mark : ℕ) → Q v → Q (with_replica v i known dropped mark)
  pub acked : (r : ℕ) (v : Server) → Q v → Q (acknowledge r v)

module _ (Q : Server → Type 0) (i : ℕ) (K : Keeps Q i) where
  after_message_lem : (f : Fate) (v : Server) (mark : ℕ) → Q v → Q (after_message f v i mark)
  after_message_lem f v mark q = go (answered f) (is_open v.phase)
    where
      go : (b c : Bool) → Q (cond b (with_replica v i true false mark) (cond c (with_replica v i true true (mark_at v i)) (with_replica v i false false 0)))
      go true c = K.replica v true false mark q
      go false true = K.replica v true true (mark_at v i) q
      go false false = K.replica v false false 0 q

  acknowledged : (b : Bool) (r : ℕ) (v : Server) → Q v → Q (cond b (acknowledge r v) v)
  acknowledged true r v q = K.acked r v q
  acknowledged false r v q = q

  pub keeps_prepare : (h : Shape) (d : Recovery) (t : Trail) → Q (server_of d t) → Q (server_of d (one h t (preparing d t i)))
  unfolding prepare_effect
  keeps_prepare h d t q =
      let v = server_of d t in
      after_call (λ (x : State). Q (server_at x.records d.server)) h t.state (preparing d t i) q
      (λ e. set_any Q t.state.records.servers d.server d.server _ no_server q (after_message_lem (fate_at d t.count) v _ q))

  pub keeps_copy : (h : Shape) (d : Recovery) (a : ℕ) (t : Trail) → Q (server_of d t) → Q (server_of d (one h t (copying d t a i)))
  unfolding append_effect
  keeps_copy h d a t q =
      let v = server_of d t in
      after_call (λ (x : State). Q (server_at x.records d.server)) h t.state (copying d t a i) q
      (λ e. set_any Q t.state.records.servers d.server d.server _ no_server q
      (acknowledged (is_open v.phase) h.replicas _ (after_message_lem (fate_at d t.count) v _ q)))

-- ---- along lists

-- what a prepare of one of these replicas keeps, and a copy to one, the prepares and copies of a list of them keep
module _ (h : Shape) (d : Recovery) (P : Trail → Type 0) (These : ℕ → Type 0)
    (prepare : (i : ℕ) (t : Trail) → These i → P t → P (one h t (preparing d t i)))
    (copy : (a b : ℕ) (t : Trail) → These b → P t → P (one h t (copying d t a b))) where
  pub along_prepares : (is : List ℕ) (t : Trail) → ((i : ℕ) → contains is i ≡ true → These i) → P t → P (played h t (prepares h d t is))
  unfolding played prepares
  along_prepares [] t l q = q
  along_prepares (i ∷ is) t l q =
      along_prepares is (one h t (preparing d t i)) (λ j e. l j (later_in i j is e)) (prepare i t (l i (first_in i is)) q)

  along_copies : (a m b n : ℕ) (t : Trail) → These b → P t → P (played h t (copies h d a m b n t))
  unfolding played copies
  along_copies a m b zero t l q = q
  along_copies a m b (suc n) t l q =
      let u = one h t (copying d t a b) in
      go (ltb (mark_at (server_of d t) b) m) (is_ok u.reply) (copy a b t l q) (along_copies a m b n u l (copy a b t l q))
    where
      go : (below ok : Bool) → let u = one h t (copying d t a b) in P u → P (played h u (copies h d a m b n u))
          → P (played h t (cond below (copying d t a b ∷ cond ok (copies h d a m b n u) []) []))
      go true true once on = on
      go true false once on = once
      go false ok once on = q

  along_one : (a m b : ℕ) (t : Trail) → These b → P t → P (played h t (copies_to h d a m b t))
  unfolding played
  along_one a m b t l q = go (active_at (server_of d t) b) (along_copies a m b (lacks (server_of d t) m b) t l q)
    where
      go : (k : Bool) → P (played h t (copies h d a m b (lacks (server_of d t) m b) t))
          → P (played h t (cond k (copies h d a m b (lacks (server_of d t) m b) t) []))
      go true on = on
      go false on = q

  pub along_all : (a m : ℕ) (bs : List ℕ) (t : Trail) → ((b : ℕ) → contains bs b ≡ true → These b) → P t → P (played h t (all_copies h d a m t bs))
  unfolding played all_copies
  along_all a m [] t l q = q
  along_all a m (b ∷ bs) t l q =
      let ps = copies_to h d a m b t in
      subst⁻¹ P (played_join h t ps (all_copies h d a m (played h t ps) bs))
      (along_all a m bs (played h t ps) (λ j e. l j (later_in b j bs e)) (along_one a m b t (l b (first_in b bs)) q))

module _ (h : Shape) (d : Recovery) (new : ℕ) where
  pub underway_prepares : (is : List ℕ) (t : Trail) → Underway h d new t → Underway h d new (played h t (prepares h d t is))
  underway_prepares is t U =
      along_prepares h d (Underway h d new) (λ i. Unit {0}) (λ i u l W. underway_prepare h d new u W i) (λ a b u l W. underway_copy h d new u W a b)
      is t (λ i e. tt) U

  pub underway_all : (a m : ℕ) (bs : List ℕ) (t : Trail) → Underway h d new t → Underway h d new (played h t (all_copies h d a m t bs))
  underway_all a m bs t U =
      along_all h d (Underway h d new) (λ i. Unit {0}) (λ i u l W. underway_prepare h d new u W i) (λ a b u l W. underway_copy h d new u W a b)
      a m bs t (λ i e. tt) U

-- ---- the entries that the take handed over: closing marks, and who is restored

keeps_entries : (es : List Entry) (i : ℕ) → Keeps (λ (v : Server). v.entries ≡ es) i
keeps_entries es i = record { replica = λ v known dropped mark q. q; acked = λ r v q. q }

module _ (h : Shape) (d : Recovery) where
  -- after each call the server's record has the entries of the trail t
  abbrev Handed : Trail → Trail → Type 0
  Handed t u = (server_of d u).entries ≡ (server_of d t).entries

  pub entries_copy : (a b : ℕ) (t : Trail) → Handed t (one h t (copying d t a b))
  entries_copy a b t = keeps_copy (λ (v : Server). v.entries ≡ (server_of d t).entries) b (keeps_entries (server_of d t).entries b) h d a t refl

  module _ (t : Trail) where
    abbrev es : List Entry
    es = (server_of d t).entries

    prepare_kept : (i : ℕ) (u : Trail) → Unit {0} → Handed t u → Handed t (one h u (preparing d u i))
    prepare_kept i u l q = keeps_prepare (λ (v : Server). v.entries ≡ es) i (keeps_entries es i) h d u q

    copy_kept : (a b : ℕ) (u : Trail) → Unit {0} → Handed t u → Handed t (one h u (copying d u a b))
    copy_kept a b u l q = keeps_copy (λ (v : Server). v.entries ≡ es) b (keeps_entries es b) h d a u q

    pub entries_prepares : (is : List ℕ) → Handed t (played h t (prepares h d t is))
    entries_prepares is = along_prepares h d (Handed t) (λ i. Unit {0}) prepare_kept copy_kept is t (λ i e. tt) refl

    pub entries_copies : (a m b n : ℕ) → Handed t (played h t (copies h d a m b n t))
    entries_copies a m b n = along_copies h d (Handed t) (λ i. Unit {0}) prepare_kept copy_kept a m b n t tt refl

    pub entries_all : (a m : ℕ) (bs : List ℕ) → Handed t (played h t (all_copies h d a m t bs))
    entries_all a m bs = along_all h d (Handed t) (λ i. Unit {0}) prepare_kept copy_kept a m bs t (λ i e. tt) refl
