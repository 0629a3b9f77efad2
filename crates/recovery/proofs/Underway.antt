-- A recovery on its way: what holds from its take to its open, and what is known of the replicas meanwhile.
-- Assumes nothing.
use mathlib.Core.Path.{◌≡◌, refl, sym, ap, ◌∙◌, subst⁻¹}
use mathlib.Core.Bool.{Bool, true, false, not, ◌&&◌}
use mathlib.Core.List.{List, [], ◌∷◌}
use Prim.Native.Nat.{ℕ, ◌+◌, ◌*◌, ◌≤◌, ◌<◌}
use native.Mathlib.Omega.{arith}
use lib.ListN.{length, get_or, set, length-set}
use lib.Seq.{get_or-set_same, get_or-set_other}
use Rattle.fate.specs.declared.Fate.TheVariants.{Answered}
use Rattle.storage.specs.Sizes.{medium_size}
use Rattle.storage.specs.Slots.{stored_slot, HasSlot}
use Rattle.storage.specs.Log.{mark_of, Sound}
use Rattle.storage.specs.Operations.{medium_at}
use Rattle.cluster.specs.declared.Shape.{Shape}
use Rattle.cluster.specs.declared.Register.{Register}
use Rattle.cluster.specs.declared.Server.{Server}
use Rattle.cluster.specs.declared.Records.{Records}
use Rattle.cluster.specs.declared.Phase.TheVariants.{Opening}
use Rattle.cluster.specs.State.{State, no_server, server_at, put_server, mark_at, active_at}
use Rattle.cluster.specs.Replies.{ok}
use Rattle.cluster.specs.Refusals.{session_at_top, rows_of, pass, first_of}
use Rattle.cluster.specs.Effects.{with_replica, with_medium_and_server, with_register_and_server, take_effect, opening_server, raised_session}
use Rattle.cluster.specs.Step.{unless, step}
use Rattle.cluster.proofs.Blocks.{block_same, block_other}
use Rattle.recovery.specs.Recovery.{Recovery, Trail, fate_at, one, taking, server_of}
use Rattle.recovery.proofs.Steady.{Steady, steady_take, set_any, equal_at}

-- ---- from take to open

pub record Underway (h : Shape) (d : Recovery) (new : ℕ) (t : Trail) : Type 0 where
  pub steady : Steady h t.state
  pub servers : length t.state.records.servers ≡ 4
  pub server : d.server < 4
  pub phase : (server_of d t).phase ≡ Opening
  pub session : (server_of d t).session ≡ new
  pub register : t.state.records.register.session ≡ new
  pub known : length (server_of d t).known ≡ 7
  pub marks : length (server_of d t).marks ≡ 7
  pub dropped : (i : ℕ) → get_or (server_of d t).dropped i false ≡ false

-- replica i is known and as the server has it: no valid place lies above its mark, which is the recorded one, and it has promised the session
pub record Good (h : Shape) (d : Recovery) (new : ℕ) (t : Trail) (i : ℕ) : Type 0 where
  pub active : active_at (server_of d t) i ≡ true
  pub mark : mark_of h.places (medium_at h.places i t.state.media) ≡ mark_at (server_of d t) i
  pub slot : HasSlot (medium_at h.places i t.state.media)
  pub promise : (stored_slot (medium_at h.places i t.state.media)).promise ≡ new
  pub sound : Sound h.places (medium_at h.places i t.state.media)

-- nothing about replica i has changed from one trail to another
pub record Same (h : Shape) (d : Recovery) (t t' : Trail) (i : ℕ) : Type 0 where
  pub medium : medium_at h.places i t'.state.media ≡ medium_at h.places i t.state.media
  pub active : active_at (server_of d t') i ≡ active_at (server_of d t) i
  pub mark : mark_at (server_of d t') i ≡ mark_at (server_of d t) i

pub same_then : (h : Shape) (d : Recovery) (t u v : Trail) (i : ℕ) → Same h d t u i → Same h d u v i → Same h d t v i
same_then h d t u v i a b =
    record { medium = b.medium ∙ a.medium; active = b.active ∙ a.active; mark = b.mark ∙ a.mark }

pub still_good : (h : Shape) (d : Recovery) (s : ℕ) (t u : Trail) (i : ℕ) → Same h d t u i → Good h d s t i → Good h d s u i
still_good h d s t u i e g =
    record {
      active = e.active ∙ g.active;
      mark = ap (mark_of h.places) e.medium ∙ g.mark ∙ sym e.mark;
      slot = subst⁻¹ HasSlot e.medium g.slot;
      promise = ap (λ (m : List ℕ). (stored_slot m).promise) e.medium ∙ g.promise;
      sound = subst⁻¹ (Sound h.places) e.medium g.sound;
    }

-- what is known of a trail is known of its state
pub same_state : (h : Shape) (d : Recovery) (t u : Trail) (i : ℕ) → u.state ≡ t.state → Same h d t u i
same_state h d t u i e =
    record {
      medium = ap (λ (x : State). medium_at h.places i x.media) e;
      active = ap (λ (x : State). active_at (server_at x.records d.server) i) e;
      mark = ap (λ (x : State). mark_at (server_at x.records d.server) i) e;
    }

pub underway_state : (h : Shape) (d : Recovery) (new : ℕ) (t u : Trail) → u.state ≡ t.state → Underway h d new t → Underway h d new u
underway_state h d new t u e U =
    record {
      steady = subst⁻¹ (Steady h) e U.steady;
      servers = ap (λ (x : State). length x.records.servers) e ∙ U.servers;
      server = U.server;
      phase = ap (λ (x : State). (server_at x.records d.server).phase) e ∙ U.phase;
      session = ap (λ (x : State). (server_at x.records d.server).session) e ∙ U.session;
      register = ap (λ (x : State). x.records.register.session) e ∙ U.register;
      known = ap (λ (x : State). length (server_at x.records d.server).known) e ∙ U.known;
      marks = ap (λ (x : State). length (server_at x.records d.server).marks) e ∙ U.marks;
      dropped = λ i. ap (λ (x : State). get_or (server_at x.records d.server).dropped i false) e ∙ U.dropped i;
    }

-- ---- a server's record in which replica i was set

module _ (v : Server) (i : ℕ) (known dropped : Bool) (mark : ℕ) where
  abbrev w : Server
  w = with_replica v i known dropped mark

  pub other_active : (j : ℕ) → (j ≡ i → ⊥) → active_at w j ≡ active_at v j
  other_active j e =
      rw (get_or-set_other v.known i j known false e, get_or-set_other v.dropped i j dropped false e)

  pub other_mark_lem : (j : ℕ) → (j ≡ i → ⊥) → mark_at w j ≡ mark_at v j
  other_mark_lem j e = get_or-set_other v.marks i j mark 0 e

-- replica i was heard
pub heard_active : (v : Server) (i mark : ℕ) → i < length v.known → get_or v.dropped i false ≡ false
    → active_at (with_replica v i true false mark) i ≡ true
heard_active v i mark l e =
    let q : get_or (set v.dropped i false) i false ≡ false = set_any (λ (b : Bool). b ≡ false) v.dropped i i false false e refl in
    rw (get_or-set_same v.known i true false l, q)

pub heard_mark : (v : Server) (i mark : ℕ) → i < length v.marks → mark_at (with_replica v i true false mark) i ≡ mark
heard_mark v i mark l = get_or-set_same v.marks i mark 0 l

-- ---- take

module _ (h : Shape) (d : Recovery) (t : Trail) (steady : Steady h t.state) (four : length t.state.records.servers ≡ 4)
    (passes : first_of (rows_of h t.state (taking d t)) ≡ pass) (answered : fate_at d t.count ≡ Answered)
    (top : session_at_top t.state.records.register.session ≡ false) where
  abbrev x : State
  x = t.state

  abbrev new : ℕ
  new = x.records.register.session + 1

  abbrev g : Register
  g = raised_session x.records.register

  abbrev u : Trail
  u = one h t (taking d t)

  -- what a take with answer leaves
  after_take_lem : u ≡ record { state = with_register_and_server x d.server g (opening_server g); reply = ok (new ∷ []); count = t.count + 1 }
  unfolding step unless take_effect
  after_take_lem = rw (passes, answered, top)

  its_server : d.server < 4 → server_of d u ≡ opening_server g
  its_server l = ap (server_of d) after_take_lem ∙ get_or-set_same x.records.servers d.server (opening_server g) no_server (omega (arith, l, four))

  pub taken_underway : d.server < 4 → Underway h d new u
  taken_underway l =
      let v = its_server l in
      record {
        steady = steady_take h d t steady;
        servers = ap (λ (z : Trail). length z.state.records.servers) after_take_lem ∙ length-set x.records.servers d.server (opening_server g) ∙ four;
        server = l;
        phase = ap (λ (z : Server). z.phase) v;
        session = ap (λ (z : Server). z.session) v;
        register = ap (λ (z : Trail). z.state.records.register.session) after_take_lem;
        known = ap (λ (z : Server). length z.known) v;
        marks = ap (λ (z : Server). length z.marks) v;
        dropped = λ i. ap (λ (z : Server). get_or z.dropped i false) v ∙ equal_at 7 i false;
      }

  -- the new session knows no replica, and media stay
  pub taken_none : d.server < 4 → (i : ℕ) → active_at (server_of d u) i ≡ false
  taken_none l i =
      let z : get_or (opening_server g).known i false ≡ false = equal_at 7 i false in
      ap (λ (v : Server). active_at v i) (its_server l) ∙ ap (λ (b : Bool). b && not (get_or (opening_server g).dropped i false)) z

  -- it is handed the register's entries, so that it knows who is restored
  pub taken_entries : d.server < 4 → (server_of d u).entries ≡ x.records.register.entries
  taken_entries l = ap (λ (v : Server). v.entries) (its_server l)

  pub taken_media : u.state.media ≡ x.media
  taken_media = ap (λ (z : Trail). z.state.media) after_take_lem

  pub taken_reply : u.reply ≡ ok (new ∷ [])
  taken_reply = ap (λ (z : Trail). z.reply) after_take_lem

-- ---- the server's record has replica i set, known or forgotten: still on its way

module _ (h : Shape) (d : Recovery) (new : ℕ) (t : Trail) (U : Underway h d new t) (i : ℕ) (known : Bool) (mark : ℕ)
    (u : Trail) (e : u.state.records ≡ put_server t.state.records d.server (with_replica (server_of d t) i known false mark)) where
  pub set_server : server_of d u ≡ with_replica (server_of d t) i known false mark
  set_server =
      ap (λ (r : Records). server_at r d.server) e
      ∙ get_or-set_same t.state.records.servers d.server (with_replica (server_of d t) i known false mark) no_server (omega (arith, U.server, U.servers))

  pub set_underway : Steady h u.state → Underway h d new u
  set_underway s =
      record {
        steady = s;
        servers = ap (λ (r : Records). length r.servers) e ∙ length-set t.state.records.servers d.server (with_replica (server_of d t) i known false mark) ∙ U.servers;
        server = U.server;
        phase = ap (λ (v : Server). v.phase) set_server ∙ U.phase;
        session = ap (λ (v : Server). v.session) set_server ∙ U.session;
        register = ap (λ (r : Records). r.register.session) e ∙ U.register;
        known = ap (λ (v : Server). length v.known) set_server ∙ length-set (server_of d t).known i known ∙ U.known;
        marks = ap (λ (v : Server). length v.marks) set_server ∙ length-set (server_of d t).marks i mark ∙ U.marks;
        dropped = λ j. ap (λ (v : Server). get_or v.dropped j false) set_server
            ∙ set_any (λ (b : Bool). b ≡ false) (server_of d t).dropped i j false false (U.dropped j) refl;
      }

-- ---- a replica is heard: its medium is another one, and the server has its mark

module _ (h : Shape) (d : Recovery) (new : ℕ) (t : Trail) (U : Underway h d new t) (i : ℕ) (l : i < h.replicas) (seven : h.replicas ≤ 7)
    (m : List ℕ) (long : length m ≡ medium_size h.places) (size : length t.state.media ≡ h.replicas * medium_size h.places)
    (u : Trail) (e : u.state ≡ with_medium_and_server h.places t.state d.server i m (with_replica (server_of d t) i true false (mark_of h.places m))) where
  same_records : u.state.records ≡ put_server t.state.records d.server (with_replica (server_of d t) i true false (mark_of h.places m))
  same_records = ap (λ (x : State). x.records) e

  heard_server : server_of d u ≡ with_replica (server_of d t) i true false (mark_of h.places m)
  heard_server = set_server h d new t U i true (mark_of h.places m) u same_records

  pub heard_underway : Steady h u.state → Underway h d new u
  heard_underway = set_underway h d new t U i true (mark_of h.places m) u same_records

  pub heard_other : (j : ℕ) → (j ≡ i → ⊥) → Same h d t u j
  heard_other j n =
      record {
        medium = ap (λ (x : State). medium_at h.places j x.media) e
            ∙ block_other (medium_size h.places) h.replicas i m t.state.media l long size j (λ q. n (sym q));
        active = ap (λ (v : Server). active_at v j) heard_server ∙ other_active (server_of d t) i true false (mark_of h.places m) j n;
        mark = ap (λ (v : Server). mark_at v j) heard_server ∙ other_mark_lem (server_of d t) i true false (mark_of h.places m) j n;
      }

  heard_medium : medium_at h.places i u.state.media ≡ m
  heard_medium = ap (λ (x : State). medium_at h.places i x.media) e ∙ block_same (medium_size h.places) h.replicas i m t.state.media l long size

  pub heard_now : mark_at (server_of d u) i ≡ mark_of h.places m
  heard_now = ap (λ (v : Server). mark_at v i) heard_server ∙ heard_mark (server_of d t) i (mark_of h.places m) (omega (arith, l, seven, U.marks))

  pub heard_good : HasSlot m → (stored_slot m).promise ≡ new → Sound h.places m → Good h d new u i
  heard_good slot promise sound =
      record {
        active = ap (λ (v : Server). active_at v i) heard_server ∙ heard_active (server_of d t) i (mark_of h.places m) (omega (arith, l, seven, U.known)) (U.dropped i);
        mark = ap (mark_of h.places) heard_medium ∙ sym heard_now;
        slot = subst⁻¹ HasSlot heard_medium slot;
        promise = ap (λ (z : List ℕ). (stored_slot z).promise) heard_medium ∙ promise;
        sound = subst⁻¹ (Sound h.places) heard_medium sound;
      }
