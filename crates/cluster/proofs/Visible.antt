-- What the calls on a cluster of r replicas read of a state: all but the entries and recorded marks from r up. What a call does with the
-- register's or a server's record is the same on what is read of it, but for what is not read. The theorem over `step` is in proofs/Unread.
-- Assumes nothing.
use mathlib.Core.Path.{◌≡◌, refl, sym, ap, ap₂, ◌∙◌}
use mathlib.Core.Bool.{Bool, true, false, not, cond, ◌&&◌}
use mathlib.Core.List.{List, [], ◌∷◌, map}
use Prim.Native.Nat.{ℕ, zero, suc, ◌≤◌, ◌<◌}
use native.Mathlib.Omega.{arith}
use lib.ListN.{get_or, set, take, replicate}
use lib.Seq.{get_or-take, take-take, take-nil, take-set-lt}
use lib.Dec.{eqb}
use Rattle.base.specs.Below.{up_to}
use Rattle.base.proofs.Same.{Same, up_to_same}
use Rattle.quorum.proofs.Same.{majority_same, decided_same}
use Rattle.fate.specs.declared.Fate.{Fate}
use Rattle.cluster.specs.declared.Entry.{Entry}
use Rattle.cluster.specs.declared.Register.{Register}
use Rattle.cluster.specs.declared.Server.{Server}
use Rattle.cluster.specs.declared.Request.{Request}
use Rattle.cluster.specs.State.{State, fresh_entry, idle_server, no_server, server_at, entry_at, mark_at, member_at, active_at, is_restored, restored_at, votes_at}
use Rattle.cluster.specs.Refusals.{answered, is_open, undecided, vote_mark, clean_at}
use Rattle.cluster.specs.Effects.{with_replica, heard, acknowledge, after_message, issued_server, opening_server, entry_after, opened_register, opened_server, restored_entry, restored_register}

-- ---- the definition

abbrev pub visible_register : ℕ → Register → Register
visible_register r g = record { session = g.session; generation = g.generation; entries = take r g.entries }

abbrev pub visible_server : ℕ → Server → Server
visible_server r v =
    record {
      phase = v.phase;
      session = v.session;
      generation = v.generation;
      entries = take r v.entries;
      known = v.known;
      dropped = v.dropped;
      marks = take r v.marks;
      start = v.start;
      issued = v.issued;
      acked = v.acked;
      held = v.held;
    }

abbrev pub visible : ℕ → State → State
visible r x =
    record {
      records = record { register = visible_register r x.records.register; servers = map (visible_server r) x.records.servers };
      media = x.media;
      tables = x.tables;
    }

-- ---- lists

get_d_map : {A : Type 0} (f : A → A) (l : List A) (i : ℕ) (d : A) → f d ≡ d → get_or (map f l) i d ≡ f (get_or l i d)
get_d_map f [] i d e = sym e
get_d_map f (a ∷ l) zero d e = refl
get_d_map f (a ∷ l) (suc i) d e = get_d_map f l i d e

map_twice : {A : Type 0} (f : A → A) (l : List A) → ((a : A) → f (f a) ≡ f a) → map f (map f l) ≡ map f l
map_twice f [] e = refl
map_twice f (a ∷ l) e = ap₂ (λ b m. b ∷ m) (e a) (map_twice f l e)

-- an element put into a list, or into what is read of it
map_put : {A : Type 0} (f : A → A) (l : List A) (i : ℕ) (a b : A) → ((c : A) → f (f c) ≡ f c) → f a ≡ f b → map f (set (map f l) i a) ≡ map f (set l i b)
map_put f [] i a b t e = refl
map_put f (c ∷ l) zero a b t e = ap₂ (λ d m. d ∷ m) e (map_twice f l t)
map_put f (c ∷ l) (suc i) a b t e = ap₂ (λ d m. d ∷ m) (t c) (map_put f l i a b t e)

take_put : {A : Type 0} (r : ℕ) (l : List A) (i : ℕ) (a : A) → i < r → take r (set (take r l) i a) ≡ take r (set l i a)
take_put r l i a h = take-set-lt r (take r l) i a h ∙ ap (λ m. set m i a) (take-take r r l (omega arith)) ∙ sym (take-set-lt r l i a h)

take_up_to : {A : Type 0} (f : ℕ → A) (l : List A) (r n : ℕ) → n ≤ r → take r (up_to f (take r l) n) ≡ take r (up_to f l n)
unfolding up_to
take_up_to f l r zero h = take-take r r l (omega arith)
take_up_to f l r (suc n) h =
    take-set-lt r (up_to f (take r l) n) n (f n) (omega arith)
    ∙ ap (λ m. set m n (f n)) (take_up_to f l r n (omega arith))
    ∙ sym (take-set-lt r (up_to f l n) n (f n) (omega arith))

-- ---- the records

server_again : (r : ℕ) (v : Server) → visible_server r (visible_server r v) ≡ visible_server r v
server_again r v = rw (take-take r r v.entries (omega arith), take-take r r v.marks (omega arith))

pub register_again : (r : ℕ) (g : Register) → visible_register r (visible_register r g) ≡ visible_register r g
register_again r g = rw (take-take r r g.entries (omega arith))

no_server_lem : (r : ℕ) → visible_server r no_server ≡ no_server
no_server_lem r = rw (take-nil {A = Entry} r, take-nil {A = ℕ} r)

-- the marks that are read are the same
marks_agree : (r : ℕ) (v w : Server) → visible_server r v ≡ visible_server r w → Same r (mark_at v) (mark_at w)
marks_agree r v w e i h = sym (get_or-take r v.marks i 0 h) ∙ ap (λ (u : Server). mark_at u i) e ∙ get_or-take r w.marks i 0 h

pub server_is : (r : ℕ) (x : State) (s : ℕ) → server_at (visible r x).records s ≡ visible_server r (server_at x.records s)
server_is r x s = get_d_map (visible_server r) x.records.servers s no_server (no_server_lem r)

-- what the refusals look at
module _ (r : ℕ) (v : Server) where
  pub mark_same : Same r (mark_at (visible_server r v)) (mark_at v)
  mark_same i h = get_or-take r v.marks i 0 h

  pub restored_same : (i : ℕ) → i < r → restored_at (visible_server r v) i ≡ restored_at v i
  restored_same i h = ap (λ (e : Entry). is_restored e.closing) (get_or-take r v.entries i fresh_entry h)

  votes_same : Same r (votes_at (visible_server r v)) (votes_at v)
  votes_same i h = ap (λ (b : Bool). active_at v i && not b) (restored_same i h)

  pub undecided_same : undecided r (visible_server r v) ≡ undecided r v
  undecided_same = ap not (decided_same r (votes_at (visible_server r v)) (votes_at v) (mark_at (visible_server r v)) (mark_at v) votes_same mark_same)

  pub vote_mark_same : vote_mark r (visible_server r v) ≡ vote_mark r v
  vote_mark_same = majority_same r (votes_at (visible_server r v)) (votes_at v) (mark_at (visible_server r v)) (mark_at v) votes_same mark_same

  pub clean_same : (d : ℕ) → Same r (clean_at (visible_server r v) d) (clean_at v d)
  clean_same d i h = ap (λ (m : ℕ). active_at v i && eqb m d) (mark_same i h)

-- ---- what a call makes of them

pub opening_same : (b : Bool) (r : ℕ) (g : Register) → visible_server r (cond b (opening_server (visible_register r g)) idle_server) ≡ visible_server r (cond b (opening_server g) idle_server)
opening_same true r g = rw (take-take r r g.entries (omega arith))
opening_same false r g = refl

module _ (r : ℕ) (v : Server) where
  replica_same : (i m : ℕ) (known dropped : Bool) → i < r → visible_server r (with_replica (visible_server r v) i known dropped m) ≡ visible_server r (with_replica v i known dropped m)
  replica_same i m known dropped h = rw (take-take r r v.entries (omega arith), take_put r v.marks i m h)

  pub message_same : (f : Fate) (i m : ℕ) → i < r → visible_server r (after_message f (visible_server r v) i m) ≡ visible_server r (after_message f v i m)
  message_same f i m h = go (answered f) (is_open v.phase)
    where
      go :
          (a b : Bool)
          → visible_server r (cond a (heard (visible_server r v) i m) (cond b (with_replica (visible_server r v) i true true (mark_at (visible_server r v) i)) (with_replica (visible_server r v) i false false 0)))
          ≡ visible_server r (cond a (heard v i m) (cond b (with_replica v i true true (mark_at v i)) (with_replica v i false false 0)))
      go true b = replica_same i m true false h
      go false true = rw (mark_same r v i h) (replica_same i (mark_at v i) true true h)
      go false false = replica_same i 0 false false h

  pub issued_same : (q : Request) (content : List ℕ) → visible_server r (issued_server (visible_server r v) q content) ≡ visible_server r (issued_server v q content)
  issued_same q content = rw (take-take r r v.entries (omega arith), take-take r r v.marks (omega arith))

  pub opened_same : (b : Bool) (d : ℕ) → visible_server r (cond b (opened_server r (visible_server r v) d) idle_server) ≡ visible_server r (cond b (opened_server r v d) idle_server)
  unfolding opened_server
  opened_same false d = refl
  opened_same true d =
      rw (
        take-take r r v.entries (omega arith),
        up_to_same r (clean_at (visible_server r v) d) (clean_at v d) (replicate 7 false) (clean_same r v d),
        up_to_same r (λ i. cond (clean_at (visible_server r v) d i) d 0) (λ i. cond (clean_at v d i) d 0) (replicate 7 0) (λ i h. ap (λ (b : Bool). cond b d 0) (clean_same r v d i h)),
      )

  pub opened_register_lem : (g : Register) (d : ℕ) → visible_register r (opened_register r (visible_register r g) (visible_server r v) d) ≡ visible_register r (opened_register r g v d)
  unfolding opened_register
  opened_register_lem g d =
      let f : ℕ → Entry = λ i. entry_after (entry_at g.entries i) (clean_at v d i) v.session d in
      let k : ℕ → Entry = λ i. entry_after (entry_at (take r g.entries) i) (clean_at (visible_server r v) d i) v.session d in
      let same : Same r k f = λ i h. rw (clean_same r v d i h, get_or-take r g.entries i fresh_entry h) in
      let es = take_up_to k g.entries r r (omega arith) ∙ ap (take r) (up_to_same r k f g.entries same) in
      rw es

acknowledged_same : (r : ℕ) (v w : Server) → visible_server r v ≡ visible_server r w → visible_server r (acknowledge r v) ≡ visible_server r (acknowledge r w)
acknowledged_same r v w e =
    ap₂ (λ (u : Server) (a : ℕ). record { phase = u.phase; session = u.session; generation = u.generation; entries = u.entries; known = u.known; dropped = u.dropped; marks = u.marks; start = u.start; issued = u.issued; acked = a; held = u.held })
    e (majority_same r (member_at v) (member_at w) (mark_at v) (mark_at w) (λ i h. ap (λ (u : Server). member_at u i) e) (marks_agree r v w e))

pub raised_same : (b : Bool) (r : ℕ) (v w : Server) → visible_server r v ≡ visible_server r w → visible_server r (cond b (acknowledge r v) v) ≡ visible_server r (cond b (acknowledge r w) w)
raised_same true r v w e = acknowledged_same r v w e
raised_same false r v w e = e

pub restored_register_lem : (r i : ℕ) (g : Register) → i < r
    → visible_register r (restored_register (visible_register r g) i) ≡ visible_register r (restored_register g i)
restored_register_lem r i g h =
    rw (get_or-take r g.entries i fresh_entry h, take_put r g.entries i (restored_entry (entry_at g.entries i)) h)

-- register, server s, media and tables put into a state, and into what is read of it
module _ (r : ℕ) (x : State) where
  pub put_same : (g k : Register) (s : ℕ) (v w : Server) (media tables : List ℕ)
      → visible_register r k ≡ visible_register r g
      → visible_server r w ≡ visible_server r v
      → visible r (record { records = record { register = g; servers = set x.records.servers s v }; media = media; tables = tables })
      ≡ visible r (record { records = record { register = k; servers = set (visible r x).records.servers s w }; media = media; tables = tables })
  put_same g k s v w media tables e d =
      ap₂ (λ (u : Register) (l : List Server). record { records = record { register = u; servers = l }; media = media; tables = tables })
      (sym e) (sym (map_put (visible_server r) x.records.servers s w v (server_again r) d))

  -- the same, with every server as it is
  pub register_put : (g k : Register) (media : List ℕ)
      → visible_register r k ≡ visible_register r g
      → visible r (record { records = record { register = g; servers = x.records.servers }; media = media; tables = x.tables })
      ≡ visible r (record { records = record { register = k; servers = (visible r x).records.servers }; media = media; tables = x.tables })
  register_put g k media e =
      ap₂ (λ (u : Register) (l : List Server). record { records = record { register = u; servers = l }; media = media; tables = x.tables })
      (sym e) (sym (map_twice (visible_server r) x.records.servers (server_again r)))

  pub state_again : visible r x ≡ visible r (visible r x)
  state_again =
      ap₂ (λ (u : Register) (l : List Server). record { records = record { register = u; servers = l }; media = x.media; tables = x.tables })
      (sym (register_again r x.records.register)) (sym (map_twice (visible_server r) x.records.servers (server_again r)))
