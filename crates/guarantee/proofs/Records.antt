-- A server's record after a message, and the tie of all servers with it.
-- Assumes nothing.
use mathlib.Core.Path.{◌≡◌, refl, sym, ap, ◌∙◌, subst⁻¹}
use mathlib.Core.Logic.{◌≢◌}
use mathlib.Core.Bool.{Bool, true, false, cond, ◌&&◌}
use mathlib.Core.List.{List}
use Prim.Native.Nat.{ℕ, ◌≤◌, ◌<◌}
use native.Mathlib.Omega.{arith}
use native.Mathlib.Decide.{ℕ_discrete}
use lib.ListN.{get_or, set, length-set}
use lib.Seq.{get_or-set_same, get_or-set_other}
use Rattle.cluster.specs.declared.Phase.{Phase}
use Rattle.cluster.specs.declared.Phase.TheVariants.{Opening, Open}
use Rattle.cluster.specs.declared.Server.{Server}
use Rattle.cluster.specs.State.{no_server, mark_at, member_at, active_at, table_at}
use Rattle.cluster.specs.Refusals.{is_open}
use Rattle.cluster.specs.Effects.{with_replica, unheard, acknowledge}
use Rattle.guarantee.proofs.Ties.{Row, OpeningTie, OpenTie, Sized, ServersTie}
use Rattle.guarantee.proofs.Frames.{stay_frame}
use Rattle.guarantee.proofs.Facts.{opening_lives, open_lives}

-- ================ the server's record

pub unheard_opening : (v : Server) (i : ℕ) → v.phase ≡ Opening → unheard v i ≡ with_replica v i false false 0
unheard_opening v i p =
    ap (λ (q : Phase). cond (is_open q) (with_replica v i true true (mark_at v i)) (with_replica v i false false 0)) p

pub unheard_open : (v : Server) (i : ℕ) → v.phase ≡ Open → unheard v i ≡ with_replica v i true true (mark_at v i)
unheard_open v i p =
    ap (λ (q : Phase). cond (is_open q) (with_replica v i true true (mark_at v i)) (with_replica v i false false 0)) p

-- a row with other known replicas and recorded marks
abbrev pub row_heard : Row → (ℕ → Bool) → (ℕ → ℕ) → Row
row_heard ρ known recorded =
    record {
      phase = ρ.phase;
      handed_unresolved = ρ.handed_unresolved;
      handed_closing = ρ.handed_closing;
      handed_restored = ρ.handed_restored;
      known = known;
      recorded = recorded;
      member = ρ.member;
      start = ρ.start;
      issued = ρ.issued;
      log = ρ.log;
      estimate = ρ.estimate;
    }

module _ (R : ℕ) (v : Server) (i : ℕ) (few : R ≤ 7) (l : i < R) (z : Sized v) where
  pub sized_after : (k d : Bool) (mark : ℕ) → Sized (with_replica v i k d mark)
  sized_after k d mark =
      record {
        known = length-set v.known i k ∙ z.known;
        dropped = length-set v.dropped i d ∙ z.dropped;
        marks = length-set v.marks i mark ∙ z.marks;
        held = z.held;
      }

  -- known, or not known any more
  module _ (k : Bool) (mark : ℕ) (ρ : Row) (T : OpeningTie R v ρ) (known : ℕ → Bool) (recorded : ℕ → ℕ)
      (here : known i ≡ k) (heard : k ≡ true → mark ≡ recorded i)
      (others : (j : ℕ) → i ≢ j → known j ≡ ρ.known j) (others' : (j : ℕ) → i ≢ j → recorded j ≡ ρ.recorded j) where
    pub opening_after : OpeningTie R (with_replica v i k false mark) (row_heard ρ known recorded)
    opening_after =
        record {
          phase = T.phase;
          restored = T.restored;
          unresolved = T.unresolved;
          closing = T.closing;
          known = λ j b. active j b (ℕ_discrete i j);
          recorded = λ j b q. marked j b q (ℕ_discrete i j);
        }
      where
        active : (j : ℕ) → j < R → Dec (i ≡ j) → active_at (with_replica v i k false mark) j ≡ known j
        active j b (yes e) =
            rw (← e, get_or-set_same v.known i k false (omega (arith, z.known)), get_or-set_same v.dropped i false false (omega (arith, z.dropped)), here)
            (and_true k)
          where
            and_true : (k : Bool) → (k && true) ≡ k
            and_true true = refl
            and_true false = refl
        active j b (no d) =
            rw (get_or-set_other v.known i j k false (λ e. d (sym e)), get_or-set_other v.dropped i j false false (λ e. d (sym e)))
            (T.known j b ∙ sym (others j d))

        marked : (j : ℕ) → j < R → known j ≡ true → Dec (i ≡ j) → mark_at (with_replica v i k false mark) j ≡ recorded j
        marked j b q (yes e) =
            let n : mark_at (with_replica v i k false mark) i ≡ mark = get_or-set_same v.marks i mark 0 (omega (arith, z.marks)) in
            rw (← e) (n ∙ heard (sym here ∙ ap known e ∙ q))
        marked j b q (no d) =
            get_or-set_other v.marks i j mark 0 (λ e. d (sym e)) ∙ T.recorded j b (sym (others j d) ∙ q) ∙ sym (others' j d)

  -- a member stays one, dropped or not
  module _ (d : Bool) (mark : ℕ) (table : List ℕ) (ρ : Row) (T : OpenTie R v table ρ) (known : ℕ → Bool) (recorded : ℕ → ℕ)
      (member : ρ.member i ≡ true) (heard : mark ≡ recorded i) (others : (j : ℕ) → i ≢ j → recorded j ≡ ρ.recorded j) where
    pub members_after : (j : ℕ) → j < R → member_at (with_replica v i true d mark) j ≡ ρ.member j
    members_after j b = go (ℕ_discrete i j)
      where
        go : Dec (i ≡ j) → member_at (with_replica v i true d mark) j ≡ ρ.member j
        go (yes e) =
            let n : member_at (with_replica v i true d mark) i ≡ true = get_or-set_same v.known i true false (omega (arith, z.known)) in
            rw (← e) (n ∙ sym member)
        go (no o) = get_or-set_other v.known i j true false (λ e. o (sym e)) ∙ T.member j b

    pub marks_after : (j : ℕ) → j < R → ρ.member j ≡ true → mark_at (with_replica v i true d mark) j ≡ recorded j
    marks_after j b q = go (ℕ_discrete i j)
      where
        go : Dec (i ≡ j) → mark_at (with_replica v i true d mark) j ≡ recorded j
        go (yes e) =
            let n : mark_at (with_replica v i true d mark) i ≡ mark = get_or-set_same v.marks i mark 0 (omega (arith, z.marks)) in
            rw (← e) (n ∙ heard)
        go (no o) = get_or-set_other v.marks i j mark 0 (λ e. o (sym e)) ∙ T.recorded j b q ∙ sym (others j o)

    pub open_after : OpenTie R (with_replica v i true d mark) table (row_heard ρ known recorded)
    open_after =
        record {
          phase = T.phase;
          member = members_after;
          recorded = marks_after;
          start = T.start;
          issued = T.issued;
          held = T.held;
          written = T.written;
          estimate = T.estimate;
          entered = T.entered;
        }

-- the acknowledged mark is not tied
pub sized_acknowledged : (R : ℕ) (v : Server) → Sized v → Sized (acknowledge R v)
sized_acknowledged R v z = record { known = z.known; dropped = z.dropped; marks = z.marks; held = z.held }

pub open_acknowledged : (R : ℕ) (v : Server) (table : List ℕ) (ρ : Row) → OpenTie R v table ρ → OpenTie R (acknowledge R v) table ρ
open_acknowledged R v table ρ T =
    record {
      phase = T.phase;
      member = T.member;
      recorded = T.recorded;
      start = T.start;
      issued = T.issued;
      held = T.held;
      written = T.written;
      estimate = T.estimate;
      entered = T.entered;
    }

-- ================ all servers

module _ (R : ℕ) (servers : List Server) (tables : List ℕ) (current : ℕ → ℕ) (rows : ℕ → Row) (T : ServersTie R servers tables current rows)
    (s : ℕ) (l : s < 4) (w : Server) (rows' : ℕ → Row) (others : (u : ℕ) → (get_or servers s no_server).session ≢ u → rows' u ≡ rows u)
    (session : w.session ≡ (get_or servers s no_server).session) (sized : Sized w) where
  abbrev old : Server
  old = get_or servers s no_server

  pub opening_frame : (get_or servers s no_server).phase ≡ Opening → w.phase ≡ Opening → OpeningTie R w (rows' (get_or servers s no_server).session)
      → ServersTie R (set servers s w) tables current rows'
  opening_frame p q new =
      stay_frame R servers tables current rows T s l (opening_lives old p) w rows' session others
      (record {
        sized = sized;
        current = λ a. (T.each s l).current (opening_lives old p) ∙ sym session;
        opening = λ a. subst⁻¹ (λ (u : ℕ). OpeningTie R w (rows' u)) session new;
        serving = λ a. let e : ◌≡◌ {A = ℕ} 0 1 = cc in absurd (omega arith);
      })

  pub open_frame : (get_or servers s no_server).phase ≡ Open → w.phase ≡ Open → OpenTie R w (table_at s tables) (rows' (get_or servers s no_server).session)
      → ServersTie R (set servers s w) tables current rows'
  open_frame p q new =
      stay_frame R servers tables current rows T s l (open_lives old p) w rows' session others
      (record {
        sized = sized;
        current = λ a. (T.each s l).current (open_lives old p) ∙ sym session;
        opening = λ a. let e : ◌≡◌ {A = ℕ} 0 1 = cc in absurd (omega arith);
        serving = λ a. subst⁻¹ (λ (u : ℕ). OpenTie R w (table_at s tables) (rows' u)) session new;
      })
