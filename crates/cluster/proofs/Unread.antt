-- "Entries and recorded marks from R up are never read": two states that differ only there get the same reply and the same files and differ only there
-- afterwards. (That the register's entries from R up stay as they are is proofs/Beyond.) The theorem is `unread`.
-- Assumes nothing.
use mathlib.Core.Path.{◌≡◌, refl, sym, ap, ap₂, ◌∙◌}
use mathlib.Core.Bool.{Bool, true, false, not, cond, ◌&&◌, ◌||◌}
use mathlib.Core.List.{List, [], ◌∷◌, ◌++◌}
use Prim.Native.Nat.{ℕ, ◌+◌, ◌<◌}
use lib.ListN.{take}
use lib.Seq.{get_or-take}
use lib.Dec.{leb, eqb}
use borrow.Author.Tests.{leb-false}
use Rattle.base.proofs.Tests.{neither}
use Rattle.base.proofs.Same.{all_same, count_same}
use Rattle.fate.specs.declared.Fate.{Fate}
use Rattle.storage.specs.Log.{mark_of}
use Rattle.storage.specs.Operations.{medium_at, with_medium}
use Rattle.cluster.specs.declared.Shape.{Shape}
use Rattle.cluster.specs.declared.Entry.{Entry}
use Rattle.cluster.specs.declared.Register.{Register}
use Rattle.cluster.specs.declared.Server.{Server}
use Rattle.cluster.specs.declared.Call.{Call}
use Rattle.cluster.specs.declared.Call.TheVariants as call
use Rattle.cluster.specs.State.{State, fresh_entry, idle_server, server_at, put_server, put_register, entry_at, mark_at}
use Rattle.cluster.specs.Replies.{ok}
use Rattle.cluster.specs.Refusals.{Input, Row, closing_fits, entries_fit, server_fits, mark_above, answered, is_open, vote_mark, clean_at, session_at_top, session_differs, checks_of, rows_of, Verdict, pass, declined, first_of}
use Rattle.cluster.specs.Effects.{Result, no_bytes, acknowledge, after_message, reply_to, with_medium_and_server, message, prepare_effect, trim_effect, note_effect, looked, read_effect, export_effect, append_effect, arrives, raised_session, take_effect, open_effect, issue_effect, stop_effect, raised_generation, reassign_effect, restored_register, restored_medium, restore_effect}
use Rattle.cluster.specs.Step.{effect, unless, step, written, if_ok, files_after}
use Rattle.cluster.proofs.Rows.{condition_of, passed}
use Rattle.cluster.proofs.Visible.{visible_register, visible_server, visible, server_is, mark_same, restored_same, undecided_same, vote_mark_same, clean_same, message_same, issued_same, opening_same, opened_same, opened_register_lem, raised_same, put_same, register_again, restored_register_lem, register_put, state_again}

-- ---- the statement: `visible r x` is x without the entries and recorded marks from r up (proofs/Visible)

pub record Alike (r : ℕ) (a b : Result) : Type 0 where
  pub reply : a.reply ≡ b.reply
  pub bytes : a.bytes ≡ b.bytes
  pub state : visible r a.state ≡ visible r b.state

abbrev pub Statement : Type 0
Statement =
    (h : Shape) (x y : State) (p : Input)
    → visible h.replicas x ≡ visible h.replicas y
    → Alike h.replicas (step h x p) (step h y p) × (files_after h x p ≡ files_after h y p)

-- ---- refusal 2

entries_fit_lem : (h : Shape) (es : List Entry) → entries_fit h (take h.replicas es) ≡ entries_fit h es
unfolding entries_fit
entries_fit_lem h es =
    all_same h.replicas (λ i. closing_fits (entry_at (take h.replicas es) i).closing h.places) (λ i. closing_fits (entry_at es i).closing h.places)
    (λ i l. rw (get_or-take h.replicas es i _ l))

server_fits_lem : (h : Shape) (v : Server) → server_fits h (visible_server h.replicas v) ≡ server_fits h v
unfolding server_fits
server_fits_lem h v =
    rw (
      entries_fit_lem h v.entries,
      all_same h.replicas (λ i. leb (mark_at (visible_server h.replicas v) i) h.places) (λ i. leb (mark_at v i) h.places)
          (λ i l. ap (λ (m : ℕ). leb m h.places) (mark_same h.replicas v i l)),
    )

-- what an append leaves, by the medium after it
abbrev appended : ℕ → ℕ → State → ℕ → ℕ → Fate → List ℕ → Result
appended r N x s i f m =
    let v = server_at x.records s in
    let w = cond (is_open v.phase) (acknowledge r (after_message f v i (mark_of N m))) (after_message f v i (mark_of N m)) in
    record {
      state = with_medium_and_server N x s i m w;
      reply = reply_to f (ok (cond (is_open v.phase) w.acked (mark_of N m) ∷ []));
      bytes = no_bytes;
    }

module _ (h : Shape) (x : State) where
  abbrev r : ℕ
  r = h.replicas

  abbrev z : State
  z = visible r x

  above_same : mark_above h z.records ≡ mark_above h x.records
  unfolding mark_above
  above_same =
      ap₂ (λ (a b : Bool). not (a && b)) (entries_fit_lem h x.records.register.entries)
      (all_same 4 (λ s. server_fits h (server_at z.records s)) (λ s. server_fits h (server_at x.records s))
      (λ s l. ap (server_fits h) (server_is r x s) ∙ server_fits_lem h (server_at x.records s)))

  -- ---- the effect of the calls with a message, of server s

  module _ (s : ℕ) where
    abbrev v : Server
    v = server_at x.records s

    abbrev here : Server
    here = visible_server r v

    -- the state with server s's record put into it
    put_server_lem : (a b : Server) (media : List ℕ)
        → visible_server r b ≡ visible_server r a
        → visible r (record { records = put_server x.records s a; media = media; tables = x.tables })
        ≡ visible r (record { records = put_server z.records s b; media = media; tables = x.tables })
    put_server_lem a b media e =
        put_same r x x.records.register (visible_register r x.records.register) s a b media x.tables
        (register_again r x.records.register) e

    message_alike : (i : ℕ) (f : Fate) (m n : List ℕ) → n ≡ m → i < r
        → Alike r (message h.places x s i f m) (message h.places z s i f n)
    message_alike i f m n e l =
        let k = mark_of h.places m in
        record {
          reply = rw e;
          bytes = refl;
          state =
              rw (server_is r x s, e)
              (put_server_lem (after_message f v i k) (after_message f here i k) (with_medium h.places i m x.media)
              (message_same r v f i k l));
        }

    append_alike : (i : ℕ) (f : Fate) (m n : List ℕ) → n ≡ m → i < r
        → Alike r (appended r h.places x s i f m) (appended r h.places z s i f n)
    append_alike i f m n e l =
        let k = mark_of h.places m in
        let b = is_open v.phase in
        let same = raised_same b r (after_message f here i k) (after_message f v i k) (message_same r v f i k l) in
        record {
          reply = rw (server_is r x s, e) (ap (λ (u : Server). reply_to f (ok (cond b u.acked k ∷ []))) (sym same));
          bytes = refl;
          state = rw (server_is r x s, e) (put_server_lem _ _ (with_medium h.places i m x.media) same);
        }

    looked_alike : (i : ℕ) (f : Fate) → i < r → visible r (looked h.places x s i f) ≡ visible r (looked h.places z s i f)
    looked_alike i f l =
        let k = mark_of h.places (medium_at h.places i x.media) in
        rw (server_is r x s) (put_server_lem _ _ x.media (message_same r v f i k l))

    -- the same with the register's and the tables put in too
    put_all : (g k : Register) (a b : Server) (tables : List ℕ)
        → visible_register r k ≡ visible_register r g
        → visible_server r b ≡ visible_server r a
        → visible r (record { records = put_server (put_register x.records g) s a; media = x.media; tables = tables })
        ≡ visible r (record { records = put_server (put_register z.records k) s b; media = x.media; tables = tables })
    put_all g k a b tables d e = put_same r x g k s a b x.media tables d e

    take_alike : (f : Fate) → Alike r (take_effect x s f) (take_effect z s f)
    unfolding take_effect
    take_alike f = go (arrives f && not (session_at_top x.records.register.session)) refl
      where
        go :
            (a : Bool)
            → (arrives f && not (session_at_top x.records.register.session)) ≡ a
            → Alike r (take_effect x s f) (take_effect z s f)
        go true e =
            let g = raised_session x.records.register in
            record { reply = rw e; bytes = refl; state = rw e (put_all g _ _ _ x.tables (register_again r g) (opening_same (answered f) r g)) }
        go false e =
            let g = x.records.register in
            record { reply = rw e; bytes = refl; state = rw e (put_all g _ _ _ x.tables (register_again r g) (opening_same (answered f) r g)) }

    open_alike : (d e : ℕ) (f : Fate) → e ≡ d → Alike r (open_effect r d x s f) (open_effect r e z s f)
    unfolding open_effect
    open_alike d n f q = go (arrives f && not (session_differs x.records.register v)) refl
      where
        go :
            (a : Bool)
            → (arrives f && not (session_differs x.records.register v)) ≡ a
            → Alike r (open_effect r d x s f) (open_effect r n z s f)
        go true e =
            record {
              reply = rw q;
              bytes = refl;
              state = rw (server_is r x s, q, e) (put_all _ _ _ _ _ (opened_register_lem r v x.records.register d) (opened_same r v (answered f) d));
            }
        go false e =
            record {
              reply = rw q;
              bytes = refl;
              state = rw (server_is r x s, q, e) (put_all _ _ _ _ _ (register_again r x.records.register) (opened_same r v (answered f) d));
            }

  module _ (p : Input) where
    -- ---- the verdict

    abbrev list_for : State → Call → List Row
    list_for w c =
        let k = checks_of h w p c in
        k.admission ++ (k.sending ++ k.receiving)

    abbrev Verdicts : Call → Type 0
    Verdicts c = first_of (list_for x c) ≡ first_of (list_for z c)

    -- replica i is not below R, or its mark is read
    at : (i s : ℕ) (A : Type 0) → (leb r i ≡ true → A) → (leb r i ≡ false → mark_at (visible_server r (server_at x.records s)) i ≡ mark_at (server_at x.records s) i → A) → A
    at i s A out in' = go (leb r i) refl
      where
        go : (b : Bool) → leb r i ≡ b → A
        go true e = out e
        go false e = in' e (mark_same r (server_at x.records s) i (leb-false r i e))

    verdict : (c : Call) → Verdicts c
    unfolding first_of
    verdict (call.Take s f) = rw (server_is r x s, above_same)
    verdict (call.Prepare s i f) = rw (server_is r x s, above_same)
    verdict (call.Copy s a b f) =
        at a s _ (λ e. rw (server_is r x s, above_same, e))
        (λ l e. at b s _ (λ o. rw (server_is r x s, above_same, l, o)) (λ k o. rw (server_is r x s, above_same, e, o, restored_same r (server_at x.records s) a (leb-false r a l))))
    verdict (call.Trim s i f) =
        let v = server_at x.records s in
        at i s _ (λ e. rw (server_is r x s, above_same, e))
        (λ l e. rw (server_is r x s, above_same, undecided_same r v, vote_mark_same r v, e))
    verdict (call.Open s f) =
        let v = server_at x.records s in
        let d = vote_mark r v in
        let clean = count_same r (clean_at (visible_server r v) d) (clean_at v d) (clean_same r v d) in
        rw (server_is r x s, above_same, undecided_same r v, vote_mark_same r v, clean)
    verdict (call.Issue s q) = rw (server_is r x s, above_same)
    verdict (call.Send s i f) = at i s _ (λ e. rw (server_is r x s, above_same, e)) (λ l e. rw (server_is r x s, above_same, e))
    verdict (call.Note s i f) = at i s _ (λ e. rw (server_is r x s, above_same, e)) (λ l e. rw (server_is r x s, above_same, e))
    verdict (call.Read s i n f) = at i s _ (λ e. rw (server_is r x s, above_same, e)) (λ l e. rw (server_is r x s, above_same, e))
    verdict (call.Export s i f) = at i s _ (λ e. rw (server_is r x s, above_same, e)) (λ l e. rw (server_is r x s, above_same, e))
    verdict (call.Stop s) = rw (above_same)
    verdict call.Reassign = rw (above_same)
    verdict (call.Restore i) = rw (above_same)

    -- ---- the effect, and the call

    abbrev Effects : Call → Type 0
    Effects c = Alike r (effect h x p c) (effect h z p c)

    effects : (c : Call) → ((n : ℕ) → condition_of n (list_for x c) ≡ false) → Effects c
    unfolding prepare_effect trim_effect note_effect read_effect export_effect append_effect issue_effect stop_effect reassign_effect restore_effect
    effects (call.Take s f) none = take_alike s f
    effects (call.Prepare s i f) none =
        let l = leb-false r i (none 4) in
        message_alike s i f _ _ (rw (server_is r x s, get_or-take r (server_at x.records s).entries i fresh_entry l)) l
    effects (call.Copy s a b f) none =
        let l = leb-false r b (neither (leb r a) (leb r b) (neither (leb r a || leb r b) (eqb a b) (none 4)).0).1 in
        append_alike s b f _ _ (rw (server_is r x s, mark_same r (server_at x.records s) b l)) l
    effects (call.Trim s i f) none =
        let v = server_at x.records s in
        let l = leb-false r i (none 4) in
        message_alike s i f _ _ (rw (server_is r x s, vote_mark_same r v, mark_same r v i l)) l
    effects (call.Open s f) none =
        open_alike s _ _ f (rw (server_is r x s) (vote_mark_same r (server_at x.records s)))
    effects (call.Issue s q) none =
        record {
          reply = rw (server_is r x s);
          bytes = refl;
          state =
              rw (server_is r x s)
              (put_same r x x.records.register _ s _ _ x.media _ (register_again r x.records.register) (issued_same r (server_at x.records s) q p.content));
        }
    effects (call.Send s i f) none =
        let l = leb-false r i (none 4) in
        append_alike s i f _ _ (rw (server_is r x s, mark_same r (server_at x.records s) i l)) l
    effects (call.Note s i f) none =
        let l = leb-false r i (none 4) in
        message_alike s i f _ _ (rw (server_is r x s, mark_same r (server_at x.records s) i l)) l
    effects (call.Read s i n f) none =
        record { reply = refl; bytes = refl; state = looked_alike s i f (leb-false r i (none 4)) }
    effects (call.Export s i f) none =
        record { reply = refl; bytes = refl; state = looked_alike s i f (leb-false r i (none 4)) }
    effects (call.Stop s) none = record { reply = refl; bytes = refl; state = put_server_lem s idle_server idle_server x.media refl }
    effects call.Reassign none =
        record {
          reply = refl;
          bytes = refl;
          state = state_again r (record { records = put_register x.records (raised_generation x.records.register); media = x.media; tables = x.tables });
        }
    effects (call.Restore i) none =
        let g = x.records.register in
        record {
          reply = refl;
          bytes = refl;
          state =
              register_put r x (restored_register g i) _ (with_medium h.places i (restored_medium (g.session + 1) p.backup) x.media)
              (restored_register_lem r i g (leb-false r i (none 4)));
        }

    unless_alike : (d : Verdict) → (d ≡ pass → Effects p.call) → Alike r (unless d x (effect h x p p.call)) (unless d z (effect h z p p.call))
    unfolding unless
    unless_alike pass e = e refl
    unless_alike (declined n values) e = record { reply = refl; bytes = refl; state = state_again r x }

    of_visible : Alike r (step h x p) (step h z p)
    unfolding step
    of_visible =
        rw (← verdict p.call)
        (unless_alike (first_of (rows_of h x p)) (λ e. effects p.call (passed (rows_of h x p) e)))

    -- ---- the files

    abbrev Writes : Call → Type 0
    Writes c = written h x p c ≡ written h z p c

    writes : (c : Call) → ((n : ℕ) → condition_of n (list_for x c) ≡ false) → Writes c
    writes (call.Take s f) none = refl
    writes (call.Prepare s i f) none = refl
    writes (call.Copy s a b f) none = refl
    writes (call.Trim s i f) none = refl
    writes (call.Open s f) none = refl
    writes (call.Issue s q) none = refl
    writes (call.Send s i f) none = refl
    writes (call.Note s i f) none = refl
    writes (call.Read s i n f) none = refl
    writes (call.Export s i f) none = rw (server_is r x s, mark_same r (server_at x.records s) i (leb-false r i (none 4)))
    writes (call.Stop s) none = refl
    writes call.Reassign none = refl
    writes (call.Restore i) none = refl

    files_alike : (d : Verdict) → (d ≡ pass → Writes p.call)
        → if_ok (unless d x (effect h x p p.call)).reply (written h x p p.call) p.files
        ≡ if_ok (unless d x (effect h x p p.call)).reply (written h z p p.call) p.files
    unfolding unless if_ok
    files_alike pass e = rw (e refl)
    files_alike (declined n values) e = refl

    files_of_visible : files_after h x p ≡ files_after h z p
    unfolding step files_after
    files_of_visible =
        files_alike (first_of (rows_of h x p)) (λ e. writes p.call (passed (rows_of h x p) e))
        ∙ rw of_visible.reply

pub unread : Statement
unread h x y p e =
    let a = of_visible h x p in
    let b = of_visible h y p in
    let same : step h (visible h.replicas x) p ≡ step h (visible h.replicas y) p = ap (λ (w : State). step h w p) e in (
      record {
        reply = a.reply ∙ ap (λ (k : Result). k.reply) same ∙ sym b.reply;
        bytes = a.bytes ∙ ap (λ (k : Result). k.bytes) same ∙ sym b.bytes;
        state = a.state ∙ ap (λ (k : Result). visible h.replicas k.state) same ∙ sym b.state;
      },
      files_of_visible h x p ∙ ap (λ (w : State). files_after h w p) e ∙ sym (files_of_visible h y p),
    )
