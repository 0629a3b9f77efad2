-- ALL THAT THE EARLIER OF TWO OPENED SESSIONS EVER ACKNOWLEDGES IS IN THE LATER ONE'S LOG, the same bytes and of the same issue call: `whole`.
-- It follows from (1) and (2) of the guarantee, since a session acknowledges all up to its starting mark.
-- The statement comes first, then its proof.
-- Assumes nothing.
use mathlib.Core.Path.{◌≡◌}
use mathlib.Core.Bool.{Bool, true, false, cond}
use mathlib.Core.List.{List, [], ◌∷◌}
use mathlib.Core.Option.{some}
use Prim.Native.Nat.{ℕ, ◌≤◌, ◌<◌}
use native.Mathlib.Omega.{arith}
use Rattle.cluster.specs.declared.Shape.{Shape}
use Rattle.cluster.specs.declared.Call.{Call}
use Rattle.cluster.specs.declared.Call.TheVariants as call
use Rattle.cluster.specs.State.{State}
use Rattle.cluster.specs.Replies.{Reply, ok, no, silent}
use Rattle.cluster.specs.Effects.{Result}
use Rattle.cluster.specs.Step.{step}
use Rattle.guarantee.specs.Registers.{changed}
use Rattle.guarantee.specs.History.{Element, Logged, Session, log, History, with_session, put, transaction_in, acknowledging, stands, starting_mark, opened_at, told, heard, Moment, next, beginning, along}
use Rattle.guarantee.specs.Guarantee.{InRange, CoveredAll}
use Rattle.guarantee.proofs.Sessions.{set_at_elim}
use Rattle.guarantee.proofs.Guarantee.{guarantee}

-- ================ the statement

abbrev pub Found : History → Type 0
Found H = (s u n : ℕ) → (H.sessions s).opened ≡ true → (H.sessions u).opened ≡ true → s < u → 1 ≤ n → n ≤ (H.sessions s).acknowledged
    → (x : Logged) × (log (H.sessions s) n ≡ some x) × (log (H.sessions u) n ≡ some x)

abbrev pub Whole : Type 0
Whole = (h : Shape) → InRange h → (es : List Element) → CoveredAll h (beginning h) es → Found (along h (beginning h) es).history

-- ================ "It acknowledges every ID up to its starting mark"

abbrev Started : History → Type 0
Started H = (u : ℕ) → (H.sessions u).start ≤ (H.sessions u).acknowledged

with_session_lem : (H : History) (s : ℕ) (z : Session) → Started H → z.start ≤ z.acknowledged → Started (with_session H s z)
with_session_lem H s z K l u = set_at_elim (λ (y : Session). y.start ≤ y.acknowledged) H.sessions s z u (λ e. l) (λ n. K u)

acknowledging_keeps : (H : History) (s n : ℕ) → Started H → Started (acknowledging H s n)
acknowledging_keeps H s n K = with_session_lem H s _ K (omega (arith, K s))

told_keeps : (h : Shape) (x : State) (e : Element) (r : Result) (H : History) (c : Call) → Started H → Started (told h x e r H c)
unfolding told
told_keeps h x e r H (call.Take s f) K = K
told_keeps h x e r H (call.Copy s a b f) K =
    acknowledging_keeps (put h.places x r.state b (H.standing a) H) (H.current s) _ K
told_keeps h x e r H (call.Open s f) K = go (changed x.records.register r.state.records.register)
  where
    go : (b : Bool) → Started (cond b (opened_at H (H.current s) (starting_mark h x e.input s) (stands h.places x H e.reader)) H)
    go true = with_session_lem H (H.current s) _ K (omega arith)
    go false = K
told_keeps h x e r H (call.Issue s q) K = with_session_lem H (H.current s) _ K (K (H.current s))
told_keeps h x e r H (call.Send s i f) K =
    acknowledging_keeps (put h.places x r.state i (λ n. transaction_in ((H.sessions (H.current s)).issues n)) H) (H.current s) _ K
told_keeps h x e r H (call.Prepare s i f) K = K
told_keeps h x e r H (call.Trim s i f) K = K
told_keeps h x e r H (call.Note s i f) K = K
told_keeps h x e r H (call.Read s i n f) K = K
told_keeps h x e r H (call.Export s i f) K = K
told_keeps h x e r H (call.Stop s) K = K
told_keeps h x e r H call.Reassign K = K
told_keeps h x e r H (call.Restore i) K = K

heard_keeps : (r : Reply) (H J : History) → Started H → Started J → Started (heard r H J)
unfolding heard
heard_keeps (ok vs) H J K L = L
heard_keeps silent H J K L = L
heard_keeps (no n vs) H J K L = K

started : (h : Shape) (es : List Element) (m : Moment) → Started m.history → Started (along h m es).history
unfolding along next
started h [] m K = K
started h (e ∷ es) m K =
    let r = step h m.state e.input in
    started h es (next h m e) (heard_keeps r.reply m.history _ K (told_keeps h m.state e r m.history e.input.call K))

fresh_started : (h : Shape) → Started (beginning h).history
unfolding beginning
fresh_started h u = omega arith

-- ================ the corollary

pub whole : Whole
whole h range es a s u n os ou l lo hi =
    let K = guarantee h range es a in
    K.same s u n os ou lo hi (omega (arith, K.start s u os ou l, hi, started h es (beginning h) (fresh_started h) u))
