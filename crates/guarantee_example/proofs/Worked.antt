-- A list of calls whose outline was worked out: its replies, its history by its lines, and that the guarantee speaks of it.
-- Assumes nothing.
use mathlib.Core.Path.{◌≡◌, sym, ap, ◌∙◌, subst⁻¹}
use mathlib.Core.Bool.{true}
use mathlib.Core.List.{List, [], ◌∷◌, ◌++◌}
use mathlib.Core.Option.{none, some}
use Prim.Native.Nat.{ℕ, zero, suc, ◌≤◌}
use Rattle.octets.specs.Octets.{write_at, be_from, be_of, be_bytes, fields_of, all_zero}
use Rattle.crc32.specs.Crc32.{bit_step, bit_steps, crc_from, crc_of, checked, sealed}
use Rattle.fate.specs.Fates.{all_of, after, cut_at, leave}
use Rattle.storage.specs.Given.{passes, passes_as_place}
use Rattle.storage.specs.Places.{record_bytes, id_of, size_of, valid_place, wiped}
use Rattle.storage.specs.Slots.{slot_bytes, slot_of, valid_slot, newer, current_of, stored_slot}
use Rattle.storage.specs.Log.{place_at, places_from, run_by, log_of, mark_of}
use Rattle.storage.specs.Operations.{wipes, promising, closing, prepare_writes}
use Rattle.storage.specs.Fresh.{fresh_medium}
use Rattle.base.specs.Below.{all, count, highest, up_to}
use Rattle.quorum.specs.Vote.{backed, majority_mark, decided}
use Rattle.locks.specs.Locks.{marked_all, marked_at, place_of, estimate_of, first_held}
use Rattle.cluster.specs.declared.Shape.{Shape}
use Rattle.cluster.specs.State.{State, fresh_media, fresh}
use Rattle.limits.specs.Limits.{limits_of}
use Rattle.cluster.specs.Replies.{Reply}
use Rattle.cluster.specs.Refusals.{outside, entries_fit, server_fits, mark_above, no_slot, promise_above, promise_differs, mark_differs, replicas_fit, first_of}
use Rattle.cluster.specs.Effects.{prepare_effect, append_effect, take_effect, opened_register, opened_server, open_effect, issue_effect, stop_effect}
use Rattle.cluster.specs.Step.{unless, step}
use Rattle.guarantee.specs.Registers.{changed}
use Rattle.guarantee.specs.History.{Element, Logged, log, History, beginning, along}
use Rattle.guarantee.specs.Guarantee.{CoveredAll, Kept}
use Rattle.guarantee_example.proofs.Outline.{Line, outline, outline_then, retold, retold_is, ReadAll, FitEach, covers}

-- to unfold this is to unfold the calls down to the CRC
unfoldable pub unfolded : ℕ
unfolding
    outline changed step first_of unless fresh fresh_media fresh_medium
    outside replicas_fit mark_above entries_fit server_fits limits_of all up_to count highest
    take_effect prepare_effect open_effect opened_register opened_server issue_effect append_effect stop_effect
    no_slot promise_above promise_differs mark_differs backed majority_mark decided first_held marked_all marked_at place_of estimate_of
    prepare_writes promising closing wipes wiped after all_of cut_at leave write_at passes passes_as_place
    mark_of log_of run_by places_from place_at valid_place id_of size_of record_bytes
    current_of valid_slot newer slot_of stored_slot slot_bytes
    sealed checked crc_of crc_from bit_steps bit_step all_zero fields_of be_bytes be_of be_from
unfolded = 0

-- ================ lines

-- the lines of calls of which none opens a session
abbrev pub lines : List Reply → List Line
lines [] = []
lines (r ∷ rs) = record { reply = r; opens = none } ∷ lines rs

-- the call of number k of them opens a session at this mark, and the entry of the replica read has it
abbrev pub opened_at_lem : ℕ → ℕ → ℕ → List Line → List Line
opened_at_lem k mark session [] = []
opened_at_lem zero mark session (l ∷ ls) = record { reply = l.reply; opens = some (record { mark = mark; entry = session }) } ∷ ls
opened_at_lem (suc k) mark session (l ∷ ls) = l ∷ opened_at_lem k mark session ls

abbrev pub replies_in : List Line → List Reply
replies_in [] = []
replies_in (l ∷ ls) = l.reply ∷ replies_in ls

-- a part of a list, and the rest of it
pub then_lines : (h : Shape) (x y : State) (es fs : List Element) (ls ms : List Line) → outline h x es ≡ (ls, y) → (outline h y fs).0 ≡ ms
    → (outline h x (es ++ fs)).0 ≡ ls ++ ms
then_lines h x y es fs ls ms p q =
    ap (λ (o : List Line × State). o.0) (outline_then h x es fs)
    ∙ ap (λ (o : List Line × State). o.0 ++ (outline h o.1 fs).0) p
    ∙ ap (λ (l : List Line). ls ++ l) q

-- ================ a whole list

module _ (h : Shape) (es : List Element) (ls : List Line) (worked : (outline h (fresh h) es).0 ≡ ls) where
  -- its history, by its lines
  pub told_by : (along h (beginning h) es).history ≡ retold h (fresh h) es ls (beginning h).history
  unfolding beginning
  told_by = retold_is h es (beginning h) ∙ ap (λ (l : List Line). retold h (fresh h) es l (beginning h).history) worked

  -- the guarantee speaks of it
  pub covered : FitEach es → ReadAll h (fresh h) es ls (beginning h).history → CoveredAll h (beginning h) es
  unfolding beginning
  covered fits read =
      covers h es (beginning h) fits (subst⁻¹ (λ (l : List Line). ReadAll h (fresh h) es l (beginning h).history) worked read)

-- what both acknowledge stands in both logs
pub found : (H : History) → Kept H → (s u n : ℕ) (x : Logged) → (H.sessions s).opened ≡ true → (H.sessions u).opened ≡ true
    → 1 ≤ n → n ≤ (H.sessions s).acknowledged → n ≤ (H.sessions u).acknowledged
    → log (H.sessions s) n ≡ some x → log (H.sessions u) n ≡ some x
found H kept s u n x a b lo hi hi' e =
    let w = kept.same s u n a b lo hi hi' in
    w.2 ∙ sym w.1 ∙ e
