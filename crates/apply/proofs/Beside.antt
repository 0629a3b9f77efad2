-- What lies beside a call that does not read it changes nothing, nor does such a call change it: data and locks are issue's, given bytes a replica
-- message's, time, key and two files an export's, and the backup a restore's.
-- Assumes nothing.
use mathlib.Core.Path.{◌≡◌, refl, sym, ap, ap₂, ◌∙◌}
use mathlib.Core.List.{List, []}
use Prim.Native.Nat.{ℕ}
use Rattle.fate.specs.declared.Fate.{Fate}
use Rattle.segment.specs.declared.header.Stamp.{Stamp}
use Rattle.segment.specs.Pair.{Files}
use Rattle.cluster.specs.declared.Shape.{Shape}
use Rattle.cluster.specs.declared.Call.{Call}
use Rattle.cluster.specs.declared.Call.TheVariants as call
use Rattle.cluster.specs.State.{State}
use Rattle.cluster.specs.Replies.{Reply, ok, no, silent}
use Rattle.cluster.specs.Refusals.{Input, Row, rows_of}
use Rattle.cluster.specs.Effects.{Result}
use Rattle.cluster.specs.Step.{effect, rest, step, written, if_ok, files_after}
use Rattle.checks.specs.Results.{no_files, no_stamp, files_of, beside_of, input_of, export_of, restore_of}

agree : (h : Shape) (x : State) (p q : Input) → rows_of h x p ≡ rows_of h x q → effect h x p p.call ≡ effect h x q q.call → step h x p ≡ step h x q
unfolding step
agree h x p q e f = ap₂ (λ (ws : List Row) (r : Result). rest ws x r) e f

-- a call that writes no files leaves them, whatever it replies
left : (h : Shape) (x : State) (p : Input) → written h x p p.call ≡ p.files → p.files ≡ files_after h x p
unfolding files_after if_ok
left h x p e = rw e (go (step h x p).reply)
  where
    go : (r : Reply) → p.files ≡ if_ok r p.files p.files
    go (ok values) = refl
    go (no n values) = refl
    go silent = refl

module _ (content locks given : List ℕ) (stamp : Stamp) (data_file index_file backup : List ℕ) where
  -- a call as `apply` gets it
  abbrev pub beside : Call → Input
  beside c = beside_of c content locks given stamp data_file index_file backup

  -- and as the call's own contract has it
  abbrev pub bare : Call → Input
  bare (call.Take s f) = input_of (call.Take s f) []
  bare (call.Prepare s i f) = input_of (call.Prepare s i f) given
  bare (call.Copy s a b f) = input_of (call.Copy s a b f) given
  bare (call.Trim s i f) = input_of (call.Trim s i f) given
  bare (call.Open s f) = input_of (call.Open s f) []
  bare (call.Issue s q) = record { call = call.Issue s q; content = content; locks = locks; given = []; stamp = no_stamp; files = no_files; backup = [] }
  bare (call.Send s i f) = input_of (call.Send s i f) given
  bare (call.Note s i f) = input_of (call.Note s i f) given
  bare (call.Read s i n f) = input_of (call.Read s i n f) given
  bare (call.Export s i f) = export_of (call.Export s i f) given stamp data_file index_file
  bare (call.Stop s) = input_of (call.Stop s) []
  bare call.Reassign = input_of call.Reassign []
  bare (call.Restore i) = restore_of i backup

  pub same : (h : Shape) (x : State) (c : Call) → step h x (bare c) ≡ step h x (beside c)
  same h x (call.Take s f) = agree h x (bare (call.Take s f)) (beside (call.Take s f)) refl refl
  same h x (call.Prepare s i f) = agree h x (bare (call.Prepare s i f)) (beside (call.Prepare s i f)) refl refl
  same h x (call.Copy s a b f) = agree h x (bare (call.Copy s a b f)) (beside (call.Copy s a b f)) refl refl
  same h x (call.Trim s i f) = agree h x (bare (call.Trim s i f)) (beside (call.Trim s i f)) refl refl
  same h x (call.Open s f) = agree h x (bare (call.Open s f)) (beside (call.Open s f)) refl refl
  same h x (call.Issue s q) = agree h x (bare (call.Issue s q)) (beside (call.Issue s q)) refl refl
  same h x (call.Send s i f) = agree h x (bare (call.Send s i f)) (beside (call.Send s i f)) refl refl
  same h x (call.Note s i f) = agree h x (bare (call.Note s i f)) (beside (call.Note s i f)) refl refl
  same h x (call.Read s i n f) = agree h x (bare (call.Read s i n f)) (beside (call.Read s i n f)) refl refl
  same h x (call.Export s i f) = agree h x (bare (call.Export s i f)) (beside (call.Export s i f)) refl refl
  same h x (call.Stop s) = agree h x (bare (call.Stop s)) (beside (call.Stop s)) refl refl
  same h x call.Reassign = agree h x (bare call.Reassign) (beside call.Reassign) refl refl
  same h x (call.Restore i) = agree h x (bare (call.Restore i)) (beside (call.Restore i)) refl refl

  -- one arm of `apply`: the call that was matched, and what its own contract says; it is no export
  module _ (h : Shape) (x : State) (c c' : Call) (r : Result) (e : c' ≡ c) where
    whole : r ≡ step h x (bare c) → r ≡ step h x (beside c')
    whole q = q ∙ same h x c ∙ ap (λ (d : Call). step h x (beside d)) (sym e)

    pub applied :
        written h x (beside c) c ≡ files_of data_file index_file
        → r ≡ step h x (bare c)
        → (r ≡ step h x (beside c')) × (files_of data_file index_file ≡ files_after h x (beside c'))
    applied w q = (whole q, left h x (beside c) w ∙ ap (λ (d : Call). files_after h x (beside d)) (sym e))

  -- and the one that is
  pub exported :
      (h : Shape) (x : State) (s i : ℕ) (f : Fate) (c' : Call) (r : Result) (now : Files)
      → c' ≡ call.Export s i f
      → (r ≡ step h x (bare (call.Export s i f))) × (now ≡ files_after h x (bare (call.Export s i f)))
      → (r ≡ step h x (beside c')) × (now ≡ files_after h x (beside c'))
  unfolding files_after
  exported h x s i f c' r now e (q, w) =
      let c = call.Export s i f in (
        whole h x c c' r e q,
        w
            ∙ ap (λ (d : Result). if_ok d.reply (written h x (beside c) c) (files_of data_file index_file)) (same h x c)
            ∙ ap (λ (d : Call). files_after h x (beside d)) (sym e),
      )
