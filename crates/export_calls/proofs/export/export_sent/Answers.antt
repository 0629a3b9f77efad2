-- `export::export_sent`: the mark of replica i's medium is the recorded one if a mark is heard, so that the places exported are in its log
-- (`heard_mark`, `all_sized`); what is heard is the message's result (`export_heard`).
use native.Mathlib.Omega.{arith}
use mathlib.Core.Path.{sym, ap, ◌∙◌}
use mathlib.Core.List.{List}
use lib.ListN.{length}
use Prim.Native.Nat.{ℕ}
use Rattle.segment.specs.Pair.{pair_of}
use Rattle.cluster.specs.State.{server_at, mark_at}
use Rattle.cluster.specs.Replies.{reply_of}
use Rattle.cluster.specs.Step.{if_ok}
use Rattle.checks.specs.Results.{files_of}
use Rattle.delivery.proofs.Hearing.{medium_length, export_heard}
use Rattle.segment.proofs.Writing.{all_sized}
use Rattle.export_calls.proofs.Exporting.{places_are, heard_mark}
use Rattle.export_calls.proofs.export.export_sent.Goals as goal

pub read-heard-requires : goal.read-heard-requires
read-heard-requires c =
    let a = c.args in
    let p = c.requires in
    rw c.medium_of-medium.ensures (record { medium = record { few = p.named.0.few; size = medium_length a.shape.places a.i a.media.now p.named.0.within } })

pub export_by-requires : goal.export_by-requires
export_by-requires c =
    let a = c.args in
    let p = c.requires in
    let v = server_at a.records a.s in
    let k = c.exported_mark-k.ensures in
    let size = ap length c.medium_of-medium.ensures ∙ medium_length a.shape.places a.i a.media.now p.named.0.within in
    let few = p.named.0.few in
    let mark = p.named.0.mark in record {
      s_bound = (p.named.1, omega (arith, p.named.0.replica, p.named.0.replicas));
      k_in_bounds = (omega (arith, k, size, mark), omega (arith, k, few, mark));
      by_index = λ n e. all_sized a.shape.places _ _ (omega (arith, k, heard_mark a.shape.places v.session (mark_at v a.i) n a.fate _ (sym c.read-heard.ensures ∙ e)));
    }

pub returns : goal.returns
returns c =
    let a = c.args in
    let v = server_at a.records a.s in
    let places = places_are a.shape v a.i _ _ a.media.now c.medium_of-medium.ensures c.exported_mark-k.ensures in (
      λ given tables.
          rw (c.export_by.ensures.0, places)
          (export_heard a.shape a.records a.media.now tables a.s a.i a.fate given a.stamp a.file.now a.index.now _ (rw c.medium_of-medium.ensures at c.read-heard.ensures)),
      c.export_by.ensures.1
          ∙ ap (λ (ps : List (List ℕ)). if_ok (reply_of c.export_by.result.answer) (pair_of a.stamp ps) (files_of a.file.now a.index.now)) places,
    )
