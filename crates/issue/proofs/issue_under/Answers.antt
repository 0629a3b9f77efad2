-- `issue_under`: refused by 1 to 3, refused by `judge`, or `issued`; rows that passed give what the callees require (12: the data fit, since the
-- pair's bytes do).
use mathlib.Core.Path.{refl}
use mathlib.Core.List.{[], ◌∷◌, ◌++◌}
use lib.ListN.{length}
use Rattle.cluster.specs.State.{server_at}
use Rattle.cluster.specs.Refusals.{only_open, wrong_phase, row, server_rows, issue_checks}
use Rattle.cluster.specs.Effects.{issue_effect}
use Rattle.checks.specs.Results.{state_of}
use Rattle.checks.proofs.Frame.{refused, goes_on, nothing_more, admitted}
use Rattle.checks.proofs.Behind.{no}
use Rattle.cluster.proofs.Limited.{fits_place}
use native.Mathlib.Omega.{arith}
use borrow.Author.Rules.{rules}
use Rattle.issue.proofs.issue_under.Goals as goal

pub returns-in-Err : goal.returns-in-Err
returns-in-Err c =
    let a = c.args in
    let x = state_of a.records a.media.now a.tables.now in
    let k = issue_checks a.limits a.shape x a.server a.request a.content.now a.locks.now in
    let front = server_rows a.shape x a.server in
    let own = row 5 (wrong_phase only_open (server_at a.records a.server)) ∷ (k.sending ++ k.receiving) in
    refused a.records a.media.now a.tables.now _ front own c.in-Err.why (c.in-Err.ensures a.media.now a.tables.now refl refl) c.declined.ensures

pub offset_bounds-records-i : goal.offset_bounds-records-i
offset_bounds-records-i c =
    let a = c.args in
    let k = admitted a.shape a.records a.media.now a.tables.now a.server _ (c.in_default.ensures a.media.now a.tables.now refl refl) in
    let l = k.server in search rules

pub bounds-records-i : goal.bounds-records-i
bounds-records-i c =
    let a = c.args in
    let k = admitted a.shape a.records a.media.now a.tables.now a.server _ (c.in_default.ensures a.media.now a.tables.now refl refl) in
    let l = k.server in search rules

pub judge-requires : goal.judge-requires
judge-requires c =
    let a = c.args in
    let k = admitted a.shape a.records a.media.now a.tables.now a.server _ (c.in_default.ensures a.media.now a.tables.now refl refl) in
    (k.server, k.tables)

pub issued-requires : goal.issued-requires
issued-requires c =
    let a = c.args in
    let k = admitted a.shape a.records a.media.now a.tables.now a.server _ (c.in_default.ensures a.media.now a.tables.now refl refl) in record {
      content_len_bound = fits_place a.limits (length a.content.now) (length a.locks.now) c.requires (no _ c.in_default-judge.ensures 12);
      issued_bound = omega (arith, k.fits.issued, k.most);
    }

pub overflow_add-v : goal.overflow_add-v
overflow_add-v c =
    let a = c.args in
    let k = admitted a.shape a.records a.media.now a.tables.now a.server _ (c.in_default.ensures a.media.now a.tables.now refl refl) in
    omega (arith, k.fits.issued, k.most)

pub mark-requires : goal.mark-requires
mark-requires c =
    let a = c.args in
    let k = admitted a.shape a.records a.media.now a.tables.now a.server _ (c.in_default.ensures a.media.now a.tables.now refl refl) in
    (k.server, k.tables)

pub settle-requires : goal.settle-requires
settle-requires c =
    let a = c.args in
    let k = admitted a.shape a.records a.media.now a.tables.now a.server _ (c.in_default.ensures a.media.now a.tables.now refl refl) in
    k.server

pub returns-in-Err-judge : goal.returns-in-Err-judge
returns-in-Err-judge c =
    let a = c.args in
    let x = state_of a.records a.media.now a.tables.now in
    let k = issue_checks a.limits a.shape x a.server a.request a.content.now a.locks.now in
    let front = server_rows a.shape x a.server in
    let own = row 5 (wrong_phase only_open (server_at a.records a.server)) ∷ (k.sending ++ k.receiving) in
    goes_on a.records a.media.now a.tables.now _ front own (c.in_default.ensures a.media.now a.tables.now refl refl)
    (refused a.records a.media.now a.tables.now _ own [] c.in-Err-judge.why c.in-Err-judge.ensures c.declined-in-Err-judge.ensures)

pub returns : goal.returns
unfolding issue_effect
returns c =
    let a = c.args in
    let x = state_of a.records a.media.now a.tables.now in
    let k = issue_checks a.limits a.shape x a.server a.request a.content.now a.locks.now in
    let front = server_rows a.shape x a.server in
    let own = row 5 (wrong_phase only_open (server_at a.records a.server)) ∷ (k.sending ++ k.receiving) in
    goes_on a.records a.media.now a.tables.now _ front own (c.in_default.ensures a.media.now a.tables.now refl refl)
    (goes_on a.records a.media.now a.tables.now _ own [] c.in_default-judge.ensures
    (nothing_more x (rw (c.settle.ensures, c.mark.ensures, c.issued.ensures))))
