-- `open::open`: refused by 1 to 3, refused by `judge`, or `opened`.
use mathlib.Core.Path.{refl, sym}
use mathlib.Core.List.{[]}
use borrow.Author.Rules.{rules}
use Rattle.cluster.specs.State.{server_at}
use Rattle.cluster.specs.Refusals.{server_rows}
use Rattle.cluster.specs.Step.{step}
use Rattle.checks.specs.Results.{state_of}
use Rattle.checks.proofs.Frame.{refused, goes_on, nothing_more, admitted}
use Rattle.register_calls.specs.Judged.{open_rows}
use Rattle.register_calls.proofs.open.open.Goals as goal

pub returns-in-Err : goal.returns-in-Err
unfolding step
returns-in-Err c =
    let a = c.args in
    let front = server_rows a.shape (state_of a.records a.media.now a.tables.now) a.server in
    let own = open_rows a.records.register (server_at a.records a.server) a.shape.replicas a.fate in
    refused a.records a.media.now a.tables.now _ front own c.in-Err.why (c.in-Err.ensures a.media.now a.tables.now refl refl) c.declined.ensures

pub bounds-records-i : goal.bounds-records-i
bounds-records-i c =
    let a = c.args in
    (admitted a.shape a.records a.media.now a.tables.now a.server [] (c.in_default.ensures a.media.now a.tables.now refl refl)).server

pub offset_bounds-records-i : goal.offset_bounds-records-i
offset_bounds-records-i c = let l = bounds-records-i c in search rules

pub judge-requires : goal.judge-requires
judge-requires c =
    let a = c.args in
    (admitted a.shape a.records a.media.now a.tables.now a.server [] (c.in_default.ensures a.media.now a.tables.now refl refl)).replicas

pub fill-requires : goal.fill-requires
fill-requires c =
    let a = c.args in
    let k = admitted a.shape a.records a.media.now a.tables.now a.server [] (c.in_default.ensures a.media.now a.tables.now refl refl) in
    (k.server, k.tables)

pub settle-requires : goal.settle-requires
settle-requires c =
    let a = c.args in
    (admitted a.shape a.records a.media.now a.tables.now a.server [] (c.in_default.ensures a.media.now a.tables.now refl refl)).server

pub returns-in-Err-judge : goal.returns-in-Err-judge
unfolding step
returns-in-Err-judge c =
    let a = c.args in
    let front = server_rows a.shape (state_of a.records a.media.now a.tables.now) a.server in
    let own = open_rows a.records.register (server_at a.records a.server) a.shape.replicas a.fate in
    goes_on a.records a.media.now a.tables.now _ front own (c.in_default.ensures a.media.now a.tables.now refl refl)
    (refused a.records a.media.now a.tables.now _ own [] c.in-Err-judge.why c.in-Err-judge.ensures.verdict c.declined-in-Err-judge.ensures)

pub returns-in-Ok : goal.returns-in-Ok
unfolding step
returns-in-Ok c =
    let a = c.args in
    let x = state_of a.records a.media.now a.tables.now in
    let front = server_rows a.shape x a.server in
    let own = open_rows a.records.register (server_at a.records a.server) a.shape.replicas a.fate in
    let n = c.in-Ok.ensures.ballot in
    let effect = c.opened.ensures a.records a.server a.media.now a.tables.now refl (sym n.server) in
    goes_on a.records a.media.now a.tables.now _ front own (c.in_default.ensures a.media.now a.tables.now refl refl)
    (goes_on a.records a.media.now a.tables.now _ own [] c.in-Ok.ensures.verdict (nothing_more x (rw (c.settle.ensures, c.fill.ensures, ← n.at, ← n.replicas) effect)))
