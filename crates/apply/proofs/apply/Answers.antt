-- `apply`, call by call: each call's own contract, and what lies beside a call that does not read it changes nothing, nor is changed (`applied`,
-- `exported`).
use mathlib.Core.Path.{refl}
use Rattle.checks.specs.Results.{state_of}
use Rattle.apply.proofs.Beside.{applied, exported}
use Rattle.apply.proofs.apply.Goals as goal

pub returns-in-Take : goal.returns-in-Take
returns-in-Take c =
    let a = c.args in
    applied a.content.now a.locks.now a.given.now a.stamp a.file.now a.index.now a.backup.now a.shape (state_of a.records a.media.now a.tables.now) _ a.call _ c.in-Take.is refl c.take.ensures

pub returns-in-Prepare : goal.returns-in-Prepare
returns-in-Prepare c =
    let a = c.args in
    applied a.content.now a.locks.now a.given.now a.stamp a.file.now a.index.now a.backup.now a.shape (state_of a.records a.media.now a.tables.now) _ a.call _ c.in-Prepare.is refl c.prepare.ensures

pub returns-in-Copy : goal.returns-in-Copy
returns-in-Copy c =
    let a = c.args in
    applied a.content.now a.locks.now a.given.now a.stamp a.file.now a.index.now a.backup.now a.shape (state_of a.records a.media.now a.tables.now) _ a.call _ c.in-Copy.is refl c.copy.ensures

pub returns-in-Trim : goal.returns-in-Trim
returns-in-Trim c =
    let a = c.args in
    applied a.content.now a.locks.now a.given.now a.stamp a.file.now a.index.now a.backup.now a.shape (state_of a.records a.media.now a.tables.now) _ a.call _ c.in-Trim.is refl c.trim.ensures

pub returns-in-Open : goal.returns-in-Open
returns-in-Open c =
    let a = c.args in
    applied a.content.now a.locks.now a.given.now a.stamp a.file.now a.index.now a.backup.now a.shape (state_of a.records a.media.now a.tables.now) _ a.call _ c.in-Open.is refl c.open.ensures

pub returns-in-Issue : goal.returns-in-Issue
returns-in-Issue c =
    let a = c.args in
    applied a.content.now a.locks.now a.given.now a.stamp a.file.now a.index.now a.backup.now a.shape (state_of a.records a.media.now a.tables.now) _ a.call _ c.in-Issue.is refl c.issue.ensures

pub returns-in-Send : goal.returns-in-Send
returns-in-Send c =
    let a = c.args in
    applied a.content.now a.locks.now a.given.now a.stamp a.file.now a.index.now a.backup.now a.shape (state_of a.records a.media.now a.tables.now) _ a.call _ c.in-Send.is refl c.send.ensures

pub returns-in-Note : goal.returns-in-Note
returns-in-Note c =
    let a = c.args in
    applied a.content.now a.locks.now a.given.now a.stamp a.file.now a.index.now a.backup.now a.shape (state_of a.records a.media.now a.tables.now) _ a.call _ c.in-Note.is refl c.note.ensures

pub returns-in-Read : goal.returns-in-Read
returns-in-Read c =
    let a = c.args in
    applied a.content.now a.locks.now a.given.now a.stamp a.file.now a.index.now a.backup.now a.shape (state_of a.records a.media.now a.tables.now) _ a.call _ c.in-Read.is refl c.read.ensures

pub returns-in-Export : goal.returns-in-Export
returns-in-Export c =
    let a = c.args in
    exported a.content.now a.locks.now a.given.now a.stamp a.file.now a.index.now a.backup.now a.shape (state_of a.records a.media.now a.tables.now) _ _ _ a.call _ _ c.in-Export.is c.export.ensures

pub returns-in-Stop : goal.returns-in-Stop
returns-in-Stop c =
    let a = c.args in
    applied a.content.now a.locks.now a.given.now a.stamp a.file.now a.index.now a.backup.now a.shape (state_of a.records a.media.now a.tables.now) _ a.call _ c.in-Stop.is refl c.stop.ensures

pub returns-in-Reassign : goal.returns-in-Reassign
returns-in-Reassign c =
    let a = c.args in
    applied a.content.now a.locks.now a.given.now a.stamp a.file.now a.index.now a.backup.now a.shape (state_of a.records a.media.now a.tables.now) _ a.call _ c.in-Reassign.is refl c.reassign.ensures

pub returns-in-Restore : goal.returns-in-Restore
returns-in-Restore c =
    let a = c.args in
    applied a.content.now a.locks.now a.given.now a.stamp a.file.now a.index.now a.backup.now a.shape (state_of a.records a.media.now a.tables.now) _ a.call _ c.in-Restore.is refl c.restore.ensures
