-- `recover`: declined, it makes no call (`recovered_declined`); otherwise it is what `run` comes to, with what its own refusals leave known (proofs/Stages).
use mathlib.Core.Path.{refl, sym}
use Rattle.checks.specs.Results.{state_of}
use Rattle.recovery.proofs.Played.{recovered_declined}
use Rattle.recovery.specs.Asked.{asked_of}
use Rattle.driver.proofs.Stages.{known}
use Rattle.driver.proofs.recover.Goals as goal

pub returns-in-Err : goal.returns-in-Err
returns-in-Err c =
    let a = c.args in
    recovered_declined a.shape (asked_of a.server a.listed.now a.fates.now a.given.now) (state_of a.records a.media.now a.tables.now) _ _ (sym c.in-Err.ensures) refl

pub invariant_of-asked : goal.invariant_of-asked
invariant_of-asked c =
    let a = c.args in
    let k = known a.shape (state_of a.records a.media.now a.tables.now) a.server a.listed.now a.fates.now a.given.now (sym c.in-Ok.ensures) in
    record { given_len = k.beside }

pub run-requires : goal.run-requires
run-requires c = sym c.in-Ok.ensures
