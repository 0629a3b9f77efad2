-- `held::offset_of`: above the issued mark, a window or more below it, and between these, where nothing is cut off.
use native.Mathlib.Omega.{arith}
use borrow.Author.Tests.{leb-true, leb-false}
use mathlib.Core.Path.{sym, ◌∙◌}
use Prim.Native.Nat.{◌+◌}
use Rattle.cluster.specs.State.{window}
use Rattle.servers.proofs.held.offset_of.Goals as goal

pub returns-then-lags : goal.returns-then-lags
returns-then-lags c =
    let a = c.args in
    omega (arith, leb-true (a.n + window) a.issued (sym c.lags.ensures ∙ c.if-lags.true))

pub overflow_mul-result : goal.overflow_mul-result
overflow_mul-result c =
    let a = c.args in
    omega (arith, leb-false (a.n + window) a.issued (sym c.lags.ensures ∙ c.if-lags.false))

pub overflow_sub-result-2 : goal.overflow_sub-result-2
overflow_sub-result-2 c =
    let a = c.args in
    omega (arith, leb-false (a.n + window) a.issued (sym c.lags.ensures ∙ c.if-lags.false))
