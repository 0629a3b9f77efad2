-- `operation::given_pass`: given bytes pass as a slot, as no place, or as the one place that they name (GivenCases).
use mathlib.Core.Path.{sym, ap, ◌∙◌}
use mathlib.Core.Logic.{inl, inr}
use Prim.Native.Nat.{ℕ}
use Rattle.storage.specs.Places.{id_of, valid_place}
use Rattle.storage.proofs.GivenCases.{as_slot, as_none, as_named}
use native.Mathlib.Omega.{arith}
use Rattle.medium.proofs.operation.given_pass.Goals as goal
use Rattle.medium.proofs.operation.given_pass.Goals.{then-n-eq0-via-then-n-eq0, then-n-eq0-via-else-n-eq0+then-places-n}

pub returns-then-valid : goal.returns-then-valid
returns-then-valid c =
    let a = c.args in
    as_slot a.g.now a.places (sym c.valid.ensures ∙ c.if-valid.true)

pub returns-then-n-eq0 : goal.returns-then-n-eq0
unfolding id_of
returns-then-n-eq0 c =
    let a = c.args in
    let no = sym c.valid.ensures ∙ c.if-valid.false in
    elim c.then-n-eq0.branch [
      | then-n-eq0-via-then-n-eq0 w ↦ as_none a.g.now a.places no (inl (sym c.get_be-n.ensures.0 ∙ w.if-n-eq0.true))
      | then-n-eq0-via-else-n-eq0+then-places-n w ↦ as_none a.g.now a.places no (inr (rw (← c.get_be-n.ensures.0) w.if-places-n.true))
    ]

pub returns : goal.returns
unfolding id_of
returns c =
    let a = c.args in
    let n = c.get_be-n.ensures.0 in
    c.valid-2.ensures ∙ ap (λ (i : ℕ). valid_place i a.g.now) n
    ∙ as_named a.g.now a.places (sym c.valid.ensures ∙ c.if-valid.false) (omega (arith, n, c.if-n-eq0.false)) (omega (arith, n, c.if-places-n.false))
