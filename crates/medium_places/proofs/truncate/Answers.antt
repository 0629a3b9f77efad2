-- `truncate`. The invariant: the wipes that are left, from the highest place left down and numbered on from those made, give the result.
use mathlib.Core.Path.{◌≡◌, refl, sym, ap, ap₂, ◌∙◌}
use Prim.Native.Nat.{ℕ, ◌+◌, ◌-◌}
use Rattle.fate.specs.Numbered.{after_from}
use Rattle.storage.specs.Operations.{wipes}
use Rattle.storage.proofs.Wiping.{wiping_next, wiping_end}
use native.Mathlib.Omega.{arith}
use borrow.Author.Rules.{rules}
use Rattle.medium_places.proofs.truncate.Goals as goal

pub loop-j-init : goal.loop-j-init
loop-j-init c =
    let a = c.args in
    let e : a.k ≡ a.k + 0 = omega arith in
    let d : a.from - a.to ≡ a.from - 0 - a.to = omega arith in
    (refl, ap₂ (λ (k n : ℕ). after_from k a.f a.given.now (wipes a.to n) a.m.now) e d)

pub loop-j-preserved : goal.loop-j-preserved
loop-j-preserved c =
    let l = c.loop-j in
    let a = c.args in
    let e : a.k + l.j + 1 ≡ a.k + (l.j + 1) = omega arith in
    let d : a.from - l.j - 1 - a.to ≡ a.from - (l.j + 1) - a.to = omega arith in (
      search rules,
      l.invariant.1 ∙ wiping_next a.to (a.from - l.j) (a.k + l.j) a.f a.given.now l.m (omega arith)
          ∙ ap (after_from (a.k + l.j + 1) a.f a.given.now (wipes a.to (a.from - l.j - 1 - a.to))) (sym c.wipe.ensures)
          ∙ ap₂ (λ (k n : ℕ). after_from k a.f a.given.now (wipes a.to n) c.wipe.new.m) e d,
    )

pub returns : goal.returns
returns c =
    let l = c.loop-j in
    let a = c.args in
    sym (l.invariant.1 ∙ wiping_end a.to (a.from - l.j) (a.k + l.j) a.f a.given.now l.m (omega arith))
