-- `octets::put_be`: the part that `set_be` filled has k bytes and, once it comes back, is a write (`mid_write`).
use mathlib.Core.Path.{◌≡◌, ap, ◌∙◌}
use Prim.Native.Nat.{ℕ, ◌+◌, ◌-◌}
use native.Mathlib.Nat.{add-sub_cancel_left}
use lib.ListN.{length, take, drop}
use Rattle.octets.specs.Octets.{be_bytes}
use Rattle.octets.proofs.Laws.{mid_write, length_be, length_between}
use borrow.Author.Rules.{rules}
use Rattle.octets.proofs.put_be.Goals as goal

pub returns : goal.returns
returns c =
    let a = c.args in
    let e = a.at + a.k in
    let n : length (take (e - a.at) (drop a.at a.m.now)) ≡ a.k = length_between a.at e a.m.now (search rules) (search rules) ∙ add-sub_cancel_left a.at a.k in
    mid_write a.at e _ _ (be_bytes a.k a.v) (ap (λ (n : ℕ). a.at + n) (length_be a.k a.v))
    (c.set_be.ensures ∙ ap (λ (n : ℕ). be_bytes n a.v) n)
