-- `quorum::count_flags` meets its contract: the flags that pass among the first r are the count below r.
-- Assumes nothing.
use Rattle.std.proofs.Common.{rules, ◌≡◌, refl, ap, sym, ◌∙◌, ℕ, zero, suc, ◌+◌, ◌≤◌, length, take, Bool, true, false, cond, List, [], ◌∷◌, arith}
use Rattle.std.specs.List.{count_by}
use Rattle.std.proofs.lemmas.List.Recursion.{is_count_by}
use Rattle.base.specs.Below.{bit, count}
use Rattle.base.proofs.Below.{count_front}
use Rattle.quorum.specs.Vote.{flags_of}
use Rattle.quorum.proofs.count_flags.Goals as goal

raised : List Bool → ℕ
raised [] = 0
raised (b ∷ l) = cond b (1 + raised l) (raised l)

raised_next : (b : Bool) (n : ℕ) → cond b (1 + n) n ≡ bit b + n
raised_next true n = refl
raised_next false n = omega arith

counted : (l : List Bool) (r : ℕ) → r ≤ length l → raised (take r l) ≡ count (flags_of l) r
unfolding count raised
counted l zero h = refl
counted [] (suc r) h = absurd (omega arith)
counted (b ∷ l) (suc r) h = raised_next b (raised (take r l)) ∙ ap (λ (n : ℕ). bit b + n) (counted l r (omega arith)) ∙ sym (count_front (flags_of (b ∷ l)) r)

pub returns : goal.returns
unfolding raised
returns c =
    let e : c.count.result ≡ count_by (λ (b : Bool). b) (take c.args.r c.args.flags) = search rules in
    e ∙ sym (is_count_by raised (λ (b : Bool). b) refl (λ x xs. refl) (take c.args.r c.args.flags)) ∙ counted c.args.flags c.args.r (omega arith)
