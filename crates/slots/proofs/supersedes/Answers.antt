-- `slot::supersedes`: the order of pairs is the definition's: the greater promise, then the greater low-water mark.
use Rattle.std.proofs.Common.{◌≡◌, refl, Some, Less, Equal, Greater, Bool, true, false, cond, ◌||◌, ◌&&◌, nat_eq, nat_lt, ◌∙◌}
use Rattle.std.specs.Ordering.{is_lt, is_some_and, partial_ordering_then}
use Rattle.storage.specs.Slots.{newer}
use Rattle.slots.proofs.supersedes.Goals as goal

-- what is less in the first of two is less, and where that is equal, what is less in the second
by_tests : (a b d e : Bool)
    → is_some_and is_lt (partial_ordering_then (Some (cond a Less (cond b Equal Greater))) (Some (cond d Less (cond e Equal Greater)))) ≡ (a || (b && d))
by_tests true b d e = refl
by_tests false true true e = refl
by_tests false true false true = refl
by_tests false true false false = refl
by_tests false false d e = refl

pub returns : goal.returns
unfolding newer
returns c =
    let x = c.args.a in
    let y = c.args.b in
    c.lt.ensures ∙ by_tests (nat_lt x.promise y.promise) (nat_eq x.promise y.promise) (nat_lt x.low y.low) (nat_eq x.low y.low)
