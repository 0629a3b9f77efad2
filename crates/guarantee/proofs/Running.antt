-- The running code and the list of the guarantee: `runs`, of lists of any length, and `runs_items`, of lists with recoveries. The statements are
-- specs/Running.antt.
-- Assumes nothing.
use mathlib.Core.Path.{◌≡◌, sym, ap, ◌∙◌}
use mathlib.Core.List.{List, [], ◌∷◌}
use Rattle.cluster.specs.declared.Shape.{Shape}
use Rattle.cluster.specs.State.{State}
use Rattle.cluster.specs.Effects.{Result}
use Rattle.cluster.specs.Step.{step}
use Rattle.recovery.specs.Recovery.{Trail, recovered}
use Rattle.guarantee.specs.History.{Element, Moment, next, beginning, along}
use Rattle.guarantee.specs.Recoveries.{Item, one, recovery, next_item, along_items}
use Rattle.guarantee.specs.Running.{Run, Statement, RunItems, StatementItems}
use Rattle.guarantee.proofs.Items.{state_equation}

from : (h : Shape) (es : List Element) (m : Moment) (x y : State) → m.state ≡ x → Run h x es y → (along h m es).state ≡ y
unfolding along next
from h [] m x y e q = e ∙ q
from h (c ∷ es) m x y e (r, s, q) =
    from h es (next h m c) r.state y (ap (λ (z : State). (step h z c.input).state) e ∙ sym (ap (λ (z : Result). z.state) s)) q

pub runs : Statement
unfolding beginning
runs h es x y e q = sym (from h es (beginning h) x y (sym e) q)

-- ---- with recoveries

from_items : (h : Shape) (is : List Item) (m : Moment) (x y : State) → m.state ≡ x → RunItems h x is y → (along_items h m is).state ≡ y
unfolding along_items next_item along next
from_items h [] m x y e q = e ∙ q
from_items h (one c ∷ is) m x y e (r, s, q) =
    from_items h is (next h m c) r.state y (ap (λ (z : State). (step h z c.input).state) e ∙ sym (ap (λ (z : Result). z.state) s)) q
from_items h (recovery d a ∷ is) m x y e (t, s, q) =
    from_items h is (next_item h m (recovery d a)) t.state y
    ((state_equation h m d a).0 ∙ ap (λ (z : State). (recovered h z d).state) e ∙ sym (ap (λ (z : Trail). z.state) s))
    q

pub runs_items : StatementItems
unfolding beginning
runs_items h is x y e q = sym (from_items h is (beginning h) x y (sym e) q)
