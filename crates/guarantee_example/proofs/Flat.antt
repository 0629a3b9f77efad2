-- The calls that a list of items stands for, part by part, each from the state that the part before leaves; and what a recovery gives, by its lines.
-- Assumes nothing.
use mathlib.Core.Path.{◌≡◌, refl, ap, ◌∙◌}
use mathlib.Core.List.{List, [], ◌∷◌, ◌++◌, map}
use Prim.Native.Nat.{ℕ}
use native.Mathlib.Omega.{arith}
use lib.ListN.{length}
use Rattle.cluster.specs.declared.Shape.{Shape}
use Rattle.cluster.specs.State.{State}
use Rattle.cluster.specs.Replies.{Reply}
use Rattle.cluster.specs.Refusals.{Input, first_of}
use Rattle.recovery.specs.Recovery.{Recovery, Trail, one as one_more, played, own, recovery_rows, begun, calls_of, recovered}
use Rattle.recovery.proofs.Counts.{played_count}
use Rattle.guarantee.specs.History.{Element, Moment, next, along}
use Rattle.guarantee.specs.Recoveries.{Item, one, recovery, reading, next_item, flat}
use Rattle.guarantee_example.proofs.Outline.{Line, outline}
use Rattle.guarantee_example.proofs.Worked.{replies_in}

-- ================ the calls

-- from state x on, the items stand for these
abbrev pub Stand : Shape → State → List Item → List Element → Type 0
Stand h x is es = (m : Moment) → m.state ≡ x → flat h m is ≡ es

state_after : (h : Shape) (es : List Element) (m : Moment) → (along h m es).state ≡ (outline h m.state es).1
unfolding along next outline
state_after h [] m = refl
state_after h (e ∷ es) m = state_after h es (next h m e)

leaves : (h : Shape) (m : Moment) (x y : State) (es : List Element) → m.state ≡ x → (outline h x es).1 ≡ y → (along h m es).state ≡ y
leaves h m x y es e q = state_after h es m ∙ ap (λ (z : State). (outline h z es).1) e ∙ q

pub no_items : (h : Shape) (x : State) → Stand h x [] []
unfolding flat
no_items h x m e = refl

pub then_recovery : (h : Shape) (x y : State) (d : Recovery) (a : ℕ) (ps : List Input) (is : List Item) (es : List Element)
    → calls_of h x d ≡ ps → (outline h x (map (reading a) ps)).1 ≡ y → Stand h y is es → Stand h x (recovery d a ∷ is) (map (reading a) ps ++ es)
unfolding flat next_item
then_recovery h x y d a ps is es made q rest m e =
    let c : calls_of h m.state d ≡ ps = ap (λ (z : State). calls_of h z d) e ∙ made in
    ap (λ (l : List Input). map (reading a) l ++ flat h (along h m (map (reading a) l)) is) c
    ∙ ap (λ (l : List Element). map (reading a) ps ++ l) (rest (along h m (map (reading a) ps)) (leaves h m x y (map (reading a) ps) e q))

calls_first : (h : Shape) (es : List Element) (is : List Item) (m : Moment) → flat h m (map one es ++ is) ≡ es ++ flat h (along h m es) is
unfolding flat next_item along
calls_first h [] is m = refl
calls_first h (e ∷ es) is m = ap (λ (l : List Element). e ∷ l) (calls_first h es is (next h m e))

pub then_calls : (h : Shape) (x y : State) (es : List Element) (is : List Item) (fs : List Element)
    → (outline h x es).1 ≡ y → Stand h y is fs → Stand h x (map one es ++ is) (es ++ fs)
then_calls h x y es is fs q rest m e =
    calls_first h es is m ∙ ap (λ (l : List Element). es ++ l) (rest (along h m es) (leaves h m x y es e q))

-- ================ what a recovery gives

abbrev last_of : Reply → List Reply → Reply
last_of r [] = r
last_of r (q ∷ qs) = last_of q qs

module _ (h : Shape) where
  last_reply : (a : ℕ) (ps : List Input) (t : Trail) → (played h t ps).reply ≡ last_of t.reply (replies_in (outline h t.state (map (reading a) ps)).0)
  unfolding played outline
  last_reply a [] t = refl
  last_reply a (p ∷ ps) t = last_reply a ps (one_more h t p)

-- "It gives the last reply and its count of calls."
pub gives : (h : Shape) (x : State) (d : Recovery) (a : ℕ) (ps : List Input) (ls : List Line)
    → calls_of h x d ≡ ps → (outline h x (map (reading a) ps)).0 ≡ ls
    → ((recovered h x d).reply ≡ last_of (own (first_of (recovery_rows h x d))) (replies_in ls)) × ((recovered h x d).count ≡ length ps)
unfolding recovered begun
gives h x d a ps ls made worked = (
  ap (λ (l : List Input). (played h (begun h x d) l).reply) made
      ∙ last_reply h a ps (begun h x d)
      ∙ ap (λ (l : List Line). last_of (own (first_of (recovery_rows h x d))) (replies_in l)) worked,
  ap (λ (l : List Input). (played h (begun h x d) l).count) made ∙ (let n = played_count h (begun h x d) ps in omega (arith, n)),
)
