-- In whichever pieces the input comes, and whenever the replies held are written, the program makes and writes the same of it.
-- Assumes nothing.
use mathlib.Core.Path.{◌≡◌, refl, sym, ap, ◌∙◌}
use mathlib.Core.Bool.{Bool, true, false, cond}
use mathlib.Core.List.{List, [], ◌∷◌, ◌++◌, append_assoc, append-nil}
use Prim.Native.Nat.{ℕ}
use lib.Dec.{eqb}
use Rattle.line_input.proofs.Feeding.{fed_pieces}
use Rattle.lines.specs.Forms.{meaning_of}
use Rattle.replies.specs.Texts.{newline}
use Rattle.answers.specs.Answers.{After, answer_to}
use Rattle.interpreter.specs.Input.{Program, grown, ended, fed, emptied}
use Rattle.interpreter.proofs.Fed.{feeding}

pub pieces : (p : Program) (a b : List ℕ) → fed p (a ++ b) ≡ fed (fed p a) b
pieces = fed_pieces feeding

-- the program with replies w before those that it holds
abbrev behind : List ℕ → Program → Program
behind w p = record { line = p.line; held = p.held; media = p.media; tables = p.tables; out = w ++ p.out }

fed_behind : (w : List ℕ) (p : Program) (s : List ℕ) → fed (behind w p) s ≡ behind w (fed p s)
unfolding fed
fed_behind w p [] = refl
fed_behind w p (x ∷ s) = go (eqb x newline) (λ q. fed_behind w q s)
  where
    a : After
    a = answer_to (meaning_of p.line) p.held p.media p.tables

    go : (t : Bool) → ((q : Program) → fed (behind w q) s ≡ behind w (fed q s)) → fed (cond t (ended (behind w p)) (grown (behind w p) x)) s ≡ behind w (fed (cond t (ended p) (grown p x)) s)
    go true f = ap (λ (o : List ℕ). fed (record { line = []; held = a.held; media = a.media; tables = a.tables; out = o }) s) (append_assoc w p.out a.text) ∙ f (ended p)
    go false f = f (grown p x)

-- what was held after a first piece is written, and then what the second adds: together all that both give
pub written : (p : Program) (a b : List ℕ) → (fed p (a ++ b)).out ≡ (fed p a).out ++ (fed (emptied (fed p a)) b).out
written p a b =
    ap (λ (q : Program). q.out) (pieces p a b)
    ∙ ap (λ (o : List ℕ). (fed (record { line = (fed p a).line; held = (fed p a).held; media = (fed p a).media; tables = (fed p a).tables; out = o }) b).out) (sym (append-nil (fed p a).out))
    ∙ ap (λ (q : Program). q.out) (fed_behind (fed p a).out (emptied (fed p a)) b)
