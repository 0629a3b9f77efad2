-- The call that a drawn number names.
-- Assumes nothing.
use Rattle.std.proofs.Common.{◌≡◌, ℕ, ◌%◌, get_or, sym, ap, ◌∙◌}
use Rattle.generator.specs.Load.{next, after, draw, Made, stop_call, eight, call_of}

-- d is the draw of a, the state behind s, and the call m is the one that stands there among the eight
pub chosen : (r n s a d k : ℕ) (m : Made) → a ≡ next s → d ≡ draw a % 8 → d ≡ k → m ≡ get_or (eight r n a) k (stop_call s) → m ≡ call_of r n s
unfolding after call_of
chosen r n s a d k m e f g h =
    h ∙ ap (λ (x : ℕ). get_or (eight r n x) k (stop_call s)) e
    ∙ ap (λ (j : ℕ). get_or (eight r n (next s)) j (stop_call s)) (sym g ∙ f ∙ ap (λ (x : ℕ). draw x % 8) e)
