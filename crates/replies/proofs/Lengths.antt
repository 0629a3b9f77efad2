-- A reply is within its longest.
-- Assumes nothing.
use mathlib.Core.List.{[], ◌∷◌}
use Prim.Native.Nat.{ℕ, ◌≤◌}
use native.Mathlib.Omega.{arith}
use lib.ListN.{length, length-append}
use Rattle.cluster.specs.declared.Answer.TheVariants as answer
use Rattle.cluster.specs.Replies.{number_of}
use Rattle.text.proofs.Decimals.{spelled_few}
use Rattle.replies.specs.declared.Printed.{Printed}
use Rattle.replies.specs.declared.Printed.TheVariants as printed
use Rattle.replies.specs.Texts.{tagged, text_of}

tagged_short : (a b n : ℕ) → length (tagged (a ∷ b ∷ []) n) ≤ 24
tagged_short a b n = simp length-append (omega (arith, spelled_few 20 n))

pub text_short : (p : Printed) → length (text_of p) ≤ 24
text_short printed.Bad = omega arith
text_short (printed.Reply answer.Done) = omega arith
text_short (printed.Reply (answer.Value v)) = tagged_short 111 107 v
text_short (printed.Reply answer.Silent) = omega arith
text_short (printed.Reply (answer.Declined w)) = tagged_short 110 111 (number_of w)
