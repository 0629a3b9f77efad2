-- The test of a line's first field and of the number of its fields, as the code makes it.
-- Assumes nothing.
use mathlib.Core.Path.{◌≡◌, sym}
use mathlib.Core.List.{List}
use mathlib.Core.Bool.{Bool, true, false, ◌&&◌}
use Prim.Native.Nat.{ℕ}
use lib.Dec.{eqb}
use Rattle.std.specs.Prelude.{Option}
use Rattle.lines.specs.Words.{same}
use Rattle.lines.specs.declared.forms.Line.{Line}
use Rattle.lines.specs.Forms.{Meaning, begins, tried, Split, line_of}

-- r is what `is` answered, l what the code then gives
module _ (s w v : List ℕ) (n k : ℕ) (p : Split s v n) (r : Bool) (e : r ≡ (same v w && eqb n k)) (form next : Meaning) (l : Option Line) where
  begun_is : begins s w k ≡ r
  begun_is = rw (← p.word, ← p.count) (sym e)

  pub here : r ≡ true → l ≡ line_of form → l ≡ line_of (tried s w k form next)
  here h q = rw (begun_is, h) q

  pub onward : r ≡ false → l ≡ line_of next → l ≡ line_of (tried s w k form next)
  onward h q = rw (begun_is, h) q
