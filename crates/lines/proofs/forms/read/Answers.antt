-- `forms::read`, by the length, the word and the number of fields.
-- Assumes nothing.
use mathlib.Core.Path.{◌≡◌}
use mathlib.Core.Bool.{true, false}
use Prim.Native.Nat.{◌<◌, ◌≤◌}
use Rattle.text.specs.Text.{field_of, field_count}
use Rattle.lines.specs.Words.{same, issue_word}
use Rattle.lines.proofs.Bare.{plain_bare}
use Rattle.lines.proofs.Gives.{gives_as, gives_bare, gives_bad, too_long, not_issue, too_few, an_issue}
use native.Mathlib.Omega.{arith}
use Rattle.lines.proofs.forms.read.Goals as goal

pub returns-then-line-gt-LIMIT : goal.returns-then-line-gt-LIMIT
returns-then-line-gt-LIMIT c = gives_bad _ _ _ (too_long _ c.if-line-gt-LIMIT.true)

pub returns-then-ne : goal.returns-then-ne
returns-then-ne c =
    let s = c.args.line.now in
    let w : same (field_of 0 s) issue_word ≡ false = grind arith in
    gives_as _ _ _ _ _ _ _ (not_issue s c.if-line-gt-LIMIT.false w) (gives_bare _ _ _ _ (plain_bare s) c.plain.ensures)

pub returns-then-n-lt6 : goal.returns-then-n-lt6
returns-then-n-lt6 c =
    let s = c.args.line.now in
    let w : same (field_of 0 s) issue_word ≡ true = grind arith in
    let n : field_count s < 6 = omega (arith, c.count-n.ensures) in
    gives_bad _ _ _ (too_few s c.if-line-gt-LIMIT.false w n)

pub returns : goal.returns
returns c =
    let s = c.args.line.now in
    let w : same (field_of 0 s) issue_word ≡ true = grind arith in
    let n : 6 ≤ field_count s = omega (arith, c.count-n.ensures) in
    gives_as _ _ _ _ _ _ _ (an_issue s c.if-line-gt-LIMIT.false w n) c.issue.ensures
