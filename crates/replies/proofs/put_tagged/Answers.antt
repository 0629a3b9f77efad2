-- `put_tagged`: three writes, each behind the one before.
-- Assumes nothing.
use mathlib.Core.Path.{◌≡◌, ap, ◌∙◌}
use mathlib.Core.List.{[], ◌∷◌}
use Prim.Native.Nat.{◌+◌}
use lib.ListN.{length, length-append}
use Rattle.octets.specs.Octets.{write_at}
use Rattle.text.specs.Text.{decimal_of}
use Rattle.octets.proofs.Laws.{write_three}
use native.Mathlib.Omega.{arith}
use Rattle.replies.proofs.put_tagged.Goals as goal

pub returns : goal.returns
returns c =
    let a = c.args in
    let d = c.put_decimal-n in
    let n = d.ensures.value in
    let q : 3 + length (decimal_of a.v) ≡ 3 + d.result = omega arith in record {
      value = simp length-append (omega arith);
      out_after = c.put-2.ensures
          ∙ ap (write_at (3 + d.result) (10 ∷ [])) (d.ensures.out_after ∙ ap (write_at 3 (decimal_of a.v)) c.put.ensures)
          ∙ write_three a.out.now a.word.now (decimal_of a.v) (10 ∷ []) 3 (3 + d.result) (omega arith) q (omega arith);
    }
