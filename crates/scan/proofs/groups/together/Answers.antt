-- `groups::together`: the lanes start behind the IDs, which the fields' test has shown, and come to the checks (`by_lanes`).
use Rattle.octets.proofs.Bytes.{bytes_known}
use Rattle.scan.proofs.SideBySide.{by_lanes}
use borrow.Author.Rules.{rules}
use Rattle.scan.proofs.groups.together.Goals as goal

pub agreeing-requires : goal.agreeing-requires
agreeing-requires c =
    let x = c.args in
    let b = bytes_known x.s.now (search rules) in
    let f = c.all_fit.ensures c.if-not-all_fit.false in record {
      s_len = search rules;
      checks = by_lanes x.n x.s.now c.numbers-behind.result c.words.result b (search rules) f c.numbers-behind.ensures c.words.ensures;
    }
