-- `forms::beside`, by whether data and locks are there.
-- Assumes nothing.
use mathlib.Core.Path.{sym, ap, ◌∙◌}
use lib.ListN.{length}
use Rattle.text.proofs.Fields.{field_short, count_few}
use Rattle.lines.proofs.Gives.{gives_bad, no_data, no_locks, gives_data}
use native.Mathlib.Omega.{arith}
use Rattle.lines.proofs.forms.beside.Goals as goal

pub returns-then-not-is_hex : goal.returns-then-not-is_hex
returns-then-not-is_hex c =
    let a = c.args in
    let h = c.is_hex in
    let e = no_data a.line.now a.server a.q _ c.field-digits.ensures (sym h.ensures ∙ c.if-not-is_hex.true) in
    gives_bad _ _ _ e

pub returns-then-not-all_numbers : goal.returns-then-not-all_numbers
returns-then-not-all_numbers c =
    let a = c.args in
    let h = c.is_hex in
    let k = c.all_numbers in
    let hex = sym h.ensures ∙ c.if-not-is_hex.false in
    let e = no_locks a.line.now a.server a.q _ c.field-digits.ensures _ a.n c.after-rest.ensures c.requires.n_value hex (sym k.ensures ∙ c.if-not-all_numbers.true) in
    gives_bad _ _ _ e

pub read-requires : goal.read-requires
read-requires c =
    let h = c.is_hex in
    let f = c.field-digits.ensures in record {
      s_value = sym h.ensures ∙ c.if-not-is_hex.false;
      s_len_bound = omega (arith, ap length f, field_short 5 c.args.line.now);
    }

pub read_numbers-requires : goal.read_numbers-requires
read_numbers-requires c = omega (arith, count_few c.args.line.now)

pub returns : goal.returns
returns c =
    let a = c.args in
    let h = c.is_hex in
    let k = c.all_numbers in
    let hex = sym h.ensures ∙ c.if-not-is_hex.false in
    let all = sym k.ensures ∙ c.if-not-all_numbers.false in
    gives_data a.line.now a.server a.q _ c.field-digits.ensures _ a.n c.after-rest.ensures c.requires.n_value hex _ _ _ _ all c.read.ensures c.read_numbers.ensures
