-- `place::valid`: what fits, and the check.
use mathlib.Core.Path.{sym, ap, ◌∙◌}
use mathlib.Core.Bool.{Bool, ◌&&◌}
use Rattle.crc32.specs.Crc32.{checked}
use Rattle.storage.specs.Layout.{check_offset}
use Rattle.storage.specs.Sizes.{place_layout}
use native.Mathlib.Omega.{arith}
use Rattle.place_reader.proofs.valid.Goals as goal

pub returns-else-fields_fit : goal.returns-else-fields_fit
returns-else-fields_fit c = c.if-fields_fit.false ∙ sym (c.fields_fit.ensures.0 ∙ ap (λ (b : Bool). b && checked (check_offset place_layout) c.args.s.now) c.if-fields_fit.false)

pub check-requires : goal.check-requires
check-requires c =
    let l = (c.fields_fit.ensures.1 c.if-fields_fit.true).0 in record {
      k_in_bounds = omega (arith, l);
    }

pub returns-then-fields_fit : goal.returns-then-fields_fit
returns-then-fields_fit c = c.check.ensures
    ∙ sym (c.fields_fit.ensures.0 ∙ ap (λ (b : Bool). b && checked (check_offset place_layout) c.args.s.now) c.if-fields_fit.true)
