-- `server_fits`: entries, recorded marks and three more, joined as in the definition.
use Rattle.cluster.specs.Refusals.{server_fits}
use Rattle.mark_checks.specs.Below.{below_fits}
use Rattle.mark_checks.proofs.server_fits.Goals as goal

pub returns : goal.returns
unfolding server_fits below_fits
returns c = rw (c.marks_fit.ensures, c.entries_fit.ensures)
