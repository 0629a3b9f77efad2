-- `read::read_sent`: what is heard of replica i's medium and the place read are the message's result (`read_heard_lem`).
use native.Mathlib.Omega.{arith}
use Rattle.delivery.proofs.Hearing.{medium_length, read_heard_lem}
use Rattle.reading_calls.proofs.read.read_sent.Goals as goal

pub read-heard-requires : goal.read-heard-requires
read-heard-requires c =
    let a = c.args in
    let p = c.requires in
    rw c.medium_of-medium.ensures (record { medium = record { few = p.named.0.few; size = medium_length a.shape.places a.i a.media.now p.named.0.within } })

pub place_of-place-requires : goal.place_of-place-requires
place_of-place-requires c =
    let p = c.requires in record {
      i_bound = (omega (arith, p.named.0.replica, p.named.0.replicas), p.named.2, p.named.3, p.named.0.few);
      places_in_bounds = p.named.0.within;
    }

pub returns : goal.returns
returns c =
    let a = c.args in
    λ given tables.
    rw (c.read_by.ensures, c.place_of-place.ensures)
    (read_heard_lem a.shape a.records a.media.now tables a.s a.i a.id a.fate given _ (rw c.medium_of-medium.ensures at c.read-heard.ensures))
