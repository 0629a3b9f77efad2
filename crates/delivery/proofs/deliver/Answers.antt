-- `delivery::deliver`: the part lent is replica i's medium; what comes back and what `hear` makes of it are the message (`delivered`).
use Rattle.delivery.proofs.Hearing.{lent_size, delivered}
use Rattle.delivery.proofs.deliver.Goals as goal

pub answer-heard-requires : goal.answer-heard-requires
answer-heard-requires c =
    let a = c.args in
    let p = c.requires in record {
      medium = record { few = p.named.few; size = lent_size a.shape.places a.i _ _ a.media.now (record { starts = c.range_of.ensures.0; ends = c.range_of.ensures.1 }) p.named.within };
      has_place = p.has_place;
    }

pub returns : goal.returns
returns c =
    let a = c.args in
    λ r s tables q.
    delivered a.shape r a.media.now tables s a.i a.op a.src.now a.fate a.given.now c.requires.named.within _ _
    (record { starts = c.range_of.ensures.0; ends = c.range_of.ensures.1 }) c.answer-heard.result c.answer-heard.new.m c.answer-heard.auto.m a.v q
    c.answer-heard.ensures (rw c.is_append.ensures at c.hear.ensures)
