-- `old::renew`: what is encoded are the fields and data that are read.
use mathlib.Core.Path.{◌≡◌, ap, ap₂, ◌∙◌}
use Prim.Native.Nat.{ℕ, ◌+◌, ◌-◌}
use lib.ListN.{take, drop}
use Rattle.octets.specs.Octets.{part}
use Rattle.octets.proofs.Laws.{between_part}
use Rattle.storage.specs.Layout.{data_offset}
use Rattle.storage.specs.Places.{size_as, record_bytes}
use Rattle.old_places.specs.Old.{old_layout, old_data, renewed}
use Rattle.old_places.proofs.renew.Goals as goal

pub returns : goal.returns
unfolding renewed old_data
returns c =
    let s = c.args.s.now in
    let r = c.number.result in
    let size : r ≡ size_as old_layout s = c.number.ensures in
    let o = data_offset old_layout in
    let same : take (o + r - o) (drop o s) ≡ old_data s = between_part o r s ∙ ap (λ (k : ℕ). part o k s) size in
    c.encode.ensures ∙ ap₂ record_bytes c.decode.ensures same
