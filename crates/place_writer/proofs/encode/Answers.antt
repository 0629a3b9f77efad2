-- `place::encode`: the three writes are the head (`head_written`), and the head with its CRC behind it is the record (`seal_all`).
use mathlib.Core.Path.{◌≡◌, refl, sym}
use lib.ListN.{length, take, drop}
use Rattle.octets.specs.Octets.{write_at, fields_of, offset_of}
use Rattle.storage.specs.Layout.{data_offset, check_offset, padded, head_of}
use Rattle.storage.specs.Sizes.{place_layout}
use Rattle.storage.specs.Places.{place_numbers, record_bytes}
use Rattle.crc32.proofs.Sealed.{seal_all}
use Rattle.storage.proofs.Layouts.{length_head}
use Rattle.storage.proofs.RecordWritten.{head_written}
use Rattle.place_writer.proofs.encode.Goals as goal

pub returns : goal.returns
unfolding record_bytes
returns c =
    let f = c.args.f in
    let d = c.args.d.now in
    let m = c.args.out.now in
    let l₁ = c.lower.new.out in
    let l₂ = c.upper.new.out in
    let l₃ = c.fill.new.out in
    let e₁ : l₁ ≡ write_at 0 (fields_of (take 4 (place_numbers f 0))) m = c.lower.ensures in
    let e₂ : l₂ ≡ write_at (offset_of place_layout.widths 4) (fields_of (drop 4 (place_numbers f (length d)))) l₁ = c.upper.ensures in
    let e₃ : l₃ ≡ write_at (data_offset place_layout) (padded place_layout d) l₂ = c.fill.ensures in
    seal_all (check_offset place_layout) (head_of place_layout (place_numbers f (length d)) d) m l₃ _ (length_head place_layout (place_numbers f (length d)) d refl c.requires.d_len_bound) (sym c.requires.out_len) (head_written f d m l₁ l₂ l₃ e₁ e₂ e₃) c.seal.ensures
