-- `slot::encode`: three numbers and the zeros behind them are the head, and the head with its CRC behind it is the slot (`seal_all`).
use mathlib.Core.Path.{◌≡◌, refl, sym, ap, ◌∙◌}
use mathlib.Core.List.{List, [], ◌∷◌}
use Prim.Native.Nat.{ℕ, ◌+◌, zero-le}
use Rattle.octets.specs.Octets.{write_at, be_bytes, fields_of}
use Rattle.octets.proofs.Laws.{write_write}
use Rattle.octets.proofs.Numbers.{first_field, next_field, length_fields}
use Rattle.crc32.proofs.Sealed.{seal_all}
use Rattle.storage.specs.declared.slot.Slot.{Slot}
use Rattle.storage.specs.Layout.{data_offset, check_offset, head_of}
use Rattle.storage.specs.Sizes.{slot_layout}
use Rattle.storage.specs.Slots.{slot_numbers, slot_bytes}
use Rattle.storage.proofs.Layouts.{length_head}
use Rattle.slots.proofs.encode.Goals as goal

-- the zeros behind the numbers are written as one more number

zeros-behind : (x : Slot) (m l l' : List ℕ) → l ≡ write_at 0 (fields_of (slot_numbers x)) m → l' ≡ write_at (data_offset slot_layout) (be_bytes 4 0) l
    → l' ≡ write_at 0 (head_of slot_layout (slot_numbers x) []) m
unfolding be_bytes
zeros-behind x m l l' e e' =
    e' ∙ ap (write_at (data_offset slot_layout) (be_bytes 4 0)) e
    ∙ write_write 0 (data_offset slot_layout) (fields_of (slot_numbers x)) (be_bytes 4 0) m zero-le (ap (λ (n : ℕ). 0 + n) (length_fields (slot_numbers x)))

pub returns : goal.returns
unfolding slot_bytes
returns c =
    let x = c.args.x in
    let m = c.args.out.now in
    let e₁ = first_field 0 8 x.promise m _ c.put_be.ensures in
    let e₂ = next_field ((8, x.promise) ∷ []) 0 8 x.low m _ _ zero-le e₁ c.put_be-2.ensures in
    let e₃ = next_field ((8, x.promise) ∷ (8, x.low) ∷ []) 0 8 x.local m _ _ zero-le e₂ c.put_be-3.ensures in
    let e₄ = zeros-behind x m _ _ e₃ c.put_be-4.ensures in
    seal_all (check_offset slot_layout) (head_of slot_layout (slot_numbers x) []) m _ _ (length_head slot_layout (slot_numbers x) [] refl zero-le) (sym c.requires.out_len) e₄ c.seal.ensures
