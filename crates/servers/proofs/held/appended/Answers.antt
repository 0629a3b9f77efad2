-- `held::appended`: the others are copied first, and the newest is encoded behind them (cluster proofs/Window `in_place`).
use mathlib.Core.Path.{◌≡◌, sym, ap, ◌∙◌}
use mathlib.Core.List.{List, ◌++◌}
use Prim.Native.Nat.{ℕ, ◌-◌, ◌≤◌}
use native.Mathlib.Omega.{arith}
use lib.ListN.{length, drop, length-append, length-drop}
use lib.Seq.{take_all}
use Rattle.storage.specs.Sizes.{place_size}
use Rattle.storage.specs.Places.{record_bytes}
use Rattle.cluster.specs.State.{held_size}
use Rattle.cluster.proofs.Window.{in_place}
use Rattle.servers.proofs.held.appended.Goals as goal

-- behind the others there is room for the newest

room : (others held : List ℕ) → length others ≡ held_size - place_size → length held ≡ held_size → held_size ≤ length (others ++ drop (held_size - place_size) held)
room others held a b =
    omega (arith, length-append others (drop (held_size - place_size) held), length-drop (held_size - place_size) held, a, b)

pub slice_bounds-next-end-2 : goal.slice_bounds-next-end-2
slice_bounds-next-end-2 c =
    room c.copy_from_slice.new.self c.args.held
    (omega (arith, c.copy_from_slice.auto)) (omega (arith, c.well_formed))

pub returns : goal.returns
returns c =
    let a = c.args in
    let size : length a.held ≡ held_size = omega (arith, c.well_formed) in
    in_place a.held (record_bytes a.fields a.content.now) size
    (sym (ap length c.encode.ensures) ∙ omega (arith, c.encode.auto))
    c.copy_from_slice.new.self c.encode.new.out
    (c.copy_from_slice.ensures.after ∙ take_all (held_size - place_size) (drop place_size a.held) (omega (arith, size, length-drop place_size a.held)))
    c.encode.ensures
