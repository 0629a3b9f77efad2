-- What a replica has read of its medium is what the medium holds.
-- Assumes nothing.
use Rattle.std.specs.Prelude.{◌≡◌, List, ℕ, length}
use Rattle.storage.specs.declared.operation.Read.{Read}
use Rattle.storage.specs.Sizes.{medium_size}
use Rattle.storage.specs.Slots.{current_of, held_of}
use Rattle.storage.specs.Log.{mark_of}

pub record AsRead (r : Read) (m : List ℕ) : Type 0 where
  pub size : length m ≡ medium_size r.places
  pub current : r.current ≡ current_of m
  pub slot : r.slot ≡ held_of r.current m
  pub mark : r.mark ≡ mark_of r.places m
