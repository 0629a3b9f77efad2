-- The sizes of the media that the program lends: seven of 1,000 places; one of them, and an old one of as many.
-- Assumes nothing.
use Rattle.std.specs.Prelude.{ℕ, ◌*◌}
use Rattle.storage.specs.Sizes.{medium_size}
use Rattle.old_places.specs.Old.{old_medium_size}

abbrev pub media_length : ℕ
media_length = 7 * medium_size 1000

abbrev pub one_medium : ℕ
one_medium = medium_size 1000

abbrev pub old_medium : ℕ
old_medium = old_medium_size 1000
