-- The sizes of what the script program holds.
-- Assumes nothing.
use Rattle.std.specs.Prelude.{ℕ, ◌*◌}
use Rattle.storage.specs.Sizes.{medium_size}
use Rattle.cluster.specs.State.{table_size}

-- seven media of 100 places
abbrev pub media_limit : ℕ
media_limit = 7 * medium_size 100

-- four lock tables
abbrev pub tables_length : ℕ
tables_length = 4 * table_size

-- a piece of input that is read at once, and the replies to it: 24 bytes is the longest, and each line has at least its newline
abbrev pub piece_limit : ℕ
piece_limit = 4096

abbrev pub out_limit : ℕ
out_limit = 24 * piece_limit

-- one byte more than a line may have
abbrev pub line_room : ℕ
line_room = 501
