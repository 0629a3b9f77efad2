-- What a client may ask for in one request: a pair of limits, on its bytes of data and on its locks. Document 02, No. 6: "The gate system shares a partition
-- with the booking system and may send at most 12 data bytes and 1 lock. Both keep their limit, known by the client number". Only issue reads a pair, for
-- refusal 12: a place has room for 28 bytes of data, whoever sent them.
-- Assumes nothing.
use Rattle.std.specs.Prelude.{Bool, cond, ◌||◌, ℕ, ltb}
use Rattle.limits.specs.declared.Limits.{Limits}

-- "at most 12 data bytes and 1 lock"
abbrev pub gate_limits : Limits
gate_limits = record { bytes = 12; locks = 1 }

-- the booking system's, which it keeps: document 01, 12, "Data exceed 28 bytes, or locks exceed 4"
abbrev pub booking_limits : Limits
booking_limits = record { bytes = 28; locks = 4 }

-- "numbers below 100 are gates"
abbrev pub is_gate : ℕ → Bool
is_gate client = ltb client 100

-- "the pair that belongs to the client"
unfoldable pub limits_of : ℕ → Limits
limits_of client = cond (is_gate client) gate_limits booking_limits

-- 12, document 01: "Data exceed 28 bytes, or locks exceed 4", with a pair in place of the two numbers; of so many bytes and locks
abbrev pub too_much : Limits → ℕ → ℕ → Bool
too_much l size locks = ltb l.bytes size || ltb l.locks locks
