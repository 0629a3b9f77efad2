-- `octets::byte_by_byte`. The invariant: v and the bytes that are still to come give the number, and v has as many bytes as were read, so it fits 64 bits.
use mathlib.Core.Path.{◌≡◌}
use Prim.Native.Nat.{◌<◌, ◌^◌}
use lib.ListN.{drop}
use Rattle.octets.specs.Octets.{be_from}
use Rattle.octets.proofs.byte_by_byte.Given as goal

abbrev pub invariant-loop-b : goal.invariant-loop-b
invariant-loop-b l = (l.v < 256 ^ l.b-index) × (be_from 0 l.s ≡ be_from l.v (drop l.b-index l.s))
