-- What restore's passed refusals leave known to the code that writes.
-- Assumes nothing.
use Rattle.std.specs.Prelude.{◌≡◌, false, ℕ, ◌+◌, ◌*◌, ◌≤◌, ◌<◌, ◌^◌}
use Rattle.storage.specs.Sizes.{slots_size}
use Rattle.cluster.specs.declared.Records.{Records}
use Rattle.cluster.specs.Refusals.{session_at_top}

-- of records, media of so many bytes, replica i and a backup of so many bytes
pub record Fits (r : Records) (media i bytes : ℕ) : Type 0 where
  pub replica : i < 7
  pub slots : slots_size ≤ bytes
  pub within : i * bytes + bytes ≤ media
  pub small : i * bytes + bytes < 2 ^ 64
  pub session : session_at_top r.register.session ≡ false
