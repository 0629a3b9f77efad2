-- What a call that sends a message to the register replaces at its end.
-- Assumes nothing.
use Rattle.std.specs.Prelude.{ℕ}
use Rattle.cluster.specs.declared.Records.{Records}
use Rattle.cluster.specs.declared.Outcome.{Outcome}
use Rattle.cluster.specs.State.{put_server, put_register}
use Rattle.cluster.specs.Effects.{no_bytes}
use Rattle.register_message.specs.declared.Registered.{Registered}

-- a call that has changed the register and one server
abbrev pub settled : Records → ℕ → Registered → Outcome
settled r s c = record { records = put_server (put_register r c.register) s c.server; answer = c.answer; bytes = no_bytes }
