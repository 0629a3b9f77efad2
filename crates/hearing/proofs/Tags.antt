-- What is heard is neither of two: the `else` of each `let`.
-- Assumes nothing.
use mathlib.Core.Path.{◌≡◌, refl}
use mathlib.Core.List.{List}
use Prim.Native.Nat.{ℕ}
use Rattle.cluster.specs.declared.Records.{Records}
use Rattle.cluster.specs.declared.Server.{Server}
use Rattle.cluster.specs.State.{server_at}
use Rattle.cluster.specs.Effects.{unheard}
use Rattle.replica_checks.specs.declared.Heard.{Heard}
use Rattle.replica_checks.specs.declared.Heard.TheVariants.{Silent, Declined, Mark}
use Rattle.checks.specs.declared.Change.{Change}
use Rattle.checks.specs.Results.{changed}
use Rattle.checks.proofs.Frame.{declined_server}
use Rattle.hearing.specs.Hearing.{on_heard, after_silence, read_by}

-- the `else` of a `let Mark`
pub not_heard : (v : Server) (done other : ℕ → Change) (quiet : Change) (h : Heard) → ((n : ℕ) → h ≡ Mark n → ⊥) → on_heard v other quiet h ≡ on_heard v done quiet h
unfolding on_heard
not_heard v done other quiet Silent t = refl
not_heard v done other quiet (Declined why) t = refl
not_heard v done other quiet (Mark n) t = absurd (t n refl)

pub not_read : (r : Records) (s i : ℕ) (place : List ℕ) (h : Heard) → ((n : ℕ) → h ≡ Mark n → ⊥)
    → let quiet = after_silence (unheard (server_at r s) i) in changed r s (on_heard (server_at r s) (λ n. quiet) quiet h) ≡ read_by r s i place h
unfolding on_heard read_by
not_read r s i place Silent t = refl
not_read r s i place (Declined why) t = declined_server r s why
not_read r s i place (Mark n) t = absurd (t n refl)
