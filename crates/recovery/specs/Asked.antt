-- What a running recovery (crate driver) gets and gives, in the definition of a recovery.
-- Assumes nothing.
use Rattle.std.specs.Prelude.{ℕ, zero, suc, ◌+◌, ◌/◌, ◌%◌, ◌<◌, ◌≤◌, List, map, length, get_or}
use Rattle.fate.specs.declared.Fate.{Fate}
use Rattle.fate.specs.declared.Fate.TheVariants.{Answered, Lost, AnswerLost, Cut}
use Rattle.fate.specs.declared.Left.{Left}
use Rattle.fate.specs.declared.Left.TheVariants.{Old, New, Torn}
use Rattle.cluster.specs.declared.Outcome.{Outcome}
use Rattle.cluster.specs.Replies.{reply_of}
use Rattle.recovery.specs.declared.Asked.{Asked}
use Rattle.recovery.specs.declared.Recovered.{Recovered}
use Rattle.recovery.specs.Recovery.{Recovery, Trail}

-- A running recovery is lent its fates as numbers, since a slice of enums cannot be lent: 0 answered, 1 lost, 2 done with the answer lost, 3 + 3 × w + l cut at
-- write w, which leaves the slot or place old (l = 0), new (1) or holding the given bytes (2). Every number is a fate's.
abbrev pub left_of : ℕ → Left
left_of zero = Old
left_of (suc zero) = New
left_of (suc (suc l)) = Torn

abbrev pub fate_of : ℕ → Fate
fate_of zero = Answered
fate_of (suc zero) = Lost
fate_of (suc (suc zero)) = AnswerLost
fate_of (suc (suc (suc n))) = Cut (n / 3) (left_of (n % 3))

abbrev pub fates_of : List ℕ → List Fate
fates_of ks = map fate_of ks

-- the server by value, the rest lent
abbrev pub asked_of : ℕ → (listed fates given : List ℕ) → Recovery
asked_of server listed fates given = record { server = server; listed = listed; fates = fates_of fates; given = given }

-- of what the driver has made of them once its checks have passed
abbrev pub recovery_of : Asked → Recovery
recovery_of a = asked_of a.server a.listed.now a.fates.now a.given.now

-- how far it has come: what it carries by value, and the lent slices
abbrev pub trail_of : Recovered → (media tables : List ℕ) → Trail
trail_of g media tables = record { state = record { records = g.records; media = media; tables = tables }; reply = reply_of g.answer; count = g.calls }

-- a list of replicas that 4 and 29 let pass: few, and each with a place in a server's record
pub record Named (listed : List ℕ) : Type 0 where
  pub few : length listed ≤ 7
  pub below : (k : ℕ) → k < length listed → get_or listed k 0 < 7

-- what it carries after a call with this outcome, behind so many others
abbrev pub counted : Outcome → ℕ → Recovered
counted o calls = record { records = o.records; answer = o.answer; calls = calls + 1 }
