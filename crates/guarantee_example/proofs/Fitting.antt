-- The arguments of the lists' calls fit.
-- Assumes nothing.
use mathlib.Core.Path.{◌≡◌, refl, sym}
use mathlib.Core.Bool.{true, true≢false}
use mathlib.Core.List.{List, [], ◌∷◌, ◌++◌}
use Prim.Native.Nat.{ℕ, ◌<◌, ◌^◌}
use native.Mathlib.Omega.{arith}
use lib.Dec.{lit<}
use lib.ListN.{length}
use Rattle.octets.specs.Octets.{Bytes}
use Rattle.fate.specs.declared.Fate.{Fate}
use Rattle.fate.specs.declared.Fate.TheVariants.{Answered}
use Rattle.storage.specs.Sizes.{place_size}
use Rattle.cluster.specs.declared.Request.{Request}
use Rattle.cluster.specs.declared.Call.{Call}
use Rattle.cluster.specs.declared.Call.TheVariants as call
use Rattle.cluster.specs.Effects.{no_bytes}
use Rattle.recovery.specs.Recovery.{bare}
use Rattle.guarantee.specs.History.{Element}
use Rattle.guarantee.specs.Guarantee.{messages, Fits}
use Rattle.guarantee_example.specs.Elements.{plain, restoring, request, asking, gate, issuing}
use Rattle.guarantee_example.proofs.Outline.{FitEach}

plain_fits : (c : Call) → ((s : ℕ) (q : Request) → c ≡ call.Issue s q → ⊥) → Fits (plain c).input
plain_fits c n = record { given = λ m. refl; content = tt; request = λ s q e. absurd (n s q e) }

pub asking_fits : (client mark : ℕ) (locks content : List ℕ) → client < 2 ^ 32 → Bytes content → Fits (asking client mark locks content).input
asking_fits client mark locks content w b =
    record {
      given = λ m. absurd (true≢false (sym m));
      content = b;
      request = λ s q e.
          let r : request client mark ≡ q = cc in
          rw (← r) (record { client = w; generation = lit< tt; partition = lit< tt; sequence = lit< tt; header = lit< tt });
    }

pub issuing_fits : (mark : ℕ) (locks content : List ℕ) → Bytes content → Fits (issuing mark locks content).input
issuing_fits mark locks content b = asking_fits gate mark locks content (lit< tt) b

pub take : (s : ℕ) → Fits (plain (call.Take s Answered)).input
take s = plain_fits (call.Take s Answered) (λ t q e. let z : ◌≡◌ {A = ℕ} 0 1 = cc in omega arith)

pub prepare : (s i : ℕ) → Fits (plain (call.Prepare s i Answered)).input
prepare s i = plain_fits (call.Prepare s i Answered) (λ t q e. let z : ◌≡◌ {A = ℕ} 0 1 = cc in omega arith)

pub opens : (s : ℕ) → Fits (plain (call.Open s Answered)).input
opens s = plain_fits (call.Open s Answered) (λ t q e. let z : ◌≡◌ {A = ℕ} 0 1 = cc in omega arith)

pub send : (i : ℕ) (f : Fate) → Fits (plain (call.Send 0 i f)).input
send i f = plain_fits (call.Send 0 i f) (λ t q e. let z : ◌≡◌ {A = ℕ} 0 1 = cc in omega arith)

pub copy : (s a b : ℕ) → Fits (plain (call.Copy s a b Answered)).input
copy s a b = plain_fits (call.Copy s a b Answered) (λ t q e. let z : ◌≡◌ {A = ℕ} 0 1 = cc in omega arith)

pub stop : (s : ℕ) → Fits (plain (call.Stop s)).input
stop s = plain_fits (call.Stop s) (λ t q e. let z : ◌≡◌ {A = ℕ} 0 1 = cc in omega arith)

pub restoring_fits : (i : ℕ) (backup : List ℕ) (moment : ℕ) → Fits (restoring i backup moment).input
restoring_fits i backup moment =
    record { given = λ m. refl; content = tt; request = λ s q e. let z : ◌≡◌ {A = ℕ} 0 1 = cc in absurd (omega arith) }

-- a recovery's calls
bare_fits : (c : Call) (given : List ℕ) → (messages c ≡ true → length given ≡ place_size) → ((s : ℕ) (q : Request) → c ≡ call.Issue s q → ⊥) → Fits (bare c given)
bare_fits c given l n = record { given = l; content = tt; request = λ s q e. absurd (n s q e) }

pub bare_take : (s : ℕ) → Fits (bare (call.Take s Answered) [])
bare_take s = bare_fits (call.Take s Answered) [] (λ m. absurd (true≢false (sym m))) (λ t q e. let z : ◌≡◌ {A = ℕ} 0 1 = cc in omega arith)

pub bare_prepare : (s i : ℕ) (f : Fate) → Fits (bare (call.Prepare s i f) no_bytes)
bare_prepare s i f = bare_fits (call.Prepare s i f) no_bytes (λ m. refl) (λ t q e. let z : ◌≡◌ {A = ℕ} 0 1 = cc in omega arith)

pub bare_copy : (s a b : ℕ) (f : Fate) → Fits (bare (call.Copy s a b f) no_bytes)
bare_copy s a b f = bare_fits (call.Copy s a b f) no_bytes (λ m. refl) (λ t q e. let z : ◌≡◌ {A = ℕ} 0 1 = cc in omega arith)

pub bare_open : (s : ℕ) → Fits (bare (call.Open s Answered) [])
bare_open s = bare_fits (call.Open s Answered) [] (λ m. absurd (true≢false (sym m))) (λ t q e. let z : ◌≡◌ {A = ℕ} 0 1 = cc in omega arith)

pub fit_then : (es fs : List Element) → FitEach es → FitEach fs → FitEach (es ++ fs)
fit_then [] fs a b = b
fit_then (e ∷ es) fs a b = (a.0, fit_then es fs a.1 b)
