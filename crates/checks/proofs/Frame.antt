-- The frame of every call: a part of its list that was checked, and the rest to come; and what the admission of a call leaves known.
-- Assumes nothing.
use mathlib.Core.Path.{◌≡◌, refl, ap}
use mathlib.Core.List.{List, [], ◌∷◌, ◌++◌}
use Prim.Native.Nat.{ℕ, zero, suc, ◌+◌, ◌*◌, ◌≤◌, ◌<◌}
use native.Mathlib.Nat.{mul-le-mul}
use native.Mathlib.Omega.{arith}
use lib.ListN.{length, get_or, set}
use borrow.Author.Tests.{ltb-false}
use Rattle.storage.specs.Sizes.{medium_size}
use Rattle.cluster.specs.declared.Shape.{Shape}
use Rattle.cluster.specs.declared.Records.{Records}
use Rattle.cluster.specs.declared.Server.{Server}
use Rattle.cluster.specs.declared.Refusal.{Refusal}
use Rattle.cluster.specs.declared.Outcome.{Outcome}
use Rattle.cluster.specs.State.{State, server_at}
use Rattle.cluster.specs.Replies.{number_of, values_of}
use Rattle.cluster.specs.Refusals.{Row, server_rows, pass, declined, first_of, and_then}
use Rattle.cluster.specs.Effects.{Result}
use Rattle.cluster.specs.Step.{unless, rest}
use Rattle.cluster.proofs.Rows.{first_of_append}
use Rattle.cluster.proofs.Marks.{MarksFit, marks_fit}
use Rattle.checks.specs.Results.{state_of, result_of, declined_of, changed, unchanged}
use Rattle.checks.proofs.Behind.{no}
use Rattle.shape_checks.proofs.Sizes.{within}

-- ---- checked so far (ws), the rest to come (us)

module _ (r : Records) (media tables : List ℕ) (e : Result) (ws us : List Row) where
  pub refused :
      (why : Refusal) {o : Outcome}
      → declined (number_of why) (values_of why) ≡ first_of ws
      → o ≡ declined_of r why
      → result_of o media tables ≡ rest (ws ++ us) (state_of r media tables) e
  unfolding unless and_then
  refused why checked d = rw (d, first_of_append ws us, ← checked) refl

  pub goes_on : {y : Result} → pass ≡ first_of ws → y ≡ rest us (state_of r media tables) e → y ≡ rest (ws ++ us) (state_of r media tables) e
  unfolding unless and_then
  goes_on checked d = rw (first_of_append ws us, ← checked) d

-- nothing is left to be checked
pub nothing_more : {y e : Result} (x : State) → y ≡ e → y ≡ rest [] x e
unfolding unless first_of
nothing_more x d = d

-- ---- a server that declines stays as it is

set_same : {A : Type 0} (l : List A) (i : ℕ) (d : A) → set l i (get_or l i d) ≡ l
set_same [] i d = refl
set_same (a ∷ l) zero d = refl
set_same (a ∷ l) (suc i) d = ap (λ (t : List _). a ∷ t) (set_same l i d)

pub declined_server : (r : Records) (s : ℕ) (why : Refusal) → changed r s (unchanged (server_at r s) why) ≡ declined_of r why
declined_server r s why = rw (set_same r.servers s _)

-- ---- what the first rows leave known

medium_within : (i r n : ℕ) → i < r → i * n + n ≤ r * n
medium_within i r n l = let q : (i + 1) * n ≤ r * n = mul-le-mul {n₂ = r} {m₂ = n} (omega arith) (omega arith) in omega arith

-- refusals 1 to 3, of a call of server s whose record is v, with media and lock tables of so many bytes and marks
pub record Admitted (h : Shape) (v : Server) (s bytes marks : ℕ) : Type 0 where
  pub least : 1 ≤ h.places
  pub most : h.places ≤ 1000
  pub replicas : h.replicas ≤ 7
  pub media : (i : ℕ) → i < h.replicas → i * medium_size h.places + medium_size h.places ≤ bytes
  pub tables : marks ≡ 4096
  pub server : s < 4
  pub fits : MarksFit h v

pub admitted :
    (h : Shape) (r : Records) (m t : List ℕ) (s : ℕ) (us : List Row)
    → pass ≡ first_of (server_rows h (state_of r m t) s ++ us)
    → Admitted h (server_at r s) s (length m) (length t)
admitted h r m t s us e =
    let none = no (server_rows h (state_of r m t) s ++ us) e in
    let w = within h (length m) (length t) (none 1) in
    let l : s < 4 = omega (arith, ltb-false 3 s (none 3)) in
    record {
      least = w.least;
      most = w.most;
      replicas = w.replicas;
      media = λ i j. omega (arith, w.media, medium_within i h.replicas (medium_size h.places) j);
      tables = w.tables;
      server = l;
      fits = marks_fit h r s l (none 2);
    }
