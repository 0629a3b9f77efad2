-- Lines of every form but issue's have no data and no locks.
-- Assumes nothing.
use mathlib.Core.Path.{◌≡◌, refl}
use mathlib.Core.List.{List, []}
use mathlib.Core.Bool.{Bool, true, false, cond}
use Prim.Native.Nat.{ℕ}
use Rattle.fate.specs.declared.Fate.{Fate}
use Rattle.cluster.specs.declared.Call.{Call}
use Rattle.cluster.specs.declared.Call.TheVariants as call
use Rattle.std.specs.Prelude.{Option, Some, None}
use Rattle.text.specs.Text.{field_of, number_of}
use Rattle.lines.specs.Words.{cluster_word, take_word, prep_word, copy_word, open_word, send_word}
use Rattle.lines.specs.Values.{fate_of}
use Rattle.lines.specs.Forms.{Meaning, bad, asked, given, number_at, fate_at, cluster_form, server_fate, server_replica_fate, copy_form, begins, plain_form, data_of, locks_of}

pub record Bare (m : Meaning) : Type 0 where
  pub content : data_of m ≡ []
  pub locks : locks_of m ≡ []

none : Bare bad
none = record { content = refl; locks = refl }

either : (t : Bool) (m n : Meaning) → Bare m → Bare n → Bare (cond t m n)
either true m n p q = p
either false m n p q = q

no_more : (c : Call) → Bare (asked c [] [])
no_more c = record { content = refl; locks = refl }

when_given : {A : Type 0} (o : Option A) (k : A → Meaning) → ((x : A) → Bare (k x)) → Bare (given o k)
when_given None k b = none
when_given (Some x) k b = b x

module _ (s : List ℕ) where
  with_number : (i : ℕ) (k : ℕ → Meaning) → ((v : ℕ) → Bare (k v)) → Bare (number_at i s k)
  with_number i = when_given (number_of (field_of i s))

  with_fate : (i : ℕ) (k : Fate → Meaning) → ((f : Fate) → Bare (k f)) → Bare (fate_at i s k)
  with_fate i = when_given (fate_of (number_of (field_of i s)))

  cluster_bare : Bare (cluster_form s)
  unfolding cluster_form
  cluster_bare = with_number 1 _ (λ r. with_number 2 _ (λ n. record { content = refl; locks = refl }))

  one_bare : (c : ℕ → Fate → Call) → Bare (server_fate s c)
  one_bare c = with_number 1 _ (λ v. with_fate 2 _ (λ f. no_more (c v f)))

  two_bare : (c : ℕ → ℕ → Fate → Call) → Bare (server_replica_fate s c)
  two_bare c = with_number 1 _ (λ v. with_number 2 _ (λ i. with_fate 3 _ (λ f. no_more (c v i f))))

  copy_bare : Bare (copy_form s)
  unfolding copy_form
  copy_bare = with_number 1 _ (λ v. with_number 2 _ (λ a. with_number 3 _ (λ b. with_fate 4 _ (λ f. no_more _))))

  pub plain_bare : Bare (plain_form s)
  unfolding plain_form
  plain_bare =
      either (begins s cluster_word 3) _ _ cluster_bare
      (either (begins s take_word 3) _ _ (one_bare call.Take)
      (either (begins s prep_word 4) _ _ (two_bare call.Prepare)
      (either (begins s copy_word 5) _ _ copy_bare
      (either (begins s open_word 3) _ _ (one_bare call.Open)
      (either (begins s send_word 4) _ _ (two_bare call.Send) none)))))
