-- What a replica reads is what its medium holds, so what it says by that is its answer.
-- Assumes nothing.
use mathlib.Core.Path.{◌≡◌, refl, sym, ap, ◌∙◌}
use mathlib.Core.Bool.{Bool, true, false, not, ◌||◌, cond}
use mathlib.Core.List.{List}
use Prim.Native.Nat.{ℕ, ◌≤◌}
use lib.ListN.{length}
use native.Mathlib.Omega.{arith}
use lib.Dec.{ltb, eqb}
use borrow.Author.Tests.{eqb-true, not-false}
use Rattle.std.specs.Prelude.{⊤, Result, Ok, Err, is_err}
use Rattle.fate.specs.declared.Fate.{Fate}
use Rattle.fate.specs.declared.Fate.TheVariants.{Answered, Lost, AnswerLost, Cut}
use Rattle.fate.specs.Fates.{Write, all_of, after}
use Rattle.storage.specs.declared.slot.Slot.{Slot}
use Rattle.storage.specs.declared.slot.Current.{Current}
use Rattle.storage.specs.declared.operation.Operation.{Operation}
use Rattle.storage.specs.declared.operation.Operation.TheVariants as op
use Rattle.storage.specs.declared.operation.Read.{Read}
use Rattle.storage.specs.Slots.{held_of, stored_slot}
use Rattle.storage.specs.Log.{mark_of}
use Rattle.storage.specs.Sizes.{place_size, medium_size}
use Rattle.storage.specs.Operations.{writes_of, HasPlace, MarkKnown}
use Rattle.storage.specs.AsRead.{AsRead}
use Rattle.storage.proofs.Marks.{performed_mark}
use Rattle.cluster.specs.declared.Refusal.{Refusal}
use Rattle.cluster.specs.Refusals.{answered, is_neither, no_slot, promise_above, promise_differs, mark_differs, refuses}
use Rattle.replica_checks.specs.declared.Heard.{Heard}
use Rattle.replica_checks.specs.declared.Heard.TheVariants.{Silent, Mark}
use Rattle.replica_checks.specs.Says.{says, lacks_slot, read_promise, read_mark, read_declines}
use Rattle.replica.specs.Answers.{when_answered, prepares, other_promise, other_mark, declines, answer_to, read_heard, Behind}

-- the number that follows is not looked at where one of the three declines
says_any : (a b c : Bool) (n k : ℕ) → (a || b || c) ≡ true → says a b c n ≡ says a b c k
says_any true b c n k e = refl
says_any false true c n k e = refl
says_any false false true n k e = refl
says_any false false false n k e = let z : ◌≡◌ {A = ℕ} 0 1 = cc in absurd (omega arith)

says_mark : (a b c : Bool) (n : ℕ) → (a || b || c) ≡ false → says a b c n ≡ Mark n
says_mark true b c n e = let z : ◌≡◌ {A = ℕ} 0 1 = cc in absurd (omega arith)
says_mark false true c n e = let z : ◌≡◌ {A = ℕ} 0 1 = cc in absurd (omega arith)
says_mark false false true n e = let z : ◌≡◌ {A = ℕ} 0 1 = cc in absurd (omega arith)
says_mark false false false n e = refl

-- a replica that does not decline has the recorded mark
same_mark : (a b : Bool) (k n : ℕ) → (a || b || not (eqb k n)) ≡ false → k ≡ n
same_mark true b k n e = let z : ◌≡◌ {A = ℕ} 0 1 = cc in absurd (omega arith)
same_mark false true k n e = let z : ◌≡◌ {A = ℕ} 0 1 = cc in absurd (omega arith)
same_mark false false k n e = eqb-true k n (not-false (eqb k n) e)

-- an answered message's writes are all made
all_made : (f : Fate) (g m : List ℕ) (ws : List Write) → answered f ≡ true → after f g ws m ≡ all_of ws m
unfolding after
all_made Answered g m ws e = refl
all_made Lost g m ws e = let z : ◌≡◌ {A = ℕ} 0 1 = cc in absurd (omega arith)
all_made AnswerLost g m ws e = refl
all_made (Cut w l) g m ws e = let z : ◌≡◌ {A = ℕ} 0 1 = cc in absurd (omega arith)

-- a judgement that is no refusal
pub no_err : (r : Result ⊤ Refusal) → ((why : Refusal) → r ≡ Err why → ⊥) → is_err r ≡ false
no_err (Ok u) n = refl
no_err (Err why) n = absurd (n why refl)

-- what is heard of a message that is answered, or is not
pub heard_mark : (f : Fate) (k n N : ℕ) (m : List ℕ) → answered f ≡ true → n ≡ N → k ≡ mark_of n m → Mark k ≡ when_answered f (Mark (mark_of N m))
heard_mark f k n N m a e q = rw (a, q, e)

pub heard_said : (f : Fate) (h k : Heard) → answered f ≡ true → h ≡ k → h ≡ when_answered f k
heard_said f h k a e = rw a e

pub heard_none : (f : Fate) (h : Heard) → answered f ≡ false → Silent ≡ when_answered f h
heard_none f h a = rw a

either_way : (b : Bool) (m : List ℕ) → m ≡ cond b m m
either_way true m = refl
either_way false m = refl

-- a lost message writes nothing and is silent, whatever the medium holds
pub unmoved : (N s n : ℕ) (o : Operation) (bs g m : List ℕ) → record { heard = Silent; medium = m } ≡ answer_to N s n o bs Lost g m
unfolding answer_to after
unmoved N s n o bs g m = ap (λ (x : List ℕ). record { heard = Silent; medium = x }) (either_way (declines (prepares o) N s n m) m)

-- a read that is not answered is silent, whatever the medium holds
pub unread : (N s n : ℕ) (f : Fate) (m : List ℕ) → answered f ≡ false → Silent ≡ read_heard N s n f m
unfolding read_heard
unread N s n f m a = heard_none f _ a

module _ (r : Read) (N : ℕ) (m : List ℕ) (e : r.places ≡ N) (a : AsRead r m) where
  slot_of : r.slot ≡ stored_slot m
  unfolding stored_slot
  slot_of = a.slot ∙ ap (λ (c : Current). held_of c m) a.current

  slot_is : lacks_slot r ≡ no_slot m
  unfolding no_slot
  slot_is = ap is_neither a.current

  promise_is : (p : Bool) (s : ℕ) → read_promise p r s ≡ other_promise p s m
  unfolding promise_above promise_differs
  promise_is true s = ap (λ (x : Slot). ltb s x.promise) slot_of
  promise_is false s = ap (λ (x : Slot). not (eqb x.promise s)) slot_of

  mark_of_lem : r.mark ≡ mark_of N m
  mark_of_lem = a.mark ∙ ap (λ (k : ℕ). mark_of k m) e

  mark_is : (p : Bool) (n : ℕ) → read_mark p r n ≡ other_mark p N n m
  unfolding mark_differs
  mark_is true n = refl
  mark_is false n = ap (λ (k : ℕ). not (eqb k n)) mark_of_lem

  module _ (f : Fate) (g : List ℕ) (s n : ℕ) (o : Operation) (bs : List ℕ) where
    -- a replica that declines writes nothing
    pub declining :
        (h : Heard)
        → read_declines (prepares o) r s n ≡ true
        → h ≡ when_answered f (says (lacks_slot r) (read_promise (prepares o) r s) (read_mark (prepares o) r n) 0)
        → record { heard = h; medium = m } ≡ answer_to N s n o bs f g m
    unfolding answer_to
    declining h b t =
        rw (← slot_is, ← (promise_is (prepares o) s), ← (mark_is (prepares o) n), b)
        (ap (λ (x : Heard). record { heard = x; medium = m })
        (t ∙ ap (when_answered f) (says_any (lacks_slot r) (read_promise (prepares o) r s) (read_mark (prepares o) r n) 0 (mark_of N m) b)))

    -- any other writes, as far as the fate lets it
    pub performing :
        (m' : List ℕ) (h : Heard)
        → read_declines (prepares o) r s n ≡ false
        → m' ≡ after f g (writes_of N bs o m) m
        → h ≡ when_answered f (Mark (mark_of N m'))
        → record { heard = h; medium = m' } ≡ answer_to N s n o bs f g m
    unfolding answer_to
    performing m' h b w t =
        rw (← slot_is, ← (promise_is (prepares o) s), ← (mark_is (prepares o) n), b, ← w)
        (ap (λ (x : Heard). record { heard = x; medium = m' })
        (t ∙ ap (when_answered f) (sym (says_mark (lacks_slot r) (read_promise (prepares o) r s) (read_mark (prepares o) r n) (mark_of N m') b))))

    -- an append that is not declined is behind the log
    behind : (o : Operation) → Behind n o → read_declines (prepares o) r s n ≡ false → (k : ℕ) → o ≡ op.Append k → mark_of N m ≤ k
    behind (op.Prepare p to) d b k q = let z : ◌≡◌ {A = ℕ} 0 1 = cc in absurd (omega arith)
    behind (op.Trim t) d b k q = let z : ◌≡◌ {A = ℕ} 0 1 = cc in absurd (omega arith)
    behind (op.Note low local) d b k q = let z : ◌≡◌ {A = ℕ} 0 1 = cc in absurd (omega arith)
    behind (op.Append i) d b k q =
        let same : i ≡ k = cc in
        omega (arith, same, d, mark_of_lem, same_mark (lacks_slot r) (read_promise false r s) r.mark n b)

    -- what is known of the mark after it
    pub known_mark :
        (m' : List ℕ)
        → length bs ≡ place_size
        → HasPlace N o
        → Behind n o
        → read_declines (prepares o) r s n ≡ false
        → m' ≡ after f g (writes_of N bs o m) m
        → answered f ≡ true
        → MarkKnown r.places o r.slot.low r.mark m'
    known_mark m' l p d b w q =
        rw (w ∙ all_made f g m (writes_of N bs o m) q, e, slot_of, mark_of_lem)
        (performed_mark N o bs m (a.size ∙ ap medium_size e) l p (behind o d b))

  -- read writes nothing
  module _ (f : Fate) (s n : ℕ) (h : Heard) where
    pub read_declining :
        read_declines false r s n ≡ true
        → h ≡ when_answered f (says (lacks_slot r) (read_promise false r s) (read_mark false r n) 0)
        → h ≡ read_heard N s n f m
    unfolding read_heard
    read_declining b t =
        rw (← slot_is, ← (promise_is false s), ← (mark_is false n))
        (t ∙ ap (when_answered f) (says_any (lacks_slot r) (read_promise false r s) (read_mark false r n) 0 (mark_of N m) b))

    pub reading : read_declines false r s n ≡ false → h ≡ when_answered f (Mark r.mark) → h ≡ read_heard N s n f m
    unfolding read_heard
    reading b t =
        rw (← slot_is, ← (promise_is false s), ← (mark_is false n))
        (t ∙ ap (when_answered f) (ap Mark mark_of_lem ∙ sym (says_mark (lacks_slot r) (read_promise false r s) (read_mark false r n) (mark_of N m) b)))

  -- copy asks the replica that it reads for no more
  pub refuses_is : (s n : ℕ) → read_declines false r s n ≡ refuses N s n m
  refuses_is s n = rw (slot_is, promise_is false s, mark_is false n)
