-- Media that are the same but for headers of stored records stay so under the same writes, whatever fate they have: what the operations of a replica make of
-- two such media (`after_alike`; prepare's, trim's, note's and append's writes are such: `prepare_fits` and the others).
-- Assumes nothing.
use mathlib.Core.Path.{◌≡◌, refl, sym, ap, ◌∙◌}
use mathlib.Core.Bool.{Bool, true, false, cond}
use mathlib.Core.Logic.{◌⊎◌, inl, inr}
use mathlib.Core.List.{List, [], ◌∷◌, ◌++◌}
use Prim.Native.Nat.{ℕ, zero, suc, ◌+◌, ◌-◌, ◌≤◌, ◌<◌}
use native.Mathlib.Omega.{arith}
use native.Mathlib.Decide.{ℕ_discrete}
use lib.ListN.{length, take}
use lib.Seq.{length-take-le}
use lib.Dec.{eqb}
use Rattle.base.proofs.Tests.{lt_or_le}
use Rattle.octets.specs.Octets.{part, write_at}
use Rattle.octets.proofs.Laws.{length_write, part_write, part_before, part_after}
use Rattle.fate.specs.declared.Fate.{Fate}
use Rattle.fate.specs.declared.Fate.TheVariants.{Answered, Lost, AnswerLost, Cut}
use Rattle.fate.specs.declared.Left.{Left}
use Rattle.fate.specs.declared.Left.TheVariants.{Old, New, Torn}
use Rattle.fate.specs.Fates.{Write, all_of, leave, cut_at, after}
use Rattle.storage.specs.declared.slot.Slot.{Slot}
use Rattle.storage.specs.declared.slot.Current.{Current}
use Rattle.storage.specs.declared.slot.Current.TheVariants.{First, Second, Neither}
use Rattle.storage.specs.declared.operation.Target.{Target}
use Rattle.storage.specs.declared.operation.Target.TheVariants.{Whole, Mark, LowWater}
use Rattle.storage.specs.Sizes.{slot_size, place_size, medium_size, place_offset}
use Rattle.storage.specs.Slots.{other_at}
use Rattle.storage.specs.Log.{place_at}
use Rattle.storage.specs.Operations.{slot_write, place_write, wipes, promising, closing}
use Rattle.storage.proofs.Blocks as blocks
use Rattle.storage.proofs.LogWrites.{length_wiped}
use Rattle.storage.proofs.SlotReadBack.{slot_length}
use Rattle.cluster.proofs.StoredHeaders.{AlikePlace, AlikeMedium}

-- ---- one write

-- of N places each
pub record Pair (N : ℕ) (a b : List ℕ) : Type 0 where
  pub alike : AlikeMedium N a b
  pub one : length a ≡ medium_size N
  pub other : length b ≡ medium_size N

-- a slot, the same in both; or a place, alike
pub record SlotWrites (w u : Write) : Type 0 where
  pub same : w ≡ u
  pub where_at : (w.at ≡ 0) ⊎ (w.at ≡ slot_size)
  pub full : length w.bytes ≡ slot_size

pub record PlaceWrites (N : ℕ) (w u : Write) : Type 0 where
  pub number : ℕ
  pub least : 1 ≤ number
  pub most : number ≤ N
  pub at : w.at ≡ place_offset number
  pub at_other : u.at ≡ place_offset number
  pub alike : AlikePlace w.bytes u.bytes
  pub full : length w.bytes ≡ place_size
  pub full_other : length u.bytes ≡ place_size

abbrev pub Writes : ℕ → Write → Write → Type 0
Writes N w u = SlotWrites w u ⊎ PlaceWrites N w u

module _ (N : ℕ) (a b : List ℕ) (P : Pair N a b) where
  slot_0 : (bs : List ℕ) → length bs ≡ slot_size → Pair N (write_at 0 bs a) (write_at 0 bs b)
  unfolding place_at
  slot_0 bs full =
      let first : (m : List ℕ) → part 0 slot_size (write_at 0 bs m) ≡ bs =
      λ m. ap (λ (k : ℕ). part 0 k (write_at 0 bs m)) (sym full) ∙ part_write 0 bs m (omega arith) in
      let second : (m : List ℕ) → part slot_size slot_size (write_at 0 bs m) ≡ part slot_size slot_size m =
      λ m. part_after 0 slot_size slot_size bs m (omega (arith, full)) (omega arith) in
      let place : (n : ℕ) (m : List ℕ) → place_at n (write_at 0 bs m) ≡ place_at n m =
      λ n m. part_after 0 (place_offset n) place_size bs m (omega (arith, full)) (omega arith) in
      record {
        alike =
            record {
              first = first a ∙ sym (first b);
              second = second a ∙ P.alike.second ∙ sym (second b);
              places = λ n lo hi. rw (place n a, place n b) (P.alike.places n lo hi);
            };
        one = length_write 0 bs a (omega (arith, full, P.one)) ∙ P.one;
        other = length_write 0 bs b (omega (arith, full, P.other)) ∙ P.other;
      }

  slot_32 : (bs : List ℕ) → length bs ≡ slot_size → Pair N (write_at slot_size bs a) (write_at slot_size bs b)
  unfolding place_at
  slot_32 bs full =
      let first : (m : List ℕ) → length m ≡ medium_size N → part 0 slot_size (write_at slot_size bs m) ≡ part 0 slot_size m =
      λ m l. part_before slot_size 0 slot_size bs m (omega arith) (omega (arith, l)) in
      let second : (m : List ℕ) → length m ≡ medium_size N → part slot_size slot_size (write_at slot_size bs m) ≡ bs =
      λ m l. ap (λ (k : ℕ). part slot_size k (write_at slot_size bs m)) (sym full) ∙ part_write slot_size bs m (omega (arith, l)) in
      let place : (n : ℕ) (m : List ℕ) → length m ≡ medium_size N → place_at n (write_at slot_size bs m) ≡ place_at n m =
      λ n m l. part_after slot_size (place_offset n) place_size bs m (omega (arith, full)) (omega (arith, l)) in
      record {
        alike =
            record {
              first = first a P.one ∙ P.alike.first ∙ sym (first b P.other);
              second = second a P.one ∙ sym (second b P.other);
              places = λ n lo hi. rw (place n a P.one, place n b P.other) (P.alike.places n lo hi);
            };
        one = length_write slot_size bs a (omega (arith, full, P.one)) ∙ P.one;
        other = length_write slot_size bs b (omega (arith, full, P.other)) ∙ P.other;
      }

  place_n : (n : ℕ) → 1 ≤ n → n ≤ N → (p q : List ℕ) → AlikePlace p q → length p ≡ place_size → length q ≡ place_size
      → Pair N (write_at (place_offset n) p a) (write_at (place_offset n) q b)
  place_n n lo hi p q e fp fq =
      record {
        alike =
            record {
              first = blocks.slots_kept N a p P.one n 0 slot_size lo hi (omega arith) ∙ P.alike.first ∙ sym (blocks.slots_kept N b q P.other n 0 slot_size lo hi (omega arith));
              second =
                  blocks.slots_kept N a p P.one n slot_size slot_size lo hi (omega arith) ∙ P.alike.second
                  ∙ sym (blocks.slots_kept N b q P.other n slot_size slot_size lo hi (omega arith));
              places = λ j l u. go j l u (ℕ_discrete j n);
            };
        one = length_write (place_offset n) p a (omega (arith, fp, P.one)) ∙ P.one;
        other = length_write (place_offset n) q b (omega (arith, fq, P.other)) ∙ P.other;
      }
    where
      go : (j : ℕ) → 1 ≤ j → j ≤ N → Dec (j ≡ n) → AlikePlace (place_at j (write_at (place_offset n) p a)) (place_at j (write_at (place_offset n) q b))
      go j l u (yes eq) =
          rw eq (rw (blocks.place_same N a p P.one n lo hi fp, blocks.place_same N b q P.other n lo hi fq) e)
      go j l u (no ne) =
          rw (blocks.place_other N a p P.one j n l lo hi fp ne, blocks.place_other N b q P.other j n l lo hi fq ne) (P.alike.places j l u)

  written : (w u : Write) → Writes N w u → Pair N (write_at w.at w.bytes a) (write_at u.at u.bytes b)
  written w u (inl s) = rw (← s.same) (go s.where_at)
    where
      go : (w.at ≡ 0) ⊎ (w.at ≡ slot_size) → Pair N (write_at w.at w.bytes a) (write_at w.at w.bytes b)
      go (inl e) = rw e (slot_0 w.bytes s.full)
      go (inr e) = rw e (slot_32 w.bytes s.full)
  written w u (inr p) = rw (p.at, p.at_other) (place_n p.number p.least p.most w.bytes u.bytes p.alike p.full p.full_other)

-- ---- a list of writes under a fate

unfoldable pub AllWrites : ℕ → List Write → List Write → Type 0
AllWrites N [] [] = Unit {0}
AllWrites N [] (u ∷ us) = ⊥
AllWrites N (w ∷ ws) [] = ⊥
AllWrites N (w ∷ ws) (u ∷ us) = Writes N w u × AllWrites N ws us

module _ (N : ℕ) (given : List ℕ) (size : length given ≡ place_size) where
  -- given bytes are left in place of the write's own
  abbrev torn : Write → Write
  torn w = record { at = w.at; bytes = take (length w.bytes) given }

  torn_writes : (w u : Write) → Writes N w u → Writes N (torn w) (torn u)
  torn_writes w u (inl s) =
      inl
      (record {
        same = ap torn s.same;
        where_at = s.where_at;
        full = length-take-le (length w.bytes) given (omega (arith, s.full, size)) ∙ s.full;
      })
  torn_writes w u (inr p) =
      inr
      (record {
        number = p.number;
        least = p.least;
        most = p.most;
        at = p.at;
        at_other = p.at_other;
        alike = inl (ap (λ (k : ℕ). take k given) (p.full ∙ sym p.full_other));
        full = length-take-le (length w.bytes) given (omega (arith, p.full, size)) ∙ p.full;
        full_other = length-take-le (length u.bytes) given (omega (arith, p.full_other, size)) ∙ p.full_other;
      })

  left_alike : (l : Left) (w u : Write) (a b : List ℕ) → Writes N w u → Pair N a b → Pair N (leave l given w a) (leave l given u b)
  unfolding leave
  left_alike Old w u a b e P = P
  left_alike New w u a b e P = written N a b P w u e
  left_alike Torn w u a b e P = written N a b P (torn w) (torn u) (torn_writes w u e)

  all_alike : (ws us : List Write) (a b : List ℕ) → AllWrites N ws us → Pair N a b → Pair N (all_of ws a) (all_of us b)
  unfolding all_of AllWrites
  all_alike [] [] a b e P = P
  all_alike [] (u ∷ us) a b e P = absurd e
  all_alike (w ∷ ws) [] a b e P = absurd e
  all_alike (w ∷ ws) (u ∷ us) a b e P = all_alike ws us _ _ e.1 (written N a b P w u e.0)

  cut_alike : (k : ℕ) (l : Left) (ws us : List Write) (a b : List ℕ) → AllWrites N ws us → Pair N a b → Pair N (cut_at k l given ws a) (cut_at k l given us b)
  unfolding cut_at AllWrites
  cut_alike k l [] [] a b e P = P
  cut_alike k l [] (u ∷ us) a b e P = absurd e
  cut_alike k l (w ∷ ws) [] a b e P = absurd e
  cut_alike zero l (w ∷ ws) (u ∷ us) a b e P = P
  cut_alike (suc zero) l (w ∷ ws) (u ∷ us) a b e P = left_alike l w u a b e.0 P
  cut_alike (suc (suc k)) l (w ∷ ws) (u ∷ us) a b e P = cut_alike (suc k) l ws us _ _ e.1 (written N a b P w u e.0)

  pub after_alike : (f : Fate) (ws us : List Write) (a b : List ℕ) → AllWrites N ws us → Pair N a b → Pair N (after f given ws a) (after f given us b)
  unfolding after
  after_alike Answered ws us a b e P = all_alike ws us a b e P
  after_alike Lost ws us a b e P = P
  after_alike AnswerLost ws us a b e P = all_alike ws us a b e P
  after_alike (Cut k l) ws us a b e P = cut_alike k l ws us a b e P

-- ---- the writes of an operation

module _ (N : ℕ) where
  slot_write_lem : (c : Current) (x : Slot) → Writes N (slot_write c x) (slot_write c x)
  slot_write_lem c x = inl (record { same = refl; where_at = go c; full = slot_length x })
    where
      go : (c : Current) → (other_at c ≡ 0) ⊎ (other_at c ≡ slot_size)
      go First = inr refl
      go Second = inl refl
      go Neither = inl refl

  joined : (ws us : List Write) → AllWrites N ws ws → AllWrites N us us → AllWrites N (ws ++ us) (ws ++ us)
  unfolding AllWrites
  joined [] us e d = d
  joined (w ∷ ws) us e d = (e.0, joined ws us e.1 d)

  wipes_fit : (t d : ℕ) → t + d ≤ N → AllWrites N (wipes t d) (wipes t d)
  unfolding AllWrites wipes
  wipes_fit t zero l = tt
  wipes_fit t (suc d) l = (
    inr
        (record {
          number = t + suc d;
          least = omega arith;
          most = l;
          at = refl;
          at_other = refl;
          alike = inl refl;
          full = length_wiped;
          full_other = length_wiped;
        }),
    wipes_fit t d (omega arith),
  )

  truncation_fits : (n t : ℕ) → n ≤ N → AllWrites N (wipes t (n - t)) (wipes t (n - t))
  unfolding AllWrites wipes
  truncation_fits n t l = go (lt_or_le n t)
    where
      go : (n < t) ⊎ (t ≤ n) → AllWrites N (wipes t (n - t)) (wipes t (n - t))
      go (inl m) = let z : n - t ≡ 0 = omega (arith, m) in rw z tt
      go (inr m) = wipes_fit t (n - t) (omega (arith, m, l))

  pub note_fits : (c : Current) (x : Slot) → AllWrites N (slot_write c x ∷ []) (slot_write c x ∷ [])
  unfolding AllWrites
  note_fits c x = (slot_write_lem c x, tt)

  pub trim_fits : (n t : ℕ) → n ≤ N → AllWrites N (wipes t (n - t)) (wipes t (n - t))
  trim_fits = truncation_fits

  promising_fits : (c : Current) (x : Slot) (s : ℕ) → AllWrites N (promising c x s) (promising c x s)
  unfolding AllWrites promising
  promising_fits c x s = go (eqb x.promise s)
    where
      go : (t : Bool) → AllWrites N (cond t [] (slot_write c (record { promise = s; low = x.low; local = x.local }) ∷ [])) (cond t [] (slot_write c (record { promise = s; low = x.low; local = x.local }) ∷ []))
      go true = tt
      go false = (slot_write_lem c _, tt)

  closing_fits_lem : (n low : ℕ) (to : Target) → n ≤ N → AllWrites N (closing n low to) (closing n low to)
  unfolding AllWrites closing
  closing_fits_lem n low Whole l = tt
  closing_fits_lem n low (Mark t) l = truncation_fits n t l
  closing_fits_lem n low LowWater l = truncation_fits n low l

  pub prepare_fits : (c : Current) (x : Slot) (s n : ℕ) (to : Target) → n ≤ N → AllWrites N (promising c x s ++ closing n x.low to) (promising c x s ++ closing n x.low to)
  prepare_fits c x s n to l = joined (promising c x s) (closing n x.low to) (promising_fits c x s) (closing_fits_lem n x.low to l)

  pub append_fits : (n : ℕ) (p q : List ℕ) → n < N → AlikePlace p q → length p ≡ place_size → length q ≡ place_size
      → AllWrites N (place_write (n + 1) p ∷ []) (place_write (n + 1) q ∷ [])
  unfolding AllWrites
  append_fits n p q l e fp fq = (
    inr (record { number = n + 1; least = omega arith; most = omega arith; at = refl; at_other = refl; alike = e; full = fp; full_other = fq }),
    tt,
  )
