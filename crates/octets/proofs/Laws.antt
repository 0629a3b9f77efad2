-- Laws of parts and writes.
-- Assumes nothing.
use mathlib.Core.Path.{◌≡◌, refl, sym, ap, ap₂, ◌∙◌}
use mathlib.Core.List.{List, [], ◌∷◌, ◌++◌, append_assoc, append-nil}
use Prim.Native.Nat.{ℕ, zero, suc, ◌+◌, ◌-◌, ◌/◌, ◌%◌, ◌≤◌}
use native.Mathlib.Nat.{zero-add, suc-add, add-sub_cancel_left}
use native.Mathlib.Numerals.{add-one}
use native.Mathlib.Omega.{arith}
use lib.ListN.{length, take, drop, take-append-drop, length-append, length-take, length-drop}
use lib.Seq.{take-append-le, take_at, drop_at, take-take, drop-drop, length-take-le, take-nil, drop-length}
use borrow.Rule.Slice.PartMut.{put_mid}
use Rattle.octets.specs.Octets.{part, write_at, be_bytes}

-- ---- lengths

pub length_part : (o n : ℕ) (m : List ℕ) → o + n ≤ length m → length (part o n m) ≡ n
length_part o n m h = simp (length-take, length-drop) (omega arith)

pub length_between : (a e : ℕ) (m : List ℕ) → a ≤ e → e ≤ length m → length (take (e - a) (drop a m)) ≡ e - a
length_between a e m h k = simp (length-take, length-drop) (omega arith)

pub length_write : (o : ℕ) (bs m : List ℕ) → o + length bs ≤ length m → length (write_at o bs m) ≡ length m
unfolding write_at
length_write o bs m h = simp (length-append, length-take, length-drop) (omega arith)

pub length_be : (k v : ℕ) → length (be_bytes k v) ≡ k
unfolding be_bytes
length_be zero v = refl
length_be (suc k) v = length-append (be_bytes k (v / 256)) (v % 256 ∷ []) ∙ ap (λ (n : ℕ). n + 1) (length_be k (v / 256)) ∙ add-one k

-- ---- what the borrow checker's lists are

-- what `&m[a..e]` refers to, where e is a + n
pub between_part : (a n : ℕ) (m : List ℕ) → take ((a + n) - a) (drop a m) ≡ part a n m
between_part a n m = ap (λ (k : ℕ). take k (drop a m)) (add-sub_cancel_left a n)

-- what a `&mut m[a..e]` that came back leaves, as a write
pub mid_write : (a e : ℕ) (m ys bs : List ℕ) → a + length bs ≡ e → ys ≡ bs → put_mid a (e - a) m ys ≡ write_at a bs m
unfolding write_at
mid_write a e m ys bs l p =
    let q : a + (e - a) ≡ a + length bs = omega arith in
    ap (λ (r : List ℕ). put_mid a (e - a) m r) p
    ∙ ap (λ (r : List ℕ). take a m ++ (bs ++ r)) (drop-drop (e - a) a m ∙ ap (λ (n : ℕ). drop n m) q)

-- ---- a part of a write

pub take_drop : (p n : ℕ) (m : List ℕ) → take n (drop p m) ≡ drop p (take (p + n) m)
take_drop zero n m = rw zero-add
take_drop (suc p) n [] = rw (suc-add, take-nil)
take_drop (suc p) n (x ∷ m) = rw suc-add (take_drop p n m)

drop_write : (o p : ℕ) (bs m : List ℕ) → o + length bs ≤ p → o ≤ length m → drop p (write_at o bs m) ≡ drop p m
unfolding write_at
drop_write o p bs m h k =
    let e = o + length bs in
    let w = take o m ++ (bs ++ drop e m) in
    let whole : e + (p - e) ≡ p = omega arith in
    ap (λ (n : ℕ). drop n w) (sym whole) ∙ sym (drop-drop (p - e) e w)
    ∙ ap (drop (p - e)) (ap (drop e) (sym (append_assoc (take o m) bs (drop e m))) ∙ drop_at (take o m ++ bs) (drop e m) e (simp (length-append, length-take) (omega arith)))
    ∙ drop-drop (p - e) e m ∙ ap (λ (n : ℕ). drop n m) whole

-- what was written is read there
pub part_write : (o : ℕ) (bs m : List ℕ) → o ≤ length m → part o (length bs) (write_at o bs m) ≡ bs
unfolding write_at
part_write o bs m h = ap (take (length bs)) (drop_at (take o m) _ o (length-take-le o m h)) ∙ take_at bs _ (length bs) refl

-- what lies before a write, or after it, is as it was
pub part_before : (o p n : ℕ) (bs m : List ℕ) → p + n ≤ o → o ≤ length m → part p n (write_at o bs m) ≡ part p n m
unfolding write_at
part_before o p n bs m h k =
    let r = bs ++ drop (o + length bs) m in
    take_drop p n (take o m ++ r)
    ∙ ap (drop p) (take-append-le (p + n) (take o m) r (simp length-take (omega arith)) ∙ take-take (p + n) o m h)
    ∙ sym (take_drop p n m)

pub part_after : (o p n : ℕ) (bs m : List ℕ) → o + length bs ≤ p → o ≤ length m → part p n (write_at o bs m) ≡ part p n m
part_after o p n bs m h k = ap (take n) (drop_write o p bs m h k)

-- a part of a part
pub part_part : (o n p k : ℕ) (m : List ℕ) → p + k ≤ n → part p k (part o n m) ≡ part (o + p) k m
part_part o n p k m h =
    take_drop p k (take n (drop o m))
    ∙ ap (drop p) (take-take (p + k) n (drop o m) h)
    ∙ sym (take_drop p k (drop o m))
    ∙ ap (take k) (drop-drop p o m)

-- ---- writes

-- a write behind a write is one write
pub write_write : (o p : ℕ) (a b m : List ℕ) → o ≤ length m → o + length a ≡ p → write_at p b (write_at o a m) ≡ write_at o (a ++ b) m
unfolding write_at
write_write o p a b m h e =
    let w = take o m ++ (a ++ drop (o + length a) m) in
    let e₁ : take p w ≡ take o m ++ a = ap (take p) (sym (append_assoc (take o m) a (drop (o + length a) m))) ∙ take_at (take o m ++ a) (drop (o + length a) m) p (simp (length-append, length-take) (omega arith)) in
    let q : p + length b ≡ o + length (a ++ b) = simp length-append (omega arith) in
    let e₂ : drop (p + length b) w ≡ drop (o + length (a ++ b)) m = drop_write o (p + length b) a m (omega arith) h ∙ ap (λ (n : ℕ). drop n m) q in
    ap₂ (λ (x y : List ℕ). x ++ (b ++ y)) e₁ e₂ ∙ append_assoc (take o m) a (b ++ drop (o + length (a ++ b)) m)
    ∙ ap (λ (x : List ℕ). take o m ++ x) (sym (append_assoc a b (drop (o + length (a ++ b)) m)))

-- a write of the whole
pub write_all : (bs m : List ℕ) → length bs ≡ length m → write_at 0 bs m ≡ bs
unfolding write_at
write_all bs m h = ap (λ (n : ℕ). bs ++ drop n m) (zero-add (length bs) ∙ h) ∙ ap (λ (r : List ℕ). bs ++ r) (drop-length m) ∙ append-nil bs

-- a write of nothing
pub write_none : (m : List ℕ) (o : ℕ) → write_at o [] m ≡ m
unfolding write_at
write_none m o = let q : o + 0 ≡ o = omega arith in ap (λ (n : ℕ). take o m ++ drop n m) q ∙ take-append-drop o m

-- three writes, each behind the one before, are one
pub write_three : (m a b c : List ℕ) (o p : ℕ) → length a ≡ o → o + length b ≡ p → o ≤ length m → write_at p c (write_at o b (write_at 0 a m)) ≡ write_at 0 (a ++ (b ++ c)) m
write_three m a b c o p e f h =
    let n : 0 + length a ≡ o = omega arith in
    let k : o ≤ length (write_at 0 a m) = omega (arith, length_write 0 a m (omega arith)) in
    write_write o p b c (write_at 0 a m) k f ∙ write_write 0 o a (b ++ c) m (omega arith) n
