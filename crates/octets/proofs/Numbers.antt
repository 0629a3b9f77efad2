-- A number and its bytes, over the width; numbers written one behind the other.
-- Assumes nothing.
use mathlib.Core.Path.{◌≡◌, refl, sym, ap, ap₂, ◌∙◌}
use mathlib.Core.List.{List, [], ◌∷◌, ◌++◌, append_assoc, append-nil}
use Prim.Native.Nat.{ℕ, zero, suc, ◌+◌, ◌*◌, ◌/◌, ◌%◌, ◌^◌, ◌<◌, ◌≤◌}
use native.Mathlib.Nat.{pow-suc, div-add-mod', div-lt_iff_lt-mul, mod-lt, zero-lt-suc, add-zero, zero-add, add-suc, suc-add}
use lib.Arith.{lt-one, digits_div, digits_mod}
use native.Mathlib.Omega.{arith}
use lib.ListN.{length, length-append, take, drop, length-drop, take-append-drop}
use lib.Seq.{take_all}
use Rattle.octets.specs.Octets.{part, write_at, be_from, be_of, be_bytes, fields_of, widths_of, total, Bytes}
use Rattle.octets.proofs.Laws.{length_be, write_write}

be_append : (a : ℕ) (s t : List ℕ) → be_from a (s ++ t) ≡ be_from (be_from a s) t
unfolding be_from
be_append a [] t = refl
be_append a (b ∷ s) t = be_append (a * 256 + b) s t

-- eight bytes are two fours
be_four : (v : ℕ) (s : List ℕ) → length s ≡ 4 → be_from v s ≡ v * 4294967296 + be_from 0 s
unfolding be_from
be_four v (a ∷ b ∷ c ∷ d ∷ []) h = omega arith
be_four v [] h = absurd (omega arith)
be_four v (a ∷ []) h = absurd (omega arith)
be_four v (a ∷ b ∷ []) h = absurd (omega arith)
be_four v (a ∷ b ∷ c ∷ []) h = absurd (omega arith)
be_four v (a ∷ b ∷ c ∷ d ∷ e ∷ s) h = absurd (omega arith)

pub be_halves : (s : List ℕ) → length s ≡ 8 → be_of (part 0 4 s) * 4294967296 + be_of (part 4 4 s) ≡ be_of s
unfolding be_of
be_halves s h =
    let l : length (drop 4 s) ≡ 4 = omega (arith, length-drop 4 s) in
    ap (λ (t : List ℕ). be_from 0 (take 4 s) * 4294967296 + be_from 0 t) (take_all 4 (drop 4 s) (omega arith))
    ∙ sym (be_four (be_from 0 (take 4 s)) (drop 4 s) l)
    ∙ sym (be_append 0 (take 4 s) (drop 4 s)) ∙ ap (be_from 0) (take-append-drop 4 s)

be_zero : (k v : ℕ) → v < 256 ^ k → be_from 0 (be_bytes k v) ≡ v
unfolding be_from be_bytes
be_zero zero v h = sym (lt-one h)
be_zero (suc k) v h =
    be_append 0 (be_bytes k (v / 256)) (v % 256 ∷ [])
    ∙ ap (λ (n : ℕ). n * 256 + v % 256) (be_zero k (v / 256) ((div-lt_iff_lt-mul (zero-lt-suc 255)).1 (rw pow-suc at h)))
    ∙ div-add-mod' v 256

-- reading k bytes of a number of k bytes gives the number
pub be_back : (k v : ℕ) → v < 256 ^ k → be_of (be_bytes k v) ≡ v
unfolding be_of
be_back k v h = be_zero k v h

bytes_after : (k a : ℕ) (s : List ℕ) → Bytes s → be_bytes (k + length s) (be_from a s) ≡ be_bytes k a ++ s
unfolding be_from be_bytes
bytes_after k a [] p = ap (λ (n : ℕ). be_bytes n a) (add-zero k) ∙ sym (append-nil (be_bytes k a))
bytes_after k a (b ∷ s) p =
    ap (λ (n : ℕ). be_bytes n (be_from (a * 256 + b) s)) (add-suc k (length s) ∙ sym (suc-add k (length s)))
    ∙ bytes_after (suc k) (a * 256 + b) s p.1
    ∙ append_assoc (be_bytes k ((a * 256 + b) / 256)) ((a * 256 + b) % 256 ∷ []) s
    ∙ ap₂ (λ (x y : ℕ). be_bytes k x ++ (y ∷ s)) (digits_div a p.0) (digits_mod a p.0)

-- spelling the number that bytes stand for gives the bytes
pub bytes_back : (s : List ℕ) → Bytes s → be_bytes (length s) (be_of s) ≡ s
unfolding be_of be_bytes
bytes_back s p = ap (λ (n : ℕ). be_bytes n (be_from 0 s)) (sym (zero-add (length s))) ∙ bytes_after 0 0 s p

pub length_fields : (fs : List (ℕ × ℕ)) → length (fields_of fs) ≡ total (widths_of fs)
unfolding fields_of
length_fields [] = refl
length_fields (f ∷ fs) = length-append (be_bytes f.0 f.1) (fields_of fs) ∙ ap₂ (λ (a b : ℕ). a + b) (length_be f.0 f.1) (length_fields fs)

pub fields_append : (fs gs : List (ℕ × ℕ)) → fields_of (fs ++ gs) ≡ fields_of fs ++ fields_of gs
unfolding fields_of
fields_append [] gs = refl
fields_append (f ∷ fs) gs = ap (λ (r : List ℕ). be_bytes f.0 f.1 ++ r) (fields_append fs gs) ∙ sym (append_assoc (be_bytes f.0 f.1) (fields_of fs) (fields_of gs))

field_one : (k v : ℕ) → fields_of ((k, v) ∷ []) ≡ be_bytes k v
unfolding fields_of
field_one k v = append-nil (be_bytes k v)

-- numbers written one behind the other
pub first_field : (o k v : ℕ) (m l : List ℕ) → l ≡ write_at o (be_bytes k v) m → l ≡ write_at o (fields_of ((k, v) ∷ [])) m
first_field o k v m l e = e ∙ ap (λ (r : List ℕ). write_at o r m) (sym (field_one k v))

pub next_field : (fs : List (ℕ × ℕ)) (o k v : ℕ) (m l l' : List ℕ) → o ≤ length m
    → l ≡ write_at o (fields_of fs) m → l' ≡ write_at (o + total (widths_of fs)) (be_bytes k v) l → l' ≡ write_at o (fields_of (fs ++ ((k, v) ∷ []))) m
next_field fs o k v m l l' h e e' =
    e' ∙ ap (write_at (o + total (widths_of fs)) (be_bytes k v)) e
    ∙ write_write o (o + total (widths_of fs)) (fields_of fs) (be_bytes k v) m h (ap (λ (n : ℕ). o + n) (length_fields fs))
    ∙ ap (λ (r : List ℕ). write_at o r m) (ap (λ (r : List ℕ). fields_of fs ++ r) (sym (field_one k v)) ∙ sym (fields_append fs ((k, v) ∷ [])))

-- what spells numbers are bytes
pub bytes_append : (s t : List ℕ) → Bytes s → Bytes t → Bytes (s ++ t)
bytes_append [] t p q = q
bytes_append (b ∷ s) t p q = (p.0, bytes_append s t p.1 q)

bytes_be : (k v : ℕ) → Bytes (be_bytes k v)
unfolding be_bytes
bytes_be zero v = tt
bytes_be (suc k) v = bytes_append (be_bytes k (v / 256)) (v % 256 ∷ []) (bytes_be k (v / 256)) (mod-lt v (zero-lt-suc 255), tt)

pub bytes_fields : (fs : List (ℕ × ℕ)) → Bytes (fields_of fs)
unfolding fields_of
bytes_fields [] = tt
bytes_fields (f ∷ fs) = bytes_append (be_bytes f.0 f.1) (fields_of fs) (bytes_be f.0 f.1) (bytes_fields fs)
