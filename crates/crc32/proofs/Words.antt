-- Several bytes a step, over their number: how they come into the register, and how their bit steps come out of the tables.
-- Assumes nothing.
use mathlib.Core.Path.{◌≡◌, refl, sym, ap, ap₂, ◌∙◌}
use mathlib.Core.List.{List, [], ◌∷◌, ◌++◌}
use Prim.Native.Nat.{ℕ, zero, suc, ◌+◌, ◌-◌, ◌*◌, ◌/◌, ◌%◌, ◌^◌, ◌<◌, ◌≤◌}
use native.Mathlib.Nat.{not-suc-le-zero, pow-suc, mod-lt, div-lt_iff_lt-mul, zero-lt-suc, lt_of_lt_of_le, pow-le-pow_right, one-le-pow}
use native.Mathlib.Numerals.{sub-one}
use native.Mathlib.Omega.{arith}
use lib.Arith.{lt-one}
use lib.Dec.{lit<, lit≤}
use lib.ListN.{length, get_or, take, drop, length-drop, drop_of_length-le, take-append-drop}
use lib.Seq.{take_all, drop-drop}
use Rattle.std.specs.Int.{from_le_bytes}
use mir.Syntax.{w32}
use lib.Bits.{bit_xor, xor_comm, xor_zero_r, xor_shifted}
use Rattle.octets.specs.Octets.{part, Bytes}
use Rattle.octets.proofs.Laws.{length_part, part_part}
use Rattle.octets.proofs.Lists.{drop_next}
use Rattle.crc32.specs.Crc32.{bit_step, bit_steps, crc_from}
use Rattle.crc32.specs.Tables.{tables_of, le_of}
use Rattle.octets.proofs.Bytes.{bytes_take, bytes_drop}
use Rattle.crc32.proofs.Xor.{xor_assoc}
use Rattle.crc32.proofs.Steps.{steps_add, steps_linear, steps_high, steps_low}
use Rattle.crc32.proofs.Rows.{entry_at_lem}

-- ---- in: bytes come into the register as one number

steps_none : (x : ℕ) → bit_steps 0 x ≡ x
unfolding bit_steps
steps_none x = refl

xor_under : (h r b : ℕ) → b < 256 → bit_xor (h * 256) (bit_xor r b) ≡ bit_xor r (h * 256 + b)
xor_under h r b p =
    sym (xor_assoc (h * 256) r b) ∙ ap (λ (x : ℕ). bit_xor x b) (xor_comm (h * 256) r) ∙ xor_assoc r (h * 256) b
    ∙ ap (bit_xor r) (xor_shifted h 8 b p)

pub bytes_in : (r : ℕ) (s : List ℕ) → Bytes s → crc_from r s ≡ bit_steps (8 * length s) (bit_xor r (le_of s))
unfolding crc_from le_of
bytes_in r [] p = sym (steps_none (bit_xor r 0) ∙ xor_zero_r r)
bytes_in r (b ∷ s) p =
    let h = le_of s in
    let n : 8 + 8 * length s ≡ 8 * suc (length s) = omega arith in
    bytes_in (bit_steps 8 (bit_xor r b)) s p.1
    ∙ ap (bit_steps (8 * length s)) (xor_comm (bit_steps 8 (bit_xor r b)) h ∙ sym (steps_high 8 h (bit_xor r b)))
    ∙ sym (steps_add 8 (8 * length s) (bit_xor (h * 256) (bit_xor r b)))
    ∙ ap₂ bit_steps n (xor_under h r b p.0)

-- two lists one behind the other
pub crc_append : (r : ℕ) (s t : List ℕ) → crc_from r (s ++ t) ≡ crc_from (crc_from r s) t
unfolding crc_from
crc_append r [] t = refl
crc_append r (b ∷ s) t = crc_append (bit_steps 8 (bit_xor r b)) s t

-- the bytes of a part come in before those behind it
pub part_in : (k r i : ℕ) (s : List ℕ) → crc_from r (drop i s) ≡ crc_from (crc_from r (part i k s)) (drop (i + k) s)
part_in k r i s =
    ap (crc_from r) (sym (take-append-drop k (drop i s))) ∙ crc_append r (part i k s) (drop k (drop i s))
    ∙ ap (crc_from (crc_from r (part i k s))) (drop-drop k i s)

-- a byte a step, and the end
pub byte_in : (r i : ℕ) (s : List ℕ) → i < length s → crc_from r (drop i s) ≡ crc_from (bit_steps 8 (bit_xor r (get_or s i 0))) (drop (i + 1) s)
unfolding crc_from
byte_in r i s h = ap (crc_from r) (drop_next s i h)

pub none_in : (r i : ℕ) (s : List ℕ) → length s ≤ i → crc_from r (drop i s) ≡ r
unfolding crc_from
none_in r i s h = ap (crc_from r) (drop_of_length-le s h)

-- what `&s[k..]` refers to
pub behind : (k : ℕ) (s : List ℕ) → take (length s - k) (drop k s) ≡ drop k s
behind k s = take_all (length s - k) (drop k s) (omega (arith, length-drop k s))

-- four bytes at once
pub four_in : (r o : ℕ) (s : List ℕ) → Bytes s → o + 4 ≤ length s → crc_from r (part o 4 s) ≡ bit_steps 32 (bit_xor r (le_of (part o 4 s)))
four_in r o s p h =
    bytes_in r (part o 4 s) (bytes_take 4 (drop o s) (bytes_drop o s p))
    ∙ ap (λ (n : ℕ). bit_steps (8 * n) (bit_xor r (le_of (part o 4 s)))) (length_part o 4 s h)

two_parts : (r o : ℕ) (s : List ℕ) → o + 8 ≤ length s → crc_from r (part o 8 s) ≡ crc_from (crc_from r (part o 4 s)) (part (o + 4) 4 s)
two_parts r o s h =
    let w = part o 8 s in
    let n : length w ≤ 8 = omega (arith, length_part o 8 s h) in
    let z : o + 0 ≡ o = omega arith in
    part_in 4 r 0 w ∙ part_in 4 (crc_from r (part 0 4 w)) 4 w ∙ none_in (crc_from (crc_from r (part 0 4 w)) (part 4 4 w)) 8 w n
    ∙ ap₂ (λ (a b : List ℕ). crc_from (crc_from r a) b)
    (part_part o 8 0 4 s (lit≤ tt) ∙ ap (λ (i : ℕ). part i 4 s) z) (part_part o 8 4 4 s (lit≤ tt))

-- what comes in later is stepped apart from the rest, and less
steps_later : (j k x h : ℕ) → bit_steps k (bit_xor (bit_steps j x) h) ≡ bit_xor (bit_steps k h) (bit_steps (j + k) x)
steps_later j k x h =
    steps_linear k (bit_steps j x) h ∙ xor_comm (bit_steps k (bit_steps j x)) (bit_steps k h) ∙ ap (bit_xor (bit_steps k h)) (sym (steps_add j k x))

-- eight bytes, as two fours of which the upper one does not meet the register
pub eight_in : (r o : ℕ) (s : List ℕ) → Bytes s → o + 8 ≤ length s
    → crc_from r (part o 8 s) ≡ bit_xor (bit_steps 32 (le_of (part (o + 4) 4 s))) (bit_steps 64 (bit_xor r (le_of (part o 4 s))))
eight_in r o s p h =
    two_parts r o s h ∙ four_in (crc_from r (part o 4 s)) (o + 4) s p (omega arith)
    ∙ ap (λ (x : ℕ). bit_steps 32 (bit_xor x (le_of (part (o + 4) 4 s)))) (four_in r o s p (omega arith))
    ∙ steps_later 32 32 (bit_xor r (le_of (part o 4 s))) (le_of (part (o + 4) 4 s))

-- ---- the number, of four bytes one by one

pub le_four : (o : ℕ) (s : List ℕ) → o + 4 ≤ length s
    → le_of (part o 4 s) ≡ from_le_bytes w32 (get_or s o 0 ∷ get_or s (o + 1) 0 ∷ get_or s (o + 2) 0 ∷ get_or s (o + 3) 0 ∷ [])
unfolding le_of
le_four o s h =
    let two : o + 1 + 1 ≡ o + 2 = omega arith in
    let three : o + 2 + 1 ≡ o + 3 = omega arith in
    rw (drop_next s o (omega arith), drop_next s (o + 1) (omega arith), two, drop_next s (o + 2) (omega arith), three, drop_next s (o + 3) (omega arith)) (omega arith)

-- ---- out: the xor of a look-up for each of the k bytes of a number

abbrev pub look_ups : List ℕ → ℕ → ℕ → ℕ
look_ups t zero x = 0
look_ups t (suc k) x = bit_xor (get_or t (256 * k + x % 256) 0) (look_ups t k (x / 256))

pub steps_out : (t : List ℕ) (k x : ℕ) → t ≡ tables_of → k ≤ 8 → x < 256 ^ k → look_ups t k x ≡ bit_steps (8 * k) x
steps_out t zero x e hk hx = sym (steps_none x ∙ lt-one hx)
steps_out t (suc k) x e hk hx =
    let n : 8 + 8 * k ≡ 8 * suc k = omega arith in
    ap₂ bit_xor (entry_at_lem t k (x % 256) e hk (mod-lt x (lit< tt)) ∙ ap (λ (m : ℕ). bit_steps m (x % 256)) (sym n))
    (steps_out t k (x / 256) e (omega arith) ((div-lt_iff_lt-mul (zero-lt-suc 255)).1 (rw pow-suc at hx)))
    ∙ xor_comm (bit_steps (8 + 8 * k) (x % 256)) (bit_steps (8 * k) (x / 256))
    ∙ sym (steps_low 8 (8 * k) x) ∙ ap (λ (m : ℕ). bit_steps m x) n

-- of a number of four bytes, by as many tables or more
pub four_out : (t : List ℕ) (k x : ℕ) → t ≡ tables_of → 4 ≤ k → k ≤ 8 → x < 2 ^ 32 → look_ups t k x ≡ bit_steps (8 * k) x
four_out t k x e g h hx = steps_out t k x e h (lt_of_lt_of_le hx (pow-le-pow_right {n = 256} (lit< tt) g))

-- one look-up
pub look_next : (t : List ℕ) (r k x : ℕ) → 0 < k → bit_xor r (look_ups t k x) ≡ bit_xor (bit_xor r (get_or t (256 * (k - 1) + x % 256) 0)) (look_ups t (k - 1) (x / 256))
look_next t r zero x h = absurd (not-suc-le-zero h)
look_next t r (suc k) x h = rw (sub-one (suc k)) (sym (xor_assoc r (get_or t (256 * k + x % 256) 0) (look_ups t k (x / 256))))

steps_zero : (k : ℕ) → bit_steps k 0 ≡ 0
unfolding bit_steps bit_step
steps_zero zero = refl
steps_zero (suc k) = steps_zero k

bytes_some : (k : ℕ) → 0 < 256 ^ k
bytes_some k = one-le-pow k 256 (lit< tt)

-- no byte is left
pub look_end : (t : List ℕ) (r k x : ℕ) → t ≡ tables_of → k ≤ 8 → x < 1 → bit_xor r (look_ups t k x) ≡ r
look_end t r k x e hk hx =
    ap (λ (y : ℕ). bit_xor r (look_ups t k y)) (lt-one hx)
    ∙ ap (bit_xor r) (steps_out t k 0 e hk (bytes_some k) ∙ steps_zero (8 * k)) ∙ xor_zero_r r

-- what is left of a number of four bytes, of which j are still to come
pub bytes_all : (w x : ℕ) → x < 2 ^ 32 → x < 256 ^ (w + 4 - w)
bytes_all w x h =
    let n : w + 4 - w ≡ 4 = omega arith in
    rw n h

pub bytes_left : (j y : ℕ) → 0 < j → y < 256 ^ j → y / 256 < 256 ^ (j - 1)
bytes_left zero y g h = absurd (not-suc-le-zero g)
bytes_left (suc j) y g h = rw (sub-one (suc j)) ((div-lt_iff_lt-mul (zero-lt-suc 255)).1 (rw pow-suc at h))
