-- A program that takes in lines as their bytes come: of any such program, whatever it does with a line, its bytes may be taken a line at a time, and in any
-- pieces.
-- Assumes nothing.
use mathlib.Core.Path.{◌≡◌, refl, sym, ap, ap₂, ◌∙◌}
use mathlib.Core.Bool.{Bool, true, false, cond}
use mathlib.Core.List.{List, [], ◌∷◌, ◌++◌, append_assoc, append-nil}
use mathlib.Core.Logic.{⊎_elim}
use Prim.Native.Nat.{ℕ, zero, suc, ◌+◌, ◌-◌, ◌≤◌, ◌<◌, min}
use native.Mathlib.Omega.{arith}
use lib.Dec.{eqb}
use lib.ListN.{length, take, drop, length-take, length-drop, length-append, drop_of_length-le}
use lib.Seq.{take-length, take_all, take_at, take-append-add, length-take-le, drop-drop}
use Rattle.base.proofs.Tests.{lt_or_le}
use Rattle.byte_search.specs.Bytes.{index_after, index_of, slice}
use Rattle.octets.specs.Octets.{write_at}

-- what is cut off twice is cut off once
take_again : (n : ℕ) (xs ys : List ℕ) → take n (take n xs ++ ys) ≡ take n (xs ++ ys)
take_again zero xs ys = refl
take_again (suc n) [] ys = refl
take_again (suc n) (x ∷ xs) ys = ap (λ (r : List ℕ). x ∷ r) (take_again n xs ys)

-- ---- what is held of a line, with a piece behind it: n bytes of `line` before and m bytes of `after` then, `room` at most

least_take : (r : ℕ) (l : List ℕ) → take (min (length l) r) l ≡ take r l
least_take r l = ⊎_elim (λ (h : r < length l). let e : min (length l) r ≡ r = omega arith in ap (λ (k : ℕ). take k l) e) (λ (h : length l ≤ r). let e : min (length l) r ≡ length l = omega arith in ap (λ (k : ℕ). take k l) e ∙ take-length l ∙ sym (take_all r l h)) (lt_or_le r (length l))

module _ (room n m : ℕ) (line after s : List ℕ) (whole : length line ≡ room) (h : n ≤ length line)
    (f : m ≡ n + min (length s) (length line - n)) (e : after ≡ write_at n (take (min (length s) (length line - n)) s) line) where
  abbrev front : List ℕ
  front = take n line

  pub held_more : take m after ≡ take room (take n line ++ s)
  unfolding write_at
  held_more =
      let k = min (length s) (length line - n) in
      let a : length front ≡ n = length-take-le n line h in
      let b : length (take k s) ≡ k = length-take-le k s (omega arith) in
      let z : room ≡ length front + (length line - n) = omega (arith, a, whole) in
      ap₂ take f e
      ∙ ap (take (n + k)) (sym (append_assoc front (take k s) (drop (n + length (take k s)) line)))
      ∙ take_at (front ++ take k s) _ (n + k) (length-append front (take k s) ∙ ap₂ (λ (x y : ℕ). x + y) a b)
      ∙ ap (λ (l : List ℕ). front ++ l) (least_take (length line - n) s)
      ∙ sym (take-append-add front s (length line - n))
      ∙ ap (λ (x : ℕ). take x (front ++ s)) (sym z)

-- ---- a program

-- P is what a program is between two bytes: what it holds of a line, `room` bytes at most, and all else. A byte that is no newline goes behind what is held;
-- a newline ends the line.
pub record Feeding (P : Type 0) (newline room : ℕ) (lineIn : P → List ℕ) (with_line : P → List ℕ → P) (ended : P → P) (fed : P → List ℕ → P) : Type 0 where
  pub none : (p : P) → fed p [] ≡ p
  pub one : (p : P) (b : ℕ) (bs : List ℕ) → fed p (b ∷ bs) ≡ fed (cond (eqb b newline) (ended p) (with_line p (lineIn p ++ (b ∷ [])))) bs
  pub holds : (p : P) (l : List ℕ) → lineIn (with_line p l) ≡ take room l
  pub anew : (p : P) (l m : List ℕ) → with_line (with_line p l) m ≡ with_line p m
  pub cut : (p : P) (l : List ℕ) → with_line p (take room l) ≡ with_line p l
  pub same : (p : P) → length (lineIn p) ≤ room → with_line p (lineIn p) ≡ p

module _ {P : Type 0} {newline room : ℕ} {lineIn : P → List ℕ} {with_line : P → List ℕ → P} {ended : P → P} {fed : P → List ℕ → P} (f : Feeding P newline room lineIn with_line ended fed) where
  abbrev grown : P → ℕ → P
  grown p b = with_line p (lineIn p ++ (b ∷ []))

  grown_more : (p : P) (b : ℕ) (bs : List ℕ) → with_line (grown p b) (lineIn (grown p b) ++ bs) ≡ with_line p (lineIn p ++ (b ∷ bs))
  grown_more p b bs =
      let l = lineIn p ++ (b ∷ []) in
      f.anew p l (lineIn (grown p b) ++ bs)
      ∙ ap (λ (k : List ℕ). with_line p (k ++ bs)) (f.holds p l)
      ∙ sym (f.cut p (take room l ++ bs))
      ∙ ap (with_line p) (take_again room l bs)
      ∙ f.cut p (l ++ bs)
      ∙ ap (with_line p) (append_assoc (lineIn p) (b ∷ []) bs)

  grown_short : (p : P) (b : ℕ) → length (lineIn (grown p b)) ≤ room
  grown_short p b = let l = lineIn p ++ (b ∷ []) in omega (arith, length-take room l, ap length (f.holds p l))

  -- a line, up to the end of the bytes or to its newline

  to_end : (p : P) (s : List ℕ) → length (lineIn p) ≤ room → index_of newline s ≡ length s → fed p s ≡ with_line p (lineIn p ++ s)
  unfolding index_of index_after
  to_end p [] h e = f.none p ∙ sym (ap (with_line p) (append-nil (lineIn p)) ∙ f.same p h)
  to_end p (b ∷ s) h e = f.one p b s ∙ go (eqb b newline) e (λ x. to_end (grown p b) s (grown_short p b) x)
    where
      go : (t : Bool) → index_after t (index_of newline s) ≡ suc (length s)
          → (index_of newline s ≡ length s → fed (grown p b) s ≡ with_line (grown p b) (lineIn (grown p b) ++ s))
          → fed (cond t (ended p) (grown p b)) s ≡ with_line p (lineIn p ++ (b ∷ s))
      go true e g = absurd (omega arith)
      go false e g = g (omega arith) ∙ grown_more p b s

  to_newline : (p : P) (s : List ℕ) → length (lineIn p) ≤ room → index_of newline s < length s
      → fed p s ≡ fed (ended (with_line p (lineIn p ++ take (index_of newline s) s))) (drop (index_of newline s + 1) s)
  unfolding index_of index_after
  to_newline p [] h e = absurd (omega arith)
  to_newline p (b ∷ s) h e = f.one p b s ∙ go (eqb b newline) e (λ x. to_newline (grown p b) s (grown_short p b) x)
    where
      go : (t : Bool) → index_after t (index_of newline s) < suc (length s)
          → (index_of newline s < length s
          → fed (grown p b) s ≡ fed (ended (with_line (grown p b) (lineIn (grown p b) ++ take (index_of newline s) s))) (drop (index_of newline s + 1) s))
          → fed (cond t (ended p) (grown p b)) s
          ≡ fed (ended (with_line p (lineIn p ++ take (index_after t (index_of newline s)) (b ∷ s)))) (drop (index_after t (index_of newline s) + 1) (b ∷ s))
      go true e g = ap (λ (q : P). fed (ended q) s) (sym (ap (with_line p) (append-nil (lineIn p)) ∙ f.same p h))
      go false e g =
          let k = index_of newline s in
          let z : suc (k + 1) ≡ suc k + 1 = omega arith in
          g (omega arith) ∙ ap (λ (q : P). fed (ended q) (drop (k + 1) s)) (grown_more p b (take k s))
          ∙ ap (λ (n : ℕ). fed (ended (with_line p (lineIn p ++ (b ∷ take k s)))) (drop n (b ∷ s))) z

  -- one turn of a loop over a piece of input: from place i, of which the next newline is at j

  module _ (chunk : List ℕ) (i j : ℕ) (lo : i ≤ length chunk) (e : j ≡ i + index_of newline (slice i (length chunk) chunk)) where
    rest : slice i (length chunk) chunk ≡ drop i chunk
    unfolding slice
    rest = ap (drop i) (take-length chunk)

    found : j ≡ i + index_of newline (drop i chunk)
    found = e ∙ ap (λ (l : List ℕ). i + index_of newline l) rest

    pub at_end : (p : P) → length (lineIn p) ≤ room → j ≡ length chunk → fed p (drop i chunk) ≡ with_line p (lineIn p ++ take (j - i) (drop i chunk))
    at_end p h x =
        let l : length (drop i chunk) ≡ length chunk - i = length-drop i chunk in
        to_end p (drop i chunk) h (omega (arith, found, l))
        ∙ ap (λ (s : List ℕ). with_line p (lineIn p ++ s)) (sym (take_all (j - i) (drop i chunk) (omega (arith, l))))

    pub at_newline : (p : P) → length (lineIn p) ≤ room → j < length chunk
        → fed p (drop i chunk) ≡ fed (ended (with_line p (lineIn p ++ take (j - i) (drop i chunk)))) (drop (j + 1) chunk)
    at_newline p h x =
        let l : length (drop i chunk) ≡ length chunk - i = length-drop i chunk in
        let k = index_of newline (drop i chunk) in
        let a : k ≡ j - i = omega (arith, found) in
        let b : i + (k + 1) ≡ j + 1 = omega (arith, found) in
        to_newline p (drop i chunk) h (omega (arith, found, l))
        ∙ ap₂ (λ (n : ℕ) (s : List ℕ). fed (ended (with_line p (lineIn p ++ take n (drop i chunk)))) s) a
        (drop-drop (k + 1) i chunk ∙ ap (λ (n : ℕ). drop n chunk) b)

  -- the end of a piece, and pieces one after another

  pub fed_none : (p : P) (s : List ℕ) (i : ℕ) → length s ≤ i → fed p (drop i s) ≡ p
  fed_none p s i h = ap (fed p) (drop_of_length-le s h) ∙ f.none p

  pub fed_pieces : (p : P) (a b : List ℕ) → fed p (a ++ b) ≡ fed (fed p a) b
  fed_pieces p [] b = ap (λ (q : P). fed q b) (sym (f.none p))
  fed_pieces p (x ∷ a) b =
      f.one p x (a ++ b)
      ∙ fed_pieces (cond (eqb x newline) (ended p) (grown p x)) a b
      ∙ ap (λ (q : P). fed q b) (sym (f.one p x a))
