-- Bytes fed a line at a time, and what the running program holds then.
-- Assumes nothing.
use mathlib.Core.Path.{◌≡◌, refl, sym, ap, ap₂, ◌∙◌}
use mathlib.Core.Bool.{Bool, cond}
use mathlib.Core.List.{List, [], ◌++◌, append_assoc}
use Prim.Native.Nat.{ℕ, ◌+◌, ◌-◌, ◌≤◌, ◌<◌, min}
use native.Mathlib.Omega.{arith}
use lib.ListN.{length, take, drop, length-take, length-append}
use lib.Seq.{take_all, take_at, take-take, length-take-le}
use borrow.Author.Tests.{eq-eqb, ne_eqb}
use Rattle.byte_search.specs.Bytes.{index_of, slice}
use Rattle.octets.specs.Octets.{write_at}
use Rattle.line_input.proofs.Feeding.{Feeding, held_more, at_end, at_newline}
use Rattle.line_input.proofs.Feeding as any
use Rattle.lines.specs.Forms.{meaning_of}
use Rattle.replies.specs.Texts.{newline, text_of}
use Rattle.answers.specs.declared.answer.Held.{Held}
use Rattle.answers.specs.Sizes.{line_room}
use Rattle.answers.specs.declared.answer.Next.{Next}
use Rattle.answers.specs.Answers.{after_of, answer_to}
use Rattle.interpreter.specs.Input.{Program, with_line, left, ended, fed, closed, program_of}

-- the program with l held of a line
abbrev holding : Program → List ℕ → Program
holding p l = record { line = l; held = p.held; media = p.media; tables = p.tables; out = p.out }

-- the script program takes in lines as line_input's do, so that what holds of any of them holds of it
pub feeding : Feeding Program newline line_room (λ (p : Program). p.line) with_line ended fed
unfolding fed
feeding = record {
  none = λ p. refl;
  one = λ p b bs. refl;
  holds = λ p l. refl;
  anew = λ p l m. refl;
  cut = λ p l. ap (holding p) (take-take line_room line_room l (omega arith));
  same = λ p h. ap (holding p) (take_all line_room p.line h);
}

-- a line answered: the program that `reply` leaves, of what `answer` gave
module _ (n o o' : ℕ) (h : Held) (line m tables out m' tables' out' : List ℕ) (x : Next) where
  behind : o ≤ length out → o' ≡ o + length (text_of x.printed) → out' ≡ write_at o (text_of x.printed) out → take o' out' ≡ take o out ++ text_of x.printed
  unfolding write_at
  behind r k w =
      let bs = text_of x.printed in
      ap₂ take k w
      ∙ ap (take (o + length bs)) (sym (append_assoc (take o out) bs (drop (o + length bs) out)))
      ∙ take_at (take o out ++ bs) _ (o + length bs) (length-append (take o out) bs ∙ ap (λ (y : ℕ). y + length bs) (length-take-le o out r))

  pub answered_line : o ≤ length out → after_of x m' tables' ≡ answer_to (meaning_of (take n line)) h m tables
      → o' ≡ o + length (text_of x.printed) → out' ≡ write_at o (text_of x.printed) out
      → program_of 0 o' x.held line m' tables' out' ≡ ended (program_of n o h line m tables out)
  answered_line r e k w =
      ap (λ (l : List ℕ). record { line = []; held = x.held; media = m'; tables = tables'; out = l }) (behind r k w)
      ∙ ap (left (program_of n o h line m tables out)) e

-- ---- the turns, in what the running program holds

pub fed_none : (p : Program) (s : List ℕ) (i : ℕ) → length s ≤ i → fed p (drop i s) ≡ p
fed_none = any.fed_none feeding

module _ (chunk : List ℕ) (i j : ℕ) (lo : i ≤ length chunk) (e : j ≡ i + index_of newline (slice i (length chunk) chunk))
    (n o k : ℕ) (h : Held) (line after m tables out : List ℕ) (room : length line ≡ line_room) (small : n ≤ length line)
    (f : k ≡ n + min (length (take (j - i) (drop i chunk))) (length line - n))
    (g : after ≡ write_at n (take (min (length (take (j - i) (drop i chunk))) (length line - n)) (take (j - i) (drop i chunk))) line) where
  abbrev before : Program
  before = program_of n o h line m tables out

  short : length (take n line) ≤ line_room
  short = omega (arith, length-take n line)

  kept_line : with_line before (take n line ++ take (j - i) (drop i chunk)) ≡ program_of k o h after m tables out
  kept_line = ap (holding before) (sym (held_more line_room n k line after (take (j - i) (drop i chunk)) room small f g))

  pub end_turn : j ≡ length chunk → fed before (drop i chunk) ≡ program_of k o h after m tables out
  end_turn x = at_end feeding chunk i j lo e before short x ∙ kept_line

  pub line_turn : (p : Program) → j < length chunk → p ≡ ended (program_of k o h after m tables out) → fed before (drop i chunk) ≡ fed p (drop (j + 1) chunk)
  line_turn p x q =
      at_newline feeding chunk i j lo e before short x
      ∙ ap (λ (p : Program). fed (ended p) (drop (j + 1) chunk)) kept_line
      ∙ ap (λ (p : Program). fed p (drop (j + 1) chunk)) (sym q)

-- ---- the end of the input

module _ (n o : ℕ) (h : Held) (line m tables out : List ℕ) (r : n ≤ length line) where
  abbrev last : Program
  last = program_of n o h line m tables out

  count : length (take n line) ≡ n
  count = length-take-le n line r

  pub closed_none : n ≡ 0 → last ≡ closed last
  closed_none z = sym (ap (λ (b : Bool). cond b last (ended last)) (eq-eqb (length (take n line)) 0 (count ∙ z)))

  pub closed_line : (p : Program) → (n ≡ 0 → ⊥) → p ≡ ended last → p ≡ closed last
  closed_line p z q = q ∙ sym (ap (λ (b : Bool). cond b last (ended last)) (ne_eqb (length (take n line)) 0 (λ x. z (sym count ∙ x))))
