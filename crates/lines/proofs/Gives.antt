-- What a function that reads a line gives: the answer and the two buffers, all by the line's meaning.
-- Assumes nothing.
use mathlib.Core.Path.{◌≡◌, refl, sym, ap, ap₂, ◌∙◌}
use mathlib.Core.List.{List}
use mathlib.Core.Bool.{true, false}
use Prim.Native.Nat.{ℕ, ◌-◌, ◌/◌, ◌<◌, ◌≤◌}
use lib.ListN.{length}
use borrow.Author.Tests.{le-leb, lt-leb}
use Rattle.std.specs.Prelude.{Option, Some, None}
use Rattle.octets.specs.Octets.{write_at}
use Rattle.cluster.specs.declared.Request.{Request}
use Rattle.cluster.specs.declared.Call.TheVariants as call
use Rattle.text.specs.Text.{after_of, field_of, field_count}
use Rattle.lines.specs.declared.forms.Line.{Line}
use Rattle.lines.specs.declared.forms.Line.TheVariants as line
use Rattle.lines.specs.Words.{same, issue_word}
use Rattle.hex_digits.specs.Hex.{is_hex, bytes_of}
use Rattle.lines.specs.Values.{all_numbers, numbers_of}
use Rattle.lines.specs.Forms.{Meaning, bad, asked, data_then, issue_form, plain_form, form_of, line_limit, meaning_of, line_of, data_of, locks_of}
use Rattle.octets.proofs.Laws.{write_none}
use Rattle.hex_digits.proofs.Pairs.{bytes_length}
use Rattle.lines.proofs.Numbers.{numbers_length}
use Rattle.lines.proofs.Bare.{Bare}

-- d₀ and l₀ are the buffers before, d and l after
abbrev pub Gives : Meaning → Option Line → List ℕ → List ℕ → List ℕ → List ℕ → Type 0
Gives m r d₀ d l₀ l = record {
  value : r ≡ line_of m;
  content_after : d ≡ write_at 0 (data_of m) d₀;
  locks_after : l ≡ write_at 0 (locks_of m) l₀;
}

pub gives_as : (m n : Meaning) (r : Option Line) (d₀ d l₀ l : List ℕ) → m ≡ n → Gives n r d₀ d l₀ l → Gives m r d₀ d l₀ l
gives_as m n r d₀ d l₀ l e g = rw e g

-- no data and no locks: the buffers stay
pub gives_bare : (m : Meaning) (r : Option Line) (d l : List ℕ) → Bare m → r ≡ line_of m → Gives m r d d l l
gives_bare m r d l b e = record {
  value = e;
  content_after = sym (ap (λ (x : List ℕ). write_at 0 x d) b.content ∙ write_none d 0);
  locks_after = sym (ap (λ (x : List ℕ). write_at 0 x l) b.locks ∙ write_none l 0);
}

pub gives_bad : (m : Meaning) (d l : List ℕ) → m ≡ bad → Gives m None d d l l
gives_bad m d l e = gives_as m bad None d d l l e (gives_bare bad None d l (record { content = refl; locks = refl }) refl)

-- ---- data and locks: f is the data field, t the fields of the locks, n the number of fields

module _ (s : List ℕ) (v : ℕ) (q : Request) (f : List ℕ) (p : f ≡ field_of 5 s) where
  pub no_data : is_hex f ≡ false → data_then s v q ≡ bad
  no_data h = rw (← p, h)

  module _ (t : List ℕ) (n : ℕ) (o : t ≡ after_of 6 s) (c : n ≡ field_count s) (h : is_hex f ≡ true) where
    pub no_locks : all_numbers (n - 6) t ≡ false → data_then s v q ≡ bad
    no_locks k = rw (← p, ← o, ← c, h, k)

    both_there : all_numbers (n - 6) t ≡ true → data_then s v q ≡ asked (call.Issue v q) (bytes_of f) (numbers_of (n - 6) t)
    both_there k = rw (← p, ← o, ← c, h, k)

    pub gives_data : (d₀ d l₀ l : List ℕ) → all_numbers (n - 6) t ≡ true → d ≡ write_at 0 (bytes_of f) d₀ → l ≡ write_at 0 (numbers_of (n - 6) t) l₀
        → Gives (data_then s v q) (Some (line.Asked (call.Issue v q) (length f / 2) (n - 6))) d₀ d l₀ l
    gives_data d₀ d l₀ l k x y =
        gives_as (data_then s v q) (asked (call.Issue v q) (bytes_of f) (numbers_of (n - 6) t)) _ d₀ d l₀ l (both_there k)
        (record {
          value = ap₂ (λ (i j : ℕ). Some (line.Asked (call.Issue v q) i j)) (sym (bytes_length f)) (sym (numbers_length (n - 6) t));
          content_after = x;
          locks_after = y;
        })

-- ---- the whole line

module _ (s : List ℕ) where
  pub too_long : line_limit < length s → meaning_of s ≡ bad
  unfolding meaning_of
  too_long h = rw (lt-leb (length s) line_limit h)

  module _ (h : length s ≤ line_limit) where
    pub not_issue : same (field_of 0 s) issue_word ≡ false → meaning_of s ≡ plain_form s
    unfolding meaning_of form_of
    not_issue w = rw (le-leb (length s) line_limit h, w)

    pub too_few : same (field_of 0 s) issue_word ≡ true → field_count s < 6 → meaning_of s ≡ bad
    unfolding meaning_of form_of
    too_few w n = rw (le-leb (length s) line_limit h, w, lt-leb 6 (field_count s) n)

    pub an_issue : same (field_of 0 s) issue_word ≡ true → 6 ≤ field_count s → meaning_of s ≡ issue_form s
    unfolding meaning_of form_of
    an_issue w n = rw (le-leb (length s) line_limit h, w, le-leb 6 (field_count s) n)
