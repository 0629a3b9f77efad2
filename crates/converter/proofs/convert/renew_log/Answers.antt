-- `convert::renew_log`. The invariant: what is left of the log, renewed and written where the code stands, gives the whole.
use mathlib.Core.Path.{◌≡◌, refl, sym, ap, ◌∙◌}
use mathlib.Core.Bool.{true, false}
use mathlib.Core.List.{List}
use Prim.Native.Nat.{ℕ, ◌+◌, ◌-◌, ◌*◌}
use lib.ListN.{length}
use borrow.Rule.Slice.PartMut.{put_mid}
use native.Mathlib.Omega.{arith}
use Rattle.octets.specs.Octets.{write_at}
use Rattle.octets.proofs.Laws.{length_between}
use Rattle.storage.specs.Sizes.{slots_size, place_size}
use Rattle.old_places.specs.Old.{old_place_size, old_valid, old_place_at, renewed}
use Rattle.converter.specs.Convert.{all_renewed}
use Rattle.converter.proofs.Converting.{left, left_all, mark_all, left_end, left_next, left_stop, length_old, place_here, valid_short, length_renewed, renewed_next, renewed_end}
use Rattle.converter.proofs.convert.renew_log.Goals as goal

-- where place n + 1 begins, in the old layout and in the new one
abbrev old_at : ℕ → ℕ
old_at n = slots_size + old_place_size * n

abbrev new_at : ℕ → ℕ
new_at n = slots_size + place_size * n

pub loop-n-init : goal.loop-n-init
loop-n-init c =
    let a = c.args in record {
      mark = mark_all a.places a.m.now;
      written = ap (λ (ps : List (List ℕ)). write_at slots_size (all_renewed ps) a.out.now) (sym (left_all a.places a.m.now));
    }

pub valid-requires : goal.valid-requires
valid-requires c =
    let a = c.args in
    let l = c.loop-n in record {
      s_len = ap length (place_here l.n (old_at l.n) a.m.now refl) ∙ length_old a.places l.n a.m.now c.loop-n-test.true (sym c.requires.m_len);
    }

pub returns-then-not-valid : goal.returns-then-not-valid
returns-then-not-valid c =
    let a = c.args in
    let l = c.loop-n in
    let m = a.m.now in
    let v : old_valid (l.n + 1) (old_place_at (l.n + 1) m) ≡ false = ap (old_valid (l.n + 1)) (sym (place_here l.n (old_at l.n) m refl)) ∙ sym c.valid.ensures ∙ c.if-not-valid.true in
    let e = left_stop a.places l.n m c.loop-n-test.true v in
    (omega (arith, l.invariant.mark, ap length e), sym (l.invariant.written ∙ renewed_end a.places l.n (new_at l.n) m l.out e))

pub renew-requires : goal.renew-requires
renew-requires c =
    let a = c.args in
    let l = c.loop-n in
    let m = a.m.now in
    let here = place_here l.n (old_at l.n) m refl in
    let size = length_between (new_at l.n) (new_at l.n + place_size) l.out (omega arith) (omega (arith, l.auto.out, c.requires.out_len, c.loop-n-test.true)) in record {
      out_len = size ∙ omega arith;
      s_len = ap length here ∙ length_old a.places l.n m c.loop-n-test.true (sym c.requires.m_len);
      s_bound = valid_short (l.n + 1) _ (sym c.valid.ensures ∙ c.if-not-valid.false);
    }

pub loop-n-preserved : goal.loop-n-preserved
loop-n-preserved c =
    let a = c.args in
    let l = c.loop-n in
    let m = a.m.now in
    let here = place_here l.n (old_at l.n) m refl in
    let h = c.loop-n-test.true in
    let v : old_valid (l.n + 1) (old_place_at (l.n + 1) m) ≡ true = ap (old_valid (l.n + 1)) (sym here) ∙ sym c.valid.ensures ∙ c.if-not-valid.false in
    let e = left_next a.places l.n m h v in
    let ys : c.renew.new.out ≡ renewed (old_place_at (l.n + 1) m) = c.renew.ensures ∙ ap renewed here in
    let long : new_at l.n + length c.renew.new.out ≡ new_at l.n + place_size = ap (λ (i : ℕ). new_at l.n + i) (ap length ys ∙ length_renewed _ (valid_short (l.n + 1) _ v)) in
    let next : new_at l.n + place_size ≡ new_at (l.n + 1) = omega arith in record {
      mark = omega (arith, l.invariant.mark, ap length e);
      written =
          l.invariant.written
          ∙ renewed_next a.places l.n (new_at l.n) _ m l.out _ e (omega (arith, l.auto.out, c.requires.out_len, h)) ys long
          ∙ ap (λ (i : ℕ). write_at i (all_renewed (left a.places (l.n + 1) m)) (put_mid (new_at l.n) (new_at l.n + place_size - new_at l.n) l.out c.renew.new.out)) next;
    }

pub returns : goal.returns
returns c =
    let a = c.args in
    let l = c.loop-n in
    let e = left_end a.places l.n a.m.now c.loop-n-test.false in
    (omega (arith, l.invariant.mark, ap length e), sym (l.invariant.written ∙ renewed_end a.places l.n (new_at l.n) a.m.now l.out e))
