-- `put_back`: the medium at the replica's place of the media becomes what `write_back` ensures (`put_back`).
use Prim.Native.Nat.{◌+◌, ◌^◌}
use native.Mathlib.Omega.{arith}
use lib.ListN.{length}
use borrow.Author.Tests.{eqb-false}
use Rattle.restore_effect.proofs.Writing.{lent_length, put_back}
use Rattle.restore_effect.proofs.put_back.Goals as goal

pub overflow_add-session : goal.overflow_add-session
overflow_add-session c = omega (arith, eqb-false (c.args.records.register.session + 1) (2 ^ 64) c.requires.fits.session)

pub write_back-requires : goal.write_back-requires
write_back-requires c =
    let a = c.args in
    let f = c.requires.fits in record {
      m_len = lent_length a.i (length a.backup.now) a.media.now f.within;
      slots_size_in_bounds = f.slots;
    }

pub returns : goal.returns
returns c =
    let a = c.args in
    put_back a.i (length a.backup.now) a.media.now c.requires.fits.within a.records a.backup.now (c.value.ensures, c.write_back.ensures) c.write_back.auto.m
