-- What a passed refusal 2 says of a server's marks.
-- Assumes nothing.
use mathlib.Core.Path.{◌≡◌}
use mathlib.Core.Bool.{true, false}
use Prim.Native.Nat.{ℕ, ◌≤◌, ◌<◌}
use lib.Dec.{leb}
use borrow.Author.Tests.{not-false, leb-true}
use Rattle.base.specs.Below.{all}
use Rattle.base.proofs.Below.{all_at}
use Rattle.base.proofs.Tests.{both}
use Rattle.cluster.specs.declared.Shape.{Shape}
use Rattle.cluster.specs.declared.Server.{Server}
use Rattle.cluster.specs.declared.Records.{Records}
use Rattle.cluster.specs.State.{server_at, mark_at}
use Rattle.cluster.specs.Refusals.{entries_fit, server_fits, mark_above}

pub record MarksFit (h : Shape) (v : Server) : Type 0 where
  pub marks : (i : ℕ) → i < h.replicas → mark_at v i ≤ h.places
  pub start : v.start ≤ h.places
  pub issued : v.issued ≤ h.places
  pub acked : v.acked ≤ h.places

of_server : (h : Shape) (v : Server) → server_fits h v ≡ true → MarksFit h v
unfolding server_fits
of_server h v e =
    let marks = all (λ i. leb (mark_at v i) h.places) h.replicas in
    let a = both _ (leb v.acked h.places) e in
    let b = both _ (leb v.issued h.places) a.0 in
    let d = both _ (leb v.start h.places) b.0 in
    let m = both (entries_fit h v.entries) marks d.0 in
    record {
      marks = λ i l. leb-true (mark_at v i) h.places (all_at (λ i. leb (mark_at v i) h.places) h.replicas i m.1 l);
      start = leb-true v.start h.places d.1;
      issued = leb-true v.issued h.places b.1;
      acked = leb-true v.acked h.places a.1;
    }

pub marks_fit : (h : Shape) (r : Records) (s : ℕ) → s < 4 → mark_above h r ≡ false → MarksFit h (server_at r s)
unfolding mark_above
marks_fit h r s l e =
    let servers = all (λ s. server_fits h (server_at r s)) 4 in
    of_server h (server_at r s) (all_at (λ s. server_fits h (server_at r s)) 4 s (both (entries_fit h r.register.entries) servers (not-false _ e)).1 l)
