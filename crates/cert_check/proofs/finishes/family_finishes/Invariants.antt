use Rattle.std.proofs.Common.{◌≡◌, ℕ, ◌<◌, length}
use Rattle.xdd_table.specs.Diagram.{Keeps}
use Rattle.node_exits.specs.NodeExits.{IsRight}
use Rattle.cert_check.specs.Judging.{FamilyPays, IsSite, VectorPaysFinish}
use Rattle.cert_check.specs.Places.{Along, IsFinish}
use Rattle.cert_check.proofs.finishes.family_finishes.Given as goal

abbrev pub invariant-loop-place : goal.invariant-loop-place
invariant-loop-place l =
    let s = l.subject in
    record {
      long : length l.finishes.items ≡ l.place;
      along : Along (λ place v d. IsFinish l.table s.unfolded.now s.machine.now l.site.node v d) l.family l.finishes.items;
      pays : (earlier : ℕ) → earlier < l.place → FamilyPays (VectorPaysFinish s.unfolded.now s.machine.now s.classes.now s.certificate.now l.site.node) l.family earlier;
      site : IsSite l.table s.unfolded.now s.classes.now s.certificate.now l.site.node l.site.classes.now l.site.charged;
      right : IsRight l.table s.unfolded.now s.machine.now l.work;
      kept : Keeps l.fn.table l.table;
    }
