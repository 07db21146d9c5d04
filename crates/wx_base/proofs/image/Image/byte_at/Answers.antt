use Rattle.std.proofs.Common.{◌≡◌, ap, sym, ◌∙◌}
use Rattle.std.specs.Prelude.{find, is_some}
use Rattle.wx_base.specs.declared.image.Segment.{Segment}
use Rattle.wx_base.specs.Image.{spans}
use Rattle.wx_base.proofs.Covered.{covered_if_found, found-copied, found_if_covered}
use Rattle.wx_base.proofs.image.Image.byte_at.Goals as goal

pub returns-clause-found : goal.returns-clause-found
returns-clause-found c =
    let image = c.args.self.now in
    let addr = c.args.addr in
    let e : is_some c.map.result ≡ is_some (find (λ (s : Segment). spans addr s) image.segments) = c.map.ensures.variant ∙ found-copied c.segment_at.result ∙ ap is_some c.segment_at.ensures in
    (λ h. covered_if_found image addr (sym e ∙ h), λ w. e ∙ found_if_covered image addr w)
