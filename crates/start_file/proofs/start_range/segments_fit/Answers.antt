use Rattle.std.proofs.Common.{◌∙◌, ap, arith}
use Rattle.std.proofs.lemmas.List.{get_or_read}
use Rattle.wx_base.specs.declared.image.Segment.{Segment}
use Rattle.start_file.proofs.StartBytes.{one_more}
use Rattle.start_file.proofs.start_range.segments_fit.Goals as goal

pub loop-segment-init : goal.loop-segment-init
loop-segment-init c = record { each = λ i d lt. absurd (omega arith) }

pub loop-segment-preserved : goal.loop-segment-preserved
loop-segment-preserved c =
    one_more c.args.segments.now c.loop-segment.segment-index c.as_bytes.result.now c.loop-segment.invariant
    (λ d. c.as_bytes.ensures ∙ ap (λ (s : Segment). s.bytes) (get_or_read c.args.segments.now c.loop-segment.segment-index c.segment-item.result c.loop-segment-test.true c.segment-item.is d))
    c.bytes_fit.ensures

pub returns : goal.returns
returns c = λ k d lt. c.loop-segment.invariant.each k d (omega arith)
