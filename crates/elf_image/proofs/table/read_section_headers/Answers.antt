use Rattle.std.proofs.Common.{◌+◌, ◌≤◌, length, ap, ◌∙◌, arith, below_more}
use Rattle.elf_image.specs.Causes.{SectionInFile}
use Rattle.elf_image.proofs.Sections.{refused_outside, section_more}
use Rattle.elf_image.proofs.table.read_section_headers.Goals.{then-at-bytes-via-then-at-bytes, then-at-bytes-via-else-at-bytes+then-bytes-at-lt-SECTION_HEADER_SIZE}
use Rattle.elf_image.proofs.table.read_section_headers.Goals as goal

pub returns-then-at-bytes-clause-refused : goal.returns-then-at-bytes-clause-refused
returns-then-at-bytes-clause-refused c =
    let b = c.args.bytes.now in
    let fields = ap (λ h. h.shentsize) c.requires.header_of in
    let count = ap (λ h. h.shnum) c.requires.header_of in
    let outside : c.loop-index.at + 40 ≤ length b → ⊥ = λ q. elim c.then-at-bytes.branch [ then-at-bytes-via-then-at-bytes w ↦ omega arith | then-at-bytes-via-else-at-bytes+then-bytes-at-lt-SECTION_HEADER_SIZE w ↦ omega arith ] in
    rw c.from-index.ensures (refused_outside b c.loop-index.index c.loop-index.at c.requires.before c.requires.named (omega arith) (omega arith) c.loop-index.invariant.in_file c.loop-index.invariant.place outside)

pub loop-index-preserved : goal.loop-index-preserved
loop-index-preserved c = record {
  place = omega arith;
  items = c.in_ok-push.ensures.items ∙ section_more c.args.bytes.now c.loop-index.index c.loop-index.at _ _ c.loop-index.invariant.items c.loop-index.invariant.place c.read_section_header.ensures;
  in_file = below_more (SectionInFile c.args.bytes.now) c.loop-index.index c.loop-index.invariant.in_file (omega arith);
}
