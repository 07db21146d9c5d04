use Rattle.std.proofs.Common.{◌≡◌, ap, sym, ◌∙◌, arith}
use Rattle.elf_image.proofs.Headers.{refused_header, header_more, sound_more}
use Rattle.elf_image.proofs.load.read_program_headers.Goals.{else-header-ne0-via-then-header-ne0+else-header-ne-PROGRAM_HEADER_SIZE, else-header-ne0-via-else-header-ne0}
use Rattle.elf_image.proofs.load.read_program_headers.Goals as goal

pub returns-in-None-clause-refused : goal.returns-in-None-clause-refused
returns-in-None-clause-refused c =
    let b = c.args.bytes.now in
    let fields = ap (λ h. h.phentsize) c.requires.header_of in
    let count = ap (λ h. h.phnum) c.requires.header_of in
    let sized : c.args.header.now.phentsize ≡ 32 = elim c.else-header-ne0.branch [ else-header-ne0-via-then-header-ne0+else-header-ne-PROGRAM_HEADER_SIZE w ↦ omega arith | else-header-ne0-via-else-header-ne0 w ↦ omega arith ] in
    rw c.from-index.ensures (refused_header b c.loop-index.index c.loop-index.at c.requires.before (sym fields ∙ sized) (omega arith) c.loop-index.invariant.sound c.loop-index.invariant.place c.in-None.ensures)

pub loop-index-preserved : goal.loop-index-preserved
loop-index-preserved c = record {
  place = omega arith;
  items = c.in_ok-push-in-Some.ensures.items ∙ header_more c.args.bytes.now c.loop-index.index c.loop-index.at _ c.in-Some.program_header c.loop-index.invariant.items c.loop-index.invariant.place c.in-Some.ensures.1;
  sound = sound_more c.args.bytes.now c.loop-index.index c.loop-index.at c.loop-index.invariant.sound c.loop-index.invariant.place c.in-Some.ensures.0;
}
