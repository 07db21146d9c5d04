use Rattle.std.proofs.Common.{refl, length}
use Rattle.elf_image.specs.declared.error.ElfError.TheVariants.{Overlap}
use Rattle.elf_image.specs.Overlaps.{IsLeastMeeting, NoneMeet, header_in}
use Rattle.elf_image.proofs.Headers.{refusal_after}
use Rattle.elf_image.proofs.Loaded.{least_in_file, none_meet_in_file, passes_overlaps}
use Rattle.elf_image.proofs.overlap.read_apart_headers.Goals as goal

pub returns-in-None-clause-passes : goal.returns-in-None-clause-passes
returns-in-None-clause-passes c =
    let none : NoneMeet (header_in c.in_ok-headers.headers.items) (length c.in_ok-headers.headers.items) = rw (c.deref.ensures.value, c.in-None.is) at c.in_ok-find_overlap.ensures in
    passes_overlaps c.args.bytes.now c.in_ok-headers.ensures.passes (none_meet_in_file c.args.bytes.now c.in_ok-headers.headers.items c.in_ok-headers.ensures.headers none)

pub returns-in-None-clause-apart : goal.returns-in-None-clause-apart
returns-in-None-clause-apart c =
    let none : NoneMeet (header_in c.in_ok-headers.headers.items) (length c.in_ok-headers.headers.items) = rw (c.deref.ensures.value, c.in-None.is) at c.in_ok-find_overlap.ensures in
    none_meet_in_file c.args.bytes.now c.in_ok-headers.headers.items c.in_ok-headers.ensures.headers none

pub returns-in-Some-clause-refused : goal.returns-in-Some-clause-refused
returns-in-Some-clause-refused c =
    let least : IsLeastMeeting (header_in c.in_ok-headers.headers.items) (length c.in_ok-headers.headers.items) c.in-Some.a c.in-Some.b = rw (c.deref.ensures.value, c.in-Some.is) at c.in_ok-find_overlap.ensures in
    refusal_after c.args.bytes.now (Overlap c.in-Some.a c.in-Some.b) 7 c.in_ok-headers.ensures.passes refl (least_in_file c.args.bytes.now c.in_ok-headers.headers.items c.in-Some.a c.in-Some.b c.in_ok-headers.ensures.headers least)
