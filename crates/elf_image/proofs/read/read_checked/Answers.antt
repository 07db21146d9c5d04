use Rattle.std.proofs.Common.{List, refl, subst, sym, ap, ◌∙◌}
use Rattle.std.specs.Prelude.{filter, map}
use Rattle.elf_image.specs.declared.fields.ProgramHeader.{ProgramHeader}
use Rattle.elf_image.specs.Fields.{fills}
use Rattle.elf_image.specs.Meaning.{AreLoaded, segment}
use Rattle.elf_image.proofs.Loaded.{loaded, sound_loads}
use Rattle.elf_image.proofs.read.read_checked.Goals as goal

pub load_segments-requires : goal.load_segments-requires
load_segments-requires c =
    sound_loads c.args.bytes.now c.deref.result.now (c.deref.ensures.value ∙ c.in_ok-headers.ensures.headers) c.in_ok-headers.ensures.sound

pub returns-clause-loaded : goal.returns-clause-loaded
returns-clause-loaded c =
    let b = c.args.bytes.now in
    let same = c.new.ensures ∙ c.in_ok-load_segments.ensures ∙ ap (λ (hs : List ProgramHeader). map (segment b) (filter fills hs)) (c.deref.ensures.value ∙ c.in_ok-headers.ensures.headers) in
    subst AreLoaded (sym same) (loaded b (sound_loads b _ refl c.in_ok-headers.ensures.sound) c.in_ok-headers.ensures.apart)
