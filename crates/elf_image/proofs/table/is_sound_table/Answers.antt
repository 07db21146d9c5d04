use Rattle.std.proofs.Common.{subst, sym, arith}
use Rattle.elf_image.specs.Causes.{NamesEndWithin}
use Rattle.elf_image.proofs.table.is_sound_table.Goals as goal

pub returns : goal.returns
returns c =
    let P = NamesEndWithin c.args.bytes.now c.args.section.now in (
      λ t. record {
        entries = omega arith;
        whole = omega arith;
        in_file = c.lies_in_file.ensures.0 c.if-not-lies_in_file.false;
        strings = c.has_strings.ensures.0 c.if-not-has_strings.false;
        names = subst P c.string_table.ensures (c.names_end.ensures.0 t);
      },
      λ h. c.names_end.ensures.1 (subst P (sym c.string_table.ensures) h.names),
    )
