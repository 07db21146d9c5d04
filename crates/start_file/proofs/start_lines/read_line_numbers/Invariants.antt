use Rattle.std.proofs.Common.{◌<◌, ◌^◌, map}
use Rattle.wx_text.specs.Hexadecimal.{hex_word}
use Rattle.start_file.proofs.StartSoFar.{ReadSoFar}
use Rattle.start_file.proofs.start_lines.read_line_numbers.Given as goal

abbrev pub invariant-loop-word : goal.invariant-loop-word
invariant-loop-word l = ReadSoFar hex_word (λ n. n < 2 ^ 32) (map (λ w. w.now) l.words) l.word-index l.list.items
