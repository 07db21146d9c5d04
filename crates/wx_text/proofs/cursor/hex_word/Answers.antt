use Rattle.std.proofs.Common.{sym}
use Rattle.wx_text.proofs.DigitLemmas.{hex_short, hex_long}
use Rattle.wx_text.proofs.cursor.hex_word.Goals as goal

pub returns-then-bytes-lt8-clause-value : goal.returns-then-bytes-lt8-clause-value
returns-then-bytes-lt8-clause-value c = sym (hex_short c.args.bytes.now c.if-bytes-lt8.true)

pub returns-clause-value : goal.returns-clause-value
returns-clause-value c = hex_long c.args.bytes.now c.hex_number.result c.if-bytes-lt8.false c.hex_number.ensures
