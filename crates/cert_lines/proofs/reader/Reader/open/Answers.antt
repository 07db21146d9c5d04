use Rattle.std.proofs.Common.{sym, ◌∙◌, arith}
use Rattle.cert_lines.specs.Table.{part_of}
use Rattle.cert_lines.proofs.ReaderLemmas.{opens_word}
use Rattle.cert_lines.proofs.reader.Reader.open.Goals as goal

pub returns-clause-ready : goal.returns-clause-ready
returns-clause-ready c = λ _.
    (omega arith, opens_word c.args.self.now.version (part_of c.args.last) c.in-Some.kind c.args.self.now.bytes.now c.args.at c.requires.more (sym c.opened.ensures ∙ c.in-Some.is))
