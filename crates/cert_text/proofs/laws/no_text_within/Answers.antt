use Rattle.cert_text.proofs.laws.no_text_within.Goals as goal

pub returns : goal.returns
returns c = λ d e bytes more some t u. c.no_lines_within.ensures t.version u.version t.lines u.lines bytes more some t.text u.text
