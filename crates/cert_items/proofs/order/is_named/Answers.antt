use Rattle.std.proofs.Common.{◌<◌, length, ap, ◌∙◌, arith}
use Rattle.std.proofs.lemmas.List.{length-map}
use Rattle.std.proofs.lemmas.List.Sums.{count_by-le-length}
use Rattle.cert_lines.specs.Reading.{line_of, lines_of}
use Rattle.cert_items.specs.Order.{is_listed, is_named}
use Rattle.cert_items.proofs.order.is_named.Goals as goal

pub returns : goal.returns
returns c =
    let rows = c.args.rows.now in
    let n = count_by-le-length is_listed c.args.items.now in
    let size = length-map rows line_of in
    let small : c.args.counts.listed < length (lines_of rows) = omega (arith, c.requires.counts.listed, n, c.requires.room, size) in
    c.requires.marks.each c.args.counts.listed small ∙ ap (is_named (lines_of rows)) c.requires.counts.listed
