use Rattle.std.proofs.Common.{◌≡◌, ◌-◌, length, drop, take, sym, ap, ◌∙◌, arith, length-drop}
use Rattle.std.proofs.lemmas.List.{drop-map, take_all}
use Rattle.cert_lines.specs.Reading.{line_of, lines_of}
use Rattle.cert_items.specs.Order.{leading}
use Rattle.cert_items.proofs.order.leading_behind.Goals as goal

pub returns : goal.returns
returns c =
    let rows = c.args.rows.now in
    let n = length-drop c.args.count rows in
    let all : take (length rows - c.args.count) (drop c.args.count rows) ≡ drop c.args.count rows = take_all (length rows - c.args.count) (drop c.args.count rows) (omega (arith, n)) in
    c.leading.ensures ∙ ap (λ l. leading c.args.kind (lines_of l)) all ∙ ap (leading c.args.kind) (sym (drop-map line_of c.args.count rows))
