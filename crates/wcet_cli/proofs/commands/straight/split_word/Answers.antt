use Rattle.std.proofs.Common.{ℕ, ◌<◌, get_or, arith}
use Rattle.wcet_cli.proofs.Words.{word_first}
use Rattle.wcet_cli.proofs.commands.straight.split_word.Goals as goal

pub returns : goal.returns
returns c =
    let cases = c.in_ok-word.ensures.cases in
    let small : (i : ℕ) → get_or c.args.bytes.now i 0 < 256 = λ i. omega (arith, c.type_inv.bytes i) in
    (word_first c.args.bytes.now _ _ _ small (omega arith) cases.0 cases.1 c.from_le_bytes.ensures, omega arith)
