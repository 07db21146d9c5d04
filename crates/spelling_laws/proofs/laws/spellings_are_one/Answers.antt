use Rattle.spelling_laws.proofs.Spellings.{one_byte, one_decimal, one_word}
use Rattle.spelling_laws.proofs.laws.spellings_are_one.Goals as goal

pub returns-clause-decimal : goal.returns-clause-decimal
returns-clause-decimal c = one_decimal

pub returns-clause-word : goal.returns-clause-word
returns-clause-word c = one_word

pub returns-clause-byte : goal.returns-clause-byte
returns-clause-byte c = one_byte
