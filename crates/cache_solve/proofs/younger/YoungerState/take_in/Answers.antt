use Rattle.cache_pers.specs.Stays.{younger_of}
use Rattle.cache_solve.proofs.Lowering.{not_decided, younger_joined_least, younger_joined_over, younger_joined_within, younger_lowered}
use Rattle.cache_solve.proofs.younger.YoungerState.take_in.Goals as goal

pub returns-clause-covers : goal.returns-clause-covers
returns-clause-covers c = (younger_joined_over c.args.self.now.lines (younger_of c.args.self.now) (younger_of c.args.other.now) (younger_of c.join.new.self) c.join.ensures.younger).1

pub returns-clause-grown : goal.returns-clause-grown
returns-clause-grown c = (younger_joined_over c.args.self.now.lines (younger_of c.args.self.now) (younger_of c.args.other.now) (younger_of c.join.new.self) c.join.ensures.younger).0

pub returns-clause-least : goal.returns-clause-least
returns-clause-least c joint p q =
    younger_joined_least c.args.self.now.lines (younger_of c.args.self.now) (younger_of c.args.other.now) (younger_of c.join.new.self) joint c.requires.within c.requires.other c.join.ensures.younger p q

pub returns-clause-within : goal.returns-clause-within
returns-clause-within c =
    younger_joined_within c.args.self.now.lines (younger_of c.args.self.now) (younger_of c.args.other.now) (younger_of c.join.new.self) c.requires.within c.requires.other c.join.ensures.younger

pub returns-clause-changed : goal.returns-clause-changed
returns-clause-changed c t =
    younger_lowered c.args.self.now c.args.other.now c.join.new.self c.requires.lines c.join.ensures.same.lines c.requires.other c.join.ensures.younger
    (not_decided c.leq.result c.leq.ensures c.if-leq.false)
