use Rattle.std.proofs.Common.{subst}
use Rattle.wx_base.specs.declared.machine.Shape.{Shape}
use Rattle.cache_ages.specs.Bounds.{may_ages, AreAges}
use Rattle.cache_solve.proofs.Lowering.{may_joined_least, may_joined_over, may_lowered, may_within, not_decided}
use Rattle.cache_solve.proofs.may.MayState.take_in.Goals as goal

pub returns-clause-covers : goal.returns-clause-covers
returns-clause-covers c = (may_joined_over c.args.self.now.lines (may_ages c.args.self.now) (may_ages c.args.other.now) (may_ages c.join.new.self) c.join.ensures.ages).1

pub returns-clause-grown : goal.returns-clause-grown
returns-clause-grown c = (may_joined_over c.args.self.now.lines (may_ages c.args.self.now) (may_ages c.args.other.now) (may_ages c.join.new.self) c.join.ensures.ages).0

pub returns-clause-least : goal.returns-clause-least
returns-clause-least c joint p q = may_joined_least c.args.self.now.lines (may_ages c.args.self.now) (may_ages c.args.other.now) (may_ages c.join.new.self) joint c.join.ensures.ages p q

pub returns-clause-within : goal.returns-clause-within
returns-clause-within c =
    subst (λ (s : Shape). AreAges s (may_ages c.join.new.self)) c.join.ensures.same.shape (may_within c.join.new.self c.are_bounds-3.ensures)

pub returns-clause-changed : goal.returns-clause-changed
returns-clause-changed c t =
    may_lowered c.args.self.now c.args.other.now c.join.new.self c.requires.lines c.join.ensures.same.lines c.join.ensures.ages
    (not_decided c.leq.result c.leq.ensures c.if-leq.false)
