use Rattle.node_exits.proofs.StayLemmas.{keeps_self, pool_kept}
use Rattle.node_exits.proofs.work.Work.place_of.Goals as goal

pub returns-clause-right : goal.returns-clause-right
returns-clause-right c = λ nodes u m right. record {
  ends = c.kept_answers_stay.ensures.right nodes nodes c.args.self.now.pool c.intern.new.self m u c.args.self.now.memo (keeps_self nodes)
      (pool_kept c.kept_answers_stay.ensures.pool c.args.self.now.pool c.intern.new.self c.args.v.now c.intern.result c.intern.ensures.place c.intern.ensures.unchanged) right.ends;
}

pub returns-clause-kept : goal.returns-clause-kept
returns-clause-kept c = record {
  vectors = pool_kept c.kept_answers_stay.ensures.pool c.args.self.now.pool c.intern.new.self c.args.v.now c.intern.result c.intern.ensures.place c.intern.ensures.unchanged;
  answers = record { kept = λ number l is. is };
}
