use Rattle.std.proofs.Common.{◌≡◌, arith, take, ◌∙◌, ap}
use Rattle.std.proofs.lemmas.List.{take_all}
use Rattle.cert_text.specs.Pool.{is_used}
use Rattle.cert_text.proofs.KeyLemmas.{strictly_sorted, listed_reordered}
use Rattle.cert_text.proofs.pool.Pool.new.Goals as goal

pub invariant_of-result : goal.invariant_of-result
invariant_of-result c = strictly_sorted (λ v. v.now) c.sort.new.self.keys (λ i d less. c.in_ok-sort.ensures.sorted i d (omega arith) less) c.in_ok-sort.ensures.unique

pub returns : goal.returns
returns c =
    let all : take c.loop-family.family-index c.args.families.now ≡ c.args.families.now = take_all c.loop-family.family-index c.args.families.now (omega (arith, c.loop-family-test.false)) in
    record {
      sorted = strictly_sorted (λ v. v.now) c.sort.new.self.keys (λ i d less. c.in_ok-sort.ensures.sorted i d (omega arith) less) c.in_ok-sort.ensures.unique;
      same = λ slots. listed_reordered (λ v. v.now) slots c.loop-family.vectors.keys c.sort.new.self.keys c.in_ok-sort.ensures.reordered.0 ∙ c.loop-family.invariant slots ∙ ap (is_used slots) all;
    }
