use Rattle.std.proofs.Common.{◌≡◌, true, take}
use Rattle.std.specs.List.{AllPairs}
use Rattle.cache_class.specs.Chains.{AreChains, HasWithin}
use Rattle.cache_class.proofs.chains.push_all.Given as goal

abbrev pub invariant-loop-number : goal.invariant-loop-number
invariant-loop-number l = record {
  made : AreChains l.u (take l.number-index l.order) l.chains;
  nested : l.are_nested ≡ true → AllPairs (HasWithin l.u) (take l.number-index l.order);
}
