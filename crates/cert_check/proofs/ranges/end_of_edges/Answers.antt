use Rattle.cert_check.proofs.ranges.end_of_edges.Goals as goal

pub end_of-requires-clause-order : goal.end_of-requires-clause-order
end_of-requires-clause-order c = rw c.as_slice.ensures c.requires.order

pub end_of-requires-clause-cut : goal.end_of-requires-clause-cut
end_of-requires-clause-cut c = rw c.as_slice.ensures c.requires.cut

pub returns : goal.returns
returns c = rw c.as_slice.ensures at c.end_of.ensures
