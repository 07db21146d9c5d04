use Rattle.std.proofs.Common.{Result, Ok, Err, OnErr}
use Rattle.xdd_table.proofs.StoreLemmas.{node_eq, absent, Takes, takes, takes_holds, takes_table, takes_keeps, takes_time, takes_within}
use Rattle.xdd_table.proofs.table.store.Goals as goal
use Rattle.xdd_table.proofs.table.store.Goals.{In_ok-place}

-- how the set took the node
taken : (c : In_ok-place) → Takes c.args.nodes.now.keys c.insert_full.new.self.keys c.args.node c.in_ok-place.place
unfolding node_eq
taken c = let e = c.in_ok-place.ensures in takes c.args.nodes.now.keys c.insert_full.new.self.keys c.args.node e.stored.0 c.in_ok-place.place e.keys e.stored.1 e.stored.2 e.within

pub returns-clause-place : goal.returns-clause-place
returns-clause-place c = takes_holds c.args.nodes.now.keys c.args.node c.requires.table c.requires.shape c.insert_full.new.self.keys c.in_ok-place.place (taken c)

pub returns-clause-kept : goal.returns-clause-kept
returns-clause-kept c = takes_keeps c.args.nodes.now.keys c.args.node c.requires.table c.requires.shape c.insert_full.new.self.keys c.in_ok-place.place (taken c)

pub returns-clause-table : goal.returns-clause-table
returns-clause-table c = takes_table c.args.nodes.now.keys c.args.node c.requires.table c.requires.shape c.insert_full.new.self.keys c.in_ok-place.place (taken c)

pub returns-clause-times : goal.returns-clause-times
returns-clause-times c = λ f. takes_time c.args.nodes.now.keys c.args.node c.requires.table c.requires.shape c.insert_full.new.self.keys c.in_ok-place.place (taken c) f

pub returns-clause-within : goal.returns-clause-within
returns-clause-within c = takes_within c.args.nodes.now.keys c.args.node c.requires.table c.requires.shape c.insert_full.new.self.keys c.in_ok-place.place (taken c)

on_error : {A E : Type 0} (r : Result A E) (P : Type 0) → P → OnErr r P
on_error (Ok a) P p = tt
on_error (Err e) P p = p

pub returns-in_err-place-clause-absent : goal.returns-in_err-place-clause-absent
unfolding node_eq
returns-in_err-place-clause-absent c =
    on_error c.from_residual.result _ (record { none = absent c.args.node c.args.nodes.now.keys c.in_err-place.ensures.absent })
