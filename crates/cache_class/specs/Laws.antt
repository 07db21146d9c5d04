-- What is said of classes and groups. This project's own.
use Rattle.std.specs.Prelude.{◌≡◌, List}
use Rattle.wx_base.specs.declared.machine.Machine.{Machine}
use Rattle.flow_graph.specs.declared.program.Program.{Program}
use Rattle.flow_ctx.specs.declared.unfolded.Unfolded.{Unfolded}
use Rattle.flow_ctx.specs.Unfolding.{IsUnfolding}
use Rattle.cache_flow.specs.declared.flow.Flow.{Flow}
use Rattle.cache_flow.specs.Flows.{IsFlow}
use Rattle.cache_class.specs.declared.class.Classes.{Classes}
use Rattle.cache_class.specs.declared.group.Group.{Group}
use Rattle.cache_class.specs.Accesses.{IsFlowOf}
use Rattle.cache_class.specs.Classes.{AreClasses}
use Rattle.cache_class.specs.Groups.{AreGroups}

-- an unfolding has one table of classes on a machine
abbrev pub ClassesAreOne : Type 0
ClassesAreOne = (u : Unfolded) (machine : Machine) (table other : Classes) → AreClasses u machine table → AreClasses u machine other
    → table ≡ other

-- a table has one list of groups
abbrev pub GroupsAreOne : Type 0
GroupsAreOne = (u : Unfolded) (table : Classes) (groups others : List Group) → AreGroups u table groups → AreGroups u table others
    → groups ≡ others

-- the flow of an unfolding is one: its moves lead from nodes to nodes, and its lines are those of its nodes
abbrev pub UnfoldingsFlow : Type 0
UnfoldingsFlow = (program : Program) (u : Unfolded) (flow : Flow) → IsUnfolding program u → IsFlowOf u flow → IsFlow flow
