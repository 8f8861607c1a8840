use Rattle.std.proofs.Common.{ap, ◌∙◌}
use Rattle.net_core.specs.Places.{present}
use Rattle.net_core.proofs.Indexing.{different_indexed}
use Rattle.net_core.proofs.places.NamedTables.slots.Goals as goal

pub returns-clause-items : goal.returns-clause-items
returns-clause-items g c = ap present c.as_slice.ensures.value ∙ c.self.view_is

pub returns-clause-distinct : goal.returns-clause-distinct
returns-clause-distinct g c = rw c.as_slice.ensures.value (different_indexed c.self.inside.slots.items _ c.self.invariant.0)

pub returns-clause-over : goal.returns-clause-over
returns-clause-over g c = rw c.as_slice.ensures.value c.self.invariant.1
