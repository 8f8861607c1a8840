use Rattle.std.proofs.Common.{refl, ap}
use Rattle.net_core.specs.Places.{present}
use Rattle.net_core.proofs.Indexing.{indexed_nothing, over_nothing}
use Rattle.net_core.proofs.places.NamedTables.new.Goals as goal

pub returns : goal.returns
unfolding present
returns g c = ap present c.new.ensures.items

pub invariant_of-result : goal.invariant_of-result
invariant_of-result g c = rw c.new.ensures.items (indexed_nothing _ (λ q. rw c.new-2.ensures.empty refl), over_nothing _)
