use Rattle.cover_names.proofs.Orders.{literal_order, cube_order}
use Rattle.cover_names.proofs.Sorts.{sorted_told}
use Rattle.cover_names.proofs.laws.sorted_lists_are_told_by_their_items.Goals as goal

pub returns-clause-cubes : goal.returns-clause-cubes
returns-clause-cubes c = λ one other h. sorted_told literal_order one other h

pub returns-clause-covers : goal.returns-clause-covers
returns-clause-covers c = λ one other h. sorted_told cube_order one other h
