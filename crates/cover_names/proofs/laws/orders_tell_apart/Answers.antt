use Rattle.cover_names.proofs.Orders.{cube_order, cover_order}
use Rattle.cover_names.proofs.laws.orders_tell_apart.Goals as goal

pub returns-clause-cubes : goal.returns-clause-cubes
returns-clause-cubes c = cube_order.total

pub returns-clause-same_cubes : goal.returns-clause-same_cubes
returns-clause-same_cubes c = λ one other h. cube_order.same one other h

pub returns-clause-covers : goal.returns-clause-covers
returns-clause-covers c = cover_order.total

pub returns-clause-same_covers : goal.returns-clause-same_covers
returns-clause-same_covers c = λ one other h. cover_order.same one other h
