use Rattle.cover_names.proofs.Orders.{cube_order, cover_order}
use Rattle.net_gains.proofs.Carried.{same_items}
use Rattle.net_gains.proofs.Coded.{cube_known, cover_known, cubes_keep, covers_keep, numbers_order, number_lists_order}
use Rattle.net_gains.proofs.code_laws.numbers_tell_apart.Goals as goal

pub returns-clause-cubes : goal.returns-clause-cubes
returns-clause-cubes c = λ names one other rising first second e.
    same_items (cubes_keep names rising) cube_order numbers_order.total one other (cube_known names one first) (cube_known names other second) e

pub returns-clause-covers : goal.returns-clause-covers
returns-clause-covers c = λ names one other rising first second e.
    same_items (covers_keep names rising) cover_order number_lists_order.total one other (cover_known names one first) (cover_known names other second) e
