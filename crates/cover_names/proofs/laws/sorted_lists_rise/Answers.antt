use Rattle.cover_names.proofs.Orders.{literal_order, cube_order, cover_order}
use Rattle.cover_names.proofs.Sorting.{sorted_rises}
use Rattle.cover_names.proofs.laws.sorted_lists_rise.Goals as goal

pub returns-clause-cube : goal.returns-clause-cube
returns-clause-cube c = λ cube. sorted_rises literal_order cube

pub returns-clause-cover : goal.returns-clause-cover
returns-clause-cover c = λ cover. sorted_rises cube_order cover

pub returns-clause-covers : goal.returns-clause-covers
returns-clause-covers c = λ covers. sorted_rises cover_order covers
