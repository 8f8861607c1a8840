use Rattle.cover_names.proofs.Worth.{sorted_cube_worth, sorted_cover_worth}
use Rattle.cover_names.proofs.laws.sorting_keeps_values.Goals as goal

pub returns-clause-cube : goal.returns-clause-cube
returns-clause-cube c = λ cube value. sorted_cube_worth value cube

pub returns-clause-cover : goal.returns-clause-cover
returns-clause-cover c = λ cover value. sorted_cover_worth value cover
