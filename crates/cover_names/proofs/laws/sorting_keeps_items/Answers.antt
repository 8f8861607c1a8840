use Rattle.cover_names.proofs.Orders.{literal_order, cube_order, cover_order}
use Rattle.cover_names.proofs.Sorts.{sorted_contains}
use Rattle.cover_names.proofs.laws.sorting_keeps_items.Goals as goal

pub returns-clause-cube : goal.returns-clause-cube
returns-clause-cube c = λ cube literal. sorted_contains literal_order cube literal

pub returns-clause-cover : goal.returns-clause-cover
returns-clause-cover c = λ cover cube. sorted_contains cube_order cover cube

pub returns-clause-covers : goal.returns-clause-covers
returns-clause-covers c = λ covers cover. sorted_contains cover_order covers cover
