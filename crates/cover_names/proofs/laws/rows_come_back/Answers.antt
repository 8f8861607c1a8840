use Rattle.cover_names.proofs.Back.{row_back, sorted_row_back, rows_back}
use Rattle.cover_names.proofs.laws.rows_come_back.Goals as goal

pub returns-clause-row : goal.returns-clause-row
returns-clause-row c = λ names row h width. row_back names row h width

pub returns-clause-sorted : goal.returns-clause-sorted
returns-clause-sorted c = λ names row h width. sorted_row_back names row h width

pub returns-clause-rows : goal.returns-clause-rows
returns-clause-rows c = λ names rows row h wide. rows_back names rows h wide row
