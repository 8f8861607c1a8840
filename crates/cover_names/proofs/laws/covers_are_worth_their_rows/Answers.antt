use Rattle.std.proofs.Common.{◌∙◌}
use Rattle.cover_names.proofs.Worth.{cover_over_worth}
use Rattle.cover_names.proofs.Back.{rows_over_worth, all_apart_in}
use Rattle.cover_names.proofs.laws.covers_are_worth_their_rows.Goals as goal

pub returns-clause-rows : goal.returns-clause-rows
returns-clause-rows c = λ names rows value. cover_over_worth value names rows

pub returns-clause-covers : goal.returns-clause-covers
returns-clause-covers c = λ names cover value apart over. rows_over_worth value names cover (all_apart_in cover ∙ apart) over
