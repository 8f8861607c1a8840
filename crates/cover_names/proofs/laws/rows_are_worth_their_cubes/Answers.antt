use Rattle.std.proofs.Common.{true, ap, sym, ◌∙◌, append-nil}
use Rattle.std.proofs.lemmas.Bool.{and_parts}
use Rattle.circuit_model.specs.Names.{all_different}
use Rattle.cover_names.proofs.Worth.{cube_over_worth, row_over_worth, names_of}
use Rattle.cover_names.proofs.laws.rows_are_worth_their_cubes.Goals as goal

pub returns-clause-cubes : goal.returns-clause-cubes
returns-clause-cubes c = λ names row value. cube_over_worth value names row

pub returns-clause-rows : goal.returns-clause-rows
returns-clause-rows c = λ names cube value apart over. row_over_worth value names cube (ap all_different (sym (append-nil (names_of cube))) ∙ apart) (and_parts _ true over).0
