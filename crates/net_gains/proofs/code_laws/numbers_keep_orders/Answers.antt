use Rattle.net_gains.proofs.Coded.{cube_known, cover_known, literals_keep, cubes_keep, covers_keep}
use Rattle.net_gains.proofs.code_laws.numbers_keep_orders.Goals as goal

pub returns-clause-literals : goal.returns-clause-literals
returns-clause-literals c = λ names one other rising first second. (literals_keep names rising).at one other first second

pub returns-clause-cubes : goal.returns-clause-cubes
returns-clause-cubes c = λ names one other rising first second. (cubes_keep names rising).at one other (cube_known names one first) (cube_known names other second)

pub returns-clause-covers : goal.returns-clause-covers
returns-clause-covers c = λ names one other rising first second. (covers_keep names rising).at one other (cover_known names one first) (cover_known names other second)
