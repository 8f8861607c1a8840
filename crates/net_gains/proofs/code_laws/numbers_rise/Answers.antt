use Rattle.std.proofs.Common.{◌*◌, length, lt-ltb}
use Rattle.net_gains.specs.Codes.{code_of}
use Rattle.net_gains.proofs.Carried.{map_rises}
use Rattle.net_gains.proofs.Coded.{cube_known, cover_known, literals_keep, cubes_keep}
use Rattle.net_gains.proofs.Places.{code_below}
use Rattle.net_gains.proofs.code_laws.numbers_rise.Goals as goal

pub returns-clause-within : goal.returns-clause-within
returns-clause-within c = λ names literal h. lt-ltb (code_of names literal) (2 * length names) (code_below names literal h)

pub returns-clause-cube : goal.returns-clause-cube
returns-clause-cube c = λ names cube rising known h. map_rises (literals_keep names rising) cube (cube_known names cube known) h

pub returns-clause-cover : goal.returns-clause-cover
returns-clause-cover c = λ names cover rising known h. map_rises (cubes_keep names rising) cover (cover_known names cover known) h
