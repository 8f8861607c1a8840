use Rattle.net_gains.proofs.Carried.{map_sorted}
use Rattle.net_gains.proofs.Coded.{cube_known, cover_known, literals_keep, cubes_keep, codes_shared, codes_own, codes_sum}
use Rattle.net_gains.proofs.code_laws.numbers_keep_parts.Goals as goal

pub returns-clause-sorted_cubes : goal.returns-clause-sorted_cubes
returns-clause-sorted_cubes c = λ names cube rising known. map_sorted (literals_keep names rising) cube (cube_known names cube known)

pub returns-clause-sorted_covers : goal.returns-clause-sorted_covers
returns-clause-sorted_covers c = λ names cover rising known. map_sorted (cubes_keep names rising) cover (cover_known names cover known)

pub returns-clause-shared : goal.returns-clause-shared
returns-clause-shared c = λ names one other rising first second. codes_shared names rising one other (cube_known names one first) (cube_known names other second)

pub returns-clause-own : goal.returns-clause-own
returns-clause-own c = λ names one other rising first second. codes_own names rising one other (cube_known names one first) (cube_known names other second)

pub returns-clause-sum : goal.returns-clause-sum
returns-clause-sum c = λ names one other rising first second. codes_sum names rising one other (cube_known names one first) (cube_known names other second)
