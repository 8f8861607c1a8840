use Rattle.net_gains.proofs.Coded.{cover_known, codes_gains, codes_literals, gaining_coded}
use Rattle.net_gains.proofs.code_laws.numbers_keep_gains.Goals as goal

pub returns-clause-gains : goal.returns-clause-gains
returns-clause-gains c = λ names cover cubes rising known all. codes_gains names rising cover cubes (cover_known names cover known) (cover_known names cubes all)

pub returns-clause-literals : goal.returns-clause-literals
returns-clause-literals c = λ names cover. codes_literals names cover

pub returns-clause-covers : goal.returns-clause-covers
returns-clause-covers c = λ names numbers cubes rising all h. gaining_coded names rising numbers cubes (cover_known names cubes all) h
