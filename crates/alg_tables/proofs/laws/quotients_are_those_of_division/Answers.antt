use Rattle.alg_tables.proofs.Quotients.{quotient_is, quotient_found}
use Rattle.alg_tables.proofs.laws.quotients_are_those_of_division.Goals as goal

pub returns-clause-is : goal.returns-clause-is
returns-clause-is c = quotient_is

pub returns-clause-one : goal.returns-clause-one
returns-clause-one c = quotient_found
