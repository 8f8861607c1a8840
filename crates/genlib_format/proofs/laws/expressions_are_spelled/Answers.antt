use Rattle.genlib_format.proofs.Spelled.{spelled_is_formula, formula_is_spelled}
use Rattle.genlib_format.proofs.Spelled.{spelled_is_read, read_is_formula, told_alone}
use Rattle.genlib_format.proofs.laws.expressions_are_spelled.Goals as goal

pub returns-clause-alone : goal.returns-clause-alone
returns-clause-alone c = told_alone

pub returns-clause-formula : goal.returns-clause-formula
returns-clause-formula c text e = (spelled_is_formula text e, formula_is_spelled text e)

pub returns-clause-nodes : goal.returns-clause-nodes
returns-clause-nodes c text e = (spelled_is_read text e, read_is_formula text e)
