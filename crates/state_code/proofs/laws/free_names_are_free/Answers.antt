use Rattle.state_code.proofs.FreeNames.{length-free, free_differ, free_unused}
use Rattle.state_code.proofs.laws.free_names_are_free.Goals as goal

pub returns-clause-enough : goal.returns-clause-enough
returns-clause-enough c = length-free

pub returns-clause-differ : goal.returns-clause-differ
returns-clause-differ c = free_differ

pub returns-clause-unused : goal.returns-clause-unused
returns-clause-unused c = free_unused
