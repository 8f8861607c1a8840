use Rattle.circuit_laws.proofs.Changes.{reduced_itself, reduced_through, removed_reduced, kept_reduced, chain_reduced}
use Rattle.circuit_laws.proofs.chain_laws.reducing_keeps.Goals as goal

pub returns-clause-itself : goal.returns-clause-itself
returns-clause-itself c = reduced_itself

pub returns-clause-through : goal.returns-clause-through
returns-clause-through c = reduced_through

pub returns-clause-removed : goal.returns-clause-removed
returns-clause-removed c = removed_reduced

pub returns-clause-kept : goal.returns-clause-kept
returns-clause-kept c = kept_reduced

pub returns-clause-chain : goal.returns-clause-chain
returns-clause-chain c = chain_reduced
