use Rattle.circuit_laws.proofs.Changes.{extended_itself, extended_through, added_extended, chain_extended}
use Rattle.circuit_laws.proofs.chain_laws.extending_keeps.Goals as goal

pub returns-clause-itself : goal.returns-clause-itself
returns-clause-itself c = extended_itself

pub returns-clause-through : goal.returns-clause-through
returns-clause-through c = extended_through

pub returns-clause-added : goal.returns-clause-added
returns-clause-added c = added_extended

pub returns-clause-chain : goal.returns-clause-chain
returns-clause-chain c = chain_extended
