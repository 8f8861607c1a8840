use Rattle.sdc_simplify.proofs.Minimal.{minimized_value, minimum_agreeing, minimum_primes, minimum_needed, minimized_output, minimized_reads}
use Rattle.sdc_simplify.proofs.laws.minimized_tables_are_minimal.Goals as goal

pub returns-clause-value : goal.returns-clause-value
returns-clause-value c = minimized_value

pub returns-clause-agrees : goal.returns-clause-agrees
returns-clause-agrees c = minimum_agreeing

pub returns-clause-prime : goal.returns-clause-prime
returns-clause-prime c = minimum_primes

pub returns-clause-irredundant : goal.returns-clause-irredundant
returns-clause-irredundant c = minimum_needed

pub returns-clause-output : goal.returns-clause-output
returns-clause-output c = minimized_output

pub returns-clause-reads : goal.returns-clause-reads
returns-clause-reads c = minimized_reads
