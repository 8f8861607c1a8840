use Rattle.alg_tables.proofs.Divisions.{divided_output, divided_shaped, divided_once}
use Rattle.alg_tables.proofs.CoverTables.{divided_reads, divided_fits}
use Rattle.alg_tables.proofs.laws.divided_tables_are_shaped.Goals as goal

pub returns-clause-output : goal.returns-clause-output
returns-clause-output c = divided_output

pub returns-clause-shaped : goal.returns-clause-shaped
returns-clause-shaped c = divided_shaped

pub returns-clause-once : goal.returns-clause-once
returns-clause-once c = divided_once

pub returns-clause-reads : goal.returns-clause-reads
returns-clause-reads c = divided_reads

pub returns-clause-fits : goal.returns-clause-fits
returns-clause-fits c = divided_fits
