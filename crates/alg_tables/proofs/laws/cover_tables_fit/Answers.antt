use Rattle.alg_tables.proofs.CoverTables.{cover_table_reads, cover_table_fits, law_cover}
use Rattle.alg_tables.proofs.laws.cover_tables_fit.Goals as goal

pub returns-clause-reads : goal.returns-clause-reads
returns-clause-reads c = cover_table_reads

pub returns-clause-fits : goal.returns-clause-fits
returns-clause-fits c = λ circuit name cover. cover_table_fits name cover circuit

pub returns-clause-value : goal.returns-clause-value
returns-clause-value c = law_cover
