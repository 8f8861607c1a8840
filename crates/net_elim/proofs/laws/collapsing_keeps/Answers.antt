use Rattle.net_elim.proofs.Gathered.{collapse_reduced, collapse_refines, collapse_finished}
use Rattle.net_elim.proofs.laws.collapsing_keeps.Goals as goal

pub returns-clause-kept : goal.returns-clause-kept
returns-clause-kept c = collapse_reduced

pub returns-clause-refines : goal.returns-clause-refines
returns-clause-refines c = collapse_refines

pub returns-clause-finished : goal.returns-clause-finished
returns-clause-finished c = collapse_finished
