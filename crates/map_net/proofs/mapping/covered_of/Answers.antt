use Rattle.std.proofs.Common.{sym, ◌∙◌}
use Rattle.tree_cover.proofs.EachGate.{covers_trees}
use Rattle.map_net.proofs.Parting.{memory_covers, lacks, covers_by}
use Rattle.map_net.proofs.mapping.covered_of.Goals as goal

pub returns-in_err-library_patterns : goal.returns-in_err-library_patterns
returns-in_err-library_patterns c =
    memory_covers c.args.circuit.now c.args.library.now c.from_residual.result
    c.from_residual.ensures.1

pub returns-in_err-covers_all : goal.returns-in_err-covers_all
returns-in_err-covers_all c =
    lacks c.args.circuit.now c.args.library.now c.in_ok-library_patterns.field-0
    c.in_err-covers_all.field-0.0 c.from_residual-in_err-covers_all.result
    c.in_ok-library_patterns.ensures (sym c.covers_all.ensures ∙ c.in_err-covers_all.was)
    c.from_residual-in_err-covers_all.ensures.1

pub covered_by-requires-clause-library : goal.covered_by-requires-clause-library
covered_by-requires-clause-library c =
    covers_trees _ _ _ c.in_ok-library_patterns.ensures c.requires.library.each
    (sym c.covers_all.ensures ∙ c.in_ok-covers_all.was)

pub returns : goal.returns
returns c =
    covers_by c.args.circuit.now c.args.library.now c.in_ok-library_patterns.field-0
    c.covered_by.result c.in_ok-library_patterns.ensures
    (sym c.covers_all.ensures ∙ c.in_ok-covers_all.was) c.covered_by.ensures.ok
    c.covered_by.ensures.err
