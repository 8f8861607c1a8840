use Rattle.std.proofs.Common.{sym, ◌∙◌}
use Rattle.library_trials.proofs.trees.cover_circuit.Goals as goal

pub cover_trees-requires-clause-patterns : goal.cover_trees-requires-clause-patterns
cover_trees-requires-clause-patterns c =
    c.sound_libraries_cover_trees.ensures _ _ _ c.in_ok-patterns.ensures c.requires.library (sym c.covers_all.ensures ∙ c.in-Ok.is)
