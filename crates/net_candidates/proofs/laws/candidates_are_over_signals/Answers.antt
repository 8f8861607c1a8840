use Rattle.std.proofs.Common.{sym, ◌∙◌}
use Rattle.circuit_model.specs.Soundness.{given}
use Rattle.cover_names.proofs.Back.{all_apart_in}
use Rattle.net_candidates.proofs.Usable.{candidate_usable, tables_read}
use Rattle.net_candidates.proofs.laws.candidates_are_over_signals.Goals as goal

pub returns-clause-over : goal.returns-clause-over
returns-clause-over c rule circuit cover sound is = (candidate_usable rule (given circuit) circuit.tables cover (tables_read circuit sound) is).over

pub returns-clause-apart : goal.returns-clause-apart
returns-clause-apart c rule circuit cover sound is =
    sym (all_apart_in cover) ∙ (candidate_usable rule (given circuit) circuit.tables cover (tables_read circuit sound) is).apart
