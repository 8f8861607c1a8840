use Rattle.std.proofs.Common.{sym, ◌∙◌}
use Rattle.cover_names.specs.Cubes.{cover_over}
use Rattle.cover_names.proofs.Back.{cover_over_is_over, cover_over_apart, all_apart_in}
use Rattle.cover_names.proofs.laws.covers_keep_to_their_names.Goals as goal

pub returns-clause-over : goal.returns-clause-over
returns-clause-over c = λ names rows. cover_over_is_over names rows

pub returns-clause-apart : goal.returns-clause-apart
returns-clause-apart c = λ names rows h. sym (all_apart_in (cover_over names rows)) ∙ cover_over_apart names rows h
