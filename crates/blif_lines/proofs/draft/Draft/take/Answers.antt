use Rattle.std.proofs.Common.{arith}
use Rattle.std.proofs.lemmas.Grind.{common_steps}
use Rattle.blif_lines.specs.Keyword.{kind_of}
use Rattle.blif_lines.specs.Steps.{take_as, take_entry}
use Rattle.blif_lines.proofs.draft.Draft.take.Goals as goal

pub returns-in-Other : goal.returns-in-Other
unfolding take_as take_entry kind_of
returns-in-Other c = grind (arith, common_steps)
