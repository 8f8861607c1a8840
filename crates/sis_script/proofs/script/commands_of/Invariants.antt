use Rattle.std.proofs.Common.{◌≡◌, take, map}
use Rattle.sis_text.specs.Entries.{entry_at}
use Rattle.sis_script.specs.Script.{command_of}
use Rattle.sis_script.proofs.script.commands_of.Given as goal

abbrev pub invariant-loop-piece : goal.invariant-loop-piece
invariant-loop-piece l = l.found ≡ map command_of (map (entry_at l.source) (take l.piece-index l.pieces))
