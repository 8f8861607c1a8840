use Rattle.std.proofs.Common.{◌≡◌, map, drop, option_copied}
use Rattle.sis_text.specs.Entries.{entry_at}
use Rattle.blif_lines.specs.Steps.{take_entries}
use Rattle.blif_lines.proofs.reading.take_lines.Given as goal

abbrev pub invariant-loop-line : goal.invariant-loop-line
invariant-loop-line l = take_entries (option_copied l.library) l.draft (drop l.line-index (map (entry_at l.source) l.lines)) ≡ take_entries (option_copied l.library) l.fn.draft (map (entry_at l.source) l.lines)
