use Rattle.std.proofs.Common.{◌≡◌, ◌++◌, ◌-◌}
use Rattle.genlib_format.specs.Entries.{entries_within}
use Rattle.genlib_format.proofs.entries.entries_of.Given as goal

abbrev pub invariant-loop-entry : goal.invariant-loop-entry
invariant-loop-entry l = l.found.items ++ entries_within (l.count - l._entry) l.rest ≡ entries_within l.count l.fn.words.items
