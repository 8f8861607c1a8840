use Rattle.std.proofs.Common.{◌≡◌, [], length}
use Rattle.std.specs.Vec.Iter.{into_iter_items, into_iter_len}
use Rattle.genlib_format.specs.Reader.{read_entries}
use Rattle.genlib_format.proofs.reading.read_entries.Given as goal

abbrev pub invariant-loop-entry : goal.invariant-loop-entry
invariant-loop-entry l = (read_entries l.count l.library (into_iter_items l.entry-iterator) ≡ read_entries 0 [] (into_iter_items l.initial.entry-iterator))
    × (into_iter_len l.entry-iterator ≡ length (into_iter_items l.entry-iterator))
