use Rattle.std.proofs.Common.{◌≡◌, ◌++◌}
use Rattle.std.specs.Iterator.Adapters.{zip_first, zip_second}
use Rattle.std.specs.Slice.Iter.{iter_rest}
use Rattle.net_gains.specs.Numbers.{numbers_from}
use Rattle.net_gains.proofs.rows.numbers_over.Given as goal

abbrev pub invariant-loop-signal : goal.invariant-loop-signal
invariant-loop-signal l = l.numbers.items ++ numbers_from (iter_rest (zip_first l.signal-iterator)) (iter_rest (zip_second l.signal-iterator)) ≡ numbers_from l.signals l.row
