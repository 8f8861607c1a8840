use Rattle.net_func.specs.Numbering.{number_in}
use Rattle.net_func.specs.Kept.{IsUnreached}
use Rattle.net_func.proofs.unreached.take_all_over.Given as goal

-- what has been copied so far
abbrev pub invariant-loop-signal : goal.invariant-loop-signal
invariant-loop-signal l =
    IsUnreached l.tables l.name (number_in l.numbers) (number_in l.unreached)
