use Rattle.std.proofs.Common.{◌≡◌, ◌+◌, reverse, length}
use Rattle.func_shared.specs.Answers.{made, turn_cost, stack_cost}
use Rattle.func_shared.proofs.Working.{IsWorking}
use Rattle.func_shared.proofs.answering.answer.Given as goal

abbrev pub invariant-turns : goal.invariant-turns
invariant-turns l = record {
  works : IsWorking l.initial.table l.table l.answers l.operation
      (made l.initial.table l.operation l.fn.goal) l.frames.items l.turn;
  start : l.start ≡ length l.initial.table;
}

abbrev pub decreases-turns : goal.decreases-turns
decreases-turns l = turn_cost l.turn + stack_cost (reverse l.frames.items)
