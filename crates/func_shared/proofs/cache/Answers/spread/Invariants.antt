use Rattle.std.proofs.Common.{◌≡◌}
use Rattle.func_shared.specs.Answers.{StayAnswers}
use Rattle.func_shared.proofs.cache.Answers.spread.Given as goal

abbrev pub invariant-loop-place : goal.invariant-loop-place
invariant-loop-place l = record {
  kept : StayAnswers l.initial.self l.self;
  count : l.self.count ≡ l.initial.self.count;
}
