use Rattle.std.proofs.Common.{◌+◌, ◌<◌, reverse, sym, ap, ◌∙◌, arith}
use Rattle.std.proofs.lemmas.List.{nil_from_length}
use Rattle.func_shared.specs.Answers.{made, turn_cost, stack_cost}
use Rattle.func_shared.proofs.Growing.{grows_through, length_grows}
use Rattle.func_shared.proofs.Working.{IsWorking, begins, asked_on, top_frame, resumed_added, resumed_on, works_same, gives_whole, too_big, asked_falls, resumed_falls}
use Rattle.func_shared.proofs.answering.answer.Goals as goal
use Rattle.func_shared.proofs.answering.answer.Goals.{After-len, in-Asks+in_ok-turn-in-Asks, in-Gives+in-Some+in_ok-turn-in-Some}

pub turns-init : goal.turns-init
turns-init c = record {
  works = begins c.args.table.now c.args.answers.now c.args.operation c.args.goal
      c.new-frames.result.items c.new-frames.ensures.items
      (c.requires.left, c.requires.right) c.requires.answers;
  start = c.len-start.ensures;
}

pub ask-requires-clause-numbers : goal.ask-requires-clause-numbers
ask-requires-clause-numbers c = rw c.in-Asks.is at c.turns.invariant.works.numbers

pub ask-requires-clause-answers : goal.ask-requires-clause-answers
ask-requires-clause-answers c = c.turns.invariant.works.right

pub returns-in_err-turn-in-Asks-clause-grows : goal.returns-in_err-turn-in-Asks-clause-grows
returns-in_err-turn-in-Asks-clause-grows c = c.turns.invariant.works.grows

pub returns-in_err-turn-in-Asks-clause-added : goal.returns-in_err-turn-in-Asks-clause-added
returns-in_err-turn-in-Asks-clause-added c = c.turns.invariant.works.added

pub returns-in_err-turn-in-Asks-clause-answers : goal.returns-in_err-turn-in-Asks-clause-answers
returns-in_err-turn-in-Asks-clause-answers c = c.turns.invariant.works.right

pub returns-in-None-clause-ok : goal.returns-in-None-clause-ok
returns-in-None-clause-ok c =
    gives_whole _ _ _ _ _ _ c.in-Gives.number _ c.in-Gives.is
    (nil_from_length _ (sym c.turns.frames.ok.0 ∙ c.in-None.ensures.cases.0))
    c.turns.invariant.works

pub returns-in-None-clause-grows : goal.returns-in-None-clause-grows
returns-in-None-clause-grows c = c.turns.invariant.works.grows

pub returns-in-None-clause-added : goal.returns-in-None-clause-added
returns-in-None-clause-added c = c.turns.invariant.works.added

pub returns-in-None-clause-answers : goal.returns-in-None-clause-answers
returns-in-None-clause-answers c = c.turns.invariant.works.right

pub resume-requires-clause-number : goal.resume-requires-clause-number
resume-requires-clause-number c = rw c.in-Gives.is at c.turns.invariant.works.numbers

pub resume-requires-clause-frame : goal.resume-requires-clause-frame
resume-requires-clause-frame c =
    (top_frame _ _ _ _ _ _ _ c.in-Some.ensures.items
    (rw c.in-Gives.is at c.turns.invariant.works.stack)).0

pub resume-requires-clause-answers : goal.resume-requires-clause-answers
resume-requires-clause-answers c = c.turns.invariant.works.right

pub returns-in_err-turn-in-Some-clause-grows : goal.returns-in_err-turn-in-Some-clause-grows
returns-in_err-turn-in-Some-clause-grows c =
    grows_through _ _ _ c.turns.invariant.works.grows c.resume.ensures.grows

pub returns-in_err-turn-in-Some-clause-added : goal.returns-in_err-turn-in-Some-clause-added
returns-in_err-turn-in-Some-clause-added c =
    resumed_added _ _ _ _ _ _ _ _ _ _ c.in-Some.ensures.items c.turns.invariant.works
    c.resume.ensures.grows c.resume.ensures.added

-- what holds after a turn
works : (c : After-len) →
    IsWorking c.args.table.now c.match-turn.table c.match-turn.answers c.args.operation
    (made c.args.table.now c.args.operation c.args.goal)
    c.match-turn.frames.items c.match-turn.turn
works c = elim c.match-turn.branch [
  | in-Asks+in_ok-turn-in-Asks w ↦
      works_same _ _ _ _ _ _ _ _ _ _ _ w.table-is w.answers-is
      (ap (λ v. v.items) w.frames-is) w.turn-is
      (asked_on _ _ _ _ _ _ _ w.in-Asks.pair _ _ w.in-Asks.is c.turns.invariant.works
      w.in_ok-turn-in-Asks.ensures.turn w.in_ok-turn-in-Asks.ensures.stack)
  | in-Gives+in-Some+in_ok-turn-in-Some w ↦
      works_same _ _ _ _ _ _ _ _ _ _ _ w.table-is w.answers-is
      (ap (λ v. v.items) w.frames-is) w.turn-is
      (resumed_on _ _ _ _ _ _ _ _ _ _ w.in-Some.frame _ _ w.in-Some.ensures.items
      c.turns.invariant.works w.in_ok-turn-in-Some.ensures.grows
      w.in_ok-turn-in-Some.ensures.added w.in_ok-turn-in-Some.ensures.answers
      w.in_ok-turn-in-Some.ensures.turn w.in_ok-turn-in-Some.ensures.stack)
]

falls : (c : After-len) →
    turn_cost c.match-turn.turn + stack_cost (reverse c.match-turn.frames.items)
    < turn_cost c.turns.turn + stack_cost (reverse c.turns.frames.items)
falls c = elim c.match-turn.branch [
  | in-Asks+in_ok-turn-in-Asks w ↦
      asked_falls c.turns.frames.items _ _ w.in-Asks.pair _ _ _ w.in-Asks.is w.turn-is
      (ap (λ v. v.items) w.frames-is) w.in_ok-turn-in-Asks.ensures.falls
  | in-Gives+in-Some+in_ok-turn-in-Some w ↦
      resumed_falls c.turns.frames.items _ _ _ w.in-Some.frame w.in-Gives.number _ _ _ w.in-Gives.is
      w.in-Some.ensures.items w.turn-is
      (ap (λ v. v.items) w.frames-is) w.in_ok-turn-in-Some.ensures.falls
]

pub overflow_sub-len : goal.overflow_sub-len
overflow_sub-len c = omega (
  arith,
  length_grows _ _ (works c).grows,
  c.turns.invariant.start,
  c.len.ensures,
)

pub returns-then-len-start-clause-big : goal.returns-then-len-start-clause-big
returns-then-len-start-clause-big c = λ e.
    too_big _ _ _ _ _ _ _ c.args.limit c.len-start.result c.len.result
    (works (goal.at.returns-then-len-start-clause-big c).After-len) c.sound.ensures
    c.turns.invariant.start c.len.ensures c.if-len-start.true

pub returns-then-len-start-clause-grows : goal.returns-then-len-start-clause-grows
returns-then-len-start-clause-grows c =
    (works (goal.at.returns-then-len-start-clause-grows c).After-len).grows

pub returns-then-len-start-clause-added : goal.returns-then-len-start-clause-added
returns-then-len-start-clause-added c =
    (works (goal.at.returns-then-len-start-clause-added c).After-len).added

pub returns-then-len-start-clause-answers : goal.returns-then-len-start-clause-answers
returns-then-len-start-clause-answers c =
    (works (goal.at.returns-then-len-start-clause-answers c).After-len).right

pub turns-smaller : goal.turns-smaller
turns-smaller c = falls (goal.at.turns-smaller c).After-len

pub turns-preserved : goal.turns-preserved
turns-preserved c = record {
  works = works (goal.at.turns-preserved c).After-len;
  start =
      c.turns.invariant.start;
}
