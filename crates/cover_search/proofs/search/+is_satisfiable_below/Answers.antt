use Rattle.std.proofs.Common.{not, arith}
use Rattle.std.proofs.lemmas.List.{nil_from_length}
use Rattle.cover_search.specs.Searches.{IsLeft}
use Rattle.cover_search.proofs.Decided.{none_of, some_of, hopeless_answer, empty_answer, full_answer_of, first_answer, second_answer, half_smaller, half_wide}
use Rattle.cover_search.proofs.search.+is_satisfiable_below.Goals as goal

pub returns-in-None : goal.returns-in-None
returns-in-None g t c = hopeless_answer _ _ (none_of c.in_ok-found.found _ _ c.in-None.is c.in_ok-found.ensures)

pub returns-then-len-eq0 : goal.returns-then-len-eq0
returns-then-len-eq0 g t c =
    empty_answer (g.R.Row.literals c.args.given.now) c.args.constraints.now c.in-Some.left.items (some_of c.in_ok-found.found c.in-Some.left _ _ c.in-Some.is c.in_ok-found.ensures) (nil_from_length c.in-Some.left.items (omega (arith, c.if-len-eq0.true, c.len.ensures)))

pub returns-in-None-dash_of : goal.returns-in-None-dash_of
returns-in-None-dash_of g t c =
    full_answer_of (g.R.Row.literals c.args.given.now) c.args.constraints.now c.in-Some.left.items c.are_satisfied.result (some_of c.in_ok-found.found c.in-Some.left _ _ c.in-Some.is c.in_ok-found.ensures) c.in-None-dash_of.ensures
    (rw (← c.as_slice-in-None-dash_of.ensures.value) c.are_satisfied.ensures)

pub is_satisfiable_below-requires : goal.is_satisfiable_below-requires
is_satisfiable_below-requires g t c κs within =
    let left : IsLeft (g.R.Row.literals c.args.given.now) c.args.constraints.now c.in-Some.left.items = some_of c.in_ok-found.found c.in-Some.left _ _ c.in-Some.is c.in_ok-found.ensures in (
      omega (arith, half_smaller (g.R.Row.literals c.args.given.now) (g.R.Row.literals c.in_ok-first-in-Some-dash_of.first) c.in-Some-dash_of.place c.in_ok-choice-in-Some.choice.bit c.in-Some-dash_of.ensures.0 c.in-Some-dash_of.ensures.1 c.in_ok-first-in-Some-dash_of.ensures, c.decreases),
      (within, rw c.as_slice-in-Some-dash_of.ensures.value (half_wide (g.R.Row.literals c.args.given.now) (g.R.Row.literals c.in_ok-first-in-Some-dash_of.first) c.args.constraints.now c.in-Some.left.items c.in-Some-dash_of.place c.in_ok-choice-in-Some.choice.bit left c.in_ok-first-in-Some-dash_of.ensures)),
    )

pub returns-then-first_answer : goal.returns-then-first_answer
returns-then-first_answer g t c =
    let left : IsLeft (g.R.Row.literals c.args.given.now) c.args.constraints.now c.in-Some.left.items = some_of c.in_ok-found.found c.in-Some.left _ _ c.in-Some.is c.in_ok-found.ensures in
    first_answer (g.R.Row.literals c.args.given.now) (g.R.Row.literals c.in_ok-first-in-Some-dash_of.first) c.args.constraints.now c.in-Some.left.items c.in-Some-dash_of.place c.in_ok-choice-in-Some.choice.bit c.in_ok-first_answer-in-Some-dash_of.first_answer left c.in-Some-dash_of.ensures.0 c.in-Some-dash_of.ensures.1 c.in_ok-first-in-Some-dash_of.ensures
    (rw (← c.as_slice-in-Some-dash_of.ensures.value) c.in_ok-first_answer-in-Some-dash_of.ensures) c.if-first_answer.true

pub is_satisfiable_below-requires-in-Some-dash_of : goal.is_satisfiable_below-requires-in-Some-dash_of
is_satisfiable_below-requires-in-Some-dash_of g t c κs within =
    let left : IsLeft (g.R.Row.literals c.args.given.now) c.args.constraints.now c.in-Some.left.items = some_of c.in_ok-found.found c.in-Some.left _ _ c.in-Some.is c.in_ok-found.ensures in (
      omega (arith, half_smaller (g.R.Row.literals c.args.given.now) (g.R.Row.literals c.in_ok-second-in-Some-dash_of.second) c.in-Some-dash_of.place (not c.in_ok-choice-in-Some.choice.bit) c.in-Some-dash_of.ensures.0 c.in-Some-dash_of.ensures.1 c.in_ok-second-in-Some-dash_of.ensures, c.decreases),
      (within, rw c.as_slice-in-Some-dash_of-2.ensures.value (half_wide (g.R.Row.literals c.args.given.now) (g.R.Row.literals c.in_ok-second-in-Some-dash_of.second) c.args.constraints.now c.in-Some.left.items c.in-Some-dash_of.place (not c.in_ok-choice-in-Some.choice.bit) left c.in_ok-second-in-Some-dash_of.ensures)),
    )

pub returns : goal.returns
returns g t c =
    let left : IsLeft (g.R.Row.literals c.args.given.now) c.args.constraints.now c.in-Some.left.items = some_of c.in_ok-found.found c.in-Some.left _ _ c.in-Some.is c.in_ok-found.ensures in
    second_answer (g.R.Row.literals c.args.given.now) (g.R.Row.literals c.in_ok-first-in-Some-dash_of.first) (g.R.Row.literals c.in_ok-second-in-Some-dash_of.second) c.args.constraints.now c.in-Some.left.items c.in-Some-dash_of.place c.in_ok-choice-in-Some.choice.bit
    c.in_ok-first_answer-in-Some-dash_of.first_answer c.in_ok-second_answer-in-Some-dash_of.second_answer left c.in-Some-dash_of.ensures.0 c.in-Some-dash_of.ensures.1 c.in_ok-first-in-Some-dash_of.ensures c.in_ok-second-in-Some-dash_of.ensures
    (rw (← c.as_slice-in-Some-dash_of.ensures.value) c.in_ok-first_answer-in-Some-dash_of.ensures) c.if-first_answer.false (rw (← c.as_slice-in-Some-dash_of-2.ensures.value) c.in_ok-second_answer-in-Some-dash_of.ensures)
