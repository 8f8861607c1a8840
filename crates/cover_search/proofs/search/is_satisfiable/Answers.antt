use Rattle.std.proofs.Common.{◌∙◌, arith}
use Rattle.std.proofs.lemmas.List.{nil_from_length}
use Rattle.cover_search.specs.Searches.{IsLeft}
use Rattle.cover_search.proofs.Decided.{none_of, some_of, hopeless_answer, empty_answer, likely_answer, left_same}
use Rattle.cover_search.proofs.search.is_satisfiable.Goals as goal

pub returns-in-None : goal.returns-in-None
returns-in-None g c = hopeless_answer _ _ (none_of c.in_ok-found.found _ _ c.in-None.is c.in_ok-found.ensures)

pub returns-then-satisfied : goal.returns-then-satisfied
returns-then-satisfied g c =
    let left : IsLeft (g.R.Row.literals c.args.given.now) c.args.constraints.now c.in-Some.left.items = some_of c.in_ok-found.found c.in-Some.left _ _ c.in-Some.is c.in_ok-found.ensures in
    likely_answer (g.R.Row.literals c.args.given.now) c.args.constraints.now c.in-Some.left.items c.in_ok-satisfied-in-Some.satisfied left (rw (← c.as_slice.ensures.value) c.in_ok-satisfied-in-Some.ensures) c.if-satisfied.true

pub returns-in_ok-answer-in-Some : goal.returns-in_ok-answer-in-Some
returns-in_ok-answer-in-Some g c =
    let left : IsLeft (g.R.Row.literals c.args.given.now) c.args.constraints.now c.in-Some.left.items = some_of c.in_ok-found.found c.in-Some.left _ _ c.in-Some.is c.in_ok-found.ensures in
    rw (← c.as_slice-in-Some.ensures.value) c.in_ok-answer-in-Some.ensures ∙ left_same (g.R.Row.literals c.args.given.now) c.args.constraints.now c.in-Some.left.items left

pub returns-then-len-eq0 : goal.returns-then-len-eq0
returns-then-len-eq0 g c =
    empty_answer (g.R.Row.literals c.args.given.now) c.args.constraints.now c.in-Some.left.items (some_of c.in_ok-found.found c.in-Some.left _ _ c.in-Some.is c.in_ok-found.ensures) (nil_from_length c.in-Some.left.items (omega (arith, c.if-len-eq0.true, c.len.ensures)))
