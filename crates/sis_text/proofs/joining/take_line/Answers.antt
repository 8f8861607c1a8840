use Rattle.std.proofs.Common.{List, ◌+◌, [], ◌∷◌, append_assoc}
use Rattle.std.specs.List.{filter}
use Rattle.sis_text.specs.declared.places.Span.{Span}
use Rattle.sis_text.specs.Lines.{words_at, join_lines, has_words}
use Rattle.sis_text.specs.Joining.{resume}
use Rattle.sis_text.proofs.Joins.{taken_open, taken_closed, taking}
use Rattle.sis_text.proofs.joining.take_line.Goals as goal

pub returns-then-ends_open : goal.returns-then-ends_open
unfolding words_at
returns-then-ends_open c = λ (rest : List Span).
    let e = taken_open c.args.source.now c.args.begun c.args.number c.args.line rest (cc) in
    let w = c.in_ok-add_words.ensures in
    cc

pub returns : goal.returns
unfolding words_at resume
returns c = λ (rest : List Span).
    let e = taken_closed c.args.source.now c.args.begun c.args.number c.args.line rest (cc) in
    let w = c.in_ok-add_words.ensures in
    let s = c.in_ok-fitted.ensures in
    let f = c.in_ok-finish.ensures in
    let a = append_assoc c.args.lines.now (filter has_words (taking c.args.begun c.args.number (words_at c.args.source.now c.args.line) ∷ [])) (filter has_words (join_lines c.args.source.now (c.args.number + 1) rest)) in
    cc
