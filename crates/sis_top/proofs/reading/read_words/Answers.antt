use Rattle.std.proofs.Common.{codes, map, ◌∙◌, Ok, Err}
use Rattle.std.proofs.lemmas.List.{map-id}
use Rattle.clap.specs.Words.{app_of, kind_of}
use Rattle.clap.specs.declared.parser.matches.ArgMatches.{ArgMatches}
use Rattle.sis_top.specs.Asked.{Answers, options_of}
use Rattle.sis_top.proofs.Found.{value_found, fails_by_words}
use Rattle.sis_top.proofs.Answering.{error_answers, options_answer, refused_by_answer, same_options, taken_by_answer}
use Rattle.sis_top.proofs.reading.read_words.Goals as goal

refused_words : (c : goal.After-from_residual-in_err-matches)
    → Answers (options_of c.args.words.now) c.from_residual-in_err-matches.result
refused_words c =
    error_answers c.args.words.now (kind_of c.in_err-matches.field-0.0) c.from_residual-in_err-matches.result
    (fails_by_words (app_of c.in_ok-shell_command.field-0) c.args.words.now (map (λ w. w) c.args.words.now) ArgMatches
    (Err c.in_err-matches.field-0.0) c.in_ok-shell_command.ensures (map-id c.args.words.now) c.in_err-matches.ensures.kinds)
    c.from_residual-in_err-matches.ensures.1

taken_words : (c : goal.Joined-matches) → Answers (options_of c.args.words.now) c.ok_or.result
taken_words c =
    let app = app_of c.in_ok-shell_command.field-0 in
    let texts = map (λ w. w) c.args.words.now in
    let value = value_found app c.args.words.now texts c.in_ok-matches.matches in
    let is_shell = c.in_ok-shell_command.ensures in
    let same = map-id c.args.words.now in
    let has = c.in_ok-matches.ensures.matches in
    options_answer c.args.words.now c.options_by.result c.ok_or.result
    (fails_by_words app c.args.words.now texts ArgMatches (Ok c.in_ok-matches.matches) is_shell same c.in_ok-matches.ensures.kinds)
    (c.options_by.ensures ∙ same_options (value (codes "keep") is_shell same has) (value (codes "file") is_shell same has) (value (codes "text") is_shell same has))
    c.ok_or.ensures.value

pub returns-in_err-matches-clause-answers : goal.returns-in_err-matches-clause-answers
returns-in_err-matches-clause-answers c = refused_words c

pub returns-in_err-matches-clause-refused : goal.returns-in_err-matches-clause-refused
returns-in_err-matches-clause-refused c =
    refused_by_answer c.args.words.now c.from_residual-in_err-matches.result (refused_words c)

pub returns-clause-answers : goal.returns-clause-answers
returns-clause-answers c = taken_words c

pub returns-clause-taken : goal.returns-clause-taken
returns-clause-taken c = taken_by_answer c.args.words.now c.ok_or.result (taken_words c)

pub returns-clause-refused : goal.returns-clause-refused
returns-clause-refused c = refused_by_answer c.args.words.now c.ok_or.result (taken_words c)
