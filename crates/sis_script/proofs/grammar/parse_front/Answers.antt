use Rattle.std.proofs.Common.{sym, ◌∙◌, map}
use Rattle.sis_text.specs.Words.{bytes_at}
use Rattle.sis_script.proofs.Filling.{option_taken, option_failed, options_end, options_end_failed}
use Rattle.sis_script.proofs.grammar.parse_front.Goals as goal

pub loop-option-preserved : goal.loop-option-preserved
loop-option-preserved c =
    let found = rw c.as_slice.ensures.value at c.in-Some.ensures in
    let behind = rw c.skip-behind.ensures at (sym c.in-Ok.is ∙ c.in_ok-value.ensures) in
    let taken = option_taken (bytes_at c.args.source.now) c.loop-option.left.items c.args.slots.now c.in-Some.option c.loop-option.given c.loop-option.rest.now c.in-Ok.value found behind in
    rw (c.in_ok-push-in-Ok.ensures.ok, c.in_ok-left-2.ensures, c.as_slice-in-Some.ensures.value, c.skip-rest.ensures, c.width_of.ensures, c.skip-behind.ensures) (taken ∙ c.loop-option.invariant)

pub returns-in-Err : goal.returns-in-Err
returns-in-Err c =
    let found = rw c.as_slice.ensures.value at c.in-Some.ensures in
    let behind = rw c.skip-behind.ensures at (sym c.in-Err.is ∙ c.in_ok-value.ensures) in
    sym (option_failed (bytes_at c.args.source.now) c.loop-option.left.items c.args.slots.now c.in-Some.option c.loop-option.given c.loop-option.rest.now c.in-Err.fault found behind)
    ∙ c.loop-option.invariant

pub returns-in-Ok-2 : goal.returns-in-Ok-2
returns-in-Ok-2 c =
    let none = rw c.as_slice.ensures.value at c.in_default.ensures in
    sym (options_end c.loop-option.given c.loop-option.left.items c.args.slots.now (map (bytes_at c.args.source.now) c.loop-option.rest.now) c.in-Ok-2.words none (sym c.in-Ok-2.is ∙ c.in_ok-words.ensures))
    ∙ c.loop-option.invariant

pub returns : goal.returns
returns c =
    let none = rw c.as_slice.ensures.value at c.in_default.ensures in
    sym (options_end_failed c.loop-option.given c.loop-option.left.items c.args.slots.now (map (bytes_at c.args.source.now) c.loop-option.rest.now) c.in-Err-2.fault none (sym c.in-Err-2.is ∙ c.in_ok-words.ensures))
    ∙ c.loop-option.invariant
