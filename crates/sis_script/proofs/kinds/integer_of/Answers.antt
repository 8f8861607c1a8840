use Rattle.std.proofs.Common.{sym, arith}
use Rattle.std.proofs.lemmas.Grind.{common_steps}
use Rattle.std.proofs.lemmas.Int.{ints}
use Rattle.sis_script.proofs.Numbers.{negative, positive}
use Rattle.sis_script.proofs.kinds.integer_of.Goals as goal

pub overflow_cast-result : goal.overflow_cast-result
overflow_cast-result c = omega (arith, ints, c.in_ok-number.ensures.bound)

pub overflow_sub-result : goal.overflow_sub-result
overflow_sub-result c = omega (arith, ints, c.in_ok-number.ensures.bound)

pub overflow_cast-result-then-begins_with_dash : goal.overflow_cast-result-then-begins_with_dash
overflow_cast-result-then-begins_with_dash c = omega (arith, ints, c.in_ok-number.ensures.bound)

pub overflow_cast-result-else-begins_with_dash : goal.overflow_cast-result-else-begins_with_dash
overflow_cast-result-else-begins_with_dash c = omega (arith, ints, c.in_ok-number-2.ensures.bound)

pub returns-in_ok-number : goal.returns-in_ok-number
returns-in_ok-number c =
    negative c.args.word.now _ c.in_ok-number.number (sym c.if-begins_with_dash.ensures) (grind (arith, common_steps)) c.in_ok-number.ensures.value c.in_ok-number.ensures.bound

pub returns-in_ok-number-2 : goal.returns-in_ok-number-2
returns-in_ok-number-2 c =
    positive c.args.word.now c.in_ok-number-2.number (sym c.if-begins_with_dash.ensures) c.in_ok-number-2.ensures.value c.in_ok-number-2.ensures.bound
