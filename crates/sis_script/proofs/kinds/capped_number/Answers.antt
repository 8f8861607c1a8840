use Rattle.std.proofs.Common.{◌-◌, ◌^◌, take, get_or, refl}
use Rattle.sis_text.specs.Decimals.{number_of}
use Rattle.sis_script.proofs.Numbers.{number_none, number_more, capped_more}
use Rattle.sis_script.proofs.kinds.capped_number.Goals as goal

pub loop-digit-init : goal.loop-digit-init
loop-digit-init c = rw number_none refl

pub loop-digit-preserved : goal.loop-digit-preserved
loop-digit-preserved c =
    let digits = c.args.digits.now in
    let i = c.loop-digit.digit-index in
    let more = number_more digits i c.loop-digit-test.true in
    let capped = capped_more (2 ^ 128 - 1) (number_of (take i digits)) (get_or digits i 0 - 48) in
    cc
