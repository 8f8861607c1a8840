use Rattle.blif_models.proofs.Controls.{adds_nothing, input_added}
use Rattle.blif_models.proofs.flat.add_inputs.Goals as goal

pub loop-word-init : goal.loop-word-init
loop-word-init c = adds_nothing c.args.set.now.keys

pub loop-word-preserved : goal.loop-word-preserved
loop-word-preserved c =
    input_added c.args.inputs.now c.loop-word.word-index _ c.in_ok-name_of.field-0 c.args.set.now.keys c.loop-word.set.keys c.add_name.new.set.keys c.loop-word-test.true c.in_ok-name_of.ensures c.in_ok-add_name.ensures
    c.loop-word.invariant
