use Rattle.std.specs.List.{filter}
use Rattle.line_words.specs.LineWords.{texts}
use Rattle.blif_gates.specs.GateLines.{is_pair}
use Rattle.blif_models.specs.Ports.{actuals_of}
use Rattle.blif_models.specs.Sides.{formals_on}
use Rattle.blif_models.proofs.PortSets.{set_more_at, actuals_both}
use Rattle.blif_models.proofs.port_lines.add_actuals.Goals as goal

pub loop-word-preserved : goal.loop-word-preserved
loop-word-preserved c =
    set_more_at (λ words. actuals_of (formals_on c.args.side c.args.ports.now) (filter is_pair (texts words))) (actuals_both (formals_on c.args.side c.args.ports.now))
    c.args.words.now c.loop-word.word-index _ c.args.set.now c.loop-word.set c.add_actual.new.set
    c.loop-word-test.true c.loop-word.invariant c.in_ok-add_actual.ensures
