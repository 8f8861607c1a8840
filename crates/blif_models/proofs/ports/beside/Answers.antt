use Rattle.std.specs.Prelude.{[], not}
use Rattle.std.specs.List.{filter}
use Rattle.circuit_model.specs.Names.{has}
use Rattle.line_words.specs.LineWords.{texts}
use Rattle.blif_models.proofs.PortSets.{set_more_at, beside_both}
use Rattle.blif_models.proofs.ports.beside.Goals as goal

pub loop-word-preserved : goal.loop-word-preserved
loop-word-preserved c =
    set_more_at (λ words. filter (λ one. not (has c.args.others.now one)) (texts words)) (beside_both c.args.others.now)
    c.words-word-items.result.now c.loop-word.word-index _ [] c.loop-word.set c.add_beside.new.set
    c.loop-word-test.true c.loop-word.invariant c.in_ok-add_beside.ensures
