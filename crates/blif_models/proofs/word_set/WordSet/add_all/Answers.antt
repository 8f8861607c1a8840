use Rattle.line_words.specs.LineWords.{texts}
use Rattle.blif_models.proofs.PortSets.{set_more_at, texts_both}
use Rattle.blif_models.proofs.word_set.WordSet.add_all.Goals as goal

pub loop-word-preserved : goal.loop-word-preserved
loop-word-preserved c =
    set_more_at texts texts_both c.args.words.now c.loop-word.word-index _ c.args.self.now c.loop-word.self c.add.new.self
    c.loop-word-test.true c.loop-word.invariant c.in_ok-add.ensures
