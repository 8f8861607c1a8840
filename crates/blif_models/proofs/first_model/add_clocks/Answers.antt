use Rattle.line_words.specs.LineWords.{other_words}
use Rattle.sis_text.specs.Entries.{Entry}
use Rattle.blif_lines.specs.Keyword.{kind_of}
use Rattle.blif_lines.specs.Reader.{listed_clocks, clocks_in}
use Rattle.blif_models.proofs.LineNames.{more_names}
use Rattle.blif_models.proofs.first_model.add_clocks.Goals as goal

pub loop-line-preserved : goal.loop-line-preserved
unfolding clocks_in
loop-line-preserved c =
    more_names (λ (line : Entry). listed_clocks (kind_of line) (other_words line.words)) c.args.text.now c.args.lines.now c.loop-line.line-index c.line-item.result c.args.names.now c.loop-line.names c.add_listed.new.names
    c.loop-line-test.true c.line-item.is c.in_ok-add_listed.ensures c.loop-line.invariant
