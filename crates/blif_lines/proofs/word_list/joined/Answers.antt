use Rattle.std.proofs.Common.{rules}
use Rattle.blif_lines.specs.Lines.{joined}
use Rattle.blif_lines.proofs.Words.{joined_goes_on}
use Rattle.blif_lines.proofs.word_list.joined.Goals as goal

pub loop-word-init : goal.loop-word-init
unfolding joined
loop-word-init c = search rules

pub loop-word-preserved : goal.loop-word-preserved
loop-word-preserved c =
    joined_goes_on c.args.words.now c.loop-word.word-index _ c.loop-word-test.true c.loop-word.bytes.items c.extend_from_slice.new.self.items c.loop-word.invariant c.in_ok-extend_from_slice.ensures.items
