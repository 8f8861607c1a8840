use Rattle.std.proofs.Common.{bytes_eq}
use Rattle.indexmap.specs.IndexMap.{get}
use Rattle.subject_tree.proofs.Joining.{kept_on, taken-kept}
use Rattle.subject_tree.proofs.Reading.{named_on, taken-push, read_more, count_more}
use Rattle.subject_tree.proofs.forest.read_signals.Goals as goal

pub loop-signal-preserved : goal.loop-signal-preserved
loop-signal-preserved c = record {
  kept = kept_on c.args.arena.now c.loop-signal.arena c.read_signal.new.arena c.loop-signal.invariant.kept c.in_ok-read_signal.ensures.kept;
  named = named_on c.args.leaves.now c.loop-signal.leaves c.read_signal.new.leaves c.loop-signal.invariant.named c.in_ok-read_signal.ensures.named;
  taken = rw c.in_ok-push.ensures.items (taken-push c.read_signal.new.arena c.loop-signal.found.items c.in_ok-read_signal.field-0 (taken-kept c.loop-signal.arena c.read_signal.new.arena c.loop-signal.found.items c.in_ok-read_signal.ensures.kept c.loop-signal.invariant.taken) c.in_ok-read_signal.ensures.taken);
  count = rw c.in_ok-push.ensures.items (count_more c.loop-signal.found.items c.in_ok-read_signal.field-0 c.loop-signal.signal-index c.loop-signal.invariant.count);
  trees = rw c.in_ok-push.ensures.items (read_more c.args.arena.now c.loop-signal.arena c.read_signal.new.arena c.args.leaves.now c.loop-signal.leaves c.read_signal.new.leaves (get bytes_eq c.args.numbers.now) c.args.signals.now c.loop-signal.signal-index c.in_ok-read_signal.field-0 c.signal-item.result c.loop-signal.found.items
      c.requires c.loop-signal.invariant.kept c.loop-signal.invariant.named c.in_ok-read_signal.ensures.kept c.in_ok-read_signal.ensures.named c.loop-signal.invariant.taken c.loop-signal-test.true c.signal-item.is c.in_ok-read_signal.ensures.tree c.loop-signal.invariant.trees);
}
