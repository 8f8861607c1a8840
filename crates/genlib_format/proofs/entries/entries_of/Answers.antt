use Rattle.genlib_format.proofs.EntrySteps.{entry_pushed}
use Rattle.genlib_format.specs.Entries.{entries_within}
use Rattle.genlib_format.proofs.entries.entries_of.Goals as goal

pub loop-entry-preserved : goal.loop-entry-preserved
loop-entry-preserved c =
    entry_pushed c.len-count.result c.loop-entry._entry c.loop-entry.rest c.next_entry.new.rest c.loop-entry.found.items c.push.new.self.items (entries_within c.len-count.result c.args.words.items) c.in-Some.entry
    c.in_ok-entry.field-0 c.loop-entry-test.true c.in_ok-entry.ensures c.in-Some.is c.in_ok-push-in-Some.ensures.items c.loop-entry.invariant
