use Rattle.net_savings.specs.Ranking.{saving_in, covers_under}
use Rattle.net_savings.proofs.NotesKept.{notes_touched}
use Rattle.net_savings.proofs.kept.CandidateQueue.touch.Goals as goal

pub returns-clause-savings : goal.returns-clause-savings
returns-clause-savings c = λ rule placed old new met new_met there same before now aside notes.
    notes_touched rule placed (saving_in c.args.self.now.ranked) (covers_under c.args.self.now.ranked) c.args.self.now.own.items c.args.self.now.touched.keys met c.args.self.now.fresh.items notes
    c.taken-old.new.lists.items c.push_names.new.names.keys c.push_names-2.new.names.keys c.args.before.now c.args.now.now new_met c.push.new.self.items c.args.place c.taken-old.ensures.rest
    c.in_ok-push_names.ensures c.in_ok-push_names-2.ensures c.in_ok-push.ensures.items old new there same before now aside
