use Rattle.net_savings.proofs.Tabled.{name_unread}
use Rattle.net_savings.proofs.saving.loss_at.Goals as goal

pub loss_of-requires-clause-free : goal.loss_of-requires-clause-free
loss_of-requires-clause-free g c =
    name_unread c.args.work.now c.args.name.now c.in-Some.entry.now c.args.place c.requires.sound c.requires.free c.in-Some.ensures.table
