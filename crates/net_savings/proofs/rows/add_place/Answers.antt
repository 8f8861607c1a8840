use Rattle.std.proofs.Common.{sym}
use Rattle.net_core.specs.Places.{written_of}
use Rattle.net_savings.proofs.Told.{told_none, told_added}
use Rattle.net_savings.proofs.rows.add_place.Goals as goal

pub returns-in-None : goal.returns-in-None
returns-in-None g c = λ places told.
    told_none c.args.work.now places c.args.rows.now.items c.args.spans.now.items c.args.others.now.items c.args.place told (sym c.in-None.ensures.table)

pub returns-in_ok-add_entry-in-Some : goal.returns-in_ok-add_entry-in-Some
returns-in_ok-add_entry-in-Some g c = λ places told.
    told_added c.args.work.now places c.args.rows.now.items c.args.spans.now.items c.args.others.now.items c.args.place told c.requires (written_of c.in-Some.entry.now) (sym c.in-Some.ensures.table)
    c.add_entry.new.rows.items c.add_entry.new.spans.items c.add_entry.new.others.items c.in_ok-add_entry-in-Some.ensures
