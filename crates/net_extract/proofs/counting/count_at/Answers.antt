use Rattle.net_work.specs.Placed.{table_at}
use Rattle.net_extract.proofs.Gaining.{counted_slot}
use Rattle.net_extract.proofs.counting.count_at.Goals as goal

pub returns-in-Some : goal.returns-in-Some
returns-in-Some g c =
    counted_slot c.push.result c.in-Some.entry.now (table_at c.args.work.now.slots c.args.place) c.args.gains.now c.push.new.self c.in-Some.ensures.table c.push.ensures.counted c.push.ensures.taken
