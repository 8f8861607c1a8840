use Rattle.std.proofs.Common.{◌≡◌, length, arith}
use Rattle.net_decomp.proofs.Dues.{some_due, due_parted}
use Rattle.net_decomp.proofs.stepping.part_once.Goals as goal

pub returns-in_ok-part_table-in-Some-clause-nodes : goal.returns-in_ok-part_table-in-Some-clause-nodes
returns-in_ok-part_table-in-Some-clause-nodes g c =
    let due = some_due g.R.Row.literals c.args.rule c.args.work.now.slots c.args.place c.in_ok-due_at.field-0 c.in-Some.due c.in_ok-due_at.ensures c.in-Some.is in
    let many : length c.in-Some.due.parting.parts.items ≡ c.len-more.result = omega (arith, c.len-more.ensures, c.in-Some.due.parting.parts.ok.0) in
    omega (
      arith,
      (due_parted g.R.Row.literals c.args.rule c.args.place c.in-Some.due c.args.work.now c.part_table.new.work c.args.nodes c.len-more.result due c.requires.sound c.requires.nodes many
          (c.has_room.ensures.0 c.if-not-has_room.false) c.in_ok-part_table-in-Some.ensures.turned).1,
    )

pub returns-in_ok-part_table-in-Some-clause-parted : goal.returns-in_ok-part_table-in-Some-clause-parted
returns-in_ok-part_table-in-Some-clause-parted g c =
    let due = some_due g.R.Row.literals c.args.rule c.args.work.now.slots c.args.place c.in_ok-due_at.field-0 c.in-Some.due c.in_ok-due_at.ensures c.in-Some.is in
    let many : length c.in-Some.due.parting.parts.items ≡ c.len-more.result = omega (arith, c.len-more.ensures, c.in-Some.due.parting.parts.ok.0) in
    (due_parted g.R.Row.literals c.args.rule c.args.place c.in-Some.due c.args.work.now c.part_table.new.work c.args.nodes c.len-more.result due c.requires.sound c.requires.nodes many
    (c.has_room.ensures.0 c.if-not-has_room.false) c.in_ok-part_table-in-Some.ensures.turned).0
