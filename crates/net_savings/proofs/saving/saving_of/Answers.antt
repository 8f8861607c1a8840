use Rattle.std.proofs.Common.{◌≡◌, length, ap, ◌∙◌, arith}
use Rattle.circuit_model.specs.Counts.{literals_of_table}
use Rattle.alg_tables.specs.Dividing.{cover_table}
use Rattle.net_work.specs.Placed.{standing}
use Rattle.net_savings.proofs.Losing.{saved_wide}
use Rattle.net_savings.proofs.Tabled.{cover_inputs}
use Rattle.net_savings.proofs.Told.{saved_lost}
use Rattle.net_savings.proofs.saving.saving_of.Goals as goal

pub returns-then-len-gt-MAX_INPUTS : goal.returns-then-len-gt-MAX_INPUTS
returns-then-len-gt-MAX_INPUTS g c =
    let same : length c.in_ok-table.table.inputs ≡ length (cover_table c.args.name.now c.args.cover.now).inputs =
    ap length (cover_inputs c.args.cover.now c.in_ok-table.table c.in_ok-table.ensures.table c.args.name.now) in
    saved_wide c.args.name.now c.args.cover.now c.args.work.now.slots (omega (arith, same, c.len.ensures, c.if-len-gt-MAX_INPUTS.true))

pub returns : goal.returns
returns g c =
    let same : length c.in_ok-table.table.inputs ≡ length (cover_table c.args.name.now c.args.cover.now).inputs =
    ap length (cover_inputs c.args.cover.now c.in_ok-table.table c.in_ok-table.ensures.table c.args.name.now) in
    saved_lost (standing c.args.work.now.slots) c.args.name.now c.args.cover.now c.in_ok-lost.lost c.excess.result c.literal_count.result
    (c.literal_count.ensures c.args.name.now ∙ ap literals_of_table (c.in_ok-table.ensures.table c.args.name.now))
    (omega (arith, same, c.len.ensures, c.if-len-gt-MAX_INPUTS.false)) c.in_ok-lost.ensures c.excess.ensures
