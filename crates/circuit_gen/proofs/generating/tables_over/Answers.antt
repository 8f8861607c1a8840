use Rattle.std.proofs.Common.{rules}
use Rattle.circuit_gen.proofs.Numbers.{number_none, number_more, tables_more}
use Rattle.circuit_gen.proofs.generating.tables_over.Goals as goal

pub loop-place-init : goal.loop-place-init
loop-place-init c = record { made = search rules; drawn = number_none c.args.seed }

pub loop-place-preserved : goal.loop-place-preserved
loop-place-preserved c =
    let tables = tables_more c.args.seed c.loop-place.place in
    let number = number_more c.args.seed c.loop-place.place in record {
      made = cc (c.in_ok-push.ensures.items, c.in_ok-drawn_table.ensures.value);
      drawn = cc (c.in_ok-drawn_table.ensures.number);
    }
