use Rattle.std.proofs.Common.{◌≡◌, ◌↔◌, IsTrue, length, sym, ap, subst, arith}
use Rattle.std.proofs.lemmas.Result.{IfOk-weaker}
use Rattle.std.specs.List.{AllByRecursion}
use Rattle.net_work.specs.Placed.{standing, table_at}
use Rattle.alg_tables.specs.Dividing.{cover_table}
use Rattle.net_savings.specs.Saving.{IsNarrowIn, LeavesNarrow}
use Rattle.net_savings.specs.Indexed.{AreAll}
use Rattle.net_savings.proofs.Losing.{all_readers}
use Rattle.net_savings.proofs.Narrowing.{leaves_told, leaves_wide}
use Rattle.net_savings.proofs.Summing.{rising_once}
use Rattle.net_savings.proofs.Tabled.{cover_inputs}
use Rattle.net_savings.proofs.narrow.fits_input_limit.Goals as goal

pub returns-then-len-gt-MAX_INPUTS : goal.returns-then-len-gt-MAX_INPUTS
returns-then-len-gt-MAX_INPUTS g c =
    let same : length c.in_ok-table.table.inputs ≡ length (cover_table c.args.name.now c.args.cover.now).inputs =
    ap length (cover_inputs c.args.cover.now c.in_ok-table.table c.in_ok-table.ensures.table c.args.name.now) in
    leaves_wide c.args.name.now c.args.cover.now c.args.work.now.slots (omega (arith, same, c.len.ensures, c.if-len-gt-MAX_INPUTS.true))

pub returns : goal.returns
returns g c =
    let same : length c.in_ok-table.table.inputs ≡ length (cover_table c.args.name.now c.args.cover.now).inputs =
    ap length (cover_inputs c.args.cover.now c.in_ok-table.table c.in_ok-table.ensures.table c.args.name.now) in
    IfOk-weaker c.are_narrow_at.result
    (λ narrow. IsTrue narrow ↔ AllByRecursion (λ place. IsNarrowIn c.args.name.now c.args.cover.now (table_at c.args.work.now.slots place)) c.as_slice.result.now)
    (λ narrow. IsTrue narrow ↔ LeavesNarrow (standing c.args.work.now.slots) c.args.name.now c.args.cover.now)
    (λ narrow told. leaves_told c.args.name.now c.args.cover.now c.args.work.now.slots c.as_slice.result.now
    (subst (AreAll c.args.cover.now c.args.work.now.slots) (sym c.as_slice.ensures.value) (all_readers c.args.cover.now c.args.work.now.slots c.in_ok-places.places.items (rising_once c.in_ok-places.places.items c.in_ok-places.ensures.rising) c.in_ok-places.ensures.all))
    (omega (arith, same, c.len.ensures, c.if-len-gt-MAX_INPUTS.false)) narrow told)
    c.are_narrow_at.ensures
