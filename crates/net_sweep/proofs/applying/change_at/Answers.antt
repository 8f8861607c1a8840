use Rattle.std.proofs.Common.{sym, ◌∙◌}
use Rattle.net_sweep.specs.Settled.{changed_by}
use Rattle.net_readers.proofs.Sets.{on_ok}
use Rattle.net_sweep.proofs.Changing.{set_changed}
use Rattle.net_sweep.proofs.applying.change_at.Goals as goal

pub returns-in_ok-made-in-Some-clause-changed : goal.returns-in_ok-made-in-Some-clause-changed
returns-in_ok-made-in-Some-clause-changed c =
    on_ok c.set.result
    (set_changed (changed_by c.args.name.now c.args.change.now) c.args.aliased.now c.set.new.self c.args.place c.in-Some.table c.in_ok-made-in-Some.made (sym c.in_ok-table.ensures ∙ c.in-Some.is) c.in_ok-made-in-Some.ensures)
    c.set.ensures
