use Rattle.std.proofs.Common.{sym, subst}
use Rattle.kiss_format.specs.Groups.{AreGroups}
use Rattle.kiss_format.proofs.Grouped.{groups_none}
use Rattle.kiss_format.proofs.groups.no_groups.Goals as goal

pub returns : goal.returns
returns c = subst (AreGroups c.args.rows.now 0) (sym c.in_ok-groups.ensures) (groups_none c.args.rows.now)
