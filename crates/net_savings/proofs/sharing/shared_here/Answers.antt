use Rattle.std.proofs.Common.{sym}
use Rattle.net_savings.proofs.Partners.{none_here}
use Rattle.net_savings.proofs.sharing.shared_here.Goals as goal
use Rattle.net_savings.proofs.sharing.shared_here.Goals.{in_default-via-in-Gcx+in_default, in_default-via-in_default}

pub returns-in_default : goal.returns-in_default
returns-in_default g c =
    elim c.in_default.branch [
      | in_default-via-in-Gcx+in_default w ↦ none_here c.args.rule c.args.work.now.slots c.args.own.now.items c.args.place c.new.result.items c.new.ensures.items (λ _. sym w.in_default.ensures.table)
      | in_default-via-in_default w ↦ none_here c.args.rule c.args.work.now.slots c.args.own.now.items c.args.place c.new.result.items c.new.ensures.items (λ e. absurd (w.in_default.not-Gcx-0 e))
    ]
