use Rattle.std.proofs.Common.{sym, subst}
use Rattle.net_extract.specs.Known.{AreCounted, AreSaved}
use Rattle.net_extract.proofs.Gaining.{counted_after_add}
use Rattle.net_extract.proofs.Saving.{saved_after_add}
use Rattle.net_extract.proofs.known.add_known.Goals as goal

pub returns-clause-known : goal.returns-clause-known
returns-clause-known g c =
    counted_after_add c.args.work.now c.add.new.self c.args.table c.args.known.now.gains c.in_ok-known.field-0 c.add.result c.requires.known
    (λ slots output h. c.in_ok-known.ensures slots output (subst (AreCounted slots) (sym c.take.ensures.value) h)) c.add.ensures

pub returns-clause-saved : goal.returns-clause-saved
returns-clause-saved g c =
    saved_after_add c.args.work.now c.add.new.self c.args.table c.args.known.now.savings c.in_ok-known-2.field-0 c.add.result
    (λ rule output saved. c.in_ok-known-2.ensures rule output (subst (AreSaved rule c.args.work.now) (sym c.take-2.ensures.value) saved)) c.add.ensures
