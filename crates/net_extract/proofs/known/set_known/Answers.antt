use Rattle.std.proofs.Common.{sym, subst}
use Rattle.std.proofs.lemmas.Result.{on_ok_weaker}
use Rattle.net_extract.specs.Known.{AreCounted, AreSaved}
use Rattle.net_extract.proofs.Gaining.{counted_within, counted_after_set}
use Rattle.net_extract.proofs.Saving.{saved_after_set}
use Rattle.net_extract.proofs.known.set_known.Goals as goal

pub changed-requires-clause-place : goal.changed-requires-clause-place
changed-requires-clause-place g c =
    counted_within c.args.work.now.slots c.take.result c.args.place c.requires.there (subst (AreCounted c.args.work.now.slots) (sym c.take.ensures.value) c.requires.known)

pub returns-clause-known : goal.returns-clause-known
returns-clause-known g c =
    on_ok_weaker c.set.result
    (counted_after_set c.args.work.now c.set.new.self c.args.place c.args.table c.args.known.now.gains c.in_ok-known.field-0 c.requires.there c.requires.known
    (λ slots output h. c.in_ok-known.ensures slots output (subst (AreCounted slots) (sym c.take.ensures.value) h))) c.set.ensures

pub returns-clause-saved : goal.returns-clause-saved
returns-clause-saved g c =
    on_ok_weaker c.set.result
    (saved_after_set c.args.work.now c.set.new.self c.args.place c.args.table c.args.known.now.savings c.in_ok-known-2.field-0 c.requires.there
    (λ rule old there saved. c.in_ok-known-2.ensures rule old there (subst (AreSaved rule c.args.work.now) (sym c.take-2.ensures.value) saved))) c.set.ensures
