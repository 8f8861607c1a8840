use Rattle.std.proofs.Common.{◌∙◌, ap, ◌++◌, ◌∷◌, [], option_copied}
use Rattle.blif_models.specs.PortTables.{next_ports}
use Rattle.blif_models.proofs.ByIndex.{one_more}
use Rattle.blif_models.proofs.ports.next_table.Goals as goal

pub loop-place-preserved : goal.loop-place-preserved
loop-place-preserved c =
    one_more (next_ports (option_copied c.args.library) c.args.file.now.models c.args.table.now) c.loop-place.place c.loop-place.next.items c.push.new.self.items c.loop-place.invariant
    (c.in_ok-push.ensures.items ∙ ap (λ ports. c.loop-place.next.items ++ ports ∷ []) c.in_ok-next_ports.ensures)
