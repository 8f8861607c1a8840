use Rattle.std.proofs.Common.{ℕ, List, ap, sym, ◌∙◌}
use Rattle.circuit_tables.specs.Listing.{names_with}
use Rattle.net_wires.specs.Reading.{read_by_latches}
use Rattle.net_wires.proofs.Reached.{reaching_begun, reaching_more, reaching_ends}
use Rattle.net_wires.proofs.needed.reached.Goals as goal

pub loop-next-init : goal.loop-next-init
loop-next-init c = reaching_begun c.args.roots.keys c.args.tables.now c.args.latches.now

pub returns-in-None : goal.returns-in-None
returns-in-None c =
    reaching_ends c.args.roots.keys c.args.tables.now c.args.latches.now c.loop-next.names.keys c.loop-next.next c.loop-next.invariant (sym c.in_ok-name_at.ensures ∙ c.in-None.is)

pub loop-next-preserved : goal.loop-next-preserved
loop-next-preserved c =
    reaching_more c.args.roots.keys c.args.tables.now c.args.latches.now c.loop-next.names.keys c.add_held.new.names.keys c.loop-next.next c.in-Some.name c.loop-next.invariant
    (sym c.in_ok-name_at.ensures ∙ c.in-Some.is)
    (c.in_ok-add_held-in-Some.ensures ∙ ap (λ (names : List (List ℕ)). names_with names (read_by_latches c.in-Some.name c.args.latches.now)) c.in_ok-add_inputs-in-Some.ensures)
