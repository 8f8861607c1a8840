use Rattle.std.proofs.Common.{◌≡◌, true, Some, sym, ◌∙◌, subst}
use Rattle.circuit_model.specs.Names.{has}
use Rattle.circuit_model.specs.Soundness.{outputs_of}
use Rattle.circuit_model.specs.Values.{driver}
use Rattle.circuit_model.specs.declared.circuit.Table.{Table}
use Rattle.circuit_model.specs.declared.circuit.Circuit.{Circuit}
use Rattle.net_core.specs.Tables.{named}
use Rattle.sdc_simplify.specs.Minimized.{minimized}
use Rattle.odc_simplify.specs.Full.{is_dont_care}
use Rattle.odc_simplify.proofs.Serving.{serves_next}
use Rattle.odc_simplify.proofs.Kept.{made_fits, made_acyclic, made_turned, made_signals}
use Rattle.odc_simplify.proofs.turns.minimize.Goals as goal

pub replace-requires-clause-fitting : goal.replace-requires-clause-fitting
replace-requires-clause-fitting g c =
    made_fits c.args.network.now c.args.name.now (named c.args.name.now c.in_ok-table.table)
    c.sound.ensures c.requires.driven c.in_ok-table.ensures.minimized

pub replace-requires-clause-acyclic : goal.replace-requires-clause-acyclic
replace-requires-clause-acyclic g c =
    made_acyclic c.args.network.now c.args.name.now (named c.args.name.now c.in_ok-table.table)
    c.sound.ensures c.requires.driven c.in_ok-table.ensures.minimized

pub returns-clause-minimized : goal.returns-clause-minimized
returns-clause-minimized g c =
    c.replace.ensures
    ∙ made_turned c.args.network.now c.args.name.now
    (named c.args.name.now c.in_ok-table.table)
    c.sound.ensures c.requires.driven c.in_ok-table.ensures.minimized

pub returns-clause-signals : goal.returns-clause-signals
returns-clause-signals g c =
    made_signals c.args.network.now c.args.name.now (named c.args.name.now c.in_ok-table.table)
    c.sound.ensures c.requires.driven c.in_ok-table.ensures.minimized c.replace.new.self
    c.replace.ensures

pub tell-requires-clause-driven : goal.tell-requires-clause-driven
tell-requires-clause-driven g c =
    subst (λ (circuit : Circuit). has (outputs_of circuit.tables) c.args.name.now ≡ true)
    (sym c.in_ok-table.ensures.serves.same) c.requires.driven

pub tell-requires-clause-minimized : goal.tell-requires-clause-minimized
tell-requires-clause-minimized g c =
    subst (λ (circuit : Circuit). (old : Table) → driver circuit.tables c.args.name.now ≡ Some old
    → named c.args.name.now c.in_ok-table.table ≡ minimized old (is_dont_care circuit old))
    (sym c.in_ok-table.ensures.serves.same) c.in_ok-table.ensures.minimized

pub returns-clause-serves : goal.returns-clause-serves
returns-clause-serves g c =
    serves_next g.F.Functions.holds g.F.Functions.tree g.F.Functions.limit
    c.least_of.new.functions c.args.network.now c.replace.new.self c.least_of.new.kept
    c.tell.new.kept (named c.args.name.now c.in_ok-table.table) c.in_ok-table.ensures.serves
    c.in_ok-tell.ensures.ready c.in_ok-tell.ensures.replaced c.in_ok-tell.ensures.kept
    c.replace.ensures
