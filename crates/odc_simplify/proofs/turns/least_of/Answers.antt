use Rattle.std.proofs.Common.{◌≡◌, is_some, sym, ap, ◌∙◌, subst}
use Rattle.std.proofs.lemmas.Bool.{false≢true}
use Rattle.std.proofs.lemmas.Option.{same_Some}
use Rattle.std.proofs.lemmas.Result.{IfOk-weaker}
use Rattle.circuit_model.specs.declared.circuit.Table.{Table}
use Rattle.circuit_laws.proofs.Drivers.{is_driven}
use Rattle.net_core.specs.Tables.{named}
use Rattle.sdc_simplify.specs.Minimized.{minimized}
use Rattle.odc_simplify.specs.Full.{is_dont_care}
use Rattle.odc_simplify.proofs.turns.least_of.Goals as goal

pub unreachable-requires : goal.unreachable-requires
unreachable-requires g c =
    false≢true (sym (ap is_some c.in-None.ensures.driver)
    ∙ is_driven c.args.network.now.tables c.args.name.now ∙ c.requires.driven)

pub returns-clause-minimized : goal.returns-clause-minimized
returns-clause-minimized g c =
    IfOk-weaker c.least_table.result _ _
    (λ made least table at.
    subst (λ (t : Table).
    named c.args.name.now made ≡ minimized t (is_dont_care c.args.network.now t))
    (same_Some (named c.args.name.now c.in-Some.table.now) table
    (sym c.in-Some.ensures.driver ∙ at)) least)
    c.least_table.ensures.minimized
