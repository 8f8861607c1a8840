use Rattle.std.proofs.Common.{◌≡◌, ◌∙◌, Some, length, sym, ap, subst}
use Rattle.std.specs.Option.{option_map}
use Rattle.circuit_model.specs.Soundness.{IsShaped}
use Rattle.circuit_model.specs.Values.{driver}
use Rattle.circuit_model.specs.declared.circuit.Table.{Table}
use Rattle.circuit_laws.proofs.Drivers.{driver_all}
use Rattle.net_core.specs.Tables.{HasCharacters, named}
use Rattle.sis_session.proofs.algebra.named_factor.Goals as goal

pub factor_line-requires : goal.factor_line-requires
factor_line-requires c =
    let found : driver c.args.network.now.tables c.args.name.now ≡ Some (named c.args.name.now c.in-Some.table.now) = c.table.ensures.driver ∙ ap (option_map (λ table. named c.args.name.now table.now)) c.in-Some.is in
    let shaped : IsShaped (named c.args.name.now c.in-Some.table.now) = driver_all IsShaped c.args.network.now.tables c.sound.ensures.shaped c.args.name.now _ found in
    subst (λ (table : Table). HasCharacters (length table.inputs) table.rows) (sym c.in_ok-written-in-Some.ensures) shaped.0
