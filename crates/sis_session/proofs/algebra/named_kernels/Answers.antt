use Rattle.std.proofs.Common.{◌≡◌, ◌∙◌, ℕ, List, Option, Some, length, sym, ap, subst}
use Rattle.std.specs.Prelude.{Ok, Err}
use Rattle.std.specs.Option.{option_map}
use Rattle.circuit_model.specs.Soundness.{IsShaped}
use Rattle.circuit_model.specs.Values.{driver}
use Rattle.circuit_model.specs.declared.circuit.Table.{Table}
use Rattle.circuit_laws.proofs.Drivers.{driver_all}
use Rattle.net_core.specs.Tables.{HasCharacters, named}
use Rattle.net_candidates.specs.Extracting.{HasManyKernels}
use Rattle.sis_session.specs.Commands.{KernelsOf, KernelTold}
use Rattle.sis_session.specs.declared.refusal.Refusal.{Refusal}
use Rattle.sis_session.specs.declared.refusal.Refusal.TheVariants.{KernelLimit}
use Rattle.sis_session.proofs.algebra.named_kernels.Goals as goal

pub kernel_lines-requires : goal.kernel_lines-requires
kernel_lines-requires c =
    let found : driver c.args.network.now.tables c.args.name.now ≡ Some (named c.args.name.now c.in-Some.table.now) = c.table.ensures.driver ∙ ap (option_map (λ table. named c.args.name.now table.now)) c.in-Some.is in
    let shaped : IsShaped (named c.args.name.now c.in-Some.table.now) = driver_all IsShaped c.args.network.now.tables c.sound.ensures.shaped c.args.name.now _ found in
    subst (λ (table : Table). HasCharacters (length table.inputs) table.rows) (sym c.in_ok-written.ensures) shaped.0

pub returns-in-Ok : goal.returns-in-Ok
returns-in-Ok c =
    let found : driver c.args.network.now.tables c.args.name.now ≡ Some (named c.args.name.now c.in-Some.table.now) = c.table.ensures.driver ∙ ap (option_map (λ table. named c.args.name.now table.now)) c.in-Some.is in
    subst (λ (driven : Option Table). KernelTold c.args.name.now driven (Ok c.in-Ok.text.items)) (sym found)
    (subst (λ (table : Table). KernelsOf c.args.name.now table (Ok c.in-Ok.text.items)) c.in_ok-written.ensures (c.in-Ok.ensures.lines, c.in-Ok.ensures.refused))

pub returns-in-Err-KernelLimit : goal.returns-in-Err-KernelLimit
returns-in-Err-KernelLimit c =
    let found : driver c.args.network.now.tables c.args.name.now ≡ Some (named c.args.name.now c.in-Some.table.now) = c.table.ensures.driver ∙ ap (option_map (λ table. named c.args.name.now table.now)) c.in-Some.is in
    let is = c.in-Err-KernelLimit.is in
    let which = c.in-Err-KernelLimit.field-0-is in
    let many : HasManyKernels c.in_ok-written.written = c.kernel_lines.ensures.over cc in
    let why : Refusal = KernelLimit c.in_ok-copy-in-Err-KernelLimit.field-0 in
    subst (λ (driven : Option Table). KernelTold c.args.name.now driven (Err why)) (sym found)
    (subst (λ (table : Table). KernelsOf c.args.name.now table (Err why)) c.in_ok-written.ensures
    (ap (λ (name : List ℕ). KernelLimit name) c.in_ok-copy-in-Err-KernelLimit.ensures, many))
