use Rattle.std.proofs.Common.{◌≡◌, ◌≤◌, length, sym, ap, ◌∙◌, subst, arith}
use Rattle.sis_base.specs.declared.limits.TheConstants.{MAX_INPUTS}
use Rattle.net_core.specs.Reads.{HasBounds}
use Rattle.state_code.specs.Codes.{leaf_count, code_width}
use Rattle.state_code.proofs.CircuitBounds.{states_few, encoded_bounds}
use Rattle.state_code.proofs.assigning.assign.Goals as goal

pub overflow_add-count : goal.overflow_add-count
overflow_add-count g c =
    let states = states_few c.args.machine.now c.requires in
    let inputs = c.requires.few_inputs in
    omega (arith, c.len.ensures, c.len-2.ensures, c.code_width-width.ensures.bound)

pub returns-clause-bounds : goal.returns-clause-bounds
returns-clause-bounds g c =
    let width : c.code_width-width.result ≡ code_width c.args.style
    (length c.args.machine.now.states) =
    c.code_width-width.ensures.value ∙ ap (code_width c.args.style) c.len.ensures in
    let few : leaf_count c.args.style c.args.machine.now ≤ MAX_INPUTS =
    omega (arith, c.len-2.ensures, c.if-count-gt-MAX_INPUTS.false) in
    subst HasBounds (sym c.in_ok-encode.ensures.network)
    (encoded_bounds c.args.style c.args.machine.now c.requires few)
