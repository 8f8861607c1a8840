use Rattle.std.proofs.Common.{◌≡◌, ℕ, ◌+◌, ◌^◌, ◌≤◌, List, ◌++◌, length, sym, ap, ◌∙◌, arith, length-append}
use Rattle.state_code.proofs.FreeNames.{length-free}
use Rattle.state_code.proofs.encoding.encoded.Goals as goal

pub circuit_of-requires-clause-lengths : goal.circuit_of-requires-clause-lengths
circuit_of-requires-clause-lengths c =
    let used : List (List ℕ) = c.as_slice-inputs.result.now ++ c.as_slice-outputs.result.now in
    let all = length-append c.as_slice-inputs.result.now c.as_slice-outputs.result.now in
    let inputs : length c.as_slice-inputs.result.now ≡ length c.args.machine.now.inputs =
    ap length c.as_slice-inputs.ensures in
    let outputs : length c.as_slice-outputs.result.now ≡ length c.args.machine.now.outputs =
    ap length c.as_slice-outputs.ensures in
    let few = c.requires.few in
    let room : c.args.coding.width + length used ≤ 2 ^ 64 = omega arith in
    ap length (c.as_slice-4.ensures.value ∙ c.in_ok-nexts.ensures)
    ∙ (length-free c.as_slice-2.result.now used c.args.coding.width room
    ∙ sym (ap length (c.as_slice-3.ensures.value ∙ c.in_ok-states.ensures)
    ∙ length-free c.as_slice.result.now used c.args.coding.width room))
