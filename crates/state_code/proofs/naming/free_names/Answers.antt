use Rattle.std.proofs.Common.{◌≡◌, ℕ, ◌+◌, ◌<◌, List, [], ◌∷◌, ◌++◌, length, sym, ap, ◌∙◌, if◌then◌else◌, arith, length-append}
use Rattle.circuit_model.specs.Names.{has}
use Rattle.state_code.specs.Naming.{numbered, unused}
use Rattle.state_code.proofs.Steps.{unused_more, unused_short, free_early, free_last}
use Rattle.state_code.proofs.naming.free_names.Goals as goal

pub returns-then-len-count : goal.returns-then-len-count
returns-then-len-count c =
    let used : List (List ℕ) = c.args.inputs.now ++ c.args.outputs.now in
    let all = length-append c.args.inputs.now c.args.outputs.now in
    let long : length c.loop-number.names.items ≡ c.args.count =
    omega (arith, c.len.ensures, c.if-len-count.true) in
    c.loop-number.invariant.made
    ∙ free_early c.args.prefix.now used c.args.count c.loop-number.number (omega arith)
    (sym (ap length c.loop-number.invariant.made) ∙ long)

pub loop-number-preserved : goal.loop-number-preserved
loop-number-preserved c =
    let used : List (List ℕ) = c.args.inputs.now ++ c.args.outputs.now in
    let less : length c.loop-number.names.items < c.args.count =
    omega (arith, c.len.ensures, c.if-len-count.false, c.loop-number.invariant.few) in
    let same : length c.loop-number.names.items ≡ length
    (unused c.args.prefix.now used c.loop-number.number) =
    ap length c.loop-number.invariant.made in
    let made : c.push_free.new.names.items ≡ unused c.args.prefix.now used
    (c.loop-number.number + 1) =
    c.in_ok-push_free.ensures
    ∙ (ap (λ (names : List (List ℕ)). names
    ++ (if has used (numbered c.args.prefix.now c.loop-number.number) then [] else numbered
    c.args.prefix.now c.loop-number.number ∷ [])) c.loop-number.invariant.made
    ∙ sym (unused_more c.args.prefix.now used c.loop-number.number)) in
    let short = unused_short c.args.prefix.now used c.loop-number.number c.args.count
    (omega arith) in
    let long : length c.push_free.new.names.items ≡ length
    (unused c.args.prefix.now used (c.loop-number.number + 1)) = ap length made in
    record { made = made; few = omega arith }

pub returns : goal.returns
returns c =
    let used : List (List ℕ) = c.args.inputs.now ++ c.args.outputs.now in
    let all = length-append c.args.inputs.now c.args.outputs.now in
    let same : length c.loop-number.names.items ≡ length
    (unused c.args.prefix.now used c.loop-number.number) =
    ap length c.loop-number.invariant.made in
    c.loop-number.invariant.made
    ∙ free_last c.args.prefix.now used c.args.count c.loop-number.number (omega arith)
    (omega (arith, c.loop-number.invariant.few))
