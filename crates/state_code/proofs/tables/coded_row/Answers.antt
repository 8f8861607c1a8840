use Rattle.std.proofs.Common.{sym, ◌∙◌}
use Rattle.std.proofs.lemmas.List.{append-nil}
use Rattle.state_code.specs.Encoded.{code_character}
use Rattle.state_code.proofs.Steps.{characters_more}
use Rattle.state_code.proofs.tables.coded_row.Goals as goal

pub loop-bit-init : goal.loop-bit-init
loop-bit-init c = c.in_ok-made.ensures ∙ sym (append-nil c.args.row.now.input)

pub loop-bit-preserved : goal.loop-bit-preserved
loop-bit-preserved c =
    let more = characters_more c.args.row.now.input
    (code_character c.args.coding.style c.args.row.now.current) c.loop-bit.bit in
    cc (c.in_ok-push.ensures.ok, c.code_character.ensures)
