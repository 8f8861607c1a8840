use Rattle.std.proofs.Common.{◌≡◌, true, false, sym, ◌∙◌}
use Rattle.net_sweep.proofs.Bits.{full_bit, empty_bit, no_bit}
use Rattle.net_sweep.proofs.constants.bit_by_cover.Goals as goal

pub returns-then-is_full : goal.returns-then-is_full
returns-then-is_full c = sym (full_bit c.args.table.now (c.requires.full.0 c.if-is_full.true))

pub returns-then-is_empty : goal.returns-then-is_empty
returns-then-is_empty c = sym (empty_bit c.args.table.now (sym c.is_empty.ensures ∙ c.if-is_empty.true))

pub returns : goal.returns
returns c =
    sym (no_bit c.args.table.now c.requires.shaped (λ full. let z : true ≡ false = sym (c.requires.full.1 full) ∙ c.if-is_full.false in cc) (sym c.is_empty.ensures ∙ c.if-is_empty.false))
