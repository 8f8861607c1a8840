use Rattle.std.proofs.Common.{◌≡◌, map, length, refl, sym, ap, ◌∙◌, arith}
use Rattle.std.proofs.lemmas.List.{length-map}
use Rattle.net_core.specs.Tables.{named, characters_of}
use Rattle.net_core.proofs.table.bounded.Goals as goal

pub returns-then-rows-lt-ROW_BOUND : goal.returns-then-rows-lt-ROW_BOUND
unfolding named
returns-then-rows-lt-ROW_BOUND g c =
    let few : length c.rows.result.now ≡ length (map characters_of c.args.table.cover.rows) =
    sym (length-map c.rows.result.now g.R.Row.literals) ∙ ap length c.rows.ensures.items ∙ sym (length-map c.args.table.cover.rows characters_of) in
    (refl, λ name. record { rows = omega (arith, few, c.if-rows-lt-ROW_BOUND.true); inputs = omega (arith, c.len.ensures, c.if-len-lt-INPUT_BOUND.true) })
