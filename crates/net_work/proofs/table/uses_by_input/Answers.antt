use Rattle.std.proofs.Common.{ℕ, List, [], ◌∷◌, ◌++◌, map, sym, ap₂, ◌∙◌, arith}
use Rattle.net_core.specs.Tables.{characters_of}
use Rattle.net_work.specs.Uses.{uses_from}
use Rattle.net_work.proofs.Numbers.{uses_more}
use Rattle.net_work.proofs.table.uses_by_input.Goals as goal

pub loop-place-init : goal.loop-place-init
unfolding uses_from
loop-place-init g c = c.in_ok-numbers.ensures.items

pub loop-place-preserved : goal.loop-place-preserved
loop-place-preserved g c =
    c.in_ok-push.ensures.items
    ∙ (ap₂ (λ (ns : List ℕ) (n : ℕ). ns ++ n ∷ []) c.loop-place.invariant c.rows_uses.ensures.uses
    ∙ sym (uses_more c.args.table.now.inputs (map characters_of (map g.R.Row.literals c.rows-rows.result.now)) c.loop-place.place (omega (arith, c.loop-place-test.true, c.len-place-end.ensures))))
