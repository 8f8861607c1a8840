use Rattle.std.proofs.Common.{◌+◌, ℕ, List, [], length, bytes_eq, sym, ap, ap₂, ◌∙◌}
use Rattle.std.proofs.lemmas.Result.{on_ok_weaker}
use Rattle.indexmap.specs.IndexMap.{get}
use Rattle.net_core.specs.Tables.{named}
use Rattle.net_work.specs.Uses.{count_at, number_of}
use Rattle.net_work.proofs.Numbers.{uses_long, uses_are}
use Rattle.net_work.proofs.counts.UseCounts.add.Goals as goal

pub gain_all-requires-clause-many : goal.gain_all-requires-clause-many
unfolding named
gain_all-requires-clause-many g c =
    ap length c.as_slice-2.ensures.value
    ∙ (ap length (c.in_ok-numbers.ensures []) ∙ (uses_long 0 (named [] c.args.table.now).inputs (named [] c.args.table.now).rows ∙ ap length (sym c.as_slice.ensures)))

pub returns : goal.returns
unfolding named
returns g c =
    on_ok_weaker c.gain_all.result
    (λ gained output name.
    gained name
    ∙ ap (λ (n : ℕ). count_at (get bytes_eq c.args.self.now.counts name) + n)
    (ap₂ (λ (ns : List (List ℕ)) (ms : List ℕ). number_of ns ms name) c.as_slice.ensures c.as_slice-2.ensures.value
    ∙ uses_are (named output c.args.table.now) c.in_ok-numbers.numbers.items (c.in_ok-numbers.ensures output) name))
    c.gain_all.ensures
