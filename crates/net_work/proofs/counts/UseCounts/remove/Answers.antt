use Rattle.std.proofs.Common.{◌≤◌, ◌+◌, ℕ, List, [], length, bytes_eq, sym, ap, ap₂, ◌∙◌, subst}
use Rattle.std.proofs.lemmas.Result.{on_ok_weaker}
use Rattle.indexmap.specs.IndexMap.{get}
use Rattle.net_core.specs.Tables.{named}
use Rattle.net_work.specs.Uses.{count_at, number_of}
use Rattle.net_work.proofs.Numbers.{uses_long, uses_are}
use Rattle.net_work.proofs.counts.UseCounts.remove.Goals as goal

pub lose_all-requires-clause-many : goal.lose_all-requires-clause-many
unfolding named
lose_all-requires-clause-many g c =
    ap length c.as_slice-2.ensures.value
    ∙ (ap length (c.in_ok-numbers.ensures []) ∙ (uses_long 0 (named [] c.args.table.now).inputs (named [] c.args.table.now).rows ∙ ap length (sym c.as_slice.ensures)))

pub lose_all-requires-clause-enough : goal.lose_all-requires-clause-enough
unfolding named
lose_all-requires-clause-enough g c = λ name.
    subst (λ (n : ℕ). n ≤ count_at (get bytes_eq c.args.self.now.counts name))
    (sym (ap₂ (λ (ns : List (List ℕ)) (ms : List ℕ). number_of ns ms name) c.as_slice.ensures c.as_slice-2.ensures.value
    ∙ uses_are (named [] c.args.table.now) c.in_ok-numbers.numbers.items (c.in_ok-numbers.ensures []) name)) (c.requires.counted name)

pub returns : goal.returns
unfolding named
returns g c =
    on_ok_weaker c.lose_all.result
    (λ lost output name.
    ap (λ (n : ℕ). count_at (get bytes_eq c.lose_all.new.counts name) + n)
    (sym (ap₂ (λ (ns : List (List ℕ)) (ms : List ℕ). number_of ns ms name) c.as_slice.ensures c.as_slice-2.ensures.value
    ∙ uses_are (named output c.args.table.now) c.in_ok-numbers.numbers.items (c.in_ok-numbers.ensures output) name))
    ∙ lost name)
    c.lose_all.ensures
