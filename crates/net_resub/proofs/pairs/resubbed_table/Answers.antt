use Rattle.std.proofs.Common.{◌≡◌, ℕ, None, IfSome, List, sym, ap, ◌∙◌}
use Rattle.std.proofs.lemmas.Result.{IfOk-weaker}
use Rattle.cover_names.specs.Literals.{NamedCover}
use Rattle.net_core.specs.Tables.{named}
use Rattle.net_core.specs.Places.{written_of}
use Rattle.net_resub.specs.Resubbed.{row_cubes, resubbed}
use Rattle.alg_tables.specs.Dividing.{divided}
use Rattle.net_resub.proofs.Rows.{some_weaker}
use Rattle.net_resub.proofs.pairs.resubbed_table.Goals as goal

pub returns-clause-some : goal.returns-clause-some
unfolding named
returns-clause-some g c =
    let same : c.as_slice.result.now ≡ row_cubes (written_of c.args.by.now) = c.as_slice.ensures.value ∙ c.in_ok-cubes.ensures in
    IfOk-weaker c.divided_table.result
    (λ found. IfSome found (λ made. (output : List ℕ) → named output made ≡ divided c.args.by.now.output c.args.by.now.table.phase c.as_slice.result.now (named output c.args.entry.now.table)))
    (λ found. IfSome found (λ made. named c.args.entry.now.output made ≡ resubbed (written_of c.args.by.now) (written_of c.args.entry.now)))
    (λ found.
    some_weaker (λ made. (output : List ℕ) → named output made ≡ divided c.args.by.now.output c.args.by.now.table.phase c.as_slice.result.now (named output c.args.entry.now.table))
    (λ made. named c.args.entry.now.output made ≡ resubbed (written_of c.args.by.now) (written_of c.args.entry.now)) found
    (λ made h. h c.args.entry.now.output ∙ ap (λ (cubes : NamedCover). divided c.args.by.now.output c.args.by.now.table.phase cubes (written_of c.args.entry.now)) same))
    c.divided_table.ensures.some

pub returns-clause-none : goal.returns-clause-none
unfolding named
returns-clause-none g c =
    let same : c.as_slice.result.now ≡ row_cubes (written_of c.args.by.now) = c.as_slice.ensures.value ∙ c.in_ok-cubes.ensures in
    IfOk-weaker c.divided_table.result
    (λ found. found ≡ None → (output : List ℕ) → divided c.args.by.now.output c.args.by.now.table.phase c.as_slice.result.now (named output c.args.entry.now.table) ≡ named output c.args.entry.now.table)
    (λ found. found ≡ None → resubbed (written_of c.args.by.now) (written_of c.args.entry.now) ≡ written_of c.args.entry.now)
    (λ found h none.
    ap (λ (cubes : NamedCover). divided c.args.by.now.output c.args.by.now.table.phase cubes (written_of c.args.entry.now)) (sym same) ∙ h none c.args.entry.now.output)
    c.divided_table.ensures.none
