use Rattle.std.proofs.Common.{◌≡◌, ℕ, List, map, take, refl, length, ap, ◌∙◌, arith}
use Rattle.std.proofs.lemmas.Result.{IfOk-weaker}
use Rattle.net_core.specs.Tables.{named}
use Rattle.net_decomp.specs.Sums.{shifted, sum_table}
use Rattle.net_decomp.proofs.Middle.{shifted_is, span_table}
use Rattle.net_decomp.proofs.Singles.{copied_wide}
use Rattle.net_decomp.proofs.sums.sum_table.Goals as goal

pub tidy_table-requires : goal.tidy_table-requires
tidy_table-requires g c =
    copied_wide c.split_at-2.result.1.now c.in_ok-names_copied.field-0 (length c.split_at-2.result.1.now) (map (shifted c.span_of-from.result.from) c.args.literals.now) _ c.in_ok-names_copied.ensures refl
    (c.in_ok-rows.ensures ∙ shifted_is (length c.split_at-2.result.1.now) c.span_of-from.result.from c.args.literals.now)

pub returns-clause-tidy : goal.returns-clause-tidy
returns-clause-tidy g c =
    IfOk-weaker c.tidy_table.result _ (λ made. (name : List ℕ) → named name made ≡ sum_table c.args.names.now name c.args.phase c.args.literals.now)
    (λ made h. λ name.
    span_table c.args.names.now c.split_at.result.0.now c.split_at-2.result.1.now c.in_ok-names_copied.field-0 c.span_of-from.result.from c.span_of-from.result.to (length c.split_at-2.result.1.now) c.args.literals.now name c.args.phase _ (named name made)
    c.requires c.span_of-from.ensures.within c.span_of-from.ensures.order (omega (arith, c.span_of-from.ensures.fits, c.len.ensures))
    (c.split_at.ensures.front ∙ ap (λ (list : List (List ℕ)). take c.span_of-from.result.to list) c.as_slice.ensures) c.split_at-2.ensures.back c.in_ok-names_copied.ensures refl c.in_ok-rows.ensures (h name))
    c.tidy_table.ensures.tidy
