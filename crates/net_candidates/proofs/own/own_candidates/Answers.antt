use Rattle.std.proofs.Common.{◌≡◌, ◌∙◌}
use Rattle.std.proofs.lemmas.Result.{err_from_is_err_and}
use Rattle.net_core.specs.Tables.{named}
use Rattle.net_candidates.proofs.Twos.{fx_listed}
use Rattle.net_candidates.proofs.OfTables.{gkx_own, gkx_listable, gkx_many}
use Rattle.net_candidates.proofs.own.own_candidates.Goals as goal

pub returns-in_ok-sums_and_products-in-Fx-clause-own : goal.returns-in_ok-sums_and_products-in-Fx-clause-own
returns-in_ok-sums_and_products-in-Fx-clause-own g c = λ output cover.
    let same : c.as_slice.result.now ≡ c.in_ok-cubes-in-Fx.cubes = cc in
    fx_listed c.args.rule (named output c.args.table.now) c.as_slice.result.now c.in_ok-sums_and_products-in-Fx.field-0.items c.in-Fx.is (same ∙ c.in_ok-cubes-in-Fx.ensures output)
    c.in_ok-sums_and_products-in-Fx.ensures cover

pub returns-in_ok-covers_over-in-Gkx-clause-own : goal.returns-in_ok-covers_over-in-Gkx-clause-own
returns-in_ok-covers_over-in-Gkx-clause-own g c = λ output cover.
    gkx_own c.args.rule output c.args.table.now c.as_slice-in-Gkx.result.now c.as_slice-in-Gkx-2.result.now c.in_ok-kernels-in-Gkx.kernels.items c.in_ok-covers_over-in-Gkx.field-0.items c.in-Gkx.is c.requires
    c.as_slice-in-Gkx.ensures c.as_slice-in-Gkx-2.ensures.value c.in_ok-covers_over-in-Gkx.ensures c.in_ok-kernels-in-Gkx.ensures.kernels cover

pub returns-in_ok-covers_over-in-Gkx-clause-listable : goal.returns-in_ok-covers_over-in-Gkx-clause-listable
returns-in_ok-covers_over-in-Gkx-clause-listable g c = λ output many.
    gkx_listable c.args.rule output c.args.table.now c.in-Gkx.is c.requires c.in_ok-kernels-in-Gkx.ensures.refused many

pub returns-in_err-kernels-in-Gkx-clause-many : goal.returns-in_err-kernels-in-Gkx-clause-many
returns-in_err-kernels-in-Gkx-clause-many g c =
    let p = err_from_is_err_and c.from_residual-in_err-kernels-in-Gkx.result c.from_residual-in_err-kernels-in-Gkx.ensures.1 in
    rw (p.1, p.2)
    (λ fault output. gkx_many c.args.rule output c.args.table.now c.in_err-kernels-in-Gkx.field-0.0 c.in-Gkx.is c.requires fault (λ e. c.in_err-kernels-in-Gkx.ensures.over (cc e)))
