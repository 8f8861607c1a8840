use Rattle.std.proofs.Common.{◌≡◌, ℕ, List, Option, Bool, length, sym, ap, subst}
use Rattle.std.specs.Prelude.{IfOk}
use Rattle.cube_cover.specs.Covers.{Shape}
use Rattle.alg_div.specs.Cubes.{Has}
use Rattle.alg_kernel.specs.Kernels.{MoreKernels}
use Rattle.net_core.specs.Tables.{covered}
use Rattle.net_decomp.specs.Partings.{rows_of}
use Rattle.sis_session.proofs.kernels.kernels_of.Goals as goal
use Rattle.sis_base.specs.declared.limits.TheConstants.{MAX_KERNELS}

pub returns-in-Ok-clause-widths : goal.returns-in-Ok-clause-widths
unfolding covered
returns-in-Ok-clause-widths c =
    let width : c.in-Ok.table.cover.width ≡ length c.args.written.now.inputs = ap (λ table. table.cover.width) c.in-Ok.ensures in
    subst (λ (n : ℕ). IfOk c.kernels.result (λ found. (kernel : Shape) → Has kernel found.items → kernel.width ≡ n)) width c.kernels.ensures.widths

pub returns-in-Ok-clause-refused : goal.returns-in-Ok-clause-refused
unfolding covered
returns-in-Ok-clause-refused c =
    let width : c.in-Ok.table.cover.width ≡ length c.args.written.now.inputs = ap (λ table. table.cover.width) c.in-Ok.ensures in
    let rows : c.in-Ok.table.cover.rows ≡ rows_of c.args.written.now = ap (λ table. table.cover.rows) c.in-Ok.ensures in
    λ many. c.kernels.ensures.refused
    (subst (λ (n : ℕ). MoreKernels MAX_KERNELS n c.in-Ok.table.cover.rows) (sym width)
    (subst (λ (rs : List (List (Option Bool))). MoreKernels MAX_KERNELS (length c.args.written.now.inputs) rs) (sym rows) many))

pub returns-in-Ok-clause-over : goal.returns-in-Ok-clause-over
unfolding covered
returns-in-Ok-clause-over c =
    let width : c.in-Ok.table.cover.width ≡ length c.args.written.now.inputs = ap (λ table. table.cover.width) c.in-Ok.ensures in
    let rows : c.in-Ok.table.cover.rows ≡ rows_of c.args.written.now = ap (λ table. table.cover.rows) c.in-Ok.ensures in
    λ limit. subst (λ (rs : List (List (Option Bool))). MoreKernels MAX_KERNELS (length c.args.written.now.inputs) rs) rows
    (subst (λ (n : ℕ). MoreKernels MAX_KERNELS n c.in-Ok.table.cover.rows) width (c.kernels.ensures.over limit))
