use Rattle.std.proofs.Common.{◌∙◌, List, length, sym, ap, subst}
use Rattle.cube_cover.specs.Covers.{Shape}
use Rattle.alg_div.specs.Cubes.{Has}
use Rattle.sis_session.proofs.kernels.kernel_lines.Goals as goal

pub lines_of-requires : goal.lines_of-requires
lines_of-requires c = λ kernel there.
    c.in-Ok.ensures.widths kernel (subst (λ (kernels : List Shape). Has kernel kernels) c.as_slice-2.ensures.value there)
    ∙ ap length (sym c.as_slice.ensures)
