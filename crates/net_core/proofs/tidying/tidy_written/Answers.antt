use Rattle.std.proofs.Common.{ℕ, refl, ap, ◌∙◌, subst}
use Rattle.sis_base.specs.Rows.{HasWidth}
use Rattle.net_core.specs.Tables.{named, covered}
use Rattle.circuit_tables.specs.Tidy.{tidied}
use Rattle.net_core.proofs.Tidied.{named_tidy, tidied_wide}
use Rattle.net_core.proofs.tidying.tidy_written.Goals as goal

pub from_written-requires : goal.from_written-requires
from_written-requires g c =
    rw (c.in_ok-made.ensures, c.in_ok-written.ensures)
    (tidied_wide c.args.table.now _ (subst (λ (n : ℕ). HasWidth n c.args.table.now.cover.rows) c.requires c.rows-of_one_width.ensures.widths))

pub returns-clause-tidy : goal.returns-clause-tidy
returns-clause-tidy g c = λ q. ap (named q) (c.in_ok-tidy.ensures ∙ ap covered (c.in_ok-made.ensures ∙ ap tidied c.in_ok-written.ensures)) ∙ named_tidy c.args.table.now _ q

pub returns-clause-over : goal.returns-clause-over
unfolding covered
returns-clause-over g c = rw c.in_ok-tidy.ensures refl
