use Rattle.std.proofs.Common.{sym, ap, ◌∙◌}
use Rattle.std.specs.Prelude.{is_none}
use Rattle.alg_tables.proofs.Divided.{stays_whole, turned}
use Rattle.alg_tables.proofs.dividing.divided_table.Goals as goal

pub returns-in-None-clause-none : goal.returns-in-None-clause-none
returns-in-None-clause-none g c = λ _ output.
    stays_whole c.args.table.now c.args.name.now c.args.bit c.args.cover.now output
    (sym (ap is_none c.in-None.is) ∙ c.in_ok-division_of.ensures.exact output)

pub returns-in_ok-tidy_table-in-Some-clause-some : goal.returns-in_ok-tidy_table-in-Some-clause-some
returns-in_ok-tidy_table-in-Some-clause-some g c = λ output.
    let parts = rw c.in-Some.is at c.in_ok-division_of.ensures.some in
    turned c.args.table.now c.args.name.now c.args.bit c.args.cover.now c.in-Some.parts.divisor
    c.in-Some.parts.quotient.rows c.in-Some.parts.remainder.rows
    c.in_ok-rejoined-in-Some.rejoined c.in_ok-tidy_table-in-Some.tidy_table
    parts.divisor parts.quotient parts.remainder c.in_ok-rejoined-in-Some.ensures.inputs
    c.in_ok-rejoined-in-Some.ensures.rows c.in_ok-rejoined-in-Some.ensures.phase
    c.in_ok-tidy_table-in-Some.ensures.tidy output
    (sym (ap is_none c.in-Some.is) ∙ c.in_ok-division_of.ensures.exact output)

pub returns-in_ok-tidy_table-in-Some-clause-exact : goal.returns-in_ok-tidy_table-in-Some-clause-exact
returns-in_ok-tidy_table-in-Some-clause-exact g c = λ output.
    sym (ap is_none c.in-Some.is) ∙ c.in_ok-division_of.ensures.exact output
