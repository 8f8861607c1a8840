use Rattle.std.proofs.Common.{ap, ◌∙◌}
use Rattle.cube_cover.specs.Covers.{Shape}
use Rattle.alg_div.specs.Steps.{literals_in}
use Rattle.alg_tables.proofs.Divided.{rows_placed, cover_named}
use Rattle.alg_tables.proofs.dividing.cover_table.Goals as goal

pub cover_of-requires : goal.cover_of-requires
cover_of-requires g c =
    rows_placed c.len.result c.in_ok-inputs.inputs c.as_slice.result.now c.args.cover.now (literals_in c.in_ok-rows.rows.items) (literals_in c.as_slice-2.result.now) c.len.ensures c.as_slice.ensures
    c.in_ok-rows.ensures (ap literals_in c.as_slice-2.ensures.value)

pub returns-clause-table : goal.returns-clause-table
returns-clause-table g c = λ name.
    cover_named _ c.in_ok-inputs.inputs c.as_slice.result.now c.in_ok-made.made c.args.cover.now (literals_in c.in_ok-rows.rows.items) name c.in_ok-inputs.ensures c.as_slice.ensures c.in_ok-rows.ensures
    (ap (λ (s : Shape). s.rows) c.in_ok-made.ensures ∙ ap literals_in c.as_slice-2.ensures.value)
