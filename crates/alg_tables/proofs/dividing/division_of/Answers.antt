use Rattle.std.proofs.Common.{true, [], ap, ◌∙◌}
use Rattle.cube_cover.specs.Covers.{Shape}
use Rattle.alg_div.specs.Steps.{literals_in}
use Rattle.alg_tables.proofs.Divided.{rows_placed, divisor_rows, quotient_over, unread_whole, lacking_whole, empty_whole, turned_whole}
use Rattle.alg_tables.proofs.dividing.division_of.Goals as goal

pub returns-then-not-is_cover_over-clause-exact : goal.returns-then-not-is_cover_over-clause-exact
returns-then-not-is_cover_over-clause-exact g c =
    unread_whole c.args.table.now [] true c.args.cover.now c.as_slice.result.now
    c.is_cover_over.result c.is_cover_over.ensures c.as_slice.ensures
    c.if-not-is_cover_over.true

pub cover_of-requires : goal.cover_of-requires
cover_of-requires g c =
    rows_placed c.len.result c.args.table.now.inputs c.as_slice-2.result.now c.args.cover.now
    (literals_in c.in_ok-rows.rows.items) (literals_in c.as_slice-3.result.now) c.len.ensures
    c.as_slice-2.ensures
    c.in_ok-rows.ensures (ap literals_in c.as_slice-3.ensures.value)

pub returns-then-not-rows_have_each-clause-exact : goal.returns-then-not-rows_have_each-clause-exact
returns-then-not-rows_have_each-clause-exact g c =
    lacking_whole c.args.table.now [] true c.args.cover.now
    c.rows_have_each.result c.in_ok-divisor.divisor c.requires c.rows-of_one_width.ensures.widths
    (divisor_rows c.args.table.now.inputs c.as_slice-2.result.now c.args.cover.now
    c.in_ok-divisor.divisor (literals_in c.in_ok-rows.rows.items)
    (literals_in c.as_slice-3.result.now) c.as_slice-2.ensures
    c.in_ok-rows.ensures (ap literals_in c.as_slice-3.ensures.value)
    (ap (λ (s : Shape). s.rows) c.in_ok-divisor.ensures))
    c.rows_have_each.ensures c.if-not-rows_have_each.true

pub returns-then-is_empty-clause-exact : goal.returns-then-is_empty-clause-exact
returns-then-is_empty-clause-exact g c =
    empty_whole c.args.table.now [] true c.args.cover.now g.R.Row.literals
    c.rows.result.now c.is_empty.result c.in_ok-divisor.divisor c.in_ok-quotient.quotient.rows
    c.requires
    c.rows-of_one_width.ensures.widths
    (divisor_rows c.args.table.now.inputs c.as_slice-2.result.now c.args.cover.now
    c.in_ok-divisor.divisor (literals_in c.in_ok-rows.rows.items)
    (literals_in c.as_slice-3.result.now) c.as_slice-2.ensures
    c.in_ok-rows.ensures (ap literals_in c.as_slice-3.ensures.value)
    (ap (λ (s : Shape). s.rows) c.in_ok-divisor.ensures))
    c.in_ok-quotient.ensures.quotient c.rows.ensures.items c.is_empty.ensures c.if-is_empty.true

pub returns-clause-exact : goal.returns-clause-exact
returns-clause-exact g c =
    turned_whole c.args.table.now [] true c.args.cover.now g.R.Row.literals
    c.rows.result.now c.as_slice.result.now c.is_cover_over.result c.is_empty.result
    c.in_ok-divisor.divisor
    c.in_ok-quotient.quotient.rows c.requires c.rows-of_one_width.ensures.widths
    (divisor_rows c.args.table.now.inputs c.as_slice-2.result.now c.args.cover.now
    c.in_ok-divisor.divisor (literals_in c.in_ok-rows.rows.items)
    (literals_in c.as_slice-3.result.now) c.as_slice-2.ensures
    c.in_ok-rows.ensures (ap literals_in c.as_slice-3.ensures.value)
    (ap (λ (s : Shape). s.rows) c.in_ok-divisor.ensures))
    c.in_ok-quotient.ensures.quotient c.rows.ensures.items c.is_empty.ensures c.if-is_empty.false
    c.is_cover_over.ensures c.as_slice.ensures c.if-not-is_cover_over.false

pub returns-clause-some : goal.returns-clause-some
returns-clause-some g c =
    let divisor = divisor_rows c.args.table.now.inputs c.as_slice-2.result.now c.args.cover.now
    c.in_ok-divisor.divisor (literals_in c.in_ok-rows.rows.items)
    (literals_in c.as_slice-3.result.now) c.as_slice-2.ensures
    c.in_ok-rows.ensures (ap literals_in c.as_slice-3.ensures.value)
    (ap (λ (s : Shape). s.rows) c.in_ok-divisor.ensures) in
    record {
      divisor = divisor;
      quotient = quotient_over c.args.table.now [] true c.args.cover.now c.in_ok-divisor.divisor
          c.in_ok-quotient.quotient.rows c.requires c.rows-of_one_width.ensures.widths divisor
          c.in_ok-quotient.ensures.quotient;
      remainder = c.in_ok-quotient.ensures.remainder;
      quotient_wide = c.in_ok-quotient.ensures.widths.0 ∙ c.requires;
      remainder_wide = c.in_ok-quotient.ensures.widths.1 ∙ c.requires;
    }
