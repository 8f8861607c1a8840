use Rattle.std.proofs.Common.{rules, ◌≡◌, ℕ, List, Err, map, ap, ◌∙◌}
use Rattle.func_core.specs.declared.functions.FuncFault.TheVariants.{TooBig}
use Rattle.net_func.specs.Numbering.{number_in}
use Rattle.net_func.proofs.Adding.{list_stands, shaped_rows, part_big, table_added}
use Rattle.net_func.proofs.building.add_table.Goals as goal

pub table_function-requires-clause-stand : goal.table_function-requires-clause-stand
table_function-requires-clause-stand g c =
    rw c.as_slice-2.ensures.value
    (list_stands g.F.Functions.holds g.F.Functions.tree g.F.Functions.limit c.args.functions.now
    (number_in c.args.numbers.now) c.args.table.now.inputs c.in_ok-inputs.inputs.items
    c.requires.stand
    (c.in_ok-inputs.ensures ∙ ap (λ (names : List (List ℕ)). map (number_in c.args.numbers.now)
    names) c.as_slice.ensures))

pub table_function-requires-clause-width : goal.table_function-requires-clause-width
table_function-requires-clause-width g c =
    rw c.as_slice-2.ensures.value
    (shaped_rows c.args.table.now c.in_ok-inputs.inputs.items (number_in c.args.numbers.now)
    c.requires.shaped
    (c.in_ok-inputs.ensures ∙ ap (λ (names : List (List ℕ)). map (number_in c.args.numbers.now)
    names) c.as_slice.ensures))

pub returns-in_err-made-clause-big : goal.returns-in_err-made-clause-big
returns-in_err-made-clause-big g c = λ h value right.
    let same : c.from_residual-in_err-made.result ≡ Err c.in_err-made.field-0.0 = search rules in
    let gone : c.in_err-made.field-0.0 ≡ TooBig = cc in
    part_big g.F.Functions.holds g.F.Functions.tree g.F.Functions.limit c.args.functions.now
    (number_in c.args.numbers.now) value c.args.table.now c.in_ok-inputs.inputs.items right
    (c.in_ok-inputs.ensures ∙ ap (λ (names : List (List ℕ)). map (number_in c.args.numbers.now)
    names) c.as_slice.ensures)
    (rw (← c.as_slice-2.ensures.value) (c.in_err-made.ensures.big (ap Err gone)))

pub returns-clause-ok : goal.returns-clause-ok
returns-clause-ok g c =
    table_added g.F.Functions.holds g.F.Functions.tree g.F.Functions.limit c.args.functions.now
    c.table_function.new.functions (number_in c.args.numbers.now) (number_in c.insert.new.self)
    c.args.table.now c.in_ok-inputs.inputs.items c.in_ok-made.made c.in_ok-made.ensures.stays
    c.requires.stand
    (c.in_ok-inputs.ensures ∙ ap (λ (names : List (List ℕ)). map (number_in c.args.numbers.now)
    names) c.as_slice.ensures)
    (rw (← c.as_slice-2.ensures.value) c.in_ok-made.ensures.ok) c.in_ok-insert.ensures
