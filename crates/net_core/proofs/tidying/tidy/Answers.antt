use Rattle.std.proofs.Common.{ℕ, List, Bool, Option, length, map, sym, ap, ◌∙◌, subst}
use Rattle.std.proofs.lemmas.Bool.{and_parts}
use Rattle.sis_base.specs.Rows.{HasWidth}
use Rattle.circuit_tables.specs.Tidy.{rows_once}
use Rattle.net_core.specs.Tables.{characters_of}
use Rattle.net_core.proofs.Narrowed.{once_wide, tidied_rows}
use Rattle.net_core.proofs.tidying.tidy.Goals as goal

pub narrowed-requires : goal.narrowed-requires
narrowed-requires g c =
    let wide : HasWidth (length c.args.table.now.inputs) c.args.table.now.cover.rows = subst (λ (n : ℕ). HasWidth n c.args.table.now.cover.rows) c.requires c.rows.ensures.widths in
    once_wide (length c.args.table.now.inputs) (map g.R.Row.literals c.rows.result.now) _ (subst (HasWidth (length c.args.table.now.inputs)) (sym c.rows.ensures.items) wide) c.in_ok-rows.ensures

pub returns-clause-tidy : goal.returns-clause-tidy
returns-clause-tidy g c = λ name.
    let plain = and_parts _ _ (sym c.in_ok-is_plain.ensures ∙ c.if-not-branch.false) in
    c.in_ok-made.ensures.narrow name
    ∙ tidied_rows c.args.table.now name _ plain.0 plain.1 (c.in_ok-rows.ensures ∙ ap (λ (l : List (List (Option Bool))). rows_once (map characters_of l)) c.rows.ensures.items)
