use Rattle.std.proofs.Common.{ℕ, Bool, Option, Some, List, map, length, sym, ap, ◌∙◌, subst}
use Rattle.sis_base.specs.Rows.{HasWidth}
use Rattle.cover_ops.specs.Composed.{placed_rows}
use Rattle.cover_ops.proofs.Compositions.{HasWidth-placed_rows}
use Rattle.alg_tables.specs.Taking.{entries}
use Rattle.sdc_simplify.proofs.Places.{places_below, spread_rows}
use Rattle.sdc_simplify.proofs.ties.spread_cover.Goals as goal

pub place_rows-requires-clause-below : goal.place_rows-requires-clause-below
place_rows-requires-clause-below g c =
    places_below c.args.names.now c.args.inner.now.inputs c.as_slice-2.result.now
    (ap (λ (places : List ℕ). map Some places) c.as_slice-2.ensures.value ∙ (c.in_ok-places.ensures ∙ ap (λ (names : List (List ℕ)). entries c.args.names.now names) c.as_slice.ensures))

pub of-requires : goal.of-requires
of-requires g c =
    subst (HasWidth (length c.args.names.now)) (sym c.in_ok-rows.ensures) (HasWidth-placed_rows (length c.args.names.now) c.as_slice-2.result.now (map g.R.Row.literals c.rows.result.now))

pub returns : goal.returns
returns g c =
    spread_rows c.args.names.now c.args.inner.now.inputs c.as_slice-2.result.now c.args.inner.now.cover.rows c.of.result c.requires.once c.requires.inner_once
    (ap (λ (places : List ℕ). map Some places) c.as_slice-2.ensures.value ∙ (c.in_ok-places.ensures ∙ ap (λ (names : List (List ℕ)). entries c.args.names.now names) c.as_slice.ensures))
    (subst (λ (width : ℕ). HasWidth width c.args.inner.now.cover.rows) c.requires.over c.rows.ensures.widths)
    (c.of.ensures
    ∙ ap (λ (rows : List (List (Option Bool))). record { width = length c.args.names.now; rows = rows })
    (c.in_ok-rows.ensures ∙ ap (λ (rows : List (List (Option Bool))). placed_rows (length c.args.names.now) c.as_slice-2.result.now rows) c.rows.ensures.items))
