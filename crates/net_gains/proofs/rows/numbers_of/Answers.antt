use Rattle.std.proofs.Common.{◌≡◌, ℕ, false, List, Vec, Global, map, sym, ap, ◌∙◌}
use Rattle.std.specs.List.{list_all}
use Rattle.circuit_model.specs.Names.{has, all_different}
use Rattle.net_gains.specs.Numbers.{lists_in}
use Rattle.net_gains.proofs.Numbered.{unknown_input, twice_row, numbered, are_told}
use Rattle.net_gains.proofs.rows.numbers_of.Goals as goal

pub returns-in-None : goal.returns-in-None
returns-in-None g c =
    let none : list_all (has c.args.codes.now) c.as_slice.result.now ≡ false = rw c.in-None.is at c.in_ok-signals.ensures in
    λ output. unknown_input c.args.codes.now output c.args.table.now (ap (list_all (has c.args.codes.now)) (sym c.as_slice.ensures) ∙ none)

pub returns-then-not-branch : goal.returns-then-not-branch
returns-then-not-branch g c =
    let both = rw c.in-Some.is at c.in_ok-signals.ensures in
    λ output.
    twice_row c.args.codes.now c.sound.ensures.rising output c.args.table.now c.requires.over c.requires.once c.rows.ensures.widths
    (ap (list_all (has c.args.codes.now)) (sym c.as_slice.ensures) ∙ both.0) (lists_in c.in_ok-cubes.cubes.items)
    (are_told c.args.codes.now c.args.table.now.inputs c.as_slice.result.now c.in-Some.signals.items c.as_slice-2.result.now (map g.R.Row.literals c.rows.result.now) c.args.table.now.cover.rows
    (lists_in c.in_ok-cubes.cubes.items) c.as_slice.ensures c.as_slice-2.ensures.value both.1 c.rows.ensures.items c.in_ok-cubes.ensures)
    (ap (λ (cubes : List (Vec ℕ Global)). all_different (lists_in cubes)) (sym c.as_slice-3.ensures.value) ∙ sym c.in_ok-are_apart.ensures ∙ c.if-not-branch.true)

pub returns : goal.returns
returns g c =
    let both = rw c.in-Some.is at c.in_ok-signals.ensures in
    λ output.
    numbered c.args.codes.now c.sound.ensures.rising output c.args.table.now c.requires.over c.requires.once c.rows.ensures.widths
    (ap (list_all (has c.args.codes.now)) (sym c.as_slice.ensures) ∙ both.0) (lists_in c.in_ok-cubes.cubes.items)
    (are_told c.args.codes.now c.args.table.now.inputs c.as_slice.result.now c.in-Some.signals.items c.as_slice-2.result.now (map g.R.Row.literals c.rows.result.now) c.args.table.now.cover.rows
    (lists_in c.in_ok-cubes.cubes.items) c.as_slice.ensures c.as_slice-2.ensures.value both.1 c.rows.ensures.items c.in_ok-cubes.ensures)
    (ap (λ (cubes : List (Vec ℕ Global)). all_different (lists_in cubes)) (sym c.as_slice-3.ensures.value) ∙ sym c.in_ok-are_apart.ensures ∙ c.if-not-branch.false)
