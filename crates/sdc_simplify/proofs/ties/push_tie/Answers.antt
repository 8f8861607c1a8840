use Rattle.std.proofs.Common.{ℕ, List, [], get_or, refl, sym, ap₂, ◌∙◌, subst}
use Rattle.std.specs.List.{list_all}
use Rattle.circuit_model.specs.Names.{has}
use Rattle.sdc_simplify.specs.Turns.{IsSpread}
use Rattle.sdc_simplify.proofs.Kept.{tied_inner, tied_apart}
use Rattle.sdc_simplify.proofs.ties.push_tie.Goals as goal

pub returns-then-not-are_among : goal.returns-then-not-are_among
returns-then-not-are_among g c =
    tied_apart c.args.entry.now c.args.inner.now (get_or c.args.entry.now.table.inputs c.args.place []) c.args.ties.now.items c.args.ties.now.items
    (sym (ap₂ (λ (names others : List (List ℕ)). list_all (has names) others) c.as_slice-names.ensures c.as_slice.ensures) ∙ (sym c.are_among.ensures ∙ c.if-not-are_among.true))
    refl

pub returns : goal.returns
returns g c =
    tied_inner c.args.entry.now c.args.inner.now c.args.place c.in_ok-cover.cover (record { place = c.args.place; cover = c.in_ok-cover.cover; phase = c.args.inner.now.table.phase })
    c.args.ties.now.items c.push.new.self.items c.requires.place c.requires.once
    (sym (ap₂ (λ (names others : List (List ℕ)). list_all (has names) others) c.as_slice-names.ensures c.as_slice.ensures) ∙ (sym c.are_among.ensures ∙ c.if-not-are_among.false))
    (subst (λ (names : List (List ℕ)). IsSpread names c.args.inner.now.table.inputs c.args.inner.now.table.cover.rows c.in_ok-cover.cover) c.as_slice-names.ensures c.in_ok-cover.ensures)
    refl c.in_ok-push.ensures.items
