use Rattle.std.proofs.Common.{◌-◌, ℕ, List, length, refl, sym, ap, ◌∙◌, arith}
use Rattle.std.specs.List.{list_all}
use Rattle.circuit_model.specs.Names.{has}
use Rattle.cover_names.specs.declared.literal.Literal.{Literal}
use Rattle.net_savings.proofs.ByRows.{unread_table_loss, told_loss}
use Rattle.net_savings.proofs.by_rows.loss_by_rows.Goals as goal

pub returns-then-not-is_read : goal.returns-then-not-is_read
returns-then-not-is_read g c = λ name output free.
    unread_table_loss c.args.table.now c.args.cube.now
    (ap (λ (names : List (List ℕ)). list_all (λ (literal : Literal). has names literal.name) c.args.cube.now) (sym c.as_slice.ensures) ∙ (sym c.is_read.ensures ∙ c.if-not-is_read.true))
    name output

pub returns : goal.returns
returns g c = λ name output free.
    (let telling = c.if-not-branch.false in
    told_loss c.args.table.now c.args.cube.now c.in_ok-count.count (length c.args.cube.now) (length c.args.cube.now - 1) c.in_ok-lost.lost c.requires.over c.rows-of_one_width.ensures.widths c.requires.once
    (c.in_ok-are_telling.ensures.apart telling) (c.in_ok-are_telling.ensures.once telling) refl (c.in_ok-are_telling.ensures.some telling) refl (c.in_ok-are_telling.ensures.few telling)
    (ap (λ (names : List (List ℕ)). list_all (λ (literal : Literal). has names literal.name) c.args.cube.now) (sym c.as_slice.ensures) ∙ (sym c.is_read.ensures ∙ c.if-not-is_read.false))
    c.in_ok-count.ensures (λ e. absurd (omega (arith, e, c.if-count-eq0.false))) c.in_ok-lost.ensures name output free)
