use Rattle.std.proofs.Common.{◌≡◌, ℕ, List, sym, ap, ◌∙◌}
use Rattle.circuit_model.specs.Names.{has}
use Rattle.net_core.specs.Tables.{named}
use Rattle.net_core.specs.Places.{written_of}
use Rattle.cover_names.specs.Cubes.{is_over}
use Rattle.net_resub.specs.Resubbed.{row_cubes, resubbed}
use Rattle.net_resub.proofs.Rows.{some_told}
use Rattle.net_resub.proofs.Saving.{read_saves, unread_saves, saved_is, stays_saves}
use Rattle.net_resub.proofs.pairs.saving_of.Goals as goal

pub returns-then-has_name : goal.returns-then-has_name
unfolding named
returns-then-has_name g c =
    sym (read_saves (written_of c.args.by.now) (written_of c.args.entry.now)
    (ap (λ (names : List (List ℕ)). has names c.args.by.now.output) (sym c.as_slice-inputs.ensures) ∙ (sym c.has_name.ensures ∙ c.if-has_name.true)))

pub returns-then-not-is_table_over : goal.returns-then-not-is_table_over
unfolding named
returns-then-not-is_table_over g c =
    sym (unread_saves (written_of c.args.by.now) (written_of c.args.entry.now)
    (ap (λ (names : List (List ℕ)). is_over names (row_cubes (written_of c.args.by.now))) (sym c.as_slice-inputs.ensures) ∙ (sym c.is_table_over.ensures ∙ c.if-not-is_table_over.true)))

pub returns-in-None : goal.returns-in-None
returns-in-None g c = sym (stays_saves (written_of c.args.by.now) (written_of c.args.entry.now) (c.in_ok-resubbed_table.ensures.none c.in-None.is))

pub returns-in-Some : goal.returns-in-Some
unfolding named
returns-in-Some g c =
    saved_is (written_of c.args.by.now) (written_of c.args.entry.now) (named c.args.entry.now.output c.in-Some.made) c.saved.result
    (ap (λ (names : List (List ℕ)). has names c.args.by.now.output) (sym c.as_slice-inputs.ensures) ∙ (sym c.has_name.ensures ∙ c.if-has_name.false)) (some_told c.in_ok-resubbed_table.field-0 c.in-Some.made
    (λ made. named c.args.entry.now.output made ≡ resubbed (written_of c.args.by.now) (written_of c.args.entry.now)) c.in-Some.is c.in_ok-resubbed_table.ensures.some)
    (c.saved.ensures c.args.entry.now.output)
