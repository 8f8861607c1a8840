use Rattle.std.proofs.Common.{◌+◌, false, [], ◌∷◌, ◌++◌, get_or, drop, if◌then◌else◌, ap, ◌∙◌, sym, append_assoc}
use Rattle.std.proofs.lemmas.List.{append-nil}
use Rattle.circuit_model.specs.declared.circuit.Tri.TheVariants.{Zero}
use Rattle.circuit_tables.specs.Tidy.{chosen}
use Rattle.circuit_tables.proofs.Steps.{chosen_more, chosen_done, get_again}
use Rattle.circuit_tables.proofs.tidying.chosen_row.Goals as goal

pub loop-i-preserved : goal.loop-i-preserved
loop-i-preserved c =
    ap (λ zs. zs ++ chosen (drop (c.loop-i.i + 1) c.args.marks.now) (drop (c.loop-i.i + 1) c.args.row.now)) (c.in_ok-push_character.ensures ∙ ap (λ mark. c.loop-i.made ++ (if mark then get_or c.args.row.now c.loop-i.i Zero ∷ [] else [])) c.is_marked.ensures)
    ∙ (append_assoc c.loop-i.made (if get_or c.args.marks.now c.loop-i.i false then get_or c.args.row.now c.loop-i.i Zero ∷ [] else []) (chosen (drop (c.loop-i.i + 1) c.args.marks.now) (drop (c.loop-i.i + 1) c.args.row.now))
    ∙ (ap (λ zs. c.loop-i.made ++ zs) (sym (chosen_more c.args.marks.now c.args.row.now c.loop-i.i (get_or c.args.row.now c.loop-i.i Zero) c.loop-i-test.true (get_again c.args.row.now c.loop-i.i Zero))) ∙ c.loop-i.invariant))

pub returns : goal.returns
returns c =
    sym (append-nil c.loop-i.made)
    ∙ (ap (λ zs. c.loop-i.made ++ zs) (sym (chosen_done c.args.marks.now c.args.row.now c.loop-i.i c.loop-i-test.false)) ∙ c.loop-i.invariant)
