use Rattle.std.proofs.Common.{◌+◌, false, [], ◌∷◌, ◌++◌, get_or, drop, if◌then◌else◌, ap, ◌∙◌, sym, append_assoc}
use Rattle.std.proofs.lemmas.List.{append-nil}
use Rattle.circuit_tables.specs.Tidy.{chosen}
use Rattle.circuit_tables.proofs.Steps.{chosen_more, chosen_done}
use Rattle.circuit_tables.proofs.tidying.chosen_items.Goals as goal

pub loop-i-preserved : goal.loop-i-preserved
loop-i-preserved g c =
    ap (λ zs. zs ++ chosen (drop (c.loop-i.i + 1) c.args.marks.now) (drop (c.loop-i.i + 1) c.args.items.now)) (c.in_ok-push_marked.ensures ∙ ap (λ mark. c.loop-i.made ++ (if mark then c.index-items-i.result ∷ [] else [])) c.is_marked.ensures)
    ∙ (append_assoc c.loop-i.made (if get_or c.args.marks.now c.loop-i.i false then c.index-items-i.result ∷ [] else []) (chosen (drop (c.loop-i.i + 1) c.args.marks.now) (drop (c.loop-i.i + 1) c.args.items.now))
    ∙ (ap (λ zs. c.loop-i.made ++ zs) (sym (chosen_more c.args.marks.now c.args.items.now c.loop-i.i c.index-items-i.result c.loop-i-test.true c.index-items-i.is)) ∙ c.loop-i.invariant))

pub returns : goal.returns
returns g c =
    sym (append-nil c.loop-i.made)
    ∙ (ap (λ zs. c.loop-i.made ++ zs) (sym (chosen_done c.args.marks.now c.args.items.now c.loop-i.i c.loop-i-test.false)) ∙ c.loop-i.invariant)
