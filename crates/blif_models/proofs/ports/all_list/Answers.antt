use Rattle.std.proofs.Common.{◌∙◌, sym, ap, [], take, get_or, arith}
use Rattle.std.specs.List.{list_all}
use Rattle.std.proofs.lemmas.Bool.{and_from}
use Rattle.std.proofs.lemmas.List.{take_all}
use Rattle.std.proofs.lemmas.List.Folds.{list_all_more}
use Rattle.blif_models.specs.PortTables.{lists_both}
use Rattle.blif_models.proofs.ports.all_list.Goals as goal

pub loop-place-preserved : goal.loop-place-preserved
loop-place-preserved c =
    let count = c.count-place-end.ensures in
    let models = c.args.file.now.models in
    list_all_more lists_both models c.loop-place.place [] (omega (arith, c.loop-place-test.true, count))
    ∙ and_from (list_all lists_both (take c.loop-place.place models)) (lists_both (get_or models c.loop-place.place [])) c.loop-place.invariant (sym c.lists_both.ensures ∙ c.if-not-lists_both.false)

pub returns : goal.returns
returns c e =
    let count = c.count-place-end.ensures in
    ap (list_all lists_both) (sym (take_all c.loop-place.place c.args.file.now.models (omega (arith, c.loop-place-test.false, count)))) ∙ c.loop-place.invariant
