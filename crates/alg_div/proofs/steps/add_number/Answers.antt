use Rattle.std.proofs.Common.{◌≡◌, Option, Bool, List, ap, sym, ◌∙◌, is_some}
use Rattle.alg_div.specs.Steps.{number_in}
use Rattle.alg_div.proofs.Maps.{none_from, added-new, added-old}
use Rattle.alg_div.proofs.steps.add_number.Goals as goal

pub returns : goal.returns
returns c =
    let has : c.contains_key.result ≡ is_some (number_in c.args.index.now c.args.row.items) = c.contains_key.ensures ∙ ap (λ (x : List (Option Bool)). is_some (number_in c.args.index.now x)) c.as_slice.ensures.value in
    added-new c.args.index.now c.insert.new.self c.args.row.items c.args.number (none_from _ (sym has ∙ c.if-contains_key.false)) c.in_ok-insert.ensures.updates

pub returns-then-contains_key : goal.returns-then-contains_key
returns-then-contains_key c =
    let has : c.contains_key.result ≡ is_some (number_in c.args.index.now c.args.row.items) = c.contains_key.ensures ∙ ap (λ (x : List (Option Bool)). is_some (number_in c.args.index.now x)) c.as_slice.ensures.value in
    added-old c.args.index.now c.args.row.items c.args.number (sym has ∙ c.if-contains_key.true)
