use Rattle.std.proofs.Common.{ℕ, List, ap, ◌∙◌}
use Rattle.net_extract.specs.Dividing.{with_divided}
use Rattle.net_extract.proofs.Steps.{put_from}
use Rattle.net_extract.proofs.stepping.put.Goals as goal

pub returns-clause-put : goal.returns-clause-put
returns-clause-put g c =
    put_from c.in_ok-name.name c.args.cover.now c.in_ok-places.places.items c.args.work.now c.add_table.new.work c.divide_places.new.work c.in_ok-places.ensures.rising c.in_ok-places.ensures.within
    c.in_ok-places.ensures.all c.in_ok-name.ensures.added
    (c.in_ok-divide_places.ensures.divided ∙ ap (λ (places : List ℕ). with_divided c.in_ok-name.name c.args.cover.now places c.add_table.new.work) c.as_slice.ensures.value) c.in_ok-divide_places.ensures.bounded

pub returns-clause-saved : goal.returns-clause-saved
returns-clause-saved g c = λ rule saved. c.in_ok-divide_places.ensures.saved rule (c.in_ok-name.ensures.saved rule saved)
