use Rattle.std.proofs.Common.{List, ℕ, ap, ◌∙◌}
use Rattle.std.proofs.lemmas.Bool.{false≢true}
use Rattle.std.proofs.lemmas.List.{take_all}
use Rattle.circuit_model.specs.Names.{has}
use Rattle.net_savings.proofs.Told.{readers_next}
use Rattle.net_savings.proofs.rows.readers_of.Goals as goal

pub loop-name-init : goal.loop-name-init
loop-name-init g c = λ at table name there reads h. absurd (false≢true h)

pub loop-name-preserved : goal.loop-name-preserved
loop-name-preserved g c =
    readers_next c.args.work.now.slots c.args.names.now c.loop-name.name-index c.name-item.result c.name-item.result c.loop-name.places.items c.push_readers.new.places.items
    c.loop-name-test.true c.name-item.is c.loop-name.invariant c.in_ok-push_readers.ensures.still c.in_ok-push_readers.ensures.more

pub returns-clause-all : goal.returns-clause-all
returns-clause-all g c = λ at table name there reads h.
    c.each_once.ensures.all at
    (c.loop-name.invariant at table name there reads (ap (λ (ns : List (List ℕ)). has ns name) (take_all c.loop-name.name-index c.args.names.now c.loop-name-test.false) ∙ h))
