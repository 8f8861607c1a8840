use Rattle.std.proofs.Common.{bytes_eq, sym, ◌∙◌}
use Rattle.std.proofs.lemmas.Bool.{not-false}
use Rattle.circuit_laws.proofs.Names.{same_name}
use Rattle.net_savings.proofs.Partners.{readers_left, readers_more}
use Rattle.net_savings.proofs.sharing.readers_besides.Goals as goal
use Rattle.net_savings.proofs.sharing.readers_besides.Goals.{then-ne+in_ok-push_readers, else-ne}

pub loop-name-preserved : goal.loop-name-preserved
loop-name-preserved g c =
    elim c.if-ne.branch [
      | then-ne+in_ok-push_readers w ↦
          rw w.places-is
          (readers_more c.args.work.now.slots c.args.left.now c.args.names.now c.loop-name.name-index c.name-item.result c.name-item.result c.loop-name.places.items w.push_readers.new.places.items
          c.loop-name-test.true c.name-item.is c.loop-name.invariant w.in_ok-push_readers.ensures.still w.in_ok-push_readers.ensures.more)
      | else-ne w ↦
          rw w.places-is
          (readers_left c.args.work.now.slots c.args.left.now c.args.names.now c.loop-name.name-index c.name-item.result c.name-item.result c.loop-name.places.items c.loop-name-test.true c.name-item.is
          (same_name c.name-item.result c.args.left.now (not-false (bytes_eq c.name-item.result c.args.left.now) (sym c.ne.ensures ∙ w.if-ne.false))) c.loop-name.invariant)
    ]
