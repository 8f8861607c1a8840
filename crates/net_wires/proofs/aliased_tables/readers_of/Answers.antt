use Rattle.std.proofs.Common.{List, ℕ, take, subst}
use Rattle.net_readers.specs.Fanouts.{told, with_inputs, AreReaders}
use Rattle.net_wires.specs.Aliases.{inputs_at}
use Rattle.net_wires.proofs.Reading.{readers_more, nothing_behind}
use Rattle.net_wires.proofs.aliased_tables.readers_of.Goals as goal

pub loop-place-preserved : goal.loop-place-preserved
loop-place-preserved c =
    readers_more c.args.tables.now c.loop-place.place c.index-tables-place.result (told c.add.new.self) c.loop-place-test.true c.index-tables-place.is
    (subst (λ (names : List (List ℕ)). AreReaders (told c.add.new.self) (with_inputs (inputs_at (take c.loop-place.place c.args.tables.now)) c.loop-place.place names)) c.as_slice.ensures
    (c.in_ok-add.ensures (inputs_at (take c.loop-place.place c.args.tables.now)) c.loop-place.invariant (nothing_behind c.args.tables.now c.loop-place.place)))
