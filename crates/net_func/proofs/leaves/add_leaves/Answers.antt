use Rattle.std.proofs.Common.{take, bytes_eq}
use Rattle.std.proofs.lemmas.Bool.{false≢true}
use Rattle.indexmap.specs.IndexMap.{get}
use Rattle.func_core.proofs.Meanings.{Stays-none, Stays-chain}
use Rattle.net_func.specs.Numbering.{number_in, is_free_leaf, FitsLeaves}
use Rattle.net_func.proofs.Adding.{adds_none}
use Rattle.net_func.proofs.LeafBits.{leaf_more}
use Rattle.net_func.proofs.leaves.add_leaves.Goals as goal

pub loop-place-init : goal.loop-place-init
loop-place-init g c = record {
  stays = Stays-none g.F.Functions.holds g.F.Functions.tree g.F.Functions.limit
      c.args.functions.now;
  adds = adds_none g.F.Functions.holds g.F.Functions.tree g.F.Functions.limit c.args.functions.now
      (number_in c.args.numbers.now)
      (is_free_leaf (take 0 c.args.leaves.now) (get bytes_eq c.args.places.now))
      (FitsLeaves c.args.leaves.now (get bytes_eq c.args.places.now)) c.requires.stand
      (λ name never. absurd (false≢true never));
}

pub add_leaf-requires : goal.add_leaf-requires
add_leaf-requires g c = record { stand = c.loop-place.invariant.adds.stand }

pub loop-place-preserved : goal.loop-place-preserved
loop-place-preserved g c = record {
  stays = Stays-chain g.F.Functions.holds g.F.Functions.tree g.F.Functions.limit
      c.args.functions.now
      c.loop-place.functions c.add_leaf.new.functions c.loop-place.invariant.stays
      c.in_ok-add_leaf.ensures.stays;
  adds = leaf_more g.F.Functions.holds g.F.Functions.tree g.F.Functions.limit c.args.functions.now
      c.loop-place.functions c.add_leaf.new.functions (number_in c.args.numbers.now)
      (number_in c.loop-place.numbers) (number_in c.add_leaf.new.numbers) c.args.leaves.now
      (get bytes_eq c.args.places.now) c.loop-place.place c.index-leaves-place.result
      c.requires.once
      c.loop-place-test.true c.index-leaves-place.is c.loop-place.invariant.adds
      c.in_ok-add_leaf.ensures.ok;
}
