use Rattle.std.proofs.Common.{ℕ, length, sym, ◌∙◌, subst}
use Rattle.subject_tree.specs.Arenas.{tree_at}
use Rattle.tree_cover.specs.Covers.{Least}
use Rattle.map_net.specs.Covering.{IsTaken, tiles_of}
use Rattle.map_net.proofs.Taking.{least_at}
use Rattle.map_net.proofs.covers.cover_at.Goals as goal

pub returns : goal.returns
returns c = λ covering chosen.
    subst (IsTaken covering (tree_at c.args.nodes.now c.args.root)) (sym c.settled.ensures)
    (record {
      written = c.in_ok-cover.ensures.gates _ _ chosen.made;
      areas = c.in_ok-cover.ensures.areas _ _ chosen.made ∙ sym c.cost.ensures;
      least =
          subst
          (λ (cost : ℕ). Least (tiles_of covering) (tree_at c.args.nodes.now c.args.root) cost)
          (sym c.cost.ensures)
          (least_at _ c.args.nodes.now (tiles_of covering) c.args.choices.now
          (length c.args.nodes.now) c.args.root chosen.made c.requires.root);
    })
