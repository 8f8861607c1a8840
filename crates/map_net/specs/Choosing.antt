-- What the choices at the vertices of a forest are to its covering. No public clause needs this
-- definition.
use Rattle.std.specs.Prelude.{◌≡◌, List, length}
use Rattle.subject_tree.specs.Order.{tree_cmp, place_cmp}
use Rattle.subject_tree.specs.declared.arena.Vertex.{Vertex}
use Rattle.tree_cover.specs.Candidates.{AreMade}
use Rattle.tree_cover.specs.declared.choice.Choice.{Choice}
use Rattle.map_net.specs.Covering.{Covering, tiles_of}

-- choices are those that are taken at the vertices of a covering
pub record IsChosen (covering : Covering) (vertices : List Vertex) (choices : List Choice)
    : Type 0 where
  pub vertices_are : covering.vertices ≡ vertices
  pub made : AreMade (tree_cmp (place_cmp covering.names)) vertices (tiles_of covering) choices
      (length vertices)
