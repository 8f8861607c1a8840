use Rattle.std.proofs.Common.{◌≡◌, List, slice_get, ap, ◌∙◌, subst}
use Rattle.func_shared.specs.declared.vertex.Vertex.{Vertex}
use Rattle.func_shared.specs.Vertices.{IsTable}
use Rattle.func_shared.proofs.Numbered.{found-tree, found-below, found-none}
use Rattle.func_shared.proofs.table.Table.vertex.Goals as goal

table : (c : goal.After-copied) → IsTable c.args.self.now
table c = subst IsTable c.self.view_is c.self.invariant

found : (c : goal.After-copied) → c.copied.result ≡ slice_get c.args.self.now c.in_ok-index.index
found c =
    c.copied.ensures ∙ c.get_index.ensures.key
    ∙ ap (λ (vs : List Vertex). slice_get vs c.in_ok-index.index) c.self.view_is

pub returns-clause-tree : goal.returns-clause-tree
returns-clause-tree c =
    found-tree c.args.self.now c.args.number c.in_ok-index.index
    (table c) c.in_ok-index.ensures.0 c.in_ok-index.ensures.1 c.copied.result (found c)

pub returns-clause-below : goal.returns-clause-below
returns-clause-below c =
    found-below c.args.self.now c.args.number c.in_ok-index.index
    (table c) c.in_ok-index.ensures.0 c.in_ok-index.ensures.1 c.copied.result (found c)

pub returns-clause-constant : goal.returns-clause-constant
returns-clause-constant c =
    found-none c.args.self.now c.args.number c.in_ok-index.index
    (table c) c.in_ok-index.ensures.0 c.in_ok-index.ensures.1 c.requires c.copied.result
    (found c)
