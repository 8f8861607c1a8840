-- Tables whose trees are within a limit, which is the project's own.
use Rattle.std.specs.Prelude.{ℕ, ◌≤◌, List}
use Rattle.func_core.specs.Sizes.{size}
use Rattle.func_shared.specs.Vertices.{tree_at}
use Rattle.func_shared.specs.declared.vertex.Vertex.{Vertex}

-- each number's tree has a size within the limit
abbrev pub AllFit : List Vertex → ℕ → Type 0
AllFit vertices limit = (n : ℕ) → size (tree_at vertices n) ≤ limit
