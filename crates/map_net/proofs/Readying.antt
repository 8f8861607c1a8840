-- Covers that are taken can be placed.
use Rattle.std.proofs.Common.{◌≡◌, ℕ, ◌<◌, List, [], ◌∷◌, length}
use Rattle.std.proofs.Common.{refl, sym, subst, arith, length-append}
use Rattle.std.specs.List.{AllByRecursion}
use Rattle.std.specs.declared.cmp.Ordering.{Ordering}
use Rattle.std.proofs.lemmas.List.{length-map}
use Rattle.std.proofs.lemmas.Option.{slice_get_within}
use Rattle.subject_tree.specs.Trees.{Tree}
use Rattle.subject_tree.specs.declared.arena.Vertex.{Vertex}
use Rattle.subject_tree.specs.declared.forest.Root.{Root}
use Rattle.genlib_format.specs.declared.gate.Gate.{Gate}
use Rattle.pattern_set.specs.Values.{HasLeaf}
use Rattle.pattern_set.specs.declared.cells.PatternGate.{PatternGate}
use Rattle.tree_cover.specs.Covers.{Tile, tile_of}
use Rattle.tree_cover.specs.Written.{IsWritten, written_leaf, written_gate, UsesPins}
use Rattle.tree_cover.specs.Listed.{HavePatterns}
use Rattle.tree_cover.specs.declared.writing.Signal.{Signal}
use Rattle.tree_cover.specs.declared.writing.CoverGate.{CoverGate}
use Rattle.tree_cover.proofs.Open.{all_gets}
use Rattle.tree_cover.proofs.GateValuing.{written-wired}
use Rattle.map_net.specs.declared.covers.TreeCover.{TreeCover}
use Rattle.map_net.specs.Covering.{Covering, tiles_of, tree_of, IsTaken, AreTaken}
use Rattle.map_net.specs.Working.{EndsAt, IsReady}

-- the last gate of a cover drives the root, unless that is a leaf
ends : (cmp : Tree ℕ → Tree ℕ → Ordering) (library : List Tile) (t : Tree ℕ) (start : ℕ)
    (signal : Signal) (gates : List CoverGate) → start ≡ 0
    → IsWritten cmp library t start signal gates → EndsAt signal gates
ends cmp library t s signal gates first (written_leaf place start) = refl
ends cmp library t s signal gates first
    (written_gate u start cost place bound pins before given are) =
    let last : CoverGate = record { place = place; pins = pins } in
    let one : length (last ∷ []) ≡ 1 = refl in
    omega (arith, first, one, length-append before (last ∷ []))

-- there are as many gates with patterns as gates of the library
pub pattern_count : (shapes : List Vertex) (library : List Gate) (gates : List PatternGate)
    → HavePatterns shapes library gates → length library ≡ length gates
pattern_count shapes [] [] have = refl
pattern_count shapes [] (m ∷ ms) have = absurd have
pattern_count shapes (g ∷ gs) [] have = absurd have
pattern_count shapes (g ∷ gs) (m ∷ ms) have =
    let counts = pattern_count shapes gs ms have.1 in omega (arith, counts)

-- the gates of a cover are places of the library
places : (covering : Covering) (library : List Gate)
    → HavePatterns covering.shapes library covering.gates
    → UsesPins (tiles_of covering) → (t : Tree ℕ) (cover : TreeCover) → IsTaken covering t cover
    → AllByRecursion (λ (gate : CoverGate). gate.place < length library) cover.gates
places covering library have uses t cover taken =
    all_gets (λ (gate : CoverGate). gate.place < length library) cover.gates
    (λ k gate at.
    let wired = (written-wired _ (tiles_of covering) uses (λ place. HasLeaf place t) t 0 cover.root
    cover.gates taken.written (λ leaf has. has)).0 k gate at in
    let within : gate.place < length (tiles_of covering)
    = slice_get_within (tiles_of covering) gate.place wired.0 wired.1 in
    let count = length-map covering.gates (tile_of covering.shapes) in
    let same = pattern_count covering.shapes library covering.gates have in
    omega (arith, within, count, same))

-- each cover that is taken can be placed
pub all_ready : (covering : Covering) (library : List Gate)
    → HavePatterns covering.shapes library covering.gates → UsesPins (tiles_of covering)
    → (roots : List Root) (covers : List TreeCover) → AreTaken covering roots covers
    → AllByRecursion (IsReady (length library)) covers
unfolding AreTaken
all_ready covering library have uses [] covers taken = subst
    (AllByRecursion (IsReady (length library))) (sym taken) tt
all_ready covering library have uses (root ∷ roots) [] taken = absurd taken
all_ready covering library have uses (root ∷ roots) (cover ∷ covers) taken = (
  record {
    ends = ends _ _ _ 0 cover.root cover.gates refl taken.0.written;
    places = places covering library have uses (tree_of covering root) cover taken.0;
  },
  all_ready covering library have uses roots covers taken.1,
)
