-- How large the areas of a netlist are together.
use Rattle.std.proofs.Common.{◌≡◌, ℕ, ◌+◌, ◌*◌, ◌^◌, ◌<◌, ◌≤◌, Option, Some, None, List, [], ◌∷◌}
use Rattle.std.proofs.Common.{◌++◌, suc, length, length-append, sum_by, refl, sym, ap, ◌∙◌, arith}
use Rattle.std.specs.List.{AllByRecursion}
use Rattle.std.specs.Option.{option_map_or}
use Rattle.std.proofs.lemmas.List.Sums.{sum_by-cons, sum_by-append}
use Rattle.sis_base.specs.declared.limits.TheConstants.{MAX_NODES}
use Rattle.circuit_model.specs.declared.circuit.Circuit.{Circuit}
use Rattle.genlib_format.specs.Reader.{gate_named}
use Rattle.genlib_format.specs.Soundness.{IsSoundGates, IsSoundGate}
use Rattle.genlib_format.specs.declared.gate.Gate.{Gate}
use Rattle.blif_gates.proofs.Told.{sound_found}
use Rattle.tree_cover.specs.declared.writing.Signal.{Signal}
use Rattle.tree_cover.specs.declared.writing.CoverGate.{CoverGate}
use Rattle.subject_tree.specs.declared.forest.Root.{Root}
use Rattle.netlist.specs.Figures.{area_of, ArePartedBy}
use Rattle.netlist.specs.declared.mapped.Placed.{Placed}
use Rattle.netlist.specs.declared.mapped.TreeFigure.{TreeFigure}
use Rattle.netlist.specs.declared.mapped.Mapped.{Mapped}
use Rattle.map_net.specs.declared.covers.TreeCover.{TreeCover}
use Rattle.map_net.specs.Mapping.{driven_in, name_of, ArePlacedAs, ArePlaced, IsMapped}
use Rattle.map_net.proofs.MappedNets.{mapped_parted}

-- an area in millionths that none passes
abbrev most : ℕ
most = 1000000000000000

-- a placed gate has at most that area
area_small : (library : List Gate) (placed : Placed) → AllByRecursion IsSoundGate library
    → area_of library placed ≤ most
area_small library placed sound = by (gate_named library placed.cell) refl
  where
    by : (found : Option Gate) → gate_named library placed.cell ≡ found
        → option_map_or (λ (gate : Gate). gate.area.0) found 0 ≤ most
    by None h = omega (arith)
    by (Some gate) h =
        let small : gate.area.0 < most = (sound_found library placed.cell gate sound h).area in
        omega (arith, small)

areas_small : (library : List Gate) (gates : List Placed) → AllByRecursion IsSoundGate library
    → sum_by (area_of library) gates ≤ length gates * most
areas_small library [] sound = omega (arith)
areas_small library (gate ∷ gates) sound =
    let sum = sum_by-cons (area_of library) gate gates in
    let first = area_small library gate sound in
    let rest = areas_small library gates sound in
    omega (arith, sum, first, rest)

-- the figures of trees have the sum of the areas of their gates
abbrev figure_in : TreeFigure → ℕ
figure_in tree = tree.figure

figures_are_areas : (library : List Gate) (trees : List TreeFigure) (gates : List Placed)
    → ArePartedBy library trees gates
    → sum_by figure_in trees ≡ sum_by (area_of library) gates
unfolding ArePartedBy
figures_are_areas library [] gates none =
    ap (λ (gs : List Placed). sum_by (area_of library) gs) (sym none)
figures_are_areas library (tree ∷ trees) gates (own, others, is, of, rest) =
    let figures = sum_by-cons figure_in tree trees in
    let later = figures_are_areas library trees others rest in
    let areas = sum_by-append (area_of library) own others in
    let moved = ap (λ (gs : List Placed). sum_by (area_of library) gs) is in
    omega (arith, figures, later, areas, moved, of.areas)

-- as many gates are placed as their covers have
placed_count : (library : List Gate) (named : Signal → List ℕ) (gates : List CoverGate)
    (driven : List (List ℕ)) (placed : List Placed)
    → ArePlacedAs library named gates driven placed → length placed ≡ length gates
unfolding ArePlacedAs
placed_count library named [] driven placed (nothing, is) = ap (λ (ps : List Placed). length ps) is
placed_count library named (gate ∷ gates) driven placed
    (output, outputs, first, rest, parts, is, one, others) =
    ap (λ (ps : List Placed). length ps) is
    ∙ ap suc (placed_count library named gates outputs rest others)

abbrev gates_in : TreeCover → ℕ
gates_in cover = length cover.gates

all_placed_count : (library : List Gate) (names : List (List ℕ)) (roots : List Root)
    (covers : List TreeCover) (fresh : List (List ℕ)) (placed : List Placed)
    → ArePlaced library names roots covers fresh placed → length placed ≡ sum_by gates_in covers
unfolding ArePlaced
all_placed_count library names [] covers fresh placed (none, nothing, is) =
    ap (λ (ps : List Placed). length ps) is
    ∙ ap (λ (cs : List TreeCover). sum_by gates_in cs) (sym none)
all_placed_count library names (root ∷ roots) [] fresh placed h = absurd h
all_placed_count library names (root ∷ roots) (cover ∷ covers) fresh placed
    (inner, others, own, rest, parts, is, one, more) =
    let whole = ap (λ (ps : List Placed). length ps) is in
    let both = length-append own rest in
    let first = placed_count library (name_of names (driven_in cover.root inner root.name))
    cover.gates (driven_in cover.root inner root.name) own one in
    let later = all_placed_count library names roots covers others rest more in
    let gates = sum_by-cons gates_in cover covers in
    omega (arith, whole, both, first, later, gates)

-- the areas of a netlist by a sound library have a sum of 128 bits
pub mapped_total : (circuit : Circuit) (library : List Gate) (mapped : Mapped) → IsSoundGates library
    → IsMapped circuit library mapped
    → sum_by (λ (tree : TreeFigure). tree.figure) mapped.trees < 2 ^ 128
mapped_total circuit library mapped sound is =
    let same = figures_are_areas library mapped.trees mapped.gates
    (mapped_parted circuit library mapped sound is) in
    let small = areas_small library mapped.gates sound.each in
    let count = all_placed_count library is.covering.names is.covering.roots is.covering.covers
    is.fresh mapped.gates is.gates in
    let few = is.few in
    omega (arith, same, small, count, few)
