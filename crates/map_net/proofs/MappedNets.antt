-- The netlist of a sound circuit by a sound library: it is sound, shows the same, and its figures
-- are those of its gates.
use Rattle.std.proofs.Common.{◌≡◌, ◌⊎◌, ℕ, suc, ◌+◌, Option, Some, List, [], ◌∷◌, ◌++◌}
use Rattle.std.proofs.Common.{map, length, refl, sym, ap, ◌∙◌, subst, inl, inr, arith}
use Rattle.std.proofs.Common.{length-append}
use Rattle.std.specs.Prelude.{slice_get, sum_by}
use Rattle.std.specs.List.{AllByRecursion, filter_map, cons_option}
use Rattle.std.proofs.lemmas.List.{length-map, map-append}
use Rattle.std.proofs.lemmas.List.Elements.{filter_map-append}
use Rattle.std.proofs.lemmas.List.Sums.{sum_by-cons}
use Rattle.std.proofs.lemmas.Option.{same_Some}
use Rattle.circuit_model.specs.Runs.{Refines}
use Rattle.circuit_model.specs.Soundness.{outputs_of}
use Rattle.circuit_model.specs.Soundness.{IsSound}
use Rattle.circuit_model.specs.declared.circuit.Table.{Table}
use Rattle.circuit_model.specs.declared.circuit.Circuit.{Circuit}
use Rattle.circuit_laws.specs.Edits.{with_tables}
use Rattle.circuit_laws.proofs.Ranks.{acyclic_rank}
use Rattle.circuit_laws.proofs.Sound.{all_append}
use Rattle.subject_tree.specs.Trees.{Tree}
use Rattle.subject_tree.specs.Order.{tree_cmp, place_cmp}
use Rattle.subject_tree.specs.Roots.{roots_of, tree_over, named_tree}
use Rattle.subject_tree.specs.declared.forest.Root.{Root}
use Rattle.genlib_format.specs.Soundness.{IsSoundGates}
use Rattle.genlib_format.specs.declared.gate.Gate.{Gate}
use Rattle.tree_cover.specs.Written.{area_at}
use Rattle.tree_cover.specs.Covers.{Tile}
use Rattle.tree_cover.specs.Listed.{HavePatterns}
use Rattle.tree_cover.specs.declared.writing.Signal.{Signal}
use Rattle.tree_cover.specs.declared.writing.CoverGate.{CoverGate}
use Rattle.netlist.specs.Netlists.{placed_table, placed_tables, circuit_of, IsPlaced}
use Rattle.netlist.specs.Netlists.{IsSoundNetlist}
use Rattle.netlist.specs.Figures.{area_of, driven_by, AreGatesOf, ArePartedBy}
use Rattle.netlist.specs.declared.mapped.Placed.{Placed}
use Rattle.netlist.specs.declared.mapped.Mapped.{Mapped}
use Rattle.map_net.specs.declared.covers.TreeCover.{TreeCover}
use Rattle.map_net.specs.Covering.{Covering, tiles_of, tree_of, IsTaken, AreTaken}
use Rattle.map_net.specs.Mapping.{name_of, driven_in, placed_as, IsPlacedAs}
use Rattle.map_net.specs.Mapping.{ArePlacedAs, IsPlacedCover, ArePlaced, figure_of, figures_of}
use Rattle.map_net.specs.Mapping.{IsMapped}
use Rattle.map_net.proofs.Celling.{known_cell, placed_by, HasCellTable, placed_cell_table}
use Rattle.map_net.proofs.Celling.{placed_area, placed_drives}
use Rattle.map_net.proofs.CoverTables.{AreGateTables, EndsInLeaf, EndsInGate, cover_ends}
use Rattle.map_net.proofs.CoverTables.{cell_of_gate, cover_group}
use Rattle.map_net.proofs.Grouping.{IsMadeOf, AreMadeOf}
use Rattle.map_net.proofs.Living.{IsLive}
use Rattle.map_net.proofs.Netting.{IsNetted, net_of, netted_realized}
use Rattle.map_net.proofs.NewNames.{new_fresh}
use Rattle.map_net.proofs.Realizing.{IsRealized, realized_sound, realized_refines}

-- each gate of a cover is a cell with a signal at each pin
abbrev pub HasCell : List Gate → List Tile → CoverGate → Type 0
HasCell library tiles gate =
    (cell : Gate) × (slice_get library gate.place ≡ Some cell)
    × (length gate.pins ≡ length cell.pins) × (area_at tiles gate.place ≡ cell.area.0)

abbrev pub HaveCells : List Gate → List Tile → List CoverGate → Type 0
HaveCells library tiles gates = AllByRecursion (HasCell library tiles) gates

cells_from : (library : List Gate) (tiles : List Tile) (gates : List CoverGate)
    → ((k : ℕ) (gate : CoverGate) → slice_get gates k ≡ Some gate → HasCell library tiles gate)
    → HaveCells library tiles gates
cells_from library tiles [] each = tt
cells_from library tiles (gate ∷ gates) each =
    (each 0 gate refl, cells_from library tiles gates (λ k g at. each (suc k) g at))

taken_cells : (covering : Covering) (library : List Gate) → IsSoundGates library
    → HavePatterns covering.shapes library covering.gates → (t : Tree ℕ) (cover : TreeCover)
    → IsTaken covering t cover → HaveCells library (tiles_of covering) cover.gates
taken_cells covering library sound have t cover taken =
    cells_from library (tiles_of covering) cover.gates (λ k gate at.
    let it = cell_of_gate (tree_cmp (place_cmp covering.names)) covering.shapes library
    covering.gates sound have t cover.root cover.gates taken.written k gate at in
    (it.cell, it.at, it.count, it.area))

-- a placed gate of a cover, by its cell
pub record IsCelled (library : List Gate) (tiles : List Tile) (named : Signal → List ℕ)
    (gate : CoverGate) (output : List ℕ) (placed : Placed) : Type 0 where
  pub cell : Gate
  pub at : slice_get library gate.place ≡ Some cell
  pub is : placed ≡ placed_as cell (map named gate.pins) output
  pub count : length (map named gate.pins) ≡ length cell.pins
  pub area : area_at tiles gate.place ≡ cell.area.0

celled : (library : List Gate) (tiles : List Tile) (named : Signal → List ℕ) (gate : CoverGate)
    (output : List ℕ) (placed : Placed) → IsPlacedAs library named gate output placed
    → HasCell library tiles gate → IsCelled library tiles named gate output placed
celled library tiles named gate output placed (cell, at, is) (other, there, count, area) = record {
  cell = cell;
  at = at;
  is = is;
  count = length-map gate.pins named ∙ count ∙ ap (λ (g : Gate). length g.pins) same;
  area = area ∙ ap (λ (g : Gate). g.area.0) same;
}
  where
    same : other ≡ cell
    same = same_Some other cell (sym there ∙ at)

module _ (library : List Gate) (sound : IsSoundGates library) (tiles : List Tile)
    (named : Signal → List ℕ) where
  gate_is_placed : (gate : CoverGate) (output : List ℕ) (placed : Placed)
      → IsCelled library tiles named gate output placed → IsPlaced library placed
  gate_is_placed gate output placed it =
      subst (IsPlaced library) (sym it.is)
      (placed_by library it.cell (map named gate.pins) output it.count
      (known_cell library sound gate.place it.cell it.at))

  gate_has_table : (gate : CoverGate) (output : List ℕ) (placed : Placed)
      → (it : IsCelled library tiles named gate output placed)
      → HasCellTable library it.cell (map named gate.pins) output placed
  gate_has_table gate output placed it =
      subst (HasCellTable library it.cell (map named gate.pins) output) (sym it.is)
      (placed_cell_table library it.cell (map named gate.pins) output it.count
      (known_cell library sound gate.place it.cell it.at))

  -- the gates of a cover are placed by the library
  pub cover_placed : (gates : List CoverGate) (driven : List (List ℕ)) (placed : List Placed)
      → ArePlacedAs library named gates driven placed → HaveCells library tiles gates
      → AllByRecursion (IsPlaced library) placed
  unfolding ArePlacedAs
  cover_placed [] driven placed are cells =
      subst (AllByRecursion (IsPlaced library)) (sym are.1) tt
  cover_placed (gate ∷ gates) driven placed
      (output, outputs, first, rest, names, parts, one, more) cells =
      subst (AllByRecursion (IsPlaced library)) (sym parts) (
        gate_is_placed gate output first (celled library tiles named gate output first one cells.0),
        cover_placed gates outputs rest more cells.1,
      )

  -- and have tables
  pub cover_tables : (gates : List CoverGate) (driven : List (List ℕ)) (placed : List Placed)
      → ArePlacedAs library named gates driven placed → HaveCells library tiles gates
      → AreGateTables library named gates driven (placed_tables library placed)
  unfolding ArePlacedAs placed_tables
  cover_tables [] driven placed are cells =
      (are.0, ap (λ (ps : List Placed). filter_map (placed_table library) ps) are.1)
  cover_tables (gate ∷ gates) driven placed
      (output, outputs, first, rest, names, parts, one, more) cells =
      let it = celled library tiles named gate output first one cells.0 in
      let has = gate_has_table gate output first it in (
        output,
        outputs,
        has.table,
        filter_map (placed_table library) rest,
        it.cell,
        names,
        ap (λ (ps : List Placed). filter_map (placed_table library) ps) parts
            ∙ ap (λ (found : Option Table). cons_option found (filter_map (placed_table library)
            rest)) has.at,
        it.at,
        has.is,
        cover_tables gates outputs rest more cells.1,
      )

  -- as many as the cover has, with the areas of its gates, each driving its signal
  pub cover_count : (gates : List CoverGate) (driven : List (List ℕ)) (placed : List Placed)
      → ArePlacedAs library named gates driven placed → length placed ≡ length gates
  unfolding ArePlacedAs
  cover_count [] driven placed are = ap (λ (ps : List Placed). length ps) are.1
  cover_count (gate ∷ gates) driven placed (output, outputs, first, rest, names, parts, one, more) =
      ap (λ (ps : List Placed). length ps) parts
      ∙ ap (λ (n : ℕ). suc n) (cover_count gates outputs rest more)

  pub cover_areas : (gates : List CoverGate) (driven : List (List ℕ)) (placed : List Placed)
      → ArePlacedAs library named gates driven placed → HaveCells library tiles gates
      → sum_by (area_of library) placed
      ≡ sum_by (λ (gate : CoverGate). area_at tiles gate.place) gates
  unfolding ArePlacedAs
  cover_areas [] driven placed are cells =
      ap (λ (ps : List Placed). sum_by (area_of library) ps) are.1
  cover_areas (gate ∷ gates) driven placed
      (output, outputs, first, rest, names, parts, one, more) cells =
      let it = celled library tiles named gate output first one cells.0 in
      let own = ap (area_of library) it.is
      ∙ placed_area library it.cell (map named gate.pins) output
      (known_cell library sound gate.place it.cell it.at) ∙ sym it.area in
      ap (λ (ps : List Placed). sum_by (area_of library) ps) parts
      ∙ sum_by-cons (area_of library) first rest
      ∙ ap (λ (n : ℕ). n + sum_by (area_of library) rest) own
      ∙ ap (λ (n : ℕ). area_at tiles gate.place + n) (cover_areas gates outputs rest more cells.1)
      ∙ sym (sum_by-cons (λ (g : CoverGate). area_at tiles g.place) gate gates)

  pub cover_drives : (gates : List CoverGate) (driven : List (List ℕ)) (placed : List Placed)
      → ArePlacedAs library named gates driven placed → HaveCells library tiles gates
      → map driven_by placed ≡ driven
  unfolding ArePlacedAs
  cover_drives [] driven placed are cells =
      ap (λ (ps : List Placed). map driven_by ps) are.1 ∙ sym are.0
  cover_drives (gate ∷ gates) driven placed
      (output, outputs, first, rest, names, parts, one, more) cells =
      let it = celled library tiles named gate output first one cells.0 in
      let own = ap driven_by it.is
      ∙ placed_drives library it.cell (map named gate.pins) output it.count
      (known_cell library sound gate.place it.cell it.at) in
      ap (λ (ps : List Placed). map driven_by ps) parts
      ∙ ap (λ (name : List ℕ). name ∷ map driven_by rest) own
      ∙ ap (λ (ns : List (List ℕ)). output ∷ ns) (cover_drives gates outputs rest more cells.1)
      ∙ sym names

head_of : {A : Type 0} {a b : A} {xs ys : List A} → a ∷ xs ≡ b ∷ ys → a ≡ b
head_of same = let off = same in cc

tail_of : {A : Type 0} {a b : A} {xs ys : List A} → a ∷ xs ≡ b ∷ ys → xs ≡ ys
tail_of same = let off = same in cc

-- the last of two lists that are one
last_same : {X : Type 0} (xs ys : List X) (x y : X) → xs ++ x ∷ [] ≡ ys ++ y ∷ [] → x ≡ y
last_same [] [] x y e = let same = e in cc
last_same [] (z ∷ ys) x y e =
    let n = ap (λ zs. length zs) e in absurd (omega (arith, n, length-append ys (y ∷ [])))
last_same (z ∷ xs) [] x y e =
    let n = ap (λ zs. length zs) e in absurd (omega (arith, n, length-append xs (x ∷ [])))
last_same (z ∷ xs) (w ∷ ys) x y e = last_same xs ys x y (tail_of e)

-- the gates of a cover are those of its figure
cover_figure : (covering : Covering) (library : List Gate) → IsSoundGates library
    → HavePatterns covering.shapes library covering.gates → (root : Root) (cover : TreeCover)
    (inner : List (List ℕ)) (own : List Placed) → IsTaken covering (tree_of covering root) cover
    → IsPlacedCover library covering.names root.name cover inner own
    → AreGatesOf library (figure_of root cover) own
cover_figure covering library sound have root cover inner own taken are = record {
  count = cover_count library sound (tiles_of covering) (name_of covering.names (driven_in
      cover.root inner root.name)) cover.gates (driven_in cover.root inner root.name) own are;
  areas = cover_areas library sound (tiles_of covering) (name_of covering.names (driven_in
      cover.root inner root.name)) cover.gates (driven_in cover.root inner root.name) own are cells
      ∙ taken.areas;
  root = λ before last is. by before last is (cover_ends (tree_cmp (place_cmp covering.names))
      (tiles_of covering) (tree_of covering root) 0 cover.root cover.gates refl taken.written);
}
  where
    cells : HaveCells library (tiles_of covering) cover.gates
    cells = taken_cells covering library sound have (tree_of covering root) cover taken

    drives : map driven_by own ≡ driven_in cover.root inner root.name
    drives = cover_drives library sound (tiles_of covering) (name_of covering.names (driven_in
        cover.root inner root.name)) cover.gates (driven_in cover.root inner root.name) own are
        cells

    by : (before : List Placed) (last : Placed) → own ≡ before ++ last ∷ []
        → EndsInLeaf (tree_of covering root) cover.root cover.gates
        ⊎ EndsInGate (tree_of covering root) cover.root cover.gates
        → driven_by last ≡ root.name
    by before last is (inl it) =
        let count = cover_count library sound (tiles_of covering) (name_of covering.names (driven_in
        cover.root inner root.name)) cover.gates (driven_in cover.root inner root.name) own are
        in
        let none = ap (λ (gs : List CoverGate). length gs) it.none in
        let some = ap (λ (ps : List Placed). length ps) is in
        absurd (omega (arith, count, none, some, length-append before (last ∷ [])))
    by before last is (inr it) =
        last_same (map driven_by before) inner (driven_by last) root.name
        (sym (map-append driven_by before (last ∷ []))
        ∙ ap (λ (ps : List Placed). map driven_by ps) (sym is) ∙ drives
        ∙ ap (λ (s : Signal). driven_in s inner root.name) it.drives)

-- the figures of a covering are those of its gates
pub covering_parted : (covering : Covering) (library : List Gate) → IsSoundGates library
    → HavePatterns covering.shapes library covering.gates → (roots : List Root)
    (covers : List TreeCover) (fresh : List (List ℕ)) (placed : List Placed)
    → AreTaken covering roots covers → ArePlaced library covering.names roots covers fresh placed
    → ArePartedBy library (figures_of roots covers) placed
unfolding AreTaken ArePlaced figures_of ArePartedBy
covering_parted covering library sound have [] covers fresh placed taken are = are.2
covering_parted covering library sound have (root ∷ roots) [] fresh placed taken are = absurd are
covering_parted covering library sound have (root ∷ roots) (cover ∷ covers) fresh placed taken
    (inner, others, own, rest, names, parts, one, more) = (
      own,
      rest,
      parts,
      cover_figure covering library sound have root cover inner own taken.0 one,
      covering_parted covering library sound have roots covers others rest taken.1 more,
    )

-- all gates are placed by the library
pub covering_placed : (covering : Covering) (library : List Gate) → IsSoundGates library
    → HavePatterns covering.shapes library covering.gates → (roots : List Root)
    (covers : List TreeCover) (fresh : List (List ℕ)) (placed : List Placed)
    → AreTaken covering roots covers → ArePlaced library covering.names roots covers fresh placed
    → AllByRecursion (IsPlaced library) placed
unfolding AreTaken ArePlaced
covering_placed covering library sound have [] covers fresh placed taken are =
    subst (AllByRecursion (IsPlaced library)) (sym are.2) tt
covering_placed covering library sound have (root ∷ roots) [] fresh placed taken are = absurd are
covering_placed covering library sound have (root ∷ roots) (cover ∷ covers) fresh placed taken
    (inner, others, own, rest, names, parts, one, more) =
    subst (AllByRecursion (IsPlaced library)) (sym parts)
    (all_append (IsPlaced library) own rest
    (cover_placed library sound (tiles_of covering) (name_of covering.names (driven_in cover.root
    inner root.name)) cover.gates (driven_in cover.root inner root.name) own one
    (taken_cells covering library sound have (tree_of covering root) cover taken.0))
    (covering_placed covering library sound have roots covers others rest taken.1 more))

-- the tables of all gates stand for the trees of the roots
pub covering_made : (covering : Covering) (library : List Gate) → IsSoundGates library
    → HavePatterns covering.shapes library covering.gates → (tree : List ℕ → Tree (List ℕ))
    (tables : List Table) (roots : List Root) (covers : List TreeCover) (fresh : List (List ℕ))
    (placed : List Placed) → map (λ (root : Root). root.name) roots ≡ outputs_of tables
    → map (λ (root : Root). Some (named_tree covering.vertices covering.names root)) roots
    ≡ map (tree_over tree) tables
    → AreTaken covering roots covers → ArePlaced library covering.names roots covers fresh placed
    → AreMadeOf tree tables fresh (placed_tables library placed)
unfolding AreTaken ArePlaced placed_tables
covering_made covering library sound have tree [] [] covers fresh placed named trees taken are =
    (are.1, ap (λ (ps : List Placed). filter_map (placed_table library) ps) are.2)
covering_made covering library sound have tree [] (root ∷ roots) covers fresh placed named trees
    taken are = absurd (let off = trees in cc)
covering_made covering library sound have tree (table ∷ tables) [] covers fresh placed named trees
    taken are = absurd (let off = trees in cc)
covering_made covering library sound have tree (table ∷ tables) (root ∷ roots) [] fresh placed named
    trees taken are = absurd are
covering_made covering library sound have tree (table ∷ tables) (root ∷ roots) (cover ∷ covers)
    fresh placed named trees taken (inner, others, own, rest, names, parts, one, more) = (
      inner,
      others,
      filter_map (placed_table library) own,
      filter_map (placed_table library) rest,
      names,
      ap (λ (ps : List Placed). filter_map (placed_table library) ps) parts
          ∙ filter_map-append (placed_table library) own rest,
      subst (λ (found : Option (Tree (List ℕ))). IsMadeOf found table.output inner (filter_map
          (placed_table library) own)) (head_of trees)
          (subst (λ (name : List ℕ). IsMadeOf (Some (named_tree covering.vertices covering.names
          root)) name inner (filter_map (placed_table library) own)) (head_of named) made),
      covering_made covering library sound have tree tables roots covers others rest (tail_of named)
          (tail_of trees) taken.1 more,
    )
  where
    made : IsMadeOf (Some (named_tree covering.vertices covering.names root)) root.name inner
        (filter_map (placed_table library) own)
    made = cover_group (tree_cmp (place_cmp covering.names)) covering.shapes library covering.gates
        covering.names (tree_of covering root) cover.root cover.gates root.name inner
        (filter_map (placed_table library) own) (record {
          sound = sound;
          have = have;
          written = taken.0.written;
          are = cover_tables library sound (tiles_of covering) (name_of covering.names (driven_in
              cover.root inner root.name)) cover.gates (driven_in cover.root inner root.name) own
              one (taken_cells covering library sound have (tree_of covering root) cover taken.0);
        })

module _ (circuit : Circuit) (library : List Gate) (mapped : Mapped) where
  -- the gates of a netlist by a sound library are placed by it, and its figures are theirs
  pub mapped_placed : IsSoundGates library → IsMapped circuit library mapped
      → AllByRecursion (IsPlaced library) mapped.gates
  mapped_placed sound is = covering_placed is.covering library sound is.covered.patterns
      is.covering.roots is.covering.covers is.fresh mapped.gates is.covered.covers is.gates

  pub mapped_parted : IsSoundGates library → IsMapped circuit library mapped
      → ArePartedBy library mapped.trees mapped.gates
  mapped_parted sound is =
      subst (λ figures. ArePartedBy library figures mapped.gates) (sym is.figures)
      (covering_parted is.covering library sound is.covered.patterns is.covering.roots
      is.covering.covers is.fresh mapped.gates is.covered.covers is.gates)

  -- its circuit is the first one with other tables
  mapped_circuit : (is : IsMapped circuit library mapped)
      → circuit_of library mapped ≡ with_tables circuit (net_of circuit is.covering.signal_tree
      (placed_tables library mapped.gates))
  unfolding circuit_of
  mapped_circuit is = ap (λ (base : Circuit). record base {
    tables = placed_tables library mapped.gates ++ base.tables;
  }) is.base

  pub mapped_kept : IsMapped circuit library mapped
      → circuit_of library mapped ≡ with_tables circuit (circuit_of library mapped).tables
  mapped_kept is = mapped_circuit is ∙ ap (λ (c : Circuit). with_tables circuit c.tables) (sym
      (mapped_circuit is))

-- the netlist of a sound circuit by a sound library
module _ (circuit : Circuit) (library : List Gate) (mapped : Mapped)
    (sound_circuit : IsSound circuit) (sound : IsSoundGates library)
    (is : IsMapped circuit library mapped) where
  mapped_netted : IsNetted circuit is.covering.signal_tree is.fresh (placed_tables library
      mapped.gates)
  mapped_netted = record {
    sound = sound_circuit;
    trees = is.covered.signals;
    new = new_fresh circuit is.fresh is.new;
    made = covering_made is.covering library sound is.covered.patterns is.covering.signal_tree
        (roots_of circuit) is.covering.roots is.covering.covers is.fresh mapped.gates
        is.covered.roots.named (is.covered.roots.trees is.covering.names (λ place name at. at))
        is.covered.covers is.gates;
  }

  mapped_realized : IsRealized circuit (net_of circuit is.covering.signal_tree (placed_tables
      library mapped.gates)) (acyclic_rank circuit.tables sound_circuit.acyclic) (IsLive circuit)
  mapped_realized = netted_realized circuit is.covering.signal_tree is.fresh (placed_tables library
      mapped.gates) mapped_netted (acyclic_rank circuit.tables sound_circuit.acyclic)

  pub mapped_sound : IsSoundNetlist library mapped
  mapped_sound = record {
    gates = mapped_placed circuit library mapped sound is;
    circuit = subst IsSound (sym (mapped_circuit circuit library mapped is))
        (realized_sound circuit (net_of circuit is.covering.signal_tree (placed_tables library
        mapped.gates)) (acyclic_rank circuit.tables sound_circuit.acyclic) (IsLive circuit)
        sound_circuit mapped_realized);
  }

  pub mapped_refines : Refines circuit (circuit_of library mapped)
  mapped_refines = subst (Refines circuit) (sym (mapped_circuit circuit library mapped is))
      (realized_refines circuit (net_of circuit is.covering.signal_tree (placed_tables library
      mapped.gates)) (acyclic_rank circuit.tables sound_circuit.acyclic) (IsLive circuit)
      sound_circuit mapped_realized)
