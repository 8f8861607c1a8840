-- The parts of the netlist of covers, and the reasons against one.
use Rattle.std.proofs.Common.{◌≡◌, ◌↔◌, ℕ, ◌+◌, ◌<◌, ◌≤◌, true, false, Bool, List, ◌++◌, length}
use Rattle.std.proofs.Common.{map, inl, inr}
use Rattle.std.proofs.Common.{sum_by, refl, sym, ◌∙◌, ap, subst, arith}
use Rattle.std.specs.Prelude.{Result, Ok, Err, IfOk, IfErr, IsErrAnd, IsTrue}
use Rattle.std.specs.List.{AllByRecursion}
use Rattle.std.proofs.lemmas.Bool.{false≢true}
use Rattle.std.proofs.lemmas.Bool.Decides.{leb_tells}
use Rattle.circuit_model.specs.Names.{has, all_different}
use Rattle.circuit_model.specs.declared.circuit.Circuit.{Circuit}
use Rattle.circuit_model.specs.declared.circuit.Table.{Table}
use Rattle.circuit_laws.specs.Edits.{with_tables}
use Rattle.net_core.specs.Fresh.{used_names}
use Rattle.sis_base.specs.declared.limits.TheConstants.{MAX_NODES}
use Rattle.genlib_format.specs.declared.gate.Gate.{Gate}
use Rattle.genlib_format.specs.Soundness.{IsSoundGates}
use Rattle.subject_tree.specs.Sizes.{word_count}
use Rattle.subject_tree.specs.Order.{LeavesBelow}
use Rattle.subject_tree.specs.Forest.{fate_of}
use Rattle.subject_tree.specs.Roots.{roots_of, IsForest, IsTooLarge}
use Rattle.subject_tree.specs.declared.forest.Root.{Root}
use Rattle.subject_tree.specs.declared.forest.Forest.{Forest}
use Rattle.subject_tree.specs.declared.forest.ForestFault.{ForestFault}
use Rattle.subject_tree.specs.declared.forest.ForestFault.TheVariants.{TreeLimit as TooLarge}
use Rattle.subject_tree.specs.declared.forest.ForestFault.TheVariants.{Memory as NoMemory}
use Rattle.subject_tree.proofs.RootValues.{roots-named}
use Rattle.pattern_set.specs.Cells.{is_inverter, is_nand, has_some, lack_of}
use Rattle.pattern_set.specs.declared.cells.Patterns.{Patterns}
use Rattle.pattern_set.specs.declared.cells.PatternFault.{PatternFault}
use Rattle.pattern_set.specs.declared.cells.PatternFault.TheVariants.{NoInverter as LacksInverter}
use Rattle.pattern_set.specs.declared.cells.PatternFault.TheVariants.{NoNand as LacksNand}
use Rattle.tree_cover.specs.Listed.{HavePatterns}
use Rattle.tree_cover.proofs.Open.{all_gets}
use Rattle.tree_cover.proofs.GateValuing.{usable_use_pins}
use Rattle.tree_cover.proofs.EachGate.{gates_usable}
use Rattle.netlist.specs.Netlists.{circuit_of, placed_tables}
use Rattle.netlist.specs.declared.mapped.Placed.{Placed}
use Rattle.netlist.specs.declared.mapped.Mapped.{Mapped}
use Rattle.map_net.specs.declared.covers.TreeCover.{TreeCover}
use Rattle.map_net.specs.declared.mapping.MapFault.{MapFault}
use Rattle.map_net.specs.declared.mapping.MapFault.TheVariants.{NoInverter, NoNand, TreeLimit}
use Rattle.map_net.specs.declared.mapping.MapFault.TheVariants.{NodeLimit, Memory}
use Rattle.map_net.specs.declared.mapping.Covered.{Covered}
use Rattle.map_net.specs.declared.mapping.Parts.{Parts}
use Rattle.map_net.specs.Covering.{Covering, tree_of, AreTaken, IsCovering, HasInverter, HasNand}
use Rattle.map_net.specs.Naming.{AreNew}
use Rattle.map_net.specs.Mapping.{tables_left, ArePlaced, figures_of, IsMapped}
use Rattle.map_net.specs.Mapping.{HasTooManyNodes, Maps, fault_of_patterns, fault_of_forest}
use Rattle.map_net.specs.Working.{IsReady, left_from}
use Rattle.map_net.specs.Parts.{IsOver, covering_of, IsCovered, IsForestFault, Covers, mapped_of}
use Rattle.map_net.specs.Parts.{HasParts, MapsParts}
use Rattle.map_net.proofs.New.{new_same}
use Rattle.map_net.proofs.Taking.{taken_count}
use Rattle.map_net.proofs.Handing.{left_is}
use Rattle.map_net.proofs.Readying.{all_ready}
use Rattle.map_net.proofs.Patterned.{pattern_found, found_pattern, lacks_nothing}
use Rattle.map_net.proofs.Patterned.{lacks_inverter, lacks_nand}

-- what a library lacks, by what its patterns lack

abbrev lack_in : Patterns → Result (Unit {0}) PatternFault
lack_in patterns = lack_of (has_some is_inverter patterns.arena patterns.gates)
    (has_some is_nand patterns.arena patterns.gates)

pub has_all : (library : List Gate) (patterns : Patterns)
    → HavePatterns patterns.arena library patterns.gates → lack_in patterns ≡ Ok tt
    → HasInverter library × HasNand library
has_all library patterns have lack =
    let (inverter, nand) = lacks_nothing _ _ lack in (
      found_pattern is_inverter patterns.arena library patterns.gates have inverter,
      found_pattern is_nand patterns.arena library patterns.gates have nand,
    )

pub lacks : (circuit : Circuit) (library : List Gate) (patterns : Patterns) (fault : PatternFault)
    (result : Result Covered MapFault) → HavePatterns patterns.arena library patterns.gates
    → lack_in patterns ≡ Err fault
    → IsErrAnd result (λ made. made ≡ fault_of_patterns fault) → Covers circuit library result
lacks circuit library patterns fault (Ok covered) have lack from = absurd from
lacks circuit library patterns fault (Err made) have lack from =
    subst (λ (f : MapFault). Covers circuit library (Err f)) (sym from) (by fault lack)
  where
    by : (f : PatternFault) → lack_in patterns ≡ Err f
        → Covers circuit library (Err (fault_of_patterns f))
    by LacksInverter e = λ has.
        false≢true (sym (lacks_inverter _ _ e)
        ∙ pattern_found is_inverter patterns.arena library patterns.gates have has)
    by LacksNand e =
        let (inverter, nand) = lacks_nand _ _ e in (
          found_pattern is_inverter patterns.arena library patterns.gates have inverter,
          λ has. false≢true (sym nand
              ∙ pattern_found is_nand patterns.arena library patterns.gates have has),
        )

-- want of memory
pub memory_covers : (circuit : Circuit) (library : List Gate) (result : Result Covered MapFault)
    → IsErrAnd result (λ made. made ≡ Memory) → Covers circuit library result
memory_covers circuit library (Ok covered) from = absurd from
memory_covers circuit library (Err made) from =
    subst (λ (f : MapFault). Covers circuit library (Err f)) (sym from) tt

pub memory_forest : (circuit : Circuit) (result : Result Covered MapFault)
    → IsErrAnd result (λ made. made ≡ Memory)
    → IfErr result (λ fault. IsForestFault circuit fault)
memory_forest circuit (Ok covered) from = absurd from
memory_forest circuit (Err made) from =
    subst (λ (f : MapFault). IsForestFault circuit f) (sym from) tt

pub memory_parts : (circuit : Circuit) (library : List Gate) (result : Result Parts MapFault)
    → IsErrAnd result (λ made. made ≡ Memory) → HasParts circuit library result
memory_parts circuit library (Ok parts) from = absurd from
memory_parts circuit library (Err made) from =
    subst (λ (f : MapFault). HasParts circuit library (Err f)) (sym from) tt

pub memory_maps : (circuit : Circuit) (library : List Gate) (result : Result Mapped MapFault)
    → IsErrAnd result (λ made. made ≡ Memory) → Maps circuit library result
memory_maps circuit library (Ok mapped) from = absurd from
memory_maps circuit library (Err made) from =
    subst (λ (f : MapFault). Maps circuit library (Err f)) (sym from) tt

-- why there is no forest
pub no_forest : (circuit : Circuit) (forest : Result Forest ForestFault) (fault : ForestFault)
    (result : Result Covered MapFault) → forest ≡ Err fault
    → IsErrAnd result (λ made. made ≡ fault_of_forest fault)
    → (forest ≡ Err TooLarge → IsTooLarge circuit)
    → IfErr result (λ why. IsForestFault circuit why)
no_forest circuit forest fault (Ok covered) is from large = absurd from
no_forest circuit forest TooLarge (Err made) is from large =
    subst (λ (f : MapFault). IsForestFault circuit f) (sym from) (large is)
no_forest circuit forest NoMemory (Err made) is from large =
    subst (λ (f : MapFault). IsForestFault circuit f) (sym from) tt

-- a forest with the covers of its trees covers its circuit
pub is_covered : (circuit : Circuit) (library : List Gate) (covered : Covered) (patterns : Patterns)
    → IsForest circuit covered.forest.arena covered.forest.leaves covered.forest.roots.items
    → all_different covered.forest.leaves ≡ true
    → ((covering : Covering) → IsOver covering covered.forest patterns
    → AreTaken covering covered.forest.roots.items covered.covers.items)
    → HavePatterns patterns.arena library patterns.gates → IsCovered circuit library covered
is_covered circuit library covered patterns (tree, trees, roots, small) once taken have = (
  tree,
  patterns.arena,
  patterns.gates,
  record {
    signals = trees;
    roots = roots;
    small = small;
    once = once;
    patterns = have;
    covers = taken (covering_of tree patterns.arena patterns.gates covered)
        (record { vertices = refl; names = refl; shapes = refl; gates = refl });
  },
)

-- the covers of a library that lacks nothing, or why there is no forest
pub covers_by : (circuit : Circuit) (library : List Gate) (patterns : Patterns)
    (result : Result Covered MapFault) → HavePatterns patterns.arena library patterns.gates
    → lack_in patterns ≡ Ok tt
    → IfOk result (λ covered. (library : List Gate)
    → HavePatterns patterns.arena library patterns.gates → IsCovered circuit library covered)
    → IfErr result (λ fault. IsForestFault circuit fault) → Covers circuit library result
covers_by circuit library patterns (Ok covered) have lack ok err =
    let (inverter, nand) = has_all library patterns have lack in
    (inverter, nand, ok library have)
covers_by circuit library patterns (Err NoInverter) have lack ok err = absurd err
covers_by circuit library patterns (Err NoNand) have lack ok err = absurd err
covers_by circuit library patterns (Err TreeLimit) have lack ok err =
    let (inverter, nand) = has_all library patterns have lack in (inverter, nand, err)
covers_by circuit library patterns (Err NodeLimit) have lack ok err = absurd err
covers_by circuit library patterns (Err Memory) have lack ok err = tt

-- new names and placed gates, by the lists that the code has of names, roots and covers
pub placed_of : (library : List Gate) (leaves used names : List (List ℕ))
    (roots slice : List Root) (covers part : List TreeCover) (gates : List Placed)
    → ((name : List ℕ) → has used name ≡ has names name) → slice ≡ roots → part ≡ covers
    → (fresh : List (List ℕ)) × AreNew used fresh × ArePlaced library leaves slice part fresh gates
    → (fresh : List (List ℕ)) × AreNew names fresh
    × ArePlaced library leaves roots covers fresh gates
placed_of library leaves used names roots slice covers part gates same first second
    (fresh, (stop, new), placed) = (
      fresh,
      (stop, new_same used names same 0 stop fresh new),
      subst (λ (rs : List Root). ArePlaced library leaves rs covers fresh gates) first
          (subst (λ (cs : List TreeCover). ArePlaced library leaves slice cs fresh gates) second
          placed),
    )

-- what is left by the covers is what is left by the trees
pub left_same : (circuit : Circuit) (library : List Gate) (covering : Covering)
    → IsCovering circuit library covering
    → left_from covering.names (map (fate_of circuit) circuit.tables) circuit.tables
    covering.covers ≡ tables_left circuit covering.signal_tree
unfolding tables_left
left_same circuit library covering is =
    left_is covering (fate_of circuit) covering.signal_tree circuit.tables covering.roots
    covering.covers (is.roots.trees covering.names (λ place name at. at))
    (all_gets (λ (root : Root). LeavesBelow (length covering.names) (tree_of covering root))
    covering.roots
    (roots-named covering.vertices covering.names covering.signal_tree (roots_of circuit)
    covering.roots is.roots))
    is.covers

-- what is left, as the code finds it
abbrev pub left_in : Circuit → Covered → List Table
left_in circuit covered = left_from covered.forest.leaves (map (fate_of circuit) circuit.tables)
    circuit.tables covered.covers.items

abbrev pub gates_in : Covered → ℕ
gates_in covered = sum_by (λ (cover : TreeCover). length cover.gates) covered.covers.items

-- covers can be placed, and there are as many as roots
pub covered_ready : (circuit : Circuit) (library : List Gate) (covered : Covered)
    → IsSoundGates library → IsCovered circuit library covered
    → AllByRecursion (IsReady (length library)) covered.covers.items
covered_ready circuit library covered sound (tree, shapes, gates, is) =
    all_ready (covering_of tree shapes gates covered) library is.patterns
    (usable_use_pins shapes gates (gates_usable shapes library gates is.patterns sound.each))
    covered.forest.roots.items covered.covers.items is.covers

pub covered_count : (circuit : Circuit) (library : List Gate) (covered : Covered)
    → IsCovered circuit library covered
    → length covered.forest.roots.items ≡ length covered.covers.items
covered_count circuit library covered (tree, shapes, gates, is) =
    taken_count (covering_of tree shapes gates covered) covered.forest.roots.items
    covered.covers.items is.covers

-- there are too many gates, tables and latches
pub too_many : (circuit : Circuit) (library : List Gate) (covered : Covered) (left : List Table)
    (gates count : ℕ) → left ≡ left_in circuit covered → gates ≡ word_count (gates_in covered)
    → count ≡ length left
    → MAX_NODES < gates + count + length circuit.latches + length circuit.dont_care
    → IsCovered circuit library covered → HasTooManyNodes circuit library
too_many circuit library covered left gates count same sum counted over
    (tree, shapes, made, is) =
    let covering = covering_of tree shapes made covered in
    let all = ap (λ (tables : List Table). length tables)
    (same ∙ left_same circuit library covering is) in
    (covering, is, omega (arith, sum, counted, over, all))

-- what is not over is at most as much
pub not_over : (over : Bool) (most count : ℕ) → (IsTrue over ↔ (most < count)) → over ≡ false
    → count ≤ most
not_over over most count same off = elim (leb_tells count most) [
  | inl few ↦ few.1
  | inr many ↦ absurd (false≢true (sym off ∙ same.1 many.1))
]

-- the parts of a netlist that are few enough
pub parts_are : (circuit : Circuit) (library : List Gate) (covered : Covered) (parts : Parts)
    (gates count : ℕ) → parts.left ≡ left_in circuit covered
    → gates ≡ word_count (gates_in covered) → count ≡ length parts.left
    → gates + count + length circuit.latches + length circuit.dont_care ≤ MAX_NODES
    → (fresh : List (List ℕ)) × AreNew (used_names circuit) fresh × ArePlaced library
    covered.forest.leaves covered.forest.roots.items covered.covers.items fresh parts.gates
    → parts.trees ≡ figures_of covered.forest.roots.items covered.covers.items
    → IsCovered circuit library covered → IsMapped circuit library (mapped_of circuit parts)
parts_are circuit library covered parts gates count same sum counted few (fresh, new, placed)
    figures (tree, shapes, made, is) =
    let covering = covering_of tree shapes made covered in
    let left = same ∙ left_same circuit library covering is in
    let all = ap (λ (tables : List Table). length tables) left in record {
      covering = covering;
      covered = is;
      few = omega (arith, sum, counted, few, all);
      base = ap (λ (tables : List Table). with_tables circuit tables) left;
      fresh = fresh;
      new = new;
      gates = placed;
      figures = figures;
    }

-- parts that are few enough, or too many, by the covers
pub parts_map : (circuit : Circuit) (library : List Gate) (covered : Covered)
    (result : Result Parts MapFault) → Covers circuit library (Ok covered)
    → HasParts circuit library result → MapsParts circuit library result
parts_map circuit library covered (Ok parts) (inverter, nand, is) has = (inverter, nand, has)
parts_map circuit library covered (Err NoInverter) (inverter, nand, is) has = absurd has
parts_map circuit library covered (Err NoNand) (inverter, nand, is) has = absurd has
parts_map circuit library covered (Err TreeLimit) (inverter, nand, is) has = absurd has
parts_map circuit library covered (Err NodeLimit) (inverter, nand, is) has = (inverter, nand, has)
parts_map circuit library covered (Err Memory) (inverter, nand, is) has = tt

-- why there are no covers is why there is no netlist
pub fault_maps : (circuit : Circuit) (library : List Gate) (fault : MapFault)
    (result : Result Parts MapFault) → result ≡ Err fault → Covers circuit library (Err fault)
    → MapsParts circuit library result
fault_maps circuit library fault result is why =
    subst (MapsParts circuit library) (sym is) (by fault why)
  where
    by : (f : MapFault) → Covers circuit library (Err f) → MapsParts circuit library (Err f)
    by NoInverter h = h
    by NoNand h = h
    by TreeLimit h = h
    by NodeLimit h = absurd h
    by Memory h = tt

-- the netlist of parts, or why there is none
pub parts_maps : (network circuit : Circuit) (library : List Gate) (parts : Parts)
    (mapped : Mapped) → circuit ≡ network → mapped ≡ mapped_of circuit parts
    → MapsParts circuit library (Ok parts) → Maps network library (Ok mapped)
parts_maps network circuit library parts mapped same is maps =
    subst (λ (c : Circuit). Maps c library (Ok mapped)) same
    (subst (λ (m : Mapped). Maps circuit library (Ok m)) (sym is) maps)

pub no_parts : (network circuit : Circuit) (library : List Gate) (fault : MapFault)
    (result : Result Mapped MapFault) → circuit ≡ network → result ≡ Err fault
    → MapsParts circuit library (Err fault) → Maps network library result
no_parts network circuit library fault result same is why =
    subst (λ (c : Circuit). Maps c library result) same
    (subst (Maps circuit library) (sym is) why)

-- a netlist keeps all but the tables of its circuit
pub kept_is : (library : List Gate) (circuit : Circuit) (mapped : Mapped)
    → Maps circuit library (Ok mapped)
    → circuit_of library mapped ≡ with_tables circuit (circuit_of library mapped).tables
unfolding circuit_of
kept_is library circuit mapped (inverter, nand, is) =
    ap (λ (b : Circuit). record b {
      tables = placed_tables library mapped.gates
          ++ mapped.base.tables;
    }) is.base
