-- What private functions of the mapper return. No public clause needs these definitions.
use Rattle.std.specs.Prelude.{◌≡◌, ℕ, Result, Ok, Err, List}
use Rattle.circuit_model.specs.declared.circuit.Circuit.{Circuit}
use Rattle.circuit_laws.specs.Edits.{with_tables}
use Rattle.genlib_format.specs.declared.gate.Gate.{Gate}
use Rattle.subject_tree.specs.Trees.{Tree}
use Rattle.subject_tree.specs.Roots.{IsTooLarge}
use Rattle.subject_tree.specs.declared.arena.Vertex.{Vertex}
use Rattle.subject_tree.specs.declared.forest.Forest.{Forest}
use Rattle.pattern_set.specs.declared.cells.PatternGate.{PatternGate}
use Rattle.pattern_set.specs.declared.cells.Patterns.{Patterns}
use Rattle.netlist.specs.declared.mapped.Mapped.{Mapped}
use Rattle.map_net.specs.declared.mapping.MapFault.{MapFault}
use Rattle.map_net.specs.declared.mapping.MapFault.TheVariants.{NoInverter, NoNand, TreeLimit}
use Rattle.map_net.specs.declared.mapping.MapFault.TheVariants.{NodeLimit, Memory}
use Rattle.map_net.specs.declared.mapping.Covered.{Covered}
use Rattle.map_net.specs.declared.mapping.Parts.{Parts}
use Rattle.map_net.specs.Covering.{Covering, IsCovering, HasInverter, HasNand}
use Rattle.map_net.specs.Mapping.{IsMapped, HasTooManyNodes, Maps}

-- a covering is over a forest and patterns
pub record IsOver (covering : Covering) (forest : Forest) (patterns : Patterns) : Type 0 where
  pub vertices : covering.vertices ≡ forest.arena
  pub names : covering.names ≡ forest.leaves
  pub shapes : covering.shapes ≡ patterns.arena
  pub gates : covering.gates ≡ patterns.gates

-- the covering of a forest and covers, over trees of signals and patterns
abbrev pub covering_of : (List ℕ → Tree (List ℕ)) → List Vertex → List PatternGate → Covered
    → Covering
covering_of tree shapes gates covered = record {
  signal_tree = tree;
  vertices = covered.forest.arena;
  names = covered.forest.leaves;
  roots = covered.forest.roots.items;
  shapes = shapes;
  gates = gates;
  covers = covered.covers.items;
}

-- a forest and covers are those of a circuit by a library
abbrev pub IsCovered : Circuit → List Gate → Covered → Type 0
IsCovered circuit library covered =
    (tree : List ℕ → Tree (List ℕ)) × (shapes : List Vertex) × (gates : List PatternGate)
    × IsCovering circuit library (covering_of tree shapes gates covered)

-- why a circuit has no forest
abbrev pub IsForestFault : Circuit → MapFault → Type 0
IsForestFault circuit NoInverter = ⊥
IsForestFault circuit NoNand = ⊥
IsForestFault circuit TreeLimit = IsTooLarge circuit
IsForestFault circuit NodeLimit = ⊥
IsForestFault circuit Memory = Unit {0}

-- covers of a circuit by a library, or the first of the reasons against them
abbrev pub Covers : Circuit → List Gate → Result Covered MapFault → Type 0
Covers circuit library (Ok covered) = HasInverter library × HasNand library
    × IsCovered circuit library covered
Covers circuit library (Err NoInverter) = HasInverter library → ⊥
Covers circuit library (Err NoNand) = HasInverter library × (HasNand library → ⊥)
Covers circuit library (Err TreeLimit) = HasInverter library × HasNand library × IsTooLarge circuit
Covers circuit library (Err NodeLimit) = ⊥
Covers circuit library (Err Memory) = Unit {0}

-- the netlist of parts
abbrev pub mapped_of : Circuit → Parts → Mapped
mapped_of circuit parts = record {
  base = with_tables circuit parts.left;
  gates = parts.gates;
  trees = parts.trees;
}

-- the parts of a netlist of a circuit that is covered, or that they are too many
abbrev pub HasParts : Circuit → List Gate → Result Parts MapFault → Type 0
HasParts circuit library (Ok parts) = IsMapped circuit library (mapped_of circuit parts)
HasParts circuit library (Err NoInverter) = ⊥
HasParts circuit library (Err NoNand) = ⊥
HasParts circuit library (Err TreeLimit) = ⊥
HasParts circuit library (Err NodeLimit) = HasTooManyNodes circuit library
HasParts circuit library (Err Memory) = Unit {0}

-- the parts of the netlist of a circuit, or the first of the reasons against one
abbrev pub MapsParts : Circuit → List Gate → Result Parts MapFault → Type 0
MapsParts circuit library (Ok parts) = Maps circuit library (Ok (mapped_of circuit parts))
MapsParts circuit library (Err fault) = Maps circuit library (Err fault)
