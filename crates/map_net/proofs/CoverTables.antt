-- The tables of the gates of a cover stand for its tree.
use Rattle.std.proofs.Common.{◌≡◌, ◌⊎◌, ℕ, zero, suc, ◌+◌, ◌<◌, Bool, true, false, not, ◌&&◌}
use Rattle.std.proofs.Common.{◌||◌, Option, Some, List, [], ◌∷◌, ◌++◌, map, length, bytes_eq}
use Rattle.std.proofs.Common.{refl, sym, ap, ◌∙◌, subst, inl, inr, arith, length-append}
use Rattle.std.specs.Prelude.{slice_get, slice_index_or}
use Rattle.std.specs.List.{AllByRecursion}
use Rattle.std.specs.Option.{option_map_or}
use Rattle.std.specs.declared.cmp.Ordering.{Ordering}
use Rattle.std.proofs.lemmas.Bool.{false≢true, or_cases}
use Rattle.std.proofs.lemmas.Option.{none-some, same_Some, slice_get_within}
use Rattle.std.proofs.Math.Seq.{get_or-append_seam}
use Rattle.circuit_model.specs.Names.{has, all_different}
use Rattle.circuit_model.specs.Values.{driven_value}
use Rattle.circuit_model.specs.Soundness.{outputs_of, IsShaped}
use Rattle.circuit_model.specs.declared.circuit.Table.{Table}
use Rattle.circuit_laws.proofs.Names.{same_name}
use Rattle.subject_tree.specs.Trees.{Tree, Leaf, Inv, Nand, value_at, renamed}
use Rattle.subject_tree.specs.Order.{name_at}
use Rattle.subject_tree.specs.declared.arena.Vertex.{Vertex}
use Rattle.genlib_expr.specs.Formula.{Formula, constant, pin, complement, product, sum, formula_of}
use Rattle.genlib_expr.specs.Values.{formula_value}
use Rattle.genlib_expr.specs.Functions.{bit_at, function_of}
use Rattle.genlib_format.specs.Soundness.{IsSoundGates, IsSoundGate}
use Rattle.genlib_format.specs.declared.gate.Gate.{Gate}
use Rattle.pattern_set.specs.Values.{HasPin, HasLeaf}
use Rattle.pattern_set.specs.declared.cells.PatternGate.{PatternGate}
use Rattle.pattern_set.proofs.Exact.{In}
use Rattle.tree_cover.specs.Covers.{Tile, tile_of, tiles, Matches, IsProper, Fits}
use Rattle.tree_cover.specs.Written.{IsWritten, written_leaf, written_gate, signal_value, signal_at}
use Rattle.tree_cover.specs.Written.{Obeys, UsesPins, StandsBefore, AreWired, area_at}
use Rattle.tree_cover.specs.Listed.{HavePatterns, function_in}
use Rattle.tree_cover.specs.declared.writing.Signal.{Signal}
use Rattle.tree_cover.specs.declared.writing.Signal.TheVariants.{Leaf as AtLeaf, Gate as AtGate}
use Rattle.tree_cover.specs.declared.writing.CoverGate.{CoverGate}
use Rattle.tree_cover.proofs.EachGate.{gates_usable, patterns_described}
use Rattle.tree_cover.proofs.GateValuing.{written-wired, written-value, usable_use_pins}
use Rattle.tree_cover.proofs.Mentioned.{pins_exact}
use Rattle.map_net.specs.Mapping.{name_of, driven_in}
use Rattle.map_net.specs.Standing.{IsLeafOf}
use Rattle.map_net.proofs.Celling.{IsCellTable}
use Rattle.map_net.proofs.Inside.{place_in, in_all, in_place}
use Rattle.map_net.proofs.Realizing.{IsEarlier}
use Rattle.map_net.proofs.Grouping.{IsTreeGroup, IsMadeOf}

-- the gates of a cover have tables, each driving one of some signals, in order
abbrev pub AreGateTables : List Gate → (Signal → List ℕ) → List CoverGate → List (List ℕ)
    → List Table → Type 0
AreGateTables library named [] driven tables = (driven ≡ []) × (tables ≡ [])
AreGateTables library named (gate ∷ gates) driven tables =
    (output : List ℕ) × (outputs : List (List ℕ)) × (first : Table) × (rest : List Table)
    × (cell : Gate) × (driven ≡ output ∷ outputs) × (tables ≡ first ∷ rest)
    × (slice_get library gate.place ≡ Some cell)
    × IsCellTable cell (map named gate.pins) output first
    × AreGateTables library named gates outputs rest

-- the gate, the signal, the cell and the table at a place
pub record TableAt (library : List Gate) (named : Signal → List ℕ) (gates : List CoverGate)
    (driven : List (List ℕ)) (tables : List Table) (k : ℕ) (table : Table) : Type 0 where
  pub gate : CoverGate
  pub cell : Gate
  pub at_gate : slice_get gates k ≡ Some gate
  pub at_cell : slice_get library gate.place ≡ Some cell
  pub driven_is : slice_index_or driven k [] ≡ table.output
  pub is : IsCellTable cell (map named gate.pins) table.output table

table_at : (library : List Gate) (named : Signal → List ℕ) (gates : List CoverGate)
    (driven : List (List ℕ)) (tables : List Table) → AreGateTables library named gates driven tables
    → (k : ℕ) (table : Table) → slice_get tables k ≡ Some table
    → TableAt library named gates driven tables k table
table_at library named [] driven tables are k table at =
    absurd (none-some table (ap (λ (ts : List Table). slice_get ts k) (sym are.1) ∙ at))
table_at library named (gate ∷ gates) driven tables
    (output, outputs, first, rest, cell, names, parts, at_cell, is, more) k table at =
    subst (λ (ns : List (List ℕ)). TableAt library named (gate ∷ gates) ns tables k table)
    (sym names) (by k (ap (λ (ts : List Table). slice_get ts k) (sym parts) ∙ at)
    (λ j here. table_at library named gates outputs rest more j table here))
  where
    by : (k : ℕ) → slice_get (first ∷ rest) k ≡ Some table
        → ((j : ℕ) → slice_get rest j ≡ Some table
        → TableAt library named gates outputs rest j table)
        → TableAt library named (gate ∷ gates) (output ∷ outputs) tables k table
    by zero here behind = record {
      gate = gate;
      cell = cell;
      at_gate = refl;
      at_cell = at_cell;
      driven_is = sym is.output_is ∙ ap (λ (t : Table). t.output) same;
      is = subst (λ (t : Table). IsCellTable cell (map named gate.pins) t.output t) same
          (subst (λ (n : List ℕ). IsCellTable cell (map named gate.pins) n first)
          (sym is.output_is) is);
    }
      where
        same : first ≡ table
        same = same_Some first table here
    by (suc k) here behind =
        let it = behind k here in
        record {
          gate = it.gate;
          cell = it.cell;
          at_gate = it.at_gate;
          at_cell = it.at_cell;
          driven_is = it.driven_is;
          is = it.is;
        }

-- each gate has a table
table_of_gate : (library : List Gate) (named : Signal → List ℕ) (gates : List CoverGate)
    (driven : List (List ℕ)) (tables : List Table) → AreGateTables library named gates driven tables
    → (k : ℕ) → k < length gates → (table : Table) × (slice_get tables k ≡ Some table)
table_of_gate library named [] driven tables are k low = absurd (omega (arith, low))
table_of_gate library named (gate ∷ gates) driven tables
    (output, outputs, first, rest, cell, names, parts, at_cell, is, more) k low =
    subst (λ (ts : List Table). (table : Table) × (slice_get ts k ≡ Some table)) (sym parts)
    (by k low (λ j less. table_of_gate library named gates outputs rest more j less))
  where
    by : (k : ℕ) → k < length (gate ∷ gates)
        → ((j : ℕ) → j < length gates → (table : Table) × (slice_get rest j ≡ Some table))
        → (table : Table) × (slice_get (first ∷ rest) k ≡ Some table)
    by zero less behind = (first, refl)
    by (suc k) less behind = behind k (omega (arith, less))

-- what the tables drive
tables_drive : (library : List Gate) (named : Signal → List ℕ) (gates : List CoverGate)
    (driven : List (List ℕ)) (tables : List Table) → AreGateTables library named gates driven tables
    → outputs_of tables ≡ driven
tables_drive library named [] driven tables are =
    ap (λ (ts : List Table). outputs_of ts) are.1 ∙ sym are.0
tables_drive library named (gate ∷ gates) driven tables
    (output, outputs, first, rest, cell, names, parts, at_cell, is, more) =
    ap (λ (ts : List Table). outputs_of ts) parts
    ∙ ap (λ (name : List ℕ). name ∷ outputs_of rest) is.output_is
    ∙ ap (λ (ns : List (List ℕ)). output ∷ ns) (tables_drive library named gates outputs rest more)
    ∙ sym names

drives_count : (library : List Gate) (named : Signal → List ℕ) (gates : List CoverGate)
    (driven : List (List ℕ)) (tables : List Table) → AreGateTables library named gates driven tables
    → length gates ≡ length driven
drives_count library named [] driven tables are = ap (λ (ns : List (List ℕ)). length ns) (sym are.0)
drives_count library named (gate ∷ gates) driven tables
    (output, outputs, first, rest, cell, names, parts, at_cell, is, more) =
    let behind = drives_count library named gates outputs rest more in
    let all = ap (λ (ns : List (List ℕ)). length ns) names in
    omega (arith, behind, all)

-- a name of signals is that of one of them
named_signal : (named : Signal → List ℕ) (signals : List Signal) (name : List ℕ)
    → has (map named signals) name ≡ true
    → (signal : Signal) × In signal signals × (named signal ≡ name)
named_signal named [] name h = absurd (false≢true h)
named_signal named (first ∷ signals) name h =
    elim (or_cases (bytes_eq name (named first)) (has (map named signals) name) h) as
    (λ _. (signal : Signal) × In signal (first ∷ signals) × (named signal ≡ name)) [
      | inl e ↦ (first, inl refl, sym (same_name name (named first) e))
      | inr k ↦ let (signal, there, own) = named_signal named signals name k in
          (signal, inr there, own)
    ]

all_signals : (P : Signal → Type 0) (signals : List Signal) → AllByRecursion P signals
    → (signal : Signal) → In signal signals → P signal
all_signals P [] all signal h = absurd h
all_signals P (first ∷ signals) all signal (inl e) = subst P e all.0
all_signals P (first ∷ signals) all signal (inr h) = all_signals P signals all.1 signal h

-- leaves by their names
leaf_named : (names : List (List ℕ)) (place : ℕ) (t : Tree ℕ) → HasLeaf place t
    → IsLeafOf (name_at names place) (renamed (name_at names) t)
unfolding HasLeaf renamed
leaf_named names place (Leaf other) h = ap (name_at names) h
leaf_named names place (Inv t) h = leaf_named names place t h
leaf_named names place (Nand t u) (inl h) = inl (leaf_named names place t h)
leaf_named names place (Nand t u) (inr h) = inr (leaf_named names place u h)

renamed_value : (value : List ℕ → Bool) (f : ℕ → List ℕ) (t : Tree ℕ)
    → value_at value (renamed f t) ≡ value_at (λ leaf. value (f leaf)) t
unfolding value_at renamed
renamed_value value f (Leaf leaf) = refl
renamed_value value f (Inv t) = ap not (renamed_value value f t)
renamed_value value f (Nand t u) =
    ap (λ (b : Bool). not (b && value_at value (renamed f u))) (renamed_value value f t)
    ∙ ap (λ (b : Bool). not (value_at (λ leaf. value (f leaf)) t && b)) (renamed_value value f u)

-- a formula has one value where its pins have the same ones
formula_same : (f g : ℕ → Bool) (e : Formula) → ((place : ℕ) → HasPin place e → f place ≡ g place)
    → formula_value f e ≡ formula_value g e
unfolding formula_value HasPin
formula_same f g (constant bit) same = refl
formula_same f g (pin place) same = same place refl
formula_same f g (complement e) same = ap not (formula_same f g e same)
formula_same f g (product d e) same =
    ap (λ (b : Bool). b && formula_value f e) (formula_same f g d (λ place h. same place (inl h)))
    ∙ ap (λ (b : Bool). formula_value g d && b) (formula_same f g e (λ place h. same place (inr h)))
formula_same f g (sum d e) same =
    ap (λ (b : Bool). b || formula_value f e) (formula_same f g d (λ place h. same place (inl h)))
    ∙ ap (λ (b : Bool). formula_value g d || b) (formula_same f g e (λ place h. same place (inr h)))

-- the bit of a pin is that of the signal there
bit_there : (names : List (List ℕ)) (driven : List (List ℕ)) (new : List ℕ → Bool)
    (pins : List Signal) (place : ℕ) → place < length pins
    → bit_at (map new (map (name_of names driven) pins)) place
    ≡ signal_value (λ leaf. new (name_at names leaf)) (λ k. new (slice_index_or driven k []))
    (signal_at pins place)
bit_there names driven new [] place low = absurd (omega (arith, low))
bit_there names driven new (AtLeaf leaf ∷ pins) zero low = refl
bit_there names driven new (AtGate k ∷ pins) zero low = refl
bit_there names driven new (signal ∷ pins) (suc place) low =
    bit_there names driven new pins place (omega (arith, low))

cell_value : (names : List (List ℕ)) (driven : List (List ℕ)) (new : List ℕ → Bool)
    (pins : List Signal) (cell : Gate) → IsSoundGate cell → length pins ≡ length cell.pins
    → function_of (formula_of cell.expr) (map new (map (name_of names driven) pins))
    ≡ formula_value (λ place. signal_value (λ leaf. new (name_at names leaf))
    (λ k. new (slice_index_or driven k [])) (signal_at pins place)) (formula_of cell.expr)
unfolding function_of
cell_value names driven new pins cell sound count =
    formula_same (bit_at (map new (map (name_of names driven) pins)))
    (λ place. signal_value (λ leaf. new (name_at names leaf)) (λ k. new (slice_index_or driven k
    [])) (signal_at pins place)) (formula_of cell.expr) (λ place h.
    let low = (pins_exact cell sound place).0 h in
    bit_there names driven new pins place (omega (arith, count, low)))

-- how a cover ends: no gate where the tree is a leaf, and else the last gate drives the root
abbrev pub IsInner : Tree ℕ → Type 0
IsInner (Leaf place) = ⊥
IsInner (Inv t) = Unit {0}
IsInner (Nand t u) = Unit {0}

fits_inner : (tile : Tile) (t : Tree ℕ) (bound : List (Tree ℕ)) → Fits tile t bound → IsInner t
unfolding IsProper Matches
fits_inner tile (Leaf place) bound fits = off fits.pattern fits.proper fits.matches
  where
    off : (pattern : Tree ℕ) → IsProper pattern → Matches pattern (Leaf place) bound → ⊥
    off (Leaf q) proper h = proper
    off (Inv p) proper h = h
    off (Nand p q) proper h = h
fits_inner tile (Inv t) bound fits = tt
fits_inner tile (Nand t u) bound fits = tt

pub record EndsInGate (t : Tree ℕ) (signal : Signal) (gates : List CoverGate) : Type 0 where
  pub inner : IsInner t
  pub before : List CoverGate
  pub last : CoverGate
  pub drives : signal ≡ AtGate (length before)
  pub gates_are : gates ≡ before ++ last ∷ []

pub record EndsInLeaf (t : Tree ℕ) (signal : Signal) (gates : List CoverGate) : Type 0 where
  pub place : ℕ
  pub leaf : t ≡ Leaf place
  pub drives : signal ≡ AtLeaf place
  pub none : gates ≡ []

pub cover_ends : (cmp : Tree ℕ → Tree ℕ → Ordering) (library : List Tile) (t : Tree ℕ) (start : ℕ)
    (signal : Signal) (gates : List CoverGate) → start ≡ 0
    → IsWritten cmp library t start signal gates
    → EndsInLeaf t signal gates ⊎ EndsInGate t signal gates
cover_ends cmp library t s signal gates first (written_leaf place start) =
    inl (record { place = place; leaf = refl; drives = refl; none = refl })
cover_ends cmp library t s signal gates first
    (written_gate u start cost place bound pins before given are) =
    inr (record {
      inner = fits_inner given.stands.tile u bound given.stands.fits;
      before = before;
      last = record { place = place; pins = pins };
      drives = ap (λ (n : ℕ). AtGate n) (let none : ◌≡◌ {A = ℕ} start 0 = first in
          let same : start + length before ≡ length before = omega (arith, none) in same);
      gates_are = refl;
    })

-- the cells of a library at places
sound_at : (library : List Gate) → AllByRecursion IsSoundGate library → (place : ℕ) (cell : Gate)
    → slice_get library place ≡ Some cell → IsSoundGate cell
sound_at [] all place cell at = absurd (none-some cell at)
sound_at (gate ∷ library) all zero cell at = subst IsSoundGate (same_Some gate cell at) all.0
sound_at (gate ∷ library) all (suc place) cell at = sound_at library all.1 place cell at

pub record IsTileOf (cell : Gate) (tile : Tile) : Type 0 where
  pub area : tile.area ≡ cell.area.0
  pub pins : tile.pins ≡ length cell.pins

pub tile_at : (shapes : List Vertex) (library : List Gate) (made : List PatternGate)
    → HavePatterns shapes library made → (place : ℕ) (tile : Tile)
    → slice_get (tiles shapes made) place ≡ Some tile
    → (cell : Gate) × (slice_get library place ≡ Some cell) × IsTileOf cell tile
tile_at shapes [] [] have place tile at = absurd (none-some tile at)
tile_at shapes [] (m ∷ made) have place tile at = absurd have
tile_at shapes (cell ∷ library) [] have place tile at = absurd have
tile_at shapes (cell ∷ library) (m ∷ made) have zero tile at = (
  cell,
  refl,
  subst (IsTileOf cell) (same_Some (tile_of shapes m) tile at) (record {
    area = have.0.area;
    pins = have.0.pins;
  }),
)
tile_at shapes (cell ∷ library) (m ∷ made) have (suc place) tile at =
    tile_at shapes library made have.1 place tile at

-- the gates of a cover are cells of the library with a signal at each pin, a leaf or a gate before
pub record IsCellAt (library : List Gate) (listed : List Tile) (t : Tree ℕ) (k : ℕ)
    (gate : CoverGate) : Type 0 where
  pub cell : Gate
  pub at : slice_get library gate.place ≡ Some cell
  pub count : length gate.pins ≡ length cell.pins
  pub area : area_at listed gate.place ≡ cell.area.0
  pub before : AllByRecursion (StandsBefore (λ place. HasLeaf place t) k) gate.pins

pub cell_of_gate : (cmp : Tree ℕ → Tree ℕ → Ordering) (shapes : List Vertex) (library : List Gate)
    (made : List PatternGate) → IsSoundGates library → HavePatterns shapes library made → (t : Tree ℕ)
    (signal : Signal) (gates : List CoverGate)
    → IsWritten cmp (tiles shapes made) t 0 signal gates → (k : ℕ) (gate : CoverGate)
    → slice_get gates k ≡ Some gate → IsCellAt library (tiles shapes made) t k gate
cell_of_gate cmp shapes library made sound have t signal gates written k gate at =
    let (tile, there, count, before) = wired.0 k gate at in
    let (cell, at_cell, is) = tile_at shapes library made have gate.place tile there in
    record {
      cell = cell;
      at = at_cell;
      count = count ∙ is.pins;
      area = ap (λ (found : Option Tile). option_map_or (λ (x : Tile). x.area) found 0) there
          ∙ is.area;
      before = subst (λ (n : ℕ). AllByRecursion (StandsBefore (λ place. HasLeaf place t) n)
          gate.pins) (let same : 0 + k ≡ k = omega arith in same) before;
    }
  where
    uses : UsesPins (tiles shapes made)
    uses = usable_use_pins shapes made (gates_usable shapes library made have sound.each)

    wired : AreWired (tiles shapes made) (λ place. HasLeaf place t) 0 gates
        × StandsBefore (λ place. HasLeaf place t) (0 + length gates) signal
    wired = written-wired cmp (tiles shapes made) uses (λ place. HasLeaf place t) t 0 signal gates
        written (λ leaf has. has)

-- no gates, no tables
no_tables : (library : List Gate) (names : List (List ℕ)) (signal : Signal)
    (gates : List CoverGate) (root : List ℕ) (inner : List (List ℕ)) (tables : List Table)
    (place : ℕ) → signal ≡ AtLeaf place → gates ≡ []
    → AreGateTables library (name_of names (driven_in signal inner root)) gates (driven_in signal
    inner root) tables
    → (inner ≡ []) × (tables ≡ [])
no_tables library names signal gates root inner tables place drives none are =
    let here = subst (λ (gs : List CoverGate). AreGateTables library (name_of names (driven_in
    signal inner root)) gs (driven_in signal inner root) tables) none are in
    (sym (ap (λ (s : Signal). driven_in s inner root) drives) ∙ here.0, here.1)

leaf_made : (names : List (List ℕ)) (t : Tree ℕ) (place : ℕ) (root : List ℕ)
    (inner : List (List ℕ)) (tables : List Table) → t ≡ Leaf place
    → (inner ≡ []) × (tables ≡ [])
    → IsMadeOf (Some (renamed (name_at names) t)) root inner tables
unfolding renamed
leaf_made names t place root inner tables leaf none =
    subst (λ (u : Tree ℕ). IsMadeOf (Some (renamed (name_at names) u)) root inner tables) (sym leaf)
    none

tree_made : (names : List (List ℕ)) (t : Tree ℕ) (root : List ℕ) (inner : List (List ℕ))
    (tables : List Table) → IsInner t → IsTreeGroup root (renamed (name_at names) t) inner tables
    → IsMadeOf (Some (renamed (name_at names) t)) root inner tables
unfolding renamed
tree_made names (Leaf place) root inner tables off group = absurd off
tree_made names (Inv t) root inner tables is_inner group = group
tree_made names (Nand t u) root inner tables is_inner group = group

-- a cover of a tree, and tables of its gates
pub record IsTabled (cmp : Tree ℕ → Tree ℕ → Ordering) (shapes : List Vertex)
    (library : List Gate) (made : List PatternGate) (names : List (List ℕ)) (t : Tree ℕ)
    (signal : Signal) (gates : List CoverGate) (root : List ℕ) (inner : List (List ℕ))
    (tables : List Table) : Type 0 where
  pub sound : IsSoundGates library
  pub have : HavePatterns shapes library made
  pub written : IsWritten cmp (tiles shapes made) t 0 signal gates
  pub are : AreGateTables library (name_of names (driven_in signal inner root)) gates
      (driven_in signal inner root) tables

module _ (cmp : Tree ℕ → Tree ℕ → Ordering) (shapes : List Vertex) (library : List Gate)
    (made : List PatternGate) (names : List (List ℕ)) (t : Tree ℕ) (signal : Signal)
    (gates : List CoverGate) (root : List ℕ) (inner : List (List ℕ)) (tables : List Table)
    (is : IsTabled cmp shapes library made names t signal gates root inner tables) where
  driven : List (List ℕ)
  driven = driven_in signal inner root

  at_place : (k : ℕ) (table : Table) → slice_get tables k ≡ Some table
      → TableAt library (name_of names (driven_in signal inner root)) gates (driven_in signal inner
      root) tables k table
  at_place k table at = table_at library (name_of names (driven_in signal inner root)) gates
      (driven_in signal inner root) tables is.are k table at

  group_reads : (k : ℕ) (table : Table) (input : List ℕ) → slice_get tables k ≡ Some table
      → has table.inputs input ≡ true
      → IsLeafOf input (renamed (name_at names) t) ⊎ IsEarlier tables k input
  group_reads k table input at h =
      let one = at_place k table at in
      let cell = cell_of_gate cmp shapes library made is.sound is.have t signal gates is.written k
      one.gate one.at_gate in
      let low = slice_get_within gates k one.gate one.at_gate in
      let (from, there, own) = named_signal (name_of names (driven_in signal inner root))
      one.gate.pins input (one.is.reads input h) in
      by from own low (all_signals (StandsBefore (λ place. HasLeaf place t) k) one.gate.pins
      cell.before from there)
    where
      by : (from : Signal) → name_of names (driven_in signal inner root) from ≡ input
          → k < length gates → StandsBefore (λ place. HasLeaf place t) k from
          → IsLeafOf input (renamed (name_at names) t) ⊎ IsEarlier tables k input
      by (AtLeaf place) own low leaf = inl (subst (λ (n : List ℕ). IsLeafOf n (renamed (name_at
          names) t)) own (leaf_named names place t leaf))
      by (AtGate j) own low less =
          let (other, there) = table_of_gate library (name_of names (driven_in signal inner root))
          gates (driven_in signal inner root) tables is.are j (omega (arith, low, less)) in
          inr (j, other, less, there, sym (at_place j other there).driven_is ∙ own)

  group_value : (new : List ℕ → Bool)
      → ((table : Table) → In table tables → new table.output ≡ driven_value (Some table) new)
      → signal_value (λ leaf. new (name_at names leaf)) (λ k. new (slice_index_or (driven_in signal
      inner root) k [])) signal ≡ value_at new (renamed (name_at names) t)
  group_value new obeys =
      written-value (function_in library) (λ leaf. new (name_at names leaf))
      (λ k. new (slice_index_or (driven_in signal inner root) k [])) cmp (tiles shapes made)
      (patterns_described shapes library made is.have) t 0 signal gates is.written obeyed
      ∙ sym (renamed_value new (name_at names) t)
    where
      obeyed : Obeys (function_in library) (λ leaf. new (name_at names leaf))
          (λ k. new (slice_index_or (driven_in signal inner root) k [])) 0 gates
      obeyed k gate at =
          let low = slice_get_within gates k gate at in
          let (table, there) = table_of_gate library (name_of names (driven_in signal inner root))
          gates (driven_in signal inner root) tables is.are k low in
          step table there (at_place k table there)
        where
          step : (table : Table) → slice_get tables k ≡ Some table
              → TableAt library (name_of names (driven_in signal inner root)) gates (driven_in
              signal inner root) tables k table
              → new (slice_index_or (driven_in signal inner root) (0 + k) [])
              ≡ formula_value (λ place. signal_value (λ leaf. new (name_at names leaf))
              (λ k. new (slice_index_or (driven_in signal inner root) k []))
              (signal_at gate.pins place)) (function_in library gate.place)
          step table there one =
              ap (λ (n : ℕ). new (slice_index_or (driven_in signal inner root) n []))
              (let same : 0 + k ≡ k = omega arith in same)
              ∙ ap new one.driven_is
              ∙ obeys table (place_in table tables k there)
              ∙ one.is.value new
              ∙ cell_value names (driven_in signal inner root) new one.gate.pins one.cell
              (sound_at library is.sound.each one.gate.place one.cell one.at_cell) (count one)
              ∙ ap (λ (e : Formula). formula_value (λ place. signal_value (λ leaf. new (name_at
              names leaf)) (λ k. new (slice_index_or (driven_in signal inner root) k []))
              (signal_at one.gate.pins place)) e) (sym (function_there one))
              ∙ ap (λ (g : CoverGate). formula_value (λ place. signal_value (λ leaf. new (name_at
              names leaf)) (λ k. new (slice_index_or (driven_in signal inner root) k []))
              (signal_at g.pins place)) (function_in library g.place)) (same_Some one.gate gate
              (sym one.at_gate ∙ at))
            where
              count : (one : TableAt library (name_of names (driven_in signal inner root)) gates
                  (driven_in signal inner root) tables k table)
                  → length one.gate.pins ≡ length one.cell.pins
              count one =
                  let it = cell_of_gate cmp shapes library made is.sound is.have t signal gates
                  is.written k one.gate one.at_gate in
                  it.count ∙ ap (λ (c : Gate). length c.pins) (same_Some it.cell one.cell (sym it.at
                  ∙ one.at_cell))

              function_there : (one : TableAt library (name_of names (driven_in signal inner root))
                  gates (driven_in signal inner root) tables k table)
                  → function_in library one.gate.place ≡ formula_of one.cell.expr
              function_there one = ap (λ (found : Option Gate). option_map_or (λ (g : Gate).
                  formula_of g.expr) found (constant false)) one.at_cell

  group_shaped : AllByRecursion IsShaped tables
  group_shaped = in_all IsShaped tables (λ x h. let (k, at) = in_place x tables h in
      (at_place k x at).is.shaped)

  group_once : AllByRecursion (λ (table : Table). all_different table.inputs ≡ true) tables
  group_once = in_all (λ (table : Table). all_different table.inputs ≡ true) tables
      (λ x h. let (k, at) = in_place x tables h in (at_place k x at).is.once)

  gates_count : length gates ≡ length (driven_in signal inner root)
  gates_count = drives_count library (name_of names (driven_in signal inner root)) gates
      (driven_in signal inner root) tables is.are

  gate_group : EndsInGate t signal gates
      → IsTreeGroup root (renamed (name_at names) t) inner tables
  gate_group ends = record {
    outputs = tables_drive library (name_of names (driven_in signal inner root)) gates (driven_in
        signal inner root) tables is.are ∙ ap (λ (s : Signal). driven_in s inner root) ends.drives;
    reads = group_reads;
    value = λ new obeys. sym (last new) ∙ group_value new obeys;
    shaped = group_shaped;
    once = group_once;
  }
    where
      before_count : length ends.before ≡ length inner
      before_count =
          let all = gates_count ∙ ap (λ (s : Signal). length (driven_in s inner root)) ends.drives
          in
          let two = ap (λ (gs : List CoverGate). length gs) ends.gates_are in
          omega (
            arith,
            all,
            two,
            length-append ends.before (ends.last ∷ []),
            length-append inner
                (root ∷ []),
          )

      last : (new : List ℕ → Bool)
          → signal_value (λ leaf. new (name_at names leaf)) (λ k. new (slice_index_or (driven_in
          signal inner root) k [])) signal ≡ new root
      last new =
          ap (λ (s : Signal). signal_value (λ leaf. new (name_at names leaf)) (λ k. new
          (slice_index_or (driven_in s inner root) k [])) s) ends.drives
          ∙ ap (λ (n : ℕ). new (slice_index_or (inner ++ root ∷ []) n [])) before_count
          ∙ ap new (get_or-append_seam inner root [] [])

  -- the tables of a cover stand for its tree
  pub cover_group : IsMadeOf (Some (renamed (name_at names) t)) root inner tables
  cover_group = by (cover_ends cmp (tiles shapes made) t 0 signal gates refl is.written)
    where
      by : EndsInLeaf t signal gates ⊎ EndsInGate t signal gates
          → IsMadeOf (Some (renamed (name_at names) t)) root inner tables
      by (inl it) = leaf_made names t it.place root inner tables it.leaf
          (no_tables library names signal gates root inner tables it.place it.drives it.none is.are)
      by (inr it) = tree_made names t root inner tables it.inner (gate_group it)
