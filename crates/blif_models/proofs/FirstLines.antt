-- The lines that are added to the first model.
use Rattle.std.proofs.Common.{◌≡◌, ℕ, suc, ◌+◌, ◌-◌, ◌<◌, ◌≤◌, Bool, true, false, not, if◌then◌else◌, Result, Ok, subst, Option, List, [], ◌∷◌, ◌++◌, length, get_or, slice_index_or, map, flat_map, refl, sym, ap, ◌∙◌, append_assoc, arith}
use Rattle.std.specs.List.{filter, range_with_len}
use Rattle.std.proofs.lemmas.List.{get_or-map, length-map, append-nil}
use Rattle.std.proofs.lemmas.List.FromFn.{get_or-map-range_with_len, length-range_with_len}
use Rattle.circuit_model.specs.Names.{has}
use Rattle.circuit_tables.specs.Folding.{each_once}
use Rattle.circuit_tables.proofs.Once.{different-each_once, each_once-different}
use Rattle.sis_text.specs.Entries.{Entry}
use Rattle.genlib_format.specs.declared.gate.Gate.{Gate as TheGate}
use Rattle.blif_lines.specs.Reader.{model_lines, clocks_in, names_beside}
use Rattle.blif_models.specs.Models.{model_graph, is_used, used_models, body_of}
use Rattle.blif_models.specs.Ports.{ports_at, ports_with}
use Rattle.blif_models.specs.PortTables.{once_ports, table_at}
use Rattle.blif_lines.specs.declared.fault.BlifFault.{BlifFault}
use Rattle.sis_text.specs.declared.read_fault.ReadFault.{ReadFault}
use Rattle.blif_lines.specs.declared.draft.Draft.{Draft}
use Rattle.blif_lines.specs.Steps.{take_entries, Takes}
use Rattle.blif_models.specs.Flat.{added}
use Rattle.blif_models.specs.FirstModel.{MarksUsed, clocks_at, clocks_from, port_line, port_word, side_line}
use Rattle.blif_models.specs.Sides.{other_side, ports_on, signals_with, lists_on}
use Rattle.blif_models.specs.declared.side.Side.{Side}
use Rattle.blif_models.specs.declared.side.Side.TheVariants as side
use Rattle.blif_models.proofs.PortSets.{side_found}
use Rattle.blif_models.specs.declared.limits.TheConstants.{MAX_DEPTH}
use Rattle.blif_models.specs.declared.ports.Ports.{Ports}

-- the clocks of the models that are used, model by model
clocks_over : List (List Entry) → ℕ → ℕ → List (List ℕ)
clocks_over models place count =
    flat_map (λ (model : List Entry). clocks_in (model_lines model)) (map (λ one. slice_index_or models one []) (filter (is_used (model_graph models)) (range_with_len place count)))

over_more : (models : List (List Entry)) (place count : ℕ) → clocks_over models place (suc count) ≡ clocks_at models place ++ clocks_over models (place + 1) count
unfolding clocks_over
over_more models place count = by (is_used (model_graph models) place)
  where
    by : (b : Bool)
        → flat_map (λ (model : List Entry). clocks_in (model_lines model)) (map (λ one. slice_index_or models one []) (if b then place ∷ filter (is_used (model_graph models)) (range_with_len (place + 1) count) else filter (is_used (model_graph models)) (range_with_len (place + 1) count)))
        ≡ (if b then clocks_in (model_lines (slice_index_or models place [])) else [])
        ++ flat_map (λ (model : List Entry). clocks_in (model_lines model)) (map (λ one. slice_index_or models one []) (filter (is_used (model_graph models)) (range_with_len (place + 1) count)))
    by true = refl
    by false = refl

clocks_step : (models : List (List Entry)) (place : ℕ) → place < length models → clocks_from models place ≡ clocks_at models place ++ clocks_from models (place + 1)
unfolding clocks_from clocks_over
clocks_step models place lt =
    let left : length models - place ≡ suc (length models - (place + 1)) = omega arith in
    ap (clocks_over models place) left ∙ over_more models place (length models - (place + 1))

clocks_end : (models : List (List Entry)) (place : ℕ) → length models ≤ place → clocks_from models place ≡ []
unfolding clocks_from clocks_over
clocks_end models place ge =
    let none : length models - place ≡ 0 = omega arith in
    ap (clocks_over models place) none

pub clocks_begin : (models : List (List Entry)) (names : List (List ℕ)) → names ≡ [] → names ++ clocks_from models 0 ≡ flat_map (λ (model : List Entry). clocks_in (model_lines model)) (used_models models)
unfolding clocks_from clocks_over used_models
clocks_begin models names none =
    let all : length models - 0 ≡ length models = omega arith in
    ap (λ (front : List (List ℕ)). front ++ clocks_over models 0 (length models - 0)) none ∙ ap (clocks_over models 0) all

pub clocks_go_on : (models : List (List Entry)) (place : ℕ) (names after whole : List (List ℕ)) → place < length models → after ≡ names ++ clocks_at models place
    → names ++ clocks_from models place ≡ whole → after ++ clocks_from models (place + 1) ≡ whole
clocks_go_on models place names after whole lt put begun =
    ap (λ (front : List (List ℕ)). front ++ clocks_from models (place + 1)) put
    ∙ append_assoc names (clocks_at models place) (clocks_from models (place + 1))
    ∙ ap (λ (back : List (List ℕ)). names ++ back) (sym (clocks_step models place lt))
    ∙ begun

pub clocks_done : (models : List (List Entry)) (place : ℕ) (names whole : List (List ℕ)) → length models ≤ place → names ++ clocks_from models place ≡ whole → names ≡ whole
clocks_done models place names whole ge begun =
    sym (append-nil names) ∙ ap (λ (back : List (List ℕ)). names ++ back) (sym (clocks_end models place ge)) ∙ begun

-- each model has a mark
pub within_marks : (models : List (List Entry)) (used : List Bool) (place : ℕ) → MarksUsed models used → place < length models → place < length used
within_marks models used place marks lt =
    let many : length used ≡ length models = ap length marks ∙ length-map (range_with_len 0 (length models)) (is_used (model_graph models)) ∙ length-range_with_len 0 (length models) in
    omega arith

-- whether a model is used, by the marks
pub marked : (models : List (List Entry)) (used : List Bool) (place : ℕ) (d : Bool) → MarksUsed models used → place < length models → get_or used place d ≡ is_used (model_graph models) place
marked models used place d marks lt =
    let at : 0 + place ≡ place = omega arith in
    ap (λ (list : List Bool). get_or list place d) marks ∙ get_or-map-range_with_len (is_used (model_graph models)) 0 (length models) place place d lt at

beside_twice : (others names : List (List ℕ)) → each_once (names_beside others names) ≡ names_beside others names
unfolding names_beside
beside_twice others names = each_once-different (each_once kept) (different-each_once kept)
  where
    kept : List (List ℕ)
    kept = filter (λ (name : List ℕ). not (has others name)) names

found_once : (own others names : List (List ℕ)) → own ≡ names_beside others names → each_once own ≡ own
found_once own others names is = ap each_once is ∙ beside_twice others names ∙ sym is

on_once : (place : Side) (ports : Ports) → ports_on place (once_ports ports) ≡ each_once (ports_on place ports)
on_once side.Inputs ports = refl
on_once side.Outputs ports = refl

-- ports that no line lists are found once
module _ (library : Option (List TheGate)) (models : List (List Entry)) (lines : List Entry) where
  below : List ℕ → Ports
  below = λ name. ports_at library models MAX_DEPTH (body_of models name)

  found_on : (place : Side) (listed : Bool) → lists_on place lines ≡ listed
      → port_line listed (port_word place) (ports_on place (once_ports (ports_at library models (MAX_DEPTH + 1) lines)))
      ≡ port_line listed (port_word place) (ports_on place (ports_at library models (MAX_DEPTH + 1) lines))
  unfolding ports_at below
  found_on place true e = refl
  found_on place false e =
      ap (λ (names : List (List ℕ)). port_line false (port_word place) names)
      (on_once place (ports_with library below lines)
      ∙ found_once (ports_on place (ports_with library below lines)) (flat_map (signals_with (other_side place) library below) lines) (flat_map (signals_with place library below) lines) (side_found place library below lines e))

-- the ports of the first model in a table
pub first_ports : (library : Option (List TheGate)) (models : List (List Entry)) (table : List Ports) (d : Ports) → table ≡ table_at library models (MAX_DEPTH + 1) → 0 < length models
    → get_or table 0 d ≡ once_ports (ports_at library models (MAX_DEPTH + 1) (model_lines (slice_index_or models 0 [])))
unfolding table_at
first_ports library models table d made some =
    ap (λ (list : List Ports). get_or list 0 d) made
    ∙ get_or-map (λ (model : List Entry). once_ports (ports_at library models (MAX_DEPTH + 1) (model_lines model))) models 0 [] d some

pub some_ports : (library : Option (List TheGate)) (models : List (List Entry)) (table : List Ports) → table ≡ table_at library models (MAX_DEPTH + 1) → 0 < length models → 0 < length table
unfolding table_at
some_ports library models table made some =
    let many : length table ≡ length models = ap length made ∙ length-map models (λ (model : List Entry). once_ports (ports_at library models (MAX_DEPTH + 1) (model_lines model))) in
    omega arith

-- a line of ports as it is added
module _ (library : Option (List TheGate)) (models : List (List Entry)) (lines : List Entry) (ports : Ports) (is_once : ports ≡ once_ports (ports_at library models (MAX_DEPTH + 1) lines)) where
  pub line_on : (place : Side) (listed : Bool) (word : List ℕ) (names : List (List ℕ)) → listed ≡ lists_on place lines → word ≡ port_word place → names ≡ ports_on place ports
      → port_line listed word names ≡ side_line place library models lines
  line_on place listed word names is first same =
      ap (λ (b : Bool). port_line b word names) is
      ∙ ap (λ (one : List ℕ). port_line (lists_on place lines) one names) first
      ∙ ap (port_line (lists_on place lines) (port_word place)) (same ∙ ap (ports_on place) is_once)
      ∙ found_on library models lines place (lists_on place lines) refl

-- the clocks of a model
pub clocks_true : (models : List (List Entry)) (place : ℕ) → is_used (model_graph models) place ≡ true → clocks_at models place ≡ clocks_in (model_lines (slice_index_or models place []))
clocks_true models place e = rw e refl

pub clocks_false : (models : List (List Entry)) (place : ℕ) → is_used (model_graph models) place ≡ false → clocks_at models place ≡ []
clocks_false models place e = rw e refl

-- lines fed to a draft
pub fed_as : (library : Option (List TheGate)) (answer : Result (Unit {0}) (ReadFault BlifFault)) (draft next : Draft) (lines others : List Entry) → lines ≡ others
    → Takes answer next (take_entries library draft lines) → Takes answer next (take_entries library draft others)
fed_as library answer draft next lines others e took = subst (λ (some : List Entry). Takes answer next (take_entries library draft some)) e took

pub none_fed : (library : Option (List TheGate)) (draft : Draft) (lines : List Entry) → lines ≡ [] → take_entries library draft lines ≡ Ok draft
unfolding take_entries
none_fed library draft lines none = ap (take_entries library draft) none

pub port_none : (listed : Bool) (word : List ℕ) (names : List (List ℕ)) → listed ≡ true → port_line listed word names ≡ []
port_none listed word names e = rw e refl

pub port_some : (listed : Bool) (word : List ℕ) (names words : List (List ℕ)) → listed ≡ false → words ≡ word ∷ names → added words ∷ [] ≡ port_line listed word names
port_some listed word names words e is = rw (e, is) refl
