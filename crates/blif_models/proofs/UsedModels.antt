-- Faults of the models that are used, found model by model.
use Rattle.std.specs.Prelude.{◌≡◌, ℕ, suc, ◌+◌, ◌-◌, ◌<◌, ◌≤◌, Bool, true, false, not, ◌&&◌, cond, Option, Some, None, List, [], ◌∷◌, map, find, flat_map, length, slice_index_or, if◌then◌else◌}
use Rattle.std.specs.List.{filter, filter_map, range_with_len}
use Rattle.std.specs.Option.{option_map, option_or}
use Rattle.std.proofs.Common.{refl, sym, ◌∙◌, ap, arith}
use Rattle.std.proofs.lemmas.List.{length-map}
use Rattle.std.proofs.lemmas.List.Folds.{find-append}
use Rattle.std.proofs.lemmas.List.FromFn.{get_or-map-range_with_len}
use Rattle.sis_text.specs.Entries.{Entry}
use Rattle.circuit_checks.specs.Searching.{is_seen}
use Rattle.genlib_format.specs.declared.gate.Gate.{Gate}
use Rattle.line_words.specs.LineWords.{other_words}
use Rattle.blif_lines.specs.declared.fault.BlifFault.{BlifFault}
use Rattle.blif_lines.specs.declared.fault.BlifFault.TheVariants.{BadPorts}
use Rattle.blif_lines.specs.Lines.{first_of}
use Rattle.blif_lines.specs.Reader.{model_lines}
use Rattle.blif_models.specs.Models.{is_instance, model_of, index_of, model_graph, is_used, used_models, instances_in}
use Rattle.blif_models.specs.Ports.{Ports, names_ports, ports_of}
use Rattle.blif_models.specs.PortTables.{ports_by, table_at}
use Rattle.blif_models.specs.PortFaults.{AreUsed, lines_twice, is_wrong, lines_wrong, fault_if}
use Rattle.blif_models.specs.Reader.{twice_fault, ports_fault}
use Rattle.blif_models.specs.declared.limits.TheConstants.{MAX_DEPTH}
use Rattle.blif_models.proofs.ByIndex.{mapped_same}
use Rattle.blif_models.proofs.PortRounds.{ported_name, all_ported}
use Rattle.blif_models.proofs.NamedPorts.{names_once}

-- the first fault of a used model from an index on
unfoldable pub fault_from : (List Entry → Option BlifFault) → List (List Entry) → ℕ → Option BlifFault
fault_from fault models place = first_of (map (λ model. fault (model_lines model))
    (map (λ one. slice_index_or models one []) (filter (is_used (model_graph models)) (range_with_len place (length models - place)))))

marked : (models : List (List Entry)) (used : List Bool) (place : ℕ) → AreUsed models used → place < length models → is_seen used place ≡ is_used (model_graph models) place
unfolding model_graph is_seen
marked models used place u lt =
    ap (λ (marks : List Bool). slice_index_or marks place false) u
    ∙ get_or-map-range_with_len (is_used (model_graph models)) 0 (length (model_graph models)) place place false (let e = length-map models (λ model. filter_map (λ line. index_of models (model_of line)) (instances_in model)) in omega (arith, lt, e)) (omega arith)

chain : (found : Option BlifFault) (rest : List (Option BlifFault)) → first_of (found ∷ rest) ≡ first_of (found ∷ first_of rest ∷ [])
unfolding first_of
chain (Some fault) rest = refl
chain None rest = by (first_of rest)
  where
    by : (one : Option BlifFault) → one ≡ first_of (one ∷ [])
    by None = refl
    by (Some fault) = refl

nothing_first : (rest : Option BlifFault) → rest ≡ first_of (None ∷ rest ∷ [])
unfolding first_of
nothing_first None = refl
nothing_first (Some fault) = refl

step : (fault : List Entry → Option BlifFault) (models : List (List Entry)) (used : List Bool) (place : ℕ) → AreUsed models used → place < length models
    → fault_from fault models place ≡ first_of (fault_if used fault models place ∷ fault_from fault models (place + 1) ∷ [])
unfolding fault_from
step fault models used place u lt =
    ap (λ (count : ℕ). first_of (faults (filter is (range_with_len place count)))) more ∙ by (is place) (marked models used place u lt)
  where
    is : ℕ → Bool
    is = is_used (model_graph models)

    at : ℕ → List Entry
    at = λ one. slice_index_or models one []

    faults : List ℕ → List (Option BlifFault)
    faults = λ places. map (λ model. fault (model_lines model)) (map at places)

    rest : List ℕ
    rest = filter is (range_with_len (place + 1) (length models - (place + 1)))

    more : length models - place ≡ suc (length models - (place + 1))
    more = omega (arith, lt)

    by : (b : Bool) → is_seen used place ≡ b → first_of (faults (cond b (place ∷ rest) rest)) ≡ first_of (fault_if used fault models place ∷ first_of (faults rest) ∷ [])
    by true e = chain (fault (model_lines (at place))) (faults rest) ∙ ap (λ (b : Bool). first_of ((if b then fault (model_lines (at place)) else None) ∷ first_of (faults rest) ∷ [])) (sym e)
    by false e = nothing_first (first_of (faults rest)) ∙ ap (λ (b : Bool). first_of ((if b then fault (model_lines (at place)) else None) ∷ first_of (faults rest) ∷ [])) (sym e)

-- the loop: a model without a fault, one with a fault, no model more
pub goes_on : (fault : List Entry → Option BlifFault) (models : List (List Entry)) (used : List Bool) (place : ℕ) (found all : Option BlifFault) → AreUsed models used → place < length models
    → found ≡ fault_if used fault models place → found ≡ None → fault_from fault models place ≡ all → fault_from fault models (place + 1) ≡ all
goes_on fault models used place found all u lt f n e =
    nothing_first (fault_from fault models (place + 1))
    ∙ ap (λ (one : Option BlifFault). first_of (one ∷ fault_from fault models (place + 1) ∷ [])) (sym n ∙ f)
    ∙ sym (step fault models used place u lt) ∙ e

pub stops : (fault : List Entry → Option BlifFault) (models : List (List Entry)) (used : List Bool) (place : ℕ) (found all : Option BlifFault) (one : BlifFault) → AreUsed models used → place < length models
    → found ≡ fault_if used fault models place → found ≡ Some one → fault_from fault models place ≡ all → Some one ≡ all
unfolding first_of
stops fault models used place found all one u lt f s e =
    ap (λ (first : Option BlifFault). first_of (first ∷ fault_from fault models (place + 1) ∷ [])) (sym s ∙ f)
    ∙ sym (step fault models used place u lt) ∙ e

pub ends : (fault : List Entry → Option BlifFault) (models : List (List Entry)) (place : ℕ) (all : Option BlifFault) → length models ≤ place → fault_from fault models place ≡ all → None ≡ all
unfolding fault_from first_of
ends fault models place all le e =
    ap (λ (count : ℕ). first_of (map (λ model. fault (model_lines model)) (map (λ one. slice_index_or models one []) (filter (is_used (model_graph models)) (range_with_len place count)))))
    (let none : 0 ≡ length models - place = omega (arith, le) in none) ∙ e

-- where the walks begin

from_first : (fault : List Entry → Option BlifFault) (models : List (List Entry)) → fault_from fault models 0 ≡ first_of (map (λ model. fault (model_lines model)) (used_models models))
unfolding fault_from used_models
from_first fault models =
    ap (λ (count : ℕ). first_of (map (λ model. fault (model_lines model)) (map (λ one. slice_index_or models one []) (filter (is_used (model_graph models)) (range_with_len 0 count)))))
    (let all : length models - 0 ≡ length models = omega arith in all)

pub twice_begins : (models : List (List Entry)) → fault_from lines_twice models 0 ≡ twice_fault models
unfolding twice_fault lines_twice
twice_begins models = from_first lines_twice models

found_if : (test which : Entry → Bool) (lines : List Entry) → find test (filter which lines) ≡ find (λ line. which line && test line) lines
found_if test which [] = refl
found_if test which (line ∷ lines) = by (which line) (found_if test which lines)
  where
    by : (b : Bool) → find test (filter which lines) ≡ find (λ one. which one && test one) lines
        → find test (cond b (line ∷ filter which lines) (filter which lines)) ≡ cond (b && test line) (Some line) (find (λ one. which one && test one) lines)
    by true e = ap (λ (rest : Option Entry). cond (test line) (Some line) rest) e
    by false e = e

bad : Option Entry → Option BlifFault
bad found = option_map (λ (line : Entry). BadPorts line.number) found

first_bad : (test : Entry → Bool) (models : List (List Entry)) → bad (find test (flat_map instances_in models)) ≡ first_of (map (λ model. bad (find test (instances_in model))) models)
unfolding first_of bad
first_bad test [] = refl
first_bad test (model ∷ models) =
    ap bad (find-append test (instances_in model) (flat_map instances_in models))
    ∙ by (find test (instances_in model)) (first_bad test models)
  where
    by : (found : Option Entry) → bad (find test (flat_map instances_in models)) ≡ first_of (map (λ one. bad (find test (instances_in one))) models)
        → bad (option_or found (find test (flat_map instances_in models))) ≡ first_of (bad found ∷ map (λ one. bad (find test (instances_in one))) models)
    by None e = e
    by (Some line) e = refl

found_same : (test other : Entry → Bool) → ((line : Entry) → test line ≡ other line) → (lines : List Entry) → find test lines ≡ find other lines
found_same test other same [] = refl
found_same test other same (line ∷ lines) = rw (same line, found_same test other same lines) refl

pub ports_begin : (library : Option (List Gate)) (models : List (List Entry)) (table : List Ports) → table ≡ table_at library models (MAX_DEPTH + 1) → fault_from (lines_wrong models table) models 0 ≡ ports_fault library models
unfolding ports_fault lines_wrong instances_in bad
ports_begin library models table t =
    from_first (lines_wrong models table) models
    ∙ ap first_of (mapped_same (λ model. lines_wrong models table (model_lines model)) (λ model. bad (find test (instances_in model))) each (used_models models))
    ∙ sym (first_bad test (used_models models))
  where
    test : Entry → Bool
    test = λ line. not (names_ports (ports_of library models (model_of line)) (other_words (other_words line.words)))

    named : (line : Entry) → names_ports (ports_by models table (model_of line)) (other_words (other_words line.words)) ≡ names_ports (ports_of library models (model_of line)) (other_words (other_words line.words))
    named line =
        ap (λ (one : List Ports). names_ports (ports_by models one (model_of line)) (other_words (other_words line.words))) t
        ∙ ap (λ (one : Ports). names_ports one (other_words (other_words line.words))) (ported_name library models (MAX_DEPTH + 1) (table_at library models (MAX_DEPTH + 1)) (all_ported library models (MAX_DEPTH + 1)) (model_of line))
        ∙ names_once (ports_of library models (model_of line)) (other_words (other_words line.words))

    each : (model : List Entry) → lines_wrong models table (model_lines model) ≡ bad (find test (instances_in model))
    each model =
        ap bad (found_same (is_wrong models table) (λ line. is_instance line && test line) (λ line. ap (λ (one : Bool). is_instance line && not one) (named line)) (model_lines model)
        ∙ sym (found_if test is_instance (model_lines model)))
