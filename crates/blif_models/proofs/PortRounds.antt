-- The ports of models by rounds.
use Rattle.std.specs.Prelude.{◌≡◌, ℕ, zero, suc, ◌+◌, ◌-◌, ◌≤◌, true, Option, Some, None, List, [], ◌∷◌, map, flat_map, length, slice_index_or, if◌then◌else◌}
use Rattle.std.specs.List.{list_all, range_with_len}
use Rattle.std.specs.Option.{option_map_or}
use Rattle.std.proofs.Common.{refl, sym, ◌∙◌, ap, subst, add-one, arith}
use Rattle.std.proofs.lemmas.List.Elements.{filter_agree}
use Rattle.sis_text.specs.Entries.{Entry}
use Rattle.circuit_model.specs.Names.{has}
use Rattle.circuit_tables.specs.Folding.{each_once}
use Rattle.circuit_tables.proofs.Once.{and_left, and_right, has-each_once}
use Rattle.genlib_format.specs.declared.gate.Gate.{Gate}
use Rattle.line_words.specs.LineWords.{other_words}
use Rattle.blif_gates.specs.GateLines.{pin_in, signals_of}
use Rattle.blif_lines.specs.Keyword.{kind_of}
use Rattle.blif_lines.specs.Reader.{model_lines, lists_inputs, lists_outputs, names_beside, read_within, driven_by}
use Rattle.blif_models.specs.Models.{is_instance, model_of, pairs_of, index_of, body_of}
use Rattle.blif_models.specs.Ports.{Ports, own_outputs, actuals_of, reads_with, drives_with, ports_with, ports_at}
use Rattle.blif_models.specs.PortTables.{no_ports, once_ports, ports_by, lists_both, table_at, next_ports, next_table}
use Rattle.blif_models.proofs.ByIndex.{value_at, by_places, mapped_same}
use Rattle.blif_models.proofs.Rounds.{body_by, no_lines}
use Rattle.blif_models.proofs.PortSets.{has_own}

-- ports that tests do not tell apart
record Same (ports other : Ports) : Type 0 where
  inputs : (name : List ℕ) → has ports.inputs name ≡ has other.inputs name
  outputs : (name : List ℕ) → has ports.outputs name ≡ has other.outputs name

same_own : (ports other : Ports) → Same ports other → (name : List ℕ) → has (own_outputs ports) name ≡ has (own_outputs other) name
same_own ports other same name =
    has_own ports name ∙ rw (same.inputs name, same.outputs name) (sym (has_own other name))

same_actuals : (ports other : List (List ℕ)) → ((name : List ℕ) → has ports name ≡ has other name) → (pairs : List (List ℕ)) → actuals_of ports pairs ≡ actuals_of other pairs
unfolding actuals_of
same_actuals ports other same pairs = ap signals_of (filter_agree (λ pair. has ports (pin_in pair)) (λ pair. has other (pin_in pair)) (λ pair. same (pin_in pair)) pairs)

same_flat : (f g : Entry → List (List ℕ)) → ((line : Entry) → f line ≡ g line) → (lines : List Entry) → flat_map f lines ≡ flat_map g lines
same_flat f g same [] = refl
same_flat f g same (line ∷ lines) = rw (same line, same_flat f g same lines) refl

same_reads : (library : Option (List Gate)) (f g : List ℕ → Ports) → ((name : List ℕ) → Same (f name) (g name)) → (line : Entry) → reads_with library f line ≡ reads_with library g line
same_reads library f g same line = ap (λ read. if is_instance line then read else read_within library (kind_of line) (other_words line.words))
    (same_actuals (f (model_of line)).inputs (g (model_of line)).inputs (same (model_of line)).inputs (pairs_of line))

same_drives : (library : Option (List Gate)) (f g : List ℕ → Ports) → ((name : List ℕ) → Same (f name) (g name)) → (line : Entry) → drives_with library f line ≡ drives_with library g line
same_drives library f g same line = ap (λ driven. if is_instance line then driven else driven_by library (kind_of line) (other_words line.words))
    (same_actuals (own_outputs (f (model_of line))) (own_outputs (g (model_of line))) (same_own (f (model_of line)) (g (model_of line)) (same (model_of line))) (pairs_of line))

same_ports : (library : Option (List Gate)) (f g : List ℕ → Ports) → ((name : List ℕ) → Same (f name) (g name)) → (lines : List Entry) → ports_with library f lines ≡ ports_with library g lines
unfolding ports_with
same_ports library f g same lines =
    rw (
      same_flat (reads_with library f) (reads_with library g) (same_reads library f g same) lines,
      same_flat (drives_with library f) (drives_with library g) (same_drives library f g same) lines,
    ) refl

-- a table of ports for models that nest less deep than a number
abbrev pub Ported : Option (List Gate) → List (List Entry) → ℕ → List Ports → Type 0
Ported library models depth table = (place : ℕ) → slice_index_or table place no_ports ≡ once_ports (ports_at library models depth (model_lines (slice_index_or models place [])))

no_lines_ports : (library : Option (List Gate)) (models : List (List Entry)) (depth : ℕ) → once_ports (ports_at library models depth []) ≡ no_ports
unfolding ports_at ports_with lists_inputs lists_outputs names_beside each_once
no_lines_ports library models zero = refl
no_lines_ports library models (suc depth) = refl

pub ported_found : (library : Option (List Gate)) (models : List (List Entry)) (depth : ℕ) (table : List Ports) → Ported library models depth table → (found : Option ℕ)
    → option_map_or (λ place. slice_index_or table place no_ports) found no_ports
    ≡ once_ports (ports_at library models depth (model_lines (option_map_or (λ place. slice_index_or models place []) found [])))
ported_found library models depth table ported None =
    sym (ap (λ (lines : List Entry). once_ports (ports_at library models depth lines)) no_lines ∙ no_lines_ports library models depth)
ported_found library models depth table ported (Some place) = ported place

pub ported_name : (library : Option (List Gate)) (models : List (List Entry)) (depth : ℕ) (table : List Ports) → Ported library models depth table → (name : List ℕ)
    → ports_by models table name ≡ once_ports (ports_at library models depth (body_of models name))
ported_name library models depth table ported name =
    ported_found library models depth table ported (index_of models name)
    ∙ ap (λ (lines : List Entry). once_ports (ports_at library models depth lines)) (sym (body_by models name))

once_same : (ports : Ports) → Same (once_ports ports) ports
once_same ports = record { inputs = has-each_once ports.inputs; outputs = has-each_once ports.outputs }

same_by : (ports other : Ports) → ports ≡ once_ports other → Same ports other
same_by ports other e = subst (λ (one : Ports). Same one other) (sym e) (once_same other)

ports_next : (library : Option (List Gate)) (models : List (List Entry)) (depth : ℕ) (table : List Ports) → Ported library models depth table → (place : ℕ)
    → next_ports library models table place ≡ once_ports (ports_at library models (suc depth) (model_lines (slice_index_or models place [])))
unfolding ports_at
ports_next library models depth table ported place =
    ap once_ports (same_ports library (ports_by models table) (λ name. ports_at library models depth (body_of models name))
    (λ name. same_by (ports_by models table name) (ports_at library models depth (body_of models name)) (ported_name library models depth table ported name))
    (model_lines (slice_index_or models place [])))

-- one round
pub next_is : (library : Option (List Gate)) (models : List (List Entry)) (depth : ℕ) (table : List Ports) → Ported library models depth table → next_table library models table ≡ table_at library models (suc depth)
unfolding next_table table_at
next_is library models depth table ported =
    mapped_same (next_ports library models table) (λ place. once_ports (ports_at library models (suc depth) (model_lines (slice_index_or models place []))))
    (ports_next library models depth table ported) (range_with_len 0 (length models))
    ∙ by_places (λ model. once_ports (ports_at library models (suc depth) (model_lines model))) models []

none_ported : (library : Option (List Gate)) (models : List (List Entry)) → Ported library models 0 []
unfolding ports_at each_once
none_ported library models place = refl

pub all_ported : (library : Option (List Gate)) (models : List (List Entry)) (depth : ℕ) → Ported library models depth (table_at library models depth)
unfolding table_at
all_ported library models depth place =
    ap (slice_index_or (table_at library models depth) place) (sym none)
    ∙ value_at (λ model. once_ports (ports_at library models depth (model_lines model))) models place []
  where
    none : once_ports (ports_at library models depth (model_lines [])) ≡ no_ports
    none = ap (λ (lines : List Entry). once_ports (ports_at library models depth lines)) no_lines ∙ no_lines_ports library models depth

pub first_table : (library : Option (List Gate)) (models : List (List Entry)) (none made : List Ports) → none ≡ [] → made ≡ next_table library models none → made ≡ table_at library models (0 + 1)
first_table library models none made n m = m ∙ rw n (next_is library models 0 [] (none_ported library models))

pub more_table : (library : Option (List Gate)) (models : List (List Entry)) (round : ℕ) (table made : List Ports) → table ≡ table_at library models round → made ≡ next_table library models table → made ≡ table_at library models (round + 1)
more_table library models round table made t m =
    m ∙ rw t (next_is library models round (table_at library models round) (all_ported library models round) ∙ ap (table_at library models) (sym (add-one round)))

-- a round that changes nothing is the last
pub steady : (library : Option (List Gate)) (models : List (List Entry)) (round more : ℕ) → table_at library models (round + 1) ≡ table_at library models round → table_at library models (more + round) ≡ table_at library models round
steady library models round zero e = ap (table_at library models) (omega arith)
steady library models round (suc more) e =
    ap (table_at library models) sum
    ∙ sym (next_is library models (more + round) (table_at library models (more + round)) (all_ported library models (more + round)))
    ∙ ap (next_table library models) (steady library models round more e)
    ∙ next_is library models round (table_at library models round) (all_ported library models round)
    ∙ ap (table_at library models) (sym (add-one round))
    ∙ e
  where
    sum : suc more + round ≡ suc (more + round)
    sum = omega arith

pub last_round : (library : Option (List Gate)) (models : List (List Entry)) (round depth : ℕ) (table made : List Ports) → table ≡ table_at library models round → made ≡ next_table library models table → made ≡ table → round ≤ depth
    → table ≡ table_at library models depth
last_round library models round depth table made t m same le =
    t ∙ sym (steady library models round (depth - round) again) ∙ ap (table_at library models) (omega (arith, le))
  where
    again : table_at library models (round + 1) ≡ table_at library models round
    again = sym (more_table library models round table made t m) ∙ same ∙ t

-- if each model lists its ports, one round is enough

listed_ports : (library : Option (List Gate)) (f g : List ℕ → Ports) (model : List Entry) → lists_both model ≡ true → ports_with library f (model_lines model) ≡ ports_with library g (model_lines model)
unfolding ports_with
listed_ports library f g model e =
    rw (and_left (lists_inputs (model_lines model)) (lists_outputs (model_lines model)) e, and_right (lists_inputs (model_lines model)) (lists_outputs (model_lines model)) e) refl

listed_table : (library : Option (List Gate)) (models : List (List Entry)) (depth deeper : ℕ) (some : List (List Entry)) → list_all lists_both some ≡ true
    → map (λ model. once_ports (ports_at library models (suc depth) (model_lines model))) some ≡ map (λ model. once_ports (ports_at library models (suc deeper) (model_lines model))) some
unfolding ports_at
listed_table library models depth deeper [] e = refl
listed_table library models depth deeper (model ∷ some) e =
    rw (
      listed_ports library (λ name. ports_at library models depth (body_of models name)) (λ name. ports_at library models deeper (body_of models name)) model (and_left (lists_both model) (list_all lists_both some) e),
      listed_table library models depth deeper some (and_right (lists_both model) (list_all lists_both some) e),
    ) refl

pub first_is_last : (library : Option (List Gate)) (models : List (List Entry)) (deeper : ℕ) (table : List Ports) → table ≡ table_at library models 1 → list_all lists_both models ≡ true → table ≡ table_at library models (suc deeper)
unfolding table_at
first_is_last library models deeper table t e = t ∙ listed_table library models 0 deeper models e
