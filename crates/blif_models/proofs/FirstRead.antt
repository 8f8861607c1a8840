-- The first model of a file, read once nothing is wrong with its models.
use Rattle.std.specs.Prelude.{◌≡◌, ℕ, ◌<◌, Bool, true, Option, Some, None, Result, Err, List, [], ◌∷◌, map, length}
use Rattle.std.specs.List.{filter_map, range_with_len}
use Rattle.std.proofs.Common.{refl, sym, ◌∙◌, ap, subst, arith}
use Rattle.std.proofs.lemmas.List.{length-map}
use Rattle.sis_text.specs.Entries.{Entry}
use Rattle.genlib_format.specs.declared.gate.Gate.{Gate}
use Rattle.blif_lines.specs.declared.content.Content.{Content}
use Rattle.blif_lines.specs.declared.fault.BlifFault.{BlifFault}
use Rattle.sis_text.specs.declared.read_fault.ReadFault.{ReadFault}
use Rattle.sis_text.specs.declared.read_fault.ReadFault.TheVariants.{Fault, Memory}
use Rattle.blif_lines.specs.Lines.{first_of}
use Rattle.blif_lines.specs.Reader.{has_instances, model_lines, first_fault, Reads}
use Rattle.blif_models.specs.Checking.{Checks}
use Rattle.blif_models.specs.FirstModel.{MarksUsed}
use Rattle.blif_models.specs.Models.{model_of, index_of, instances_in, model_graph, is_used}
use Rattle.blif_models.specs.PortFaults.{AreUsed}
use Rattle.blif_models.specs.Reader.{models_fault}
use Rattle.blif_models.specs.Sizes.{count_fault}
use Rattle.blif_models.specs.Reading.{first_in, nesting_fault, sides_fault, made_fault}

-- the first cause is the same, however the causes are grouped
grouped : (a b c d e f g : Option BlifFault) → first_of (a ∷ b ∷ c ∷ d ∷ e ∷ f ∷ g ∷ []) ≡ first_of (first_of (a ∷ b ∷ []) ∷ first_of (first_of (c ∷ d ∷ e ∷ []) ∷ first_of (f ∷ g ∷ []) ∷ []) ∷ [])
unfolding first_of
grouped (Some x) b c d e f g = refl
grouped None (Some x) c d e f g = refl
grouped None None (Some x) d e f g = refl
grouped None None None (Some x) e f g = refl
grouped None None None None (Some x) f g = refl
grouped None None None None None (Some x) g = refl
grouped None None None None None None (Some x) = refl
grouped None None None None None None None = refl

pub in_parts : (library : Option (List Gate)) (models : List (List Entry)) → models_fault library models (first_in models) ≡ first_of (nesting_fault models ∷ first_of (sides_fault library models ∷ made_fault library models ∷ []) ∷ [])
unfolding models_fault nesting_fault sides_fault count_fault made_fault
in_parts library models = grouped _ _ _ _ _ _ _

-- a fault is the answer
pub fault_read : (A : Type 0) (fault : ReadFault BlifFault) (found : Option BlifFault) (whole : Result Content BlifFault) → Checks {A = A} (Err fault) found → Reads (Err fault) (first_fault found whole)
fault_read A (Fault fault) found whole h = ap (λ one. first_fault one whole) h
fault_read A Memory found whole h = tt

-- without a fault the answer is that of the whole
pub passed_read : (answer : Result Content (ReadFault BlifFault)) (found : Option BlifFault) (whole : Result Content BlifFault) → found ≡ None → Reads answer whole → Reads answer (first_fault found whole)
passed_read answer found whole none h = subst (Reads answer) (sym (ap (λ one. first_fault one whole) none)) h

-- the same with a fault that comes first
pub first_read : (A : Type 0) (fault : ReadFault BlifFault) (found other : Option BlifFault) (whole : Result Content BlifFault) → Checks {A = A} (Err fault) found → Reads (Err fault) (first_fault (first_of (found ∷ other ∷ [])) whole)
unfolding first_of
first_read A (Fault fault) found other whole h = ap (λ one. first_fault (first_of (one ∷ other ∷ [])) whole) h
first_read A Memory found other whole h = tt

alone : (other : Option BlifFault) → first_of (other ∷ []) ≡ other
unfolding first_of
alone None = refl
alone (Some fault) = refl

pub second_read : (answer : Result Content (ReadFault BlifFault)) (found other : Option BlifFault) (whole : Result Content BlifFault) → found ≡ None → Reads answer (first_fault other whole) → Reads answer (first_fault (first_of (found ∷ other ∷ [])) whole)
unfolding first_of
second_read answer found other whole none h =
    subst (Reads answer) (sym (ap (λ one. first_fault (first_of (one ∷ other ∷ [])) whole) none ∙ ap (λ one. first_fault one whole) (alone other))) h

-- marks by the graph are marks by the models
pub marks_used : (models : List (List Entry)) (used : List Bool) → AreUsed models used → MarksUsed models used
unfolding model_graph
marks_used models used u =
    u ∙ ap (λ (count : ℕ). map (is_used (model_graph models)) (range_with_len 0 count)) (length-map models (λ model. filter_map (λ line. index_of models (model_of line)) (instances_in model)))

-- a file whose first model has an instance has a model
pub some_model : (models : List (List Entry)) → has_instances (model_lines (first_in models)) ≡ true → 0 < length models
unfolding has_instances model_lines
some_model [] h = absurd (cc)
some_model (model ∷ models) h = omega arith
