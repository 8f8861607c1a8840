-- The tables of ports and sizes are right.
use Rattle.std.proofs.Common.{◌≡◌, ℕ, ◌+◌, ◌<◌, ◌==◌, eqb-true, eq-eqb, Bool, true, false, Option, List, [], length, get_or, map, refl, sym, ap, ◌∙◌, arith}
use Rattle.std.proofs.lemmas.List.{get_or-map, length-map}
use Rattle.circuit_model.specs.Names.{has}
use Rattle.circuit_tables.specs.Folding.{each_once}
use Rattle.circuit_tables.proofs.Once.{has-each_once}
use Rattle.sis_text.specs.Entries.{Entry}
use Rattle.genlib_format.specs.declared.gate.Gate.{Gate as TheGate}
use Rattle.blif_lines.specs.Reader.{model_lines}
use Rattle.blif_models.specs.Models.{nodes_at}
use Rattle.blif_models.specs.Ports.{ports_at}
use Rattle.blif_models.specs.PortTables.{no_ports, once_ports, table_at}
use Rattle.blif_models.specs.Sizes.{capped, sizes_at}
use Rattle.blif_models.specs.Tables.{AreTables}
use Rattle.blif_models.specs.declared.limits.TheConstants.{MAX_DEPTH}
use Rattle.blif_models.specs.declared.ports.Ports.{Ports}

-- a size that is capped is 0 exactly if the size is
capped_zero : (size : ℕ) → (capped size == 0) ≡ (size == 0)
capped_zero size = by (capped size == 0) refl (size == 0) refl
  where
    by : (b : Bool) → (capped size == 0) ≡ b → (d : Bool) → (size == 0) ≡ d → b ≡ d
    by true e true f = refl
    by false e false f = refl
    by true e false f =
        let none : capped size ≡ 0 = eqb-true (capped size) 0 e in
        let zero : size ≡ 0 = omega arith in
        absurd (let off = sym (eq-eqb size 0 zero) ∙ f in cc)
    by false e true f =
        let none : size ≡ 0 = eqb-true size 0 f in
        let zero : capped size ≡ 0 = omega arith in
        absurd (let off = sym (eq-eqb (capped size) 0 zero) ∙ e in cc)

-- tables as they are made are right
pub tables_right : (library : Option (List TheGate)) (models : List (List Entry)) (ports : List Ports) (sizes : List ℕ) → ports ≡ table_at library models (MAX_DEPTH + 1)
    → sizes ≡ sizes_at models (MAX_DEPTH + 1) → AreTables library models (map (λ (p : Ports). p.inputs) ports) sizes
unfolding table_at sizes_at
tables_right library models ports sizes made counted = record {
  as_many_inputs = length-map ports (λ (p : Ports). p.inputs) ∙ ap length made ∙ length-map models ports_in;
  as_many_sizes = ap length counted ∙ length-map models size_in;
  right_inputs = λ place lt name.
      ap (λ (names : List (List ℕ)). has names name) (inputs_is place lt) ∙ has-each_once (ports_at library models (MAX_DEPTH + 1) (model_lines (get_or models place []))).inputs name;
  right_sizes = λ place lt.
      ap (λ (list : List ℕ). get_or list place 0 == 0) counted
      ∙ ap (λ (size : ℕ). size == 0) (get_or-map size_in models place [] 0 lt)
      ∙ capped_zero (nodes_at models (MAX_DEPTH + 1) (model_lines (get_or models place [])));
}
  where
    ports_in : List Entry → Ports
    ports_in = λ model. once_ports (ports_at library models (MAX_DEPTH + 1) (model_lines model))

    size_in : List Entry → ℕ
    size_in = λ model. capped (nodes_at models (MAX_DEPTH + 1) (model_lines model))

    inputs_is : (place : ℕ) → place < length models → get_or (map (λ (p : Ports). p.inputs) ports) place [] ≡ each_once (ports_at library models (MAX_DEPTH + 1) (model_lines (get_or models place []))).inputs
    inputs_is place lt =
        let many : length ports ≡ length models = ap length made ∙ length-map models ports_in in
        let within : place < length ports = omega arith in
        get_or-map (λ (p : Ports). p.inputs) ports place no_ports [] within
        ∙ ap (λ (list : List Ports). (get_or list place no_ports).inputs) made
        ∙ ap (λ (p : Ports). p.inputs) (get_or-map ports_in models place [] no_ports lt)
