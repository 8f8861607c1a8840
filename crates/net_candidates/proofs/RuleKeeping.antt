-- A candidate is extracted: the circuit stays sound, no signal is removed, and each keeps its
-- value; so does each sequence of steps.
use Rattle.std.proofs.Common.{ℕ, true, List, sym, ap, ◌∙◌, subst}
use Rattle.sis_base.specs.Written.{is_word}
use Rattle.circuit_model.specs.Names.{has}
use Rattle.circuit_model.specs.Runs.{Refines}
use Rattle.circuit_model.specs.Soundness.{control_of, given, IsSound}
use Rattle.circuit_model.specs.declared.circuit.Circuit.{Circuit}
use Rattle.circuit_laws.specs.Changes.{IsExtended}
use Rattle.circuit_laws.proofs.Changes.{reached_extended as steps_extended, end_refines}
use Rattle.net_candidates.specs.Extracting.{extracted, IsStep, IsReached, IsDone, IsExtracted}
use Rattle.net_candidates.specs.declared.rule.Rule.{Rule}
use Rattle.net_candidates.proofs.Usable.{IsUsable, tables_read, candidate_usable}
use Rattle.cover_names.specs.Literals.{NamedCover}
use Rattle.net_core.specs.Fresh.{IsNewName}
use Rattle.net_core.proofs.NewNames.{new_is_word, new_is_free}
use Rattle.circuit_laws.proofs.Splitting.{split_extended}
use Rattle.alg_tables.specs.Dividing.{cover_table, divided}
use Rattle.alg_tables.proofs.CoverTables.{over_names, cover_table_output, cover_table_fits, divided_split}

-- a cover of signals is extracted under a name that is free
pub extracted_extended : (circuit : Circuit) (name : List ℕ) (cover : NamedCover) → IsSound circuit → IsNewName circuit name → IsUsable (given circuit) cover
    → IsExtended circuit (extracted circuit name cover)
extracted_extended circuit name cover sound new usable =
    let free = new_is_free circuit name new in
    let output = cover_table_output name cover in
    split_extended circuit (cover_table name cover) (divided name true cover) sound
    (ap is_word output ∙ new_is_word circuit name new)
    (ap (has (given circuit)) output ∙ free.0)
    (ap (has (control_of circuit.timing)) output ∙ free.1)
    (cover_table_fits name cover circuit (λ input m. over_names (given circuit) cover input usable.over m))
    (divided_split circuit name cover usable.apart sound.shaped)

-- a step, and steps that follow one another
pub step_extended : (rule : Rule) (circuit new : Circuit) → IsSound circuit → IsStep rule circuit new → IsExtended circuit new
step_extended rule circuit new sound step =
    subst (IsExtended circuit) (sym step.made)
    (extracted_extended circuit step.name step.cover sound step.next.free
    (candidate_usable rule (given circuit) circuit.tables step.cover (tables_read circuit sound) step.next.best.may.candidate))

pub reached_extended : (rule : Rule) (circuit new : Circuit) → IsSound circuit → IsReached rule circuit new → IsExtended circuit new
reached_extended rule = steps_extended (IsStep rule) (step_extended rule)

pub extracted_refines : (rule : Rule) (circuit new : Circuit) → IsSound circuit → IsExtracted rule circuit new → Refines circuit new
extracted_refines rule = end_refines (IsStep rule) (IsDone rule) (step_extended rule)
