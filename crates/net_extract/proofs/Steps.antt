-- A cover is extracted: the network after that; and chains of such steps.
use Rattle.std.proofs.Common.{◌≡◌, ℕ, ◌+◌, ◌<◌, ◌^◌, true, Err, Option, Some, List, [], ◌∷◌, ◌++◌, map, length, sym, ap, ◌∙◌, subst, arith}
use Rattle.std.specs.List.{AllByRecursion}
use Rattle.std.specs.List.Sorted.{IsStrictlyIncreasing}
use Rattle.std.proofs.lemmas.List.{length-map, length-append}
use Rattle.circuit_model.specs.Counts.{literals_of}
use Rattle.circuit_model.specs.Soundness.{IsSound}
use Rattle.circuit_model.specs.declared.circuit.Table.{Table}
use Rattle.circuit_model.specs.declared.circuit.Circuit.{Circuit}
use Rattle.circuit_laws.specs.Edits.{with_tables}
use Rattle.circuit_laws.proofs.Sound.{all_append}
use Rattle.circuit_laws.proofs.Greedy.{reached_itself, reached_more}
use Rattle.net_candidates.specs.Extracting.{extracted, literals_after, IsNext, IsStep, IsDone, IsExtracted}
use Rattle.net_candidates.specs.declared.rule.Rule.{Rule}
use Rattle.net_candidates.proofs.RuleKeeping.{step_extended}
use Rattle.cover_names.specs.Literals.{NamedCover}
use Rattle.cover_names.specs.Cubes.{is_over}
use Rattle.net_readers.specs.Fanouts.{is_in}
use Rattle.net_core.specs.Fresh.{node_count}
use Rattle.net_core.proofs.NewNames.{new_name_one}
use Rattle.net_core.specs.Reads.{IsBounded}
use Rattle.net_work.specs.Placed.{Placed, standing, circuit_of, table_at, with_last}
use Rattle.net_work.proofs.Indexed.{standing_map}
use Rattle.net_work.proofs.Standing.{standing_push}
use Rattle.alg_tables.specs.Dividing.{divided, cover_table}
use Rattle.net_extract.specs.Extract.{HasExtracted}
use Rattle.net_extract.specs.Dividing.{divided_slot, with_divided, IsAdded}
use Rattle.net_extract.specs.Going.{fault_of, IsStopped, IsNotAdded, IsPut, IsTaken, IsAlong, IsEnd}
use Rattle.net_savings.specs.Listing.{IsUnlisted}
use Rattle.net_savings.specs.declared.fault.SavingsFault.{SavingsFault}
use Rattle.net_savings.specs.declared.fault.SavingsFault.TheVariants.{ManyKernels, Memory as SavingsMemory}
use Rattle.net_extract.specs.declared.fault.ExtractFault.{ExtractFault}
use Rattle.net_extract.specs.declared.fault.ExtractFault.TheVariants.{KernelLimit, NodeLimit, Memory}
use Rattle.net_savings.proofs.Summing.{rising_once}
use Rattle.net_savings.specs.Indexed.{AreAll}
use Rattle.net_savings.proofs.Losing.{all_readers}
use Rattle.net_extract.proofs.Places.{divided_all}
use Rattle.sis_base.specs.declared.limits.TheConstants.{MAX_NODES}

-- ---- a cover extracted

module _ (name : List ℕ) (cover : NamedCover) where
  -- the circuit after the table of the cover is added, and the tables before it are divided
  pub divided_circuit : (places : List ℕ) (before between now : Placed) → AreAll cover before.slots places → ((at : ℕ) → is_in places at ≡ true → at < length before.slots)
      → between ≡ with_last before (cover_table name cover) → now ≡ with_divided name cover places between → circuit_of now ≡ extracted (circuit_of before) name cover
  divided_circuit places before between now are within added is =
      ap (λ (p : Placed). circuit_of p) (is ∙ ap (with_divided name cover places) added)
      ∙ ap (λ (slots : List (Option Table)). with_tables before.frame (standing slots)) (divided_all name cover before.slots places are within (Some (cover_table name cover)))
      ∙ ap (λ (tables : List Table). with_tables before.frame tables) (standing_push (map (divided_slot name cover) before.slots) (cover_table name cover))
      ∙ ap (λ (tables : List Table). with_tables before.frame (tables ++ cover_table name cover ∷ [])) (standing_map (divided name true cover) before.slots)

  pub added_bounded : (before between : Placed) → IsAdded cover name before between → AllByRecursion IsBounded (standing before.slots) → AllByRecursion IsBounded (standing between.slots)
  added_bounded before between added all =
      subst (AllByRecursion IsBounded) (sym (ap (λ (p : Placed). standing p.slots) added.is ∙ standing_push before.slots (cover_table name cover)))
      (all_append IsBounded (standing before.slots) (cover_table name cover ∷ []) all (added.bounded, tt))

  pub put_from : (places : List ℕ) (before between now : Placed) → IsStrictlyIncreasing places → ((at : ℕ) → is_in places at ≡ true → at < length before.slots)
      → ((at : ℕ) (table : Table) → table_at before.slots at ≡ Some table → is_over table.inputs cover ≡ true → is_in places at ≡ true)
      → IsAdded cover name before between → now ≡ with_divided name cover places between
      → (AllByRecursion IsBounded (standing between.slots) → AllByRecursion IsBounded (standing now.slots)) → IsPut cover before now
  put_from places before between now rising within all added is bounded = record {
    name = name;
    free = added.free;
    room = added.room;
    made = divided_circuit places before between now (all_readers cover before.slots places (rising_once places rising) all) within added.is is;
    bounded = λ all. bounded (added_bounded before between added all);
  }

-- ---- a step

pub put_taken : (rule : Rule) (before now : Placed) (name : List ℕ) (cover : NamedCover) → IsNext rule (circuit_of before) name cover → IsPut cover before now → IsTaken rule before now
put_taken rule before now name cover next put =
    let same : put.name ≡ name = new_name_one (circuit_of before) put.name name put.free next.free in
    let made : circuit_of now ≡ extracted (circuit_of before) name cover = put.made ∙ ap (λ (n : List ℕ). extracted (circuit_of before) n cover) same in
    let left : literals_of (circuit_of now) ≡ literals_after (circuit_of before) name cover = ap literals_of made in
    record {
      step = record { name = name; cover = cover; next = next; room = put.room; made = made };
      fewer = omega (arith, left, next.best.saves);
      bounded = put.bounded;
    }

pub put_stopped : (rule : Rule) (now : Placed) (name : List ℕ) (cover : NamedCover) (fault : ExtractFault) → IsNext rule (circuit_of now) name cover → IsNotAdded (circuit_of now) fault
    → IsStopped rule (circuit_of now) fault
put_stopped rule now name cover (KernelLimit many) next h = absurd h
put_stopped rule now name cover NodeLimit next h = record { name = name; cover = cover; next = next; over = h }
put_stopped rule now name cover Memory next h = tt

-- what cannot be listed stops extraction
pub unlisted_stopped : (rule : Rule) (circuit : Circuit) (savings : SavingsFault) (fault : ExtractFault) → fault ≡ fault_of savings → IsUnlisted rule circuit savings → IsStopped rule circuit fault
unlisted_stopped rule circuit savings fault e unlisted = subst (IsStopped rule circuit) (sym e) (cases savings unlisted)
  where
    cases : (one : SavingsFault) → IsUnlisted rule circuit one → IsStopped rule circuit (fault_of one)
    cases (ManyKernels name) h = h
    cases SavingsMemory h = tt

-- ---- steps

pub along_begin : (rule : Rule) (now : Placed) → IsSound (circuit_of now) → IsAlong rule now now
along_begin rule now sound = record { reached = reached_itself (IsStep rule) (circuit_of now); sound = sound; bounds = λ bounds. bounds }

-- after a step there are fewer than 2^29 tables and latches
few_nodes : (circuit new : Circuit) (name : List ℕ) (cover : NamedCover) → new ≡ extracted circuit name cover → node_count circuit < MAX_NODES → length new.tables + length new.latches < 2 ^ 29
few_nodes circuit new name cover is room =
    let tables : length new.tables ≡ length (map (divided name true cover) circuit.tables ++ cover_table name cover ∷ []) = ap (λ (c : Circuit). length c.tables) is in
    let latches : length new.latches ≡ length circuit.latches = ap (λ (c : Circuit). length c.latches) is in
    omega (arith, tables, latches, room, length-append (map (divided name true cover) circuit.tables) (cover_table name cover ∷ []), length-map circuit.tables (divided name true cover))

pub along_more : (rule : Rule) (before now new : Placed) → IsAlong rule before now → IsTaken rule now new → IsAlong rule before new
along_more rule before now new along taken = record {
  reached = reached_more (IsStep rule) (circuit_of before) (circuit_of now) (circuit_of new) along.reached taken.step;
  sound = (step_extended rule (circuit_of now) (circuit_of new) along.sound taken.step).change.sound;
  bounds = λ bounds. record {
    nodes = few_nodes (circuit_of now) (circuit_of new) taken.step.name taken.step.cover taken.step.made taken.step.room;
    tables = taken.bounded (along.bounds bounds).tables;
  };
}

pub along_done : (rule : Rule) (before now : Placed) → IsAlong rule before now → IsDone rule (circuit_of now) → IsExtracted rule (circuit_of before) (circuit_of now)
along_done rule before now along done = record { reached = along.reached; done = done }

pub along_stopped : (rule : Rule) (before now : Placed) (fault : ExtractFault) → IsAlong rule before now → IsStopped rule (circuit_of now) fault → IsEnd rule (circuit_of before) fault
along_stopped rule before now (KernelLimit name) along stopped = record { last = circuit_of now; reached = along.reached; stops = stopped }
along_stopped rule before now NodeLimit along stopped = record { last = circuit_of now; reached = along.reached; stops = stopped }
along_stopped rule before now Memory along stopped = tt

pub end_told : (rule : Rule) (old now : Circuit) (fault : ExtractFault) → now ≡ old → IsEnd rule now fault → HasExtracted rule old (Err fault)
end_told rule old now fault same end = subst (λ (c : Circuit). HasExtracted rule c (Err fault)) same end
