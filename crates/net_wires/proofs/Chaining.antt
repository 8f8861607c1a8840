-- A step of sweep, and a chain of them.
use Rattle.std.proofs.Common.{◌≡◌, ℕ, Bool, true, false, ◌&&◌, Option, Some, None, is_some, List, [], ◌∷◌, ◌++◌, refl, sym, ap, ◌∙◌, subst}
use Rattle.std.specs.List.{AllByRecursion}
use Rattle.std.specs.Option.{option_or}
use Rattle.std.proofs.lemmas.Bool.{false≢true, and_parts}
use Rattle.circuit_model.specs.Names.{has}
use Rattle.circuit_model.specs.Runs.{latch_outputs}
use Rattle.circuit_model.specs.Soundness.{IsSound}
use Rattle.circuit_model.specs.declared.circuit.Table.{Table}
use Rattle.circuit_model.specs.declared.circuit.Latch.{Latch}
use Rattle.circuit_model.specs.declared.circuit.Circuit.{Circuit}
use Rattle.circuit_model.proofs.Refinement.{refines-itself, refines-through}
use Rattle.circuit_laws.specs.Chains.{Leads, Chain}
use Rattle.circuit_laws.specs.Edits.{latches_kept}
use Rattle.circuit_laws.specs.Left.{ConstantLatch}
use Rattle.circuit_laws.proofs.Names.{different_none}
use Rattle.circuit_laws.proofs.Kept.{all_weaker, has_latches_kept}
use Rattle.circuit_laws.proofs.Sound.{all_append}
use Rattle.circuit_laws.proofs.Left.{left_itself, left_through}
use Rattle.net_wires.specs.Points.{constant_bit, written_bit}
use Rattle.net_wires.specs.Rules.{unwritten_bit, write_constant, tables_read, propagate_constant, tidy_table, collapse_single_input, fix_constant_latch, remove_dangling, sweep_step}
use Rattle.net_wires.specs.Sweeping.{IsSwept}
use Rattle.net_wires.specs.Keeping.{IsKept, may_begin}
use Rattle.net_wires.proofs.Begun.{begins_before, held_different}
use Rattle.net_wires.proofs.Staying.{stays_through}
use Rattle.net_wires.proofs.Steps.{tidy_kept, constant_kept, propagate_kept, collapse_kept, latch_kept, dangling_kept}
use Rattle.net_wires.proofs.Swept.{written_same, fails_where, all_written, all_propagated, swept}

-- where no table is to be written as a constant, and none that is one is to be propagated, those that tables read vary
pub vary : (circuit : Circuit) → write_constant circuit ≡ None → propagate_constant circuit ≡ None
    → AllByRecursion (λ (table : Table). tables_read circuit table.output ≡ true → constant_bit table ≡ None) circuit.tables
vary circuit constant propagate = both circuit.tables (all_written circuit constant) (all_propagated circuit propagate)
  where
    both : (tables : List Table) → AllByRecursion (λ (table : Table). is_some (unwritten_bit table) ≡ false) tables
        → AllByRecursion (λ (table : Table). (is_some (written_bit table) && tables_read circuit table.output) ≡ false) tables
        → AllByRecursion (λ (table : Table). tables_read circuit table.output ≡ true → constant_bit table ≡ None) tables
    both [] a b = tt
    both (table ∷ tables) a b = (λ reads. written_same table a.0 ∙ fails_where (written_bit table) (tables_read circuit table.output) b.0 reads, both tables a.1 b.1)

-- each step keeps a sound circuit
pub step_kept : (circuit new : Circuit) → IsSound circuit → sweep_step circuit ≡ Some new → IsKept circuit new
unfolding sweep_step
step_kept circuit new sound h =
    tidy (tidy_table circuit) refl (write_constant circuit) refl (propagate_constant circuit) refl (collapse_single_input circuit) refl (fix_constant_latch circuit) refl h
  where
    tidy : (a : Option Circuit) → tidy_table circuit ≡ a → (b : Option Circuit) → write_constant circuit ≡ b → (c : Option Circuit) → propagate_constant circuit ≡ c
        → (d : Option Circuit) → collapse_single_input circuit ≡ d → (e : Option Circuit) → fix_constant_latch circuit ≡ e
        → option_or a (option_or b (option_or c (option_or d (option_or e (remove_dangling circuit))))) ≡ Some new → IsKept circuit new
    tidy (Some x) p b q c r d s e t k = tidy_kept circuit new sound (p ∙ k)
    tidy None p (Some x) q c r d s e t k = constant_kept circuit new sound (q ∙ k)
    tidy None p None q (Some x) r d s e t k = propagate_kept circuit new sound (r ∙ k)
    tidy None p None q None r (Some x) s e t k = collapse_kept circuit new sound (vary circuit q r) (s ∙ k)
    tidy None p None q None r None s (Some x) t k = latch_kept circuit new sound (t ∙ k)
    tidy None p None q None r None s None t k = dangling_kept circuit new sound k

-- what is kept is kept step after step

pub kept_itself : (circuit : Circuit) → IsSound circuit → IsKept circuit circuit
kept_itself circuit sound = record { sound = sound; refines = refines-itself circuit; held = []; different = different_none; begun = tt; stays = λ state row a has_bits. tt; gone = tt; left = left_itself circuit }

gone_later : (held : List ConstantLatch) (second third : Circuit) → third.latches ≡ latches_kept (has (latch_outputs third)) second.latches
    → AllByRecursion (λ (latch : ConstantLatch). has (latch_outputs second) latch.0 ≡ false) held → AllByRecursion (λ (latch : ConstantLatch). has (latch_outputs third) latch.0 ≡ false) held
gone_later held second third latches gone =
    all_weaker (λ (latch : ConstantLatch). has (latch_outputs second) latch.0 ≡ false) (λ (latch : ConstantLatch). has (latch_outputs third) latch.0 ≡ false) (λ latch none. later latch.0 none) held gone
  where
    later : (name : List ℕ) → has (latch_outputs second) name ≡ false → has (latch_outputs third) name ≡ false
    later name none = both (has (latch_outputs third) name) refl
      where
        both : (t : Bool) → has (latch_outputs third) name ≡ t → has (latch_outputs third) name ≡ false
        both false e = e
        both true e =
            absurd (false≢true (sym none ∙ (and_parts (has (latch_outputs third) name) (has (latch_outputs second) name)
            (sym (has_latches_kept (has (latch_outputs third)) second.latches name)
            ∙ ap (λ (latches : List Latch). has (latch_outputs (record third { latches = latches })) name) (sym latches) ∙ e)).1))

pub kept_through : (first second third : Circuit) → IsKept first second → IsKept second third → IsKept first third
kept_through first second third p q = record {
  sound = q.sound;
  refines = refines-through first second third p.refines q.refines;
  held = p.held ++ q.held;
  different = held_different p.held q.held second p.different q.different p.gone q.left.among;
  begun = all_append (λ (latch : ConstantLatch). may_begin first latch ≡ true) p.held q.held p.begun
      (all_weaker (λ (latch : ConstantLatch). may_begin second latch ≡ true) (λ (latch : ConstantLatch). may_begin first latch ≡ true)
      (λ latch begins. begins_before first second latch p.left.latches begins) q.held q.begun);
  stays = stays_through p.held q.held first second p.sound p.left q.left.among p.stays q.stays;
  gone = all_append (λ (latch : ConstantLatch). has (latch_outputs third) latch.0 ≡ false) p.held q.held (gone_later p.held second third q.left.latches p.gone) q.gone;
  left = left_through p.held q.held first second third p.left q.left;
}

pub leads_kept : (between : List Circuit) (circuit new : Circuit) → IsSound circuit → Leads sweep_step between circuit new → IsKept circuit new
leads_kept [] circuit new sound same = subst (IsKept circuit) same (kept_itself circuit sound)
leads_kept (next ∷ rest) circuit new sound steps =
    let first : IsKept circuit next = step_kept circuit next sound steps.0 in
    kept_through circuit next new first (leads_kept rest next new first.sound steps.1)

-- a chain of steps keeps a sound circuit, and ends at the finished form
pub chain_kept : (circuit new : Circuit) → IsSound circuit → Chain sweep_step circuit new → IsKept circuit new
chain_kept circuit new sound chain = leads_kept chain.reached.between circuit new sound chain.reached.steps

pub chain_swept : (circuit new : Circuit) → Chain sweep_step circuit new → IsSwept new
chain_swept circuit new chain = swept new chain.done
