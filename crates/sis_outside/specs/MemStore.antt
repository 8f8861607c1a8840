-- A store in memory: what it holds, and what a load and a save do by its schedule.
-- Source: the project's own doubles of the outside.
use Rattle.std.specs.Prelude.{◌≡◌, ℕ, List, take, Some, None, Result, Ok, Err, refl}
use Rattle.std.specs.Coded.{Coded, code_by, coded×, coded_ℕ}
use Rattle.sis_outside.specs.Counts.{one_more}
use Rattle.sis_outside.specs.Files.{Files, files_code, with_file}
use Rattle.sis_outside.specs.Plan.{Schedule, schedule_code, next_failure, after_call}
use Rattle.sis_outside.specs.declared.store.LoadFault.{LoadFault}
use Rattle.sis_outside.specs.declared.store.LoadFault.TheVariants as load
use Rattle.sis_outside.specs.declared.store.SaveFault.{SaveFault}
use Rattle.sis_outside.specs.declared.store.SaveFault.TheVariants as save

-- what a store in memory holds
pub record StoreState : Type 0 where
  pub files : Files
  pub schedule : Schedule
  pub faults : ℕ
  pub misses : ℕ

-- how a model stores such a state: as the tuple of its parts
abbrev pub state_code : Coded StoreState
state_code =
    code_by
    (Files × (Schedule × (ℕ × ℕ)))
    (coded× files_code (coded× schedule_code (coded× coded_ℕ coded_ℕ)))
    (λ s. (s.files, (s.schedule, (s.faults, s.misses))))
    (λ p. record { files = p.0; schedule = p.1.0; faults = p.1.1.0; misses = p.1.1.1 })
    (λ _. refl)

-- one more call was made, and nothing else changed
abbrev pub called : StoreState → StoreState
called state = record state { schedule = after_call state.schedule }

-- a load that is planned to fail does so, and no other load fails; the store's own promise says
-- what it returns
abbrev pub LoadsByPlan : {T : Type 0} → StoreState → Result T LoadFault → StoreState → Type 0
LoadsByPlan old (Ok _) new = (next_failure old.schedule ≡ None) × (new ≡ called old)
LoadsByPlan old (Err load.Missing) new =
    (next_failure old.schedule ≡ None) × (new ≡ record (called old) { misses = one_more old.misses })
LoadsByPlan old (Err (load.TooLong reached)) new = (next_failure old.schedule ≡ None) × (new ≡ called old)
LoadsByPlan old (Err load.Failed) new =
    (passes : ℕ)
    × (next_failure old.schedule ≡ Some passes)
    × (new ≡ record (called old) { faults = one_more old.faults })
LoadsByPlan old (Err load.Memory) new = new ≡ called old

-- a save that is planned to fail does so after the bytes that pass, and no other save fails
abbrev pub SavesByPlan : StoreState → List ℕ → List ℕ → Result (Unit {0}) SaveFault → StoreState → Type 0
SavesByPlan old name bytes (Ok _) new =
    (next_failure old.schedule ≡ None) × (new ≡ record (called old) { files = with_file old.files name bytes })
SavesByPlan old name bytes (Err save.Failed) new =
    (passes : ℕ)
    × (next_failure old.schedule ≡ Some passes)
    × (new ≡ record (called old) { files = with_file old.files name (take passes bytes); faults = one_more old.faults })
SavesByPlan old name bytes (Err save.Memory) new = new ≡ called old
