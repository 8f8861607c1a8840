-- The calls of an in-memory object that are planned to fail. Calls are numbered from 0, in the
-- order in which they are made. Source: the project's own doubles of the outside.
use Rattle.std.specs.Prelude.{ℕ, ◌==◌, List, [], ◌∷◌, ◌++◌, Option, refl}
use Rattle.std.specs.Coded.{Coded, code_by, coded×, coded_list, coded_ℕ}
use Rattle.std.specs.List.{find}
use Rattle.std.specs.Option.{option_map}
use Rattle.sis_outside.specs.Counts.{one_more}
use Rattle.sis_outside.specs.declared.plan.Failure.{Failure}

-- how a model stores a failure: as the pair of its numbers
abbrev pub failure_code : Coded Failure
failure_code =
    code_by (ℕ × ℕ) (coded× coded_ℕ coded_ℕ) (λ f. (f.call, f.passes)) (λ p. record { call = p.0; passes = p.1 }) (λ _. refl)

-- the calls that are planned to fail, and how many calls were made
pub record Schedule : Type 0 where
  pub failures : List Failure
  pub calls : ℕ

-- how a model stores a schedule: as the pairs of its failures and the number of calls
abbrev pub schedule_code : Coded Schedule
schedule_code =
    code_by (List Failure × ℕ) (coded× (coded_list failure_code) coded_ℕ) (λ s. (s.failures, s.calls)) (λ p. record { failures = p.0; calls = p.1 }) (λ _. refl)

-- how many bytes pass before a call fails, by the first entry for it; none if there is no entry
abbrev pub passes_at : List Failure → ℕ → Option ℕ
passes_at failures call = option_map (λ failure. failure.passes) (find (λ failure. failure.call == call) failures)

-- the same for the next call
abbrev pub next_failure : Schedule → Option ℕ
next_failure schedule = passes_at schedule.failures schedule.calls

-- one more call was made
abbrev pub after_call : Schedule → Schedule
after_call schedule = record schedule { calls = one_more schedule.calls }

-- one more call is planned to fail
abbrev pub with_failure : Schedule → ℕ → ℕ → Schedule
with_failure schedule call passes =
    record schedule { failures = schedule.failures ++ record { call = call; passes = passes } ∷ [] }

-- no call is planned to fail, and none was made
abbrev pub nothing_planned : Schedule
nothing_planned = record { failures = []; calls = 0 }
