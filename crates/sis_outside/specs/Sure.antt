-- Objects in memory that never fail: the files of such a store, and what it means that a kind of
-- object never counts a fault. Source: the project's own doubles of the outside.
use Rattle.std.specs.Prelude.{◌≡◌, ℕ, refl}
use Rattle.std.specs.Coded.{Coded, code_by, coded×, coded_ℕ}
use Rattle.sis_outside.specs.Files.{Files, files_code}

-- what such a store holds
pub record SureFiles : Type 0 where
  pub files : Files
  pub misses : ℕ

-- how a model stores it: as the pair of its parts
abbrev pub sure_code : Coded SureFiles
sure_code =
    code_by
    (Files × ℕ)
    (coded× files_code coded_ℕ)
    (λ s. (s.files, s.misses))
    (λ p. record { files = p.0; misses = p.1 })
    (λ _. refl)

-- no object of a kind counts a fault; since a failure makes the count rise, none of its calls fails
abbrev pub NeverFails : {S : Type 0} → (S → ℕ) → Type 0
NeverFails {S} faults = (object : S) → faults object ≡ 0
