-- What clap found and refused is what its own function says of the shell's words.
use Rattle.std.proofs.Common.{◌≡◌, ◌∙◌, refl, ap, ap₂, subst, true, List, Result}
use Rattle.clap.specs.Words.{App, FailsBy, HasMatchesOf, Text, fault_of, first_of, first_value, found_of, is_simple, is_simple_and_free, matches_of}
use Rattle.clap.specs.declared.error.Error.{Error}
use Rattle.clap.specs.declared.parser.matches.ArgMatches.{ArgMatches}
use Rattle.clap.proofs.OnLiterals.{clap_on_literals}
use Rattle.clap.proofs.WalkLemmas.{first_value-rows}
use Rattle.sis_top.specs.Shell.{shell, value_of}

shell_is_simple : is_simple shell ≡ true
unfolding clap_on_literals
shell_is_simple = refl

shell_is_free : is_simple_and_free shell ≡ true
unfolding clap_on_literals
shell_is_free = refl

-- a value that was found is the one that the words give
pub value_found : (app : App) (words texts : List Text) (m : ArgMatches) (argument : Text) → app ≡ shell → texts ≡ words
    → HasMatchesOf app texts m → first_value (found_of m) argument ≡ value_of argument words
value_found app words texts m argument is_shell same has =
    first_value-rows (found_of m) argument
    ∙ ap (first_of argument) ((has (ap is_simple is_shell ∙ shell_is_simple)).0 ∙ ap₂ matches_of is_shell same)

-- an error has a kind of the words' faults
pub fails_by_words : (app : App) (words texts : List Text) (T : Type 0) (r : Result T Error) → app ≡ shell → texts ≡ words
    → (is_simple_and_free app ≡ true → FailsBy (fault_of app texts) r) → FailsBy (fault_of shell words) r
fails_by_words app words texts T r is_shell same fails =
    subst (λ kinds. FailsBy kinds r) (ap₂ fault_of is_shell same) (fails (ap is_simple_and_free is_shell ∙ shell_is_free))
