-- Answers by what clap found and refused, and when words are taken.
use Rattle.std.proofs.Common.{◌≡◌, ◌⊎◌, refl, sym, inl, inr, Option, Some, None, option_map, List, [], ◌∷◌, Result, Ok, Err, IfOk, codes}
use Rattle.std.specs.Prelude.{ok_or, IsErrAnd}
use Rattle.clap.specs.Words.{IsAmong, Kinds, Text, fault_of}
use Rattle.clap.specs.declared.error.kind.ErrorKind.{ErrorKind}
use Rattle.clap.specs.declared.error.kind.ErrorKind.TheVariants as kind
use Rattle.sis_top.specs.Shell.{AreTaken, shell, value_of}
use Rattle.sis_top.specs.Asked.{Answers, TheOptions, options_by, options_in, options_of, where_fit}
use Rattle.sis_top.specs.Refusing.{Refuses}
use Rattle.sis_top.specs.declared.options.Options.{Options}
use Rattle.sis_top.specs.declared.options.WordsFault.{WordsFault}
use Rattle.sis_top.specs.declared.options.WordsFault.TheVariants.{Usage, Memory}

-- ---- refused words

not_fit : (kinds : Kinds) (options : Option TheOptions) (k : ErrorKind) → IsAmong k kinds → where_fit kinds options ≡ None
not_fit [] options k among = absurd among
not_fit (other ∷ kinds) options k among = refl

fault_where_none : (asked : Option TheOptions) (fault : WordsFault) → asked ≡ None → Answers asked (Err fault)
fault_where_none asked Usage none = none
fault_where_none asked Memory none = tt

memory_answers : (asked : Option TheOptions) (fault : WordsFault) → fault ≡ Memory → Answers asked (Err fault)
memory_answers asked Usage memory = absurd (cc)
memory_answers asked Memory memory = tt

-- an error of a kind that the words have, or of memory
refusal_answers : (words : List Text) (k : ErrorKind) (fault : WordsFault)
    → (k ≡ kind.OutOfMemory) ⊎ IsAmong k (fault_of shell words) → Refuses k fault → Answers (options_of words) (Err fault)
refusal_answers words k fault (inl memory) refuses = memory_answers _ fault (rw memory at refuses)
refusal_answers words k fault (inr among) refuses = fault_where_none _ fault (not_fit (fault_of shell words) _ k among)

-- the answer that is made of such an error
pub error_answers : (words : List Text) (k : ErrorKind) (r : Result Options WordsFault)
    → (k ≡ kind.OutOfMemory) ⊎ IsAmong k (fault_of shell words) → IsErrAnd r (Refuses k) → Answers (options_of words) r
error_answers words k (Ok options) has made = absurd made
error_answers words k (Err fault) has made = refusal_answers words k fault has made

-- ---- words in which clap has no fault

answer_by : (asked : Option TheOptions) (found : Option Options) → option_map options_in found ≡ asked → Answers asked (ok_or found Usage)
answer_by asked None same = sym same
answer_by asked (Some options) same = sym same

-- the options that were found
pub options_answer : (words : List Text) (found : Option Options) (r : Result Options WordsFault) → fault_of shell words ≡ []
    → option_map options_in found
    ≡ options_by (value_of (codes "keep") words) (value_of (codes "file") words) (value_of (codes "text") words)
    → r ≡ ok_or found Usage → Answers (options_of words) r
options_answer words found r fit same is =
    rw (is, fit) (answer_by (options_by (value_of (codes "keep") words) (value_of (codes "file") words) (value_of (codes "text") words)) found same)

-- ---- taken words

fit_where_some : (kinds : Kinds) (options : Option TheOptions) (o : TheOptions) → where_fit kinds options ≡ Some o → kinds ≡ []
fit_where_some [] options o some = refl
fit_where_some (k ∷ kinds) options o some = absurd (cc)

some_where_fit : (kinds : Kinds) (options : Option TheOptions) (o : TheOptions) → where_fit kinds options ≡ Some o → options ≡ Some o
some_where_fit [] options o some = some
some_where_fit (k ∷ kinds) options o some = absurd (cc)

one_where_some : (keep file text : Option Text) (o : TheOptions) → options_by keep file text ≡ Some o → (file ≡ None) ⊎ (text ≡ None)
one_where_some keep None text o some = inl refl
one_where_some keep (Some name) None o some = inr refl
one_where_some keep (Some name) (Some word) o some = absurd (cc)

some_where_one : (keep file text : Option Text) → (file ≡ None) ⊎ (text ≡ None) → options_by keep file text ≡ None → ⊥
some_where_one keep None None one none = cc
some_where_one keep (Some name) None one none = cc
some_where_one keep None (Some word) one none = cc
some_where_one keep (Some name) (Some word) (inl bad) none = cc
some_where_one keep (Some name) (Some word) (inr bad) none = cc

taken_where_some : (words : List Text) (o : TheOptions) → options_of words ≡ Some o → AreTaken words
taken_where_some words o some = record {
  fit = fit_where_some (fault_of shell words) _ o some;
  one_script = one_where_some (value_of (codes "keep") words) (value_of (codes "file") words) (value_of (codes "text") words) o
      (some_where_fit (fault_of shell words) _ o some);
}

some_where_taken : (words : List Text) → AreTaken words → options_of words ≡ None → ⊥
some_where_taken words taken none =
    some_where_one (value_of (codes "keep") words) (value_of (codes "file") words) (value_of (codes "text") words) taken.one_script
    (rw taken.fit at none)

-- where options are answered the words are taken
pub taken_by_answer : (words : List Text) (r : Result Options WordsFault) → Answers (options_of words) r → IfOk r (λ _. AreTaken words)
taken_by_answer words (Ok options) answers = taken_where_some words (options_in options) answers
taken_by_answer words (Err fault) answers = tt

-- where Usage is answered they are not
pub refused_by_answer : (words : List Text) (r : Result Options WordsFault) → Answers (options_of words) r → r ≡ Err Usage
    → AreTaken words → ⊥
refused_by_answer words (Ok options) answers usage taken = cc
refused_by_answer words (Err Usage) answers usage taken = some_where_taken words taken answers
refused_by_answer words (Err Memory) answers usage taken = cc

-- equal values give equal options
pub same_options : {keep keep' file file' text text' : Option Text} → keep ≡ keep' → file ≡ file' → text ≡ text'
    → options_by keep file text ≡ options_by keep' file' text'
same_options k f t = rw (k, f, t) refl
