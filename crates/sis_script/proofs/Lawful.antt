-- What holds of all that words give.
use Rattle.std.proofs.Common.{◌≡◌, ◌≢◌, ℕ, Bool, true, false, not, ◌==◌, ◌&&◌, Option, Some, None, Result, Ok, Err, List, [], ◌∷◌, ◌++◌, refl, sym, ◌∙◌, ap, subst, if◌then◌else◌}
use Rattle.std.specs.List.{All}
use Rattle.std.proofs.lemmas.Bool.{eqb-false}
use Rattle.std.proofs.lemmas.List.Elements.{All-nil, All-cons, All-head, All-tail}
use Rattle.sis_text.specs.Words.{begins_with}
use Rattle.sis_script.specs.Kinds.{value_of}
use Rattle.sis_script.specs.Grammar.{Place, Front, Behind, with_word, asks_integer, lacks_word, kind_of, fill, fill_front, without_options, with_option, with_value, is_option, option_of, without, parse_at, parse}
use Rattle.sis_script.specs.Laws.{AreOnce, OptionsComeOnce, BadStaysBad}
use Rattle.sis_script.proofs.Filling.{value_none, value_some, front_end}
use Rattle.sis_script.specs.declared.command.ScriptFault.{ScriptFault}
use Rattle.sis_script.specs.declared.command.ScriptFault.TheVariants.{BadOption, MissingWord}
use Rattle.sis_script.specs.declared.kinds.Kind.{Kind}
use Rattle.sis_script.specs.declared.kinds.Value.{Value}
use Rattle.sis_script.specs.declared.grammar.OptionForm.{OptionForm}
use Rattle.sis_script.specs.declared.grammar.OptionGiven.{OptionGiven}
use Rattle.sis_script.specs.declared.grammar.Slot.{Slot}
use Rattle.sis_script.specs.declared.grammar.Given.{Given}

-- What is bad stays bad.

bad_word : (value : Option Value) (rest longer : Result (List Value) ScriptFault) → (rest ≡ Err BadOption → longer ≡ Err BadOption) →
    with_word value rest ≡ Err BadOption → with_word value longer ≡ Err BadOption
bad_word None rest longer more bad = refl
bad_word (Some value) (Ok values) longer more bad = cc
bad_word (Some value) (Err fault) longer more bad = rw (more bad) refl

bad_words : (rest longer : Result (List Value) ScriptFault) → (rest ≡ Err BadOption → longer ≡ Err BadOption) →
    without_options rest ≡ Err BadOption → without_options longer ≡ Err BadOption
bad_words (Ok values) longer more bad = cc
bad_words (Err fault) longer more bad = let same : fault ≡ BadOption = cc in rw (more (ap Err same)) refl

bad_option : (option : OptionGiven) (rest longer : Result Given ScriptFault) → (rest ≡ Err BadOption → longer ≡ Err BadOption) →
    with_option option rest ≡ Err BadOption → with_option option longer ≡ Err BadOption
bad_option option (Ok given) longer more bad = cc
bad_option option (Err fault) longer more bad = rw (more bad) refl

bad_value : (letter : ℕ) (value : Option Value) (rest longer : Result Given ScriptFault) → (rest ≡ Err BadOption → longer ≡ Err BadOption) →
    with_value letter value rest ≡ Err BadOption → with_value letter value longer ≡ Err BadOption
bad_value letter None rest longer more bad = refl
bad_value letter (Some value) rest longer more bad = bad_option (record { letter = letter; value = Some value }) rest longer more bad

bad_front : (refused : Bool) (rest longer : Result (List Value) ScriptFault) → (rest ≡ Err BadOption → longer ≡ Err BadOption) →
    (if refused then Err BadOption else rest) ≡ Err BadOption → (if refused then Err BadOption else longer) ≡ Err BadOption
bad_front true rest longer more bad = refl
bad_front false rest longer more bad = more bad

end_not_bad : (lacks : Bool) → without_options (if lacks then Err MissingWord else Ok []) ≡ Err BadOption → ⊥
end_not_bad true bad = cc
end_not_bad false bad = cc

fill_bad : (slots : List Slot) (words more : List (List ℕ)) → fill slots words ≡ Err BadOption → fill slots (words ++ more) ≡ Err BadOption
unfolding fill
fill_bad slots [] more bad = absurd (end_not_bad (lacks_word slots) (ap without_options bad))
fill_bad [] (word ∷ words) more bad = refl
fill_bad (slot ∷ slots) (word ∷ words) more bad =
    bad_word (value_of (kind_of slot) word) (fill slots words) (fill slots (words ++ more)) (fill_bad slots words more) bad

module _ (slots : List Slot) (word : List ℕ) (words more : List (List ℕ))
    (behind : (place : Place) (options : List OptionForm) → parse_at place options slots words ≡ Err BadOption → parse_at place options slots (words ++ more) ≡ Err BadOption) where
  option_bad : (options : List OptionForm) (option : OptionForm) → Some option ≡ option_of options word → (kind : Option Kind) → kind ≡ option.kind →
      parse_at Front options slots (word ∷ words) ≡ Err BadOption → parse_at Front options slots (word ∷ (words ++ more)) ≡ Err BadOption
  option_bad options option found None same bad =
      sym (value_none options slots word (words ++ more) option found same)
      ∙ bad_option (record { letter = option.letter; value = None }) (parse_at Front (without option.letter options) slots words) (parse_at Front (without option.letter options) slots (words ++ more))
      (behind Front (without option.letter options)) (value_none options slots word words option found same ∙ bad)
  option_bad options option found (Some kind) same bad =
      sym (value_some options slots word (words ++ more) option kind found same)
      ∙ behind (Behind option.letter kind) (without option.letter options) (value_some options slots word words option kind found same ∙ bad)

  first_bad : (options : List OptionForm) (found : Option OptionForm) → found ≡ option_of options word →
      parse_at Front options slots (word ∷ words) ≡ Err BadOption → parse_at Front options slots (word ∷ (words ++ more)) ≡ Err BadOption
  first_bad options None none bad =
      front_end options slots (word ∷ (words ++ more)) none
      ∙ bad_words (fill_front slots (word ∷ words)) (fill_front slots (word ∷ (words ++ more)))
      (bad_front (begins_with 45 word && not (asks_integer slots)) (fill slots (word ∷ words)) (fill slots (word ∷ (words ++ more))) (fill_bad slots (word ∷ words) more))
      (sym (front_end options slots (word ∷ words) none) ∙ bad)
  first_bad options (Some option) found bad = option_bad options option found option.kind refl bad

at_bad : (place : Place) (options : List OptionForm) (slots : List Slot) (words more : List (List ℕ)) →
    parse_at place options slots words ≡ Err BadOption → parse_at place options slots (words ++ more) ≡ Err BadOption
unfolding parse_at fill
at_bad Front options slots [] more bad = absurd (end_not_bad (lacks_word slots) bad)
at_bad (Behind letter kind) options slots [] more bad = cc
at_bad (Behind letter kind) options slots (word ∷ words) more bad =
    bad_value letter (value_of kind word) (parse_at Front options slots words) (parse_at Front options slots (words ++ more)) (at_bad Front options slots words more) bad
at_bad Front options slots (word ∷ words) more bad =
    first_bad slots word words more (λ place others. at_bad place others slots words more) options (option_of options word) refl bad

pub bad_stays_bad : BadStaysBad
unfolding parse
bad_stays_bad [] slots words more bad = bad_words (fill slots words) (fill slots (words ++ more)) (fill_bad slots words more) bad
bad_stays_bad (option ∷ options) slots words more bad = at_bad Front (option ∷ options) slots words more bad

-- What holds of all results of the grammar, by the words: at their end, after an option without a
-- value, after one with a value, and after its value.

module _ (slots : List Slot) (Holds : Place → List OptionForm → Given → Type 0)
    (ends : (options : List OptionForm) (words : List (List ℕ)) (values : List Value) → Ok values ≡ fill slots words → Holds Front options (record { options = []; words = values }))
    (plain : (options : List OptionForm) (word : List ℕ) (option : OptionForm) (given : Given) → Some option ≡ option_of options word → None ≡ option.kind → Holds Front (without option.letter options) given →
    Holds Front options (record { options = record { letter = option.letter; value = None } ∷ given.options; words = given.words }))
    (due : (options : List OptionForm) (word : List ℕ) (option : OptionForm) (kind : Kind) (given : Given) → Some option ≡ option_of options word → Some kind ≡ option.kind →
    Holds (Behind option.letter kind) (without option.letter options) given → Holds Front options given)
    (taken : (options : List OptionForm) (letter : ℕ) (kind : Kind) (word : List ℕ) (value : Value) (given : Given) → Some value ≡ value_of kind word → Holds Front options given →
    Holds (Behind letter kind) options (record { options = record { letter = letter; value = Some value } ∷ given.options; words = given.words })) where
  words_hold : (options : List OptionForm) (words : List (List ℕ)) (filled : Result (List Value) ScriptFault) → filled ≡ fill slots words → (given : Given) →
      without_options filled ≡ Ok given → Holds Front options given
  words_hold options words (Ok values) same given fits =
      let whole : record { options = []; words = values } ≡ given = cc in subst (λ (g : Given). Holds Front options g) whole (ends options words values same)
  words_hold options words (Err fault) same given fits = cc

  front_holds : (options : List OptionForm) (words : List (List ℕ)) (refused : Bool) (given : Given) →
      without_options (if refused then Err BadOption else fill slots words) ≡ Ok given → Holds Front options given
  front_holds options words true given fits = cc
  front_holds options words false given fits = words_hold options words (fill slots words) refl given fits

  value_holds : (options : List OptionForm) (letter : ℕ) (kind : Kind) (word : List ℕ) (value : Option Value) → value ≡ value_of kind word →
      (rest : Result Given ScriptFault) → ((given : Given) → rest ≡ Ok given → Holds Front options given) → (given : Given) → with_value letter value rest ≡ Ok given → Holds (Behind letter kind) options given
  value_holds options letter kind word None same rest holds given fits = cc
  value_holds options letter kind word (Some value) same (Err fault) holds given fits = cc
  value_holds options letter kind word (Some value) same (Ok inner) holds given fits =
      let whole : record { options = record { letter = letter; value = Some value } ∷ inner.options; words = inner.words } ≡ given = cc in
      subst (λ (g : Given). Holds (Behind letter kind) options g) whole (taken options letter kind word value inner same (holds inner refl))

  plain_holds : (options : List OptionForm) (word : List ℕ) (option : OptionForm) → Some option ≡ option_of options word → None ≡ option.kind →
      (rest : Result Given ScriptFault) → ((given : Given) → rest ≡ Ok given → Holds Front (without option.letter options) given) →
      (given : Given) → with_option (record { letter = option.letter; value = None }) rest ≡ Ok given → Holds Front options given
  plain_holds options word option found none (Err fault) holds given fits = cc
  plain_holds options word option found none (Ok inner) holds given fits =
      let whole : record { options = record { letter = option.letter; value = None } ∷ inner.options; words = inner.words } ≡ given = cc in
      subst (λ (g : Given). Holds Front options g) whole (plain options word option inner found none (holds inner refl))

  option_holds : (options : List OptionForm) (word : List ℕ) (words : List (List ℕ)) (option : OptionForm) → Some option ≡ option_of options word → (kind : Option Kind) → kind ≡ option.kind →
      ((place : Place) (others : List OptionForm) (given : Given) → parse_at place others slots words ≡ Ok given → Holds place others given) →
      (given : Given) → parse_at Front options slots (word ∷ words) ≡ Ok given → Holds Front options given
  option_holds options word words option found None same behind given fits =
      plain_holds options word option found same (parse_at Front (without option.letter options) slots words) (behind Front (without option.letter options)) given
      (value_none options slots word words option found same ∙ fits)
  option_holds options word words option found (Some kind) same behind given fits =
      due options word option kind given found same (behind (Behind option.letter kind) (without option.letter options) given (value_some options slots word words option kind found same ∙ fits))

  first_holds : (options : List OptionForm) (word : List ℕ) (words : List (List ℕ)) (found : Option OptionForm) → found ≡ option_of options word →
      ((place : Place) (others : List OptionForm) (given : Given) → parse_at place others slots words ≡ Ok given → Holds place others given) →
      (given : Given) → parse_at Front options slots (word ∷ words) ≡ Ok given → Holds Front options given
  first_holds options word words None none behind given fits =
      front_holds options (word ∷ words) (begins_with 45 word && not (asks_integer slots)) given (sym (front_end options slots (word ∷ words) none) ∙ fits)
  first_holds options word words (Some option) found behind given fits = option_holds options word words option found option.kind refl behind given fits

  pub parse_holds : (place : Place) (options : List OptionForm) (words : List (List ℕ)) (given : Given) → parse_at place options slots words ≡ Ok given → Holds place options given
  unfolding parse_at
  parse_holds Front options [] given fits = words_hold options [] (fill slots []) refl given fits
  parse_holds (Behind letter kind) options [] given fits = cc
  parse_holds (Behind letter kind) options (word ∷ words) given fits =
      value_holds options letter kind word (value_of kind word) refl (parse_at Front options slots words) (parse_holds Front options words) given fits
  parse_holds Front options (word ∷ words) given fits =
      first_holds options word words (option_of options word) refl (λ place others. parse_holds place others words) given fits

-- Options come once.

abbrev IsOther : ℕ → OptionForm → Type 0
IsOther letter option = option.letter ≢ letter

abbrev IsOtherGiven : ℕ → OptionGiven → Type 0
IsOtherGiven letter option = option.letter ≢ letter

found_first : (letter : ℕ) (first option : OptionForm) (here : Bool) (rest : Option OptionForm) → first.letter ≢ letter → (Some option ≡ rest → option.letter ≢ letter) →
    Some option ≡ (if here then Some first else rest) → option.letter ≢ letter
found_first letter first option true rest other later found =
    let same : option ≡ first = cc in λ equal. other (ap (λ (o : OptionForm). o.letter) (sym same) ∙ equal)
found_first letter first option false rest other later found = later found

found_other : (letter : ℕ) (options : List OptionForm) (word : List ℕ) (option : OptionForm) → All (IsOther letter) options → Some option ≡ option_of options word → option.letter ≢ letter
found_other letter [] word option others found = cc
found_other letter (first ∷ options) word option others found =
    found_first letter first option (is_option word first) (option_of options word) (All-head (IsOther letter) first options others)
    (λ later. found_other letter options word option (All-tail (IsOther letter) first options others) later) found

first_other : (letter : ℕ) (option : OptionForm) (rest : List OptionForm) (same : Bool) → (option.letter == letter) ≡ same → All (IsOther letter) rest →
    All (IsOther letter) (if not same then option ∷ rest else rest)
first_other letter option rest true e others = others
first_other letter option rest false e others = All-cons (IsOther letter) option rest (eqb-false option.letter letter e) others

without_other : (letter : ℕ) (options : List OptionForm) → All (IsOther letter) (without letter options)
without_other letter [] = All-nil (IsOther letter)
without_other letter (option ∷ options) = first_other letter option (without letter options) (option.letter == letter) refl (without_other letter options)

first_kept : (letter : ℕ) (option : OptionForm) (rest : List OptionForm) (gone : Bool) → option.letter ≢ letter → All (IsOther letter) rest →
    All (IsOther letter) (if not gone then option ∷ rest else rest)
first_kept letter option rest true other others = others
first_kept letter option rest false other others = All-cons (IsOther letter) option rest other others

without_kept : (letter gone : ℕ) (options : List OptionForm) → All (IsOther letter) options → All (IsOther letter) (without gone options)
without_kept letter gone [] others = All-nil (IsOther letter)
without_kept letter gone (option ∷ options) others =
    first_kept letter option (without gone options) (option.letter == gone) (All-head (IsOther letter) option options others)
    (without_kept letter gone options (All-tail (IsOther letter) option options others))

-- the value that is due, if any, is of an option that may come no more
abbrev IsReady : Place → List OptionForm → Type 0
IsReady Front options = Unit {0}
IsReady (Behind letter kind) options = All (IsOther letter) options

-- no value of this option is due
abbrev IsUnasked : ℕ → Place → Type 0
IsUnasked letter Front = Unit {0}
IsUnasked letter (Behind asked kind) = asked ≢ letter

abbrev ComeOnce : Place → List OptionForm → Given → Type 0
ComeOnce place options given =
    (IsReady place options → AreOnce given.options)
    × ((letter : ℕ) → IsUnasked letter place → All (IsOther letter) options → All (IsOtherGiven letter) given.options)

come_once : (slots : List Slot) (place : Place) (options : List OptionForm) (words : List (List ℕ)) (given : Given) → parse_at place options slots words ≡ Ok given → ComeOnce place options given
unfolding AreOnce
come_once slots = parse_holds slots ComeOnce
    (λ options words values filled. (λ ready. tt, λ letter free others. All-nil (IsOtherGiven letter)))
    (λ options word option given found none before. (
      λ ready. (before.1 option.letter tt (without_other option.letter options), before.0 tt),
      λ letter free others. All-cons (IsOtherGiven letter) (record { letter = option.letter; value = None }) given.options
          (found_other letter options word option others found) (before.1 letter tt (without_kept letter option.letter options others)),
    ))
    (λ options word option kind given found some before. (
      λ ready. before.0 (without_other option.letter options),
      λ letter free others. before.1 letter (found_other letter options word option others found) (without_kept letter option.letter options others),
    ))
    (λ options asked kind word value given fits before. (
      λ ready. (before.1 asked tt ready, before.0 tt),
      λ letter free others. All-cons (IsOtherGiven letter) (record { letter = asked; value = Some value }) given.options free (before.1 letter tt others),
    ))

none_come : (filled : Result (List Value) ScriptFault) (given : Given) → without_options filled ≡ Ok given → AreOnce given.options
unfolding AreOnce
none_come (Ok values) given fits =
    let whole : record { options = []; words = values } ≡ given = cc in subst (λ (g : Given). AreOnce g.options) whole tt
none_come (Err fault) given fits = cc

pub options_come_once : OptionsComeOnce
unfolding parse
options_come_once [] slots words given fits = none_come (fill slots words) given fits
options_come_once (option ∷ options) slots words given fits = (come_once slots Front (option ∷ options) words given fits).0 tt
