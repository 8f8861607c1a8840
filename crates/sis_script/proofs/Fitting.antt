-- The words that are no options fill the slots of their command.
use Rattle.std.proofs.Common.{◌≡◌, ℕ, ◌-◌, ◌^◌, ◌≤◌, Bool, true, false, not, ◌&&◌, nat_le, Option, Some, None, option_map, Result, Ok, Err, List, [], ◌∷◌, drop, pos, neg_ℤ, refl, sym, subst, arith, if◌then◌else◌}
use Rattle.std.specs.Prelude.{bytes_eq, codes}
use Rattle.std.specs.Str.{is_utf8}
use Rattle.std.proofs.lemmas.Bool.Decides.{nat_tests}
use Rattle.std.proofs.lemmas.Int.{ints}
use Rattle.sis_text.specs.Words.{begins_with}
use Rattle.sis_text.specs.Decimals.{number_of}
use Rattle.sis_script.specs.Kinds.{are_digits, number_within, integer_of, style_of, value_of}
use Rattle.sis_script.specs.Grammar.{Place, with_word, lacks_word, kind_of, fill, without_options, parse_at, parse, Front}
use Rattle.sis_script.specs.Laws.{Fits, FitSlots, WordsFitSlots}
use Rattle.sis_script.proofs.Lawful.{parse_holds}
use Rattle.sis_script.specs.declared.command.ScriptFault.{ScriptFault}
use Rattle.sis_script.specs.declared.command.ScriptFault.TheVariants.{MissingWord}
use Rattle.sis_script.specs.declared.command.Style.{Style}
use Rattle.sis_script.specs.declared.kinds.Kind.{Kind}
use Rattle.sis_script.specs.declared.kinds.Kind.TheVariants as kind
use Rattle.sis_script.specs.declared.kinds.Value.{Value}
use Rattle.sis_script.specs.declared.kinds.Value.TheVariants as made
use Rattle.sis_script.specs.declared.grammar.OptionForm.{OptionForm}
use Rattle.sis_script.specs.declared.grammar.Slot.{Slot}
use Rattle.sis_script.specs.declared.grammar.Given.{Given}

tested : (least most whole number : ℕ) (digits low high : Bool) → low ≡ nat_le least whole → high ≡ nat_le whole most →
    Some number ≡ (if digits && (low && high) then Some whole else None) → (least ≤ number) × (number ≤ most)
tested least most whole number true true true low high found = let same : number ≡ whole = cc in (grind (arith, nat_tests), grind (arith, nat_tests))
tested least most whole number true true false low high found = cc
tested least most whole number true false high low above found = cc
tested least most whole number false a b low high found = cc

bounded : (least most : ℕ) (word : List ℕ) (number : ℕ) → Some number ≡ number_within least most word → (least ≤ number) × (number ≤ most)
unfolding number_within
bounded least most word number found =
    tested least most (number_of word) number (are_digits word) (nat_le least (number_of word)) (nat_le (number_of word) most) refl refl found

file_fits : (word : List ℕ) (value : Value) (text dash : Bool) → text ≡ is_utf8 word → dash ≡ begins_with 45 word →
    Some value ≡ (if text && not dash then Some (made.File word) else None) → Fits kind.File value
unfolding Fits
file_fits word value true false text dash found = let same : value ≡ made.File word = cc in subst (λ v. Fits kind.File v) (sym same) (sym text, sym dash)
file_fits word value true true text dash found = cc
file_fits word value false dashed text dash found = cc

number_fits : (least most : ℕ) (word : List ℕ) (value : Value) (found : Option ℕ) → found ≡ number_within least most word →
    Some value ≡ option_map (λ number. made.Number number) found → Fits (kind.Number least most) value
unfolding Fits
number_fits least most word value None within found = cc
number_fits least most word value (Some number) within found =
    let same : value ≡ made.Number number = cc in subst (λ v. Fits (kind.Number least most) v) (sym same) (bounded least most word number within)

integer_fits : (word : List ℕ) (value : Value) (dash : Bool) (negative positive : Option ℕ) → negative ≡ number_within 0 (2 ^ 31) (drop 1 word) → positive ≡ number_within 0 (2 ^ 31 - 1) word →
    Some value ≡ option_map (λ number. made.Integer number) (if dash then option_map (λ number. neg_ℤ (pos number)) negative else option_map pos positive) → Fits kind.Integer value
unfolding Fits
integer_fits word value true None positive below above found = cc
integer_fits word value true (Some number) positive below above found =
    let same : value ≡ made.Integer (neg_ℤ (pos number)) = cc in
    let bound = bounded 0 (2 ^ 31) (drop 1 word) number below in
    subst (λ v. Fits kind.Integer v) (sym same) (omega (arith, ints, bound.1), omega (arith, ints, bound.1))
integer_fits word value false negative None below above found = cc
integer_fits word value false negative (Some number) below above found =
    let same : value ≡ made.Integer (pos number) = cc in
    let bound = bounded 0 (2 ^ 31 - 1) word number above in
    subst (λ v. Fits kind.Integer v) (sym same) (omega (arith, ints, bound.1), omega (arith, ints, bound.1))

no_complement_fits : (value : Value) (is : Bool) → Some value ≡ (if is then Some made.NoComplement else None) → Fits kind.NoComplement value
unfolding Fits
no_complement_fits value true found = let same : value ≡ made.NoComplement = cc in subst (λ v. Fits kind.NoComplement v) (sym same) tt
no_complement_fits value false found = cc

style_fits : (value : Value) (found : Option Style)
    → Some value ≡ option_map (λ named. made.Style named) found → Fits kind.Style value
unfolding Fits
style_fits value None found = cc
style_fits value (Some named) found =
    let same : value ≡ made.Style named = cc in subst (λ v. Fits kind.Style v) (sym same) tt

kind_fits : (asked : Kind) (word : List ℕ) (value : Value) → Some value ≡ value_of asked word → Fits asked value
unfolding value_of Fits integer_of
kind_fits kind.File word value found = file_fits word value (is_utf8 word) (begins_with 45 word) refl refl found
kind_fits kind.Name word value found = let same : value ≡ made.Name word = cc in subst (λ v. Fits kind.Name v) (sym same) tt
kind_fits (kind.Number least most) word value found = number_fits least most word value (number_within least most word) refl found
kind_fits kind.Integer word value found =
    integer_fits word value (begins_with 45 word) (number_within 0 (2 ^ 31) (drop 1 word)) (number_within 0 (2 ^ 31 - 1) word) refl refl found
kind_fits kind.NoComplement word value found = no_complement_fits value (bytes_eq word (codes "nocomp")) found
kind_fits kind.Style word value found = style_fits value (style_of word) found

end_fits : (slots : List Slot) (values : List Value) (lacks : Bool) → lacks ≡ lacks_word slots → Ok values ≡ (if lacks then Err MissingWord else Ok []) → FitSlots slots values
unfolding FitSlots
end_fits slots values true same fits = cc
end_fits slots values false same fits = let none : values ≡ [] = cc in subst (λ (v : List Value). FitSlots slots v) (sym none) (sym same)

word_fits : (slot : Slot) (slots : List Slot) (word : List ℕ) (value : Option Value) → value ≡ value_of (kind_of slot) word →
    (rest : Result (List Value) ScriptFault) → ((inner : List Value) → Ok inner ≡ rest → FitSlots slots inner) → (values : List Value) → Ok values ≡ with_word value rest → FitSlots (slot ∷ slots) values
unfolding FitSlots
word_fits slot slots word None same rest behind values fits = cc
word_fits slot slots word (Some value) same (Err fault) behind values fits = cc
word_fits slot slots word (Some value) same (Ok inner) behind values fits =
    let whole : values ≡ value ∷ inner = cc in subst (λ (v : List Value). FitSlots (slot ∷ slots) v) (sym whole) (kind_fits (kind_of slot) word value same, behind inner refl)

fill_fits : (slots : List Slot) (words : List (List ℕ)) (values : List Value) → Ok values ≡ fill slots words → FitSlots slots values
unfolding fill
fill_fits slots [] values fits = end_fits slots values (lacks_word slots) refl fits
fill_fits [] (word ∷ words) values fits = cc
fill_fits (slot ∷ slots) (word ∷ words) values fits =
    word_fits slot slots word (value_of (kind_of slot) word) refl (fill slots words) (λ inner rest. fill_fits slots words inner rest) values fits

at_fits : (slots : List Slot) (place : Place) (options : List OptionForm) (words : List (List ℕ)) (given : Given) → parse_at place options slots words ≡ Ok given → FitSlots slots given.words
at_fits slots = parse_holds slots (λ place options given. FitSlots slots given.words)
    (λ options words values filled. fill_fits slots words values filled)
    (λ options word option given found none before. before)
    (λ options word option kind given found some before. before)
    (λ options letter kind word value given fits before. before)

plain_fits : (slots : List Slot) (words : List (List ℕ)) (filled : Result (List Value) ScriptFault) → filled ≡ fill slots words → (given : Given) → without_options filled ≡ Ok given → FitSlots slots given.words
plain_fits slots words (Ok values) same given fits =
    let whole : record { options = []; words = values } ≡ given = cc in subst (λ (g : Given). FitSlots slots g.words) whole (fill_fits slots words values same)
plain_fits slots words (Err fault) same given fits = cc

pub words_fit_slots : WordsFitSlots
unfolding parse
words_fit_slots [] slots words given fits = plain_fits slots words (fill slots words) refl given fits
words_fit_slots (option ∷ options) slots words given fits = at_fits slots Front (option ∷ options) words given fits
