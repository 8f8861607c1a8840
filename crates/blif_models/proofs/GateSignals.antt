-- The signals of the pairs of gates, and the one that a gate drives.
use Rattle.std.specs.Prelude.{◌≡◌, ℕ, Bool, true, false, ◌||◌, cond, Option, Some, None, is_some, Result, Ok, Err, List, [], ◌∷◌, find, flat_map, bytes_eq, option_to_list, slice_index_or, if◌then◌else◌}
use Rattle.std.specs.Borrow.{Bor}
use Rattle.std.specs.List.{AllByRecursion}
use Rattle.std.proofs.Common.{refl, sym, ◌∙◌, ap, subst}
use Rattle.circuit_model.specs.Names.{has}
use Rattle.circuit_model.specs.declared.circuit.Table.{Table}
use Rattle.circuit_tables.specs.Listing.{names_with}
use Rattle.circuit_tables.proofs.Once.{same_name}
use Rattle.line_words.specs.LineWords.{texts, first_word, other_words}
use Rattle.genlib_format.specs.declared.gate.Gate.{Gate}
use Rattle.blif_gates.specs.declared.reading.GateFault.{GateFault}
use Rattle.blif_gates.specs.GateLines.{signal_in, signals_of, read_gate}
use Rattle.blif_gates.proofs.Told.{told, named_by_signals}
use Rattle.blif_lines.specs.Reader.{right_table, gate_tables}
use Rattle.blif_models.specs.Sides.{gate_signals}
use Rattle.blif_models.specs.declared.side.Side.{Side}
use Rattle.blif_models.specs.declared.side.Side.TheVariants as side

-- the first pair of a signal
abbrev pair_of : List ℕ → List (Bor (List ℕ)) → Option (Bor (List ℕ))
pair_of signal words = find (λ (word : Bor (List ℕ)). bytes_eq signal (signal_in word.now)) words

has_signal : (signal : List ℕ) (words : List (Bor (List ℕ))) → is_some (pair_of signal words) ≡ has (signals_of (texts words)) signal
has_signal signal [] = refl
has_signal signal (word ∷ words) = by (bytes_eq signal (signal_in word.now)) (pair_of signal words) (has_signal signal words)
  where
    by : (b : Bool) (rest : Option (Bor (List ℕ))) → is_some rest ≡ has (signals_of (texts words)) signal → is_some (cond b (Some word) rest) ≡ (b || has (signals_of (texts words)) signal)
    by true rest e = refl
    by false rest e = e

found_passes : {A : Type 0} (test : A → Bool) (xs : List A) (x : A) → find test xs ≡ Some x → test x ≡ true
found_passes test [] x e = absurd (let off = e in cc)
found_passes {A = A} test (first ∷ xs) x e = by (test first) refl (found_passes test xs x) e
  where
    by : (b : Bool) → test first ≡ b → (find test xs ≡ Some x → test x ≡ true) → cond b (Some first) (find test xs) ≡ Some x → test x ≡ true
    by true h rest f = ap test (sym (let same : first ≡ x = cc in same)) ∙ h
    by false h rest f = rest f

pub no_signal : (set : List (List ℕ)) (signal : List ℕ) (words : List (Bor (List ℕ))) → None ≡ pair_of signal words → set ≡ names_with set (if has (signals_of (texts words)) signal then signal ∷ [] else [])
unfolding names_with
no_signal set signal words e =
    let none : has (signals_of (texts words)) signal ≡ false = sym (has_signal signal words) ∙ ap is_some (sym e) in
    rw none refl

pub some_signal : (signal : List ℕ) (words : List (Bor (List ℕ))) (word : Bor (List ℕ)) (found : List ℕ) → Some word ≡ pair_of signal words → found ≡ signal_in word.now
    → found ∷ [] ≡ (if has (signals_of (texts words)) signal then signal ∷ [] else [])
some_signal signal words word found e f =
    let some : has (signals_of (texts words)) signal ≡ true = sym (has_signal signal words) ∙ ap is_some (sym e) in
    let same : signal ≡ signal_in word.now = same_name signal (signal_in word.now) (found_passes (λ (one : Bor (List ℕ)). bytes_eq signal (signal_in one.now)) words word (sym e)) in
    rw some (ap (λ (name : List ℕ). name ∷ []) (f ∙ sym same))

-- the signal that a gate drives is on its line
drives_own : (library : Option (List Gate)) (words : List (List ℕ)) (table : Table) → gate_tables library words ≡ table ∷ [] → has (signals_of (other_words words)) table.output ≡ true
drives_own None words table e = absurd (let off = e in cc)
drives_own (Some library) words table e =
    let t = told library (first_word words) (other_words words) table (right (read_gate library (first_word words) (other_words words)) e) in
    (subst (λ (one : Table). AllByRecursion (λ name. has (signals_of (other_words words)) name ≡ true) (one.output ∷ one.inputs)) t.is (named_by_signals t.gate (other_words words) t.pairs)).0
  where
    right : (answer : Result Table GateFault) → right_table answer ≡ table ∷ [] → answer ≡ Ok table
    right (Ok one) f = ap Ok (ap (λ (tables : List Table). slice_index_or tables 0 one) f)
    right (Err fault) f = absurd (let off = f in cc)

pub no_gate : (set : List (List ℕ)) (place : Side) (library : Option (List Gate)) (words : List (List ℕ)) (found : Option Table) → option_to_list found ≡ gate_tables library words → found ≡ None
    → set ≡ names_with set (flat_map (λ table. gate_signals place table (other_words words)) (gate_tables library words))
unfolding names_with
no_gate set place library words found e n =
    let none : gate_tables library words ≡ [] = sym e ∙ ap option_to_list n in
    rw none refl

pub gate_drives : (place : Side) (library : Option (List Gate)) (words pairs : List (List ℕ)) (table : Table) (output : List ℕ) (found : Option Table) → option_to_list found ≡ gate_tables library words → found ≡ Some table
    → pairs ≡ other_words words → output ≡ table.output → place ≡ side.Outputs
    → (if has (signals_of pairs) output then output ∷ [] else []) ≡ flat_map (λ one. gate_signals place one (other_words words)) (gate_tables library words)
gate_drives place library words pairs table output found e s p o is =
    let tables : gate_tables library words ≡ table ∷ [] = sym e ∙ ap option_to_list s in
    rw (is, p, o, drives_own library words table tables, tables) refl
