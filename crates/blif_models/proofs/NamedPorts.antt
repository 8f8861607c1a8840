-- Whether the pairs of an instance name the ports of its model.
use Rattle.std.specs.Prelude.{◌≡◌, ℕ, zero, suc, ◌<◌, ◌==◌, Bool, true, false, not, ◌&&◌, ◌||◌, cond, Option, Some, None, List, [], ◌∷◌, ◌++◌, map, length, bytes_eq, slice_get, slice_index_or}
use Rattle.std.specs.Borrow.{Bor}
use Rattle.std.specs.List.{filter, list_all}
use Rattle.std.specs.Option.{option_map_or, option_and_then}
use Rattle.std.proofs.Common.{refl, sym, ◌∙◌, ap, arith, eqb-true, eq-eqb}
use Rattle.std.proofs.lemmas.Bool.Decides.{nat_tests}
use Rattle.std.proofs.lemmas.List.{map-append, length-map}
use Rattle.circuit_model.specs.Names.{has, all_different}
use Rattle.circuit_checks.proofs.Naming.{has_append}
use Rattle.circuit_tables.specs.Folding.{each_once}
use Rattle.circuit_tables.proofs.Once.{same_name, has-each_once, full-each_once, each_once-different}
use Rattle.sis_text.specs.Words.{bytes_at}
use Rattle.sis_text.specs.Entries.{Entry, entry_at}
use Rattle.sis_text.specs.declared.places.Line.{Line}
use Rattle.line_words.specs.LineWords.{texts, other_words}
use Rattle.blif_gates.specs.GateLines.{is_pair, pin_in, pins_of}
use Rattle.blif_gates.proofs.Texts.{all_pairs}
use Rattle.blif_models.specs.Models.{is_instance, model_of, index_of}
use Rattle.blif_models.specs.Ports.{Ports, names_ports}
use Rattle.blif_models.specs.PortFaults.{is_wrong}
use Rattle.blif_models.specs.PortTables.{no_ports, once_ports, ports_by}
use Rattle.blif_models.proofs.PortSets.{texts_both}

all_same : (test other : List ℕ → Bool) → ((name : List ℕ) → test name ≡ other name) → (names : List (List ℕ)) → list_all test names ≡ list_all other names
all_same test other same [] = refl
all_same test other same (name ∷ names) = rw (same name, all_same test other same names) refl

-- names that pass a test, without one that passes
without : (test : List ℕ → Bool) (name : List ℕ) → test name ≡ true → (names : List (List ℕ)) → list_all test (filter (λ other. not (bytes_eq name other)) names) ≡ list_all test names
without test name t [] = refl
without test name t (first ∷ names) = by (bytes_eq name first) refl (without test name t names)
  where
    by : (b : Bool) → bytes_eq name first ≡ b → list_all test (filter (λ other. not (bytes_eq name other)) names) ≡ list_all test names
        → list_all test (cond (not b) (first ∷ filter (λ other. not (bytes_eq name other)) names) (filter (λ other. not (bytes_eq name other)) names)) ≡ (test first && list_all test names)
    by true e rest = let it : test first ≡ true = ap test (sym (same_name name first e)) ∙ t in rest ∙ rw it refl
    by false e rest = ap (λ (b : Bool). test first && b) rest

all_once : (test : List ℕ → Bool) (names : List (List ℕ)) → list_all test (each_once names) ≡ list_all test names
unfolding each_once
all_once test [] = refl
all_once test (name ∷ names) = by (test name) refl (all_once test names)
  where
    by : (b : Bool) → test name ≡ b → list_all test (each_once names) ≡ list_all test names
        → (b && list_all test (filter (λ other. not (bytes_eq name other)) (each_once names))) ≡ (b && list_all test names)
    by true e rest = without test name e (each_once names) ∙ rest
    by false e rest = refl

either_once : (ports : Ports) (name : List ℕ) → has (each_once ports.inputs ++ each_once ports.outputs) name ≡ has (ports.inputs ++ ports.outputs) name
either_once ports name =
    has_append (each_once ports.inputs) (each_once ports.outputs) name
    ∙ rw (has-each_once ports.inputs name, has-each_once ports.outputs name) (sym (has_append ports.inputs ports.outputs name))

-- ports, each once, are named by the same words
pub names_once : (ports : Ports) (words : List (List ℕ)) → names_ports (once_ports ports) words ≡ names_ports ports words
unfolding names_ports
names_once ports words =
    rw (all_same (has (each_once ports.inputs ++ each_once ports.outputs)) (has (ports.inputs ++ ports.outputs)) (either_once ports) (pins_of words), all_once (has (pins_of words)) ports.inputs) refl

-- the number of names tells whether they are different
pub different_by : (names : List (List ℕ)) → (length (each_once names) == length names) ≡ all_different names
different_by names = by (length (each_once names) == length names) refl (all_different names) refl
  where
    by : (b : Bool) → (length (each_once names) == length names) ≡ b → (d : Bool) → all_different names ≡ d → b ≡ d
    by true e true d = refl
    by true e false d = sym (full-each_once names (eqb-true (length (each_once names)) (length names) e)) ∙ d
    by false e true d = sym e ∙ eq-eqb (length (each_once names)) (length names) (ap (λ (list : List (List ℕ)). length list) (each_once-different names d))
    by false e false d = refl

pub pins_both : (xs ys : List (Bor (List ℕ))) → pins_of (texts (xs ++ ys)) ≡ pins_of (texts xs) ++ pins_of (texts ys)
pins_both xs ys = ap pins_of (texts_both xs ys) ∙ map-append pin_in (texts xs) (texts ys)

-- tests of words by their texts

pub all_ports : (ports : Ports) (words : List (Bor (List ℕ))) → list_all (λ (word : Bor (List ℕ)). has ports.inputs (pin_in word.now) || has ports.outputs (pin_in word.now)) words ≡ list_all (has (ports.inputs ++ ports.outputs)) (pins_of (texts words))
all_ports ports [] = refl
all_ports ports (word ∷ words) = rw (has_append ports.inputs ports.outputs (pin_in word.now), all_ports ports words) refl

pub all_held : (names : List (List ℕ)) (words : List (Bor (List ℕ))) → list_all (λ (word : Bor (List ℕ)). has names word.now) words ≡ list_all (has names) (texts words)
all_held names [] = refl
all_held names (word ∷ words) = ap (λ (b : Bool). has names word.now && b) (all_held names words)

-- the words of an instance of a model that is not in the file

not_none : (count : ℕ) → 0 < count → (count == 0) ≡ false
not_none count less = grind (arith, nat_tests)

nothing_named : (words : List (List ℕ)) → names_ports no_ports words ≡ (length words == 0)
unfolding names_ports all_different
nothing_named [] = refl
nothing_named (word ∷ words) = by (is_pair word && list_all is_pair words) ∙ sym (not_none (length (word ∷ words)) (let some : 0 < length (word ∷ words) = omega arith in some))
  where
    by : (b : Bool) → (b && false && all_different (pins_of (word ∷ words)) && true) ≡ false
    by true = refl
    by false = refl

pub empty_named : (words : List (Bor (List ℕ))) (empty : Bool) → empty ≡ (length words == 0) → empty ≡ names_ports no_ports (texts words)
empty_named words empty e =
    e ∙ ap (λ (n : ℕ). n == 0) (sym (length-map words (λ (word : Bor (List ℕ)). word.now))) ∙ sym (nothing_named (texts words))

-- whether words name ports, test by test

pub wrong_pairs : (ports : Ports) (words : List (Bor (List ℕ))) (pairs : Bool) → pairs ≡ list_all (λ (word : Bor (List ℕ)). is_pair word.now) words → pairs ≡ false → false ≡ names_ports ports (texts words)
unfolding names_ports
wrong_pairs ports words pairs p f =
    let e : list_all is_pair (texts words) ≡ false = sym (all_pairs words) ∙ sym p ∙ f in
    rw e refl

pub wrong_ports : (ports : Ports) (words : List (Bor (List ℕ))) (pairs known : Bool) → pairs ≡ list_all (λ (word : Bor (List ℕ)). is_pair word.now) words → pairs ≡ true
    → known ≡ list_all (λ (word : Bor (List ℕ)). has ports.inputs (pin_in word.now) || has ports.outputs (pin_in word.now)) words → known ≡ false → false ≡ names_ports ports (texts words)
unfolding names_ports
wrong_ports ports words pairs known p t k f =
    let e : list_all is_pair (texts words) ≡ true = sym (all_pairs words) ∙ sym p ∙ t in
    let g : list_all (has (ports.inputs ++ ports.outputs)) (pins_of (texts words)) ≡ false = sym (all_ports ports words) ∙ sym k ∙ f in
    rw (e, g) refl

pins_count : (words : List (Bor (List ℕ))) → length (pins_of (texts words)) ≡ length words
pins_count words = length-map (texts words) pin_in ∙ length-map words (λ (word : Bor (List ℕ)). word.now)

count_by : (words : List (Bor (List ℕ))) (set : List (List ℕ)) → set ≡ each_once (pins_of (texts words)) → (length set == length words) ≡ all_different (pins_of (texts words))
count_by words set s =
    ap (λ (names : List (List ℕ)). length names == length words) s
    ∙ ap (λ (n : ℕ). length (each_once (pins_of (texts words))) == n) (sym (pins_count words)) ∙ different_by (pins_of (texts words))

pub wrong_count : (ports : Ports) (words : List (Bor (List ℕ))) (set : List (List ℕ)) (pairs known many : Bool) → pairs ≡ list_all (λ (word : Bor (List ℕ)). is_pair word.now) words → pairs ≡ true
    → known ≡ list_all (λ (word : Bor (List ℕ)). has ports.inputs (pin_in word.now) || has ports.outputs (pin_in word.now)) words → known ≡ true
    → set ≡ each_once (pins_of (texts words)) → many ≡ (length set == length words) → many ≡ false → false ≡ names_ports ports (texts words)
unfolding names_ports
wrong_count ports words set pairs known many p t k u s m f =
    let e : list_all is_pair (texts words) ≡ true = sym (all_pairs words) ∙ sym p ∙ t in
    let g : list_all (has (ports.inputs ++ ports.outputs)) (pins_of (texts words)) ≡ true = sym (all_ports ports words) ∙ sym k ∙ u in
    let count : all_different (pins_of (texts words)) ≡ false = sym (count_by words set s) ∙ sym m ∙ f in
    rw (e, g, count) refl

pub named_by : (ports : Ports) (words held : List (Bor (List ℕ))) (set : List (List ℕ)) (pairs known many : Bool) → pairs ≡ list_all (λ (word : Bor (List ℕ)). is_pair word.now) words → pairs ≡ true
    → known ≡ list_all (λ (word : Bor (List ℕ)). has ports.inputs (pin_in word.now) || has ports.outputs (pin_in word.now)) words → known ≡ true
    → set ≡ each_once (pins_of (texts words)) → many ≡ (length set == length words) → many ≡ true → texts held ≡ ports.inputs
    → list_all (λ (word : Bor (List ℕ)). has set word.now) held ≡ names_ports ports (texts words)
unfolding names_ports
named_by ports words held set pairs known many p t k u s m f h =
    let e : list_all is_pair (texts words) ≡ true = sym (all_pairs words) ∙ sym p ∙ t in
    let g : list_all (has (ports.inputs ++ ports.outputs)) (pins_of (texts words)) ≡ true = sym (all_ports ports words) ∙ sym k ∙ u in
    let count : all_different (pins_of (texts words)) ≡ true = sym (count_by words set s) ∙ sym m ∙ f in
    let all : list_all (λ (word : Bor (List ℕ)). has set word.now) held ≡ list_all (has (pins_of (texts words))) ports.inputs =
    all_held set held ∙ ap (list_all (has set)) h ∙ all_same (has set) (has (pins_of (texts words))) (λ name. ap (λ (names : List (List ℕ)). has names name) s ∙ has-each_once (pins_of (texts words)) name) ports.inputs in
    rw (e, g, count, all) refl

-- whether an instance is wrong, by its words

pub wrong_by : (models : List (List Entry)) (table : List Ports) (text : List ℕ) (line : Line) (words pairs : List (List ℕ)) (name : List ℕ) (place : Option ℕ) (one : Ports) (named : Bool)
    → is_instance (entry_at text line) ≡ true → words ≡ map (bytes_at text) line.words → pairs ≡ other_words (other_words words) → name ≡ model_of (entry_at text line) → place ≡ index_of models name
    → one ≡ option_map_or (λ (at : ℕ). slice_index_or table at no_ports) place no_ports → named ≡ names_ports one pairs → not named ≡ is_wrong models table (entry_at text line)
wrong_by models table text line words pairs name place one named i w p n f o e =
    rw i (ap not (e ∙ ap (λ (ports : Ports). names_ports ports pairs) (o ∙ ap (λ (found : Option ℕ). option_map_or (λ (at : ℕ). slice_index_or table at no_ports) found no_ports) (f ∙ ap (index_of models) n))
    ∙ ap (names_ports (ports_by models table (model_of (entry_at text line)))) (p ∙ ap (λ (list : List (List ℕ)). other_words (other_words list)) w)))

pub found_none : (table : List Ports) (place : Option ℕ) → None ≡ option_and_then (slice_get table) place → no_ports ≡ option_map_or (λ (at : ℕ). slice_index_or table at no_ports) place no_ports
found_none table None e = refl
found_none table (Some place) e = missing table place e
  where
    missing : (list : List Ports) (at : ℕ) → None ≡ slice_get list at → no_ports ≡ slice_index_or list at no_ports
    missing [] at f = refl
    missing (ports ∷ list) zero f = absurd (let off = f in cc)
    missing (ports ∷ list) (suc at) f = missing list at f

pub found_some : (table : List Ports) (place : Option ℕ) (ports : Ports) → Some ports ≡ option_and_then (slice_get table) place → ports ≡ option_map_or (λ (at : ℕ). slice_index_or table at no_ports) place no_ports
found_some table None ports e = absurd (let off = e in cc)
found_some table (Some place) ports e = there table place e
  where
    there : (list : List Ports) (at : ℕ) → Some ports ≡ slice_get list at → ports ≡ slice_index_or list at no_ports
    there [] at f = absurd (let off = f in cc)
    there (first ∷ list) zero f = let same : ports ≡ first = cc in same
    there (first ∷ list) (suc at) f = there list at f
