-- Steps of the loops: one more name, code, row, table and latch.
use Rattle.std.proofs.Common.{◌≡◌, ℕ, zero, suc, ◌+◌, ◌-◌, ◌<◌, ◌≤◌, Bool, true, false, not, cond, List, [], ◌∷◌, ◌++◌, map, take, filter, length, get_or, append_assoc, refl, sym, ap, ◌∙◌, arith, if◌then◌else◌, length-append}
use Rattle.std.specs.List.{range_with_len}
use Rattle.std.proofs.lemmas.List.{take_more, take_all, take_at, length-take-le, map-append}
use Rattle.std.proofs.lemmas.List.Elements.{filter-append}
use Rattle.std.proofs.lemmas.List.FromFn.{map-range_with_len_more, filter_of_map_range_with_len_more}
use Rattle.circuit_model.specs.Names.{has}
use Rattle.circuit_model.specs.declared.circuit.Tri.{Tri}
use Rattle.circuit_model.specs.declared.circuit.Table.{Table}
use Rattle.circuit_model.specs.declared.circuit.Latch.{Latch}
use Rattle.circuit_model.specs.declared.machine.Machine.{Machine}
use Rattle.circuit_model.specs.declared.machine.MachineRow.{MachineRow}
use Rattle.state_code.specs.declared.codes.Style.{Style}
use Rattle.state_code.specs.declared.codes.Code.{Code}
use Rattle.state_code.specs.declared.tables.Part.{Part}
use Rattle.state_code.specs.Codes.{code_bit, code_of, codes_from}
use Rattle.state_code.specs.Naming.{numbered, unused, free_names}
use Rattle.state_code.specs.Encoded.{table_of, tables_from, init_of, latches_from}

-- codes

pub bits_more : (style : Style) (state bit : ℕ)
    → code_of style (bit + 1) state ≡ code_of style bit state ++ code_bit style state bit ∷ []
bits_more style state bit = map-range_with_len_more (code_bit style state) 0 bit bit (omega arith)

codes_behind : (style : Style) (width first place : ℕ) (names : List (List ℕ)) (name : List ℕ)
    → first + length names ≡ place
    → codes_from style width first (names ++ name ∷ []) ≡ codes_from style width first names
    ++ record { state = name; bits = code_of style width place } ∷ []
unfolding codes_from
codes_behind style width first place [] name e =
    let here : first ≡ place = omega arith in ap (λ n. codes_from style width n (name ∷ [])) here
codes_behind style width first place (other ∷ names) name e =
    ap (λ (rest : List Code). record { state = other; bits = code_of style width first } ∷ rest)
    (codes_behind style width (first + 1) place names name (omega arith))

pub codes_more : (style : Style) (width place : ℕ) (names : List (List ℕ)) (name : List ℕ)
    → place < length names → name ≡ get_or names place name
    → codes_from style width 0 (take (place + 1) names) ≡ codes_from style width 0
    (take place names) ++ record { state = name; bits = code_of style width place } ∷ []
codes_more style width place names name inside is =
    ap (codes_from style width 0) (take_more names place name inside
    ∙ ap (λ (one : List ℕ). take place names ++ one ∷ []) (sym is))
    ∙ codes_behind style width 0 place (take place names) name (let long =
    length-take-le place names (omega arith) in omega arith)

-- tables

tables_behind : (style : Style) (machine : Machine) (part : Part) (first place : ℕ)
    (names : List (List ℕ)) (name : List ℕ) → first + length names ≡ place
    → tables_from style machine part first (names ++ name ∷ []) ≡ tables_from style machine part
    first names ++ table_of style machine part place name ∷ []
unfolding tables_from
tables_behind style machine part first place [] name e =
    let here : first ≡ place = omega arith in ap (λ n. table_of style machine part n name ∷ []) here
tables_behind style machine part first place (other ∷ names) name e =
    ap (λ (rest : List Table). table_of style machine part first other ∷ rest)
    (tables_behind style machine part (first + 1) place names name (omega arith))

pub tables_more : (style : Style) (machine : Machine) (part : Part) (place : ℕ)
    (names : List (List ℕ)) (name : List ℕ) → place < length names → name ≡ get_or names place name
    → tables_from style machine part 0 (take (place + 1) names) ≡ tables_from style machine part 0
    (take place names) ++ table_of style machine part place name ∷ []
tables_more style machine part place names name inside is =
    ap (tables_from style machine part 0) (take_more names place name inside
    ∙ ap (λ (one : List ℕ). take place names ++ one ∷ []) (sym is))
    ∙ tables_behind style machine part 0 place (take place names) name (let long =
    length-take-le place names (omega arith) in omega arith)

pub tables_none : (style : Style) (machine : Machine) (part : Part) (place : ℕ)
    → tables_from style machine part place [] ≡ []
unfolding tables_from
tables_none style machine part place = refl

pub codes_none : (style : Style) (width : ℕ) → [] ≡ codes_from style width 0 []
unfolding codes_from
codes_none style width = refl

-- latches

latches_behind : (style : Style) (state first bit : ℕ) (inputs outputs : List (List ℕ))
    (input output : List ℕ) → length inputs ≡ length outputs → first + length inputs ≡ bit
    → latches_from style state first (inputs ++ input ∷ []) (outputs ++ output ∷ [])
    ≡ latches_from style state first inputs outputs ++ record {
      input = input;
      output =
          output;
      init = init_of (code_bit style state bit);
    } ∷ []
unfolding latches_from
latches_behind style state first bit [] [] input output long e =
    let here : first ≡ bit =
    omega arith in ap (λ n. record {
      input = input;
      output = output;
      init =
          init_of (code_bit style state n);
    } ∷ []) here
latches_behind style state first bit [] (other ∷ outputs) input output long e = let no : ⊥ =
    omega arith in absurd no
latches_behind style state first bit (one ∷ inputs) [] input output long e = let no : ⊥ =
    omega arith in absurd no
latches_behind style state first bit (one ∷ inputs) (other ∷ outputs) input output long e =
    ap (λ (rest : List Latch). record {
      input = one;
      output = other;
      init =
          init_of (code_bit style state first);
    } ∷ rest)
    (latches_behind style state (first + 1) bit inputs outputs input output (omega arith)
    (omega arith))

pub latches_more : (style : Style) (state bit : ℕ) (inputs outputs : List (List ℕ))
    (input output : List ℕ) → length inputs ≡ length outputs → bit < length inputs
    → input ≡ get_or inputs bit input → output ≡ get_or outputs bit output
    → latches_from style state 0 (take (bit + 1) inputs) (take (bit + 1) outputs)
    ≡ latches_from style state 0 (take bit inputs) (take bit outputs) ++ record {
      input =
          input;
      output = output;
      init = init_of (code_bit style state bit);
    } ∷ []
latches_more style state bit inputs outputs input output long inside one other =
    let some = length-take-le bit inputs (omega arith) in
    let others = length-take-le bit outputs (omega arith) in
    ap (λ (names : List (List ℕ)). latches_from style state 0 names (take (bit + 1) outputs))
    (take_more inputs bit input inside ∙ ap (λ (name : List ℕ). take bit inputs ++ name ∷ [])
    (sym one))
    ∙ (ap (λ (names : List (List ℕ)). latches_from style state 0 (take bit inputs ++ input ∷ [])
    names)
    (take_more outputs bit output (omega arith)
    ∙ ap (λ (name : List ℕ). take bit outputs ++ name ∷ []) (sym other))
    ∙ latches_behind style state 0 bit (take bit inputs) (take bit outputs) input output
    (omega arith) (omega arith))

pub latches_none : (style : Style) (state bit : ℕ) → [] ≡ latches_from style state bit [] []
unfolding latches_from
latches_none style state bit = refl

-- rows

one_kept : (test : MachineRow → Bool) (f : MachineRow → List Tri) (row : MachineRow)
    → map f (filter test (row ∷ [])) ≡ (if test row then f row ∷ [] else [])
one_kept test f row = cases (test row)
  where
    cases : (b : Bool) → map f (cond b (row ∷ []) []) ≡ (if b then f row ∷ [] else [])
    cases true = refl
    cases false = refl

pub rows_more : (test : MachineRow → Bool) (f : MachineRow
    → List Tri) (rows : List MachineRow) (place : ℕ) (row : MachineRow) → place < length rows
    → row ≡ get_or rows place row
    → map f (filter test (take (place + 1) rows)) ≡ map f (filter test (take place rows))
    ++ (if test row then f row ∷ [] else [])
rows_more test f rows place row inside is =
    ap (λ (some : List MachineRow). map f (filter test some)) (take_more rows place row inside
    ∙ ap (λ (one : MachineRow). take place rows ++ one ∷ []) (sym is))
    ∙ (ap (map f) (filter-append test (take place rows) (row ∷ []))
    ∙ (map-append f (filter test (take place rows)) (filter test (row ∷ []))
    ∙ ap (λ (last : List (List Tri)). map f (filter test (take place rows)) ++ last)
    (one_kept test f row)))

-- free names

kept_or_not : (b : Bool) (name : List ℕ)
    → cond (not b) (name ∷ []) [] ≡ (if b then [] else name ∷ [])
kept_or_not true name = refl
kept_or_not false name = refl

pub unused_more : (prefix : List ℕ) (used : List (List ℕ)) (number : ℕ)
    → unused prefix used (number + 1) ≡ unused prefix used number
    ++ (if has used (numbered prefix number) then [] else numbered prefix number ∷ [])
unused_more prefix used number =
    filter_of_map_range_with_len_more (λ name. not (has used name)) (numbered prefix) 0 number
    number (omega arith)
    ∙ ap (λ (last : List (List ℕ)). unused prefix used number ++ last)
    (kept_or_not (has used (numbered prefix number)) (numbered prefix number))

one_at_most : (b : Bool) (name : List ℕ) → length (if b then [] else name ∷ []) ≤ 1
one_at_most true name = omega arith
one_at_most false name = omega arith

pub unused_short : (prefix : List ℕ) (used : List (List ℕ)) (number count : ℕ)
    → length (unused prefix used number) < count → length (unused prefix used (number + 1)) ≤ count
unused_short prefix used number count less =
    let one : List (List ℕ) = if has used (numbered prefix number) then [] else numbered prefix
    number ∷ [] in
    let long : length (unused prefix used (number + 1)) ≡ length
    (unused prefix used number ++ one) = ap length (unused_more prefix used number) in
    let all : length (unused prefix used number ++ one) ≡ length (unused prefix used number)
    + length one = length-append (unused prefix used number) one in
    let few : length one ≤ 1 =
    one_at_most (has used (numbered prefix number)) (numbered prefix number) in
    omega arith

ranges_joined : (f : ℕ → List ℕ) (first count more : ℕ)
    → map f (range_with_len first (count + more)) ≡ map f (range_with_len first count) ++ map f
    (range_with_len (first + count) more)
ranges_joined f first zero more =
    let e : 0 + more ≡ more = omega arith in
    let here : first ≡ first + 0 = omega arith in
    ap (λ n. map f (range_with_len first n)) e ∙ ap (λ n. map f (range_with_len n more)) here
ranges_joined f first (suc count) more =
    let e : first + 1 + count ≡ first + suc count = omega arith in
    let n : suc count + more ≡ suc (count + more) = omega arith in
    ap (λ k. map f (range_with_len first k)) n
    ∙ ap (λ (rest : List (List ℕ)). f first ∷ rest)
    (ranges_joined f (first + 1) count more
    ∙ ap (λ k. map f (range_with_len (first + 1) count) ++ map f (range_with_len k more)) e)

pub free_early : (prefix : List ℕ) (used : List (List ℕ)) (count number : ℕ)
    → number ≤ count + length used → length (unused prefix used number) ≡ count
    → unused prefix used number ≡ free_names prefix used count
unfolding free_names
free_early prefix used count number before full =
    let more : ℕ = count + length used - number in
    let e : number + more ≡ count + length used = omega arith in
    let rest : List (List ℕ) =
    filter (λ name. not (has used name))
    (map (numbered prefix) (range_with_len (0 + number) more)) in
    let joined : unused prefix used (number + more) ≡ unused prefix used number ++ rest =
    ap (filter (λ name. not (has used name))) (ranges_joined (numbered prefix) 0 number more)
    ∙ filter-append (λ name. not (has used name)) (map (numbered prefix) (range_with_len 0 number))
    (map (numbered prefix) (range_with_len (0 + number) more)) in
    sym (ap (λ n. take count (unused prefix used n)) (sym e)
    ∙ (ap (take count) joined ∙ take_at (unused prefix used number) rest count full))

pub free_last : (prefix : List ℕ) (used : List (List ℕ)) (count number : ℕ)
    → number ≡ count + length used → length (unused prefix used number) ≤ count
    → unused prefix used number ≡ free_names prefix used count
unfolding free_names
free_last prefix used count number all few =
    sym (ap (λ n. take count (unused prefix used n)) (sym all)
    ∙ take_all count (unused prefix used number) few)

-- characters

pub characters_more : (input : List Tri) (f : ℕ → Tri) (bit : ℕ)
    → input ++ map f (range_with_len 0 (bit + 1)) ≡ (input ++ map f (range_with_len 0 bit)) ++ f bit
    ∷ []
characters_more input f bit =
    ap (λ (row : List Tri). input ++ row) (map-range_with_len_more f 0 bit bit (omega arith))
    ∙ sym (append_assoc input (map f (range_with_len 0 bit)) (f bit ∷ []))
