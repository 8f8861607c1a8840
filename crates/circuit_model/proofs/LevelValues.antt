-- The bits of all signals, level by level, are the values of the signals.
use Rattle.std.specs.Prelude.{◌≡◌, ℕ, zero, suc, ◌+◌, ◌<◌, ◌-◌, Bool, true, false, ◌&&◌, Option, Some, None, List, [], ◌∷◌, ◌++◌, map, length, bytes_eq, unwrap_or, is_some, find, if◌then◌else◌}
use Rattle.std.specs.Option.{option_or, option_map}
use Rattle.std.proofs.Common.{refl, sym, ◌∙◌, ap, arith, append_assoc, length-append}
use Rattle.std.proofs.Math.Path.{fun_ext}
use Rattle.std.proofs.Math.Seq.{get_or-append_seam}
use Rattle.std.proofs.lemmas.List.{append-nil, length-map}
use Rattle.std.proofs.lemmas.Simd.{map-map}
use Rattle.circuit_model.specs.Values.{table_value, driver, value_to, driven_value, Leaves, signal_value, dont_care_leaves, is_free_under}
use Rattle.circuit_model.specs.Runs.{bit_of, leaves_of, latch_outputs, next_state, outputs_at, output_at, value_in, is_free}
use Rattle.circuit_model.specs.Soundness.{leaf_names, outputs_of}
use Rattle.circuit_model.specs.Levels.{place_from, place_in, bit_at, signal_names, dont_care_names, reads_in, output_places, latch_places, wiring_of, level_of, bits_to, settled_bits, tri_at}
use Rattle.circuit_model.specs.declared.circuit.Table.{Table}
use Rattle.circuit_model.specs.declared.circuit.Latch.{Latch}
use Rattle.circuit_model.specs.declared.circuit.Circuit.{Circuit}
use Rattle.circuit_model.specs.declared.wiring.OutputPlaces.{OutputPlaces}

-- a bit read by its index is the bit of the name; further bits may follow
reads_from : (names : List (List ℕ)) (front bits more : List Bool) (name : List ℕ) → length names ≡ length bits
    → bit_at (front ++ (bits ++ more)) (place_from (length front) names name) ≡ unwrap_or (bit_of names bits name) false
unfolding place_from bit_of
reads_from [] front bits more name e = refl
reads_from (first ∷ names) front [] more name e = absurd (omega arith)
reads_from (first ∷ names) front (bit ∷ bits) more name e =
    cases (bytes_eq name first) (reads_from names (front ++ bit ∷ []) bits more name (omega arith))
  where
    cases : (t : Bool)
        → bit_at ((front ++ bit ∷ []) ++ (bits ++ more)) (place_from (length (front ++ bit ∷ [])) names name) ≡ unwrap_or (bit_of names bits name) false
        → bit_at (front ++ (bit ∷ bits ++ more)) (if t then Some (length front) else place_from (suc (length front)) names name)
        ≡ unwrap_or (if t then Some bit else bit_of names bits name) false
    cases true rest = get_or-append_seam front bit (bits ++ more) false
    cases false rest =
        let n : length (front ++ bit ∷ []) ≡ suc (length front) = length-append front (bit ∷ []) ∙ omega arith in
        let l : (front ++ bit ∷ []) ++ (bits ++ more) ≡ front ++ (bit ∷ bits ++ more) = append_assoc front (bit ∷ []) (bits ++ more) in
        rw (← l, ← n) rest

reads_place : (names : List (List ℕ)) (bits more : List Bool) (name : List ℕ) → length names ≡ length bits
    → bit_at (bits ++ more) (place_in names name) ≡ unwrap_or (bit_of names bits name) false
unfolding place_in
reads_place names bits more name e = reads_from names [] bits more name e

bit_of-append : (names others : List (List ℕ)) (bits more : List Bool) (name : List ℕ) → length names ≡ length bits
    → bit_of (names ++ others) (bits ++ more) name ≡ option_or (bit_of names bits name) (bit_of others more name)
unfolding bit_of
bit_of-append [] others [] more name e = refl
bit_of-append [] others (bit ∷ bits) more name e = absurd (omega arith)
bit_of-append (first ∷ names) others [] more name e = absurd (omega arith)
bit_of-append (first ∷ names) others (bit ∷ bits) more name e =
    cases (bytes_eq name first) (bit_of-append names others bits more name (omega arith))
  where
    cases : (t : Bool) → bit_of (names ++ others) (bits ++ more) name ≡ option_or (bit_of names bits name) (bit_of others more name)
        → (if t then Some bit else bit_of (names ++ others) (bits ++ more) name)
        ≡ option_or (if t then Some bit else bit_of names bits name) (bit_of others more name)
    cases true rest = refl
    cases false rest = rest

-- the bit of a table's output
bit_of-tables : (f : Table → Bool) (tables : List Table) (name : List ℕ) → bit_of (outputs_of tables) (map f tables) name ≡ option_map f (driver tables name)
unfolding bit_of driver
bit_of-tables f [] name = refl
bit_of-tables f (table ∷ tables) name = cases (bytes_eq name table.output) (bit_of-tables f tables name)
  where
    cases : (t : Bool) → bit_of (outputs_of tables) (map f tables) name ≡ option_map f (find (λ (other : Table). bytes_eq name other.output) tables)
        → (if t then Some (f table) else bit_of (outputs_of tables) (map f tables) name)
        ≡ option_map f (if t then Some table else find (λ (other : Table). bytes_eq name other.output) tables)
    cases true rest = refl
    cases false rest = rest

-- what a driven signal has where each table has a bit
driven_bit : (Table → Bool) → Option Table → Bool
driven_bit f driven = unwrap_or (option_map f driven) false

-- the bits of all signals are read by index: a leaf's bit, or the table's bit of a name that is not
-- a leaf
abbrev AreRead : List Table → Leaves → (List ℕ → Option ℕ) → List Bool → List Bool → Type 0
AreRead tables leaves place front back =
    (f : Table → Bool) (name : List ℕ) → bit_at (front ++ (map f tables ++ back)) (place name) ≡ unwrap_or (leaves name) (driven_bit f (driver tables name))

level_is : (place : List ℕ → Option ℕ) (tables : List Table) (bits : List Bool)
    → level_of tables (reads_in place tables) bits ≡ map (λ (table : Table). table_value table (map (λ name. bit_at bits (place name)) table.inputs)) tables
unfolding level_of
level_is place [] bits = refl
level_is place (table ∷ tables) bits =
    let e : map (bit_at bits) (map place table.inputs) ≡ map (λ name. bit_at bits (place name)) table.inputs = map-map (bit_at bits) place table.inputs in
    rw (e, level_is place tables bits) refl

none_driven : (driven : Option Table) → driven_bit (λ (table : Table). false) driven ≡ false
unfolding driven_bit
none_driven None = refl
none_driven (Some table) = refl

driven_is : (value : List ℕ → Bool) (driven : Option Table) → driven_bit (λ (table : Table). table_value table (map value table.inputs)) driven ≡ driven_value driven value
unfolding driven_bit
driven_is value None = refl
driven_is value (Some table) = refl

-- at each depth the bits are the values to that depth
bits_are_values : (tables : List Table) (leaves : Leaves) (place : List ℕ → Option ℕ) (front back : List Bool) → AreRead tables leaves place front back
    → (depth : ℕ) (name : List ℕ) → bit_at (bits_to tables (reads_in place tables) front back depth) (place name) ≡ value_to tables leaves depth name
unfolding bits_to value_to
bits_are_values tables leaves place front back read zero name =
    read (λ (table : Table). false) name ∙ ap (unwrap_or (leaves name)) (none_driven (driver tables name))
bits_are_values tables leaves place front back read (suc depth) name =
    let bits : List Bool = bits_to tables (reads_in place tables) front back depth in
    let same : (λ (other : List ℕ). bit_at bits (place other)) ≡ value_to tables leaves depth = fun_ext (bits_are_values tables leaves place front back read depth) in
    let level : level_of tables (reads_in place tables) bits ≡ map (λ (table : Table). table_value table (map (value_to tables leaves depth) table.inputs)) tables =
    level_is place tables bits ∙ ap (λ (value : List ℕ → Bool). map (λ (table : Table). table_value table (map value table.inputs)) tables) same in
    rw level (read (λ (table : Table). table_value table (map (value_to tables leaves depth) table.inputs)) name
    ∙ ap (unwrap_or (leaves name)) (driven_is (value_to tables leaves depth) (driver tables name)))

-- the bits to a depth are some bit for each table between the others
bits_shape : (tables : List Table) (place : List ℕ → Option ℕ) (front back : List Bool) (depth : ℕ)
    → (f : Table → Bool) × (bits_to tables (reads_in place tables) front back depth ≡ front ++ (map f tables ++ back))
unfolding bits_to
bits_shape tables place front back zero = (λ (table : Table). false, refl)
bits_shape tables place front back (suc depth) =
    let bits : List Bool = bits_to tables (reads_in place tables) front back depth in
    (λ (table : Table). table_value table (map (λ name. bit_at bits (place name)) table.inputs), ap (λ (level : List Bool). front ++ (level ++ back)) (level_is place tables bits))

-- the signals of a circuit

leaf_or_driven : (leaf : Option Bool) (f : Table → Bool) (driven : Option Table)
    → unwrap_or (option_or leaf (option_map f driven)) false ≡ unwrap_or leaf (driven_bit f driven)
unfolding driven_bit
leaf_or_driven None f driven = refl
leaf_or_driven (Some bit) f driven = refl

driven_or_leaf : (leaf : Option Bool) (f : Table → Bool) (driven : Option Table)
    → unwrap_or (option_or (option_map f driven) leaf) false ≡ unwrap_or (if is_some driven then None else leaf) (driven_bit f driven)
unfolding driven_bit
driven_or_leaf leaf f None = refl
driven_or_leaf leaf f (Some table) = refl

leaf_count : (circuit : Circuit) (state row : List Bool) → length state ≡ length circuit.latches → length row ≡ length circuit.inputs
    → length (leaf_names circuit) ≡ length (row ++ state)
leaf_count circuit state row s r =
    length-append circuit.inputs (latch_outputs circuit) ∙ (rw (length-map circuit.latches (λ (latch : Latch). latch.output), ← s, ← r) (sym (length-append row state)))

leaf_bits : (circuit : Circuit) (state row : List Bool) (name : List ℕ) → length row ≡ length circuit.inputs
    → bit_of (leaf_names circuit) (row ++ state) name ≡ leaves_of circuit state row name
unfolding leaves_of
leaf_bits circuit state row name r = bit_of-append circuit.inputs (latch_outputs circuit) row state name (sym r)

signals_read : (circuit : Circuit) (state row : List Bool) → length state ≡ length circuit.latches → length row ≡ length circuit.inputs
    → AreRead circuit.tables (leaves_of circuit state row) (place_in (signal_names circuit)) (row ++ state) []
unfolding signal_names
signals_read circuit state row s r f name =
    let count : length (leaf_names circuit) ≡ length (row ++ state) = leaf_count circuit state row s r in
    let outputs : length (outputs_of circuit.tables) ≡ length (map f circuit.tables) = length-map circuit.tables (λ (table : Table). table.output) ∙ sym (length-map circuit.tables f) in
    let all : length (leaf_names circuit ++ outputs_of circuit.tables) ≡ length ((row ++ state) ++ map f circuit.tables) =
    length-append (leaf_names circuit) (outputs_of circuit.tables) ∙ (rw (count, outputs) (sym (length-append (row ++ state) (map f circuit.tables)))) in
    let found : bit_of (leaf_names circuit ++ outputs_of circuit.tables) ((row ++ state) ++ map f circuit.tables) name
    ≡ option_or (leaves_of circuit state row name) (option_map f (driver circuit.tables name)) =
    bit_of-append (leaf_names circuit) (outputs_of circuit.tables) (row ++ state) (map f circuit.tables) name count
    ∙ (ap (λ (leaf : Option Bool). option_or leaf (bit_of (outputs_of circuit.tables) (map f circuit.tables) name)) (leaf_bits circuit state row name r)
    ∙ ap (option_or (leaves_of circuit state row name)) (bit_of-tables f circuit.tables name)) in
    ap (λ (bits : List Bool). bit_at bits (place_in (leaf_names circuit ++ outputs_of circuit.tables) name)) (sym (append_assoc (row ++ state) (map f circuit.tables) []))
    ∙ (reads_place (leaf_names circuit ++ outputs_of circuit.tables) ((row ++ state) ++ map f circuit.tables) [] name all
    ∙ (ap (λ (bit : Option Bool). unwrap_or bit false) found
    ∙ leaf_or_driven (leaves_of circuit state row name) f (driver circuit.tables name)))

dont_cares_read : (circuit : Circuit) (state row : List Bool) → length state ≡ length circuit.latches → length row ≡ length circuit.inputs
    → AreRead circuit.dont_care (dont_care_leaves circuit.dont_care (leaves_of circuit state row)) (place_in (dont_care_names circuit)) [] (row ++ state)
unfolding dont_care_names dont_care_leaves
dont_cares_read circuit state row s r f name =
    let count : length (leaf_names circuit) ≡ length (row ++ state) = leaf_count circuit state row s r in
    let outputs : length (outputs_of circuit.dont_care) ≡ length (map f circuit.dont_care) = length-map circuit.dont_care (λ (table : Table). table.output) ∙ sym (length-map circuit.dont_care f) in
    let all : length (outputs_of circuit.dont_care ++ leaf_names circuit) ≡ length (map f circuit.dont_care ++ (row ++ state)) =
    length-append (outputs_of circuit.dont_care) (leaf_names circuit) ∙ (rw (count, outputs) (sym (length-append (map f circuit.dont_care) (row ++ state)))) in
    let found : bit_of (outputs_of circuit.dont_care ++ leaf_names circuit) (map f circuit.dont_care ++ (row ++ state)) name
    ≡ option_or (option_map f (driver circuit.dont_care name)) (leaves_of circuit state row name) =
    bit_of-append (outputs_of circuit.dont_care) (leaf_names circuit) (map f circuit.dont_care) (row ++ state) name outputs
    ∙ (ap (λ (bit : Option Bool). option_or bit (bit_of (leaf_names circuit) (row ++ state) name)) (bit_of-tables f circuit.dont_care name)
    ∙ ap (option_or (option_map f (driver circuit.dont_care name))) (leaf_bits circuit state row name r)) in
    ap (λ (bits : List Bool). bit_at bits (place_in (outputs_of circuit.dont_care ++ leaf_names circuit) name)) (sym (append-nil (map f circuit.dont_care ++ (row ++ state))))
    ∙ (reads_place (outputs_of circuit.dont_care ++ leaf_names circuit) (map f circuit.dont_care ++ (row ++ state)) [] name all
    ∙ (ap (λ (bit : Option Bool). unwrap_or bit false) found
    ∙ driven_or_leaf (leaves_of circuit state row name) f (driver circuit.dont_care name)))

-- the bit of a signal, read by its index, is its value
signal_bit : (circuit : Circuit) (state row : List Bool) → length state ≡ length circuit.latches → length row ≡ length circuit.inputs → (name : List ℕ)
    → bit_at (settled_bits circuit.tables (reads_in (place_in (signal_names circuit)) circuit.tables) (row ++ state) []) (place_in (signal_names circuit) name)
    ≡ value_in circuit state row name
unfolding settled_bits value_in signal_value
signal_bit circuit state row s r name =
    bits_are_values circuit.tables (leaves_of circuit state row) (place_in (signal_names circuit)) (row ++ state) [] (signals_read circuit state row s r) (length circuit.tables) name

-- whether an output is free, by the bit of its own don't-care table
free_by : (leaves : Leaves) (part : List Table) (name : List ℕ) (f : Table → Bool) (driven : Option Table) (value : Bool)
    → unwrap_or (if is_some driven then None else leaves name) (driven_bit f driven) ≡ value
    → unwrap_or (option_map f driven) false ≡ (is_some driven && value)
unfolding driven_bit
free_by leaves part name f None value e = refl
free_by leaves part name f (Some table) value e = e

free_bit : (circuit : Circuit) (state row : List Bool) → length state ≡ length circuit.latches → length row ≡ length circuit.inputs → (name : List ℕ)
    → bit_at (settled_bits circuit.dont_care (reads_in (place_in (dont_care_names circuit)) circuit.dont_care) [] (row ++ state)) (place_in (outputs_of circuit.dont_care) name)
    ≡ is_free circuit state row name
unfolding settled_bits is_free is_free_under signal_value dont_care_leaves
free_bit circuit state row s r name =
    let part : List Table = circuit.dont_care in
    let place : List ℕ → Option ℕ = place_in (dont_care_names circuit) in
    let (f, shape) = bits_shape part place [] (row ++ state) (length part) in
    let outputs : length (outputs_of part) ≡ length (map f part) = length-map part (λ (table : Table). table.output) ∙ sym (length-map part f) in
    let value : unwrap_or (dont_care_leaves part (leaves_of circuit state row) name) (driven_bit f (driver part name))
    ≡ value_to part (dont_care_leaves part (leaves_of circuit state row)) (length part) name =
    sym (dont_cares_read circuit state row s r f name)
    ∙ (ap (λ (bits : List Bool). bit_at bits (place name)) (sym shape)
    ∙ bits_are_values part (dont_care_leaves part (leaves_of circuit state row)) place [] (row ++ state) (dont_cares_read circuit state row s r) (length part) name) in
    ap (λ (bits : List Bool). bit_at bits (place_in (outputs_of part) name)) shape
    ∙ (reads_place (outputs_of part) (map f part) (row ++ state) name outputs
    ∙ (ap (λ (bit : Option Bool). unwrap_or bit false) (bit_of-tables f part name)
    ∙ free_by (leaves_of circuit state row) part name f (driver part name) (value_to part (dont_care_leaves part (leaves_of circuit state row)) (length part) name) value))

-- what a step shows, and the state after it

pub outputs_shown : (circuit : Circuit) (state row : List Bool) → length state ≡ length circuit.latches → length row ≡ length circuit.inputs
    → map (tri_at (settled_bits circuit.tables (wiring_of circuit).tables (row ++ state) []) (settled_bits circuit.dont_care (wiring_of circuit).dont_care [] (row ++ state)))
    (wiring_of circuit).outputs
    ≡ outputs_at circuit state row
unfolding wiring_of outputs_at output_at
outputs_shown circuit state row s r = shown circuit.outputs
  where
    shown : (names : List (List ℕ))
        → map (tri_at (settled_bits circuit.tables (wiring_of circuit).tables (row ++ state) []) (settled_bits circuit.dont_care (wiring_of circuit).dont_care [] (row ++ state)))
        (output_places (place_in (signal_names circuit)) (place_in (outputs_of circuit.dont_care)) names)
        ≡ map (output_at circuit state row) names
    shown [] = refl
    shown (name ∷ names) = rw (signal_bit circuit state row s r name, free_bit circuit state row s r name, shown names) refl

pub next_shown : (circuit : Circuit) (state row : List Bool) → length state ≡ length circuit.latches → length row ≡ length circuit.inputs
    → map (bit_at (settled_bits circuit.tables (wiring_of circuit).tables (row ++ state) [])) (wiring_of circuit).latches ≡ next_state circuit state row
unfolding wiring_of next_state
next_shown circuit state row s r = next circuit.latches
  where
    next : (latches : List Latch)
        → map (bit_at (settled_bits circuit.tables (wiring_of circuit).tables (row ++ state) [])) (latch_places (place_in (signal_names circuit)) latches)
        ≡ map (λ (latch : Latch). value_in circuit state row latch.input) latches
    next [] = refl
    next (latch ∷ latches) = rw (signal_bit circuit state row s r latch.input, next latches) refl

-- bits that do not change from one depth to the next stay

pub bits_stay : (tables : List Table) (reads : List (List (Option ℕ))) (front back : List Bool) (depth more : ℕ)
    → bits_to tables reads front back (suc depth) ≡ bits_to tables reads front back depth
    → bits_to tables reads front back (more + depth) ≡ bits_to tables reads front back depth
unfolding bits_to
bits_stay tables reads front back depth zero e = ap (bits_to tables reads front back) (omega arith)
bits_stay tables reads front back depth (suc more) e =
    let n : suc more + depth ≡ suc (more + depth) = omega arith in
    ap (bits_to tables reads front back) n
    ∙ (ap (λ (bits : List Bool). front ++ (level_of tables reads bits ++ back)) (bits_stay tables reads front back depth more e) ∙ e)

pub settled_more : (tables : List Table) (reads : List (List (Option ℕ))) (front back : List Bool) (depth : ℕ) (bits next : List Bool)
    → bits ≡ bits_to tables reads front back depth → next ≡ front ++ (level_of tables reads bits ++ back)
    → next ≡ bits_to tables reads front back (depth + 1)
unfolding bits_to
settled_more tables reads front back depth bits next b n =
    let e : depth + 1 ≡ suc depth = omega arith in
    rw (e, n, b) refl

pub settled_early : (tables : List Table) (reads : List (List (Option ℕ))) (front back : List Bool) (depth : ℕ) (bits next : List Bool) → depth < length tables
    → bits ≡ bits_to tables reads front back depth → next ≡ front ++ (level_of tables reads bits ++ back) → next ≡ bits
    → next ≡ settled_bits tables reads front back
unfolding settled_bits bits_to
settled_early tables reads front back depth bits next h b n e =
    let same : bits_to tables reads front back (suc depth) ≡ bits_to tables reads front back depth =
    ap (λ (old : List Bool). front ++ (level_of tables reads old ++ back)) (sym b) ∙ (sym n ∙ (e ∙ b)) in
    let all : length tables - depth + depth ≡ length tables = omega arith in
    e ∙ (b ∙ (sym (bits_stay tables reads front back depth (length tables - depth) same) ∙ ap (bits_to tables reads front back) all))

pub table_count : (circuit : Circuit) → length (wiring_of circuit).tables ≡ length circuit.tables
unfolding wiring_of
table_count circuit = length-map circuit.tables _

pub dont_care_count : (circuit : Circuit) → length (wiring_of circuit).dont_care ≡ length circuit.dont_care
unfolding wiring_of
dont_care_count circuit = length-map circuit.dont_care _

pub step_shown : (circuit : Circuit) (state row leaves bits free : List Bool) (outputs : List OutputPlaces)
    → length state ≡ length circuit.latches → length row ≡ length circuit.inputs → leaves ≡ row ++ state
    → bits ≡ settled_bits circuit.tables (wiring_of circuit).tables leaves [] → free ≡ settled_bits circuit.dont_care (wiring_of circuit).dont_care [] leaves
    → outputs ≡ (wiring_of circuit).outputs
    → map (tri_at bits free) outputs ≡ outputs_at circuit state row
step_shown circuit state row leaves bits free outputs s r l b f o = rw (o, b, f, l) (outputs_shown circuit state row s r)

pub step_state : (circuit : Circuit) (state row leaves bits : List Bool) (latches : List (Option ℕ))
    → length state ≡ length circuit.latches → length row ≡ length circuit.inputs → leaves ≡ row ++ state
    → bits ≡ settled_bits circuit.tables (wiring_of circuit).tables leaves [] → latches ≡ (wiring_of circuit).latches
    → map (bit_at bits) latches ≡ next_state circuit state row
step_state circuit state row leaves bits latches s r l b o = rw (o, b, l) (next_shown circuit state row s r)
