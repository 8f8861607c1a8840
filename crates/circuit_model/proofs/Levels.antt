-- The bits of all signals, level by level, are the values of the signals.
use Rattle.std.specs.Prelude.{◌≡◌, ℕ, zero, suc, ◌+◌, ◌<◌, ◌≤◌, Bool, true, false, ◌&&◌, Option, Some, None, List, [], ◌∷◌, ◌++◌, map, length, bytes_eq, ◌==◌, ◌||◌, if◌then◌else◌}
use Rattle.std.specs.List.{list_all, AllByRecursion}
use Rattle.std.proofs.lemmas.Slice.Eq.{bytes_eq-Decides}
use Rattle.std.specs.Option.{option_or}
use Rattle.std.proofs.Common.{refl, sym, subst, ◌∙◌, ap, arith, eqb-true, eq-eqb, get_or, drop, append_assoc}
use Rattle.std.proofs.lemmas.List.{drop_more, drop_all, length-map}
use Rattle.sis_base.specs.Rows.{agrees, matches, some_matches}
use Rattle.circuit_model.specs.Values.{literal_of, table_value}
use Rattle.circuit_model.specs.Runs.{run, next_state, outputs_at, IsInputRow}
use Rattle.circuit_model.specs.Levels.{place_from, place_in, bit_at, level_of}
use Rattle.circuit_model.specs.Simulation.{Fits}
use Rattle.circuit_model.specs.declared.circuit.Tri.{Tri}
use Rattle.circuit_model.specs.declared.circuit.Tri.TheVariants.{Zero}
use Rattle.circuit_model.specs.declared.circuit.Table.{Table}
use Rattle.circuit_model.specs.declared.circuit.Circuit.{Circuit}

-- rows

pub no_point : (row : List (Option Bool)) → matches row [] ≡ true
unfolding matches
no_point [] = refl
no_point (place ∷ row) = refl

pub row_short : (row : List Tri) (places : List (Option ℕ)) (bits : List Bool) (i : ℕ) → length places ≤ i
    → matches (map literal_of (drop i row)) (map (bit_at bits) (drop i places)) ≡ true
row_short row places bits i h = rw (drop_all i places h) (no_point (map literal_of (drop i row)))

pub row_done : (row : List Tri) (places : List (Option ℕ)) (bits : List Bool) (i : ℕ) → length row ≤ i
    → matches (map literal_of (drop i row)) (map (bit_at bits) (drop i places)) ≡ true
unfolding matches
row_done row places bits i h = rw (drop_all i row h) refl

pub row_more : (row : List Tri) (places : List (Option ℕ)) (bits : List Bool) (i : ℕ) (agree bit : Bool) → i < length row → i < length places
    → bit ≡ bit_at bits (get_or places i None) → agree ≡ agrees (literal_of (get_or row i Zero)) bit
    → matches (map literal_of (drop i row)) (map (bit_at bits) (drop i places))
    ≡ (agree && matches (map literal_of (drop (i + 1) row)) (map (bit_at bits) (drop (i + 1) places)))
unfolding matches
row_more row places bits i agree bit h k b a = rw (drop_more row i Zero h, drop_more places i None k, a, b) refl

pub rows_more : (rows : List (List Tri)) (point : List Bool) (i : ℕ) (row seen : List Tri) (matched : Bool) → i < length rows → row ≡ get_or rows i row → seen ≡ row
    → matched ≡ matches (map literal_of seen) point
    → some_matches (map (map literal_of) (drop i rows)) point ≡ (matched || some_matches (map (map literal_of) (drop (i + 1) rows)) point)
unfolding some_matches
rows_more rows point i row seen matched h e s m = rw (drop_more rows i row h, ← e, m, s) refl

pub rows_done : (rows : List (List Tri)) (point : List Bool) (i : ℕ) → length rows ≤ i → some_matches (map (map literal_of) (drop i rows)) point ≡ false
unfolding some_matches
rows_done rows point i h = rw (drop_all i rows h) refl

-- levels

pub level_more : (tables : List Table) (reads : List (List (Option ℕ))) (bits : List Bool) (i : ℕ) (table : Table) (places : List (Option ℕ)) (bit : Bool)
    → i < length tables → i < length reads → table ≡ get_or tables i table → places ≡ get_or reads i places → bit ≡ table_value table (map (bit_at bits) places)
    → level_of (drop i tables) (drop i reads) bits ≡ bit ∷ level_of (drop (i + 1) tables) (drop (i + 1) reads) bits
unfolding level_of
level_more tables reads bits i table places bit h k e d v = rw (drop_more tables i table h, drop_more reads i places k, ← e, ← d, v) refl

pub level_step : (tables : List Table) (reads : List (List (Option ℕ))) (bits made new all : List Bool) (i : ℕ) (table : Table) (places seen : List (Option ℕ)) (bit : Bool)
    → i < length tables → i < length reads → table ≡ get_or tables i table → places ≡ get_or reads i places → seen ≡ places
    → bit ≡ table_value table (map (bit_at bits) seen) → new ≡ made ++ bit ∷ []
    → made ++ level_of (drop i tables) (drop i reads) bits ≡ all
    → new ++ level_of (drop (i + 1) tables) (drop (i + 1) reads) bits ≡ all
level_step tables reads bits made new all i table places seen bit h k e d s v n before =
    let value : bit ≡ table_value table (map (bit_at bits) places) = v ∙ ap (λ (read : List (Option ℕ)). table_value table (map (bit_at bits) read)) s in
    let rest : List Bool = level_of (drop (i + 1) tables) (drop (i + 1) reads) bits in
    ap (λ (list : List Bool). list ++ rest) n
    ∙ (append_assoc made (bit ∷ []) rest
    ∙ (ap (λ (list : List Bool). made ++ list) (sym (level_more tables reads bits i table places bit h k e d value)) ∙ before))

pub level_done : (tables : List Table) (reads : List (List (Option ℕ))) (bits : List Bool) (i : ℕ) → length tables ≤ i
    → level_of (drop i tables) (drop i reads) bits ≡ []
unfolding level_of
level_done tables reads bits i h = rw (drop_all i tables h) refl

-- the index of names

place_behind : (start : ℕ) (names : List (List ℕ)) (last name : List ℕ)
    → place_from start (names ++ last ∷ []) name ≡ option_or (place_from start names name) (if bytes_eq name last then Some (start + length names) else None)
unfolding place_from
place_behind start [] last name =
    let e : start + length {A = List ℕ} [] ≡ start = omega arith in rw e refl
place_behind start (first ∷ names) last name = cases (bytes_eq name first) (place_behind (suc start) names last name)
  where
    cases : (t : Bool) → place_from (suc start) (names ++ last ∷ []) name ≡ option_or (place_from (suc start) names name) (if bytes_eq name last then Some (suc start + length names) else None)
        → (if t then Some start else place_from (suc start) (names ++ last ∷ []) name)
        ≡ option_or (if t then Some start else place_from (suc start) names name) (if bytes_eq name last then Some (start + length (first ∷ names)) else None)
    cases true rest = refl
    cases false rest = let e : start + length (first ∷ names) ≡ suc start + length names = omega arith in rw e rest

-- a name is added in front of those of the index
pub index_more : (left : List (List ℕ)) (last : List ℕ) (old new : List ℕ → Option ℕ) (all : List (List ℕ))
    → ((name : List ℕ) → option_or (place_in (left ++ last ∷ []) name) (old name) ≡ place_in all name)
    → ((name : List ℕ) → new name ≡ (if bytes_eq last name then Some (length left) else old name))
    → (name : List ℕ) → option_or (place_in left name) (new name) ≡ place_in all name
unfolding place_in
index_more left last old new all before put name =
    let e : bytes_eq last name ≡ bytes_eq name last = same (bytes_eq last name) refl in
    rw (put name, e) (join (place_from 0 left name) (bytes_eq name last) ∙ (ap (λ (place : Option ℕ). option_or place (old name)) (sym (place_behind 0 left last name)) ∙ before name))
  where
    same : (t : Bool) → bytes_eq last name ≡ t → t ≡ bytes_eq name last
    same true e = sym ((bytes_eq-Decides name last).1 (sym ((bytes_eq-Decides last name).0 e)))
    same false e = back (bytes_eq name last) refl
      where
        back : (u : Bool) → bytes_eq name last ≡ u → false ≡ u
        back true d = absurd (let other = (bytes_eq-Decides last name).1 (sym ((bytes_eq-Decides name last).0 d)) in cc)
        back false d = refl

    join : (place : Option ℕ) (t : Bool) → option_or place (if t then Some (length left) else old name)
        ≡ option_or (option_or place (if t then Some (0 + length left) else None)) (old name)
    join None true = ap Some (omega arith)
    join None false = refl
    join (Some found) t = refl

nowhere : (name : List ℕ) → place_in [] name ≡ None
unfolding place_in place_from
nowhere name = refl

pub index_first : (place : Option ℕ) → option_or place None ≡ place
index_first None = refl
index_first (Some place) = refl

pub index_last : (index : List ℕ → Option ℕ) (left all : List (List ℕ)) → left ≡ []
    → ((name : List ℕ) → option_or (place_in left name) (index name) ≡ place_in all name) → (name : List ℕ) → index name ≡ place_in all name
index_last index left all e h name = by left e (h name)
  where
    by : (names : List (List ℕ)) → names ≡ [] → option_or (place_in names name) (index name) ≡ place_in all name → index name ≡ place_in all name
    by names n k = let none : place_in names name ≡ None = rw n (nowhere name) in subst (λ (place : Option ℕ). option_or place (index name) ≡ place_in all name) none k

-- fitting

pub widths_fit : (width : ℕ) (rows : List (List Bool)) → list_all (λ row. length row == width) rows ≡ true → AllByRecursion (λ (row : List Bool). length row ≡ width) rows
widths_fit width [] h = tt
widths_fit width (row ∷ rows) h = cases (length row == width) refl h (λ t. widths_fit width rows t)
  where
    cases : (t : Bool) → (length row == width) ≡ t → (t && list_all (λ other. length other == width) rows) ≡ true
        → (list_all (λ other. length other == width) rows ≡ true → AllByRecursion (λ (other : List Bool). length other ≡ width) rows)
        → (length row ≡ width) × AllByRecursion (λ (other : List Bool). length other ≡ width) rows
    cases true e k rest = (eqb-true (length row) width e, rest k)
    cases false e k rest = absurd (let no = k in cc)

pub fitting_widths : (width : ℕ) (rows : List (List Bool)) → AllByRecursion (λ (row : List Bool). length row ≡ width) rows → list_all (λ row. length row == width) rows ≡ true
fitting_widths width [] h = refl
fitting_widths width (row ∷ rows) h = rw (eq-eqb (length row) width h.0, fitting_widths width rows h.1) refl

pub fit_by : (circuit : Circuit) (start : List Bool) (rows : List (List Bool)) (width : ℕ) (fit : Bool) → length start ≡ length circuit.latches → width ≡ length circuit.inputs
    → fit ≡ list_all (λ row. length row == width) rows
    → (fit ≡ true → Fits circuit start rows) × (Fits circuit start rows → fit ≡ true)
fit_by circuit start rows width fit s w f = (
  λ h. record { latches = s; inputs = subst (λ (n : ℕ). AllByRecursion (λ (row : List Bool). length row ≡ n) rows) w (widths_fit width rows (sym f ∙ h)) },
  λ fits. f ∙ fitting_widths width rows (subst (λ (n : ℕ). AllByRecursion (λ (row : List Bool). length row ≡ n) rows) (sym w) fits.inputs),
)

-- runs

pub run_more : (circuit : Circuit) (state : List Bool) (rows : List (List Bool)) (i : ℕ) (row : List Bool) → i < length rows → row ≡ get_or rows i row
    → run circuit state (drop i rows) ≡ outputs_at circuit state row ∷ run circuit (next_state circuit state row) (drop (i + 1) rows)
unfolding run
run_more circuit state rows i row h e = rw (drop_more rows i row h, ← e) refl

pub run_step : (circuit : Circuit) (state seen next : List Bool) (rows : List (List Bool)) (made new all : List (List Tri)) (i : ℕ) (row read : List Bool) (shown : List Tri)
    → i < length rows → row ≡ get_or rows i row → seen ≡ state → read ≡ row → shown ≡ outputs_at circuit seen read → next ≡ next_state circuit seen read
    → new ≡ made ++ shown ∷ [] → made ++ run circuit state (drop i rows) ≡ all
    → new ++ run circuit next (drop (i + 1) rows) ≡ all
run_step circuit state seen next rows made new all i row read shown h e s r o n a before =
    let here : shown ≡ outputs_at circuit state row = rw (← s, ← r) o in
    let after : next ≡ next_state circuit state row = rw (← s, ← r) n in
    let rest : List (List Tri) = run circuit next (drop (i + 1) rows) in
    let more : run circuit state (drop i rows) ≡ shown ∷ rest = rw (here, after) (run_more circuit state rows i row h e) in
    ap (λ (list : List (List Tri)). list ++ rest) a
    ∙ (append_assoc made (shown ∷ []) rest
    ∙ (ap (λ (list : List (List Tri)). made ++ list) (sym more) ∙ before))

state_fits : (circuit : Circuit) (state row : List Bool) → length (next_state circuit state row) ≡ length circuit.latches
unfolding next_state
state_fits circuit state row = length-map circuit.latches _

pub state_kept : (circuit : Circuit) (state row next : List Bool) → next ≡ next_state circuit state row → length next ≡ length circuit.latches
state_kept circuit state row next n = ap length n ∙ state_fits circuit state row

pub run_done : (circuit : Circuit) (state : List Bool) (rows : List (List Bool)) (i : ℕ) → length rows ≤ i → run circuit state (drop i rows) ≡ []
unfolding run
run_done circuit state rows i h = rw (drop_all i rows h) refl

pub row_fits : (circuit : Circuit) (rows : List (List Bool)) (i : ℕ) (row : List Bool) → AllByRecursion (IsInputRow circuit) rows → i < length rows → row ≡ get_or rows i row → IsInputRow circuit row
row_fits circuit [] i row all h e = absurd (omega arith)
row_fits circuit (first ∷ rows) zero row all h e = ap length e ∙ all.0
row_fits circuit (first ∷ rows) (suc i) row all h e = row_fits circuit rows i row all.1 (omega arith) e
