-- The sizes of models by rounds over their graph.
use Rattle.std.specs.Prelude.{◌≡◌, ℕ, zero, suc, ◌+◌, ◌-◌, ◌<◌, ◌≤◌, ◌++◌, take, Bool, true, false, cond, min, Option, Some, None, List, [], ◌∷◌, map, length, sum_by, count_by, drop, slice_index_or, bytes_eq, nat_lt, if◌then◌else◌}
use Rattle.std.specs.List.{filter, filter_map, cons_option, range_with_len}
use Rattle.std.specs.Option.{option_map_or}
use Rattle.std.proofs.Common.{refl, sym, ◌∙◌, ap, get_or, add-one, arith}
use Rattle.std.proofs.lemmas.List.{length-map, take_more, take_rest, drop_min}
use Rattle.std.specs.List.{drop-map}
use Rattle.std.proofs.lemmas.Bool.{lt-ltb, ltb-true}
use Rattle.std.proofs.lemmas.List.Sums.{sum_by-cons, sum_by-append}
use Rattle.sis_text.specs.Entries.{Entry, entry_at}
use Rattle.sis_text.specs.declared.places.Line.{Line}
use Rattle.circuit_checks.specs.Graphs.{reads_of}
use Rattle.blif_lines.specs.declared.keyword.Keyword.{Keyword}
use Rattle.blif_lines.specs.declared.keyword.Keyword.TheVariants.{Model, Inputs, Outputs, Clock, Names, Latch, Gate, Subckt, StartKiss, DontCare, End, Skipped, Row, Other}
use Rattle.blif_lines.specs.declared.fault.LimitKind.TheVariants as limit
use Rattle.blif_lines.specs.declared.fault.BlifFault.TheVariants.{Limit}
use Rattle.blif_lines.specs.Keyword.{kind_of}
use Rattle.blif_lines.specs.Lines.{when, is_node_kind, nodes_in}
use Rattle.blif_lines.specs.Reader.{model_lines, part_lines, model_name, is_instance_kind}
use Rattle.sis_base.specs.declared.limits.TheConstants.{MAX_NODES}
use Rattle.blif_models.specs.declared.limits.TheConstants.{MAX_DEPTH}
use Rattle.blif_models.specs.Models.{is_instance, model_of, index_of, body_of, instances_in, model_graph, nodes_at}
use Rattle.blif_models.specs.Sizes.{capped, sizes_at, own_size, own_sizes, size_with, next_size, next_sizes, count_fault}
use Rattle.blif_models.proofs.ByIndex.{value_at, by_places, mapped_same, found_at}

-- the lines that count, by the words of the lines
pub counted : (test : Entry → Bool) (text : List ℕ) (lines : List Line) → count_by test (map (entry_at text) lines) ≡ count_by (λ line. test (entry_at text line)) lines
counted test text [] = refl
counted test text (line ∷ lines) =
    sum_by-cons (λ (one : Entry). cond {A = ℕ} (test one) 1 0) (entry_at text line) (map (entry_at text) lines)
    ∙ ap (λ (rest : ℕ). cond (test (entry_at text line)) 1 0 + rest) (counted test text lines)
    ∙ sym (sum_by-cons (λ (one : Line). cond {A = ℕ} (test (entry_at text one)) 1 0) line lines)

-- the body of the model of a name, by its index
pub body_by : (models : List (List Entry)) (name : List ℕ) → body_of models name ≡ model_lines (option_map_or (λ place. slice_index_or models place []) (index_of models name) [])
unfolding body_of
body_by models name = ap model_lines (found_at (λ (model : List Entry). bytes_eq name (model_name model)) models [])

pub no_lines : model_lines [] ≡ []
unfolding model_lines
no_lines = refl

pub no_nodes : (models : List (List Entry)) (depth : ℕ) → nodes_at models depth [] ≡ 0
unfolding nodes_at
no_nodes models zero = refl
no_nodes models (suc depth) = refl

-- a line of an instance is none of a table, a latch or a gate
one_kind : (kind : Keyword) → is_instance_kind kind ≡ true → is_node_kind kind ≡ false
one_kind Model e = refl
one_kind Inputs e = refl
one_kind Outputs e = refl
one_kind Clock e = refl
one_kind Names e = absurd (let off = e in cc)
one_kind Latch e = absurd (let off = e in cc)
one_kind Gate e = absurd (let off = e in cc)
one_kind Subckt e = refl
one_kind StartKiss e = refl
one_kind DontCare e = refl
one_kind End e = refl
one_kind Skipped e = refl
one_kind Row e = refl
one_kind Other e = refl

-- a table of sizes for models that nest less deep than a number
abbrev pub Sized : List (List Entry) → ℕ → List ℕ → Type 0
Sized models depth sizes = (place : ℕ) → slice_index_or sizes place 0 ≡ capped (nodes_at models depth (model_lines (slice_index_or models place [])))

-- the size at an index, if there is one
abbrev size_found : List ℕ → Option ℕ → ℕ
size_found sizes found = option_map_or (λ place. slice_index_or sizes place 0) found 0

sized_found : (models : List (List Entry)) (depth : ℕ) (sizes : List ℕ) → Sized models depth sizes → (found : Option ℕ)
    → size_found sizes found ≡ capped (nodes_at models depth (model_lines (option_map_or (λ place. slice_index_or models place []) found [])))
sized_found models depth sizes sized None = sym (ap (λ lines. capped (nodes_at models depth lines)) no_lines ∙ ap capped (no_nodes models depth))
sized_found models depth sizes sized (Some place) = sized place

sum_found : (f : ℕ → ℕ) (found : Option ℕ) (places : List ℕ) → sum_by f (cons_option found places) ≡ option_map_or f found 0 + sum_by f places
sum_found f None places = omega arith
sum_found f (Some place) places = sum_by-cons f place places

-- the models that lines lead to
abbrev pub led_to : List (List Entry) → List Entry → List ℕ
led_to models lines = filter_map (λ line. index_of models (model_of line)) (filter is_instance lines)

-- what lines add, in order
pub lines_size : (models : List (List Entry)) (depth : ℕ) (sizes : List ℕ) → Sized models depth sizes → (lines : List Entry)
    → capped (nodes_in lines + sum_by (λ place. slice_index_or sizes place 0) (led_to models lines)) ≡ capped (nodes_at models (suc depth) lines)
unfolding nodes_in nodes_at
lines_size models depth sizes sized [] = refl
lines_size models depth sizes sized (line ∷ lines) = by (is_instance line) refl (lines_size models depth sizes sized lines)
  where
    at : ℕ → ℕ
    at = λ place. slice_index_or sizes place 0

    is_node : Entry → Bool
    is_node = λ one. is_node_kind (kind_of one)

    found : Option ℕ
    found = index_of models (model_of line)

    size_of : Entry → ℕ
    size_of = λ one. if is_instance one then nodes_at models depth (body_of models (model_of one)) else (if is_node one then 1 else 0)

    by : (b : Bool) → is_instance line ≡ b
        → capped (count_by is_node lines + sum_by at (led_to models lines)) ≡ capped (sum_by size_of lines)
        → capped (count_by is_node (line ∷ lines) + sum_by at (filter_map (λ one. index_of models (model_of one)) (cond b (line ∷ filter is_instance lines) (filter is_instance lines)))) ≡ capped (sum_by size_of (line ∷ lines))
    by true e rest =
        let count : count_by is_node (line ∷ lines) ≡ 0 + count_by is_node lines = sum_by-cons (λ (one : Entry). cond {A = ℕ} (is_node one) 1 0) line lines ∙ ap (λ (test : Bool). cond {A = ℕ} test 1 0 + count_by is_node lines) (one_kind (kind_of line) e) in
        let places : sum_by at (cons_option found (led_to models lines)) ≡ size_found sizes found + sum_by at (led_to models lines) = sum_found at found (led_to models lines) in
        let sum : sum_by size_of (line ∷ lines) ≡ nodes_at models depth (body_of models (model_of line)) + sum_by size_of lines =
        sum_by-cons size_of line lines ∙ ap (λ (test : Bool). (if test then nodes_at models depth (body_of models (model_of line)) else (if is_node line then 1 else 0)) + sum_by size_of lines) e in
        let size : size_found sizes found ≡ capped (nodes_at models depth (body_of models (model_of line))) =
        sized_found models depth sizes sized found ∙ ap (λ (body : List Entry). capped (nodes_at models depth body)) (sym (body_by models (model_of line))) in
        rw (count, places, sum) (both (count_by is_node lines) (sum_by at (led_to models lines)) (sum_by size_of lines) (size_found sizes found) (nodes_at models depth (body_of models (model_of line))) rest size)
      where
        both : (count places nodes size all : ℕ) → capped (count + places) ≡ capped nodes → size ≡ capped all → capped (0 + count + (size + places)) ≡ capped (all + nodes)
        both count places nodes size all e f = omega (arith, e, f)
    by false e rest =
        let count : count_by is_node (line ∷ lines) ≡ (if is_node line then 1 else 0) + count_by is_node lines = sum_by-cons (λ (one : Entry). cond {A = ℕ} (is_node one) 1 0) line lines in
        let sum : sum_by size_of (line ∷ lines) ≡ (if is_node line then 1 else 0) + sum_by size_of lines =
        sum_by-cons size_of line lines ∙ ap (λ (test : Bool). (if test then nodes_at models depth (body_of models (model_of line)) else (if is_node line then 1 else 0)) + sum_by size_of lines) e in
        rw (count, sum) (both (if is_node line then 1 else 0) (count_by is_node lines) (sum_by at (led_to models lines)) (sum_by size_of lines) rest)
      where
        both : (one count places nodes : ℕ) → capped (count + places) ≡ capped nodes → capped (one + count + places) ≡ capped (one + nodes)
        both one count places nodes e = omega (arith, e)

-- one round

own_at : (models : List (List Entry)) (place : ℕ) → slice_index_or (own_sizes models) place 0 ≡ own_size models place
unfolding own_sizes nodes_in model_lines
own_at models place =
    ap (λ (sizes : List ℕ). slice_index_or sizes place 0) (by_places (λ (model : List Entry). capped (nodes_in (model_lines model))) models [])
    ∙ value_at (λ (model : List Entry). capped (nodes_in (model_lines model))) models place []

dropped : (own places : ℕ) → capped (capped own + places) ≡ capped (own + places)
dropped own places = omega arith

size_next : (models : List (List Entry)) (depth : ℕ) (sizes : List ℕ) → Sized models depth sizes → (place : ℕ)
    → next_size (own_sizes models) (model_graph models) sizes place ≡ capped (nodes_at models (suc depth) (model_lines (slice_index_or models place [])))
unfolding size_with model_graph reads_of instances_in model_lines
size_next models depth sizes sized place =
    ap (λ (own : ℕ). size_with own sizes (reads_of (model_graph models) place)) (own_at models place)
    ∙ ap (size_with (own_size models place) sizes) (value_at (λ (model : List Entry). led_to models (model_lines model)) models place [])
    ∙ dropped (nodes_in (model_lines (slice_index_or models place []))) (sum_by (λ one. slice_index_or sizes one 0) (led_to models (model_lines (slice_index_or models place []))))
    ∙ lines_size models depth sizes sized (model_lines (slice_index_or models place []))

pub next_round : (models : List (List Entry)) (depth : ℕ) (sizes : List ℕ) → Sized models depth sizes → next_sizes (own_sizes models) (model_graph models) sizes ≡ sizes_at models (suc depth)
unfolding next_sizes sizes_at model_graph
next_round models depth sizes sized =
    ap (λ (count : ℕ). map (next_size (own_sizes models) (model_graph models) sizes) (range_with_len 0 count)) (length-map models (λ model. filter_map (λ line. index_of models (model_of line)) (instances_in model)))
    ∙ mapped_same (next_size (own_sizes models) (model_graph models) sizes) (λ place. capped (nodes_at models (suc depth) (model_lines (slice_index_or models place []))))
    (size_next models depth sizes sized) (range_with_len 0 (length models))
    ∙ by_places (λ model. capped (nodes_at models (suc depth) (model_lines model))) models []

pub none_sized : (models : List (List Entry)) → Sized models 0 []
unfolding nodes_at
none_sized models place = refl

pub all_sized : (models : List (List Entry)) (depth : ℕ) → Sized models depth (sizes_at models depth)
unfolding sizes_at
all_sized models depth place =
    ap (slice_index_or (sizes_at models depth) place) (sym none)
    ∙ value_at (λ model. capped (nodes_at models depth (model_lines model))) models place []
  where
    none : capped (nodes_at models depth (model_lines [])) ≡ 0
    none = ap (λ lines. capped (nodes_at models depth lines)) no_lines ∙ ap capped (no_nodes models depth)

-- the loops

pub size_more : (own : ℕ) (sizes places : List ℕ) (i size more : ℕ) → i < length places
    → size ≡ size_with own sizes (take i places) → more ≡ capped (size + slice_index_or sizes (get_or places i 0) 0) → more ≡ size_with own sizes (take (i + 1) places)
unfolding size_with
size_more own sizes places i size more lt e m = m ∙ added (ap (λ (list : List ℕ). sum_by at list) longer ∙ sum_by-append at (take i places) (place ∷ []))
  where
    at : ℕ → ℕ
    at = λ one. slice_index_or sizes one 0

    place : ℕ
    place = get_or places i 0

    longer : take (i + 1) places ≡ take i places ++ place ∷ []
    longer = take_more places i 0 lt

    added : sum_by at (take (i + 1) places) ≡ sum_by at (take i places) + sum_by at (place ∷ []) → capped (size + slice_index_or sizes place 0) ≡ capped (own + sum_by at (take (i + 1) places))
    added f =
        let one : sum_by at (place ∷ []) ≡ 0 + at place = refl in
        let own_size : size ≡ capped (own + sum_by at (take i places)) = e in
        omega (arith, f, one, own_size)

pub size_none : (own : ℕ) (sizes : List ℕ) → capped own ≡ size_with own sizes []
unfolding size_with
size_none own sizes = omega arith

pub first_round : (models : List (List Entry)) (own none made : List ℕ) (graph : List (List ℕ)) → own ≡ own_sizes models → graph ≡ model_graph models → none ≡ []
    → made ≡ next_sizes own graph none → made ≡ sizes_at models (0 + 1)
first_round models own none made graph o g n m = m ∙ rw (o, g, n) (next_round models 0 [] (none_sized models))

pub one_more_round : (models : List (List Entry)) (own sizes made : List ℕ) (graph : List (List ℕ)) (round : ℕ) → own ≡ own_sizes models → graph ≡ model_graph models → sizes ≡ sizes_at models (round + 1)
    → made ≡ next_sizes own graph sizes → made ≡ sizes_at models (round + 1 + 1)
one_more_round models own sizes made graph round o g s m =
    m ∙ rw (o, g, s) (next_round models (round + 1) (sizes_at models (round + 1)) (all_sized models (round + 1)) ∙ ap (sizes_at models) (sym (add-one (round + 1))))

-- the don't-care part

pub part_by : (text : List ℕ) (model : List Entry) (lines body part : List Line) (count : ℕ) → map (entry_at text) lines ≡ model → map (entry_at text) body ≡ model_lines model
    → count ≡ min (length body) (length lines) → part ≡ take (length lines - count) (drop count lines) → map (entry_at text) part ≡ part_lines model
unfolding part_lines
part_by text model lines body part count l b n p =
    ap (map (entry_at text)) (p ∙ take_rest lines count ∙ ap (λ (k : ℕ). drop k lines) n ∙ drop_min (length body) lines)
    ∙ sym (drop-map (entry_at text) (length body) lines)
    ∙ ap (drop (length body)) l
    ∙ ap (λ (k : ℕ). drop k model) (sym (length-map body (entry_at text)) ∙ ap (λ (list : List Entry). length list) b)

-- too many tables, latches and gates

pub too_many : (models : List (List Entry)) (model : List Entry) (number within sum : ℕ) → number ≡ capped (nodes_at models (MAX_DEPTH + 1) (model_lines model)) → within ≡ nodes_in (part_lines model)
    → sum ≡ min (number + within) 18446744073709551615 → 1048575 < sum → Some (Limit limit.Tables 1048576) ≡ count_fault models model
unfolding count_fault
too_many models model number within sum n w s more =
    rw (lt-ltb MAX_NODES (nodes_at models (MAX_DEPTH + 1) (model_lines model) + nodes_in (part_lines model)) (omega (arith, n, w, s, more))) refl

pub not_too_many : (models : List (List Entry)) (model : List Entry) (number within sum : ℕ) → number ≡ capped (nodes_at models (MAX_DEPTH + 1) (model_lines model)) → within ≡ nodes_in (part_lines model)
    → sum ≡ min (number + within) 18446744073709551615 → sum ≤ 1048575 → None ≡ count_fault models model
unfolding count_fault
not_too_many models model number within sum n w s less =
    by (nat_lt MAX_NODES (nodes_at models (MAX_DEPTH + 1) (model_lines model) + nodes_in (part_lines model))) refl
  where
    by : (b : Bool) → nat_lt MAX_NODES (nodes_at models (MAX_DEPTH + 1) (model_lines model) + nodes_in (part_lines model)) ≡ b → None ≡ when b (Limit limit.Tables (MAX_NODES + 1))
    by true e = absurd (let more = ltb-true MAX_NODES (nodes_at models (MAX_DEPTH + 1) (model_lines model) + nodes_in (part_lines model)) e in omega (arith, n, w, s, less, more))
    by false e = refl
