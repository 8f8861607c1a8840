-- What the newest operator that waits says of the next state.
use Rattle.std.proofs.Common.{◌≡◌, ℕ, Bool, true, false, Option, Some, None, List, [], ◌∷◌, ◌++◌, drop, get_or, length, ◌==◌, ◌<◌, ◌≤◌, ◌+◌, refl, sym, ◌∙◌, ap, arith, if◌then◌else◌}
use Rattle.std.specs.Option.{option_map_or}
use Rattle.std.proofs.lemmas.List.{drop_more, drop_all}
use Rattle.std.proofs.lemmas.Bool.Decides.{nat_tests}
use Rattle.genlib_expr.specs.declared.token.Token.{Token}
use Rattle.genlib_expr.specs.declared.node.Node.{Node}
use Rattle.genlib_expr.specs.declared.node.Node.TheVariants as node
use Rattle.genlib_expr.specs.declared.reading.Operator.{Operator}
use Rattle.genlib_expr.specs.declared.reading.Operator.TheVariants.{Invert, Multiply, Add, Parenthesis}
use Rattle.genlib_expr.specs.Machine.{State, waits_to_invert, waits_to_multiply, waits_to_add, waits_to_close, inverted, multiplied, added, closed, finished, step, run}

pub inverted_more : (nodes : List Node) (waiting : List Operator) → waits_to_invert waiting ≡ true → inverted (nodes ++ node.Not ∷ []) (drop 1 waiting) ≡ inverted nodes waiting
unfolding inverted
inverted_more nodes (Invert ∷ waiting) h = refl
inverted_more nodes (Multiply ∷ waiting) h = absurd (let off = h in cc)
inverted_more nodes (Add ∷ waiting) h = absurd (let off = h in cc)
inverted_more nodes (Parenthesis ∷ waiting) h = absurd (let off = h in cc)
inverted_more nodes [] h = absurd (let off = h in cc)

pub inverted_done : (nodes : List Node) (waiting : List Operator) → waits_to_invert waiting ≡ false → record { nodes = nodes; waiting = waiting; ready = true } ≡ inverted nodes waiting
unfolding inverted
inverted_done nodes (Invert ∷ waiting) h = absurd (let off = h in cc)
inverted_done nodes (Multiply ∷ waiting) h = refl
inverted_done nodes (Add ∷ waiting) h = refl
inverted_done nodes (Parenthesis ∷ waiting) h = refl
inverted_done nodes [] h = refl

pub waiting_less : (waiting : List Operator) → waits_to_invert waiting ≡ true → length (drop 1 waiting) < length waiting
waiting_less (operator ∷ waiting) h = omega arith
waiting_less [] h = absurd (let off = h in cc)

pub finished_by : (nodes : List Node) (waiting : List Operator) → finished nodes waiting ≡ (if length waiting == 0 then Some nodes else None)
unfolding finished
finished_by nodes [] = refl
finished_by nodes (operator ∷ waiting) = let off : (length (operator ∷ waiting) == 0) ≡ false = grind (arith, nat_tests) in rw off refl

-- the tokens from an index on
run_more : (tokens : List Token) (i : ℕ) (state : State) (d : Token) → i < length tokens → run (drop i tokens) state ≡ option_map_or (run (drop (i + 1) tokens)) (step (get_or tokens i d) state) None
unfolding run
run_more tokens i state d inside = rw (drop_more tokens i d inside) refl

pub step_taken : (tokens : List Token) (i : ℕ) (state next : State) (d : Token) (b : Bool) → i < length tokens → step (get_or tokens i d) state ≡ (if b then Some next else None) → b ≡ true → run (drop (i + 1) tokens) next ≡ run (drop i tokens) state
step_taken tokens i state next d b inside e on =
    sym (run_more tokens i state d inside ∙ ap (λ (o : Option State). option_map_or (run (drop (i + 1) tokens)) o None) (e ∙ ap (λ (c : Bool). if c then Some next else None) on))

pub step_refused : (tokens : List Token) (i : ℕ) (state next : State) (d : Token) (b : Bool) → i < length tokens → step (get_or tokens i d) state ≡ (if b then Some next else None) → b ≡ false → None ≡ run (drop i tokens) state
step_refused tokens i state next d b inside e off =
    sym (run_more tokens i state d inside ∙ ap (λ (o : Option State). option_map_or (run (drop (i + 1) tokens)) o None) (e ∙ ap (λ (c : Bool). if c then Some next else None) off))

pub run_done : (tokens : List Token) (i : ℕ) (state : State) → length tokens ≤ i → run (drop i tokens) state ≡ run [] state
run_done tokens i state end = ap (λ (ts : List Token). run ts state) (drop_all i tokens end)

pub multiplied_by : (nodes : List Node) (waiting : List Operator) → multiplied nodes waiting ≡ (if waits_to_multiply waiting then record { nodes = nodes ++ node.And ∷ []; waiting = drop 1 waiting; ready = true } else record { nodes = nodes; waiting = waiting; ready = true })
unfolding multiplied
multiplied_by nodes (Invert ∷ waiting) = refl
multiplied_by nodes (Multiply ∷ waiting) = refl
multiplied_by nodes (Add ∷ waiting) = refl
multiplied_by nodes (Parenthesis ∷ waiting) = refl
multiplied_by nodes [] = refl

pub added_by : (nodes : List Node) (waiting : List Operator) → added nodes waiting ≡ (if waits_to_add waiting then record { nodes = nodes ++ node.Or ∷ []; waiting = drop 1 waiting; ready = true } else record { nodes = nodes; waiting = waiting; ready = true })
unfolding added
added_by nodes (Invert ∷ waiting) = refl
added_by nodes (Multiply ∷ waiting) = refl
added_by nodes (Add ∷ waiting) = refl
added_by nodes (Parenthesis ∷ waiting) = refl
added_by nodes [] = refl

pub closed_by : (nodes : List Node) (waiting : List Operator) → closed nodes waiting ≡ (if waits_to_close waiting then Some (inverted nodes (drop 1 waiting)) else None)
unfolding closed
closed_by nodes (Invert ∷ waiting) = refl
closed_by nodes (Multiply ∷ waiting) = refl
closed_by nodes (Add ∷ waiting) = refl
closed_by nodes (Parenthesis ∷ waiting) = refl
closed_by nodes [] = refl
