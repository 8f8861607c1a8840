-- What is read from the left is a formula of the grammar.
use Rattle.std.proofs.Common.{◌≡◌, Bool, true, false, Option, Some, None, IfSome, List, [], ◌∷◌, ◌++◌, refl, sym, subst, append_assoc}
use Rattle.std.specs.Option.{option_map_or}
use Rattle.genlib_expr.specs.declared.token.Token.{Token}
use Rattle.genlib_expr.specs.declared.token.Token.TheVariants as token
use Rattle.genlib_expr.specs.declared.node.Node.{Node}
use Rattle.genlib_expr.specs.declared.node.Node.TheVariants as node
use Rattle.genlib_expr.specs.declared.reading.Operator.{Operator}
use Rattle.genlib_expr.specs.declared.reading.Operator.TheVariants.{Invert, Multiply, Add, Parenthesis}
use Rattle.genlib_expr.specs.Formula.{Formula, complement, postfix}
use Rattle.genlib_expr.specs.Grammar.{IsSum, IsProduct, IsFactor, one_product, plus, one_factor, star, beside, bang, one_primary, quote, one_constant, one_name, parentheses}
use Rattle.genlib_expr.specs.Machine.{State, inverted, multiplied, added, factor_ended, sum_ended, awaiting, begin, closed, follow, step, finished, run, start}

-- what has been read from the first token to a position where an operand is to come: a sum may
-- begin there, a product, a factor, or the operand of `!`
mutual
  pub data SumNext (all : List Token) : List Token → List Operator → List Node → Type 0 where
    at_start : SumNext all all [] []
    in_parentheses : {ts : List Token} {os : List Operator} {ns : List Node} → OperandNext all (token.Open ∷ ts) os ns → SumNext all ts (Parenthesis ∷ os) ns

  pub data ProductNext (all : List Token) : List Token → List Operator → List Node → Type 0 where
    first_product : {ts : List Token} {os : List Operator} {ns : List Node} → SumNext all ts os ns → ProductNext all ts os ns
    next_product : {ts us : List Token} {os : List Operator} {ns : List Node} {e : Formula} → SumNext all ts os ns → IsSum ts (token.Plus ∷ us) e → ProductNext all us (Add ∷ os) (ns ++ postfix e)

  pub data FactorNext (all : List Token) : List Token → List Operator → List Node → Type 0 where
    first_factor : {ts : List Token} {os : List Operator} {ns : List Node} → ProductNext all ts os ns → FactorNext all ts os ns
    starred : {ts us : List Token} {os : List Operator} {ns : List Node} {e : Formula} → ProductNext all ts os ns → IsProduct ts (token.Star ∷ us) e → FactorNext all us (Multiply ∷ os) (ns ++ postfix e)
    next_beside : {ts us : List Token} {os : List Operator} {ns : List Node} {e : Formula} → ProductNext all ts os ns → IsProduct ts us e → FactorNext all us (Multiply ∷ os) (ns ++ postfix e)

  pub data OperandNext (all : List Token) : List Token → List Operator → List Node → Type 0 where
    no_bang : {ts : List Token} {os : List Operator} {ns : List Node} → FactorNext all ts os ns → OperandNext all ts os ns
    one_bang : {ts : List Token} {os : List Operator} {ns : List Node} → OperandNext all (token.Bang ∷ ts) os ns → OperandNext all ts (Invert ∷ os) ns

-- what has been read to a position after a factor, a product, a sum
data FactorRead (all us : List Token) (os : List Operator) : List Node → Type 0 where
  factor_read : {ts : List Token} {ns : List Node} {e : Formula} → FactorNext all ts os ns → IsFactor ts us e → FactorRead all us os (ns ++ postfix e)

data ProductRead (all us : List Token) (os : List Operator) : List Node → Type 0 where
  product_read : {ts : List Token} {ns : List Node} {e : Formula} → ProductNext all ts os ns → IsProduct ts us e → ProductRead all us os (ns ++ postfix e)

data SumRead (all us : List Token) (os : List Operator) : List Node → Type 0 where
  sum_read : {ts : List Token} {ns : List Node} {e : Formula} → SumNext all ts os ns → IsSum ts us e → SumRead all us os (ns ++ postfix e)

-- `'` after a factor applies to the whole of it
quoted : {ts us : List Token} {e : Formula} → IsFactor ts (token.Quote ∷ us) e → IsFactor ts us (complement e)
quoted (bang f) = bang (quoted f)
quoted (one_primary p) = one_primary (quote p)

-- what has been read, of a state
Stands : List Token → List Token → State → Type 0
Stands all us state = by state.ready state.waiting state.nodes
  where
    by : Bool → List Operator → List Node → Type 0
    by true os ns = FactorRead all us os ns
    by false os ns = OperandNext all us os ns

inverted_stays : {all ts : List Token} {os : List Operator} {ns : List Node} → FactorNext all ts os ns → (ms : List Node) → inverted ms os ≡ record { nodes = ms; waiting = os; ready = true }
unfolding inverted
inverted_stays (first_factor (first_product at_start)) ms = refl
inverted_stays (first_factor (first_product (in_parentheses o))) ms = refl
inverted_stays (first_factor (next_product s e)) ms = refl
inverted_stays (starred p e) ms = refl
inverted_stays (next_beside p e) ms = refl

multiplied_stays : {all ts : List Token} {os : List Operator} {ns : List Node} → ProductNext all ts os ns → (ms : List Node) → multiplied ms os ≡ record { nodes = ms; waiting = os; ready = true }
unfolding multiplied
multiplied_stays (first_product at_start) ms = refl
multiplied_stays (first_product (in_parentheses o)) ms = refl
multiplied_stays (next_product s e) ms = refl

added_stays : {all ts : List Token} {os : List Operator} {ns : List Node} → SumNext all ts os ns → (ms : List Node) → added ms os ≡ record { nodes = ms; waiting = os; ready = true }
unfolding added
added_stays at_start ms = refl
added_stays (in_parentheses o) ms = refl

-- an operand has been read
operand_done : {all ts us : List Token} {os : List Operator} {ns : List Node} {e : Formula} → OperandNext all ts os ns → IsFactor ts us e → Stands all us (inverted (ns ++ postfix e) os)
unfolding Stands inverted postfix
operand_done {all} {ts} {us} {os} {ns} {e} (no_bang f) r = subst (Stands all us) (sym (inverted_stays f (ns ++ postfix e))) (factor_read f r)
operand_done {all} {ts} {us} {os} {ns} {e} (one_bang {os = o} b) r =
    subst (λ (ms : List Node). Stands all us (inverted ms o)) (sym (append_assoc ns (postfix e) (node.Not ∷ []))) (operand_done b (bang r))

joined : (ns ms ks : List Node) (last : Node) → ((ns ++ ms) ++ ks) ++ last ∷ [] ≡ ns ++ ((ms ++ ks) ++ last ∷ [])
joined ns ms ks last = simp append_assoc

abbrev ProductStands : List Token → List Token → State → Type 0
ProductStands all us state = ProductRead all us state.waiting state.nodes

abbrev SumStands : List Token → List Token → State → Type 0
SumStands all us state = SumRead all us state.waiting state.nodes

factor_end : {all us : List Token} {os : List Operator} {ns : List Node} → FactorRead all us os ns → ProductStands all us (multiplied ns os)
unfolding multiplied postfix
factor_end {all} {us} {os} (factor_read {ns = ns} {e = e} (first_factor p) f) = subst (ProductStands all us) (sym (multiplied_stays p (ns ++ postfix e))) (product_read p (one_factor f))
factor_end {all} {us} (factor_read {e = e} (starred {os = o} {ns = n} {e = d} p q) f) =
    subst (λ (ms : List Node). ProductRead all us o ms) (sym (joined n (postfix d) (postfix e) node.And)) (product_read p (star q f))
factor_end {all} {us} (factor_read {e = e} (next_beside {os = o} {ns = n} {e = d} p q) f) =
    subst (λ (ms : List Node). ProductRead all us o ms) (sym (joined n (postfix d) (postfix e) node.And)) (product_read p (beside q f))

product_end : {all us : List Token} {os : List Operator} {ns : List Node} → ProductRead all us os ns → SumStands all us (added ns os)
unfolding added postfix
product_end {all} {us} (product_read {ns = ns} {e = e} (first_product p) f) = subst (SumStands all us) (sym (added_stays p (ns ++ postfix e))) (sum_read p (one_product f))
product_end {all} {us} (product_read {e = e} (next_product {os = o} {ns = n} {e = d} p q) f) =
    subst (λ (ms : List Node). SumRead all us o ms) (sym (joined n (postfix d) (postfix e) node.Or)) (sum_read p (plus q f))

sum_end : {all us : List Token} {os : List Operator} {ns : List Node} → FactorRead all us os ns → SumStands all us (sum_ended (record { nodes = ns; waiting = os; ready = true }))
sum_end f = product_end (factor_end f)

begin_stands : {all us : List Token} (t : Token) (state : State) → OperandNext all (t ∷ us) state.waiting state.nodes → IfSome (begin t state) (Stands all us)
unfolding begin Stands postfix
begin_stands (token.Constant bit) state o = operand_done o (one_primary (one_constant bit))
begin_stands (token.Name place) state o = operand_done o (one_primary (one_name place))
begin_stands token.Bang state o = one_bang o
begin_stands token.Open state o = no_bang (first_factor (first_product (in_parentheses o)))
begin_stands token.Quote state o = tt
begin_stands token.Star state o = tt
begin_stands token.Plus state o = tt
begin_stands token.Close state o = tt
begin_stands token.Other state o = tt

quote_stands : {all us : List Token} {os : List Operator} {ns : List Node} → FactorRead all (token.Quote ∷ us) os ns → FactorRead all us os (ns ++ node.Not ∷ [])
unfolding postfix
quote_stands {all} {us} {os} (factor_read {ns = ns} {e = e} n f) = subst (FactorRead all us os) (sym (append_assoc ns (postfix e) (node.Not ∷ []))) (factor_read n (quoted f))

star_stands : {all us : List Token} {os : List Operator} {ns : List Node} → ProductRead all (token.Star ∷ us) os ns → OperandNext all us (Multiply ∷ os) ns
star_stands (product_read n p) = no_bang (starred n p)

beside_stands : {all us : List Token} {os : List Operator} {ns : List Node} → ProductRead all us os ns → OperandNext all us (Multiply ∷ os) ns
beside_stands (product_read n p) = no_bang (next_beside n p)

plus_stands : {all us : List Token} {os : List Operator} {ns : List Node} → SumRead all (token.Plus ∷ us) os ns → OperandNext all us (Add ∷ os) ns
plus_stands (sum_read n p) = no_bang (first_factor (next_product n p))

close_stands : {all us : List Token} {os : List Operator} {ns : List Node} → SumRead all (token.Close ∷ us) os ns → IfSome (closed ns os) (Stands all us)
unfolding closed
close_stands (sum_read at_start p) = tt
close_stands (sum_read (in_parentheses o) p) = operand_done o (one_primary (parentheses p))

follow_stands : {all us : List Token} (t : Token) (state : State) → FactorRead all (t ∷ us) state.waiting state.nodes → IfSome (follow t state) (Stands all us)
unfolding follow Stands
follow_stands token.Quote state f = quote_stands f
follow_stands token.Star state f = star_stands (factor_end f)
follow_stands token.Plus state f = plus_stands (sum_end f)
follow_stands token.Close state f = close_stands (sum_end f)
follow_stands (token.Constant bit) state f = begin_stands (token.Constant bit) (awaiting (factor_ended state) Multiply) (beside_stands (factor_end f))
follow_stands (token.Name place) state f = begin_stands (token.Name place) (awaiting (factor_ended state) Multiply) (beside_stands (factor_end f))
follow_stands token.Bang state f = begin_stands token.Bang (awaiting (factor_ended state) Multiply) (beside_stands (factor_end f))
follow_stands token.Open state f = begin_stands token.Open (awaiting (factor_ended state) Multiply) (beside_stands (factor_end f))
follow_stands token.Other state f = tt

step_stands : (all us : List Token) (t : Token) (state : State) → Stands all (t ∷ us) state → IfSome (step t state) (Stands all us)
unfolding step Stands
step_stands all us t state h = by state.ready state.waiting state.nodes h
  where
    by : (ready : Bool) (os : List Operator) (ns : List Node) → Stands all (t ∷ us) (record { nodes = ns; waiting = os; ready = ready }) → IfSome (step t (record { nodes = ns; waiting = os; ready = ready })) (Stands all us)
    by true os ns h = follow_stands t (record { nodes = ns; waiting = os; ready = true }) h
    by false os ns h = begin_stands t (record { nodes = ns; waiting = os; ready = false }) h

-- nodes of a formula that the tokens spell
abbrev pub AreOf : List Token → List Node → Type 0
AreOf all nodes = (e : Formula) × IsSum all [] e × (nodes ≡ postfix e)

finish_sound : {all : List Token} {os : List Operator} {ns : List Node} → SumRead all [] os ns → IfSome (finished ns os) (AreOf all)
unfolding finished
finish_sound (sum_read {e = e} at_start p) = (e, p, refl)
finish_sound (sum_read (in_parentheses o) p) = tt

run_sound : (all : List Token) (ts : List Token) (state : State) → Stands all ts state → IfSome (run ts state) (AreOf all)
unfolding run Stands
run_sound all [] state h = by state.ready state.waiting state.nodes h
  where
    by : (ready : Bool) (os : List Operator) (ns : List Node) → Stands all [] (record { nodes = ns; waiting = os; ready = ready }) → IfSome (run [] (record { nodes = ns; waiting = os; ready = ready })) (AreOf all)
    by true os ns h = finish_sound (sum_end h)
    by false os ns h = tt
run_sound all (t ∷ ts) state h = by (step t state) (step_stands all ts t state h) (λ next k. run_sound all ts next k)
  where
    by : (o : Option State) → IfSome o (Stands all ts) → ((next : State) → Stands all ts next → IfSome (run ts next) (AreOf all)) → IfSome (option_map_or (run ts) o None) (AreOf all)
    by None h rest = tt
    by (Some next) h rest = rest next h

pub read_sound : (ts : List Token) → IfSome (run ts start) (AreOf ts)
unfolding Stands
read_sound ts = run_sound ts ts start (no_bang (first_factor (first_product at_start)))
