-- What the grammar spells is read from the left.
use Rattle.std.proofs.Common.{◌≡◌, ℕ, Bool, true, false, Some, None, List, [], ◌∷◌, ◌++◌, refl, sym, ◌∙◌, ap, append_assoc}
use Rattle.std.specs.Option.{option_map_or}
use Rattle.genlib_expr.specs.declared.token.Token.{Token}
use Rattle.genlib_expr.specs.declared.token.Token.TheVariants as token
use Rattle.genlib_expr.specs.declared.node.Node.{Node}
use Rattle.genlib_expr.specs.declared.node.Node.TheVariants as node
use Rattle.genlib_expr.specs.declared.reading.Operator.{Operator}
use Rattle.genlib_expr.specs.declared.reading.Operator.TheVariants.{Invert, Multiply, Add, Parenthesis}
use Rattle.genlib_expr.specs.Formula.{Formula, constant, pin, complement, product, sum, postfix}
use Rattle.genlib_expr.specs.Grammar.{IsSum, IsProduct, IsFactor, IsPrimary, one_product, plus, one_factor, star, beside, bang, one_primary, quote, one_constant, one_name, parentheses}
use Rattle.genlib_expr.specs.Machine.{State, inverted, multiplied, added, factor_ended, sum_ended, awaiting, with_operand, begin, closed, follow, step, finished, run, start}

-- where a factor, a sum may begin: no operator that binds as tight waits there
inverts : List Operator → Bool
inverts (Invert ∷ os) = true
inverts (Multiply ∷ os) = false
inverts (Add ∷ os) = false
inverts (Parenthesis ∷ os) = false
inverts [] = false

multiplies : List Operator → Bool
multiplies (Invert ∷ os) = true
multiplies (Multiply ∷ os) = true
multiplies (Add ∷ os) = false
multiplies (Parenthesis ∷ os) = false
multiplies [] = false

adds : List Operator → Bool
adds (Invert ∷ os) = true
adds (Multiply ∷ os) = true
adds (Add ∷ os) = true
adds (Parenthesis ∷ os) = false
adds [] = false

abbrev expecting : List Node → List Operator → State
expecting ns os = record { nodes = ns; waiting = os; ready = false }

abbrev behind : List Node → List Operator → State
behind ns os = record { nodes = ns; waiting = os; ready = true }

-- a factor is read in one go
record FactorRuns (ts us : List Token) (e : Formula) : Type 0 where
  runs : (ns : List Node) (os : List Operator) → run ts (expecting ns os) ≡ run us (inverted (ns ++ postfix e) os)

-- a product, a sum is read to a state that gives its nodes where it ends
record Reaches (ts us : List Token) (ns : List Node) (os : List Operator) (end : State → State) (goal : State) : Type 0 where
  nodes : List Node
  waiting : List Operator
  runs : run ts (expecting ns os) ≡ run us (behind nodes waiting)
  ends : end (behind nodes waiting) ≡ goal

record ProductRuns (ts us : List Token) (e : Formula) : Type 0 where
  runs : (ns : List Node) (os : List Operator) → multiplies os ≡ false → Reaches ts us ns os factor_ended (behind (ns ++ postfix e) os)

record SumRuns (ts us : List Token) (e : Formula) : Type 0 where
  runs : (ns : List Node) (os : List Operator) → adds os ≡ false → Reaches ts us ns os sum_ended (behind (ns ++ postfix e) os)

inverted_stays : (ns : List Node) (os : List Operator) → inverts os ≡ false → inverted ns os ≡ behind ns os
unfolding inverted inverts
inverted_stays ns (Invert ∷ os) h = absurd (let no = h in cc)
inverted_stays ns (Multiply ∷ os) h = refl
inverted_stays ns (Add ∷ os) h = refl
inverted_stays ns (Parenthesis ∷ os) h = refl
inverted_stays ns [] h = refl

multiplied_stays : (ns : List Node) (os : List Operator) → multiplies os ≡ false → multiplied ns os ≡ behind ns os
unfolding multiplied multiplies
multiplied_stays ns (Invert ∷ os) h = absurd (let no = h in cc)
multiplied_stays ns (Multiply ∷ os) h = absurd (let no = h in cc)
multiplied_stays ns (Add ∷ os) h = refl
multiplied_stays ns (Parenthesis ∷ os) h = refl
multiplied_stays ns [] h = refl

added_stays : (ns : List Node) (os : List Operator) → adds os ≡ false → added ns os ≡ behind ns os
unfolding added adds
added_stays ns (Invert ∷ os) h = absurd (let no = h in cc)
added_stays ns (Multiply ∷ os) h = absurd (let no = h in cc)
added_stays ns (Add ∷ os) h = absurd (let no = h in cc)
added_stays ns (Parenthesis ∷ os) h = refl
added_stays ns [] h = refl

less_multiplies : (os : List Operator) → multiplies os ≡ false → inverts os ≡ false
unfolding multiplies inverts
less_multiplies (Invert ∷ os) h = h
less_multiplies (Multiply ∷ os) h = refl
less_multiplies (Add ∷ os) h = refl
less_multiplies (Parenthesis ∷ os) h = refl
less_multiplies [] h = refl

less_adds : (os : List Operator) → adds os ≡ false → multiplies os ≡ false
unfolding multiplies adds
less_adds (Invert ∷ os) h = h
less_adds (Multiply ∷ os) h = h
less_adds (Add ∷ os) h = refl
less_adds (Parenthesis ∷ os) h = refl
less_adds [] h = refl

-- `'` after operands to which `!` was applied
quoted_state : (ns : List Node) (os : List Operator) → (ms : List Node) × (qs : List Operator) × (inverted ns os ≡ behind ms qs) × (inverted (ns ++ node.Not ∷ []) os ≡ behind (ms ++ node.Not ∷ []) qs)
unfolding inverted
quoted_state ns (Invert ∷ os) = quoted_state (ns ++ node.Not ∷ []) os
quoted_state ns (Multiply ∷ os) = (ns, Multiply ∷ os, refl, refl)
quoted_state ns (Add ∷ os) = (ns, Add ∷ os, refl, refl)
quoted_state ns (Parenthesis ∷ os) = (ns, Parenthesis ∷ os, refl, refl)
quoted_state ns [] = (ns, [], refl, refl)

bang_runs : {ts us : List Token} {e : Formula} → FactorRuns ts us e → FactorRuns (token.Bang ∷ ts) us (complement e)
unfolding run step begin inverted postfix
bang_runs {ts} {us} {e} f = record {
  runs = λ ns os. f.runs ns (Invert ∷ os) ∙ ap (λ (ms : List Node). run us (inverted ms os)) (append_assoc ns (postfix e) (node.Not ∷ []));
}

quote_runs : {ts us : List Token} {e : Formula} → FactorRuns ts (token.Quote ∷ us) e → FactorRuns ts us (complement e)
unfolding run step follow postfix
quote_runs {ts} {us} {e} f = record {
  runs = λ ns os.
      let q = quoted_state (ns ++ postfix e) os in
      f.runs ns os ∙ ap (run (token.Quote ∷ us)) q.2 ∙ ap (run us) (sym q.3) ∙ ap (λ (ks : List Node). run us (inverted ks os)) (append_assoc ns (postfix e) (node.Not ∷ []));
}

constant_runs : {us : List Token} (bit : Bool) → FactorRuns (token.Constant bit ∷ us) us (constant bit)
unfolding run step begin postfix
constant_runs bit = record { runs = λ ns os. refl }

name_runs : {us : List Token} (place : ℕ) → FactorRuns (token.Name place ∷ us) us (pin place)
unfolding run step begin postfix
name_runs place = record { runs = λ ns os. refl }

close_runs : (us : List Token) (ns ms : List Node) (os qs : List Operator) → sum_ended (behind ms qs) ≡ behind ns (Parenthesis ∷ os) → run (token.Close ∷ us) (behind ms qs) ≡ run us (inverted ns os)
unfolding run step follow closed
close_runs us ns ms os qs h = ap (λ (s : State). option_map_or (run us) (closed s.nodes s.waiting) None) h

parentheses_run : {ts us : List Token} {e : Formula} → SumRuns ts (token.Close ∷ us) e → FactorRuns (token.Open ∷ ts) us e
unfolding run step begin adds
parentheses_run {ts} {us} {e} s = record {
  runs = λ ns os.
      let r = s.runs ns (Parenthesis ∷ os) refl in
      r.runs ∙ close_runs us (ns ++ postfix e) r.nodes os r.waiting r.ends;
}

factor_product : {ts us : List Token} {e : Formula} → FactorRuns ts us e → ProductRuns ts us e
factor_product {ts} {us} {e} f = record {
  runs = λ ns os h. record {
    nodes = ns ++ postfix e;
    waiting = os;
    runs = f.runs ns os ∙ ap (run us) (inverted_stays (ns ++ postfix e) os (less_multiplies os h));
    ends = multiplied_stays (ns ++ postfix e) os h;
  };
}

joined : (ns ms ks : List Node) (last : Node) → ((ns ++ ms) ++ ks) ++ last ∷ [] ≡ ns ++ ((ms ++ ks) ++ last ∷ [])
joined ns ms ks last = simp append_assoc

-- a factor after a product that ends in this state
next_factor : {us vs : List Token} {e : Formula} (ns : List Node) (os : List Operator) (d : Formula) → FactorRuns us vs e → Reaches us vs (ns ++ postfix d) (Multiply ∷ os) factor_ended (behind (ns ++ postfix (product d e)) os)
unfolding multiplied inverted postfix
next_factor {us} {vs} {e} ns os d f = record {
  nodes = (ns ++ postfix d) ++ postfix e;
  waiting = Multiply ∷ os;
  runs = f.runs (ns ++ postfix d) (Multiply ∷ os);
  ends = ap (λ (ms : List Node). behind ms os) (joined ns (postfix d) (postfix e) node.And);
}

star_step : (us : List Token) (ns ms : List Node) (os qs : List Operator) → factor_ended (behind ms qs) ≡ behind ns os → run (token.Star ∷ us) (behind ms qs) ≡ run us (expecting ns (Multiply ∷ os))
unfolding run step follow
star_step us ns ms os qs h = ap (λ (s : State). run us (awaiting s Multiply)) h

star_runs : {ts us vs : List Token} {d e : Formula} → ProductRuns ts (token.Star ∷ us) d → FactorRuns us vs e → ProductRuns ts vs (product d e)
star_runs {ts} {us} {vs} {d} {e} p f = record {
  runs = λ ns os h.
      let first = p.runs ns os h in
      let then : Reaches us vs (ns ++ postfix d) (Multiply ∷ os) factor_ended (behind (ns ++ postfix (product d e)) os) = next_factor ns os d f in
      record {
        nodes = then.nodes;
        waiting = then.waiting;
        runs = first.runs ∙ star_step us (ns ++ postfix d) first.nodes os first.waiting first.ends ∙ then.runs;
        ends = then.ends;
      };
}

-- what begins a factor begins one beside an operand
record Begins (ts : List Token) : Type 0 where
  same : (ns ms : List Node) (os qs : List Operator) → factor_ended (behind ms qs) ≡ behind ns os → run ts (behind ms qs) ≡ run ts (expecting ns (Multiply ∷ os))

begins_bang : (ts : List Token) → Begins (token.Bang ∷ ts)
unfolding run step begin follow
begins_bang ts = record { same = λ ns ms os qs h. ap (λ (s : State). run ts (awaiting (awaiting s Multiply) Invert)) h }

begins_open : (ts : List Token) → Begins (token.Open ∷ ts)
unfolding run step begin follow
begins_open ts = record { same = λ ns ms os qs h. ap (λ (s : State). run ts (awaiting (awaiting s Multiply) Parenthesis)) h }

begins_constant : (ts : List Token) (bit : Bool) → Begins (token.Constant bit ∷ ts)
unfolding run step begin follow
begins_constant ts bit = record { same = λ ns ms os qs h. ap (λ (s : State). run ts (with_operand (awaiting s Multiply) (node.Constant bit))) h }

begins_name : (ts : List Token) (place : ℕ) → Begins (token.Name place ∷ ts)
unfolding run step begin follow
begins_name ts place = record { same = λ ns ms os qs h. ap (λ (s : State). run ts (with_operand (awaiting s Multiply) (node.Pin place))) h }

mutual
  factor_begins : {ts us : List Token} {e : Formula} → IsFactor ts us e → Begins ts
  factor_begins (bang {ts = ts} f) = begins_bang ts
  factor_begins (one_primary p) = primary_begins p

  primary_begins : {ts us : List Token} {e : Formula} → IsPrimary ts us e → Begins ts
  primary_begins (quote p) = primary_begins p
  primary_begins (one_constant {us = us} bit) = begins_constant us bit
  primary_begins (one_name {us = us} place) = begins_name us place
  primary_begins (parentheses {ts = ts} s) = begins_open ts

beside_runs : {ts us vs : List Token} {d e : Formula} → Begins us → ProductRuns ts us d → FactorRuns us vs e → ProductRuns ts vs (product d e)
beside_runs {ts} {us} {vs} {d} {e} b p f = record {
  runs = λ ns os h.
      let first = p.runs ns os h in
      let then : Reaches us vs (ns ++ postfix d) (Multiply ∷ os) factor_ended (behind (ns ++ postfix (product d e)) os) = next_factor ns os d f in
      record {
        nodes = then.nodes;
        waiting = then.waiting;
        runs = first.runs ∙ b.same (ns ++ postfix d) first.nodes os first.waiting first.ends ∙ then.runs;
        ends = then.ends;
      };
}

product_sum : {ts us : List Token} {e : Formula} → ProductRuns ts us e → SumRuns ts us e
product_sum {ts} {us} {e} p = record {
  runs = λ ns os h.
      let r = p.runs ns os (less_adds os h) in
      record {
        nodes = r.nodes;
        waiting = r.waiting;
        runs = r.runs;
        ends = ap (λ (s : State). added s.nodes s.waiting) r.ends ∙ added_stays (ns ++ postfix e) os h;
      };
}

plus_step : (us : List Token) (ns ms : List Node) (os qs : List Operator) → sum_ended (behind ms qs) ≡ behind ns os → run (token.Plus ∷ us) (behind ms qs) ≡ run us (expecting ns (Add ∷ os))
unfolding run step follow
plus_step us ns ms os qs h = ap (λ (s : State). run us (awaiting s Add)) h

plus_runs : {ts us vs : List Token} {d e : Formula} → SumRuns ts (token.Plus ∷ us) d → ProductRuns us vs e → SumRuns ts vs (sum d e)
unfolding added multiplies postfix
plus_runs {ts} {us} {vs} {d} {e} s p = record {
  runs = λ ns os h.
      let first = s.runs ns os h in
      let then = p.runs (ns ++ postfix d) (Add ∷ os) refl in
      record {
        nodes = then.nodes;
        waiting = then.waiting;
        runs = first.runs ∙ plus_step us (ns ++ postfix d) first.nodes os first.waiting first.ends ∙ then.runs;
        ends = ap (λ (s : State). added s.nodes s.waiting) then.ends ∙ ap (λ (ms : List Node). behind ms os) (joined ns (postfix d) (postfix e) node.Or);
      };
}

mutual
  sum_runs : {ts us : List Token} {e : Formula} → IsSum ts us e → SumRuns ts us e
  sum_runs (one_product p) = product_sum (product_runs p)
  sum_runs (plus s p) = plus_runs (sum_runs s) (product_runs p)

  product_runs : {ts us : List Token} {e : Formula} → IsProduct ts us e → ProductRuns ts us e
  product_runs (one_factor f) = factor_product (factor_runs f)
  product_runs (star p f) = star_runs (product_runs p) (factor_runs f)
  product_runs (beside p f) = beside_runs (factor_begins f) (product_runs p) (factor_runs f)

  factor_runs : {ts us : List Token} {e : Formula} → IsFactor ts us e → FactorRuns ts us e
  factor_runs (bang f) = bang_runs (factor_runs f)
  factor_runs (one_primary p) = primary_runs p

  primary_runs : {ts us : List Token} {e : Formula} → IsPrimary ts us e → FactorRuns ts us e
  primary_runs (quote p) = quote_runs (primary_runs p)
  primary_runs (one_constant bit) = constant_runs bit
  primary_runs (one_name place) = name_runs place
  primary_runs (parentheses s) = parentheses_run (sum_runs s)

-- the end of the tokens
end_runs : (ns ms : List Node) (qs : List Operator) → sum_ended (behind ms qs) ≡ behind ns [] → run [] (behind ms qs) ≡ Some ns
unfolding run finished
end_runs ns ms qs h = ap (λ (s : State). finished s.nodes s.waiting) h

pub read_complete : (ts : List Token) (e : Formula) → IsSum ts [] e → run ts start ≡ Some (postfix e)
unfolding adds
read_complete ts e s =
    let whole = sum_runs s in
    let r = whole.runs [] [] refl in
    r.runs ∙ end_runs (postfix e) r.nodes r.waiting r.ends
