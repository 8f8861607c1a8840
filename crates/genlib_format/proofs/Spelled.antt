-- The expression of a text is the one that its tokens spell by the grammar.
use Rattle.std.proofs.Common.{◌≡◌, ℕ, Option, Some, None, option_map, List, refl, sym, ◌∙◌, ap}
use Rattle.std.proofs.Common.{subst}
use Rattle.genlib_expr.specs.declared.node.Node.{Node}
use Rattle.genlib_expr.specs.Formula.{Formula, formula_of, postfix, ArePostfix}
use Rattle.genlib_expr.specs.Grammar.{Spells}
use Rattle.genlib_expr.specs.Machine.{run, start}
use Rattle.genlib_expr.specs.Text.{tokens_of}
use Rattle.genlib_expr.proofs.Complete.{read_complete}
use Rattle.genlib_expr.proofs.Spelling.{read_is_spelled, formula_back}
use Rattle.genlib_format.specs.Spelling.{IsSpelled, spelling_of, formula_in, nodes_in}

none_run : (text : List ℕ) → IsSpelled text None → run (tokens_of text) start ≡ None
none_run text none = by (run (tokens_of text) start) refl
  where
    by : (o : Option (List Node)) → run (tokens_of text) start ≡ o → o ≡ None
    by None e = refl
    by (Some nodes) e =
        absurd (none (formula_of nodes) (read_is_spelled (tokens_of text) nodes (sym e)))

run_by : (text : List ℕ) (o : Option Formula) → IsSpelled text o
    → option_map postfix o ≡ run (tokens_of text) start
run_by text (Some e) spells = sym (read_complete (tokens_of text) e spells)
run_by text None none = sym (none_run text none)

-- what the code computes
pub nodes_run : (text : List ℕ) → nodes_in text ≡ run (tokens_of text) start
unfolding nodes_in formula_in
nodes_run text = run_by text (formula_in text) (spelling_of text).1

pub nodes_read : (text : List ℕ) (nodes : List Node) → ArePostfix nodes
    → Spells (tokens_of text) (formula_of nodes) → nodes_in text ≡ Some nodes
nodes_read text nodes order spells =
    nodes_run text ∙ read_complete (tokens_of text) (formula_of nodes) spells
    ∙ ap (λ (ns : List Node). Some ns) (sym order)

pub none_read : (text : List ℕ) → ((other : Formula) → Spells (tokens_of text) other → ⊥)
    → nodes_in text ≡ None
none_read text none = nodes_run text ∙ none_run text none

pub spelled_is_read : (text : List ℕ) (e : Formula) → Spells (tokens_of text) e
    → nodes_in text ≡ Some (postfix e)
spelled_is_read text e spells = nodes_run text ∙ read_complete (tokens_of text) e spells

pub read_is_formula : (text : List ℕ) (e : Formula) → nodes_in text ≡ Some (postfix e)
    → Spells (tokens_of text) e
read_is_formula text e is =
    subst (Spells (tokens_of text)) (formula_back e)
    (read_is_spelled (tokens_of text) (postfix e) (sym is ∙ nodes_run text))

formula_by : (o : Option Formula) (e : Formula) → option_map postfix o ≡ Some (postfix e)
    → o ≡ Some e
formula_by None e is = absurd (let off = is in cc)
formula_by (Some d) e is =
    let same : postfix d ≡ postfix e = cc in
    ap (λ (f : Formula). Some f) (sym (formula_back d) ∙ ap formula_of same ∙ formula_back e)

pub spelled_is_formula : (text : List ℕ) (e : Formula) → Spells (tokens_of text) e
    → formula_in text ≡ Some e
unfolding nodes_in
spelled_is_formula text e spells = formula_by (formula_in text) e (spelled_is_read text e spells)

pub formula_is_spelled : (text : List ℕ) (e : Formula) → formula_in text ≡ Some e
    → Spells (tokens_of text) e
unfolding formula_in
formula_is_spelled text e is = subst (IsSpelled text) is (spelling_of text).1

pub told_alone : (text : List ℕ) (o : Option Formula) → IsSpelled text o → o ≡ formula_in text
unfolding formula_in
told_alone text (Some e) spells = sym (spelled_is_formula text e spells)
told_alone text None none = by (formula_in text) (spelling_of text).1
  where
    by : (o : Option Formula) → IsSpelled text o → None ≡ o
    by None told = refl
    by (Some e) spells = absurd (none e spells)
