-- The formula that the text of an expression spells. Source: the genlib format of SIS (UCB/ERL
-- M92/41), whose grammar is `Spells`. It gives a text at most one formula.
use Rattle.std.specs.Prelude.{◌≡◌, ℕ, Option, Some, None, option_map, List, refl}
use Rattle.std.proofs.Common.{sym}
use Rattle.genlib_expr.specs.declared.node.Node.{Node}
use Rattle.genlib_expr.specs.Formula.{Formula, formula_of, postfix}
use Rattle.genlib_expr.specs.Grammar.{Spells}
use Rattle.genlib_expr.specs.Machine.{run, start}
use Rattle.genlib_expr.specs.Text.{tokens_of}
use Rattle.genlib_expr.proofs.Spelling.{read_is_spelled, none_is_spelled}

-- a text spells a formula by the grammar, or it spells none
abbrev pub IsSpelled : List ℕ → Option Formula → Type 0
IsSpelled text (Some e) = Spells (tokens_of text) e
IsSpelled text None = (e : Formula) → Spells (tokens_of text) e → ⊥

-- what a text spells, with the proof that it does; how it is found does not matter
unfoldable pub spelling_of : (text : List ℕ) → (o : Option Formula) × IsSpelled text o
spelling_of text = found (run (tokens_of text) start) refl
  where
    found : (nodes : Option (List Node)) → run (tokens_of text) start ≡ nodes
        → (o : Option Formula) × IsSpelled text o
    found None e = (None, none_is_spelled (tokens_of text) (sym e))
    found (Some nodes) e =
        (Some (formula_of nodes), read_is_spelled (tokens_of text) nodes (sym e))

-- the formula that a text spells; none if it spells none
unfoldable pub formula_in : List ℕ → Option Formula
formula_in text = (spelling_of text).0

-- its nodes in postfix order, as a gate keeps them
unfoldable pub nodes_in : List ℕ → Option (List Node)
nodes_in text = option_map postfix (formula_in text)
