-- The nodes that are read are those of the one formula that the tokens spell.
use Rattle.std.proofs.Common.{◌≡◌, Option, Some, None, IfSome, List, [], ◌∷◌, ◌++◌, refl, sym, ◌∙◌, ap, subst}
use Rattle.std.specs.List.{fold}
use Rattle.genlib_expr.specs.declared.token.Token.{Token}
use Rattle.genlib_expr.specs.declared.node.Node.{Node}
use Rattle.genlib_expr.specs.declared.node.Node.TheVariants.{Not, And, Or}
use Rattle.genlib_expr.specs.Formula.{Formula, constant, pin, complement, product, sum, postfix, built, newest, formula_of, ArePostfix}
use Rattle.genlib_expr.specs.Grammar.{Spells}
use Rattle.genlib_expr.specs.Machine.{run, start}
use Rattle.genlib_expr.proofs.Sound.{AreOf, read_sound}
use Rattle.genlib_expr.proofs.Complete.{read_complete}

fold_append : {A B : Type 0} (f : B → A → B) (first : B) (xs ys : List A) → fold f first (xs ++ ys) ≡ fold f (fold f first xs) ys
fold_append f first [] ys = refl
fold_append f first (x ∷ xs) ys = fold_append f (f first x) xs ys

built_back : (e : Formula) (fs : List Formula) → fold built fs (postfix e) ≡ e ∷ fs
unfolding postfix built
built_back (constant bit) fs = refl
built_back (pin place) fs = refl
built_back (complement e) fs = fold_append built fs (postfix e) (Not ∷ []) ∙ ap (λ (gs : List Formula). built gs Not) (built_back e fs)
built_back (product d e) fs =
    fold_append built fs (postfix d ++ postfix e) (And ∷ []) ∙ ap (λ (gs : List Formula). built gs And) (fold_append built fs (postfix d) (postfix e) ∙ ap (λ (gs : List Formula). fold built gs (postfix e)) (built_back d fs) ∙ built_back e (d ∷ fs))
built_back (sum d e) fs =
    fold_append built fs (postfix d ++ postfix e) (Or ∷ []) ∙ ap (λ (gs : List Formula). built gs Or) (fold_append built fs (postfix d) (postfix e) ∙ ap (λ (gs : List Formula). fold built gs (postfix e)) (built_back d fs) ∙ built_back e (d ∷ fs))

pub formula_back : (e : Formula) → formula_of (postfix e) ≡ e
unfolding formula_of
formula_back e = ap newest (built_back e [])

read_of : (ts : List Token) (nodes : List Node) → Some nodes ≡ run ts start → AreOf ts nodes
read_of ts nodes is = subst (λ (o : Option (List Node)). IfSome o (AreOf ts)) (sym is) (read_sound ts)

same_nodes : {ns ms : List Node} → Some ns ≡ Some ms → ns ≡ ms
same_nodes e = cc

pub read_is_postfix : (ts : List Token) (nodes : List Node) → Some nodes ≡ run ts start → ArePostfix nodes
read_is_postfix ts nodes is =
    let (e, spells, same) = read_of ts nodes is in
    same ∙ ap postfix (sym (formula_back e) ∙ ap formula_of (sym same))

pub read_is_spelled : (ts : List Token) (nodes : List Node) → Some nodes ≡ run ts start → Spells ts (formula_of nodes)
read_is_spelled ts nodes is =
    let (e, spells, same) = read_of ts nodes is in
    let back : e ≡ formula_of nodes = sym (formula_back e) ∙ ap formula_of (sym same) in
    subst (Spells ts) back spells

pub read_is_alone : (ts : List Token) (nodes : List Node) → Some nodes ≡ run ts start → (other : Formula) → Spells ts other → other ≡ formula_of nodes
read_is_alone ts nodes is other spells =
    sym (formula_back other) ∙ ap formula_of (same_nodes (sym (read_complete ts other spells) ∙ sym is))

pub none_is_spelled : (ts : List Token) → None ≡ run ts start → (other : Formula) → Spells ts other → ⊥
none_is_spelled ts is other spells = let off = is ∙ read_complete ts other spells in cc
