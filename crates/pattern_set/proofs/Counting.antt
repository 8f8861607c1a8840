-- Constants and pins among the nodes of a formula are those of the formula.
use Rattle.std.proofs.Common.{◌≡◌, ℕ, ◌+◌, ◌||◌, ◌&&◌, not, nat_le, Bool, true, false, List, [], ◌∷◌, ◌++◌, refl, sym, ap, ◌∙◌, arith}
use Rattle.std.specs.List.{list_any, count_by}
use Rattle.std.proofs.lemmas.List.Folds.{list_any-append}
use Rattle.std.proofs.lemmas.List.Sums.{sum_by-append}
use Rattle.std.proofs.Math.Bool.{or-false}
use Rattle.genlib_expr.specs.Formula.{Formula, constant, pin, complement, product, sum, postfix, formula_of, ArePostfix}
use Rattle.genlib_expr.specs.declared.node.Node.{Node}
use Rattle.genlib_expr.specs.declared.node.Node.TheVariants.{Not, And, Or}
use Rattle.pattern_set.specs.Patterns.{has_constant, literal_count, is_used}
use Rattle.pattern_set.specs.Usage.{is_constant_node, is_pin_node}
use Rattle.sis_base.specs.declared.limits.TheConstants.{MAX_LITERALS}

any_of_both : (ns ms : List Node) (last : Node) (a b : Bool) → is_constant_node last ≡ false → list_any is_constant_node ns ≡ a → list_any is_constant_node ms ≡ b → list_any is_constant_node ((ns ++ ms) ++ last ∷ []) ≡ (a || b)
any_of_both ns ms last a b none f g =
    list_any-append is_constant_node (ns ++ ms) (last ∷ [])
    ∙ (ap (λ (c : Bool). list_any is_constant_node (ns ++ ms) || (c || false)) none
    ∙ (or-false (list_any is_constant_node (ns ++ ms))
    ∙ (list_any-append is_constant_node ns ms ∙ (ap (λ (c : Bool). c || list_any is_constant_node ms) f ∙ ap (λ (c : Bool). a || c) g))))

constants : (e : Formula) → list_any is_constant_node (postfix e) ≡ has_constant e
unfolding postfix has_constant
constants (constant bit) = refl
constants (pin place) = refl
constants (complement e) = list_any-append is_constant_node (postfix e) (Not ∷ []) ∙ (or-false (list_any is_constant_node (postfix e)) ∙ constants e)
constants (product d e) = any_of_both (postfix d) (postfix e) And (has_constant d) (has_constant e) refl (constants d) (constants e)
constants (sum d e) = any_of_both (postfix d) (postfix e) Or (has_constant d) (has_constant e) refl (constants d) (constants e)

count_of_both : (ns ms : List Node) → count_by is_pin_node (ns ++ ms) ≡ count_by is_pin_node ns + count_by is_pin_node ms
count_of_both ns ms = sum_by-append _ ns ms

pins : (e : Formula) → count_by is_pin_node (postfix e) ≡ literal_count e
unfolding postfix literal_count
pins (constant bit) = refl
pins (pin place) = refl
pins (complement e) = omega (arith, count_of_both (postfix e) (Not ∷ []), pins e)
pins (product d e) = omega (arith, count_of_both (postfix d ++ postfix e) (And ∷ []), count_of_both (postfix d) (postfix e), pins d, pins e)
pins (sum d e) = omega (arith, count_of_both (postfix d ++ postfix e) (Or ∷ []), count_of_both (postfix d) (postfix e), pins d, pins e)

-- the test on nodes is that on the formula
pub used_nodes : (nodes : List Node) → ArePostfix nodes → (not (list_any is_constant_node nodes) && nat_le (count_by is_pin_node nodes) MAX_LITERALS) ≡ is_used (formula_of nodes)
used_nodes nodes order =
    ap (λ (ns : List Node). not (list_any is_constant_node ns) && nat_le (count_by is_pin_node ns) MAX_LITERALS) order
    ∙ (ap (λ (b : Bool). not b && nat_le (count_by is_pin_node (postfix (formula_of nodes))) MAX_LITERALS) (constants (formula_of nodes))
    ∙ ap (λ (n : ℕ). not (has_constant (formula_of nodes)) && nat_le n MAX_LITERALS) (pins (formula_of nodes)))

pub used_by : (expr nodes : List Node) (constant_there : Bool) (count : ℕ) → nodes ≡ expr → ArePostfix expr → constant_there ≡ list_any is_constant_node nodes → constant_there ≡ false → count ≡ count_by is_pin_node nodes
    → nat_le count MAX_LITERALS ≡ is_used (formula_of expr)
used_by expr nodes constant_there count same order there none counts =
    let absent : not (list_any is_constant_node expr) ≡ true = ap not (sym (there ∙ ap (list_any is_constant_node) same) ∙ none) in
    ap (λ (n : ℕ). nat_le n MAX_LITERALS) (counts ∙ ap (count_by is_pin_node) same)
    ∙ (sym (ap (λ (b : Bool). b && nat_le (count_by is_pin_node expr) MAX_LITERALS) absent) ∙ used_nodes expr order)

pub unused_by : (expr nodes : List Node) (constant_there : Bool) → nodes ≡ expr → ArePostfix expr → constant_there ≡ list_any is_constant_node nodes → constant_there ≡ true → not constant_there ≡ is_used (formula_of expr)
unused_by expr nodes constant_there same order there some =
    let present : not (list_any is_constant_node expr) ≡ false = ap not (sym (there ∙ ap (list_any is_constant_node) same) ∙ some) in
    ap not some ∙ (sym (ap (λ (b : Bool). b && nat_le (count_by is_pin_node expr) MAX_LITERALS) present) ∙ used_nodes expr order)
