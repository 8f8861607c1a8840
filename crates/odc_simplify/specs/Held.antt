-- The functions that an oracle over numbered functions holds, and how they stay.
-- Source: R. E. Bryant, "Graph-Based Algorithms for Boolean Function Manipulation", IEEE
-- Transactions on Computers C-35 (1986), where a function is identified by a vertex of a graph.
use Rattle.std.specs.Prelude.{◌≡◌, ℕ, List, map, refl, Result, Err, IfOk, OnOk}
use Rattle.std.specs.List.{AllByRecursion}
use Rattle.std.proofs.Common.{sym, ◌∙◌, subst}
use Rattle.cover_min.specs.Minimum.{Meaning}
use Rattle.cover_min.specs.Refusals.{Refusals, SameRefusals}
use Rattle.func_core.specs.Trees.{BooleanFunction, Tree, eval, complement}
use Rattle.func_core.specs.Numbers.{Stays}
use Rattle.func_core.specs.declared.functions.Func.{Func}
use Rattle.func_core.specs.declared.functions.FuncFault.{FuncFault}
use Rattle.func_core.specs.declared.functions.FuncFault.TheVariants.{TooBig}
use Rattle.odc_simplify.specs.Seen.{IsOver, meaning_of}
use Rattle.odc_simplify.specs.Products.{refusals_of}
use Rattle.odc_simplify.specs.declared.products.Literal.{Literal}

-- functions of some leaves: where a function must be 1, where it must be 0, and each input's
pub record Held : Type 0 where
  pub leaves : ℕ
  pub on : BooleanFunction
  pub off : BooleanFunction
  pub inputs : List BooleanFunction

-- the function of a number, by the trees of an object
abbrev pub function_of : (ℕ → Tree) → Func → BooleanFunction
function_of tree f = eval (tree f.0)

-- the functions of the inputs whose literals are given by numbers
abbrev pub inputs_of : (ℕ → Tree) → List Literal → List BooleanFunction
inputs_of tree literals = map (λ literal. function_of tree literal.positive) literals

-- the functions of numbers
abbrev pub held_of : (ℕ → Tree) → ℕ → Func → Func → List Literal → Held
held_of tree leaves on off literals = record {
  leaves = leaves;
  on = function_of tree on;
  off = function_of tree off;
  inputs = inputs_of tree literals;
}

-- the functions held, as the meaning of an oracle
abbrev pub held_meaning : Held → Meaning
held_meaning held = meaning_of held.leaves held.inputs held.on held.off

-- the tests that are refused because a function is above a limit
abbrev pub held_refusals : ℕ → Held → Refusals
held_refusals limit held = refusals_of limit held.inputs held.on held.off

-- a number is valid, and its function is the given one
pub record Gives (holds : ℕ → Type 0) (tree : ℕ
    → Tree) (number : Func) (f : BooleanFunction) : Type 0 where
  pub stands : holds number.0
  pub computes : function_of tree number ≡ f

-- a result is the number of a function, unless a function that is built for it is too big; then it
-- is refused
pub record Makes (holds : ℕ → Type 0) (tree : ℕ → Tree) (result : Result Func FuncFault)
    (f : BooleanFunction) (Big : Type 0) : Type 0 where
  pub made : IfOk result (λ number. Gives holds tree number f)
  pub passed : OnOk result (Big → ⊥)
  pub refused : result ≡ Err TooBig → Big

-- both numbers of an input's literals are valid, for a function and for its complement
pub record IsLiteral (holds : ℕ → Type 0) (tree : ℕ → Tree) (literal : Literal) : Type 0 where
  pub positive : holds literal.positive.0
  pub negative : Gives holds tree literal.negative (complement (function_of tree literal.positive))

-- the numbers of all literals are valid
abbrev pub AreLiterals : (ℕ → Type 0) → (ℕ → Tree) → List Literal → Type 0
AreLiterals holds tree literals = AllByRecursion (IsLiteral holds tree) literals

-- all numbers are valid, for functions of the first leaves alone
pub record IsReadyBy (holds : ℕ → Type 0) (tree : ℕ → Tree) (leaves : ℕ) (on off : Func)
    (literals : List Literal) : Type 0 where
  pub on_stands : holds on.0
  pub on_over : IsOver leaves (function_of tree on)
  pub off_stands : holds off.0
  pub off_over : IsOver leaves (function_of tree off)
  pub literals_stand : AreLiterals holds tree literals
  pub inputs_over : AllByRecursion (IsOver leaves) (inputs_of tree literals)

-- it is the same object, whose numbers stay; the same functions are held, and what was ready is
-- still ready
pub record Keeps {N S : Type 0} (holds : S → ℕ → Type 0) (tree : S → ℕ → Tree) (limit : S → ℕ)
    (name later_name : N) (before after : S) (held later : Held)
    (Ready Later : Type 0) : Type 0 where
  pub same_name : later_name ≡ name
  pub numbers : Stays holds tree limit before after
  pub same : later ≡ held
  pub ready : Ready → Later

-- this relation is reflexive, and it is transitive
pub keeps_itself : {N S : Type 0} (holds : S → ℕ → Type 0) (tree : S → ℕ → Tree) (limit : S → ℕ)
    (name : N) (state : S) (held : Held) (Ready : Type 0)
    → Keeps holds tree limit name name state state held held Ready Ready
keeps_itself holds tree limit name state held Ready = record {
  same_name = refl;
  numbers = record { kept = λ n stands. (stands, refl); same = refl };
  same = refl;
  ready = λ ready. ready;
}

pub keeps_through : {N S : Type 0} (holds : S → ℕ → Type 0) (tree : S → ℕ → Tree) (limit : S → ℕ)
    (name middle later : N) (first then last : S) (held between end : Held)
    (Ready Middle Later : Type 0)
    → Keeps holds tree limit name middle first then held between Ready Middle
    → Keeps holds tree limit middle later then last between end Middle Later
    → Keeps holds tree limit name later first last held end Ready Later
keeps_through _ _ _ _ _ _ _ _ _ _ _ _ _ _ _ before after = record {
  same_name = after.same_name ∙ before.same_name;
  numbers = record {
    kept = λ n stands.
        let (there, tree_is) = before.numbers.kept n stands in
        let (here, tree_stays) = after.numbers.kept n there in (here, tree_stays ∙ tree_is);
    same = after.numbers.same ∙ before.numbers.same;
  };
  same = after.same ∙ before.same;
  ready = λ ready. after.ready (before.ready ready);
}

-- the same tests are refused of the same functions, for the same limit
pub refusals_same : (limit later : ℕ) (held end : Held) → later ≡ limit → end ≡ held
    → SameRefusals (held_refusals limit held) (held_refusals later end)
refusals_same limit later held end same_limit same =
    subst (λ (l : ℕ). SameRefusals (held_refusals limit held) (held_refusals l end))
    (sym same_limit)
    (subst (λ (h : Held). SameRefusals (held_refusals limit held) (held_refusals limit h))
    (sym same)
    (record { off = λ row. (λ h. h, λ h. h); own = λ row others. (λ h. h, λ h. h) }))
