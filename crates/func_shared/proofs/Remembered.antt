-- Answers that are remembered.
use Rattle.std.proofs.Common.{◌≡◌, ℕ, ◌<◌, Bool, true, false, if◌then◌else◌, List, ◌++◌, All, length, take, replicate, nat_lt, slice_index_or, refl, ap, sym, ◌∙◌, subst, arith}
use borrow.Author.Tests.{ltb-true}
use Rattle.std.proofs.lemmas.List.Elements.{All-same, All-append, All-take, All-replicate}
use Rattle.func_core.specs.Trees.{Tree, Zero}
use Rattle.func_shared.specs.Merging.{merged, merged_bit}
use Rattle.func_shared.specs.Answers.{IsAnswer, AreAnswers}
use Rattle.func_core.specs.declared.operation.Operation.TheVariants.{And}
use Rattle.func_shared.specs.declared.vertex.Vertex.{Vertex}
use Rattle.func_shared.specs.declared.cache.Answer.{Answer}
use Rattle.func_shared.specs.declared.cache.Answers.{Answers}
use Rattle.func_shared.proofs.Numbered.{tree_at-zero}

pub same_answers : (vs : List Vertex) (a b : Answers) → a ≡ b → AreAnswers vs b → AreAnswers vs a
same_answers vs a b e are = subst (λ (x : Answers). AreAnswers vs x) (sym e) are

pub read_answer : (vs : List Vertex) (xs ys : List Answer) (place : ℕ) (x d : Answer) → ys ≡ xs →
    All (IsAnswer vs) xs →
    true ≡ nat_lt place (length ys) → x ≡ slice_index_or ys place d → IsAnswer vs x
read_answer vs xs ys place x d e are inside is =
    let f : x ≡ slice_index_or xs place d = is
    ∙ ap (λ (zs : List Answer). slice_index_or zs place d) e in
    let lt : place < length xs = ltb-true place (length xs)
    (ap (λ (zs : List Answer). nat_lt place (length zs)) (sym e) ∙ sym inside) in
    subst (IsAnswer vs) (sym f) (are place d lt)

-- false and false is false
two_zeros : merged And Zero Zero ≡ Zero
unfolding merged merged_bit
two_zeros = refl

pub nothing_right : (vs : List Vertex) → IsAnswer vs
    (record { operation = And; left = 0; right = 0; number = 0 })
nothing_right vs = (
  omega arith,
  omega arith,
  (
    omega arith,
    tree_at-zero vs ∙ sym two_zeros
        ∙ ap (λ (t : Tree). merged And t t) (sym (tree_at-zero vs)),
  ),
)

-- after the room was enlarged
pub resized : (vs : List Vertex) (xs ys : List Answer) (ok : Bool) (n k : ℕ) →
    ys ≡ (if ok then take n xs ++ replicate k
    (record { operation = And; left = 0; right = 0; number = 0 }) else xs) →
    All (IsAnswer vs) xs → All (IsAnswer vs) ys
resized vs xs ys true n k e are =
    All-same (IsAnswer vs) ys _ e
    (All-append (IsAnswer vs) (take n xs) _ (All-take (IsAnswer vs) n xs are)
    (All-replicate (IsAnswer vs) k _ (nothing_right vs)))
resized vs xs ys false n k e are = All-same (IsAnswer vs) ys xs e are
