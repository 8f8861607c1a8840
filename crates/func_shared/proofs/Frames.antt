-- The stack of frames: what a step pushes on it, and that it stays right as the table grows.
use Rattle.std.proofs.Common.{◌≡◌, ℕ, suc, ◌⊎◌, inl, inr, true, List, [], ◌∷◌, ◌++◌, reverse, refl, ap, sym, ◌∙◌, subst, arith}
use Rattle.std.specs.Set.{is_member}
use Rattle.std.proofs.lemmas.List.{reverse-append}
use Rattle.std.proofs.lemmas.List.Elements.{All-weaker}
use Rattle.func_core.specs.Trees.{Tree}
use Rattle.func_core.specs.Sizes.{tree_eq, inner}
use Rattle.func_shared.specs.Vertices.{tree_at, IsNumber, Has, IsTable, Grows}
use Rattle.func_shared.specs.Merging.{joined, merged, SplitsAt}
use Rattle.func_shared.specs.Answers.{AreNumbers, made, IsAnswer, AreAnswers, Joins, pair_of, IsFrame, IsStack}
use Rattle.func_core.specs.declared.operation.Operation.{Operation}
use Rattle.func_shared.specs.declared.vertex.Vertex.{Vertex}
use Rattle.func_shared.specs.declared.cache.Pair.{Pair}
use Rattle.func_shared.specs.declared.cache.Answer.{Answer}
use Rattle.func_shared.specs.declared.cache.Answers.{Answers}
use Rattle.func_shared.specs.declared.answering.Frame.{Frame}
use Rattle.func_shared.specs.declared.answering.Frame.TheVariants.{Low, High}
use Rattle.func_shared.proofs.Merged.{merged_commutes, merged_splits, merged_reduced}
use Rattle.func_shared.proofs.Growing.{kept}
use Rattle.func_shared.proofs.Within.{IsWithin, low_within, high_within}

-- a pair in order has the numbers and the tree of the pair that was asked for
abbrev pub IsTurned : Pair → Pair → Type 0
IsTurned pair asked = (pair ≡ asked) ⊎ ((pair.left ≡ asked.right) × (pair.right ≡ asked.left))

pub turned_numbers : (vs : List Vertex) (pair asked : Pair) → IsTurned pair asked →
    AreNumbers vs asked → AreNumbers vs pair
turned_numbers vs pair asked (inl e) are = rw e are
turned_numbers vs pair asked (inr e) are = let (f, g) = e in (omega arith, omega arith)

pub turned_made : (vs : List Vertex) (operation : Operation) (pair asked : Pair) → IsTable vs →
    IsTurned pair asked →
    made vs operation pair ≡ made vs operation asked
turned_made vs operation pair asked table (inl e) = ap (made vs operation) e
turned_made vs operation pair asked table (inr e) =
    ap (λ (n : ℕ). merged operation (tree_at vs n) (tree_at vs pair.right)) e.0
    ∙ ap (λ (n : ℕ). merged operation (tree_at vs asked.right) (tree_at vs n)) e.1
    ∙ merged_commutes operation (tree_at vs asked.right) (tree_at vs asked.left)
    (table.reduced asked.right) (table.reduced asked.left)

-- halves of two numbers' trees join to the pair's tree
pub halves_join : (vs : List Vertex) (operation : Operation) (place : ℕ) (pair low high : Pair) →
    IsTable vs →
    SplitsAt place (tree_at vs pair.left) (tree_at vs low.left) (tree_at vs high.left) →
    SplitsAt place (tree_at vs pair.right) (tree_at vs low.right) (tree_at vs high.right) →
    Joins (made vs operation pair) place (made vs operation low) (made vs operation high)
halves_join vs operation place pair low high table p q = record {
  is = merged_splits operation place _ _ _ _ _ _ (table.reduced pair.left)
      (table.reduced pair.right) p q;
  low_reduced = merged_reduced operation (suc place) _ _ p.low_reduced q.low_reduced;
  high_reduced = merged_reduced operation (suc place) _ _ p.high_reduced q.high_reduced;
}

-- a frame on top of a stack that waits for its pair's tree
pub stack_push : (vs : List Vertex) (operation : Operation) (goal : Tree) (frames : List Frame)
    (frame : Frame) (asked whole : Tree) →
    IsFrame vs operation frame asked → made vs operation (pair_of frame) ≡ whole →
    IsStack vs operation goal (reverse frames) whole →
    IsStack vs operation goal (reverse (frames ++ frame ∷ [])) asked
stack_push vs operation goal frames frame asked whole is e below =
    subst (λ (fs : List Frame). IsStack vs operation goal fs asked)
    (sym (reverse-append frames (frame ∷ [])))
    (is, subst (λ (t : Tree). IsStack vs operation goal (reverse frames) t) (sym e) below)

-- what was right stays right as the table grows
pub numbers_grow : (old new : List Vertex) (pair : Pair) → Grows old new → AreNumbers old pair →
    AreNumbers new pair
numbers_grow old new pair grows are = (
  (kept old new pair.left grows are.0).0,
  (kept old new pair.right grows are.1).0,
)

pub made_grows : (old new : List Vertex) (operation : Operation) (pair : Pair) → Grows old new →
    AreNumbers old pair →
    made new operation pair ≡ made old operation pair
made_grows old new operation pair grows are =
    ap (λ (t : Tree). merged operation t (tree_at new pair.right))
    ((kept old new pair.left grows are.0).1)
    ∙ ap (λ (t : Tree). merged operation (tree_at old pair.left) t)
    ((kept old new pair.right grows are.1).1)

answer_grows : (old new : List Vertex) (slot : Answer) → Grows old new → IsAnswer old slot →
    IsAnswer new slot
answer_grows old new slot grows is =
    let pair : Pair = record { left = slot.left; right = slot.right } in (
      (kept old new slot.left grows is.0).0,
      (kept old new slot.right grows is.1).0,
      (
        (kept old new slot.number grows is.2.0).0,
        (kept old new slot.number grows is.2.0).1 ∙ is.2.1
            ∙ sym (made_grows old new slot.operation pair grows (is.0, is.1)),
      ),
    )

pub answers_grow : (old new : List Vertex) (answers : Answers) → Grows old new →
    AreAnswers old answers → AreAnswers new answers
answers_grow old new answers grows are =
    All-weaker (IsAnswer old) (IsAnswer new) (λ slot. answer_grows old new slot grows)
    answers.slots.items are

joins_same : (t u low low' high high' : Tree) (place : ℕ) → u ≡ t → low' ≡ low → high' ≡ high →
    Joins t place low high → Joins u place low' high'
joins_same t u low low' high high' place e f g j = rw (e, f, g) j

frame_grows : (old new : List Vertex) (operation : Operation) (frame : Frame) (asked : Tree) →
    Grows old new →
    IsFrame old operation frame asked → IsFrame new operation frame asked
frame_grows old new operation (Low pair place high) asked grows is = (
  numbers_grow old new pair grows is.0,
  numbers_grow old new high grows is.1,
  joins_same _ _ _ _ _ _ place (made_grows old new operation pair grows is.0) refl
      (made_grows old new operation high grows is.1) is.2,
)
frame_grows old new operation (High pair place low) asked grows is = (
  numbers_grow old new pair grows is.0,
  (kept old new low grows is.1).0,
  joins_same _ _ _ _ _ _ place (made_grows old new operation pair grows is.0)
      ((kept old new low grows is.1).1) refl is.2,
)

frame_numbers : (vs : List Vertex) (operation : Operation) (frame : Frame) (asked : Tree) →
    IsFrame vs operation frame asked → AreNumbers vs (pair_of frame)
frame_numbers vs operation (Low pair place high) asked is = is.0
frame_numbers vs operation (High pair place low) asked is = is.0

pub stack_grows : (old new : List Vertex) (operation : Operation) (goal : Tree)
    (frames : List Frame) (asked : Tree) → Grows old new →
    IsStack old operation goal frames asked → IsStack new operation goal frames asked
stack_grows old new operation goal [] asked grows is = is
stack_grows old new operation goal (frame ∷ below) asked grows is = (
  frame_grows old new operation frame asked grows is.0,
  subst (λ (t : Tree). IsStack new operation goal below t)
      (sym (made_grows old new operation (pair_of frame) grows
      (frame_numbers old operation frame asked is.0)))
      (stack_grows old new operation goal below (made old operation (pair_of frame)) grows is.1),
)

-- what is asked for is within the goal
frame_within : (vs : List Vertex) (operation : Operation) (frame : Frame) (asked : Tree) →
    IsFrame vs operation frame asked → IsWithin asked (made vs operation (pair_of frame))
frame_within vs operation (Low pair place high) asked is x h =
    subst (λ (t : Tree). is_member tree_eq (inner t) x ≡ true) (sym is.2.is)
    (low_within place asked (made vs operation high) x h)
frame_within vs operation (High pair place low) asked is x h =
    subst (λ (t : Tree). is_member tree_eq (inner t) x ≡ true) (sym is.2.is)
    (high_within place (tree_at vs low) asked x h)

pub stack_within : (vs : List Vertex) (operation : Operation) (goal : Tree) (frames : List Frame)
    (asked : Tree) →
    IsStack vs operation goal frames asked → IsWithin asked goal
stack_within vs operation goal [] asked is x h =
    subst (λ (t : Tree). is_member tree_eq (inner t) x ≡ true) is h
stack_within vs operation goal (frame ∷ below) asked is x h =
    stack_within vs operation goal below (made vs operation (pair_of frame)) is.1 x
    (frame_within vs operation frame asked is.0 x h)

-- an answer that is known is passed to the stack that asks for it
pub stack_known : (vs : List Vertex) (operation : Operation) (goal : Tree) (frames : List Frame)
    (pair asked : Pair) (number : ℕ) →
    IsTable vs → IsTurned pair asked → Has vs number (made vs operation pair) →
    IsStack vs operation goal frames (made vs operation asked) →
    IsStack vs operation goal frames (tree_at vs number)
stack_known vs operation goal frames pair asked number table turned has stack =
    subst (λ (t : Tree). IsStack vs operation goal frames t)
    (sym (has.1 ∙ turned_made vs operation pair asked table turned)) stack

-- for one that is not known the pair waits, and its low halves are asked for
pub stack_asks : (vs : List Vertex) (operation : Operation) (goal : Tree) (frames new : List Frame)
    (pair asked : Pair) (place : ℕ) (low high : Pair) →
    new ≡ frames ++ Low pair place high ∷ [] → IsTable vs → IsTurned pair asked →
    AreNumbers vs asked → AreNumbers vs high →
    SplitsAt place (tree_at vs pair.left) (tree_at vs low.left) (tree_at vs high.left) →
    SplitsAt place (tree_at vs pair.right) (tree_at vs low.right) (tree_at vs high.right) →
    IsStack vs operation goal (reverse frames) (made vs operation asked) →
    IsStack vs operation goal (reverse new) (made vs operation low)
stack_asks vs operation goal frames new pair asked place low high e table turned are highs p q
    stack =
    subst (λ (fs : List Frame). IsStack vs operation goal (reverse fs) (made vs operation low))
    (sym e)
    (stack_push vs operation goal frames (Low pair place high) (made vs operation low)
    (made vs operation asked) (
      turned_numbers vs pair asked turned are,
      highs,
      halves_join vs operation place pair low high
          table p q,
    )
    (turned_made vs operation pair asked table turned) stack)

-- after the answer of the low halves the high halves are asked for
pub stack_turns : (vs : List Vertex) (operation : Operation) (goal : Tree) (frames new : List Frame)
    (pair high : Pair) (place number : ℕ) →
    new ≡ frames ++ High pair place number ∷ [] → IsNumber vs number →
    IsFrame vs operation (Low pair place high) (tree_at vs number) →
    IsStack vs operation goal (reverse frames) (made vs operation pair) →
    IsStack vs operation goal (reverse new) (made vs operation high)
stack_turns vs operation goal frames new pair high place number e is frame stack =
    subst (λ (fs : List Frame). IsStack vs operation goal (reverse fs) (made vs operation high))
    (sym e)
    (stack_push vs operation goal frames (High pair place number) (made vs operation high)
    (made vs operation pair)
    (frame.0, is, frame.2) refl stack)

-- after both answers the joined tree's number is the frame's answer
pub stack_joins : (old new : List Vertex) (operation : Operation) (goal : Tree)
    (frames : List Frame) (pair : Pair) (place low number joined_number : ℕ) →
    Grows old new → IsFrame old operation (High pair place low) (tree_at old number) →
    Has new joined_number (joined place (tree_at old low) (tree_at old number)) →
    IsStack old operation goal frames (made old operation pair) →
    IsStack new operation goal frames (tree_at new joined_number)
stack_joins old new operation goal frames pair place low number joined_number grows frame has
    stack =
    subst (λ (t : Tree). IsStack new operation goal frames t) (frame.2.is ∙ sym has.1)
    (stack_grows old new operation goal frames (made old operation pair) grows stack)

-- and the answer to remember
pub joins_answer : (old new : List Vertex) (operation : Operation) (pair : Pair)
    (place low number joined_number : ℕ) →
    Grows old new → IsFrame old operation (High pair place low) (tree_at old number) →
    Has new joined_number (joined place (tree_at old low) (tree_at old number)) →
    Has new joined_number (made new operation pair)
joins_answer old new operation pair place low number joined_number grows frame has =
    (has.0, has.1 ∙ sym frame.2.is ∙ sym (made_grows old new operation pair grows frame.0))
