-- The operation at each turn: what holds, and that it holds at the next turn.
use Rattle.std.proofs.Common.{◌≡◌, ℕ, ◌+◌, ◌-◌, ◌<◌, List, [], ◌∷◌, ◌++◌, reverse, length, refl, ap, sym, ◌∙◌, subst, arith}
use Rattle.std.proofs.lemmas.List.{reverse-append}
use Rattle.func_core.specs.Trees.{Tree}
use Rattle.func_core.specs.Sizes.{size}
use Rattle.func_shared.specs.Vertices.{Has, IsTable, Grows, AddsWithin}
use Rattle.func_shared.specs.Answers.{made, AreNumbers, AreAnswers, pair_of, IsFrame, IsStack, turn_tree, IsTurn, turn_cost, frame_cost, stack_cost}
use Rattle.func_core.specs.declared.operation.Operation.{Operation}
use Rattle.func_shared.specs.declared.vertex.Vertex.{Vertex}
use Rattle.func_shared.specs.declared.cache.Pair.{Pair}
use Rattle.func_shared.specs.declared.cache.Answers.{Answers}
use Rattle.func_shared.specs.declared.answering.Frame.{Frame}
use Rattle.func_shared.specs.declared.answering.Turn.{Turn}
use Rattle.func_shared.specs.declared.answering.Turn.TheVariants.{Asks, Gives}
use Rattle.func_shared.proofs.Growing.{grows_itself, grows_through, adds_itself, adds_through, adds_more, added_fit}
use Rattle.func_shared.proofs.Frames.{stack_within}
use Rattle.func_shared.proofs.Costs.{push_cost}

-- the table is an old one with vertices of the whole's tree, the answers are right, and the frames
-- wait for the turn's tree
pub record IsWorking (old vertices : List Vertex) (answers : Answers) (operation : Operation)
    (whole : Tree) (frames : List Frame) (turn : Turn) : Type 0 where
  pub grows : Grows old vertices
  pub added : AddsWithin old vertices whole
  pub right : AreAnswers vertices answers
  pub numbers : IsTurn vertices turn
  pub stack : IsStack vertices operation whole (reverse frames) (turn_tree vertices operation turn)

pub begins : (vs : List Vertex) (answers : Answers) (operation : Operation) (goal : Pair)
    (frames : List Frame) → frames ≡ [] →
    AreNumbers vs goal → AreAnswers vs answers →
    IsWorking vs vs answers operation (made vs operation goal) frames (Asks goal)
begins vs answers operation goal frames e are right = record {
  grows = grows_itself vs;
  added = adds_itself vs (made vs operation goal);
  right = right;
  numbers = are;
  stack = subst (λ (fs : List Frame). IsStack vs operation (made vs operation goal) (reverse fs)
      (made vs operation goal)) (sym e) refl;
}

-- how a stack continues to a turn
abbrev pub GoesOn : List Vertex → List Vertex → Operation → List Frame → Tree → List Frame → Turn →
    Type 0
GoesOn old new operation before waited frames turn =
    (goal : Tree) → IsStack old operation goal (reverse before) waited →
    IsStack new operation goal (reverse frames) (turn_tree new operation turn)

pub asked_on : (old vs : List Vertex) (answers : Answers) (operation : Operation) (whole : Tree)
    (before frames : List Frame) (pair : Pair) (asked turn : Turn) →
    asked ≡ Asks pair → IsWorking old vs answers operation whole before asked → IsTurn vs turn →
    GoesOn vs vs operation before (made vs operation pair) frames turn →
    IsWorking old vs answers operation whole frames turn
asked_on old vs answers operation whole before frames pair asked turn e works numbers on = record {
  grows = works.grows;
  added = works.added;
  right = works.right;
  numbers = numbers;
  stack = on whole (subst (λ (t : Turn). IsStack vs operation whole (reverse before)
      (turn_tree vs operation t)) e works.stack);
}

-- the frame on top waits for the number that is given
pub top_frame : (vs : List Vertex) (operation : Operation) (whole : Tree)
    (frames below : List Frame) (frame : Frame) (asked : Tree) →
    frames ≡ below ++ frame ∷ [] → IsStack vs operation whole (reverse frames) asked →
    IsFrame vs operation frame asked × IsStack vs operation whole (reverse below)
    (made vs operation (pair_of frame))
top_frame vs operation whole frames below frame asked e stack =
    subst (λ (fs : List Frame). IsStack vs operation whole fs asked)
    (ap (λ (fs : List Frame). reverse fs) e ∙ reverse-append below (frame ∷ [])) stack

-- an answer is passed to the top frame
pub resumed_added : (old vs new : List Vertex) (answers : Answers) (operation : Operation)
    (whole : Tree) (before below : List Frame) (frame : Frame) (given : Turn) →
    before ≡ below ++ frame ∷ [] → IsWorking old vs answers operation whole before given →
    Grows vs new →
    AddsWithin vs new (made vs operation (pair_of frame)) → AddsWithin old new whole
resumed_added old vs new answers operation whole before below frame given e works grows added =
    adds_through old vs new whole grows works.added
    (adds_more vs new (made vs operation (pair_of frame)) whole
    (stack_within vs operation whole (reverse below) (made vs operation (pair_of frame))
    (top_frame vs operation whole before below frame
    (turn_tree vs operation given) e works.stack).1) added)

pub resumed_on : (old vs new : List Vertex) (answers kept : Answers) (operation : Operation)
    (whole : Tree) (before below frames : List Frame) (frame : Frame) (given turn : Turn) →
    before ≡ below ++ frame ∷ [] → IsWorking old vs answers operation whole before given →
    Grows vs new →
    AddsWithin vs new (made vs operation (pair_of frame)) → AreAnswers new kept → IsTurn new turn →
    GoesOn vs new operation below (made vs operation (pair_of frame)) frames turn →
    IsWorking old new kept operation whole frames turn
resumed_on old vs new answers kept operation whole before below frames frame given turn e works
    grows added right numbers on = record {
      grows = grows_through old vs new works.grows grows;
      added = resumed_added old vs new answers operation whole before below frame given e works grows
          added;
      right = right;
      numbers = numbers;
      stack = on whole (top_frame vs operation whole before below frame
          (turn_tree vs operation given) e works.stack).1;
    }

-- the same for equal values
pub works_same : (old vs table : List Vertex) (answers kept : Answers) (operation : Operation)
    (whole : Tree) (before frames : List Frame) (turn next : Turn) →
    table ≡ vs → kept ≡ answers → frames ≡ before → next ≡ turn →
    IsWorking old vs answers operation whole before turn →
    IsWorking old table kept operation whole frames next
works_same old vs table answers kept operation whole before frames turn next e f g h works =
    rw (e, f, g, h) works

-- a number that is given with no frame left is the whole's
pub gives_whole : (old vs : List Vertex) (answers : Answers) (operation : Operation) (whole : Tree)
    (frames : List Frame) (number : ℕ) (given : Turn) →
    given ≡ Gives number → frames ≡ [] → IsWorking old vs answers operation whole frames given →
    Has vs number whole
gives_whole old vs answers operation whole frames number given e f works =
    let w : IsWorking old vs answers operation whole [] (Gives number) =
    works_same old vs vs answers answers operation whole frames [] given (Gives number) refl refl
    (sym f) (sym e) works in
    (w.numbers, w.stack)

-- more vertices than the limit are all in the whole's tree
pub too_big : (old vs : List Vertex) (answers : Answers) (operation : Operation) (whole : Tree)
    (frames : List Frame) (turn : Turn) (limit start count : ℕ) →
    IsWorking old vs answers operation whole frames turn → IsTable vs → start ≡ length old →
    count ≡ length vs → limit < count - start → limit < size whole
too_big old vs answers operation whole frames turn limit start count works table e f above =
    omega (arith, added_fit old vs whole table works.grows works.added)

-- the work that is left falls
pub asked_falls : (before frames list : List Frame) (pair : Pair) (asked turn next : Turn) →
    asked ≡ Asks pair → next ≡ turn → list ≡ frames →
    turn_cost turn + stack_cost (reverse frames)
    < turn_cost (Asks pair) + stack_cost (reverse before) →
    turn_cost next + stack_cost (reverse list) < turn_cost asked + stack_cost (reverse before)
asked_falls before frames list pair asked turn next e f g falls = rw (e, f, g) falls

pub resumed_falls : (before below frames list : List Frame) (frame : Frame) (number : ℕ)
    (given turn next : Turn) → given ≡ Gives number →
    before ≡ below ++ frame ∷ [] → next ≡ turn → list ≡ frames →
    turn_cost turn + stack_cost (reverse frames) < frame_cost frame + stack_cost (reverse below) →
    turn_cost next + stack_cost (reverse list) < turn_cost given + stack_cost (reverse before)
resumed_falls before below frames list frame number given turn next e f g h falls =
    rw (e, f, g, h) (omega (arith, push_cost below frame, falls))
