use Rattle.std.proofs.Common.{List}
use Rattle.func_shared.specs.Answers.{AreAnswers}
use Rattle.func_shared.specs.declared.vertex.Vertex.{Vertex}
use Rattle.func_shared.proofs.Remembered.{same_answers}
use Rattle.func_shared.proofs.cache.Answers.put.Goals as goal
use Rattle.func_shared.proofs.cache.Answers.put.Goals.{then-self-len, else-self-len}

grown : (c : goal.After-keep) (vs : List Vertex) → AreAnswers vs c.args.self.now →
    AreAnswers vs c.if-self-len.self
grown c vs are = elim c.if-self-len.branch [
  | then-self-len w ↦ same_answers vs _ _ w.self-is (w.grow.ensures.kept vs are)
  | else-self-len w ↦ same_answers vs _ _ w.self-is are
]

pub returns : goal.returns
returns c = λ vs are numbers has. c.keep.ensures.kept vs (grown c vs are)
    (numbers.0, numbers.1, has)
