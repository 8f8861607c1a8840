use Rattle.std.proofs.Common.{ℕ, List, Option, Some, if◌then◌else◌, sym, ap, ◌∙◌, bytes_eq}
use Rattle.indexmap.specs.IndexMap.{get}
use Rattle.subject_tree.specs.Reading.{noted}
use Rattle.subject_tree.proofs.forest.note_made.Goals as goal

pub returns-in-None : goal.returns-in-None
returns-in-None c other =
    sym (ap (λ (made : Option ℕ). noted (get bytes_eq c.args.numbers.now) c.args.signal.now made other) c.in-None.is)

pub returns-in_ok-note-in-Some : goal.returns-in_ok-note-in-Some
returns-in_ok-note-in-Some c other =
    c.in_ok-note-in-Some.ensures other
    ∙ (ap (λ (name : List ℕ). if bytes_eq name other then Some c.in-Some.number else get bytes_eq c.args.numbers.now other) c.in_ok-copy-in-Some.ensures
    ∙ sym (ap (λ (made : Option ℕ). noted (get bytes_eq c.args.numbers.now) c.args.signal.now made other) c.in-Some.is))
