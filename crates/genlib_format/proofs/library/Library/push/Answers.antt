use Rattle.std.proofs.Common.{◌≡◌, ℕ, List, Some, length, bytes_eq, is_some, true, false, if◌then◌else◌, sym, ◌∙◌, ap}
use Rattle.indexmap.specs.IndexMap.{get}
use Rattle.genlib_format.proofs.Indexing.{index_kept, index_more}
use Rattle.genlib_format.proofs.library.Library.push.Goals as goal

pub invariant_of-self-then-is_some : goal.invariant_of-self-then-is_some
invariant_of-self-then-is_some c =
    let known : is_some (get bytes_eq c.self.inside.firsts c.args.gate.cell) ≡ true = ap is_some (sym c.found_place.ensures) ∙ (sym c.is_some.ensures ∙ c.if-is_some.true) in
    rw c.in_ok-push.ensures.items (index_kept c.self.inside.gates.items (get bytes_eq c.self.inside.firsts) c.args.gate c.self.invariant known)

pub invariant_of-self-2 : goal.invariant_of-self-2
invariant_of-self-2 c =
    let fresh : is_some (get bytes_eq c.self.inside.firsts c.args.gate.cell) ≡ false = ap is_some (sym c.found_place.ensures) ∙ (sym c.is_some.ensures ∙ c.if-is_some.false) in
    rw c.in_ok-put_last.ensures.gates_ok (
    index_more c.self.inside.gates.items (get bytes_eq c.self.inside.firsts) (get bytes_eq c.put_last.new.firsts) c.args.gate c.self.invariant fresh
    (λ q. c.in_ok-put_last.ensures.firsts_ok q ∙ ap (λ (n : List ℕ). if bytes_eq n q then Some (length c.self.inside.gates.items) else get bytes_eq c.self.inside.firsts q) c.in_ok-key.ensures)
    )
