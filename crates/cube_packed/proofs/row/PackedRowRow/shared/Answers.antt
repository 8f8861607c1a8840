use Rattle.std.proofs.Common.{List, ℕ, length, bit_and, sym, ap, ◌∙◌}
use Rattle.std.specs.Simd.Lanes.{zip2}
use Rattle.cube_packed.proofs.PlaneLiterals.{same_words, shared_packed}
use Rattle.cube_packed.proofs.row.PackedRowRow.shared.Goals as goal

pub common-requires : goal.common-requires
common-requires c =
    ap length c.as_slice.ensures
    ∙ same_words c.self.inside.width c.other.inside.width c.self.inside.words.items c.other.inside.words.items c.args.self.now c.args.other.now
    c.self.view_is c.other.view_is c.self.invariant c.other.invariant c.requires
    ∙ sym (ap length c.as_slice-2.ensures)

pub invariant_of-result : goal.invariant_of-result
invariant_of-result c =
    (shared_packed c.self.inside.width c.other.inside.width c.self.inside.words.items c.other.inside.words.items c.in_ok-words.words.items c.args.self.now c.args.other.now
    c.self.view_is c.other.view_is c.self.invariant c.other.invariant c.requires
    (c.in_ok-words.ensures ∙ ap (λ (ws : List ℕ). zip2 bit_and ws c.as_slice-2.result.now) c.as_slice.ensures ∙ ap (zip2 bit_and c.self.inside.words.items) c.as_slice-2.ensures)).1

pub returns : goal.returns
returns c =
    (shared_packed c.self.inside.width c.other.inside.width c.self.inside.words.items c.other.inside.words.items c.in_ok-words.words.items c.args.self.now c.args.other.now
    c.self.view_is c.other.view_is c.self.invariant c.other.invariant c.requires
    (c.in_ok-words.ensures ∙ ap (λ (ws : List ℕ). zip2 bit_and ws c.as_slice-2.result.now) c.as_slice.ensures ∙ ap (zip2 bit_and c.self.inside.words.items) c.as_slice-2.ensures)).0
