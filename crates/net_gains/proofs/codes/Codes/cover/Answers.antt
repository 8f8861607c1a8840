use Rattle.std.proofs.Common.{◌≡◌, ℕ, false, Vec, Global, sym, ap, ◌∙◌, arith}
use Rattle.std.proofs.lemmas.List.Folds.{list_all-map, list_all_at}
use Rattle.net_gains.specs.Codes.{are_codes}
use Rattle.net_gains.proofs.codes.Codes.cover.Goals as goal

pub returns-in-None : goal.returns-in-None
returns-in-None c =
    let none : are_codes c.args.self.now c.as_slice.result.now ≡ false = rw c.in-None.is at c.in_ok-named.ensures in
    list_all-map (are_codes c.args.self.now) (λ (cube : Vec ℕ Global). cube.items) c.args.numbers.now
    ∙ list_all_at (λ (cube : Vec ℕ Global). are_codes c.args.self.now cube.items) c.args.numbers.now c.loop-cube.cube-index c.cube-item.result (omega arith)
    (ap (λ (cube : Vec ℕ Global). are_codes c.args.self.now cube.items) (sym c.cube-item.is) ∙ ap (are_codes c.args.self.now) (sym c.as_slice.ensures.value) ∙ none)
