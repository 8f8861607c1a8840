use Rattle.std.proofs.Common.{ℕ, ◌+◌, map, sym, ap, ◌∙◌}
use Rattle.std.proofs.lemmas.Result.{on_ok_weaker}
use Rattle.net_gains.specs.Totals.{total_of}
use Rattle.net_gains.proofs.Paired.{gains_alone}
use Rattle.net_gains.proofs.exchanging.add.Goals as goal

pub returns : goal.returns
returns c =
    on_ok_weaker c.note_with.result
    (λ turned cover. turned cover ∙ ap (λ (gain : ℕ). total_of c.args.totals.now cover + gain) (sym (gains_alone cover (map (λ cube. cube.items) c.args.cubes.now) c.requires)))
    c.note_with.ensures
