use Rattle.std.proofs.Common.{◌↔◌, List, sym, subst}
use Rattle.std.proofs.lemmas.Result.{IfOk-weaker}
use Rattle.alg_div.specs.Cubes.{Has}
use Rattle.cover_names.specs.Literals.{NamedCover}
use Rattle.net_candidates.specs.Listed.{IsSharedWith}
use Rattle.net_candidates.proofs.WithOthers.{shared_with_is}
use Rattle.net_candidates.proofs.others.shared_with.Goals as goal

pub returns : goal.returns
returns c =
    IfOk-weaker c.list_covers.result _ _
    (λ made e cover.
    subst (λ (covers : List NamedCover). Has cover covers ↔ IsSharedWith c.args.cubes.now c.args.others.now cover) (sym e)
    (shared_with_is c.args.cubes.now c.args.others.now c.in_ok-covers.covers.keys c.add_all_with_others.new.made.keys c.in_ok-covers.ensures c.in_ok-add_all_with_others.ensures cover))
    c.list_covers.ensures
