use Rattle.std.proofs.Common.{◌≡◌, not, Bool, true, Option, List, sym, ◌∙◌, subst}
use Rattle.std.specs.List.{list_any}
use Rattle.std.proofs.lemmas.Bool.{not-true}
use Rattle.alg_div.specs.Cubes.{row_eq}
use Rattle.net_savings.proofs.ByRows.{not_among}
use Rattle.net_savings.proofs.by_rows.add_row.Goals as goal

pub returns-clause-was : goal.returns-clause-was
returns-clause-was c = λ is_new m.
    not_among c.args.row.items c.args.rows.now.keys
    (not-true (list_any (row_eq c.args.row.items) c.args.rows.now.keys)
    (subst (λ (row : List (Option Bool)). not (list_any (row_eq row) c.args.rows.now.keys) ≡ true) c.from_vec.ensures (sym c.in_ok-is_new.ensures.added ∙ is_new))) m
