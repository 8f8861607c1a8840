use Rattle.std.proofs.Common.{◌≡◌, ◌∙◌, true, false, sym, ap, subst, List, ℕ, IfOk, option_copied}
use Rattle.circuit_tables.specs.Folding.{each_once}
use Rattle.blif_lines.specs.Reader.{of_lines}
use Rattle.blif_models.specs.Files.{lines_at}
use Rattle.blif_models.specs.PortTables.{ports_by}
use Rattle.blif_models.specs.Sides.{listed_on, lists_on}
use Rattle.blif_models.proofs.PortSets.{side_listed, found_ports}
use Rattle.blif_models.proofs.ports.ports_on.Goals as goal

pub returns-then-lists : goal.returns-then-lists
returns-then-lists c =
    let lines = lines_at c.args.file.now.text c.args.lines.now in
    let lists : lists_on c.args.side lines ≡ true = sym (c.lists.ensures ∙ ap (λ (text : List ℕ). lists_on c.args.side (lines_at text c.args.lines.now)) c.text.ensures) ∙ c.if-lists.true in
    subst (λ (names : List (List ℕ)). IfOk c.listed.result (λ (set : List (List ℕ)). set ≡ names))
    (ap (λ (text : List ℕ). each_once (of_lines (listed_on c.args.side) (lines_at text c.args.lines.now))) c.text-then-lists.ensures
    ∙ ap each_once (sym (side_listed c.args.side (option_copied c.args.library) (ports_by c.args.file.now.models c.args.table.now) lines lists))) c.listed.ensures

pub returns : goal.returns
returns c =
    let lines = lines_at c.args.file.now.text c.args.lines.now in
    let lists : lists_on c.args.side lines ≡ false = sym (c.lists.ensures ∙ ap (λ (text : List ℕ). lists_on c.args.side (lines_at text c.args.lines.now)) c.text.ensures) ∙ c.if-lists.false in
    subst (λ (names : List (List ℕ)). IfOk c.beside.result (λ (set : List (List ℕ)). set ≡ names))
    (found_ports c.args.side c.other_side.result (option_copied c.args.library) (ports_by c.args.file.now.models c.args.table.now) lines c.in_ok-others.others c.in_ok-words.words
    c.other_side.ensures c.in_ok-others.ensures c.in_ok-words.ensures lists) c.beside.ensures
