-- The lines before a line: how many tables and latches they have, whether the model has ended, and
-- the rows of the table that is being read.
use Rattle.std.proofs.Common.{◌≡◌, refl, ℕ, suc, ◌+◌, ◌≤◌, Bool, true, false, cond, not, ◌||◌, Some, List, [], ◌∷◌, ◌++◌, ap, ◌∙◌, arith, map, reverse, take_while, if◌then◌else◌}
use Rattle.std.proofs.lemmas.List.{reverse-append, map-append}
use Rattle.std.proofs.lemmas.List.Sums.{take_while-cons, sum_by-cons}
use Rattle.sis_text.specs.Entries.{Entry}
use Rattle.blif_lines.specs.Keyword.{kind_of, is_row, is_row_kind}
use Rattle.blif_lines.specs.Lines.{is_end_kind, is_ended, begins_part, has_part, place_at, part_behind, is_node_kind, nodes_in, joined, heading, rows_behind}
use Rattle.blif_lines.specs.declared.part.Part.TheVariants as part
use Rattle.blif_lines.specs.declared.keyword.Keyword.{Keyword}
use Rattle.blif_lines.specs.declared.keyword.Keyword.TheVariants.{Names, Row}
use Rattle.sis_base.specs.declared.limits.TheConstants.{MAX_NODES}

-- the model has not ended, its don't-care part has begun or not, and so many tables and latches may
-- still come
pub record Goes (had : Bool) (room : ℕ) (back : List Entry) : Type 0 where
  pub going : is_ended back ≡ false
  pub part : has_part back ≡ had
  pub few : nodes_in back + room ≤ MAX_NODES

pub place_goes : (had : Bool) (room : ℕ) (back : List Entry) → Goes had room back → part_behind back ≡ (if had then part.DontCare else part.Model)
unfolding part_behind place_at
place_goes had room back goes = rw (goes.going, goes.part) refl

going_more : (kind : Keyword) (line : Entry) (back : List Entry) → kind_of line ≡ kind → is_end_kind kind ≡ false → is_ended back ≡ false → is_ended (line ∷ back) ≡ false
unfolding is_ended
going_more kind line back e not_end h = ap (λ (k : Keyword). is_end_kind k || is_ended back) e ∙ ap (λ b. b || is_ended back) not_end ∙ h

part_more : (kind : Keyword) (had : Bool) (line : Entry) (back : List Entry) → kind_of line ≡ kind → has_part back ≡ had → has_part (line ∷ back) ≡ (begins_part kind || had)
unfolding has_part
part_more kind had line back e h = ap (λ (k : Keyword). begins_part k || has_part back) e ∙ ap (λ b. begins_part kind || b) h

nodes_more : (kind : Keyword) (line : Entry) (back : List Entry) → kind_of line ≡ kind → nodes_in (line ∷ back) ≡ cond (is_node_kind kind) 1 0 + nodes_in back
unfolding nodes_in
nodes_more kind line back e =
    sum_by-cons (λ (line : Entry). cond (is_node_kind (kind_of line)) 1 0) line back ∙ ap (λ (k : Keyword). cond (is_node_kind k) 1 0 + nodes_in back) e

-- a line that is no table, no latch and no end
pub goes_on : (kind : Keyword) (had : Bool) (room : ℕ) (line : Entry) (back : List Entry) → kind_of line ≡ kind → is_end_kind kind ≡ false → is_node_kind kind ≡ false → Goes had room back → Goes (begins_part kind || had) room (line ∷ back)
goes_on kind had room line back e not_end not_node goes =
    let n : nodes_in (line ∷ back) ≡ nodes_in back = nodes_more kind line back e ∙ ap (λ (b : Bool). cond b 1 0 + nodes_in back) not_node ∙ omega arith in
    record { going = going_more kind line back e not_end goes.going; part = part_more kind had line back e goes.part; few = omega (arith, n, goes.few) }

-- a table or latch
pub goes_node : (kind : Keyword) (had : Bool) (room : ℕ) (line : Entry) (back : List Entry) → kind_of line ≡ kind → is_end_kind kind ≡ false → is_node_kind kind ≡ true → Goes had (suc room) back → Goes (begins_part kind || had) room (line ∷ back)
goes_node kind had room line back e not_end node goes =
    let n : nodes_in (line ∷ back) ≡ 1 + nodes_in back = nodes_more kind line back e ∙ ap (λ (b : Bool). cond b 1 0 + nodes_in back) node in
    record { going = going_more kind line back e not_end goes.going; part = part_more kind had line back e goes.part; few = omega (arith, n, goes.few) }

-- after a `.names` line, and after one more row
pub heading_names : (line : Entry) (back : List Entry) → kind_of line ≡ Names → heading (line ∷ back) ≡ Some line
heading_names line back e = ap (λ (k : Keyword). cond (not (is_row_kind k)) (Some line) (heading back)) e

pub rows_names : (line : Entry) (back : List Entry) → kind_of line ≡ Names → rows_behind (line ∷ back) ≡ []
rows_names line back e =
    ap (λ (lines : List Entry). map (λ (row : Entry). joined row.words) (reverse lines)) (take_while-cons is_row line back ∙ ap (λ (k : Keyword). cond (is_row_kind k) (line ∷ take_while is_row back) []) e)

pub heading_row : (line : Entry) (back : List Entry) → kind_of line ≡ Row → heading (line ∷ back) ≡ heading back
heading_row line back e = ap (λ (k : Keyword). cond (not (is_row_kind k)) (Some line) (heading back)) e

pub rows_row : (line : Entry) (back : List Entry) → kind_of line ≡ Row → rows_behind (line ∷ back) ≡ rows_behind back ++ joined line.words ∷ []
rows_row line back e =
    let t : take_while is_row (line ∷ back) ≡ line ∷ take_while is_row back = take_while-cons is_row line back ∙ ap (λ (k : Keyword). cond (is_row_kind k) (line ∷ take_while is_row back) []) e in
    ap (λ (lines : List Entry). map (λ (row : Entry). joined row.words) (reverse lines)) t
    ∙ ap (map (λ (row : Entry). joined row.words)) (reverse-append (line ∷ []) (take_while is_row back))
    ∙ map-append (λ (row : Entry). joined row.words) (reverse (take_while is_row back)) (line ∷ [])
