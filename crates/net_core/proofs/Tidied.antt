-- The tidy table of a table whose rows are a cover: the same under any name, and with a character for each input.
use Rattle.std.proofs.Common.{◌≡◌, ℕ, Bool, Option, List, [], ◌∷◌, length, map, sym, ap, ◌∙◌}
use Rattle.std.proofs.lemmas.List.{length-map}
use Rattle.sis_base.specs.Rows.{HasWidth}
use Rattle.circuit_model.specs.declared.circuit.Tri.{Tri}
use Rattle.circuit_model.specs.declared.circuit.Table.{Table}
use Rattle.circuit_tables.specs.Tidy.{IsWide, tidied}
use Rattle.circuit_tables.proofs.Tidied.{tidied_shaped, tidied_renamed}
use Rattle.net_core.specs.declared.table.CoverTable.{CoverTable}
use Rattle.net_core.specs.Tables.{named, covered, character_of, characters_of, HasCharacters}
use Rattle.net_core.proofs.Rows.{all_characters_back}

-- the tidy table under any name
pub named_tidy : {R : Type 0} (table : CoverTable R) (other name : List ℕ) → named name (covered {R = R} (tidied (named other table))) ≡ tidied (named name table)
unfolding named covered
named_tidy {R} table other name =
    let written : Table = named other table in
    ap (λ (rows : List (List Tri)). record (tidied written) { output = name; rows = rows }) (all_characters_back (tidied written).rows) ∙ sym (tidied_renamed written name)

pub characters_wide : (w : ℕ) (rows : List (List (Option Bool))) → HasWidth w rows → HasCharacters w (map characters_of rows)
unfolding HasWidth
characters_wide w [] h = tt
characters_wide w (row ∷ rows) h = (length-map row character_of ∙ h.0, characters_wide w rows h.1)

named_wide : {R : Type 0} (table : CoverTable R) (other : List ℕ) → HasWidth (length table.inputs) table.cover.rows → IsWide (named other table)
unfolding named
named_wide table other h = characters_wide (length table.inputs) table.cover.rows h

pub tidied_wide : {R : Type 0} (table : CoverTable R) (other : List ℕ) → HasWidth (length table.inputs) table.cover.rows → IsWide (tidied (named other table))
tidied_wide table other h = (tidied_shaped (named other table) (named_wide table other h)).0
