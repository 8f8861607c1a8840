-- The cubes of rows that are read one after the other, and the table that is made.
use Rattle.std.proofs.Common.{◌≡◌, ◌≤◌, ℕ, Bool, Option, Some, None, IfSome, List, [], ◌∷◌, map, length, take, refl, sym, ap, ◌∙◌, subst}
use Rattle.std.proofs.lemmas.List.{take_all}
use Rattle.std.proofs.lemmas.Option.{same_Some}
use Rattle.circuit_model.specs.declared.circuit.Table.{Table}
use Rattle.cover_names.specs.Literals.{NamedCover}
use Rattle.cover_names.specs.Cubes.{cube_over}
use Rattle.net_core.specs.Tables.{named, places_of, characters_of}
use Rattle.net_core.specs.Places.{written_of}
use Rattle.net_core.specs.declared.table.CoverTable.{CoverTable}
use Rattle.net_core.specs.declared.places.Entry.{Entry}
use Rattle.net_core.proofs.Rows.{places_back}
use Rattle.net_work.specs.Placed.{table_at}
use Rattle.net_resub.specs.Resubbed.{resubbed}

rows_back : (inputs : List (List ℕ)) (rows : List (List (Option Bool))) → map (cube_over inputs) rows ≡ map (λ row. cube_over inputs (places_of row)) (map characters_of rows)
rows_back inputs [] = refl
rows_back inputs (row ∷ rows) =
    ap (λ cube. cube ∷ map (cube_over inputs) rows) (ap (cube_over inputs) (sym (places_back row)))
    ∙ ap (λ (rest : NamedCover). cube_over inputs (places_of (characters_of row)) ∷ rest) (rows_back inputs rows)

pub cubes_all : {R : Type 0} (literals : R → List (Option Bool)) (inputs : List (List ℕ)) (rows : List R) (i : ℕ) (items : List (List (Option Bool))) (cubes : NamedCover) → length rows ≤ i → map literals rows ≡ items
    → cubes ≡ map (cube_over inputs) (map literals (take i rows)) → cubes ≡ map (λ row. cube_over inputs (places_of row)) (map characters_of items)
cubes_all {R} literals inputs rows i items cubes long same is =
    is ∙ (ap (λ (rs : List R). map (cube_over inputs) (map literals rs)) (take_all i rows long) ∙ (ap (map (cube_over inputs)) same ∙ rows_back inputs items))

pub some_weaker : {A : Type 0} (P Q : A → Type 0) (found : Option A) → ((a : A) → P a → Q a) → IfSome found P → IfSome found Q
some_weaker P Q None more h = h
some_weaker P Q (Some a) more h = more a h

pub some_told : {A : Type 0} (found : Option A) (made : A) (P : A → Type 0) → found ≡ Some made → IfSome found P → P made
some_told {A} found made P is told = subst (λ (o : Option A). IfSome o P) is told

-- what is made of an entry is what is made of the table at its index
pub divided_is : {R : Type 0} (slots : List (Option Table)) (place by : ℕ) (entry divisor : Entry R) (made : CoverTable R) → Some (written_of entry) ≡ table_at slots place → Some (written_of divisor) ≡ table_at slots by
    → named entry.output made ≡ resubbed (written_of divisor) (written_of entry) → (table other : Table) → table_at slots place ≡ Some table → table_at slots by ≡ Some other
    → named table.output made ≡ resubbed other table
unfolding named
divided_is slots place by entry divisor made here there is table other at_place at_by =
    let one : written_of entry ≡ table = same_Some (written_of entry) table (here ∙ at_place) in
    let two : written_of divisor ≡ other = same_Some (written_of divisor) other (there ∙ at_by) in
    subst (λ (t : Table). named t.output made ≡ resubbed other t) one (subst (λ (t : Table). named entry.output made ≡ resubbed t (written_of entry)) two is)
