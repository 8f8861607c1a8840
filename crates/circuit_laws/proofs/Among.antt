-- Tables of which some are rewritten, and those of other signals stay.
use Rattle.std.proofs.Common.{◌≡◌, ℕ, Bool, true, cond, Option, Some, None, option_map, unwrap_or, List, [], ◌∷◌, ◌++◌, map, refl, sym, ap, ap₂, ◌∙◌, subst}
use Rattle.std.specs.List.{AllByRecursion}
use Rattle.std.specs.Option.{option_or}
use Rattle.std.proofs.lemmas.Bool.{false≢true}
use Rattle.std.proofs.lemmas.List.{map-append}
use Rattle.std.proofs.lemmas.Option.{same_Some}
use Rattle.circuit_model.specs.Names.{has, all_different}
use Rattle.circuit_model.specs.Values.{driver}
use Rattle.circuit_model.specs.Soundness.{outputs_of}
use Rattle.circuit_model.specs.declared.circuit.Table.{Table}
use Rattle.circuit_laws.proofs.Names.{name_itself, name_not, different_head, different_tail}
use Rattle.circuit_laws.proofs.Drivers.{driver_output, driver_name, driver_append}
use Rattle.circuit_laws.proofs.Kept.{all_weaker}

-- a table becomes the rewritten table of its signal among some tables; it stays if none of them
-- drives its signal
abbrev pub turned_among : List Table → (Table → Table) → Table → Table
turned_among tables turn table = unwrap_or (option_map turn (driver tables table.output)) table

-- what holds of a table and of the rewritten one of its signal holds of what it becomes
pub among_either : (P : Table → Type 0) (tables : List Table) (turn : Table → Table) (table : Table) → P table
    → ((old : Table) → driver tables table.output ≡ Some old → P (turn old)) → P (turned_among tables turn table)
among_either P tables turn table own turned = cases (driver tables table.output) turned
  where
    cases : (found : Option Table) → ((old : Table) → found ≡ Some old → P (turn old)) → P (unwrap_or (option_map turn found) table)
    cases None h = own
    cases (Some old) h = h old refl

pub among_output : (tables : List Table) (turn : Table → Table) → ((table : Table) → (turn table).output ≡ table.output) → (table : Table) → (turned_among tables turn table).output ≡ table.output
among_output tables turn keeps table =
    among_either (λ (made : Table). made.output ≡ table.output) tables turn table refl (λ old at. keeps old ∙ driver_name tables table.output old at)

-- tables of different signals each drive their own
pub own_drivers : (tables : List Table) → all_different (outputs_of tables) ≡ true → AllByRecursion (λ (table : Table). driver tables table.output ≡ Some table) tables
unfolding driver
own_drivers [] different = tt
own_drivers (first ∷ tables) different = (
  ap (λ (b : Bool). cond b (Some first) (driver tables first.output)) (name_itself first.output),
  all_weaker (λ (table : Table). driver tables table.output ≡ Some table) (λ (table : Table). driver (first ∷ tables) table.output ≡ Some table)
      (λ table at.
      ap (λ (b : Bool). cond b (Some first) (driver tables table.output))
      (name_not table.output first.output (λ same. false≢true (sym (different_head first.output (outputs_of tables) different)
      ∙ subst (λ (name : List ℕ). has (outputs_of tables) name ≡ true) same (driver_output tables table.output table at)))) ∙ at)
      tables (own_drivers tables (different_tail first.output (outputs_of tables) different)),
)

pub mapped_same : (f g : Table → Table) (tables : List Table) → AllByRecursion (λ (table : Table). f table ≡ g table) tables → map f tables ≡ map g tables
mapped_same f g [] same = refl
mapped_same f g (table ∷ tables) same = ap₂ (λ (first : Table) (rest : List Table). first ∷ rest) same.0 (mapped_same f g tables same.1)

-- the tables are rewritten, and one after them, of another signal, stays
pub among_added : (tables : List Table) (turn : Table → Table) (new : Table) → all_different (outputs_of tables) ≡ true → driver tables new.output ≡ None
    → map (turned_among tables turn) (tables ++ new ∷ []) ≡ map turn tables ++ new ∷ []
among_added tables turn new different none =
    map-append (turned_among tables turn) tables (new ∷ [])
    ∙ ap₂ (λ (front : List Table) (last : Table). front ++ last ∷ [])
    (mapped_same (turned_among tables turn) turn tables
    (all_weaker (λ (table : Table). driver tables table.output ≡ Some table) (λ (table : Table). turned_among tables turn table ≡ turn table)
    (λ table at. ap (λ (found : Option Table). unwrap_or (option_map turn found) table) at) tables (own_drivers tables different)))
    (ap (λ (found : Option Table). unwrap_or (option_map turn found) new) none)

-- a table that drives a signal is the one among the first tables that drives its output
pub front_same : (tables others : List Table) (signal : List ℕ) (table old : Table) → driver (tables ++ others) signal ≡ Some table → driver tables table.output ≡ Some old → table ≡ old
front_same tables others signal table old at front =
    same_Some table old
    (sym at ∙ driver_append tables others signal
    ∙ ap (λ (found : Option Table). option_or found (driver others signal)) (ap (driver tables) (sym (driver_name (tables ++ others) signal table at)) ∙ front))
