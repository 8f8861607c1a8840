-- Tables of parts are added after the last index, one after the other.
use Rattle.std.proofs.Common.{◌≡◌, ℕ, ◌+◌, ◌≤◌, suc, Bool, true, Option, Some, List, [], ◌∷◌, ◌++◌, map, length, refl, sym, ap, ◌∙◌, subst, arith}
use Rattle.std.specs.List.{AllByRecursion}
use Rattle.std.proofs.lemmas.List.{append-nil, append_assoc, map_push, length-map, length-append}
use Rattle.sis_base.specs.Rows.{HasWidth}
use Rattle.circuit_model.specs.declared.circuit.Table.{Table}
use Rattle.circuit_model.specs.declared.circuit.Circuit.{Circuit}
use Rattle.circuit_laws.specs.Edits.{with_added, with_tables}
use Rattle.circuit_laws.proofs.Sound.{all_append}
use Rattle.net_core.specs.Fresh.{IsNewName, node_count}
use Rattle.net_core.specs.Reads.{IsBounded}
use Rattle.net_core.specs.Tables.{characters_of}
use Rattle.net_core.specs.declared.adding.AddFault.{AddFault}
use Rattle.net_core.specs.declared.adding.AddFault.TheVariants.{NodeLimit, Memory}
use Rattle.circuit_tables.specs.Tidy.{tidied}
use Rattle.net_decomp.specs.Partings.{part_table, ArePartsAdded}
use Rattle.net_decomp.proofs.Bounded.{parts_nodes}
use Rattle.net_work.specs.Placed.{Placed, circuit_of, with_last}
use Rattle.net_work.proofs.Standing.{standing_push}
use Rattle.net_decomp.specs.Cursor.{ArePut, HasRoomFor}
use Rattle.sis_base.specs.declared.limits.TheConstants.{MAX_NODES}

-- one more part
parts_more : (table : Table) (parts : List (List (List (Option Bool)))) (part : List (List (Option Bool))) (circuit : Circuit) (names : List (List ℕ)) (name : List ℕ) (between : Circuit)
    → ArePartsAdded table parts circuit names between → IsNewName between name
    → ArePartsAdded table (parts ++ part ∷ []) circuit (names ++ name ∷ []) (with_added between (part_table table part name))
parts_more table [] part circuit names name between added new =
    subst (λ (list : List (List ℕ)). ArePartsAdded table (part ∷ []) circuit (list ++ name ∷ []) (with_added between (part_table table part name))) (sym added.0)
    (subst (λ (c : Circuit). IsNewName c name) added.1 new, (refl, ap (λ (c : Circuit). with_added c (part_table table part name)) added.1))
parts_more table (first ∷ parts) part circuit [] name between added new = absurd added
parts_more table (first ∷ parts) part circuit (one ∷ names) name between added new =
    (added.0, parts_more table parts part (with_added circuit (part_table table first one)) names name between added.1 new)

pub put_begin : (inputs : List (List ℕ)) (now : Placed) → ArePut inputs [] [] now now
put_begin inputs now = record {
  more = [];
  frame = refl;
  slots = sym (append-nil now.slots);
  added = λ table same. (refl, refl);
  bounded = tt;
}

-- the table of a part over inputs, in normal form
abbrev pub tidy_part : List (List ℕ) → List (List (Option Bool)) → List ℕ → Table
tidy_part inputs part name = tidied (record { inputs = inputs; output = name; rows = map characters_of part; phase = true })

pub last_circuit : (now : Placed) (table : Table) → circuit_of (with_last now table) ≡ with_added (circuit_of now) table
unfolding with_added
last_circuit now table = ap (λ (tables : List Table). with_tables now.frame tables) (standing_push now.slots table)

part_is : (table : Table) (inputs : List (List ℕ)) (part : List (List (Option Bool))) (name : List ℕ) → table.inputs ≡ inputs → tidy_part inputs part name ≡ part_table table part name
unfolding part_table
part_is table inputs part name same = ap (λ (list : List (List ℕ)). tidy_part list part name) (sym same)

pub put_more : (inputs : List (List ℕ)) (parts : List (List (List (Option Bool)))) (part : List (List (Option Bool))) (names : List (List ℕ)) (name : List ℕ) (before now new : Placed)
    → ArePut inputs parts names before now → IsNewName (circuit_of now) name → new ≡ with_last now (tidy_part inputs part name) → IsBounded (tidy_part inputs part name)
    → ArePut inputs (parts ++ part ∷ []) (names ++ name ∷ []) before new
put_more inputs parts part names name before now new put fresh is small =
    let made : Table = tidy_part inputs part name in
    record {
      more = put.more ++ made ∷ [];
      frame = ap (λ (p : Placed). p.frame) is ∙ put.frame;
      slots =
          ap (λ (p : Placed). p.slots) is ∙ ap (λ (slots : List (Option Table)). slots ++ Some made ∷ []) put.slots
          ∙ append_assoc before.slots (map Some put.more) (Some made ∷ [])
          ∙ ap (λ (slots : List (Option Table)). before.slots ++ slots) (sym (map_push Some put.more made));
      added = λ table same.
          subst (λ (c : Circuit). ArePartsAdded table (parts ++ part ∷ []) (circuit_of before) (names ++ name ∷ []) c)
          (sym (ap (λ (p : Placed). circuit_of p) is ∙ last_circuit now made ∙ ap (λ (t : Table). with_added (circuit_of now) t) (part_is table inputs part name same)))
          (parts_more table parts part (circuit_of before) names name (circuit_of now) (put.added table same) fresh);
      bounded = all_append IsBounded put.more (made ∷ []) put.bounded (small, tt);
    }

-- how many nodes there are
pub put_nodes : (inputs : List (List ℕ)) (parts : List (List (List (Option Bool)))) (names : List (List ℕ)) (before now : Placed) → ArePut inputs parts names before now
    → node_count (circuit_of now) ≡ node_count (circuit_of before) + length parts
put_nodes inputs parts names before now put =
    parts_nodes (record { inputs = inputs; output = []; rows = []; phase = true }) parts (circuit_of before) names (circuit_of now)
    (put.added (record { inputs = inputs; output = []; rows = []; phase = true }) refl)

-- as many names as parts
names_many : (table : Table) (parts : List (List (List (Option Bool)))) (circuit : Circuit) (names : List (List ℕ)) (new : Circuit) → ArePartsAdded table parts circuit names new → length names ≡ length parts
names_many table [] circuit names new added = ap length added.0
names_many table (part ∷ parts) circuit [] new added = absurd added
names_many table (part ∷ parts) circuit (name ∷ names) new added = ap suc (names_many table parts (with_added circuit (part_table table part name)) names new added.1)

pub put_names : (inputs : List (List ℕ)) (parts : List (List (List (Option Bool)))) (names : List (List ℕ)) (before now : Placed) → ArePut inputs parts names before now → length names ≡ length parts
put_names inputs parts names before now put =
    names_many (record { inputs = inputs; output = []; rows = []; phase = true }) parts (circuit_of before) names (circuit_of now)
    (put.added (record { inputs = inputs; output = []; rows = []; phase = true }) refl)

-- a loop over parts
module _ {V : Type 0} (rows : V → List (List (Option Bool))) where
  pub part_wide : (width : ℕ) (done rest all : List V) (part : V) → done ++ part ∷ rest ≡ all → AllByRecursion (HasWidth width) (map rows all) → HasWidth width (rows part)
  part_wide width done rest all part is wide = at done (subst (λ (list : List V). AllByRecursion (HasWidth width) (map rows list)) (sym is) wide)
    where
      at : (done : List V) → AllByRecursion (HasWidth width) (map rows (done ++ part ∷ rest)) → HasWidth width (rows part)
      at [] h = h.0
      at (first ∷ done) h = at done h.1

  pub part_fault : (inputs : List (List ℕ)) (done rest all : List V) (part : V) (names : List (List ℕ)) (before now : Placed) (fault : AddFault) → done ++ part ∷ rest ≡ all
      → ArePut inputs (map rows done) names before now → HasRoomFor (node_count (circuit_of before)) (length all) → (fault ≡ NodeLimit → MAX_NODES ≤ node_count (circuit_of now)) → fault ≡ Memory
  part_fault inputs done rest all part names before now NodeLimit is put room limit =
      let nodes : node_count (circuit_of now) ≡ node_count (circuit_of before) + length (map rows done) = put_nodes inputs (map rows done) names before now put in
      let many : length (map rows done) ≡ length done = length-map done rows in
      let more : length done + suc (length rest) ≡ length all = sym (length-append done (part ∷ rest)) ∙ ap length is in
      let full : MAX_NODES ≤ node_count (circuit_of now) = limit refl in
      let fits : node_count (circuit_of before) + length all ≤ MAX_NODES = room (omega (arith, more)) in
      absurd (omega (arith, nodes, many, more, full, fits))
  part_fault inputs done rest all part names before now Memory is put room limit = refl
