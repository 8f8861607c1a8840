-- The fanouts of a signal are those of its alias; and two signals are exchanged when they exchange
-- aliases.
use Rattle.std.proofs.Common.{◌≡◌, ℕ, ◌<◌, length, get_or, set, Bool, true, false, not, ◌&&◌, if◌then◌else◌, Option, Some, None, List, [], ◌∷◌, ◌++◌, map, slice_get, bytes_eq, inl, inr, refl, sym, ap, ◌∙◌, subst}
use Rattle.std.specs.Prelude.{Result, IfOk}
use Rattle.std.specs.declared.result.Result.TheVariants.{Ok, Err}
use Rattle.std.specs.Option.{option_map, option_map_or}
use Rattle.std.proofs.lemmas.Bool.{false≢true}
use Rattle.std.proofs.lemmas.List.{map-set, map-append, length-map}
use Rattle.std.proofs.lemmas.Option.{slice_get-map}
use Rattle.circuit_model.specs.Names.{has}
use Rattle.circuit_model.specs.Soundness.{table_inputs}
use Rattle.circuit_model.specs.declared.circuit.Tri.{Tri}
use Rattle.circuit_model.specs.declared.circuit.Table.{Table}
use Rattle.circuit_model.specs.declared.circuit.Circuit.{Circuit}
use Rattle.circuit_laws.specs.Edits.{with_tables, with_added, constant_table}
use Rattle.circuit_laws.proofs.Names.{same_name, name_itself, name_is, name_not, name_apart, name_cases, has_append}
use Rattle.net_wires.specs.Rules.{turned_over, row_turned}
use Rattle.net_wires.specs.Points.{written_bit}
use Rattle.net_wires.proofs.Searching.{at_place}
use Rattle.net_readers.specs.Fanouts.{AreReaders}
use Rattle.net_wires.specs.declared.edges.Edge.{Edge}
use Rattle.net_wires.specs.Aliases.{inputs_at, row_over, complement_marks, table_over, AreInverse, ArePaired, name_exchanged, exchanged, with_edge, turned_if, HaveExchangedAliases}
use Rattle.net_wires.proofs.Reading.{readers_last}
use Rattle.net_wires.proofs.Turning.{turned_twice, table_back, constant_stays, bit_stays}

-- a signal is among those for which aliases stand exactly if its alias is among the aliases
carried_name : (signal alias : List ℕ → Edge) → ArePaired signal alias → (name input : List ℕ) → bytes_eq name (signal input).name ≡ bytes_eq (alias name).name input
carried_name signal alias h name input =
    elim (name_cases (alias name).name input) as (λ _. bytes_eq name (signal input).name ≡ bytes_eq (alias name).name input) [
      | inl same ↦
          name_is name (signal input).name (sym (ap (λ (edge : Edge). edge.name) (ap signal (sym same) ∙ h.from_signal name))) ∙ sym (name_is (alias name).name input same)
      | inr other ↦
          name_not name (signal input).name (λ e. name_apart (alias name).name input other (ap (λ (n : List ℕ). (alias n).name) e ∙ ap (λ (edge : Edge). edge.name) (h.from_alias input))) ∙ sym other
    ]

pub carried_has : (signal alias : List ℕ → Edge) → ArePaired signal alias → (name : List ℕ) (inputs : List (List ℕ)) → has (map (λ input. (signal input).name) inputs) name ≡ has inputs (alias name).name
carried_has signal alias h name [] = refl
carried_has signal alias h name (input ∷ inputs) = rw (carried_name signal alias h name input, carried_has signal alias h name inputs) refl

-- some table reads a signal where some table reads its alias
pub carried_read : (signal alias : List ℕ → Edge) → ArePaired signal alias → (name : List ℕ) (tables : List Table) → has (table_inputs (map (table_over signal) tables)) name ≡ has (table_inputs tables) (alias name).name
carried_read signal alias h name [] = refl
carried_read signal alias h name (table ∷ tables) =
    has_append (map (λ input. (signal input).name) table.inputs) (table_inputs (map (table_over signal) tables)) name
    ∙ (rw (carried_has signal alias h name table.inputs, carried_read signal alias h name tables) refl ∙ sym (has_append table.inputs (table_inputs tables) (alias name).name))

-- and so for the table at an index
pub carried_at : (signal alias : List ℕ → Edge) → ArePaired signal alias → (name : List ℕ) (place : ℕ) (tables : List Table) → has (inputs_at (map (table_over signal) tables) place) name ≡ has (inputs_at tables place) (alias name).name
carried_at signal alias h name place tables =
    ap (λ (o : Option Table). has (option_map_or (λ (table : Table). table.inputs) o []) name) (slice_get-map (table_over signal) tables place) ∙ by (slice_get tables place)
  where
    by : (o : Option Table) → has (option_map_or (λ (table : Table). table.inputs) (option_map (table_over signal) o) []) name ≡ has (option_map_or (λ (table : Table). table.inputs) o []) (alias name).name
    by None = refl
    by (Some table) = carried_has signal alias h name table.inputs

-- two names have edges to two others, to which no other edge led, and these have edges back
linked_back : (there back : List ℕ → Edge) (x y a b : List ℕ) (p q : Bool) → bytes_eq a b ≡ false → AreInverse there back
    → ((name : List ℕ) → (there name).name ≡ a → name ≡ y) → ((name : List ℕ) → (there name).name ≡ b → name ≡ x)
    → AreInverse (with_edge x (record { name = a; is_complemented = p }) (with_edge y (record { name = b; is_complemented = q }) there)) (with_edge a (record { name = x; is_complemented = p }) (with_edge b (record { name = y; is_complemented = q }) back))
linked_back there back x y a b p q apart home by_a by_b name = first (bytes_eq x name) refl
  where
    new : List ℕ → Edge
    new = with_edge a (record { name = x; is_complemented = p }) (with_edge b (record { name = y; is_complemented = q }) back)

    at_a : new a ≡ record { name = x; is_complemented = p }
    at_a = rw (name_itself a) refl

    at_b : new b ≡ record { name = y; is_complemented = q }
    at_b = rw (apart, name_itself b) refl

    last : (u : List ℕ) (e : Bool) → bytes_eq a u ≡ e → (f : Bool) → bytes_eq b u ≡ f → bytes_eq x name ≡ false → bytes_eq y name ≡ false → (there name).name ≡ u → new u ≡ back u
    last u true e f g nx ny is = absurd (false≢true (sym ny ∙ name_is y name (sym (by_a name (is ∙ sym (same_name a u e))))))
    last u false e true g nx ny is = absurd (false≢true (sym nx ∙ name_is x name (sym (by_b name (is ∙ sym (same_name b u g))))))
    last u false e false g nx ny is = rw (e, g) refl

    second : bytes_eq x name ≡ false → (e : Bool) → bytes_eq y name ≡ e
        → new (if e then record { name = b; is_complemented = q } else there name).name ≡ record { name = name; is_complemented = (if e then record { name = b; is_complemented = q } else there name).is_complemented }
    second nx true e = at_b ∙ ap (λ (n : List ℕ). record { name = n; is_complemented = q }) (same_name y name e)
    second nx false e = last (there name).name (bytes_eq a (there name).name) refl (bytes_eq b (there name).name) refl nx e refl ∙ home name

    first : (e : Bool) → bytes_eq x name ≡ e
        → new (if e then record { name = a; is_complemented = p } else with_edge y (record { name = b; is_complemented = q }) there name).name
        ≡ record { name = name; is_complemented = (if e then record { name = a; is_complemented = p } else with_edge y (record { name = b; is_complemented = q }) there name).is_complemented }
    first true e = at_a ∙ ap (λ (n : List ℕ). record { name = n; is_complemented = p }) (same_name x name e)
    first false e = second e (bytes_eq y name) refl

-- the edges after the signals for which two aliases stand were exchanged
pub record AreLinked (signal alias signal_after alias_after : List ℕ → Edge) (one other : List ℕ) (first second : Edge) (turned : Bool) : Type 0 where
  pub apart : bytes_eq one other ≡ false
  pub first_is : first ≡ alias one
  pub second_is : second ≡ alias other
  pub signals : (name : List ℕ) → signal_after name ≡ with_edge second.name (record { name = one; is_complemented = second.is_complemented }) (with_edge first.name (record { name = other; is_complemented = turned }) signal) name
  pub aliases : (name : List ℕ) → alias_after name ≡ with_edge one (record { name = second.name; is_complemented = second.is_complemented }) (with_edge other (record { name = first.name; is_complemented = turned }) alias) name

-- edges that are set one after the other are those of an exchange
pub linked_twice : (signal alias signal_mid alias_mid signal_after alias_after : List ℕ → Edge) (one other : List ℕ) (inverts : Bool) (first second : Edge) (turned : Bool) → first ≡ alias one → second ≡ alias other → turned ≡ turned_if inverts first.is_complemented
    → ((name : List ℕ) → signal_mid name ≡ with_edge first.name (record { name = other; is_complemented = turned }) signal name)
    → ((name : List ℕ) → alias_mid name ≡ with_edge other (record { name = first.name; is_complemented = turned }) alias name)
    → ((name : List ℕ) → signal_after name ≡ with_edge second.name (record { name = one; is_complemented = second.is_complemented }) signal_mid name)
    → ((name : List ℕ) → alias_after name ≡ with_edge one (record { name = second.name; is_complemented = second.is_complemented }) alias_mid name)
    → HaveExchangedAliases signal alias signal_after alias_after one other inverts
linked_twice signal alias signal_mid alias_mid signal_after alias_after one other inverts first second turned f s t s1 w1 s2 w2 = record {
  signals = λ name.
      s2 name
      ∙ (ap (λ (edge : Edge). with_edge second.name (record { name = one; is_complemented = second.is_complemented }) (λ _. edge) name) (s1 name)
      ∙ by (λ first second turned. with_edge second.name (record { name = one; is_complemented = second.is_complemented }) (with_edge first.name (record { name = other; is_complemented = turned }) signal) name));
  aliases = λ name.
      w2 name
      ∙ (ap (λ (edge : Edge). with_edge one (record { name = second.name; is_complemented = second.is_complemented }) (λ _. edge) name) (w1 name)
      ∙ by (λ first second turned. with_edge one (record { name = second.name; is_complemented = second.is_complemented }) (with_edge other (record { name = first.name; is_complemented = turned }) alias) name));
}
  where
    by : (at : Edge → Edge → Bool → Edge) → at first second turned ≡ at (alias one) (alias other) (turned_if inverts (alias one).is_complemented)
    by at =
        ap (at first second) t
        ∙ (ap (λ (edge : Edge). at edge second (turned_if inverts edge.is_complemented)) f
        ∙ ap (λ (edge : Edge). at (alias one) edge (turned_if inverts (alias one).is_complemented)) s)

-- an exchange, with names for the aliases
linked : (signal alias signal_after alias_after : List ℕ → Edge) (one other : List ℕ) (inverts : Bool) → bytes_eq one other ≡ false → HaveExchangedAliases signal alias signal_after alias_after one other inverts
    → AreLinked signal alias signal_after alias_after one other (alias one) (alias other) (turned_if inverts (alias one).is_complemented)
linked signal alias signal_after alias_after one other inverts apart h = record { apart = apart; first_is = refl; second_is = refl; signals = h.signals; aliases = h.aliases }

-- edges that are the same at each name lead back as well
back_same : (there back there_too back_too : List ℕ → Edge) → ((name : List ℕ) → there_too name ≡ there name) → ((name : List ℕ) → back_too name ≡ back name) → AreInverse there back → AreInverse there_too back_too
back_same there back there_too back_too e f h name = rw (e name) (f (there name).name ∙ h name)

pub linked_paired : (signal alias signal_after alias_after : List ℕ → Edge) (one other : List ℕ) (first second : Edge) (turned : Bool) → ArePaired signal alias
    → AreLinked signal alias signal_after alias_after one other first second turned → ArePaired signal_after alias_after
linked_paired signal alias signal_after alias_after one other first second turned h l = record {
  from_alias = back_same (with_edge second.name (record { name = one; is_complemented = second.is_complemented }) (with_edge first.name (record { name = other; is_complemented = turned }) signal)) (with_edge one (record { name = second.name; is_complemented = second.is_complemented }) (with_edge other (record { name = first.name; is_complemented = turned }) alias)) signal_after alias_after l.signals l.aliases
      (linked_back signal alias second.name first.name one other second.is_complemented turned l.apart h.from_alias (λ name e. sym (home_at name one e) ∙ ap (λ (edge : Edge). edge.name) (sym l.first_is)) (λ name e. sym (home_at name other e) ∙ ap (λ (edge : Edge). edge.name) (sym l.second_is)));
  from_signal = back_same (with_edge one (record { name = second.name; is_complemented = second.is_complemented }) (with_edge other (record { name = first.name; is_complemented = turned }) alias)) (with_edge second.name (record { name = one; is_complemented = second.is_complemented }) (with_edge first.name (record { name = other; is_complemented = turned }) signal)) alias_after signal_after l.aliases l.signals
      (linked_back alias signal one other second.name first.name second.is_complemented turned differ h.from_signal
      (λ name e. sym (away_at name second.name e) ∙ second_signal) (λ name e. sym (away_at name first.name e) ∙ first_signal));
}
  where
    home_at : (name u : List ℕ) → (signal name).name ≡ u → (alias u).name ≡ name
    home_at name u e = ap (λ (n : List ℕ). (alias n).name) (sym e) ∙ ap (λ (edge : Edge). edge.name) (h.from_alias name)

    away_at : (name u : List ℕ) → (alias name).name ≡ u → (signal u).name ≡ name
    away_at name u e = ap (λ (n : List ℕ). (signal n).name) (sym e) ∙ ap (λ (edge : Edge). edge.name) (h.from_signal name)

    first_signal : (signal first.name).name ≡ one
    first_signal = away_at one first.name (ap (λ (edge : Edge). edge.name) (sym l.first_is))

    second_signal : (signal second.name).name ≡ other
    second_signal = away_at other second.name (ap (λ (edge : Edge). edge.name) (sym l.second_is))

    differ : bytes_eq second.name first.name ≡ false
    differ = name_not second.name first.name (λ e. name_apart one other l.apart (sym first_signal ∙ (ap (λ (n : List ℕ). (signal n).name) (sym e) ∙ second_signal)))

-- what each alias then stands for
record IsMoved (before after : Edge) (one other : List ℕ) (inverts : Bool) : Type 0 where
  name : after.name ≡ name_exchanged one other before.name
  turns : after.is_complemented ≡ (if inverts && bytes_eq one before.name then not before.is_complemented else before.is_complemented)

linked_moved : (signal alias signal_after alias_after : List ℕ → Edge) (one other : List ℕ) (first second : Edge) (inverts turned : Bool) → ArePaired signal alias
    → turned ≡ (if inverts then not first.is_complemented else first.is_complemented) → AreLinked signal alias signal_after alias_after one other first second turned → (input : List ℕ) → IsMoved (signal input) (signal_after input) one other inverts
linked_moved signal alias signal_after alias_after one other first second inverts turned h t l input =
    subst (λ (edge : Edge). IsMoved (signal input) edge one other inverts) (sym (l.signals input)) (at_second (bytes_eq second.name input) refl)
  where
    first_signal : signal first.name ≡ record { name = one; is_complemented = first.is_complemented }
    first_signal = rw (l.first_is) (h.from_signal one)

    second_signal : signal second.name ≡ record { name = other; is_complemented = second.is_complemented }
    second_signal = rw (l.second_is) (h.from_signal other)

    at_one : IsMoved (record { name = one; is_complemented = first.is_complemented }) (record { name = other; is_complemented = turned }) one other inverts
    at_one = record { name = rw (name_itself one) refl; turns = rw (name_itself one, t) (by inverts) }
      where
        by : (b : Bool) → (if b then not first.is_complemented else first.is_complemented) ≡ (if b && true then not first.is_complemented else first.is_complemented)
        by true = refl
        by false = refl

    at_other : IsMoved (record { name = other; is_complemented = second.is_complemented }) (record { name = one; is_complemented = second.is_complemented }) one other inverts
    at_other = record { name = rw (l.apart, name_itself other) refl; turns = rw (l.apart) (by inverts) }
      where
        by : (b : Bool) → second.is_complemented ≡ (if b && false then not second.is_complemented else second.is_complemented)
        by true = refl
        by false = refl

    stays : (edge : Edge) → bytes_eq one edge.name ≡ false → bytes_eq other edge.name ≡ false → IsMoved edge edge one other inverts
    stays edge e f = record { name = rw (e, f) refl; turns = rw (e) (by inverts) }
      where
        by : (b : Bool) → edge.is_complemented ≡ (if b && false then not edge.is_complemented else edge.is_complemented)
        by true = refl
        by false = refl

    home_at : (u : List ℕ) (edge : Edge) → edge ≡ alias u → bytes_eq edge.name input ≡ false → bytes_eq u (signal input).name ≡ false
    home_at u edge is e = name_not u (signal input).name (λ same. name_apart edge.name input e
        (ap (λ (w : Edge). w.name) is ∙ (ap (λ (n : List ℕ). (alias n).name) same ∙ ap (λ (w : Edge). w.name) (h.from_alias input))))

    at_first : bytes_eq second.name input ≡ false → (e : Bool) → bytes_eq first.name input ≡ e
        → IsMoved (signal input) (if e then record { name = other; is_complemented = turned } else signal input) one other inverts
    at_first n true e = subst (λ (edge : Edge). IsMoved edge (record { name = other; is_complemented = turned }) one other inverts) (sym first_signal ∙ ap signal (same_name first.name input e)) at_one
    at_first n false e = stays (signal input) (home_at one first l.first_is e) (home_at other second l.second_is n)

    at_second : (e : Bool) → bytes_eq second.name input ≡ e
        → IsMoved (signal input) (if e then record { name = one; is_complemented = second.is_complemented } else with_edge first.name (record { name = other; is_complemented = turned }) signal input) one other inverts
    at_second true e = subst (λ (edge : Edge). IsMoved edge (record { name = one; is_complemented = second.is_complemented }) one other inverts) (sym second_signal ∙ ap signal (same_name second.name input e)) at_other
    at_second false e = at_first e (bytes_eq first.name input) refl

names_moved : (before after : List ℕ → Edge) (one other : List ℕ) (inverts : Bool) → ((input : List ℕ) → IsMoved (before input) (after input) one other inverts) → (inputs : List (List ℕ))
    → map (λ input. (after input).name) inputs ≡ map (name_exchanged one other) (map (λ input. (before input).name) inputs)
names_moved before after one other inverts h [] = refl
names_moved before after one other inverts h (input ∷ inputs) = rw ((h input).name, names_moved before after one other inverts h inputs) refl

row_moved : (before after : List ℕ → Edge) (one other : List ℕ) → ((input : List ℕ) → IsMoved (before input) (after input) one other true) → (inputs : List (List ℕ)) (row : List Tri)
    → row_over (complement_marks after inputs) row ≡ row_turned one (map (λ input. (before input).name) inputs) (row_over (complement_marks before inputs) row)
unfolding row_over row_turned
row_moved before after one other h [] row = refl
row_moved before after one other h (input ∷ inputs) [] = refl
row_moved before after one other h (input ∷ inputs) (place ∷ row) =
    rw ((h input).turns, row_moved before after one other h inputs row)
    (ap (λ (p : Tri). p ∷ row_turned one (map (λ input. (before input).name) inputs) (row_over (complement_marks before inputs) row)) (by (bytes_eq one (before input).name) (before input).is_complemented))
  where
    by : (same turns : Bool) → (if (if true && same then not turns else turns) then turned_over place else place)
        ≡ (if same then turned_over (if turns then turned_over place else place) else (if turns then turned_over place else place))
    by true true = sym (turned_twice place)
    by true false = refl
    by false true = refl
    by false false = refl

rows_moved : (before after : List ℕ → Edge) (one other : List ℕ) → ((input : List ℕ) → IsMoved (before input) (after input) one other true) → (inputs : List (List ℕ)) (rows : List (List Tri))
    → map (row_over (complement_marks after inputs)) rows ≡ map (row_turned one (map (λ input. (before input).name) inputs)) (map (row_over (complement_marks before inputs)) rows)
rows_moved before after one other h inputs [] = refl
rows_moved before after one other h inputs (row ∷ rows) = rw (row_moved before after one other h inputs row, rows_moved before after one other h inputs rows) refl

marks_same : (before after : List ℕ → Edge) (one other : List ℕ) → ((input : List ℕ) → IsMoved (before input) (after input) one other false) → (inputs : List (List ℕ)) → complement_marks after inputs ≡ complement_marks before inputs
marks_same before after one other h [] = refl
marks_same before after one other h (input ∷ inputs) = rw ((h input).turns, marks_same before after one other h inputs) refl

table_moved : (before after : List ℕ → Edge) (one other : List ℕ) (inverts : Bool) → ((input : List ℕ) → IsMoved (before input) (after input) one other inverts) → (table : Table)
    → table_over after table ≡ exchanged one other inverts (table_over before table)
unfolding exchanged
table_moved before after one other true h table = rw (names_moved before after one other true h table.inputs, rows_moved before after one other h table.inputs table.rows) refl
table_moved before after one other false h table = rw (names_moved before after one other false h table.inputs, marks_same before after one other h table.inputs) refl

-- the tables are those in which two signals were exchanged
pub tables_moved : (signal alias signal_after alias_after : List ℕ → Edge) (one other : List ℕ) (first second : Edge) (inverts turned : Bool) → ArePaired signal alias
    → turned ≡ (if inverts then not first.is_complemented else first.is_complemented) → AreLinked signal alias signal_after alias_after one other first second turned → (tables : List Table)
    → map (table_over signal_after) tables ≡ map (exchanged one other inverts) (map (table_over signal) tables)
tables_moved signal alias signal_after alias_after one other first second inverts turned h t l [] = refl
tables_moved signal alias signal_after alias_after one other first second inverts turned h t l (table ∷ tables) =
    rw (
      table_moved signal signal_after one other inverts (linked_moved signal alias signal_after alias_after one other first second inverts turned h t l) table,
      tables_moved signal alias signal_after alias_after one other first second inverts turned h t l tables,
    ) refl

-- the table at an index
table_there : (circuit seen : Circuit) (edge : List ℕ → Edge) (place : ℕ) (table : Table) → seen ≡ with_tables circuit (map (table_over edge) circuit.tables) → place < length circuit.tables → table ≡ get_or circuit.tables place table
    → slice_get seen.tables place ≡ Some (table_over edge table)
table_there circuit seen edge place table is lt here =
    ap (λ (c : Circuit). slice_get c.tables place) is ∙ (slice_get-map (table_over edge) circuit.tables place ∙ ap (option_map (table_over edge)) (at_place circuit.tables place table lt here))

-- the constant at an index
pub bit_there : (circuit seen : Circuit) (edge : List ℕ → Edge) (place : ℕ) (table : Table) → seen ≡ with_tables circuit (map (table_over edge) circuit.tables) → place < length circuit.tables → table ≡ get_or circuit.tables place table
    → written_bit table ≡ option_map_or written_bit (slice_get seen.tables place) None
bit_there circuit seen edge place table is lt here =
    sym (ap (λ (o : Option Table). option_map_or written_bit o None) (table_there circuit seen edge place table is lt here) ∙ bit_stays edge table)

-- the number of inputs at an index
pub width_there : (circuit seen : Circuit) (edge : List ℕ → Edge) (place : ℕ) (table : Table) → seen ≡ with_tables circuit (map (table_over edge) circuit.tables) → place < length circuit.tables → table ≡ get_or circuit.tables place table
    → length table.inputs ≡ option_map_or (λ (t : Table). length t.inputs) (slice_get seen.tables place) 0
width_there circuit seen edge place table is lt here =
    sym (ap (λ (o : Option Table). option_map_or (λ (t : Table). length t.inputs) o 0) (table_there circuit seen edge place table is lt here) ∙ length-map table.inputs (λ input. (edge input).name))

-- who reads a signal
pub read_there : (circuit seen : Circuit) (signal alias : List ℕ → Edge) (name : List ℕ) → seen ≡ with_tables circuit (map (table_over signal) circuit.tables) → ArePaired signal alias → has (table_inputs circuit.tables) (alias name).name ≡ has (table_inputs seen.tables) name
read_there circuit seen signal alias name is h = sym (ap (λ (c : Circuit). has (table_inputs c.tables) name) is ∙ carried_read signal alias h name circuit.tables)

pub places_there : (circuit seen : Circuit) (signal alias : List ℕ → Edge) (name : List ℕ) (place : ℕ) → seen ≡ with_tables circuit (map (table_over signal) circuit.tables) → ArePaired signal alias → has (inputs_at circuit.tables place) (alias name).name ≡ has (inputs_at seen.tables place) name
places_there circuit seen signal alias name place is h = sym (ap (λ (c : Circuit). has (inputs_at c.tables place) name) is ∙ carried_at signal alias h name place circuit.tables)

-- a table is set over aliases
pub table_put : (circuit seen : Circuit) (signal alias : List ℕ → Edge) (place : ℕ) (table kept : Table) (new : Circuit) → seen ≡ with_tables circuit (map (table_over signal) circuit.tables) → ArePaired signal alias → kept ≡ table_over alias table
    → new ≡ with_tables circuit (set circuit.tables place kept) → with_tables new (map (table_over signal) new.tables) ≡ with_tables seen (set seen.tables place table)
table_put circuit seen signal alias place table kept new is h k n =
    rw (n, is) (ap (with_tables circuit)
    (map-set (table_over signal) circuit.tables place kept ∙ ap (set (map (table_over signal) circuit.tables) place) (ap (table_over signal) k ∙ table_back alias signal h.from_signal table)))

-- after an exchange aliases and signals are still paired
pub exchange_paired : (signal alias signal_after alias_after : List ℕ → Edge) (one other : List ℕ) (inverts : Bool) → bytes_eq one other ≡ false → ArePaired signal alias → HaveExchangedAliases signal alias signal_after alias_after one other inverts
    → ArePaired signal_after alias_after
exchange_paired signal alias signal_after alias_after one other inverts apart p h =
    linked_paired signal alias signal_after alias_after one other (alias one) (alias other) (turned_if inverts (alias one).is_complemented) p (linked signal alias signal_after alias_after one other inverts apart h)

-- two signals are exchanged
pub signals_moved : (circuit seen : Circuit) (signal alias signal_after alias_after : List ℕ → Edge) (one other : List ℕ) (inverts : Bool) → seen ≡ with_tables circuit (map (table_over signal) circuit.tables)
    → bytes_eq one other ≡ false → ArePaired signal alias → HaveExchangedAliases signal alias signal_after alias_after one other inverts
    → with_tables circuit (map (table_over signal_after) circuit.tables) ≡ with_tables seen (map (exchanged one other inverts) seen.tables)
signals_moved circuit seen signal alias signal_after alias_after one other inverts is apart p h =
    rw (is) (ap (with_tables circuit) (tables_moved signal alias signal_after alias_after one other (alias one) (alias other) inverts (turned_if inverts (alias one).is_complemented) p refl (linked signal alias signal_after alias_after one other inverts apart h) circuit.tables))

-- a constant is appended
pub constant_last : (circuit seen : Circuit) (signal : List ℕ → Edge) (name : List ℕ) (bit : Bool) (table : Table) (new : Circuit) → seen ≡ with_tables circuit (map (table_over signal) circuit.tables) → table ≡ constant_table name bit
    → new ≡ with_added circuit table → with_tables new (map (table_over signal) new.tables) ≡ with_added seen (constant_table name bit)
unfolding with_added
constant_last circuit seen signal name bit table new is t n =
    rw (n, is, t) (ap (with_tables circuit)
    (map-append (table_over signal) circuit.tables (constant_table name bit ∷ []) ∙ ap (λ (last : Table). map (table_over signal) circuit.tables ++ last ∷ []) (constant_stays signal (constant_table name bit) refl)))

pub readers_still : (told : List ℕ → ℕ → Bool) (circuit : Circuit) (name : List ℕ) (bit : Bool) (table : Table) (new : Circuit) → table ≡ constant_table name bit → new ≡ with_added circuit table → AreReaders told (inputs_at circuit.tables) → AreReaders told (inputs_at new.tables)
unfolding with_added
readers_still told circuit name bit table new t n all = subst (λ (c : Circuit). AreReaders told (inputs_at c.tables)) (sym n) (readers_last told circuit.tables table (ap (λ (x : Table). x.inputs) t) all)

-- what holds where a call went well
pub on_value : {T E : Type 0} (r : Result T E) {P Q : T → Type 0} → ((x : T) → P x → Q x) → IfOk r P → IfOk r Q
on_value (Ok x) f h = f x h
on_value (Err e) f h = tt
