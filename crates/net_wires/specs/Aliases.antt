-- Tables over aliases: each alias stands for a signal or its complement, and tables are stored with
-- aliases in place of signals, so that two signals are exchanged in all tables at once. What a name
-- stands for is its edge, to another name, complemented or not. Source: Cormen, Leiserson, Rivest
-- and Stein, "Introduction to Algorithms", third edition, chapter 21 (names of sets apart from
-- their elements); Brace, Rudell and Bryant, "Efficient Implementation of a BDD Package" (1990),
-- complemented edges.
use Rattle.std.specs.Prelude.{◌≡◌, ℕ, Bool, false, not, Option, Some, None, List, [], ◌∷◌, map, slice_get, bytes_eq, if◌then◌else◌}
use Rattle.std.specs.Option.{option_map_or}
use Rattle.circuit_model.specs.declared.circuit.Tri.{Tri}
use Rattle.circuit_model.specs.declared.circuit.Table.{Table}
use Rattle.net_wires.specs.Rules.{turned_over, row_turned}
use Rattle.net_wires.specs.declared.edges.Edge.{Edge}

-- the inputs of the table at an index; none if there is no table
abbrev pub inputs_at : List Table → ℕ → List (List ℕ)
inputs_at tables place = option_map_or (λ (table : Table). table.inputs) (slice_get tables place) []

-- the edge of a name: the stored one, or else the name itself, not complemented
abbrev pub edge_or_itself : Option Edge → List ℕ → Edge
edge_or_itself None name = record { name = name; is_complemented = false }
edge_or_itself (Some edge) name = edge

-- the edge of a name, by a lookup of the stored one
abbrev pub edge_of : (List ℕ → Option Edge) → List ℕ → Edge
edge_of edges name = edge_or_itself (edges name) name

-- a row with the characters in marked columns complemented
unfoldable pub row_over : List Bool → List Tri → List Tri
row_over [] row = row
row_over (turns ∷ marks) [] = []
row_over (turns ∷ marks) (place ∷ row) = (if turns then turned_over place else place) ∷ row_over marks row

-- for each input, whether its edge is complemented
abbrev pub complement_marks : (List ℕ → Edge) → List (List ℕ) → List Bool
complement_marks edge inputs = map (λ input. (edge input).is_complemented) inputs

-- a table in which each input is replaced by the name of its edge, and its characters are
-- complemented if the edge is; the output stays
abbrev pub table_over : (List ℕ → Edge) → Table → Table
table_over edge table = record table {
  inputs = map (λ input. (edge input).name) table.inputs;
  rows = map (row_over (complement_marks edge table.inputs)) table.rows;
}

-- the edge of each name leads to a name whose edge leads back, and both are complemented or neither
-- is
abbrev pub AreInverse : (List ℕ → Edge) → (List ℕ → Edge) → Type 0
AreInverse there back = (name : List ℕ) → back (there name).name ≡ record { name = name; is_complemented = (there name).is_complemented }

-- aliases and signals are one to one: from each alias to its signal and back, and from each signal
-- to its alias and back
pub record ArePaired (signal alias : List ℕ → Edge) : Type 0 where
  pub from_alias : AreInverse signal alias
  pub from_signal : AreInverse alias signal

-- a name after two names were exchanged
abbrev pub name_exchanged : List ℕ → List ℕ → List ℕ → List ℕ
name_exchanged one other name = if bytes_eq one name then other else (if bytes_eq other name then one else name)

-- a table after two signals were exchanged among its inputs, the characters of the first
-- complemented if asked
unfoldable pub exchanged : List ℕ → List ℕ → Bool → Table → Table
exchanged one other inverts table = record table {
  inputs = map (name_exchanged one other) table.inputs;
  rows = if inverts then map (row_turned one table.inputs) table.rows else table.rows;
}

-- edges after that of one name was set
abbrev pub with_edge : List ℕ → Edge → (List ℕ → Edge) → List ℕ → Edge
with_edge from to edges name = if bytes_eq from name then to else edges name

-- a bit, complemented if asked
abbrev pub turned_if : Bool → Bool → Bool
turned_if inverts bit = if inverts then not bit else bit

-- two signals have exchanged aliases: the second one's alias stands for the first as it stood for
-- the second, and the first one's for the second as it stood for the first, complemented once more
-- if asked; all else stays
pub record HaveExchangedAliases (signal alias signal_after alias_after : List ℕ → Edge) (one other : List ℕ) (inverts : Bool) : Type 0 where
  pub signals : (name : List ℕ) → signal_after name
      ≡ with_edge (alias other).name (record { name = one; is_complemented = (alias other).is_complemented }) (with_edge (alias one).name (record { name = other; is_complemented = turned_if inverts (alias one).is_complemented }) signal) name
  pub aliases : (name : List ℕ) → alias_after name
      ≡ with_edge one (record { name = (alias other).name; is_complemented = (alias other).is_complemented }) (with_edge other (record { name = (alias one).name; is_complemented = turned_if inverts (alias one).is_complemented }) alias) name
