-- Gates of one name are one cell, also with one gate more.
use Rattle.std.proofs.Common.{◌≡◌, ℕ, zero, suc, Bool, true, false, if◌then◌else◌, Some, None, ◌⊎◌, inl, inr, List, [], ◌∷◌, ◌++◌, length, slice_get, bytes_eq, refl, sym, ◌∙◌, ap, subst, eqb-true}
use Rattle.std.specs.Cmp.Lexicographic.{pointwise}
use Rattle.std.proofs.lemmas.Option.{same_Some}
use Rattle.circuit_tables.proofs.Once.{and_left, and_right, same_name, itself}
use Rattle.sis_text.specs.declared.decimal.Decimal.{Decimal}
use Rattle.cover_ops.proofs.Expansion.{same_points}
use Rattle.genlib_expr.specs.Formula.{formula_of}
use Rattle.genlib_expr.specs.Functions.{function_of}
use Rattle.genlib_format.specs.declared.gate.Gate.{Gate}
use Rattle.genlib_format.specs.Reader.{gate_named, is_same_cell, with_blocks}
use Rattle.genlib_format.specs.Soundness.{IsOneCell}

one_itself : (gate : Gate) → IsOneCell gate gate
one_itself gate = record { output = refl; pins = refl; area = refl; function = λ point e. refl; delays = refl }

one_turned : (g h : Gate) → IsOneCell g h → IsOneCell h g
one_turned g h one = record {
  output = sym one.output;
  pins = sym one.pins;
  area = sym one.area;
  function = λ point e. sym (one.function point (e ∙ ap length (sym one.pins)));
  delays = sym one.delays;
}

one_through : (g h k : Gate) → IsOneCell g h → IsOneCell h k → IsOneCell g k
one_through g h k one two = record {
  output = one.output ∙ two.output;
  pins = one.pins ∙ two.pins;
  area = one.area ∙ two.area;
  function = λ point e. one.function point e ∙ two.function point (e ∙ ap length one.pins);
  delays = one.delays ∙ two.delays;
}

same_names : (names others : List (List ℕ)) → pointwise bytes_eq names others ≡ true → names ≡ others
same_names [] [] e = refl
same_names [] (other ∷ others) e = absurd (let off = e in cc)
same_names (name ∷ names) [] e = absurd (let off = e in cc)
same_names (name ∷ names) (other ∷ others) e =
    ap (λ (n : List ℕ). n ∷ names) (same_name name other (and_left _ _ e)) ∙ ap (λ (ns : List (List ℕ)). other ∷ ns) (same_names names others (and_right _ _ e))

same_number : (a b : Decimal) → a.0 ≡ b.0 → a ≡ b
same_number a b e = ap (λ (n : ℕ). record { 0 = n }) e

-- a gate that passed the test, with the delays of the first
pub one_settled : (first gate : Gate) → is_same_cell first gate ≡ true → IsOneCell first (with_blocks gate first)
unfolding is_same_cell
one_settled first gate e =
    let a = and_left _ _ e in
    let b = and_left _ _ a in
    record {
      output = same_name first.output gate.output (and_left _ _ b);
      pins = same_names first.pins gate.pins (and_right _ _ b);
      area = same_number first.area gate.area (eqb-true first.area.0 gate.area.0 (and_right _ _ a));
      function = λ point l. same_points (length first.pins) (function_of (formula_of first.expr)) (function_of (formula_of gate.expr)) (and_right _ _ e) point l;
      delays = refl;
    }

-- a gate of a name is found
pub record Found (gates : List Gate) (name : List ℕ) : Type 0 where
  pub gate : Gate
  pub is : gate_named gates name ≡ Some gate

pub found : (gates : List Gate) (i : ℕ) (gate : Gate) (name : List ℕ) → slice_get gates i ≡ Some gate → gate.cell ≡ name → Found gates name
unfolding gate_named
found [] i gate name at is = absurd (let off = at in cc)
found (first ∷ gates) i gate name at is = by (bytes_eq name first.cell) refl i at (λ k h. found gates k gate name h is)
  where
    by : (b : Bool) → bytes_eq name first.cell ≡ b → (i : ℕ) → slice_get (first ∷ gates) i ≡ Some gate → ((k : ℕ) → slice_get gates k ≡ Some gate → Found gates name) → Found (first ∷ gates) name
    by true e i at rest = record { gate = first; is = rw e refl }
    by false e zero at rest =
        let own : first ≡ gate = same_Some first gate at in
        let hit : bytes_eq name first.cell ≡ true = ap (λ (n : List ℕ). bytes_eq n first.cell) (sym is ∙ ap (λ (g : Gate). g.cell) (sym own)) ∙ itself first.cell in
        absurd (let off = sym hit ∙ e in cc)
    by false e (suc i) at rest = let r = rest i at in record { gate = r.gate; is = rw e r.is }

-- the first gate of a name has an index and has the name
pub record Placed (gates : List Gate) (name : List ℕ) (gate : Gate) : Type 0 where
  pub place : ℕ
  pub at : slice_get gates place ≡ Some gate
  pub named : gate.cell ≡ name

pub placed : (gates : List Gate) (name : List ℕ) (gate : Gate) → gate_named gates name ≡ Some gate → Placed gates name gate
unfolding gate_named
placed [] name gate is = absurd (let off = is in cc)
placed (first ∷ gates) name gate is = by (bytes_eq name first.cell) refl is (λ h. placed gates name gate h)
  where
    by : (b : Bool) → bytes_eq name first.cell ≡ b → (if b then Some first else gate_named gates name) ≡ Some gate → (gate_named gates name ≡ Some gate → Placed gates name gate) → Placed (first ∷ gates) name gate
    by true e h rest = let one = same_Some first gate h in record { place = 0; at = h; named = ap (λ (g : Gate). g.cell) (sym one) ∙ sym (same_name name first.cell e) }
    by false e h rest = let r = rest h in record { place = suc r.place; at = r.at; named = r.named }

-- the last of some gates, or one before it
last_or : (gates : List Gate) (last : Gate) (i : ℕ) (gate : Gate) → slice_get (gates ++ last ∷ []) i ≡ Some gate → (slice_get gates i ≡ Some gate) ⊎ (last ≡ gate)
last_or [] last zero gate at = inr (same_Some last gate at)
last_or [] last (suc i) gate at = absurd (let off = at in cc)
last_or (first ∷ gates) last zero gate at = inl at
last_or (first ∷ gates) last (suc i) gate at = last_or gates last i gate at

-- gates of one name are one cell
abbrev pub AreCells : List Gate → Type 0
AreCells gates = (i j : ℕ) (gate other : Gate) → slice_get gates i ≡ Some gate → slice_get gates j ≡ Some other → gate.cell ≡ other.cell → IsOneCell gate other

-- what the gates before it imply for the last
abbrev pub Joins : List Gate → Gate → Type 0
Joins gates last = (i : ℕ) (gate : Gate) → slice_get gates i ≡ Some gate → gate.cell ≡ last.cell → IsOneCell gate last

pub cells_more : (gates : List Gate) (last : Gate) → AreCells gates → Joins gates last → AreCells (gates ++ last ∷ [])
cells_more gates last cells joins i j gate other at there named = by (last_or gates last i gate at) (last_or gates last j other there)
  where
    by : (slice_get gates i ≡ Some gate) ⊎ (last ≡ gate) → (slice_get gates j ≡ Some other) ⊎ (last ≡ other) → IsOneCell gate other
    by (inl a) (inl b) = cells i j gate other a b named
    by (inl a) (inr b) = subst (IsOneCell gate) b (joins i gate a (named ∙ ap (λ (g : Gate). g.cell) (sym b)))
    by (inr a) (inl b) = subst (λ (g : Gate). IsOneCell g other) a (one_turned other last (joins j other b (sym named ∙ ap (λ (g : Gate). g.cell) (sym a))))
    by (inr a) (inr b) = subst (λ (g : Gate). IsOneCell g other) (sym b ∙ a) (one_itself other)

-- a gate of a new name joins the others
pub new_joins : (gates : List Gate) (last : Gate) → gate_named gates last.cell ≡ None → Joins gates last
new_joins gates last none i gate at named =
    let f = found gates i gate last.cell at named in
    absurd (let off = sym none ∙ f.is in cc)

-- a gate that is the cell of the first of its name joins the others
pub known_joins : (gates : List Gate) (last first : Gate) → AreCells gates → gate_named gates last.cell ≡ Some first → IsOneCell first last → Joins gates last
known_joins gates last first cells is one i gate at named =
    let p = placed gates last.cell first is in
    one_through gate first last (cells i p.place gate first at p.at (named ∙ sym p.named)) one
