-- What candidates save, as totals over the tables: if a total is exact for each candidate that may
-- be extracted, it says which is the best, and when none saves.
use Rattle.std.proofs.Common.{◌≡◌, ℕ, ◌+◌, ◌-◌, ◌<◌, ◌≤◌, true, List, [], ◌∷◌, Less, refl, sym, subst, inl, inr, arith}
use Rattle.std.specs.List.{sum_by, AllByRecursion}
use Rattle.std.proofs.lemmas.List.Sums.{sum_by-cons}
use Rattle.circuit_model.specs.Counts.{literals_of, literals_of_table}
use Rattle.circuit_model.specs.Soundness.{given, IsSound}
use Rattle.circuit_model.specs.declared.circuit.Table.{Table}
use Rattle.circuit_model.specs.declared.circuit.Circuit.{Circuit}
use Rattle.alg_div.specs.Cubes.{Has}
use Rattle.net_candidates.specs.Candidates.{IsCandidate, literals_in}
use Rattle.net_candidates.specs.Extracting.{literals_after, IsListable, IsOpen, IsBest, IsDone}
use Rattle.net_candidates.specs.declared.rule.Rule.{Rule}
use Rattle.net_candidates.proofs.Divisors.{cover_table_literals}
use Rattle.net_candidates.proofs.Gains.{literals_extracted}
use Rattle.net_candidates.proofs.Proper.{candidate_small}
use Rattle.net_candidates.proofs.Usable.{tables_read, candidate_usable}
use Rattle.cover_names.specs.Literals.{NamedCover, cover_cmp}
use Rattle.net_core.specs.Fresh.{IsNewName}
use Rattle.net_core.proofs.NewNames.{new_name_one}
use Rattle.alg_tables.specs.Dividing.{divided}

-- how many literals tables lose when they are divided
abbrev pub lost : List ℕ → NamedCover → List Table → ℕ
lost name cover tables = sum_by (λ (table : Table). literals_of_table table - literals_of_table (divided name true cover table)) tables

-- sums of numbers, of which the second are no greater
sum_lost : {X : Type 0} (f g : X → ℕ) (xs : List X) → ((x : X) → Has x xs → g x ≤ f x) → sum_by g xs + sum_by (λ x. f x - g x) xs ≡ sum_by f xs
sum_lost f g [] small = refl
sum_lost f g (x ∷ xs) small =
    let rest : sum_by g xs + sum_by (λ y. f y - g y) xs ≡ sum_by f xs = sum_lost f g xs (λ y m. small y (inr m)) in
    let here : g x ≤ f x = small x (inl refl) in
    omega (arith, rest, here, sum_by-cons g x xs, sum_by-cons (λ y. f y - g y) x xs, sum_by-cons f x xs)

-- literals after and what the tables lose are the literals before and those of the new table
pub literals_balanced : (rule : Rule) (circuit : Circuit) (name : List ℕ) (cover : NamedCover) → IsSound circuit → IsNewName circuit name → IsCandidate rule circuit.tables cover
    → literals_after circuit name cover + lost name cover circuit.tables ≡ literals_of circuit + literals_in cover
unfolding literals_of
literals_balanced rule circuit name cover sound new is =
    let sum : sum_by (λ (table : Table). literals_of_table (divided name true cover table)) circuit.tables + lost name cover circuit.tables ≡ sum_by literals_of_table circuit.tables =
    sum_lost literals_of_table (λ (table : Table). literals_of_table (divided name true cover table)) circuit.tables (λ table m. candidate_small rule circuit name cover sound new is table m) in
    omega (arith, sum, literals_extracted circuit name cover, cover_table_literals name cover (candidate_usable rule (given circuit) circuit.tables cover (tables_read circuit sound) is).apart)

-- a total that is exact for each candidate that may be extracted
abbrev pub IsExact : Rule → Circuit → List ℕ → (NamedCover → ℕ) → Type 0
IsExact rule circuit name total =
    (cover : NamedCover) → IsOpen rule circuit name cover → literals_after circuit name cover + total cover ≡ literals_of circuit + literals_in cover

pub lost_exact : (rule : Rule) (circuit : Circuit) (name : List ℕ) → IsSound circuit → IsNewName circuit name → IsExact rule circuit name (λ cover. lost name cover circuit.tables)
lost_exact rule circuit name sound new cover open_ = literals_balanced rule circuit name cover sound new open_.candidate

saves_from : (after total before own : ℕ) → after + total ≡ before + own → own < total → after < before
saves_from after total before own e h = omega (arith, e, h)

most_from : (after total own after' total' own' before : ℕ) → after + total ≡ before + own → after' + total' ≡ before + own' → total' + own ≤ total + own' → after ≤ after'
most_from after total own after' total' own' before e e' h = omega (arith, e, e', h)

level_from : (after total own after' total' own' before : ℕ) → after + total ≡ before + own → after' + total' ≡ before + own' → after' ≡ after → total' + own ≡ total + own'
level_from after total own after' total' own' before e e' h = omega (arith, e, e', h)

none_from : (after total before own : ℕ) → after + total ≡ before + own → total ≤ own → before ≤ after
none_from after total before own e h = omega (arith, e, h)

-- the best candidate by a total: it saves, none saves more, and of those that save as much it is
-- the first
pub best_from : (rule : Rule) (circuit : Circuit) (name : List ℕ) (total : NamedCover → ℕ) (cover : NamedCover) → IsExact rule circuit name total → IsOpen rule circuit name cover → literals_in cover < total cover
    → ((other : NamedCover) → IsOpen rule circuit name other → total other + literals_in cover ≤ total cover + literals_in other)
    → ((other : NamedCover) → IsOpen rule circuit name other → total other + literals_in cover ≡ total cover + literals_in other → cover_cmp other cover ≡ Less → ⊥)
    → IsBest rule circuit name cover
best_from rule circuit name total cover exact may saves most first = record {
  may = may;
  saves = saves_from (literals_after circuit name cover) (total cover) (literals_of circuit) (literals_in cover) (exact cover may) saves;
  most = λ other is.
      most_from (literals_after circuit name cover) (total cover) (literals_in cover) (literals_after circuit name other) (total other) (literals_in other) (literals_of circuit)
      (exact cover may) (exact other is) (most other is);
  first = λ other is same.
      first other is
      (level_from (literals_after circuit name cover) (total cover) (literals_in cover) (literals_after circuit name other) (total other) (literals_in other) (literals_of circuit)
      (exact cover may) (exact other is) same);
}

-- if by a total none saves, a circuit is done
pub done_from : (rule : Rule) (circuit : Circuit) (name : List ℕ) (total : NamedCover → ℕ) → AllByRecursion (IsListable rule) circuit.tables → IsNewName circuit name
    → IsExact rule circuit name total → ((cover : NamedCover) → IsOpen rule circuit name cover → total cover ≤ literals_in cover) → IsDone rule circuit
done_from rule circuit name total listable new exact none = record {
  listable = listable;
  none = λ other free cover may.
      let same = new_name_one circuit other name free new in
      subst (λ (x : List ℕ). literals_of circuit ≤ literals_after circuit x cover) (sym same)
      (let is = subst (λ (x : List ℕ). IsOpen rule circuit x cover) same may in
      none_from (literals_after circuit name cover) (total cover) (literals_of circuit) (literals_in cover) (exact cover is) (none cover is));
}
