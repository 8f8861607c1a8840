-- The savings of candidates, kept while tables are added and change.
use Rattle.std.proofs.Common.{◌≡◌, ◌||◌, ℕ, ◌+◌, ◌<◌, ◌==◌, zero, suc, Bool, true, false, Option, Some, None, List, [], ◌∷◌, ◌++◌, length, get_or, take, set, slice_get, bytes_eq, if◌then◌else◌, refl, sym, ap, ◌∙◌, subst, inl, inr, arith, ◌&&◌}
use Rattle.std.proofs.lemmas.Bool.{false≢true, eq-eqb, or_parts, or_cases, or_left, or_right, cases_lt}
use Rattle.std.proofs.lemmas.List.{length-set, length-append}
use Rattle.std.proofs.lemmas.Option.{none-some, same_Some}
use Rattle.circuit_model.specs.declared.circuit.Table.{Table}
use Rattle.circuit_model.specs.Names.{has}
use Rattle.circuit_laws.proofs.Names.{has_neither, has_none, same_name, name_itself}
use Rattle.alg_div.specs.Cubes.{Has}
use Rattle.net_candidates.specs.declared.rule.Rule.{Rule}
use Rattle.net_readers.specs.Fanouts.{is_in}
use Rattle.cover_names.specs.Literals.{NamedCover}
use Rattle.cover_names.specs.Cubes.{names_in}
use Rattle.alg_tables.specs.Dividing.{divided}
use Rattle.net_core.proofs.Lookups.{get_set_other}
use Rattle.net_work.specs.Placed.{Placed, joined, table_at, with_slot, with_last}
use Rattle.net_work.proofs.Indexed.{place_within}
use Rattle.net_savings.specs.Meeting.{IsAside}
use Rattle.net_savings.specs.Savings.{AreNotes}
use Rattle.net_savings.proofs.KeptLists.{before, cleared, kept_set, kept_push, within}
use Rattle.net_savings.proofs.Refreshed.{has_name_next}
use Rattle.net_savings.proofs.Sharers.{shared_by_same}
use Rattle.net_savings.proofs.Untouched.{exact_after_set, exact_after_add, unread_all}

-- an index is has_none among indices, nor the last of them
not_pushed : (places : List ℕ) (place at : ℕ) → is_in (places ++ place ∷ []) at ≡ false → (is_in places at ≡ false) × (place ≡ at → ⊥)
not_pushed [] place at h = (refl, λ e. false≢true (sym (or_parts (place == at) false h).0 ∙ eq-eqb place at e))
not_pushed (first ∷ places) place at h =
    let parts = or_parts (first == at) (is_in (places ++ place ∷ []) at) h in
    let rest = not_pushed places place at parts.1 in
    (none (first == at) (is_in places at) parts.0 rest.0, rest.1)
  where
    none : (a b : Bool) → a ≡ false → b ≡ false → (a || b) ≡ false
    none true b h k = absurd (false≢true (sym h))
    none false b h k = k

-- the items of a list with one more
pub pushed_some : (own : List (Option (List NamedCover))) (at : ℕ) (covers : List NamedCover) → slice_get (own ++ None ∷ []) at ≡ Some (Some covers) → slice_get own at ≡ Some (Some covers)
pushed_some [] zero covers e = absurd (none-some covers (same_Some None (Some covers) e))
pushed_some [] (suc at) covers e = absurd (none-some (Some covers) e)
pushed_some (first ∷ own) zero covers e = e
pushed_some (first ∷ own) (suc at) covers e = pushed_some own at covers e

stays_some : (own : List (Option (List NamedCover))) (at : ℕ) (covers : List NamedCover) → slice_get own at ≡ Some (Some covers) → slice_get (own ++ None ∷ []) at ≡ Some (Some covers)
stays_some [] at covers e = absurd (none-some (Some covers) e)
stays_some (first ∷ own) zero covers e = e
stays_some (first ∷ own) (suc at) covers e = stays_some own at covers e

-- as many indices as there are, and one more
pub first_more : (places : List ℕ) (place : ℕ) → ((at : ℕ) → at < place → is_in places at ≡ true) → (at : ℕ) → at < place + 1 → is_in (places ++ place ∷ []) at ≡ true
first_more places place all at below =
    elim (cases_lt at place) as (λ _. is_in (places ++ place ∷ []) at ≡ true) [
      | inl less ↦ in_front places at (all at less)
      | inr more ↦ in_back places (let same : place ≡ at = omega (arith, below, more) in same)
    ]
  where
    in_front : (places : List ℕ) (at : ℕ) → is_in places at ≡ true → is_in (places ++ place ∷ []) at ≡ true
    in_front [] at h = absurd (false≢true h)
    in_front (first ∷ places) at h = elim (or_cases (first == at) (is_in places at) h) as (λ _. is_in (first ∷ (places ++ place ∷ [])) at ≡ true) [
      | inl e ↦ or_left (first == at) (is_in (places ++ place ∷ []) at) e
      | inr k ↦ or_right (first == at) (is_in (places ++ place ∷ []) at) (in_front places at k)
    ]

    in_back : (places : List ℕ) → place ≡ at → is_in (places ++ place ∷ []) at ≡ true
    in_back [] e = or_left (place == at) false (eq-eqb place at e)
    in_back (first ∷ places) e = or_right (first == at) (is_in (places ++ place ∷ []) at) (in_back places e)

-- a table before the last
not_last : (slots : List (Option Table)) (slot : Option Table) (at : ℕ) (table : Table) → (length slots ≡ at → ⊥) → table_at (slots ++ slot ∷ []) at ≡ Some table → table_at slots at ≡ Some table
not_last [] slot zero table away e = absurd (away refl)
not_last [] slot (suc at) table away e = absurd (none-some table e)
not_last (first ∷ slots) slot zero table away e = e
not_last (first ∷ slots) slot (suc at) table away e = not_last slots slot at table (λ k. away (omega (arith, k))) e

-- ---- names that are touched

-- names among which are those of two lists
abbrev pub IsUnion : List (List ℕ) → List (List ℕ) → List (List ℕ) → Type 0
IsUnion one other both = (name : List ℕ) → has both name ≡ false → (has one name ≡ false) × (has other name ≡ false)

-- a name that is added to a set
pub put_away : (keys more : List (List ℕ)) (name query : List ℕ) → more ≡ (if has keys name then keys else keys ++ name ∷ []) → has more query ≡ false → (has keys query ≡ false) × (bytes_eq query name ≡ false)
put_away keys more name query e away = cases (has keys name) refl (sym (ap (λ (names : List (List ℕ)). has names query) e) ∙ away)
  where
    apart : (b : Bool) → bytes_eq query name ≡ b → has keys name ≡ true → has keys query ≡ false → bytes_eq query name ≡ false
    apart true same there h = absurd (false≢true (sym h ∙ (ap (has keys) (same_name query name same) ∙ there)))
    apart false same there h = same

    alone : (b : Bool) → (b || false) ≡ false → b ≡ false
    alone true h = absurd (false≢true (sym h))
    alone false h = refl

    cases : (b : Bool) → has keys name ≡ b → has (if b then keys else keys ++ name ∷ []) query ≡ false → (has keys query ≡ false) × (bytes_eq query name ≡ false)
    cases true there h = (h, apart (bytes_eq query name) refl there h)
    cases false there h = (let parts = has_neither keys (name ∷ []) query h in (parts.0, alone (bytes_eq query name) parts.1))

-- one more name of a list
pub names_away : (names : List (List ℕ)) (i : ℕ) (one d query : List ℕ) → i < length names → one ≡ get_or names i d → has (take i names) query ≡ false → bytes_eq query one ≡ false → has (take (i + 1) names) query ≡ false
names_away names i one d query below is before apart = cases (has (take (i + 1) names) query) refl
  where
    cases : (b : Bool) → has (take (i + 1) names) query ≡ b → has (take (i + 1) names) query ≡ false
    cases false e = e
    cases true e = elim (has_name_next names i one d query below is e) as (λ _. has (take (i + 1) names) query ≡ false) [
      | inl m ↦ absurd (false≢true (sym before ∙ m))
      | inr same ↦ absurd (false≢true (sym apart ∙ (ap (λ (name : List ℕ). bytes_eq name one) same ∙ name_itself one)))
    ]

-- ---- covers that are met

left_false : (a b : Bool) → a ≡ false → (a && b) ≡ false
left_false true b h = absurd (false≢true (sym h))
left_false false b h = refl

right_false : (a b : Bool) → b ≡ false → (a && b) ≡ false
right_false true b h = h
right_false false b h = refl

-- a cover that changes do not concern: it was not to be renewed, and does not divide two tables
record IsCalm (touched : List (List ℕ)) (met : NamedCover → Bool) (old new : Table) (name : List ℕ) (cover : NamedCover) : Type 0 where
  away : (has touched name && met cover) ≡ false
  before : (other : List ℕ) → divided other true cover old ≡ old
  after : (other : List ℕ) → divided other true cover new ≡ new

calm_from : (touched names : List (List ℕ)) (met new_met : NamedCover → Bool) (old new : Table) → ((name : List ℕ) → has names name ≡ false → has (touched ++ (old.inputs ++ new.inputs)) name ≡ false)
    → IsAside met new_met old new → (name : List ℕ) (cover : NamedCover) → has (names_in cover) name ≡ true → (has names name && new_met cover) ≡ false → IsCalm touched met old new name cover
calm_from touched names met new_met old new fewer aside name cover named away = cases (has names name) refl away
  where
    cases : (b : Bool) → has names name ≡ b → (b && new_met cover) ≡ false → IsCalm touched met old new name cover
    cases true h k = let (first, before, after) = aside cover k in record { away = right_false (has touched name) (met cover) first; before = before; after = after }
    cases false h k =
        let first = has_neither touched (old.inputs ++ new.inputs) name (fewer name h) in
        let second = has_neither old.inputs new.inputs name first.1 in
        record {
          away = left_false (has touched name) (met cover) first.0;
          before = unread_all cover old name named second.0;
          after = unread_all cover new name named second.1;
        }

module _ (rule : Rule) (now : Placed) (saving : NamedCover → Option ℕ) (under : List ℕ → List NamedCover) (own : List (Option (List NamedCover))) (touched : List (List ℕ)) (met : NamedCover → Bool) (fresh : List ℕ)
    (notes : AreNotes rule now saving under own touched met fresh) where
  pub notes_set : (place : ℕ) (old new : Table) → table_at now.slots place ≡ Some old → new.output ≡ old.output → (names : List (List ℕ)) (new_met : NamedCover → Bool)
      → ((name : List ℕ) → has names name ≡ false → has (touched ++ (old.inputs ++ new.inputs)) name ≡ false) → IsAside met new_met old new
      → AreNotes rule (with_slot now place (Some new)) saving under (set own place None) names new_met (fresh ++ place ∷ [])
  notes_set place old new there same names new_met fewer aside = record {
    found = notes.found;
    lists = kept_set rule now.slots own notes.lists place (Some new);
    long = length-set own place None ∙ (notes.long ∙ sym (length-set now.slots place (Some new)));
    exact = λ name cover m away number e.
        (let calm = calm_from touched names met new_met old new fewer aside name cover (notes.found.named name cover m) away in
        exact_after_set cover now place number old new there same calm.before calm.after (notes.exact name cover m calm.away number e));
    noted = λ at covers e. notes.noted at covers (cleared own place at covers e).0;
    shared = λ one other cover (covers, e) (others, k) by.
        (let first = cleared own place one covers e in
        let second = cleared own place other others k in
        notes.shared one other cover (covers, first.0) (others, second.0)
        (shared_by_same rule (set now.slots place (Some new)) now.slots one other cover (ap joined (get_set_other now.slots place one (Some new) first.1)) (ap joined (get_set_other now.slots place other (Some new) second.1)) by));
    listed = λ at table stands away.
        (let parts = not_pushed fresh place at away in
        let before : table_at now.slots at ≡ Some table = sym (ap joined (get_set_other now.slots place at (Some new) (λ e. parts.1 (sym e)))) ∙ stands in
        let (covers, is) = notes.listed at table before parts.0 in
        (covers, get_set_other own place at None (λ e. parts.1 (sym e)) ∙ is));
  }

  pub notes_add : (new : Table) (names : List (List ℕ)) (new_met : NamedCover → Bool) → ((name : List ℕ) → has names name ≡ false → has (touched ++ (new.inputs ++ new.inputs)) name ≡ false)
      → IsAside met new_met new new → AreNotes rule (with_last now new) saving under (own ++ None ∷ []) names new_met (fresh ++ length now.slots ∷ [])
  notes_add new names new_met fewer aside = record {
    found = notes.found;
    lists = record {
      long = omega (arith, notes.lists.long, length-append own (None ∷ []), length-append now.slots (Some new ∷ []));
      each = λ at covers e. (kept_push rule now.slots own notes.lists (Some new)).each at covers (pushed_some own at covers e);
    };
    long = omega (arith, notes.long, length-append own (None ∷ []), length-append now.slots (Some new ∷ []));
    exact = λ name cover m away number e.
        (let calm = calm_from touched names met new_met new new fewer aside name cover (notes.found.named name cover m) away in
        exact_after_add cover now number new calm.after (notes.exact name cover m calm.away number e));
    noted = λ at covers e. notes.noted at covers (pushed_some own at covers e);
    shared = λ one other cover (covers, e) (others, k) by.
        (let first = pushed_some own one covers e in
        let second = pushed_some own other others k in
        notes.shared one other cover (covers, first) (others, second)
        (shared_by_same rule (now.slots ++ Some new ∷ []) now.slots one other cover (before_last one covers first) (before_last other others second) by));
    listed = λ at table stands away.
        (let parts = not_pushed fresh (length now.slots) at away in
        let (covers, is) = notes.listed at table (not_last now.slots (Some new) at table parts.1 stands) parts.0 in
        (covers, stays_some own at covers is));
  }
    where
      before_last : (at : ℕ) (covers : List NamedCover) → slice_get own at ≡ Some (Some covers) → table_at (now.slots ++ Some new ∷ []) at ≡ table_at now.slots at
      before_last at covers e = let below : at < length own = within own at (Some covers) e in before now.slots (Some new) at (omega (arith, below, notes.lists.long))

  pub notes_touched : (new_own : List (Option (List NamedCover))) (one two before_names now_names : List (List ℕ)) (new_met : NamedCover → Bool) (new_fresh : List ℕ) (place : ℕ) → new_own ≡ set own place None
      → IsUnion touched before_names one → IsUnion one now_names two → new_fresh ≡ fresh ++ place ∷ [] → (old new : Table) → table_at now.slots place ≡ Some old → new.output ≡ old.output
      → before_names ≡ old.inputs → now_names ≡ new.inputs → IsAside met new_met old new → AreNotes rule (with_slot now place (Some new)) saving under new_own two new_met new_fresh
  notes_touched new_own one two before_names now_names new_met new_fresh place own_is one_is two_is fresh_is old new there same old_is new_is aside =
      subst (λ (o : List (Option (List NamedCover))). AreNotes rule (with_slot now place (Some new)) saving under o two new_met new_fresh) (sym own_is)
      (subst (λ (places : List ℕ). AreNotes rule (with_slot now place (Some new)) saving under (set own place None) two new_met places) (sym fresh_is)
      (notes_set place old new there same two new_met
      (λ name away.
      (let second = two_is name away in
      let first = one_is name second.0 in
      has_none touched (old.inputs ++ new.inputs) name first.0
      (has_none old.inputs new.inputs name (subst (λ (names : List (List ℕ)). has names name ≡ false) old_is first.1) (subst (λ (names : List (List ℕ)). has names name ≡ false) new_is second.1))))
      aside))

  pub notes_pushed : (new_own : List (Option (List NamedCover))) (names inputs : List (List ℕ)) (new_met : NamedCover → Bool) (new_fresh : List ℕ) (long : ℕ) (new : Table) → new_own ≡ own ++ None ∷ [] → IsUnion touched inputs names
      → inputs ≡ new.inputs → new_fresh ≡ fresh ++ long ∷ [] → long ≡ length now.slots → IsAside met new_met new new → AreNotes rule (with_last now new) saving under new_own names new_met new_fresh
  notes_pushed new_own names inputs new_met new_fresh long new own_is names_is inputs_is fresh_is long_is aside =
      subst (λ (o : List (Option (List NamedCover))). AreNotes rule (with_last now new) saving under o names new_met new_fresh) (sym own_is)
      (subst (λ (places : List ℕ). AreNotes rule (with_last now new) saving under (own ++ None ∷ []) names new_met places) (sym (fresh_is ∙ ap (λ (n : ℕ). fresh ++ n ∷ []) long_is))
      (notes_add new names new_met
      (λ name away.
      (let parts = names_is name away in
      let here = subst (λ (ns : List (List ℕ)). has ns name ≡ false) inputs_is parts.1 in
      has_none touched (new.inputs ++ new.inputs) name parts.0 (has_none new.inputs new.inputs name here here)))
      aside))

-- no saving is set, and all indices are fresh
pub notes_begin : (rule : Rule) (now : Placed) (saving : NamedCover → Option ℕ) (under : List ℕ → List NamedCover) (own : List (Option (List NamedCover))) (met : NamedCover → Bool) (fresh : List ℕ)
    → ((cover : NamedCover) → saving cover ≡ None) → ((name : List ℕ) → under name ≡ []) → length own ≡ length now.slots
    → ((at : ℕ) (covers : List NamedCover) → slice_get own at ≡ Some (Some covers) → ⊥) → ((at : ℕ) → at < length now.slots → is_in fresh at ≡ true)
    → AreNotes rule now saving under own [] met fresh
notes_begin rule now saving under own met fresh nothing none long empty all = record {
  found = record {
    found = λ cover number e. absurd (none-some number (sym (nothing cover) ∙ e));
    named = λ name cover m. absurd (subst (λ (covers : List NamedCover). Has cover covers) (none name) m);
  };
  lists = record { long = omega (arith, long); each = λ at covers e. absurd (empty at covers e) };
  long = long;
  exact = λ name cover m away number e. absurd (none-some number (sym (nothing cover) ∙ e));
  noted = λ at covers e. absurd (empty at covers e);
  shared = λ one other cover (covers, e) second by. absurd (empty one covers e);
  listed = λ at table stands away. absurd (false≢true (sym away ∙ all at (place_within now.slots at table stands)));
}
