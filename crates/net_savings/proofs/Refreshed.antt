-- The savings of candidates are recomputed where changes touched them, and all of them are exact
-- then.
use Rattle.std.proofs.Common.{◌≡◌, ◌⊎◌, ℕ, ◌+◌, ◌<◌, ◌≤◌, zero, suc, Bool, true, false, Option, Some, None, List, [], ◌∷◌, ◌++◌, map, length, take, get_or, set, slice_get, refl, sym, ap, ◌∙◌, subst, inl, inr, arith, bytes_eq, ◌==◌, ◌&&◌, filter, ap₂}
use Rattle.std.proofs.lemmas.Bool.{false≢true, or_cases, or_left, or_right, eqb-true, cases_eq}
use Rattle.std.proofs.lemmas.List.{length-set, take_more}
use Rattle.std.proofs.lemmas.List.Sums.{sum_by-cons}
use Rattle.std.proofs.lemmas.Option.{none-some, same_Some}
use Rattle.circuit_model.specs.Names.{has}
use Rattle.circuit_model.specs.Soundness.{IsSound}
use Rattle.circuit_model.specs.declared.circuit.Table.{Table}
use Rattle.circuit_laws.proofs.Names.{has_either, same_name}
use Rattle.alg_div.specs.Cubes.{Has}
use Rattle.alg_div.proofs.Lists.{Has-append}
use Rattle.net_candidates.specs.Candidates.{literals_in}
use Rattle.alg_tables.proofs.Quotients.{has_kept}
use Rattle.net_candidates.specs.declared.rule.Rule.{Rule}
use Rattle.net_readers.specs.Fanouts.{is_in}
use Rattle.cover_names.specs.Literals.{Cube, NamedCover}
use Rattle.cover_names.specs.Cubes.{names_in}
use Rattle.cover_names.specs.declared.literal.Literal.{Literal}
use Rattle.net_core.specs.Fresh.{IsNewName}
use Rattle.net_work.specs.Placed.{Placed, standing, circuit_of, table_at}
use Rattle.net_work.proofs.Indexed.{place_within}
use Rattle.net_savings.specs.Ranking.{KnownCovers, saving_in, covers_under}
use Rattle.net_savings.specs.Listing.{AreOwn, IsListed}
use Rattle.net_savings.specs.Savings.{IsRight, IsNoted, AreNotes, IsGrown, AreTrue}
use Rattle.net_savings.specs.Sharing.{IsSharedBy, AreSharedHere}
use Rattle.net_savings.proofs.Sharers.{shared_by_turned}
use Rattle.net_savings.proofs.Slots.{stands}
use Rattle.net_savings.proofs.Found.{candidate_some}
use Rattle.net_savings.proofs.Owning.{own_candidate}

-- ---- more savings are set

pub grown_both : (placed : Placed) (old between new : KnownCovers) → IsGrown placed old between → IsGrown placed between new → IsGrown placed old new
grown_both placed old between new one other = record {
  right = λ cover right. other.right cover (one.right cover right);
  noted = λ cover noted. other.noted cover (one.noted cover noted);
  found = λ found. other.found (one.found found);
  anew = λ name cover m.
      elim (other.anew name cover m) as (λ _. Has cover (covers_under old name) ⊎ IsRight placed (saving_in new) cover) [
        | inl k ↦ elim (one.anew name cover k) as (λ _. Has cover (covers_under old name) ⊎ IsRight placed (saving_in new) cover) [
          | inl n ↦ inl n
          | inr right ↦ inr (other.right cover right)
        ]
        | inr right ↦ inr right
      ];
}

-- a name of a cover is that of a literal
pub named_literal : (cover : NamedCover) (name : List ℕ) → has (names_in cover) name ≡ true → 1 ≤ literals_in cover
named_literal [] name h = absurd (false≢true h)
named_literal (cube ∷ cover) name h =
    elim (has_either (map (λ (literal : Literal). literal.name) cube) (names_in cover) name h) as (λ _. 1 ≤ literals_in (cube ∷ cover)) [
      | inl m ↦ (let here : 1 ≤ length cube = some cube m in omega (arith, here, sum_by-cons length cube cover))
      | inr m ↦ (let rest : 1 ≤ literals_in cover = named_literal cover name m in omega (arith, rest, sum_by-cons length cube cover))
    ]
  where
    some : (cube : Cube) → has (map (λ (literal : Literal). literal.name) cube) name ≡ true → 1 ≤ length cube
    some [] m = absurd (false≢true m)
    some (literal ∷ cube) m = omega arith

-- one more item
pub has_next : {X : Type 0} (xs : List X) (i : ℕ) (x d y : X) → i < length xs → x ≡ get_or xs i d → Has y (take (i + 1) xs) → Has y (take i xs) ⊎ (y ≡ x)
has_next xs i x d y below is m =
    elim (Has-append y (take i xs) (x ∷ []) (subst (λ (ys : List _). Has y ys) (take_more xs i d below ∙ ap (λ z. take i xs ++ z ∷ []) (sym is)) m)) as (λ _. Has y (take i xs) ⊎ (y ≡ x)) [
      | inl k ↦ inl k
      | inr k ↦ elim k as (λ _. Has y (take i xs) ⊎ (y ≡ x)) [ inl e ↦ inr e | inr none ↦ absurd none ]
    ]

pub has_name_next : (names : List (List ℕ)) (i : ℕ) (one d name : List ℕ) → i < length names → one ≡ get_or names i d → has (take (i + 1) names) name ≡ true → (has (take i names) name ≡ true) ⊎ (name ≡ one)
has_name_next names i one d name below is h =
    elim (has_either (take i names) (one ∷ []) name (subst (λ (ns : List (List ℕ)). has ns name ≡ true) (take_more names i d below ∙ ap (λ (n : List ℕ). take i names ++ n ∷ []) (sym is)) h))
    as (λ _. (has (take i names) name ≡ true) ⊎ (name ≡ one)) [
      | inl k ↦ inl k
      | inr k ↦ inr (one_name k)
    ]
  where
    one_name : has (one ∷ []) name ≡ true → name ≡ one
    one_name k = elim (or_cases (bytes_eq name one) false k) as (λ _. name ≡ one) [ inl e ↦ same_name name one e | inr none ↦ absurd (false≢true none) ]

pub in_last : (places : List ℕ) (last at : ℕ) → is_in (places ++ last ∷ []) at ≡ true → (is_in places at ≡ true) ⊎ (last ≡ at)
in_last [] last at h =
    elim (or_cases (last == at) false h) as (λ _. (is_in [] at ≡ true) ⊎ (last ≡ at)) [ inl e ↦ inr (eqb-true last at e) | inr none ↦ absurd (false≢true none) ]
in_last (first ∷ places) last at h =
    elim (or_cases (first == at) (is_in (places ++ last ∷ []) at) h) as (λ _. (is_in (first ∷ places) at ≡ true) ⊎ (last ≡ at)) [
      | inl e ↦ inl (or_left (first == at) (is_in places at) e)
      | inr k ↦ elim (in_last places last at k) as (λ _. (is_in (first ∷ places) at ≡ true) ⊎ (last ≡ at)) [ inl n ↦ inl (or_right (first == at) (is_in places at) n) | inr e ↦ inr e ]
    ]

pub in_next : (places : List ℕ) (i place d at : ℕ) → i < length places → place ≡ get_or places i d → is_in (take (i + 1) places) at ≡ true → (is_in (take i places) at ≡ true) ⊎ (place ≡ at)
in_next places i place d at below is h =
    in_last (take i places) place at (subst (λ (ps : List ℕ). is_in ps at ≡ true) (take_more places i d below ∙ ap (λ (p : ℕ). take i places ++ p ∷ []) (sym is)) h)

module _ (placed : Placed) (old new : KnownCovers) (grown : IsGrown placed old new) where
  -- the covers that were listed under a name and are met are right, and so are those that are
  -- listed there now
  pub under_right : (covers : List NamedCover) (name : List ℕ) (met : NamedCover → Bool) → covers ≡ filter met (covers_under old name) → ((cover : NamedCover) → Has cover covers → IsRight placed (saving_in new) cover)
      → (cover : NamedCover) → met cover ≡ true → Has cover (covers_under new name) → IsRight placed (saving_in new) cover
  under_right covers name met is right cover by m =
      elim (grown.anew name cover m) as (λ _. IsRight placed (saving_in new) cover) [
        | inl k ↦ right cover (subst (λ (cs : List NamedCover). Has cover cs) (sym is) (has_kept met (covers_under old name) cover k by))
        | inr here ↦ here
      ]

  -- covers under names stay right
  pub touched_next : (names : List (List ℕ)) (met : NamedCover → Bool) (i : ℕ) (one d : List ℕ) → i < length names → one ≡ get_or names i d
      → ((under : List ℕ) (cover : NamedCover) → has (take i names) under ≡ true → met cover ≡ true → Has cover (covers_under old under) → IsRight placed (saving_in old) cover)
      → ((cover : NamedCover) → met cover ≡ true → Has cover (covers_under new one) → IsRight placed (saving_in new) cover)
      → (under : List ℕ) (cover : NamedCover) → has (take (i + 1) names) under ≡ true → met cover ≡ true → Has cover (covers_under new under) → IsRight placed (saving_in new) cover
  touched_next names met i one d below is before here under cover h by m =
      elim (has_name_next names i one d under below is h) as (λ _. IsRight placed (saving_in new) cover) [
        | inl k ↦ elim (grown.anew under cover m) as (λ _. IsRight placed (saving_in new) cover) [
          | inl n ↦ grown.right cover (before under cover k by n)
          | inr right ↦ right
        ]
        | inr e ↦ here cover by (subst (λ (name : List ℕ). Has cover (covers_under new name)) e m)
      ]

  pub right_next : (covers : List NamedCover) (i : ℕ) (one d : NamedCover) → i < length covers → one ≡ get_or covers i d
      → ((cover : NamedCover) → Has cover (take i covers) → IsRight placed (saving_in old) cover) → IsRight placed (saving_in new) one
      → (cover : NamedCover) → Has cover (take (i + 1) covers) → IsRight placed (saving_in new) cover
  right_next covers i one d below is before here cover m =
      elim (has_next covers i one d cover below is m) as (λ _. IsRight placed (saving_in new) cover) [
        | inl k ↦ grown.right cover (before cover k)
        | inr e ↦ subst (λ (c : NamedCover). IsRight placed (saving_in new) c) (sym e) here
      ]

  pub noted_next : (covers : List NamedCover) (i : ℕ) (one d : NamedCover) → i < length covers → one ≡ get_or covers i d
      → ((cover : NamedCover) → Has cover (take i covers) → IsNoted (saving_in old) cover) → IsNoted (saving_in new) one
      → (cover : NamedCover) → Has cover (take (i + 1) covers) → IsNoted (saving_in new) cover
  noted_next covers i one d below is before here cover m =
      elim (has_next covers i one d cover below is m) as (λ _. IsNoted (saving_in new) cover) [
        | inl k ↦ grown.noted cover (before cover k)
        | inr e ↦ subst (λ (c : NamedCover). IsNoted (saving_in new) c) (sym e) here
      ]

-- ---- lists

got_set : (own : List (Option (List NamedCover))) (place at : ℕ) (covers others : List NamedCover) → slice_get (set own place (Some covers)) at ≡ Some (Some others)
    → (slice_get own at ≡ Some (Some others)) ⊎ ((at ≡ place) × (covers ≡ others))
got_set [] place at covers others e = absurd (none-some (Some others) e)
got_set (first ∷ own) zero zero covers others e = inr (refl, same_Some covers others (same_Some (Some covers) (Some others) e))
got_set (first ∷ own) zero (suc at) covers others e = inl e
got_set (first ∷ own) (suc place) zero covers others e = inl e
got_set (first ∷ own) (suc place) (suc at) covers others e =
    elim (got_set own place at covers others e) as (λ _. (slice_get own at ≡ Some (Some others)) ⊎ ((suc at ≡ suc place) × (covers ≡ others))) [ inl k ↦ inl k | inr p ↦ inr (ap suc p.0, p.1) ]

pub list_stays : (own : List (Option (List NamedCover))) (place at : ℕ) (covers : List NamedCover) → IsListed own at → IsListed (set own place (Some covers)) at
list_stays [] place at covers listed = listed
list_stays (first ∷ own) zero zero covers listed = (covers, refl)
list_stays (first ∷ own) zero (suc at) covers listed = listed
list_stays (first ∷ own) (suc place) zero covers listed = listed
list_stays (first ∷ own) (suc place) (suc at) covers listed = list_stays own place at covers listed

pub list_here : (own : List (Option (List NamedCover))) (place : ℕ) (covers : List NamedCover) → place < length own → IsListed (set own place (Some covers)) place
list_here [] place covers below = absurd (omega (arith, below))
list_here (first ∷ own) zero covers below = (covers, refl)
list_here (first ∷ own) (suc place) covers below = list_here own place covers (omega (arith, below))

-- what is listed after one more index is
listed_was : (own : List (Option (List NamedCover))) (place at : ℕ) (covers : List NamedCover) → IsListed (set own place (Some covers)) at → IsListed own at ⊎ (at ≡ place)
listed_was own place at covers (others, e) =
    elim (got_set own place at covers others e) as (λ _. IsListed own at ⊎ (at ≡ place)) [ inl k ↦ inl (others, k) | inr p ↦ inr p.0 ]

-- an index is added to those that are listed, and the savings are set of what its table gives by
-- itself, and together with the listed ones and with itself
module _ (rule : Rule) (placed : Placed) (known new : KnownCovers) (own : List (Option (List NamedCover))) (place : ℕ) (covers : List NamedCover) (together : List NamedCover) (is : AreTrue rule placed known own)
    (grown : IsGrown placed known new) (made : AreOwn rule (table_at placed.slots place) covers) (noted : (cover : NamedCover) → Has cover covers → IsNoted (saving_in new) cover)
    (shared : AreSharedHere rule placed.slots own place together) (noted_together : (cover : NamedCover) → Has cover together → IsNoted (saving_in new) cover) where
  -- of two listed indices the second is the new one
  with_place : (one : ℕ) (cover : NamedCover) → IsListed own one ⊎ (one ≡ place) → IsSharedBy rule placed.slots one place cover → IsNoted (saving_in new) cover
  with_place one cover was by =
      elim (cases_eq one place) as (λ _. IsNoted (saving_in new) cover) [
        | inl e ↦ noted_together cover (shared.here cover (subst (λ (n : ℕ). IsSharedBy rule placed.slots n place cover) e by))
        | inr apart ↦ elim was as (λ _. IsNoted (saving_in new) cover) [
          | inl listed ↦ noted_together cover (shared.there one cover listed (shared_by_turned rule placed.slots one place cover apart by))
          | inr e ↦ absurd (apart e)
        ]
      ]

  together_noted : (one other : ℕ) (cover : NamedCover) → IsListed own one ⊎ (one ≡ place) → IsListed own other ⊎ (other ≡ place) → IsSharedBy rule placed.slots one other cover → IsNoted (saving_in new) cover
  together_noted one other cover (inl first) (inl second) by = grown.noted cover (is.shared one other cover first second by)
  together_noted one other cover (inr e) (inl second) by = noted_together cover (shared.there other cover second (subst (λ (n : ℕ). IsSharedBy rule placed.slots n other cover) e by))
  together_noted one other cover was (inr e) by = with_place one cover was (subst (λ (n : ℕ). IsSharedBy rule placed.slots one n cover) e by)

  true_set : AreTrue rule placed new (set own place (Some covers))
  true_set = record {
    found = grown.found is.found;
    right = λ cover. grown.right cover (is.right cover);
    lists = record {
      long = (let long : length (set own place (Some covers)) ≡ length own = length-set own place (Some covers) in omega (arith, long, is.lists.long));
      each = λ at others e.
          elim (got_set own place at covers others e) as (λ _. AreOwn rule (table_at placed.slots at) others) [
            | inl k ↦ is.lists.each at others k
            | inr p ↦ subst (λ (n : ℕ). AreOwn rule (table_at placed.slots n) others) (sym p.0) (subst (λ (c : List NamedCover). AreOwn rule (table_at placed.slots place) c) p.1 made)
          ];
    };
    long = length-set own place (Some covers) ∙ is.long;
    noted = λ at others e cover m.
        elim (got_set own place at covers others e) as (λ _. IsNoted (saving_in new) cover) [
          | inl k ↦ grown.noted cover (is.noted at others k cover m)
          | inr p ↦ noted cover (subst (λ (c : List NamedCover). Has cover c) (sym p.1) m)
        ];
    shared = λ one other cover first second by. together_noted one other cover (listed_was own place one covers first) (listed_was own place other covers second) by;
  }

  pub true_put : (new_own : List (Option (List NamedCover))) → new_own ≡ set own place (Some covers) → AreTrue rule placed new new_own
  true_put new_own own_is = subst (AreTrue rule placed new) (sym own_is) true_set

-- one more index is listed
pub listed_next : (now : Placed) (own new_own : List (Option (List NamedCover))) (places : List ℕ) (i place d : ℕ) → i < length places → place ≡ get_or places i d → ((at : ℕ) → IsListed own at → IsListed new_own at)
    → (place < length now.slots → IsListed new_own place) → ((at : ℕ) → is_in (take i places) at ≡ true → at < length now.slots → IsListed own at)
    → (at : ℕ) → is_in (take (i + 1) places) at ≡ true → at < length now.slots → IsListed new_own at
listed_next now own new_own places i place d below is stay here before at h within =
    elim (in_next places i place d at below is h) as (λ _. IsListed new_own at) [
      | inl k ↦ stay at (before at k within)
      | inr e ↦ subst (λ (n : ℕ). IsListed new_own n) e (here (subst (λ (n : ℕ). n < length now.slots) (sym e) within))
    ]

-- what a table gives by itself has a literal
pub own_literal : (rule : Rule) (now : Placed) (name : List ℕ) → IsSound (circuit_of now) → IsNewName (circuit_of now) name → (place : ℕ) (covers : List NamedCover) → AreOwn rule (table_at now.slots place) covers
    → (cover : NamedCover) → Has cover covers → 1 ≤ literals_in cover
own_literal rule now name sound new place covers own cover m = cases (table_at now.slots place) refl own
  where
    cases : (o : Option Table) → table_at now.slots place ≡ o → AreOwn rule o covers → 1 ≤ literals_in cover
    cases None e h = absurd (subst (λ (cs : List NamedCover). Has cover cs) h m)
    cases (Some table) e h = candidate_some rule (circuit_of now) name sound new cover (own_candidate rule (standing now.slots) table cover (stands now.slots place table e) ((h.1 cover).0 m))

-- ---- the whole

module _ (rule : Rule) (placed : Placed) (old new : KnownCovers) (own : List (Option (List NamedCover))) (touched : List (List ℕ)) (met : NamedCover → Bool) (fresh : List ℕ)
    (notes : AreNotes rule placed (saving_in old) (covers_under old) own touched met fresh) (grown : IsGrown placed old new)
    (renewed : (under : List ℕ) (cover : NamedCover) → has touched under ≡ true → met cover ≡ true → Has cover (covers_under new under) → IsRight placed (saving_in new) cover) where
  pub all_true : AreTrue rule placed new own
  all_true = record {
    found = grown.found notes.found;
    right = λ cover number e. (let (name, m) = (grown.found notes.found).found cover number e in under cover name m (has touched name) (met cover) refl refl number e);
    lists = notes.lists;
    long = notes.long;
    noted = λ at covers e cover m. grown.noted cover (notes.noted at covers e cover m);
    shared = λ one other cover first second by. grown.noted cover (notes.shared one other cover first second by);
  }
    where
      calm : (cover : NamedCover) (name : List ℕ) → Has cover (covers_under new name) → (has touched name && met cover) ≡ false → IsRight placed (saving_in new) cover
      calm cover name m h =
          elim (grown.anew name cover m) as (λ _. IsRight placed (saving_in new) cover) [
            | inl k ↦ grown.right cover (notes.exact name cover k h)
            | inr right ↦ right
          ]

      under : (cover : NamedCover) (name : List ℕ) → Has cover (covers_under new name) → (a b : Bool) → has touched name ≡ a → met cover ≡ b → IsRight placed (saving_in new) cover
      under cover name m true true h k = renewed name cover h k m
      under cover name m true false h k = calm cover name m (ap₂ (λ (x y : Bool). x && y) h k)
      under cover name m false b h k = calm cover name m (ap₂ (λ (x y : Bool). x && y) h k)

  pub all_settled : (last : KnownCovers) (last_own : List (Option (List NamedCover))) → AreTrue rule placed last last_own → ((at : ℕ) → IsListed own at → IsListed last_own at)
      → ((at : ℕ) → is_in fresh at ≡ true → at < length placed.slots → IsListed last_own at) → (names : List (List ℕ)) (new_met : NamedCover → Bool) (places : List ℕ)
      → AreNotes rule placed (saving_in last) (covers_under last) last_own names new_met places
  all_settled last last_own is stay listed names new_met places = record {
    found = is.found;
    lists = is.lists;
    long = is.long;
    exact = λ name cover m away. is.right cover;
    noted = is.noted;
    shared = is.shared;
    listed = λ at table there away. cases at table there (is_in fresh at) refl;
  }
    where
      cases : (at : ℕ) (table : Table) → table_at placed.slots at ≡ Some table → (b : Bool) → is_in fresh at ≡ b → IsListed last_own at
      cases at table there true h = listed at h (place_within placed.slots at table there)
      cases at table there false h = stay at (notes.listed at table there h)
