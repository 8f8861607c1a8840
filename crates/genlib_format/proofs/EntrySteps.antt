-- The entries of words, one by one.
use Rattle.std.proofs.Common.{◌≡◌, ℕ, suc, ◌+◌, ◌-◌, ◌<◌, ◌≤◌, Option, Some, None, List, [], ◌∷◌, ◌++◌, option_map, sym, ◌∙◌, ap, arith}
use Rattle.std.proofs.lemmas.List.{append_assoc}
use Rattle.std.specs.Option.{option_map_or}
use Rattle.genlib_format.specs.declared.words.Lined.{Lined}
use Rattle.genlib_format.specs.declared.entries.Entry.{Entry}
use Rattle.genlib_format.specs.Statements.{Part}
use Rattle.genlib_format.specs.Entries.{entry_at, entries_within}

one_less : (count i : ℕ) → i < count → count - i ≡ suc (count - (i + 1))
one_less count i h = omega (arith, h)

pub entry_more : (count i : ℕ) (words rest : List Lined) (entry : Entry) → i < count → entry_at words ≡ Some (record { made = entry; rest = rest }) → entries_within (count - i) words ≡ entry ∷ entries_within (count - (i + 1)) rest
unfolding entries_within
entry_more count i words rest entry h e = ap (λ (n : ℕ). entries_within n words) (one_less count i h) ∙ ap (λ (o : Option (Part Entry)). option_map_or (λ part. part.made ∷ entries_within (count - (i + 1)) part.rest) o []) e

pub entry_last : (count i : ℕ) (words : List Lined) → i < count → entry_at words ≡ None → entries_within (count - i) words ≡ []
unfolding entries_within
entry_last count i words h e = ap (λ (n : ℕ). entries_within n words) (one_less count i h) ∙ ap (λ (o : Option (Part Entry)). option_map_or (λ part. part.made ∷ entries_within (count - (i + 1)) part.rest) o []) e

pub entries_done : (count i : ℕ) (words : List Lined) → count ≤ i → entries_within (count - i) words ≡ []
unfolding entries_within
entries_done count i words h = let e : count - i ≡ 0 = omega (arith, h) in ap (λ (n : ℕ). entries_within n words) e

-- one more entry after those that were found
pub entry_pushed : (count i : ℕ) (words rest : List Lined) (found more all : List Entry) (entry : Entry) (o : Option Entry) → i < count → entry_at words ≡ option_map (λ e. record { made = e; rest = rest }) o → o ≡ Some entry
    → more ≡ found ++ entry ∷ [] → found ++ entries_within (count - i) words ≡ all → more ++ entries_within (count - (i + 1)) rest ≡ all
entry_pushed count i words rest found more all entry o h at is push so_far =
    let here : entry_at words ≡ Some (record { made = entry; rest = rest }) = at ∙ ap (option_map (λ (e : Entry). record { made = e; rest = rest })) is in
    ap (λ (es : List Entry). es ++ entries_within (count - (i + 1)) rest) push ∙ append_assoc found (entry ∷ []) (entries_within (count - (i + 1)) rest)
    ∙ ap (λ (es : List Entry). found ++ es) (sym (entry_more count i words rest entry h here)) ∙ so_far
