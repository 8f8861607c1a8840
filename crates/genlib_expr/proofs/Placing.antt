-- Pins and tokens, word by word.
use Rattle.std.proofs.Common.{◌≡◌, ℕ, ◌+◌, ◌<◌, ◌≤◌, Bool, true, false, Option, Some, None, List, [], ◌∷◌, ◌++◌, length, take, drop, get_or, map, bytes_eq, refl, sym, ◌∙◌, ap, if◌then◌else◌}
use Rattle.std.specs.Borrow.{Bor}
use Rattle.std.specs.List.{filter, position_or_len}
use Rattle.std.proofs.lemmas.List.{drop_more, drop_all, take_more, take_all, map-append}
use Rattle.circuit_model.specs.Names.{has}
use Rattle.circuit_tables.specs.Listing.{names_with}
use Rattle.circuit_tables.proofs.Once.{place_stays}
use Rattle.genlib_expr.specs.declared.token.Token.{Token}
use Rattle.genlib_expr.specs.declared.token.Token.TheVariants.{Name}
use Rattle.genlib_expr.specs.Text.{fixed_token, is_none, is_name, placed, token_of, pins_in, tokens_in}
use Rattle.genlib_expr.specs.Texts.{texts}

names_with-append : (known xs ys : List (List ℕ)) → names_with known (xs ++ ys) ≡ names_with (names_with known xs) ys
unfolding names_with
names_with-append known [] ys = refl
names_with-append known (x ∷ xs) ys = names_with-append (if has known x then known else known ++ x ∷ []) xs ys

-- one word more
pins_more : (known all : List (List ℕ)) (word : List ℕ) (words : List (List ℕ)) → names_with known (filter is_name (word ∷ words)) ≡ all → names_with (names_with known (filter is_name (word ∷ []))) (filter is_name words) ≡ all
pins_more known all word words e = by (is_none (fixed_token word)) e
  where
    by : (b : Bool) → names_with known (if b then word ∷ filter is_name words else filter is_name words) ≡ all → names_with (names_with known (if b then word ∷ [] else [])) (filter is_name words) ≡ all
    by true e = sym (names_with-append known (word ∷ []) (filter is_name words)) ∙ e
    by false e = sym (names_with-append known [] (filter is_name words)) ∙ e

-- the index among the pins so far is the index among all
token_stays : (known all : List (List ℕ)) (word : List ℕ) (words : List (List ℕ)) → names_with known (filter is_name (word ∷ words)) ≡ all → token_of known word ≡ token_of all word
unfolding token_of
token_stays known all word words e = by (fixed_token word) e
  where
    by : (o : Option Token) → names_with known (if is_none o then word ∷ filter is_name words else filter is_name words) ≡ all → placed known word o ≡ placed all word o
    by None e = ap Name (sym (place_stays known (filter is_name words) word) ∙ ap (position_or_len (bytes_eq word)) e)
    by (Some token) e = refl

pub rest_more : (known next all : List (List ℕ)) (i : ℕ) (words : List (Bor (List ℕ))) (word : Bor (List ℕ)) → i < length words → names_with known (filter is_name (texts (drop i words))) ≡ all → next ≡ names_with known (filter is_name ((get_or words i word).now ∷ [])) → names_with next (filter is_name (texts (drop (i + 1) words))) ≡ all
rest_more known next all i words word h e n =
    let more : texts (drop i words) ≡ (get_or words i word).now ∷ texts (drop (i + 1) words) = ap texts (drop_more words i word h) in
    ap (λ (ks : List (List ℕ)). names_with ks (filter is_name (texts (drop (i + 1) words)))) n
    ∙ pins_more known all (get_or words i word).now (texts (drop (i + 1) words)) (ap (λ (ws : List (List ℕ)). names_with known (filter is_name ws)) (sym more) ∙ e)

pub tokens_more : (known all : List (List ℕ)) (i : ℕ) (words : List (Bor (List ℕ))) (word : Bor (List ℕ)) (made next : List Token) (token : Token) → i < length words → names_with known (filter is_name (texts (drop i words))) ≡ all → token ≡ token_of known (get_or words i word).now → next ≡ made ++ token ∷ []
    → made ≡ map (token_of all) (texts (take i words)) → next ≡ map (token_of all) (texts (take (i + 1) words))
tokens_more known all i words word made next token h e t n so_far =
    let more : texts (drop i words) ≡ (get_or words i word).now ∷ texts (drop (i + 1) words) = ap texts (drop_more words i word h) in
    let here : token ≡ token_of all (get_or words i word).now = t ∙ token_stays known all (get_or words i word).now (texts (drop (i + 1) words)) (ap (λ (ws : List (List ℕ)). names_with known (filter is_name ws)) (sym more) ∙ e) in
    let front : texts (take (i + 1) words) ≡ texts (take i words) ++ (get_or words i word).now ∷ [] = ap texts (take_more words i word h) ∙ map-append (λ (w : Bor (List ℕ)). w.now) (take i words) (get_or words i word ∷ []) in
    n ∙ ap (λ (ts : List Token). ts ++ token ∷ []) so_far ∙ ap (λ (x : Token). map (token_of all) (texts (take i words)) ++ x ∷ []) here
    ∙ sym (ap (map (token_of all)) front ∙ map-append (token_of all) (texts (take i words)) ((get_or words i word).now ∷ []))

pub pins_done : (known all : List (List ℕ)) (i : ℕ) (words : List (Bor (List ℕ))) → length words ≤ i → names_with known (filter is_name (texts (drop i words))) ≡ all → known ≡ all
unfolding names_with
pins_done known all i words end e = ap (λ (ws : List (Bor (List ℕ))). names_with known (filter is_name (texts ws))) (sym (drop_all i words end)) ∙ e

pub tokens_done : (i : ℕ) (words : List (Bor (List ℕ))) (made : List Token) → length words ≤ i → made ≡ map (token_of (pins_in (texts words))) (texts (take i words)) → made ≡ tokens_in (texts words)
unfolding tokens_in
tokens_done i words made end e = e ∙ ap (λ (ws : List (Bor (List ℕ))). map (token_of (pins_in (texts words))) (texts ws)) (take_all i words end)
