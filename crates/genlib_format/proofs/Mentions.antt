-- The pins of a gate are the names of its expression, in order of first mention.
use Rattle.std.proofs.Common.{◌≡◌, ℕ, Bool, true, false, cond, ◌||◌, if◌then◌else◌, Option, Some}
use Rattle.std.proofs.Common.{None, List, [], ◌∷◌, ◌++◌, map, slice_index_or, filter, bytes_eq}
use Rattle.std.proofs.Common.{codes, ◌==◌, refl, sym, ◌∙◌, ap, subst, append_assoc}
use Rattle.std.specs.List.{AllByRecursion, position_or_len}
use Rattle.std.proofs.lemmas.List.{append-nil}
use Rattle.std.proofs.lemmas.Bool.{or_right}
use Rattle.circuit_model.specs.Names.{has}
use Rattle.circuit_tables.specs.Folding.{each_once}
use Rattle.circuit_tables.proofs.Once.{same_name, itself, first_place, has-each_once}
use Rattle.genlib_expr.specs.declared.token.Token.{Token}
use Rattle.genlib_expr.specs.declared.token.Token.TheVariants as token
use Rattle.genlib_expr.specs.declared.node.Node.{Node}
use Rattle.genlib_expr.specs.declared.node.Node.TheVariants as node
use Rattle.genlib_expr.specs.Formula.{Formula, constant, pin, complement, product, sum, postfix}
use Rattle.genlib_expr.specs.Formula.{formula_of, ArePostfix}
use Rattle.genlib_expr.specs.Grammar.{IsSum, IsProduct, IsFactor, IsPrimary, one_product, plus}
use Rattle.genlib_expr.specs.Grammar.{one_factor, star, beside, bang, one_primary, quote}
use Rattle.genlib_expr.specs.Grammar.{one_constant, one_name, parentheses}
use Rattle.genlib_expr.specs.Text.{mark_token, constant_token, fixed_token, is_mark, is_name}
use Rattle.genlib_expr.specs.Text.{pins_in, placed, token_of, tokens_in, tokens_of, words_of}
use Rattle.genlib_expr.specs.Text.{pins_of}
use Rattle.genlib_expr.specs.Text.{is_none}
use Rattle.genlib_expr.specs.Machine.{run, start}
use Rattle.genlib_expr.proofs.Spelling.{read_is_spelled, read_is_postfix}
use Rattle.genlib_format.specs.Spelling.{nodes_in}
use Rattle.genlib_format.proofs.Spelled.{nodes_run}
use Rattle.genlib_format.specs.Soundness.{pin_places, mentions}

pub places_both : (xs ys : List Node) → pin_places (xs ++ ys) ≡ pin_places xs ++ pin_places ys
unfolding pin_places
places_both [] ys = refl
places_both (node.Pin place ∷ xs) ys = ap (λ (ns : List ℕ). place ∷ ns) (places_both xs ys)
places_both (node.Constant bit ∷ xs) ys = places_both xs ys
places_both (node.Not ∷ xs) ys = places_both xs ys
places_both (node.And ∷ xs) ys = places_both xs ys
places_both (node.Or ∷ xs) ys = places_both xs ys

-- the pins of a formula, in order
pub leaves : Formula → List ℕ
leaves (constant bit) = []
leaves (pin place) = place ∷ []
leaves (complement e) = leaves e
leaves (product d e) = leaves d ++ leaves e
leaves (sum d e) = leaves d ++ leaves e

two_and_one : (xs ys zs : List Node) → pin_places zs ≡ []
    → pin_places (xs ++ ys ++ zs) ≡ pin_places xs ++ pin_places ys
two_and_one xs ys zs none =
    places_both (xs ++ ys) zs ∙ ap (λ (ns : List ℕ). pin_places (xs ++ ys) ++ ns) none
    ∙ append-nil (pin_places (xs ++ ys)) ∙ places_both xs ys

leaves_are : (e : Formula) → pin_places (postfix e) ≡ leaves e
unfolding postfix pin_places leaves
leaves_are (constant bit) = refl
leaves_are (pin place) = refl
leaves_are (complement e) =
    places_both (postfix e) (node.Not ∷ []) ∙ append-nil (pin_places (postfix e)) ∙ leaves_are e
leaves_are (product d e) =
    two_and_one (postfix d) (postfix e) (node.And ∷ []) refl
    ∙ ap (λ (ns : List ℕ). ns ++ pin_places (postfix e)) (leaves_are d)
    ∙ ap (λ (ns : List ℕ). leaves d ++ ns) (leaves_are e)
leaves_are (sum d e) =
    two_and_one (postfix d) (postfix e) (node.Or ∷ []) refl
    ∙ ap (λ (ns : List ℕ). ns ++ pin_places (postfix e)) (leaves_are d)
    ∙ ap (λ (ns : List ℕ). leaves d ++ ns) (leaves_are e)

-- the indices of names among tokens
token_places : List Token → List ℕ
token_places [] = []
token_places (token.Name place ∷ ts) = place ∷ token_places ts
token_places (token.Constant bit ∷ ts) = token_places ts
token_places (token.Bang ∷ ts) = token_places ts
token_places (token.Quote ∷ ts) = token_places ts
token_places (token.Star ∷ ts) = token_places ts
token_places (token.Plus ∷ ts) = token_places ts
token_places (token.Open ∷ ts) = token_places ts
token_places (token.Close ∷ ts) = token_places ts
token_places (token.Other ∷ ts) = token_places ts

-- a part of a text has the pins of its formula
record Spans (ts us : List Token) (e : Formula) : Type 0 where
  is : token_places ts ≡ leaves e ++ token_places us

both_span : (ts us vs : List Token) (d e f : Formula) → leaves f ≡ leaves d ++ leaves e
    → token_places ts ≡ leaves d ++ token_places us → Spans us vs e → Spans ts vs f
both_span ts us vs d e f parts first second = record {
  is =
      first ∙ ap (λ (ns : List ℕ). leaves d ++ ns) second.is
      ∙ sym (append_assoc (leaves d) (leaves e) (token_places vs))
      ∙ ap (λ (ns : List ℕ). ns ++ token_places vs) (sym parts);
}

sum_spans : {ts us vs : List Token} {d e : Formula} → Spans ts (token.Plus ∷ us) d → Spans us vs e
    → Spans ts vs (sum d e)
unfolding token_places leaves
sum_spans {ts} {us} {vs} {d} {e} s p = both_span ts us vs d e (sum d e) refl s.is p

star_spans : {ts us vs : List Token} {d e : Formula} → Spans ts (token.Star ∷ us) d → Spans us vs e
    → Spans ts vs (product d e)
unfolding token_places leaves
star_spans {ts} {us} {vs} {d} {e} s p = both_span ts us vs d e (product d e) refl s.is p

beside_spans : {ts us vs : List Token} {d e : Formula} → Spans ts us d → Spans us vs e
    → Spans ts vs (product d e)
unfolding leaves
beside_spans {ts} {us} {vs} {d} {e} s p = both_span ts us vs d e (product d e) refl s.is p

bang_spans : {ts us : List Token} {e : Formula} → Spans ts us e
    → Spans (token.Bang ∷ ts) us (complement e)
unfolding token_places leaves
bang_spans s = record { is = s.is }

quote_spans : {ts us : List Token} {e : Formula} → Spans ts (token.Quote ∷ us) e
    → Spans ts us (complement e)
unfolding token_places leaves
quote_spans s = record { is = s.is }

constant_spans : (us : List Token) (bit : Bool) → Spans (token.Constant bit ∷ us) us (constant bit)
unfolding token_places leaves
constant_spans us bit = record { is = refl }

name_spans : (us : List Token) (place : ℕ) → Spans (token.Name place ∷ us) us (pin place)
unfolding token_places leaves
name_spans us place = record { is = refl }

open_spans : {ts us : List Token} {e : Formula} → Spans ts (token.Close ∷ us) e
    → Spans (token.Open ∷ ts) us e
unfolding token_places
open_spans s = record { is = s.is }

mutual
  of_sum : {ts us : List Token} {e : Formula} → IsSum ts us e → Spans ts us e
  of_sum (one_product p) = of_product p
  of_sum (plus s p) = sum_spans (of_sum s) (of_product p)

  of_product : {ts us : List Token} {e : Formula} → IsProduct ts us e → Spans ts us e
  of_product (one_factor f) = of_factor f
  of_product (star p f) = star_spans (of_product p) (of_factor f)
  of_product (beside p f) = beside_spans (of_product p) (of_factor f)

  of_factor : {ts us : List Token} {e : Formula} → IsFactor ts us e → Spans ts us e
  of_factor (bang f) = bang_spans (of_factor f)
  of_factor (one_primary p) = of_primary p

  of_primary : {ts us : List Token} {e : Formula} → IsPrimary ts us e → Spans ts us e
  of_primary (quote p) = quote_spans (of_primary p)
  of_primary (one_constant {us = us} bit) = constant_spans us bit
  of_primary (one_name {us = us} place) = name_spans us place
  of_primary (parentheses s) = open_spans (of_sum s)

spelled_places : (ts : List Token) (e : Formula) → IsSum ts [] e → token_places ts ≡ leaves e
unfolding token_places
spelled_places ts e s = (of_sum s).is ∙ append-nil (leaves e)

-- no token of a word that is no name is a name
Plain : Option Token → Type 0
Plain None = Unit {0}
Plain (Some (token.Name place)) = ⊥
Plain (Some (token.Constant bit)) = Unit {0}
Plain (Some token.Bang) = Unit {0}
Plain (Some token.Quote) = Unit {0}
Plain (Some token.Star) = Unit {0}
Plain (Some token.Plus) = Unit {0}
Plain (Some token.Open) = Unit {0}
Plain (Some token.Close) = Unit {0}
Plain (Some token.Other) = Unit {0}

plain_marks : (a b c d e f m : Bool)
    → Plain (if a then Some token.Bang else (if b then Some token.Quote
    else (if c then Some token.Star else (if d then Some token.Plus
    else (if e then Some token.Open else (if f then Some token.Close
    else (if m then Some token.Other else None)))))))
unfolding Plain
plain_marks true b c d e f m = tt
plain_marks false true c d e f m = tt
plain_marks false false true d e f m = tt
plain_marks false false false true e f m = tt
plain_marks false false false false true f m = tt
plain_marks false false false false false true m = tt
plain_marks false false false false false false true = tt
plain_marks false false false false false false false = tt

plain_constants : (a b : Bool)
    → Plain (if a then Some (token.Constant false)
    else (if b then Some (token.Constant true) else None))
unfolding Plain
plain_constants true b = tt
plain_constants false true = tt
plain_constants false false = tt

plain_token : (word : List ℕ) → Plain (fixed_token word)
unfolding fixed_token mark_token constant_token
plain_token [] = plain_constants (bytes_eq [] (codes "CONST0")) (bytes_eq [] (codes "CONST1"))
plain_token (byte ∷ []) =
    plain_marks (byte == 33) (byte == 39) (byte == 42) (byte == 43) (byte == 40) (byte == 41)
    (is_mark byte)
plain_token (byte ∷ next ∷ bytes) =
    plain_constants (bytes_eq (byte ∷ next ∷ bytes) (codes "CONST0"))
    (bytes_eq (byte ∷ next ∷ bytes) (codes "CONST1"))

plain_places : (t : Token) (ts : List Token) → Plain (Some t)
    → token_places (t ∷ ts) ≡ token_places ts
unfolding Plain token_places
plain_places (token.Name place) ts h = absurd h
plain_places (token.Constant bit) ts h = refl
plain_places token.Bang ts h = refl
plain_places token.Quote ts h = refl
plain_places token.Star ts h = refl
plain_places token.Plus ts h = refl
plain_places token.Open ts h = refl
plain_places token.Close ts h = refl
plain_places token.Other ts h = refl

-- the name of the index of a name
name_at_place : (names : List (List ℕ)) (name : List ℕ) → has names name ≡ true
    → slice_index_or names (position_or_len (bytes_eq name) names) [] ≡ name
name_at_place [] name h = absurd (let off = h in cc)
name_at_place (first ∷ names) name h =
    by (bytes_eq name first) refl h (λ k. name_at_place names name k)
  where
    by : (t : Bool) → bytes_eq name first ≡ t → (t || has names name) ≡ true
        → (has names name ≡ true
        → slice_index_or names (position_or_len (bytes_eq name) names) [] ≡ name)
        → slice_index_or (first ∷ names) (position_or_len (bytes_eq name) (first ∷ names)) [] ≡ name
    by true e k rest = rw e (sym (same_name name first e))
    by false e k rest = rw (first_place first names name e) (rest k)

-- a name of the words is among the pins
Known : List (List ℕ) → List ℕ → Type 0
Known pins word = is_name word ≡ true → has pins word ≡ true

first_at : (pins : List (List ℕ)) (word : List ℕ) (words : List (List ℕ)) (ts : List Token)
    (o : Option Token)
    → Plain o → (is_none o ≡ true → has pins word ≡ true)
    → map (λ place. slice_index_or pins place []) (token_places ts) ≡ filter is_name words
    → map (λ place. slice_index_or pins place []) (token_places (placed pins word o ∷ ts))
    ≡ cond (is_none o) (word ∷ filter is_name words) (filter is_name words)
unfolding token_places
first_at pins word words ts None plain known rest =
    ap (λ (name : List ℕ). name ∷ map (λ place. slice_index_or pins place []) (token_places ts))
    (name_at_place pins word (known refl))
    ∙ ap (λ (names : List (List ℕ)). word ∷ names) rest
first_at pins word words ts (Some t) plain known rest =
    ap (map (λ place. slice_index_or pins place [])) (plain_places t ts plain) ∙ rest

names_at : (pins words : List (List ℕ)) → AllByRecursion (Known pins) words
    → map (λ place. slice_index_or pins place []) (token_places (map (token_of pins) words))
    ≡ filter is_name words
unfolding token_of Known token_places
names_at pins [] known = refl
names_at pins (word ∷ words) known =
    first_at pins word words (map (token_of pins) words) (fixed_token word)
    (plain_token word) known.0 (names_at pins words known.1)

own_first : (word : List ℕ) (words : List (List ℕ)) → is_name word ≡ true
    → has (filter is_name (word ∷ words)) word ≡ true
own_first word words e =
    let own : has (word ∷ filter is_name words) word ≡ true = rw (itself word) refl in
    subst
    (λ (b : Bool). has (cond b (word ∷ filter is_name words) (filter is_name words)) word ≡ true)
    (sym e) own

had_more : (word : List ℕ) (words : List (List ℕ)) (name : List ℕ)
    → has (filter is_name words) name ≡ true → has (filter is_name (word ∷ words)) name ≡ true
had_more word words name h = by (is_name word)
  where
    by : (b : Bool) → has (cond b (word ∷ filter is_name words) (filter is_name words)) name ≡ true
    by true = or_right (bytes_eq name word) (has (filter is_name words) name) h
    by false = h

all_known : (words pins : List (List ℕ))
    → ((name : List ℕ) → has (filter is_name words) name ≡ true → has pins name ≡ true)
    → AllByRecursion (Known pins) words
unfolding Known
all_known [] pins wider = tt
all_known (word ∷ words) pins wider = (
  λ e. wider word (own_first word words e),
  all_known words pins (λ name h. wider name (had_more word words name h)),
)

-- the pins of a text are the names of its expression, each where it comes first
pub pins_mentioned : (text : List ℕ) (nodes : List Node) → nodes_in text ≡ Some nodes
    → each_once (mentions (pins_of text) nodes) ≡ pins_of text
unfolding pins_in tokens_in
pins_mentioned text nodes is =
    let read : Some nodes ≡ run (tokens_of text) start = sym is ∙ nodes_run text in
    let spells = read_is_spelled (tokens_of text) nodes read in
    let order : nodes ≡ postfix (formula_of nodes) = read_is_postfix (tokens_of text) nodes read in
    let places : pin_places nodes ≡ token_places (tokens_of text) =
    ap pin_places order ∙ leaves_are (formula_of nodes)
    ∙ sym (spelled_places (tokens_of text) (formula_of nodes) spells) in
    let known =
    all_known (words_of text) (pins_of text)
    (λ name h. has-each_once (filter is_name (words_of text)) name ∙ h) in
    ap (λ (ns : List ℕ). each_once (map (λ place. slice_index_or (pins_of text) place []) ns))
    places
    ∙ ap each_once (names_at (pins_of text) (words_of text) known)

pub nodes_ordered : (text : List ℕ) (nodes : List Node) → nodes_in text ≡ Some nodes
    → ArePostfix nodes
nodes_ordered text nodes is = read_is_postfix (tokens_of text) nodes (sym is ∙ nodes_run text)
