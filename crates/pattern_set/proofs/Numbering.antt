-- Lists of trees by their numbers, as trees are joined and put behind the last.
use Rattle.std.proofs.Common.{◌≡◌, ℕ, zero, suc, ◌+◌, ◌-◌, ◌<◌, ◌≤◌, ◌==◌, Bool, false, List, [], ◌∷◌, ◌++◌, length, map, take, drop, get_or, refl, sym, ap, ◌∙◌, subst, arith, append_assoc, append-nil}
use Rattle.std.specs.List.{AllByRecursion, flat_map, range_with_len}
use Rattle.std.proofs.lemmas.Bool.{false≢true}
use Rattle.std.proofs.lemmas.List.{take_more, take_all, drop_more, map-append}
use Rattle.subject_tree.specs.Trees.{Tree}
use Rattle.subject_tree.specs.Arenas.{tree_at, KeepsTrees, Has}
use Rattle.subject_tree.specs.Tables.{trees_of, AreTaken}
use Rattle.subject_tree.specs.declared.arena.Vertex.{Vertex}
use Rattle.subject_tree.proofs.Joining.{all_at, taken-kept, trees-kept, kept_on}
use Rattle.pattern_set.specs.declared.gathering.Operands.{Operands}
use Rattle.pattern_set.specs.declared.parting.Parting.{Parting}
use Rattle.pattern_set.specs.declared.kind.Kind.{Kind}
use Rattle.pattern_set.specs.Lists.{with_first, with_second, partings, crossed, joined, Gathered, settled, newest, operands_as, combined, complemented, combined_newest, complemented_newest}
use Rattle.pattern_set.specs.Numbers.{AreNumbers, AreSets, SetsTaken, AllTaken, set_trees, gathered_at, Gathers, GatherAll}

-- what is made stays made
pub numbers_kept : (old new : List Vertex) (ns : List ℕ) (ts : List (Tree ℕ)) → KeepsTrees old new → AreNumbers old ns ts → AreNumbers new ns ts
numbers_kept old new ns ts kept made = (taken-kept old new ns kept made.0, trees-kept old new ns kept made.0 ∙ made.1)

pub sets_kept : (old new : List Vertex) (sets : List (List ℕ)) → KeepsTrees old new → SetsTaken old sets → SetsTaken new sets × (set_trees new sets ≡ set_trees old sets)
sets_kept old new [] kept taken = (tt, refl)
sets_kept old new (ns ∷ sets) kept taken =
    let rest = sets_kept old new sets kept taken.1 in (
      (taken-kept old new ns kept taken.0, rest.0),
      ap (λ (ts : List (Tree ℕ)). ts ∷ set_trees new sets) (trees-kept old new ns kept taken.0) ∙ ap (λ (ss : List (List (Tree ℕ))). trees_of old ns ∷ ss) rest.1,
    )

pub waiting_kept : (old new : List Vertex) (ws : List Operands) → KeepsTrees old new → AllTaken old ws → AllTaken new ws × (map (gathered_at new) ws ≡ map (gathered_at old) ws)
waiting_kept old new [] kept taken = (tt, refl)
waiting_kept old new (w ∷ ws) kept taken =
    let rest = waiting_kept old new ws kept taken.1 in
    let here = sets_kept old new w.sets kept taken.0 in (
      (here.0, rest.0),
      ap (λ (ss : List (List (Tree ℕ))). (record { kind = w.kind; sets = ss }) ∷ map (gathered_at new) ws) here.1 ∙ ap (λ (gs : List Gathered). gathered_at old w ∷ gs) rest.1,
    )

pub kept_itself : (vs : List Vertex) → KeepsTrees vs vs
kept_itself vs n lt = (lt, refl)

taken_push : (vs : List Vertex) (ns : List ℕ) (n : ℕ) → AreTaken vs ns → n < length vs → AreTaken vs (ns ++ n ∷ [])
taken_push vs [] n taken lt = (lt, tt)
taken_push vs (m ∷ ns) n taken lt = (taken.0, taken_push vs ns n taken.1 lt)

trees_push : (vs : List Vertex) (ns : List ℕ) (n : ℕ) → trees_of vs (ns ++ n ∷ []) ≡ trees_of vs ns ++ tree_at vs n ∷ []
trees_push vs ns n = map-append (tree_at vs) ns (n ∷ [])

-- one number more, behind the last
numbers_push : (old new : List Vertex) (ns pushed : List ℕ) (ts : List (Tree ℕ)) (n : ℕ) (t : Tree ℕ) → KeepsTrees old new → AreNumbers old ns ts → Has new n t → pushed ≡ ns ++ n ∷ [] → AreNumbers new pushed (ts ++ t ∷ [])
numbers_push old new ns pushed ts n t kept made has is =
    subst (λ (ms : List ℕ). AreNumbers new ms (ts ++ t ∷ [])) (sym is)
    (let there = numbers_kept old new ns ts kept made in (
      taken_push new ns n there.0 has.0,
      trees_push new ns n ∙ (ap (λ (us : List (Tree ℕ)). us ++ tree_at new n ∷ []) there.1 ∙ ap (λ (u : Tree ℕ). ts ++ u ∷ []) has.1),
    ))

mapped_more : (f : Tree ℕ → Tree ℕ) (vs : List Vertex) (ns : List ℕ) (i : ℕ) → i < length ns → map f (trees_of vs (take (i + 1) ns)) ≡ map f (trees_of vs (take i ns)) ++ f (tree_at vs (get_or ns i 0)) ∷ []
mapped_more f vs ns i lt =
    ap (λ (ms : List ℕ). map f (trees_of vs ms)) (take_more ns i 0 lt)
    ∙ (ap (map f) (trees_push vs (take i ns) (get_or ns i 0)) ∙ map-append f (trees_of vs (take i ns)) (tree_at vs (get_or ns i 0) ∷ []))

-- one tree more that is made of one of those of a list, behind those in front
pub each_more : (f : Tree ℕ → Tree ℕ) (old now new : List Vertex) (others made pushed : List ℕ) (front : List (Tree ℕ)) (i n number : ℕ) → KeepsTrees old now → KeepsTrees now new → AreTaken old others → i < length others
    → n ≡ get_or others i 0 → AreNumbers now made (front ++ map f (trees_of old (take i others))) → Has new number (f (tree_at now n)) → pushed ≡ made ++ number ∷ []
    → AreNumbers new pushed (front ++ map f (trees_of old (take (i + 1) others)))
each_more f old now new others made pushed front i n number kept keeps taken lt is are has pushes =
    let same : tree_at now n ≡ tree_at old (get_or others i 0) = ap (tree_at now) is ∙ (kept (get_or others i 0) (all_at (λ m. m < length old) others i 0 taken lt)).1 in
    let done : AreNumbers new pushed ((front ++ map f (trees_of old (take i others))) ++ f (tree_at now n) ∷ []) =
    numbers_push now new made pushed (front ++ map f (trees_of old (take i others))) number (f (tree_at now n)) keeps are has pushes in
    let e : (front ++ map f (trees_of old (take i others))) ++ f (tree_at now n) ∷ [] ≡ front ++ map f (trees_of old (take (i + 1) others)) =
    append_assoc front (map f (trees_of old (take i others))) (f (tree_at now n) ∷ [])
    ∙ (ap (λ (t : Tree ℕ). front ++ (map f (trees_of old (take i others)) ++ f t ∷ [])) same ∙ ap (λ (ts : List (Tree ℕ)). front ++ ts) (sym (mapped_more f old others i lt))) in
    (done.0, done.1 ∙ e)

crossed_push : (join : Tree ℕ → Tree ℕ → Tree ℕ) (ts us : List (Tree ℕ)) (t : Tree ℕ) → crossed join (ts ++ t ∷ []) us ≡ crossed join ts us ++ map (join t) us
unfolding crossed
crossed_push join [] us t = append-nil (map (join t) us)
crossed_push join (s ∷ ts) us t =
    ap (λ (vs : List (Tree ℕ)). map (join s) us ++ vs) (crossed_push join ts us t) ∙ sym (append_assoc (map (join s) us) (crossed join ts us) (map (join t) us))

-- one tree more joined to each of a list
pub cross_more : (join : Tree ℕ → Tree ℕ → Tree ℕ) (old now new : List Vertex) (lefts rights made pushed : List ℕ) (front : List (Tree ℕ)) (i n : ℕ) → KeepsTrees old now → AreTaken old lefts → AreTaken old rights → i < length lefts
    → n ≡ get_or lefts i 0 → AreNumbers now made (front ++ crossed join (trees_of old (take i lefts)) (trees_of old rights))
    → AreNumbers new pushed (trees_of now made ++ map (join (tree_at now n)) (trees_of now rights))
    → AreNumbers new pushed (front ++ crossed join (trees_of old (take (i + 1) lefts)) (trees_of old rights))
cross_more join old now new lefts rights made pushed front i n kept taken takens lt is are done =
    let same : tree_at now n ≡ tree_at old (get_or lefts i 0) = ap (tree_at now) is ∙ (kept (get_or lefts i 0) (all_at (λ m. m < length old) lefts i 0 taken lt)).1 in
    let us : List (Tree ℕ) = trees_of old rights in
    let before : List (Tree ℕ) = crossed join (trees_of old (take i lefts)) us in
    let e : trees_of now made ++ map (join (tree_at now n)) (trees_of now rights) ≡ (front ++ before) ++ map (join (tree_at old (get_or lefts i 0))) us =
    ap (λ (ts : List (Tree ℕ)). ts ++ map (join (tree_at now n)) (trees_of now rights)) are.1
    ∙ (ap (λ (t : Tree ℕ). (front ++ before) ++ map (join t) (trees_of now rights)) same
    ∙ ap (λ (ts : List (Tree ℕ)). (front ++ before) ++ map (join (tree_at old (get_or lefts i 0))) ts) (trees-kept old now rights kept takens)) in
    let f : (front ++ before) ++ map (join (tree_at old (get_or lefts i 0))) us ≡ front ++ crossed join (trees_of old (take (i + 1) lefts)) us =
    append_assoc front before (map (join (tree_at old (get_or lefts i 0))) us)
    ∙ ap (λ (ts : List (Tree ℕ)). front ++ ts)
    (sym (ap (λ (ms : List ℕ). crossed join (trees_of old ms) us) (take_more lefts i 0 lt)
    ∙ (ap (λ (ts : List (Tree ℕ)). crossed join ts us) (trees_push old (take i lefts) (get_or lefts i 0)) ∙ crossed_push join (trees_of old (take i lefts)) us (tree_at old (get_or lefts i 0))))) in
    (done.0, done.1 ∙ (e ∙ f))

-- what one parting gives
abbrev pub parting_trees : (Tree ℕ → Tree ℕ → Tree ℕ) → List (List (Tree ℕ)) → ℕ → ℕ → Parting → List (Tree ℕ)
parting_trees join sets depth place parting = crossed join (joined join sets depth (place ∷ parting.first)) (joined join sets depth parting.second)

flat_push : {A B : Type 0} (f : A → List B) (xs : List A) (x : A) → flat_map f (xs ++ x ∷ []) ≡ flat_map f xs ++ f x
flat_push f [] x = append-nil (f x)
flat_push f (y ∷ xs) x = ap (λ (zs : List _). f y ++ zs) (flat_push f xs x) ∙ sym (append_assoc (f y) (flat_map f xs) (f x))

-- one parting more: trees of both parts are made, and each pair of them is joined
pub parting_more : (join : Tree ℕ → Tree ℕ → Tree ℕ) (old now mid late new : List Vertex) (sets : List (List ℕ)) (depth place i : ℕ) (first second left_items right_items lefts rights made pushed : List ℕ) (all : List Parting) (parting : Parting)
    → KeepsTrees old now → KeepsTrees now mid → KeepsTrees mid late → SetsTaken old sets → i < length all → parting ≡ get_or all i parting → first ≡ place ∷ parting.first → second ≡ parting.second → lefts ≡ left_items → rights ≡ right_items
    → AreNumbers now made (flat_map (parting_trees join (set_trees old sets) depth place) (take i all))
    → AreNumbers mid left_items (joined join (set_trees now sets) depth first)
    → AreNumbers late right_items (joined join (set_trees mid sets) depth second)
    → AreNumbers new pushed (trees_of late made ++ crossed join (trees_of late lefts) (trees_of late rights))
    → AreNumbers new pushed (flat_map (parting_trees join (set_trees old sets) depth place) (take (i + 1) all))
parting_more join old now mid late new sets depth place i first second left_items right_items lefts rights made pushed all parting kept keep keeps taken lt is front back l_is r_is are left right done =
    let at_now = sets_kept old now sets kept taken in
    let at_mid = sets_kept now mid sets keep at_now.0 in
    let early : KeepsTrees now late = kept_on now mid late keep keeps in
    let trees : List (List (Tree ℕ)) = set_trees old sets in
    let l : trees_of late lefts ≡ joined join trees depth (place ∷ parting.first) =
    ap (trees_of late) l_is
    ∙ ((numbers_kept mid late left_items (joined join (set_trees now sets) depth first) keeps left).1
    ∙ (ap (λ (ss : List (List (Tree ℕ))). joined join ss depth first) at_now.1 ∙ ap (joined join trees depth) front)) in
    let r : trees_of late rights ≡ joined join trees depth parting.second =
    ap (trees_of late) r_is
    ∙ (right.1 ∙ (ap (λ (ss : List (List (Tree ℕ))). joined join ss depth second) (at_mid.1 ∙ at_now.1) ∙ ap (joined join trees depth) back)) in
    let m : trees_of late made ≡ flat_map (parting_trees join trees depth place) (take i all) =
    (numbers_kept now late made (flat_map (parting_trees join trees depth place) (take i all)) early are).1 in
    let e : trees_of late made ++ crossed join (trees_of late lefts) (trees_of late rights) ≡ flat_map (parting_trees join trees depth place) (take i all) ++ parting_trees join trees depth place parting =
    ap (λ (ts : List (Tree ℕ)). ts ++ crossed join (trees_of late lefts) (trees_of late rights)) m
    ∙ (ap (λ (ts : List (Tree ℕ)). flat_map (parting_trees join trees depth place) (take i all) ++ crossed join ts (trees_of late rights)) l
    ∙ ap (λ (ts : List (Tree ℕ)). flat_map (parting_trees join trees depth place) (take i all) ++ crossed join (joined join trees depth (place ∷ parting.first)) ts) r) in
    let f : flat_map (parting_trees join trees depth place) (take i all) ++ parting_trees join trees depth place parting ≡ flat_map (parting_trees join trees depth place) (take (i + 1) all) =
    sym (ap (flat_map (parting_trees join trees depth place)) (take_more all i parting lt)
    ∙ (flat_push (parting_trees join trees depth place) (take i all) (get_or all i parting)
    ∙ ap (λ (p : Parting). flat_map (parting_trees join trees depth place) (take i all) ++ parting_trees join trees depth place p) (sym is))) in
    (done.0, done.1 ∙ (e ∙ f))

-- where there are several places
pub joined_several : (join : Tree ℕ → Tree ℕ → Tree ℕ) (sets : List (List (Tree ℕ))) (depth : ℕ) (places rest : List ℕ) → 0 < depth → rest ≡ drop 1 places → 0 < length rest
    → joined join sets depth places ≡ flat_map (parting_trees join sets (depth - 1) (get_or places 0 0)) (partings rest)
unfolding joined
joined_several join sets zero places rest some is more = absurd (omega (arith, some))
joined_several join sets (suc depth) [] rest some is more = absurd (omega (arith, ap length is, more))
joined_several join sets (suc depth) (place ∷ []) rest some is more = absurd (omega (arith, ap length is, more))
joined_several join sets (suc depth) (place ∷ next ∷ places) rest some is more =
    let less : depth ≡ suc depth - 1 = omega arith in
    ap (λ (ns : List ℕ). flat_map (parting_trees join sets depth place) (partings ns)) (sym is)
    ∙ ap (λ (n : ℕ). flat_map (parting_trees join sets n place) (partings rest)) less

-- where there is one
pub joined_one : (join : Tree ℕ → Tree ℕ → Tree ℕ) (sets : List (List (Tree ℕ))) (depth : ℕ) (places : List ℕ) → 0 < depth → length places ≡ 1 → joined join sets depth places ≡ get_or sets (get_or places 0 0) []
unfolding joined
joined_one join sets zero places some one = absurd (omega (arith, some))
joined_one join sets (suc depth) [] some one = absurd (omega (arith, one))
joined_one join sets (suc depth) (place ∷ []) some one = refl
joined_one join sets (suc depth) (place ∷ next ∷ places) some one = absurd (omega (arith, one))

-- where there is none
pub joined_none : (join : Tree ℕ → Tree ℕ → Tree ℕ) (sets : List (List (Tree ℕ))) (depth : ℕ) → joined join sets depth [] ≡ []
unfolding joined
joined_none join sets zero = refl
joined_none join sets (suc depth) = refl

-- a set at a place
pub set_numbers : (vs : List Vertex) (sets : List (List ℕ)) (place : ℕ) → SetsTaken vs sets → AreNumbers vs (get_or sets place []) (get_or (set_trees vs sets) place [])
set_numbers vs [] place taken = (tt, refl)
set_numbers vs (ns ∷ sets) zero taken = (taken.0, refl)
set_numbers vs (ns ∷ sets) (suc place) taken = set_numbers vs sets place taken.1

range_more : (a n : ℕ) → range_with_len a (suc n) ≡ range_with_len a n ++ (a + n) ∷ []
range_more a zero = ap (λ (k : ℕ). k ∷ []) (omega arith)
range_more a (suc n) =
    ap (λ (ns : List ℕ). a ∷ ns) (range_more (a + 1) n ∙ ap (λ (k : ℕ). range_with_len (a + 1) n ++ k ∷ []) (omega arith))

pub range_pushed : (ns pushed : List ℕ) (n : ℕ) → ns ≡ range_with_len 0 n → pushed ≡ ns ++ n ∷ [] → pushed ≡ range_with_len 0 (n + 1)
range_pushed ns pushed n e pushes =
    let next : suc n ≡ n + 1 = omega arith in
    let last : n ≡ 0 + n = omega arith in
    pushes
    ∙ (ap (λ (ms : List ℕ). ms ++ n ∷ []) e ∙ (ap (λ (k : ℕ). range_with_len 0 n ++ k ∷ []) last ∙ (sym (range_more 0 n) ∙ ap (range_with_len 0) next)))

-- all partings of one place more, in front
pub partings_more : (places : List ℕ) (k place : ℕ) (before slice made : List Parting) → k + 1 ≡ place → place ≤ length places → slice ≡ before → before ≡ partings (drop place places)
    → made ≡ map (with_first (get_or places k 0)) slice ++ map (with_second (get_or places k 0)) slice → made ≡ partings (drop k places)
unfolding partings
partings_more places k place before slice made next within same is done =
    let all : slice ≡ partings (drop (k + 1) places) = same ∙ (is ∙ ap (λ (n : ℕ). partings (drop n places)) (sym next)) in
    done
    ∙ (ap (λ (ps : List Parting). map (with_first (get_or places k 0)) ps ++ map (with_second (get_or places k 0)) ps) all
    ∙ sym (ap partings (drop_more places k 0 (omega (arith, next, within)))))

-- lists of no numbers
pub none_by_depth : (join : Tree ℕ → Tree ℕ → Tree ℕ) (sets : List (List (Tree ℕ))) (vs : List Vertex) (depth : ℕ) (places items : List ℕ) → depth ≡ 0 → items ≡ [] → AreNumbers vs items (joined join sets depth places)
unfolding joined
none_by_depth join sets vs depth places items none is =
    subst (λ (d : ℕ). AreNumbers vs items (joined join sets d places)) (sym none) (subst (λ (ns : List ℕ). AreNumbers vs ns []) (sym is) (tt, refl))

pub none_by_places : (join : Tree ℕ → Tree ℕ → Tree ℕ) (sets : List (List (Tree ℕ))) (vs : List Vertex) (depth : ℕ) (places items : List ℕ) → length places ≡ 0 → items ≡ [] → AreNumbers vs items (joined join sets depth places)
none_by_places join sets vs depth [] items none is =
    subst (λ (ts : List (Tree ℕ)). AreNumbers vs items ts) (sym (joined_none join sets depth)) (subst (λ (ns : List ℕ). AreNumbers vs ns []) (sym is) (tt, refl))
none_by_places join sets vs depth (place ∷ places) items none is = absurd (omega (arith, none))

-- the numbers of one set
pub one_by_place : (join : Tree ℕ → Tree ℕ → Tree ℕ) (vs : List Vertex) (sets : List (List ℕ)) (depth : ℕ) (places rest items : List ℕ) → SetsTaken vs sets → 0 < depth → 0 < length places → rest ≡ drop 1 places → length rest ≡ 0
    → items ≡ get_or sets (get_or places 0 0) [] → AreNumbers vs items (joined join (set_trees vs sets) depth places)
one_by_place join vs sets depth [] rest items taken some more is none at = absurd (omega (arith, more))
one_by_place join vs sets depth (place ∷ []) rest items taken some more is none at =
    subst (λ (ts : List (Tree ℕ)). AreNumbers vs items ts) (sym (joined_one join (set_trees vs sets) depth (place ∷ []) some refl))
    (subst (λ (ns : List ℕ). AreNumbers vs ns (get_or (set_trees vs sets) place [])) (sym at) (set_numbers vs sets place taken))
one_by_place join vs sets depth (place ∷ next ∷ places) rest items taken some more is none at = absurd (omega (arith, ap length is, none))

-- the operands of both sides
pub combine_made : (kind : Kind) (old mid new : List Vertex) (left right : Operands) (lefts rights sets : List (List ℕ)) → KeepsTrees old mid → KeepsTrees mid new → SetsTaken old right.sets
    → AreSets mid lefts (operands_as kind (gathered_at old left)) → AreSets new rights (operands_as kind (gathered_at mid right)) → sets ≡ lefts ++ rights
    → Gathers new (record { kind = kind; sets = sets }) (combined kind (gathered_at old left) (gathered_at old right))
combine_made kind old mid new left right lefts rights sets kept keeps taken are ares is =
    let there = sets_kept mid new lefts keeps are.0 in
    let others = sets_kept old mid right.sets kept taken in
    let e : set_trees new (lefts ++ rights) ≡ operands_as kind (gathered_at old left) ++ operands_as kind (gathered_at old right) =
    map-append (trees_of new) lefts rights
    ∙ (ap (λ (ss : List (List (Tree ℕ))). ss ++ set_trees new rights) (there.1 ∙ are.1)
    ∙ ap (λ (ss : List (List (Tree ℕ))). operands_as kind (gathered_at old left) ++ ss)
    (ares.1 ∙ ap (λ (ss : List (List (Tree ℕ))). operands_as kind (record { kind = right.kind; sets = ss })) others.1)) in
    subst (λ (ss : List (List ℕ)). Gathers new (record { kind = kind; sets = ss }) (combined kind (gathered_at old left) (gathered_at old right))) (sym is)
    (all_both (AreTaken new) lefts rights there.0 ares.0, ap (λ (ss : List (List (Tree ℕ))). record { kind = kind; sets = ss }) e)
  where
    all_both : {A : Type 0} (P : A → Type 0) (xs ys : List A) → AllByRecursion P xs → AllByRecursion P ys → AllByRecursion P (xs ++ ys)
    all_both P [] ys p q = q
    all_both P (x ∷ xs) ys p q = (p.0, all_both P xs ys p.1 q)

-- a newest one in the place of others
pub newest_done : (old new : List Vertex) (made : Operands) (rest pushed : List Operands) (g : Gathered) → KeepsTrees old new → AllTaken old rest → Gathers new made g → pushed ≡ made ∷ rest → GatherAll new pushed (g ∷ map (gathered_at old) rest)
newest_done old new made rest pushed g kept taken gathers is =
    let there = waiting_kept old new rest kept taken in
    subst (λ (ws : List Operands). GatherAll new ws (g ∷ map (gathered_at old) rest)) (sym is) (
      (gathers.0, there.0),
      ap (λ (h : Gathered). h ∷ map (gathered_at new) rest) gathers.1 ∙ ap (λ (gs : List Gathered). g ∷ gs) there.1,
    )

-- what a set at a place is where it was copied, and what many partings give at the end
pub all_partings_made : (join : Tree ℕ → Tree ℕ → Tree ℕ) (old now : List Vertex) (sets : List (List ℕ)) (depth : ℕ) (places rest made : List ℕ) (i : ℕ) (all slice : List Parting) → 0 < depth → rest ≡ drop 1 places → 0 < length rest
    → slice ≡ all → all ≡ partings rest → length slice ≤ i
    → AreNumbers now made (flat_map (parting_trees join (set_trees old sets) (depth - 1) (get_or places 0 0)) (take i slice))
    → AreNumbers now made (joined join (set_trees old sets) depth places)
all_partings_made join old now sets depth places rest made i all slice some left more same is past are = (
  are.0,
  are.1
      ∙ (ap (flat_map (parting_trees join (set_trees old sets) (depth - 1) (get_or places 0 0))) (take_all i slice past ∙ (same ∙ is))
      ∙ sym (joined_several join (set_trees old sets) depth places rest some left more)),
)

pub some_left : (n : ℕ) (empty : Bool) → empty ≡ (n == 0) → empty ≡ false → 0 < n
some_left zero empty is no_more = absurd (false≢true (sym no_more ∙ is))
some_left (suc n) empty is no_more = omega arith

-- the newest one or two in the place of which their complement, or what they give together, stands
pub complement_taken : (old new : List Vertex) (operands made : Operands) (rest pushed waiting : List Operands) → waiting ≡ operands ∷ rest → AllTaken old waiting → KeepsTrees old new → Gathers new made (complemented (gathered_at old operands)) → pushed ≡ made ∷ rest
    → GatherAll new pushed (complemented_newest (map (gathered_at old) waiting))
complement_taken old new operands made rest pushed waiting is taken kept gathers pushes =
    subst (λ (ws : List Operands). GatherAll new pushed (complemented_newest (map (gathered_at old) ws))) (sym is)
    (newest_done old new made rest pushed (complemented (gathered_at old operands)) kept (subst (AllTaken old) is taken).1 gathers pushes)

pub combine_taken : (kind : Kind) (old new : List Vertex) (left right made : Operands) (rest pushed waiting : List Operands) → waiting ≡ right ∷ left ∷ rest → AllTaken old waiting → KeepsTrees old new
    → Gathers new made (combined kind (gathered_at old left) (gathered_at old right)) → pushed ≡ made ∷ rest → GatherAll new pushed (combined_newest kind (map (gathered_at old) waiting))
combine_taken kind old new left right made rest pushed waiting is taken kept gathers pushes =
    subst (λ (ws : List Operands). GatherAll new pushed (combined_newest kind (map (gathered_at old) ws))) (sym is)
    (newest_done old new made rest pushed (combined kind (gathered_at old left) (gathered_at old right)) kept (subst (AllTaken old) is taken).1.1 gathers pushes)

pub none_settled : (vs : List Vertex) (waiting : List Operands) (made : List ℕ) → waiting ≡ [] → made ≡ [] → AreNumbers vs made (settled (newest (map (gathered_at vs) waiting)))
unfolding settled joined
none_settled vs waiting made none is =
    subst (λ (ws : List Operands). AreNumbers vs made (settled (newest (map (gathered_at vs) ws)))) (sym none) (subst (λ (ns : List ℕ). AreNumbers vs ns []) (sym is) (tt, refl))
