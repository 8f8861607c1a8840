-- The tables that no gates stand for, table by table.
use Rattle.std.proofs.Common.{◌≡◌, ◌⊎◌, ℕ, List, [], ◌∷◌, ◌++◌, refl, sym, ap, ap₂, ◌∙◌}
use Rattle.std.proofs.Common.{append_assoc, append-nil, inl, inr}
use Rattle.circuit_model.specs.declared.circuit.Table.{Table}
use Rattle.subject_tree.specs.declared.judging.Role.{Role}
use Rattle.map_net.specs.declared.covers.TreeCover.{TreeCover}
use Rattle.map_net.specs.Working.{table_left, covers_behind, left_from}

pub left_more : (names : List (List ℕ)) (fate : Role) (table : Table) (fates fates_rest : List Role)
    (tables tables_rest : List Table) (covers behind : List TreeCover)
    (before after whole : List Table)
    → after ≡ before ++ table_left names fate table covers → behind ≡ covers_behind fate covers
    → fates ≡ fate ∷ fates_rest → tables ≡ table ∷ tables_rest
    → before ++ left_from names fates tables covers ≡ whole
    → after ++ left_from names fates_rest tables_rest behind ≡ whole
unfolding left_from
left_more names fate table fates fates_rest tables tables_rest covers behind before after whole put
    on first second h =
    ap₂ (λ (xs : List Table) (cs : List TreeCover). xs ++ left_from names fates_rest tables_rest cs)
    put on
    ∙ append_assoc before (table_left names fate table covers)
    (left_from names fates_rest tables_rest (covers_behind fate covers))
    ∙ ap (λ (xs : List Table). before ++ xs) (sym (ap₂ (λ (fs : List Role) (ts : List Table).
    left_from names fs ts covers) first second))
    ∙ h

pub left_all : (names : List (List ℕ)) (fates : List Role) (tables : List Table)
    (covers : List TreeCover) (before whole : List Table)
    → (fates ≡ []) ⊎ (tables ≡ []) → before ++ left_from names fates tables covers ≡ whole
    → before ≡ whole
unfolding left_from
left_all names fates tables covers before whole either h = sym (append-nil before)
    ∙ ap (λ (xs : List Table). before ++ xs) (sym (none fates tables either)) ∙ h
  where
    none : (fs : List Role) (ts : List Table) → (fs ≡ []) ⊎ (ts ≡ [])
        → left_from names fs ts covers ≡ []
    none [] ts e = refl
    none (f ∷ fs) [] e = refl
    none (f ∷ fs) (t ∷ ts) (inl e) = absurd (let off = e in cc)
    none (f ∷ fs) (t ∷ ts) (inr e) = absurd (let off = e in cc)
