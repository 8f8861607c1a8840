-- The laws of the order of literals. No public clause needs them.
use Rattle.std.specs.Prelude.{◌≡◌, ◌&&◌, Bool, true, false, nat_eq}
use mathlib.Core.Path.{refl}
use Rattle.std.specs.Bool.{beq}
use Rattle.std.specs.Cmp.{IsTotalOrder, IsPartialOrder, po, on_total, then_total, bool_cmp_total, both_tied}
use Rattle.std.specs.Cmp.Lexicographic.{pointwise, nat_list_cmp_total, texts_ties, slice_cmp}
use Rattle.std.specs.Ordering.{eq_by_cmp, as_partial_cmp, bool_cmp, nat_cmp, is_eq}
use Rattle.cover_names.specs.Literals.{literal_cmp}
use Rattle.cover_names.specs.declared.literal.Literal.{Literal}

-- literals of the same name and bit
abbrev pub literal_eq : Literal → Literal → Bool
literal_eq one other = pointwise nat_eq one.name other.name && beq one.bit other.bit

pub literal_total : IsTotalOrder literal_cmp
literal_total = then_total (on_total (λ (literal : Literal). literal.name) nat_list_cmp_total) (on_total (λ (literal : Literal). literal.bit) bool_cmp_total)

bits_tied : (one other : Bool) → beq one other ≡ is_eq (bool_cmp one other)
bits_tied true true = refl
bits_tied true false = refl
bits_tied false true = refl
bits_tied false false = refl

pub literal_ties : (one other : Literal) → literal_eq one other ≡ eq_by_cmp literal_cmp one other
literal_ties one other =
    both_tied (pointwise nat_eq one.name other.name) (beq one.bit other.bit) (slice_cmp nat_cmp one.name other.name) (bool_cmp one.bit other.bit)
    (texts_ties one.name other.name) (bits_tied one.bit other.bit)

pub literal_partial : IsPartialOrder literal_eq (as_partial_cmp literal_cmp)
literal_partial = po literal_total literal_ties
