-- The numbers of a list mixed into one, number by number.
use Rattle.std.proofs.Common.{◌≡◌, ◌<◌, ◌≤◌, ◌+◌, ◌*◌, ℕ, suc, List, length, drop, drop-cons, get_or, sym, ap, ◌∙◌, arith}
use Rattle.std.specs.Prelude.{◌%◌, ◌^◌}
use Rattle.std.proofs.Math.ListN.{drop_of_length-le}
use Rattle.net_gains.specs.Mixing.{multiplier, mixed_with}

pub mixed_next : (numbers : List ℕ) (made i d : ℕ) → i < length numbers → mixed_with made (drop i numbers) ≡ mixed_with 1 numbers
    → mixed_with (((made * multiplier) % 2 ^ 64 + get_or numbers i d) % 2 ^ 64) (drop (i + 1) numbers) ≡ mixed_with 1 numbers
unfolding mixed_with
mixed_next numbers made i d lt h =
    ap (λ (n : ℕ). mixed_with (((made * multiplier) % 2 ^ 64 + get_or numbers i d) % 2 ^ 64) (drop n numbers)) (let z : i + 1 ≡ suc i = omega arith in z)
    ∙ (sym (ap (mixed_with made) (drop-cons numbers i d lt)) ∙ h)

pub mixed_last : (numbers : List ℕ) (made i : ℕ) → length numbers ≤ i → mixed_with made (drop i numbers) ≡ mixed_with 1 numbers → made ≡ mixed_with 1 numbers
unfolding mixed_with
mixed_last numbers made i le h = sym (ap (mixed_with made) (drop_of_length-le numbers le)) ∙ h
