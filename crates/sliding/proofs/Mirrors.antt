-- The mirrors of a set, by exchanges.
use Rattle.std.proofs.Common.{◌≡◌, ℕ, ◌+◌, ◌-◌, ◌*◌, ◌/◌, ◌%◌, ◌^◌, ◌<◌, Bool, true, false, cond, not, eqb, ltb, leb, sym, refl, ap, ◌∙◌, ap₂, lt_of_le_of_lt, mod-lt, add_comm, pow_pos, ltb-true, lt-ltb, eqb-true}
use lib.Bits.{bit_and, bit_or, and_le_r, or_lt}
use Rattle.squares.specs.Tests.{◌and◌, ◌or◌}
use Rattle.squares.specs.Squares.{odd, has, set_of, all_to, every_square}
use Rattle.squares.proofs.Testing.{left, right, and_true, and_false, and_swap, and_group, or_false, known, agree}
use Rattle.squares.proofs.Digits.{has_and, has_or, has_shr, has_shl_mod}
use Rattle.squares.proofs.Comprehension.{is_up_to, up_to_cong, has_set_of}
use Rattle.squares.proofs.Every.{all_at, square_eq}
use Rattle.sliding.specs.inner.Seen.{Halves, turn, flipped, mirrored, moved, opens, seen}

-- one of two squares, by the half that k is in
either_half : (s x y : ℕ) (t : Bool) → ((has s y and not t) or (has s x and t)) ≡ has s (cond t x y)
unfolding ◌or◌
either_half s x y true = ap₂ ◌or◌ (and_false (has s y)) (and_true (has s x))
either_half s x y false = ap₂ ◌or◌ (and_true (has s y)) (and_false (has s x)) ∙ or_false (has s y)

picked : (s x y : ℕ) (t u v w : Bool) → u ≡ not t → (v and w) ≡ t → ((has s y and u) or (v and (has s x and w))) ≡ has s (cond t x y)
picked s x y t u v w e f =
    ap₂ (λ (p q : Bool). (has s y and p) or q) e (sym (and_group v (has s x) w) ∙ ap (λ (z : Bool). z and w) (and_swap v (has s x)) ∙ and_group (has s x) v w ∙ ap (λ (z : Bool). has s x and z) f)
    ∙ either_half s x y t

pub halves_of : (m n : ℕ) → n < 64 → every_square (λ k. agree (has m k) (not (odd (k / n)))) ≡ true
    → every_square (λ k. agree (leb n k and has m (k - n)) (odd (k / n))) ≡ true → Halves m n
halves_of m n h p q = record {
  short = h;
  lower = square_eq (has m) (λ k. not (odd (k / n))) p;
  upper = square_eq (λ k. leb n k and has m (k - n)) (λ k. odd (k / n)) q;
}

pub swap_is : (s m n : ℕ) → m < 2 ^ 64 → Halves m n → bit_or (bit_and (s / 2 ^ n) m) (bit_and s m * 2 ^ n % 2 ^ 64) ≡ moved (turn n) s
swap_is s m n hm h =
    is_up_to 64 _ (λ k. has s (turn n k)) (or_lt 64 (bit_and (s / 2 ^ n) m) (bit_and s m * 2 ^ n % 2 ^ 64) (lt_of_le_of_lt (and_le_r (s / 2 ^ n) m) hm) (mod-lt (bit_and s m * 2 ^ n) (pow_pos 64)))
    (λ k l. has_or (bit_and (s / 2 ^ n) m) (bit_and s m * 2 ^ n % 2 ^ 64) k
    ∙ ap₂ ◌or◌ (has_and (s / 2 ^ n) m k ∙ ap (λ (t : Bool). t and has m k) (has_shr s n k ∙ ap (has s) (add_comm n k)))
    (has_shl_mod (bit_and s m) n 64 k ∙ known _ (lt-ltb k 64 l) ∙ ap (λ (t : Bool). leb n k and t) (has_and s m (k - n)))
    ∙ picked s (k - n) (k + n) (odd (k / n)) (has m k) (leb n k) (has m (k - n)) (h.lower k l) (h.upper k l))

-- one move after another, computed at each square
then : (f g h : ℕ → ℕ) → every_square (λ k. ltb (f k) 64 and eqb (g (f k)) (h k)) ≡ true → (s : ℕ) → moved f (moved g s) ≡ moved h s
then f g h e s =
    up_to_cong 64 (λ k. has (moved g s) (f k)) (λ k. has s (h k))
    (λ k l. let t = all_at 64 (λ j. ltb (f j) 64 and eqb (g (f j)) (h j)) e k l in
    has_set_of (λ j. has s (g j)) (f k) (ltb-true (f k) 64 (left _ _ t)) ∙ ap (has s) (eqb-true (g (f k)) (h k) (right _ _ t)))

pub flip_is : (s : ℕ) → moved (turn 32) (moved (turn 16) (moved (turn 8) s)) ≡ moved flipped s
unfolding all_to ◌and◌
flip_is s = then (turn 32) (turn 16) (λ k. turn 16 (turn 32 k)) refl (moved (turn 8) s) ∙ then (λ k. turn 16 (turn 32 k)) (turn 8) flipped refl s

pub mirror_is : (s : ℕ) → moved flipped (moved (turn 4) (moved (turn 2) (moved (turn 1) s))) ≡ moved mirrored s
unfolding all_to ◌and◌
mirror_is s =
    then flipped (turn 4) (λ k. turn 4 (flipped k)) refl (moved (turn 2) (moved (turn 1) s))
    ∙ then (λ k. turn 4 (flipped k)) (turn 2) (λ k. turn 2 (turn 4 (flipped k))) refl (moved (turn 1) s)
    ∙ then (λ k. turn 2 (turn 4 (flipped k))) (turn 1) mirrored refl s

pub flipped_lt : (k : ℕ) → k < 64 → flipped k < 64
unfolding all_to ◌and◌
flipped_lt k h = ltb-true (flipped k) 64 (all_at 64 (λ j. ltb (flipped j) 64) refl k h)

-- what is seen both ways, on a line
pub seen_is : (g : ℕ → ℕ) → ((k : ℕ) → k < 64 → g k < 64) → (a x y m : ℕ) → m < 2 ^ 64 → y ≡ moved g x
    → bit_and (bit_or (set_of (opens a x)) (moved g (set_of (opens (g a) y)))) m ≡ set_of (λ k. has m k and seen g a x k)
seen_is g stays a x y m h e =
    let up = set_of (opens a x) in
    let down = moved g (set_of (opens (g a) (moved g x))) in
    ap (λ (z : ℕ). bit_and (bit_or up (moved g (set_of (opens (g a) z)))) m) e
    ∙ is_up_to 64 (bit_and (bit_or up down) m) (λ k. has m k and seen g a x k) (lt_of_le_of_lt (and_le_r (bit_or up down) m) h)
    (λ k l. has_and (bit_or up down) m k ∙ and_swap (has (bit_or up down) k) (has m k)
    ∙ ap (λ (t : Bool). has m k and t) (has_or up down k
    ∙ ap₂ ◌or◌ (has_set_of (opens a x) k l)
    (has_set_of (λ j. has (set_of (opens (g a) (moved g x))) (g j)) k l ∙ has_set_of (opens (g a) (moved g x)) (g k) (stays k l))))
