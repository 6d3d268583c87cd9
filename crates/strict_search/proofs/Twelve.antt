-- The twelve places of a source and a target, as a set of numbers.
use mathlib.Core.Path.{◌≡◌, refl, sym, ap, ap₂, ◌∙◌}
use mathlib.Core.Bool.{Bool, true, false, not, cond}
use Prim.Native.Nat.{ℕ, ◌+◌, ◌*◌, ◌/◌, ◌%◌, ◌^◌, ◌<◌}
use native.Mathlib.Omega.{arith}
use lib.Dec.{eqb}
use lib.Bits.{bit_and, bit_or, and_le_r}
use borrow.Author.Tests.{eqb-true}
use Rattle.squares.specs.Tests.{◌and◌, ◌or◌}
use Rattle.squares.specs.Squares.{odd, has, up_to, all_to}
use Rattle.strict_sets.specs.declared.Targets.{Targets}
use Rattle.strict_sets.specs.inner.Sets.{holds_at}
use Rattle.strict_search.specs.inner.Searching.{holds_in}
use Rattle.squares.proofs.Testing.{and_false}
use Rattle.squares.proofs.Digits.{has_and}
use Rattle.squares.proofs.Comprehension.{up_to_cong}
use Rattle.squares.proofs.Every.{all_at, number_law}
use Rattle.laws.proofs.Cases.{every, by_cases}

-- two numbers of four tests and a set of men, computed at all of them
abbrev agree_at : (Bool → Bool → Bool → Bool → ℕ → ℕ) → (Bool → Bool → Bool → Bool → ℕ → ℕ) → Bool → Bool → Bool → Bool → ℕ → Bool
agree_at f g a b c d m = has m 0 or eqb (f a b c d m) (g a b c d m)

pub even_law : (f g : Bool → Bool → Bool → Bool → ℕ → ℕ) → every 4 (λ a b c d. all_to 64 (agree_at f g a b c d)) ≡ true
    → (a b c d : Bool) (m : ℕ) → m < 64 → has m 0 ≡ false → f a b c d m ≡ g a b c d m
unfolding ◌or◌
even_law f g e a b c d m h z =
    eqb-true (f a b c d m) (g a b c d m)
    (sym (ap (λ (t : Bool). t or eqb (f a b c d m) (g a b c d m)) z) ∙ all_at 64 (agree_at f g a b c d) (by_cases 4 (λ a b c d. all_to 64 (agree_at f g a b c d)) e a b c d) m h)

-- the numbers of men twice as high, as the code makes them
abbrev halves : ℕ → ℕ
halves m = bit_and (bit_or m (m * 2 ^ 4 % 2 ^ 64)) 0x0f0f

abbrev quarters : ℕ → ℕ
quarters m = bit_and (bit_or (halves m) (halves m * 2 ^ 2 % 2 ^ 64)) 0x3333

abbrev twice : ℕ → ℕ
twice m = bit_and (bit_or (quarters m) (quarters m * 2 ^ 1 % 2 ^ 64)) 0x5555

abbrev evens : ℕ → ℕ
evens m = up_to 12 (λ n. not (odd n) and has m (n / 2))

pub twice_is : (m : ℕ) → m < 64 → twice m ≡ evens m
unfolding up_to has all_to ◌and◌
twice_is = number_law 64 twice evens refl

-- a target by whether the four sets have it, and the men
abbrev pub by : Bool → Bool → Bool → Bool → ℕ → ℕ → Bool
by a b c d m n = cond (eqb (n / 2) 0) (cond (odd n) c a) (cond (odd n) d b) and (eqb (n / 2) 0 or has m (n / 2))

abbrev united : Bool → Bool → Bool → Bool → ℕ → ℕ
united a b c d m = bit_or (bit_or (bit_or (cond a 1 0) (cond b (evens m) 0)) (cond c 2 0)) (cond d (evens m * 2 ^ 1 % 2 ^ 64) 0)

united_is : (a b c d : Bool) (m : ℕ) → m < 64 → has m 0 ≡ false → united a b c d m ≡ up_to 12 (by a b c d m)
unfolding up_to has all_to ◌and◌ ◌or◌
united_is = even_law united (λ a b c d m. up_to 12 (by a b c d m)) refl

-- the men are 1 to 5
pub men_lt : (m : ℕ) → bit_and m 62 < 64
men_lt m = omega (arith, and_le_r m 62)

pub men_none : (m : ℕ) → has (bit_and m 62) 0 ≡ false
unfolding has
men_none m = has_and m 62 0 ∙ and_false (has m 0)

masked : (z h k : Bool) → (z or k) ≡ true → (z or (h and k)) ≡ (z or h)
unfolding ◌and◌ ◌or◌
masked true h k e = refl
masked false true k e = e
masked false false k e = refl

men_in : (m u : ℕ) → u < 6 → (eqb u 0 or has (bit_and m 62) u) ≡ (eqb u 0 or has m u)
unfolding all_to has ◌and◌ ◌or◌
men_in m u h = ap (λ (t : Bool). eqb u 0 or t) (has_and m 62 u) ∙ masked (eqb u 0) (has m u) (has 62 u) (all_at 6 (λ v. eqb v 0 or has 62 v) refl u h)

-- the n-th of the twelve
abbrev pub nth : Targets → ℕ → ℕ → Bool
nth w q n = holds_at w q (n / 2) (odd n)

-- a place of its source, by its target and its number among the twelve
pub place_is : (w : Targets) (a n : ℕ) → n < 12 → holds_in w (a * 12 + n) ≡ nth w (a % 64) n
unfolding holds_in
place_is w a n h = rw (target, man, mark)
  where
    target : (a * 12 + n) / 12 ≡ a
    target = omega arith

    man : (a * 12 + n) / 2 % 6 ≡ n / 2
    man = omega arith

    mark : (a * 12 + n) % 2 ≡ n % 2
    mark = omega arith

-- the sets at a target
has_chosen : (q a b c d : ℕ) (z mark : Bool) → has (cond z (cond mark c a) (cond mark d b)) q ≡ cond z (cond mark (has c q) (has a q)) (cond mark (has d q) (has b q))
has_chosen q a b c d true true = refl
has_chosen q a b c d true false = refl
has_chosen q a b c d false true = refl
has_chosen q a b c d false false = refl

abbrev pub at : Targets → ℕ → ℕ → Bool
at w q = by (has w.plain q) (has w.taking q) (has w.marked q) (has w.both q) (bit_and w.men 62)

pub holds_by : (w : Targets) (q n : ℕ) → n < 12 → nth w q n ≡ at w q n
unfolding holds_at
holds_by w q n h =
    ap₂ ◌and◌ (has_chosen q w.plain w.taking w.marked w.both (eqb (n / 2) 0) (odd n)) (sym (men_in w.men (n / 2) (omega arith)))

pub twelve_is : (w : Targets) (q : ℕ)
    → united (has w.plain q) (has w.taking q) (has w.marked q) (has w.both q) (bit_and w.men 62) ≡ up_to 12 (nth w q)
twelve_is w q = united_is _ _ _ _ (bit_and w.men 62) (men_lt w.men) (men_none w.men) ∙ sym (up_to_cong 12 (nth w q) (at w q) (holds_by w q))
