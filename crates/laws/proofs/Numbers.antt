-- How many men of a kind stand on a board after an edit.
use mathlib.Core.Path.{◌≡◌, refl, sym, ap, ◌∙◌, subst}
use mathlib.Core.Logic.{◌⊎◌, inl, inr, ◌≢◌}
use mathlib.Core.Bool.{Bool, true, false, true≢false}
use Prim.Native.Nat.{ℕ, zero, suc, ◌+◌, ◌<◌}
use native.Mathlib.Nat.{not-suc-le-zero}
use native.Mathlib.Omega.{arith}
use lib.Dec.{eqb}
use borrow.Author.Tests.{eqb-true, eqb-false, eq-eqb}
use Rattle.squares.specs.Squares.{flag, count_to}
use Rattle.geometry.specs.declared.Color.{Color}
use Rattle.laws.specs.declared.Piece.{Piece}
use Rattle.laws.specs.Men.{Man, man, Men, same_man, put}
use Rattle.laws.specs.Souls.{number}
use Rattle.squares.proofs.Counting.{count_cong}
use Rattle.squares.proofs.Testing.{cases}
use Rattle.laws.proofs.Puts.{put_at, off}

-- counts of two tests that differ at one place
count_off : (f g : ℕ → Bool) (k n : ℕ) → k < n → ((j : ℕ) → j ≢ k → f j ≡ g j) → count_to n f + flag (g k) ≡ count_to n g + flag (f k)
unfolding count_to
count_off f g k zero h e = absurd (not-suc-le-zero h)
count_off f g k (suc n) h e = go (cases (eqb k n)) (λ l. count_off f g k n l e)
  where
    here : k ≡ n → count_to n f ≡ count_to n g → flag (f n) + count_to n f + flag (g k) ≡ flag (g n) + count_to n g + flag (f k)
    here q s = subst (λ (j : ℕ). flag (f n) + count_to n f + flag (g j) ≡ flag (g n) + count_to n g + flag (f j)) (sym q) (turn s)
      where
        turn : count_to n f ≡ count_to n g → flag (f n) + count_to n f + flag (g n) ≡ flag (g n) + count_to n g + flag (f n)
        turn s = omega arith

    apart : flag (f n) ≡ flag (g n) → count_to n f + flag (g k) ≡ count_to n g + flag (f k) → flag (f n) + count_to n f + flag (g k) ≡ flag (g n) + count_to n g + flag (f k)
    apart a b = omega arith

    below : {j : ℕ} → j < n → j ≡ n → ⊥
    below l z = omega arith

    near : k ≢ n → k < n
    near ne = omega arith

    go : (eqb k n ≡ true) ⊎ (eqb k n ≡ false) → (k < n → count_to n f + flag (g k) ≡ count_to n g + flag (f k)) → flag (f n) + count_to n f + flag (g k) ≡ flag (g n) + count_to n g + flag (f k)
    go (inl q) ih = here (eqb-true k n q) (count_cong n f g (λ j l. e j (λ z. below l (z ∙ eqb-true k n q))))
    go (inr q) ih = apart (ap flag (e n (λ z. true≢false (sym (eq-eqb _ _ (sym z)) ∙ q)))) (ih (near (eqb-false k n q)))

-- 1 where the square holds the man z
abbrev pub weigh : Man → Man → ℕ
weigh z x = flag (same_man x z)

pub number_put : (m : Men) (c : Color) (d : Piece) (k : ℕ) (x : Man) → k < 64 → number (put k x m) c d + weigh (man c d) (m k) ≡ number m c d + weigh (man c d) x
number_put m c d k x h =
    count_off (λ a. same_man (put k x m a) (man c d)) (λ a. same_man (m a) (man c d)) k 64 h (λ j ne. ap (λ (y : Man). same_man y (man c d)) (off k x j ne refl))
    ∙ ap (λ (y : Man). number m c d + weigh (man c d) y) (put_at k x m)
