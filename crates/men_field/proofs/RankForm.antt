-- The printer writes a rank exactly where document 01's words allow one.
use mathlib.Core.Path.{◌≡◌, refl, sym, ◌∙◌, ap, subst}
use mathlib.Core.Bool.{Bool, true, false, not, false≢true}
use mathlib.Core.List.{List, [], ◌∷◌, ◌++◌}
use mathlib.Core.Logic.{⊎_elim}
use Prim.Native.Nat.{ℕ, zero, suc, ◌+◌, ◌-◌, ◌*◌, ◌<◌}
use native.Mathlib.Nat.{add-zero, zero-add}
use native.Mathlib.Omega.{arith}
use lib.Dec.{eqb}
use lib.ListN.{length, replicate, length-append, length-replicate}
use borrow.Author.Tests.{eqb-true, eq-eqb, leb-true, le-leb}
use Rattle.squares.specs.Tests.{◌and◌, ◌or◌}
use Rattle.geometry.specs.declared.Color.{Color}
use Rattle.geometry.specs.declared.Color.TheVariants.{White, Black}
use Rattle.laws.specs.declared.Piece.{Piece}
use Rattle.laws.specs.declared.Piece.TheVariants.{Pawn, Knight, Bishop, Rook, Queen, King}
use Rattle.laws.specs.Men.{Man, empty, man, Men}
use Rattle.men_field.specs.Placement.{kind_letter, letter_of, flush_of, run_text, squares_from, rank_text}
use Rattle.men_field.specs.Grammar.{letter_for, is_letter, is_digit, fills, is_rank}
use Rattle.squares.proofs.Testing.{both, left, right, either, or_left, or_right}
use Rattle.laws.proofs.Cases.{by_kinds}
use Rattle.men_field.proofs.Adding.{length_squares}

-- the letters are those of men
a_letter : (c : Color) (k : Piece) → is_letter (letter_of c k) ≡ true
unfolding is_letter letter_for ◌or◌ ◌and◌
a_letter White k = by_kinds (λ j. is_letter (letter_of White j)) refl k
a_letter Black k = by_kinds (λ j. is_letter (letter_of Black j)) refl k

abbrev Lettered : ℕ → Type 0
Lettered b = (c : Color) × (k : Piece) × (letter_of c k ≡ b)

letter_for_lem : (k : Piece) (b : ℕ) → letter_for k b ≡ true → Lettered b
unfolding letter_for
letter_for_lem k b e =
    ⊎_elim (λ h. (White, k, sym (eqb-true b (kind_letter k) h))) (λ h. (Black, k, sym (eqb-true b (32 + kind_letter k) h)))
    (either (eqb b (kind_letter k)) (eqb b (32 + kind_letter k)) e)

letter_man : (b : ℕ) → is_letter b ≡ true → Lettered b
unfolding is_letter
letter_man b e =
    ⊎_elim (λ e. ⊎_elim (λ e. ⊎_elim (λ e. ⊎_elim (λ e. ⊎_elim (letter_for_lem Pawn b) (letter_for_lem Knight b)
    (either _ _ e)) (letter_for_lem Bishop b) (either _ _ e)) (letter_for_lem Rook b) (either _ _ e)) (letter_for_lem Queen b) (either _ _ e)) (letter_for_lem King b) (either _ _ e)

-- a digit that is met
digit_of : (b : ℕ) → is_digit b ≡ true → (b ≡ 48 + suc (b - 49)) × (b - 49 < 8)
unfolding is_digit
digit_of b e =
    let h = leb-true 49 b (left _ _ e) in
    let k = leb-true b 56 (right _ _ e) in
    (omega arith, omega arith)

a_digit : (n : ℕ) → n < 8 → is_digit (48 + suc n) ≡ true
unfolding is_digit
a_digit n h = both (le-leb 49 (48 + suc n) (omega arith)) (le-leb (48 + suc n) 56 (omega arith))

-- what is printed fills eight squares
letter_fills : (d : Bool) (n : ℕ) (c : Color) (k : Piece) (s : List ℕ) → fills false (n + 1) s ≡ true → fills d n (letter_of c k ∷ s) ≡ true
unfolding fills
letter_fills d n c k s e = or_left _ (both (a_letter c k) e)

none_fills : (d : Bool) (n : ℕ) → n ≡ 8 → fills d n [] ≡ true
unfolding fills
none_fills d n e = eq-eqb n 8 e

flush_fills : (j n : ℕ) (s : List ℕ) → j < 9 → ((d : Bool) → fills d (n + j) s ≡ true) → fills false n (flush_of j s) ≡ true
unfolding fills
flush_fills zero n s h e = rw (add-zero n) at (e false)
flush_fills (suc j) n s h e =
    let q : n + (48 + suc j - 48) ≡ n + suc j = omega arith in
    or_right _ (both (both (a_digit j (omega arith)) refl) (rw q (e true)))

run_fills : (xs : List Man) (j n : ℕ) → n + j + length xs ≡ 8 → fills false n (run_text j xs) ≡ true
unfolding run_text
run_fills [] j n e = flush_fills j n [] (omega arith) (λ d. none_fills d (n + j) (omega arith))
run_fills (empty ∷ xs) j n e = run_fills xs (suc j) n (omega arith)
run_fills (man c k ∷ xs) j n e =
    let q : n + j + 1 + 0 + length xs ≡ 8 = omega arith in
    flush_fills j n (letter_of c k ∷ run_text 0 xs) (omega arith) (λ d. letter_fills d (n + j) c k (run_text 0 xs) (run_fills xs 0 (n + j + 1) q))

-- every rank that is printed has the form
pub rank_formed : (m : Men) (r : ℕ) → is_rank (rank_text m r) ≡ true
rank_formed m r = run_fills (squares_from m 8 (8 * r)) 0 0 (omega (arith, length_squares m 8 (8 * r)))

-- bytes that fill eight squares are printed, of some squares
empties : (j n : ℕ) (xs : List Man) → run_text n (replicate j empty ++ xs) ≡ run_text (n + j) xs
unfolding run_text
empties zero n xs = rw add-zero
empties (suc j) n xs = empties j (suc n) xs ∙ ap (λ (k : ℕ). run_text k xs) (omega arith)

pub record Shown (d : Bool) (n : ℕ) (s : List ℕ) : Type 0 where
  pub squares : List Man
  pub eight : n + length squares ≡ 8
  pub text : (j : ℕ) → (d ≡ false → j ≡ 0) → run_text j squares ≡ flush_of j s

shown_letter : (d : Bool) (n b : ℕ) (s : List ℕ) → Lettered b → Shown false (n + 1) s → Shown d n (b ∷ s)
unfolding run_text
shown_letter d n b s l w =
    record {
      squares = man l.0 l.1 ∷ w.squares;
      eight = omega (arith, w.eight);
      text = λ j h. rw (w.text 0 (λ _. refl), l.2);
    }

shown_digit : (d : Bool) (n j : ℕ) (s : List ℕ) → not d ≡ true → Shown true (n + suc j) s → Shown d n ((48 + suc j) ∷ s)
shown_digit false n j s e w =
    record {
      squares = replicate (suc j) empty ++ w.squares;
      eight = omega (arith, w.eight, length-append (replicate (suc j) empty) w.squares, length-replicate (suc j) empty);
      text = λ i h. rw (h refl) (empties (suc j) 0 w.squares ∙ ap (λ (k : ℕ). run_text k w.squares) (zero-add (suc j)) ∙ w.text (suc j) (λ q. absurd (false≢true (sym q))));
    }
shown_digit true n j s e w = absurd (false≢true e)

digit_met : (d : Bool) (n b : ℕ) (s : List ℕ) → b ≡ 48 + suc (b - 49) → not d ≡ true → Shown true (n + (b - 48)) s → Shown d n (b ∷ s)
digit_met d n b s e h w =
    let q : n + (b - 48) ≡ n + suc (b - 49) = omega arith in
    subst (λ (x : ℕ). Shown d n (x ∷ s)) (sym e) (shown_digit d n (b - 49) s h (subst (λ (x : ℕ). Shown true x s) q w))

shown : (s : List ℕ) (d : Bool) (n : ℕ) → fills d n s ≡ true → Shown d n s
unfolding fills run_text
shown [] d n e = record { squares = []; eight = omega (arith, eqb-true n 8 e); text = λ j h. refl }
shown (b ∷ s) d n e =
    ⊎_elim
    (λ h. shown_letter d n b s (letter_man b (left _ _ h)) (shown s false (n + 1) (right _ _ h)))
    (λ h. digit_met d n b s (digit_of b (left _ _ (left _ _ h))).0 (right _ _ (left _ _ h)) (shown s true (n + (b - 48)) (right _ _ h)))
    (either _ _ e)

-- document 01's words say no more than the printer: bytes that have the form are what is printed of eight squares
pub rank_printed : (s : List ℕ) → is_rank s ≡ true → (xs : List Man) × (length xs ≡ 8) × (run_text 0 xs ≡ s)
rank_printed s e = let w = shown s false 0 e in (w.squares, omega (arith, w.eight), w.text 0 (λ _. refl))
