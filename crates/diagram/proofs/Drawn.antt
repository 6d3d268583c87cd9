-- The texts of a diagram: their lengths, and how they are put one behind the other.
use mathlib.Core.Path.{◌≡◌, refl, sym, ap}
use mathlib.Core.List.{List, [], ◌∷◌, ◌++◌}
use Prim.Native.Nat.{ℕ, zero, suc, ◌+◌, ◌-◌, ◌*◌, ◌≤◌, ◌<◌}
use native.Mathlib.Nat.{le_refl, mul-zero, mul-suc}
use native.Mathlib.Omega.{arith}
use lib.Dec.{ltb}
use lib.ListN.{length, get_or, take, length-append, length-take}
use lib.Seq.{take_all}
use borrow.Author.Tests.{ltb-true}
use Rattle.squares.specs.Tests.{◌and◌}
use Rattle.squares.specs.Members.{concat}
use Rattle.geometry.specs.declared.Color.TheVariants.{White, Black}
use Rattle.laws.specs.declared.Piece.{Piece}
use Rattle.laws.specs.Men.{Man, empty, man}
use Rattle.laws.proofs.Cases.{by_kinds}
use Rattle.men_field.specs.Placement.{kind_letter, byte_of}
use Rattle.output.specs.Appending.{Adds}
use Rattle.output.proofs.Adding.{adds_as}
use Rattle.rows.proofs.Adding.{adds_next}
use Rattle.diagram.specs.declared.Drawing.{Drawing}
use Rattle.words.specs.Words.{bytes, bytes_in}
use Rattle.words.proofs.Chained.{ends}
use Rattle.diagram.specs.Diagrams.{shown_as, square_text, eight, squares_text, rank_text, ranks_text, border, files, diagram_of}

has_letter : (k : Piece) → 0 < kind_letter k
unfolding ◌and◌
has_letter k = ltb-true 0 (kind_letter k) (by_kinds (λ j. ltb 0 (kind_letter j)) refl k)

-- the code's 0 stands for no man
pub shown_none : (m : Man) → byte_of m ≡ 0 → 46 ≡ shown_as m
shown_none empty e = refl
shown_none (man White k) e = absurd (omega (arith, has_letter k))
shown_none (man Black k) e = absurd (omega arith)

pub shown_some : (m : Man) → (byte_of m ≡ 0 → ⊥) → byte_of m ≡ shown_as m
shown_some empty e = absurd (e refl)
shown_some (man c k) e = refl

eight_at : (i : ℕ) → i < 8 → get_or eight i 0 ≡ i
eight_at zero h = refl
eight_at (suc zero) h = refl
eight_at (suc (suc zero)) h = refl
eight_at (suc (suc (suc zero))) h = refl
eight_at (suc (suc (suc (suc zero)))) h = refl
eight_at (suc (suc (suc (suc (suc zero))))) h = refl
eight_at (suc (suc (suc (suc (suc (suc zero)))))) h = refl
eight_at (suc (suc (suc (suc (suc (suc (suc zero))))))) h = refl
eight_at (suc (suc (suc (suc (suc (suc (suc (suc i)))))))) h = absurd (omega arith)

-- a loop over the eight puts the text of the next, and in the end all
module _ (f : ℕ → List ℕ) {o x : List ℕ} {len r : ℕ} (i : ℕ) (a : Adds o len (concat f (take i eight)) r x) where
  pub eight_next : {y : List ℕ} {s : ℕ} → len + length (concat f eight) ≤ length o → i < 8 → Adds x r (f i) s y → Adds o len (concat f (take (i + 1) eight)) s y
  eight_next {y} {s} room h q = adds_next f eight i h o x y len r s room a (adds_as x y (f i) (f (get_or eight i 0)) r s q (ap f (sym (eight_at i h))))

  pub eight_all : 8 ≤ i → Adds o len (concat f eight) r x
  eight_all h = adds_as o x (concat f (take i eight)) (concat f eight) len r a (ap (concat f) (take_all i eight h))

-- texts of n bytes each
concat_length : (f : ℕ → List ℕ) (n : ℕ) → ((k : ℕ) → length (f k) ≡ n) → (l : List ℕ) → length (concat f l) ≡ n * length l
unfolding concat
concat_length f n h [] = sym (mul-zero n)
concat_length f n h (x ∷ l) = omega (arith, length-append (f x) (concat f l), h x, concat_length f n h l, mul-suc n (length l))

module _ (d : Drawing) where
  pub squares_length : (r : ℕ) → length (squares_text d r) ≡ 24
  squares_length r = concat_length (λ f. square_text d (8 * r + f)) 3 (λ f. refl) eight

  pub rank_length : (r : ℕ) → length (rank_text d r) ≡ 29
  unfolding bytes_in
  rank_length r =
      omega (
        arith,
        length-append ((49 + r) ∷ bytes " |") (squares_text d r),
        length-append (((49 + r) ∷ bytes " |") ++ squares_text d r) (bytes "|\n"),
        squares_length r,
      )

  ranks_length : (l : List ℕ) → length (concat (λ i. rank_text d (7 - i)) l) ≡ 29 * length l
  ranks_length = concat_length (λ i. rank_text d (7 - i)) 29 (λ i. rank_length (7 - i))

  pub all_ranks_length : length (ranks_text d) ≡ 232
  all_ranks_length = ranks_length eight

  -- the ranks that were put leave the next its room
  pub ranks_most : {o x : List ℕ} {len r : ℕ} (i : ℕ) → i < 8 → Adds o len (concat (λ j. rank_text d (7 - j)) (take i eight)) r x → r + 29 ≤ len + 232
  ranks_most i h a = omega (arith, ends (length (concat (λ j. rank_text d (7 - j)) (take i eight))) a (le_refl _), ranks_length (take i eight), length-take i eight)

  pub diagram_length : length (diagram_of d) ≡ 317
  unfolding bytes_in diagram_of
  diagram_length =
      omega (
        arith,
        length-append border (ranks_text d),
        length-append (border ++ ranks_text d) border,
        length-append (border ++ ranks_text d ++ border) files,
        all_ranks_length,
      )
