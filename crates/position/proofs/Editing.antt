-- The edit of a square in every set is the Laws' `put`.
use mathlib.Core.Path.{◌≡◌, refl, ap, ap₂, ◌∙◌}
use mathlib.Core.Bool.{Bool, true, false, not, cond, ◌&&◌}
use mathlib.Core.List.{List, [], ◌∷◌}
use Prim.Native.Nat.{ℕ, zero, suc, ◌+◌, ◌*◌, ◌/◌, ◌%◌, ◌^◌, ◌<◌}
use native.Mathlib.Omega.{arith}
use lib.Dec.{eqb, ltb}
use lib.Bits.{bit_or, or_lt}
use lib.ListN.{length, get_or, set}
use Rattle.squares.specs.Tests.{◌and◌, ◌or◌}
use Rattle.squares.specs.Squares.{has, set_of, only, besides, all_to}
use Rattle.geometry.specs.declared.Color.{Color}
use Rattle.geometry.specs.declared.Color.TheVariants.{White, Black}
use Rattle.laws.specs.declared.Piece.{Piece}
use Rattle.laws.specs.declared.Piece.TheVariants.{Pawn, Knight, Bishop, Rook, Queen, King}
use Rattle.laws.specs.Men.{Man, Men, kind_number, color_place, man_number, man_of, same_man, is_empty, is_of, is_kind, put}
use Rattle.laws.specs.Boards.{kind_set, color_set, kind_sets, color_sets, men_at, Clean, men_in}
use Rattle.laws.specs.declared.Position.{Position}
use Rattle.position.specs.inner.Edits.{with_men, edit, man_with, color_by}
use Rattle.squares.proofs.Testing.{agree, agree_eq}
use Rattle.squares.proofs.Digits.{has_or}
use Rattle.squares.proofs.Comprehension.{up_to_lt, up_to_cong, is_up_to, has_set_of}
use Rattle.squares.proofs.Every.{all_at}
use Rattle.laws.proofs.Cases.{by_colors, by_kinds, by_men}
use Rattle.laws.proofs.Mans.{same, by_number}
use Rattle.laws.proofs.ManSets.{has_kind, has_colour}

-- one set
in_at : (a b : Bool) → (a or b) ≡ cond b true a
unfolding ◌or◌
in_at true true = refl
in_at true false = refl
in_at false true = refl
in_at false false = refl

out_at : (a b : Bool) → (a and not b) ≡ cond b false a
unfolding ◌and◌
out_at true true = refl
out_at true false = refl
out_at false true = refl
out_at false false = refl

pub edit_in : (w s : ℕ) → w < 2 ^ 64 → bit_or w (only s) ≡ edit w s true
unfolding edit
edit_in w s h =
    is_up_to 64 (bit_or w (only s)) (λ k. cond (eqb k s) true (has w k)) (or_lt 64 w (only s) h (up_to_lt 64 (λ j. eqb j s)))
    (λ k l. has_or w (only s) k ∙ ap (λ (t : Bool). has w k or t) (has_set_of (λ j. eqb j s) k l) ∙ in_at (has w k) (eqb k s))

pub edit_out : (w s : ℕ) → set_of (besides w s) ≡ edit w s false
unfolding edit
edit_out w s = up_to_cong 64 (besides w s) (λ k. cond (eqb k s) false (has w k)) (λ k l. out_at (has w k) (eqb k s))

-- the numbers below 14
module _ (x : ℕ) (h : x < 14) where
  pub kind_on : (k : Piece) → eqb (x / 2) (kind_number k) ≡ is_kind k (man_of x)
  unfolding all_to ◌and◌
  kind_on k =
      agree_eq _ _ (all_at 14 (λ n. agree (eqb (n / 2) (kind_number k)) (is_kind k (man_of n)))
      (by_kinds (λ j. all_to 14 (λ n. agree (eqb (n / 2) (kind_number j)) (is_kind j (man_of n)))) refl k) x h)

  pub color_on : (c : Color) → (ltb 1 x and eqb (x % 2) (color_place c)) ≡ is_of c (man_of x)
  unfolding all_to ◌and◌
  color_on c =
      agree_eq _ _ (all_at 14 (λ n. agree (ltb 1 n and eqb (n % 2) (color_place c)) (is_of c (man_of n)))
      (by_colors (λ d. all_to 14 (λ n. agree (ltb 1 n and eqb (n % 2) (color_place d)) (is_of d (man_of n)))) refl c) x h)

  -- a man by its colour and its kind's number
  pub man_split : man_of x ≡ man_with (color_by x) (x / 2)
  unfolding all_to ◌and◌
  man_split = same _ _ (all_at 14 (λ n. same_man (man_of n) (man_with (color_by n) (n / 2))) refl x h)

-- an edit of the set of a test is the set of the test after `put`
module _ (f : Man → Bool) (m : Men) (s : ℕ) (y : Man) where
  through : (t : Bool) (z : Man) → cond t (f y) (f z) ≡ f (cond t y z)
  through true z = refl
  through false z = refl

  edit_put : (w : ℕ) (on : Bool) → ((j : ℕ) → j < 64 → has w j ≡ f (m j)) → on ≡ f y → edit w s on ≡ set_of (λ j. f (put s y m j))
  unfolding edit
  edit_put w on h e = up_to_cong 64 (λ j. cond (eqb j s) on (has w j)) (λ j. f (put s y m j)) (λ j l. ap₂ (cond (eqb j s)) e (h j l) ∙ through (eqb j s) (m j))

-- the stores
stored_kinds : (p : List ℕ) (u v w x y z : ℕ) → length p ≡ 6 → set (set (set (set (set (set p 0 u) 1 v) 2 w) 3 x) 4 y) 5 z ≡ u ∷ v ∷ w ∷ x ∷ y ∷ z ∷ []
stored_kinds [] u v w x y z h = absurd (omega arith)
stored_kinds (a ∷ []) u v w x y z h = absurd (omega arith)
stored_kinds (a ∷ b ∷ []) u v w x y z h = absurd (omega arith)
stored_kinds (a ∷ b ∷ c ∷ []) u v w x y z h = absurd (omega arith)
stored_kinds (a ∷ b ∷ c ∷ d ∷ []) u v w x y z h = absurd (omega arith)
stored_kinds (a ∷ b ∷ c ∷ d ∷ e ∷ []) u v w x y z h = absurd (omega arith)
stored_kinds (a ∷ b ∷ c ∷ d ∷ e ∷ f ∷ []) u v w x y z h = refl
stored_kinds (a ∷ b ∷ c ∷ d ∷ e ∷ f ∷ g ∷ l) u v w x y z h = absurd (omega arith)

stored_colours : (p : List ℕ) (u v : ℕ) → length p ≡ 2 → set (set p 0 u) 1 v ≡ u ∷ v ∷ []
stored_colours [] u v h = absurd (omega arith)
stored_colours (a ∷ []) u v h = absurd (omega arith)
stored_colours (a ∷ b ∷ []) u v h = refl
stored_colours (a ∷ b ∷ g ∷ l) u v h = absurd (omega arith)

-- the eight stores are `put`
pub put_is : (p : Position) (s x : ℕ) {a b d e f g v w : ℕ} → Clean p.pieces p.colors → x < 14 → length p.pieces ≡ 6 → length p.colors ≡ 2
    → a ≡ edit (get_or p.pieces 0 0) s (eqb (x / 2) 1) → b ≡ edit (get_or p.pieces 1 0) s (eqb (x / 2) 2) → d ≡ edit (get_or p.pieces 2 0) s (eqb (x / 2) 3)
    → e ≡ edit (get_or p.pieces 3 0) s (eqb (x / 2) 4) → f ≡ edit (get_or p.pieces 4 0) s (eqb (x / 2) 5) → g ≡ edit (get_or p.pieces 5 0) s (eqb (x / 2) 6)
    → v ≡ edit (get_or p.colors 0 0) s (ltb 1 x && eqb (x % 2) 0) → w ≡ edit (get_or p.colors 1 0) s (ltb 1 x && eqb (x % 2) 1)
    → ◌≡◌ {A = Position} (record {
      pieces = set (set (set (set (set (set p.pieces 0 a) 1 b) 2 d) 3 e) 4 f) 5 g;
      colors = set (set p.colors 0 v) 1 w;
      turn = p.turn;
      white = p.white;
      black = p.black;
      passant = p.passant;
      terms = p.terms;
    }) (with_men p (put s (man_of x) (men_in p)))
unfolding with_men kind_sets color_sets ◌and◌
put_is p s x {a} {b} {d} {e} {f} {g} {v} {w} ok few six two e₁ e₂ e₃ e₄ e₅ e₆ e₇ e₈ =
    λ i. record { pieces = kinds i; colors = colours i; turn = p.turn; white = p.white; black = p.black; passant = p.passant; terms = p.terms }
  where
    m : Men
    m = men_at p.pieces p.colors

    kind : (k : Piece) → edit (kind_set p.pieces k) s (eqb (x / 2) (kind_number k)) ≡ set_of (λ j. is_kind k (put s (man_of x) (men_in p) j))
    kind k = edit_put (is_kind k) (men_in p) s (man_of x) (kind_set p.pieces k) (eqb (x / 2) (kind_number k)) (has_kind p.pieces p.colors ok k) (kind_on x few k)

    colour : (c : Color) → edit (color_set p.colors c) s (ltb 1 x and eqb (x % 2) (color_place c)) ≡ set_of (λ j. is_of c (put s (man_of x) (men_in p) j))
    colour c = edit_put (is_of c) (men_in p) s (man_of x) (color_set p.colors c) (ltb 1 x and eqb (x % 2) (color_place c)) (has_colour p.pieces p.colors ok c) (color_on x few c)

    kinds : set (set (set (set (set (set p.pieces 0 a) 1 b) 2 d) 3 e) 4 f) 5 g ≡ kind_sets (put s (man_of x) (men_in p))
    kinds =
        stored_kinds p.pieces a b d e f g six
        ∙ (λ i. (e₁ ∙ kind Pawn) i ∷ (e₂ ∙ kind Knight) i ∷ (e₃ ∙ kind Bishop) i ∷ (e₄ ∙ kind Rook) i ∷ (e₅ ∙ kind Queen) i ∷ (e₆ ∙ kind King) i ∷ [])

    colours : set (set p.colors 0 v) 1 w ≡ color_sets (put s (man_of x) (men_in p))
    colours = stored_colours p.colors v w two ∙ (λ i. (e₇ ∙ colour White) i ∷ (e₈ ∙ colour Black) i ∷ [])

-- the number of a man by its colour and its kind's number
pub number_with : (c : Color) (k : ℕ) → (k ≡ 0 → ⊥) → k < 7 → 2 * k + color_place c ≡ man_number (man_with c k)
number_with c zero z h = absurd (z refl)
number_with c (suc zero) z h = refl
number_with c (suc (suc zero)) z h = refl
number_with c (suc (suc (suc zero))) z h = refl
number_with c (suc (suc (suc (suc zero)))) z h = refl
number_with c (suc (suc (suc (suc (suc zero))))) z h = refl
number_with c (suc (suc (suc (suc (suc (suc zero)))))) z h = refl
number_with c (suc (suc (suc (suc (suc (suc (suc n))))))) z h = absurd (omega arith)

-- the man whose number is known, and whether there is one
pub is_man : {n : ℕ} (x : Man) → n ≡ man_number x → man_of n ≡ x
is_man x e = ap man_of e ∙ by_number x

pub no_man : {n : ℕ} (x : Man) → n ≡ man_number x → eqb n 0 ≡ is_empty x
unfolding ◌and◌
no_man x e = ap (λ (k : ℕ). eqb k 0) e ∙ agree_eq _ _ (by_men (λ y. agree (eqb (man_number y) 0) (is_empty y)) refl x)
