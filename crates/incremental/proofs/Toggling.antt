-- A xor of the sets of some men: where a square of it holds that man, the man is lifted, and where it holds nobody, the man is put.
use mathlib.Core.Path.{◌≡◌, refl, sym, ap, ap₂, ◌∙◌, subst}
use mathlib.Core.Logic.{◌≢◌}
use mathlib.Core.Bool.{Bool, true, false, not, cond}
use mathlib.Core.List.{[], ◌∷◌}
use Prim.Native.Nat.{ℕ, ◌<◌, ◌^◌}
use lib.Dec.{eqb}
use lib.Bits.{bit_xor, xor_lt}
use lib.ListN.{set}
use borrow.Author.Tests.{eqb-true}
use Rattle.squares.specs.Squares.{has, set_of, only}
use Rattle.geometry.specs.declared.Color.{Color}
use Rattle.geometry.specs.declared.Color.TheVariants.{White, Black}
use Rattle.laws.specs.declared.Piece.{Piece}
use Rattle.laws.specs.declared.Piece.TheVariants.{Pawn, Knight, Bishop, Rook, Queen, King}
use Rattle.laws.specs.declared.Board.{Board}
use Rattle.laws.specs.Men.{Man, empty, man, Men, color_place, kind_place, is_empty, is_of, is_kind, put}
use Rattle.laws.specs.Attacks.{union_of}
use Rattle.laws.specs.Boards.{kind_set, color_set, kind_sets, color_sets}
use Rattle.incremental.specs.Moved.{is_piece, xor_of}
use Rattle.squares.proofs.Digits.{differs, has_xor}
use Rattle.squares.proofs.Comprehension.{up_to_lt, is_up_to, has_set_of}

-- a board with the sets of the men m
abbrev pub with_men : Board → Men → Board
with_men b m = record {
  pieces = kind_sets m;
  colors = color_sets m;
  combined = union_of m;
  turn = b.turn;
  white = b.white;
  black = b.black;
  pinned = b.pinned;
  checkers = b.checkers;
  passant = b.passant;
  terms = b.terms;
}

-- one square, in the xor or not: what stands there before and after
pub data Toggles (x : Man) : Bool → Man → Man → Type 0 where
  stays : {y : Man} → Toggles x false y y
  lifted : Toggles x true x empty
  placed : Toggles x true empty x

unchanged : (u v : Bool) → u ≡ cond v (differs u false) u
unchanged true true = refl
unchanged true false = refl
unchanged false true = refl
unchanged false false = refl

-- of the three tests that make the sets, those of the man alone change
taken : (v : Bool) → false ≡ cond v (differs v true) v
taken true = refl
taken false = refl

given : (v : Bool) → v ≡ cond v (differs false true) false
given true = refl
given false = refl

module _ (c : Color) (k : Piece) where
  kind_at : (j : Piece) {t : Bool} {y z : Man} → Toggles (man c k) t y z → is_kind j z ≡ cond (is_piece j k) (differs (is_kind j y) t) (is_kind j y)
  kind_at j (stays {y}) = unchanged (is_kind j y) (is_piece j k)
  kind_at j lifted = taken (is_piece j k)
  kind_at j placed = given (is_piece j k)

  colour_at : (d : Color) {t : Bool} {y z : Man} → Toggles (man c k) t y z
      → is_of d z ≡ cond (eqb (color_place d) (color_place c)) (differs (is_of d y) t) (is_of d y)
  colour_at d (stays {y}) = unchanged (is_of d y) (eqb (color_place d) (color_place c))
  colour_at d lifted = taken (eqb (color_place d) (color_place c))
  colour_at d placed = given (eqb (color_place d) (color_place c))

  union_at : {t : Bool} {y z : Man} → Toggles (man c k) t y z → not (is_empty z) ≡ differs (not (is_empty y)) t
  union_at (stays {y}) = unchanged (not (is_empty y)) true
  union_at lifted = refl
  union_at placed = refl

module _ (b : Board) (m n : Men) (c : Color) (k : Piece) (bb : ℕ) (fits : bb < 2 ^ 64) (at : (a : ℕ) → a < 64 → Toggles (man c k) (has bb a) (m a) (n a)) where
  stored : (f : Man → Bool) (t : Bool) → ((a : ℕ) → a < 64 → f (n a) ≡ cond t (differs (f (m a)) (has bb a)) (f (m a)))
      → cond t (bit_xor (set_of (λ a. f (m a))) bb) (set_of (λ a. f (m a))) ≡ set_of (λ a. f (n a))
  stored f true h =
      is_up_to 64 (bit_xor (set_of (λ a. f (m a))) bb) (λ a. f (n a)) (xor_lt 64 _ _ (up_to_lt 64 (λ a. f (m a))) fits)
      (λ a l. has_xor (set_of (λ a. f (m a))) bb a ∙ ap (λ (u : Bool). differs u (has bb a)) (has_set_of (λ a. f (m a)) a l) ∙ sym (h a l))
  stored f false h = is_up_to 64 (set_of (λ a. f (m a))) (λ a. f (n a)) (up_to_lt 64 (λ a. f (m a))) (λ a l. has_set_of (λ a. f (m a)) a l ∙ sym (h a l))

  kinds_stored : (i : Piece)
      → ((j : Piece) → cond (is_piece j i) (bit_xor (set_of (λ a. is_kind j (m a))) bb) (set_of (λ a. is_kind j (m a))) ≡ set_of (λ a. is_kind j (n a)))
      → set (kind_sets m) (kind_place i) (bit_xor (kind_set (kind_sets m) i) bb) ≡ kind_sets n
  unfolding kind_sets
  kinds_stored Pawn h = λ i. h Pawn i ∷ h Knight i ∷ h Bishop i ∷ h Rook i ∷ h Queen i ∷ h King i ∷ []
  kinds_stored Knight h = λ i. h Pawn i ∷ h Knight i ∷ h Bishop i ∷ h Rook i ∷ h Queen i ∷ h King i ∷ []
  kinds_stored Bishop h = λ i. h Pawn i ∷ h Knight i ∷ h Bishop i ∷ h Rook i ∷ h Queen i ∷ h King i ∷ []
  kinds_stored Rook h = λ i. h Pawn i ∷ h Knight i ∷ h Bishop i ∷ h Rook i ∷ h Queen i ∷ h King i ∷ []
  kinds_stored Queen h = λ i. h Pawn i ∷ h Knight i ∷ h Bishop i ∷ h Rook i ∷ h Queen i ∷ h King i ∷ []
  kinds_stored King h = λ i. h Pawn i ∷ h Knight i ∷ h Bishop i ∷ h Rook i ∷ h Queen i ∷ h King i ∷ []

  colours_stored : (e : Color)
      → ((d : Color) → cond (eqb (color_place d) (color_place e)) (bit_xor (set_of (λ a. is_of d (m a))) bb) (set_of (λ a. is_of d (m a))) ≡ set_of (λ a. is_of d (n a)))
      → set (color_sets m) (color_place e) (bit_xor (color_set (color_sets m) e) bb) ≡ color_sets n
  unfolding color_sets
  colours_stored White h = λ i. h White i ∷ h Black i ∷ []
  colours_stored Black h = λ i. h White i ∷ h Black i ∷ []

  pub xor_men : xor_of (with_men b m) k bb c ≡ with_men b n
  unfolding xor_of
  xor_men =
      λ i. record {
        pieces = kinds_stored k (λ j. stored (is_kind j) (is_piece j k) (λ a l. kind_at c k j (at a l))) i;
        colors = colours_stored c (λ d. stored (is_of d) (eqb (color_place d) (color_place c)) (λ a l. colour_at c k d (at a l))) i;
        combined = stored (λ x. not (is_empty x)) true (λ a l. union_at c k (at a l)) i;
        turn = b.turn;
        white = b.white;
        black = b.black;
        pinned = b.pinned;
        checkers = b.checkers;
        passant = b.passant;
        terms = b.terms;
      }

-- a xor of one square, and of two
pub lifts : {x : Man} (y : Man) → y ≡ x → Toggles x true y empty
lifts {x} y e = subst (λ (w : Man). Toggles x true w empty) (sym e) lifted

pub puts : (x y : Man) → y ≡ empty → Toggles x true y x
puts x y e = subst (λ (w : Man). Toggles x true w x) (sym e) placed

module _ (b : Board) (m : Men) (c : Color) (k : Piece) where
  pub xor_one : (s : ℕ) (z : Man) → Toggles (man c k) true (m s) z → xor_of (with_men b m) k (only s) c ≡ with_men b (put s z m)
  xor_one s z e =
      xor_men b m (put s z m) c k (only s) (up_to_lt 64 (λ j. eqb j s))
      (λ a l. subst (λ (t : Bool). Toggles (man c k) t (m a) (put s z m a)) (sym (has_set_of (λ j. eqb j s) a l)) (go a (eqb a s) refl))
    where
      go : (a : ℕ) (t : Bool) → eqb a s ≡ t → Toggles (man c k) t (m a) (cond t z (m a))
      go a true h = subst (λ (j : ℕ). Toggles (man c k) true (m j) z) (sym (eqb-true a s h)) e
      go a false h = stays

  pub xor_two : (s t : ℕ) (y z : Man) → s ≢ t → Toggles (man c k) true (m s) y → Toggles (man c k) true (m t) z
      → xor_of (with_men b m) k (bit_xor (only s) (only t)) c ≡ with_men b (put t z (put s y m))
  xor_two s t y z ne e f =
      xor_men b m (put t z (put s y m)) c k (bit_xor (only s) (only t)) (xor_lt 64 _ _ (up_to_lt 64 (λ j. eqb j s)) (up_to_lt 64 (λ j. eqb j t)))
      (λ a l. subst (λ (u : Bool). Toggles (man c k) u (m a) (put t z (put s y m) a))
      (sym (has_xor (only s) (only t) a ∙ ap₂ differs (has_set_of (λ j. eqb j s) a l) (has_set_of (λ j. eqb j t) a l))) (go a (eqb a s) (eqb a t) refl refl))
    where
      go : (a : ℕ) (u v : Bool) → eqb a s ≡ u → eqb a t ≡ v → Toggles (man c k) (differs u v) (m a) (cond v z (cond u y (m a)))
      go a true true h g = absurd (ne (sym (eqb-true a s h) ∙ eqb-true a t g))
      go a true false h g = subst (λ (j : ℕ). Toggles (man c k) true (m j) y) (sym (eqb-true a s h)) e
      go a false true h g = subst (λ (j : ℕ). Toggles (man c k) true (m j) z) (sym (eqb-true a t g)) f
      go a false false h g = stays
