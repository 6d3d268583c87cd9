-- Facts of men, of kinds promoted to, and of the ways of moving.
use mathlib.Core.Path.{◌≡◌, refl, sym, ap, ◌∙◌, subst}
use mathlib.Core.Bool.{Bool, true, false, not, cond, false≢true}
use Prim.Native.Nat.{ℕ, zero, suc, ◌≤◌}
use native.Mathlib.Nat.{not-suc-le-zero}
use native.Mathlib.Omega.{arith}
use lib.Dec.{eqb, leb}
use borrow.Author.Tests.{eqb-true, eq-eqb, leb-true}
use Rattle.squares.specs.Tests.{◌and◌}
use Rattle.geometry.specs.declared.Color.{Color}
use Rattle.geometry.specs.declared.Color.TheVariants.{White, Black}
use Rattle.geometry.specs.Colors.{opp}
use Rattle.geometry.specs.Lines.{files}
use Rattle.laws.specs.declared.Piece.{Piece}
use Rattle.laws.specs.declared.Piece.TheVariants.{Pawn, Knight, Bishop, Rook, Queen, King}
use Rattle.laws.specs.declared.EnPassantFlag.{EnPassantFlag}
use Rattle.laws.specs.declared.EnPassantFlag.TheVariants.{Any, Some, None}
use Rattle.laws.specs.Men.{Man, empty, man, kind_number, numbered, color_place, man_number, man_of, same_man, is_empty, is_of, is_pawn}
use Rattle.laws.specs.declared.Side.{Side}
use Rattle.laws.specs.declared.Side.TheVariants.{Short as short, Long as long}
use Rattle.laws.specs.Positions.{king_home, king_to}
use Rattle.laws.specs.declared.Way.{Way}
use Rattle.laws.specs.declared.Way.TheVariants.{Plain as plain, Passant as passant, Castle as castling}
use Rattle.laws.specs.Moves.{way, mark_ok, arriving, is_named}
use Rattle.laws.specs.Unmaking.{leaving, promoted_to}
use Rattle.squares.proofs.Testing.{left, right}

pub opp_opp : (c : Color) → opp (opp c) ≡ c
opp_opp White = refl
opp_opp Black = refl

-- a man is told by its number
pub by_number : (x : Man) → man_of (man_number x) ≡ x
by_number empty = refl
by_number (man White Pawn) = refl
by_number (man White Knight) = refl
by_number (man White Bishop) = refl
by_number (man White Rook) = refl
by_number (man White Queen) = refl
by_number (man White King) = refl
by_number (man Black Pawn) = refl
by_number (man Black Knight) = refl
by_number (man Black Bishop) = refl
by_number (man Black Rook) = refl
by_number (man Black Queen) = refl
by_number (man Black King) = refl

pub same : (x y : Man) → same_man x y ≡ true → x ≡ y
same x y e =
    sym (by_number x) ∙ ap (λ (n : ℕ). man_of n) (eqb-true (man_number x) (man_number y) e) ∙ by_number y

pub same_self : (x y : Man) → x ≡ y → same_man x y ≡ true
same_self x y e = eq-eqb (man_number x) (man_number y) (ap (λ (z : Man). man_number z) e)

pub is_empty_lem : (x : Man) → is_empty x ≡ true → x ≡ empty
is_empty_lem empty e = refl
is_empty_lem (man c k) e = absurd (false≢true e)

-- a man is of one colour
pub one_colour : (c : Color) (k : Piece) → is_of c (man (opp c) k) ≡ false
one_colour White k = refl
one_colour Black k = refl

pub own_colour : (c : Color) (k : Piece) → is_of c (man c k) ≡ true
own_colour White k = refl
own_colour Black k = refl

pub same_colour : (c d : Color) → eqb (color_place c) (color_place d) ≡ true → c ≡ d
same_colour White White e = refl
same_colour White Black e = absurd (false≢true e)
same_colour Black White e = absurd (false≢true e)
same_colour Black Black e = refl

pub numbered_not_of : (c : Color) (u : ℕ) → is_of c (numbered (opp c) u) ≡ false
numbered_not_of c zero = refl
numbered_not_of c (suc zero) = one_colour c Pawn
numbered_not_of c (suc (suc zero)) = one_colour c Knight
numbered_not_of c (suc (suc (suc zero))) = one_colour c Bishop
numbered_not_of c (suc (suc (suc (suc zero)))) = one_colour c Rook
numbered_not_of c (suc (suc (suc (suc (suc n))))) = one_colour c Queen

pub pawn_of : (c : Color) (x : Man) → is_of c x ≡ true → is_pawn x ≡ true → x ≡ man c Pawn
pawn_of c empty e f = absurd (false≢true e)
pawn_of c (man d Pawn) e f = ap (λ (z : Color). man z Pawn) (sym (same_colour c d e))
pawn_of c (man d Knight) e f = absurd (false≢true f)
pawn_of c (man d Bishop) e f = absurd (false≢true f)
pawn_of c (man d Rook) e f = absurd (false≢true f)
pawn_of c (man d Queen) e f = absurd (false≢true f)
pawn_of c (man d King) e f = absurd (false≢true f)

-- promotion: the man that left is the one that stands there before the move
pub leaves : (x : Man) (c : Color) (s : ℕ) (b : Bool) (k : ℕ) → is_of c x ≡ true → mark_ok x c s b k ≡ true → leaving b c (arriving b x c k) ≡ x
leaves x c s true k e h = sym (pawn_of c x e (left _ _ (left _ _ (left _ _ h))))
leaves x c s false k e h = refl

-- the man that stands on the source arrived there
pub arrives : (y : Man) (c : Color) (s : ℕ) (b : Bool) → is_of c y ≡ true → mark_ok (leaving b c y) c s b (promoted_to b y) ≡ true
    → y ≡ arriving b (leaving b c y) c (promoted_to b y)
arrives y c s false e h = refl
arrives empty c s true e h = absurd (false≢true e)
arrives (man d k) c s true e h = ap (λ (z : Color). man z k) (sym (same_colour c d e)) ∙ own k (right _ _ h)
  where
    own : (k : Piece) → leb (kind_number k) 5 ≡ true → man c k ≡ numbered c (kind_number k)
    own Pawn b = refl
    own Knight b = refl
    own Bishop b = refl
    own Rook b = refl
    own Queen b = refl
    own King b = absurd (false≢true b)

above_five : (n : ℕ) → leb (suc (suc (suc (suc (suc (suc n)))))) 5 ≡ true → ⊥
above_five n e = not-suc-le-zero (five_off (leb-true (suc (suc (suc (suc (suc (suc n)))))) 5 e))
  where
    five_off : suc (suc (suc (suc (suc (suc n))))) ≤ 5 → suc n ≤ 0
    five_off h = omega arith

pub kind_back_lem : (x : Man) (c : Color) (s : ℕ) (b : Bool) (k : ℕ) → mark_ok x c s b k ≡ true → promoted_to b (arriving b x c k) ≡ k
kind_back_lem x c s false k h = sym (eqb-true k 0 (right _ _ h))
kind_back_lem x c s true zero h = refl
kind_back_lem x c s true (suc zero) h = refl
kind_back_lem x c s true (suc (suc zero)) h = refl
kind_back_lem x c s true (suc (suc (suc zero))) h = refl
kind_back_lem x c s true (suc (suc (suc (suc zero)))) h = refl
kind_back_lem x c s true (suc (suc (suc (suc (suc zero))))) h = refl
kind_back_lem x c s true (suc (suc (suc (suc (suc (suc n)))))) h = absurd (above_five n (right _ _ h))

pub arriving_of : (x : Man) (c : Color) (s : ℕ) (b : Bool) (k : ℕ) → is_of c x ≡ true → mark_ok x c s b k ≡ true → is_of c (arriving b x c k) ≡ true
arriving_of x c s false k e h = e
arriving_of x c s true zero e h = absurd (false≢true (right _ _ (left _ _ h)))
arriving_of x c s true (suc zero) e h = own_colour c Pawn
arriving_of x c s true (suc (suc zero)) e h = own_colour c Knight
arriving_of x c s true (suc (suc (suc zero))) e h = own_colour c Bishop
arriving_of x c s true (suc (suc (suc (suc zero)))) e h = own_colour c Rook
arriving_of x c s true (suc (suc (suc (suc (suc n))))) e h = own_colour c Queen

-- ways, told apart by tests
abbrev pub is_passant : Way → Bool
is_passant plain = false
is_passant passant = true
is_passant (castling d) = false

is_castling : Side → Way → Bool
is_castling d plain = false
is_castling d passant = false
is_castling short (castling short) = true
is_castling short (castling long) = false
is_castling long (castling short) = false
is_castling long (castling long) = true

castling_side : (d : Side) → is_castling d (castling d) ≡ true
unfolding is_castling
castling_side short = refl
castling_side long = refl

-- a choice of ways that passes a test which the other way does not
chosen : (b : Bool) (x y : Way) (f : Way → Bool) → f (cond b x y) ≡ true → f y ≡ false → b ≡ true
chosen true x y f e n = refl
chosen false x y f e n = absurd (false≢true (sym n ∙ e))

-- a king's way
king_way : Bool → Bool → Bool → Way
king_way a b l = cond a (cond b (castling short) (cond l (castling long) plain)) plain

pub passant_is : (x : Man) (t s u : ℕ) (c : Color) → is_of c x ≡ true → way x t s u ≡ passant → (x ≡ man c Pawn) × (u ≡ 0)
unfolding king_way
passant_is x t s u c e h = go x e (ap is_passant h)
  where
    no_king : (a b l : Bool) → is_passant (king_way a b l) ≡ true → ⊥
    no_king true true l e = false≢true e
    no_king true false true e = false≢true e
    no_king true false false e = false≢true e
    no_king false b l e = false≢true e

    go : (y : Man) → is_of c y ≡ true → is_passant (way y t s u) ≡ true → (y ≡ man c Pawn) × (u ≡ 0)
    go empty e h = absurd (false≢true h)
    go (man d Pawn) e h =
        (ap (λ (z : Color). man z Pawn) (sym (same_colour c d e)), eqb-true u 0 (left _ _ (chosen (eqb u 0 and not (eqb (files t s) 0)) passant plain is_passant h refl)))
    go (man d Knight) e h = absurd (false≢true h)
    go (man d Bishop) e h = absurd (false≢true h)
    go (man d Rook) e h = absurd (false≢true h)
    go (man d Queen) e h = absurd (false≢true h)
    go (man d King) e h = absurd (no_king (eqb t (king_home d)) (eqb s (king_to d short)) (eqb s (king_to d long)) h)

pub castling_is : (x : Man) (t s u : ℕ) (c : Color) (d : Side) → is_of c x ≡ true → way x t s u ≡ castling d → (t ≡ king_home c) × (s ≡ king_to c d) × (x ≡ man c King)
unfolding is_castling king_way
castling_is x t s u c d e h = go x e (ap (is_castling d) h ∙ castling_side d)
  where
    king_case : (a b l : Bool) (d : Side) → is_castling d (king_way a b l) ≡ true → (a ≡ true) × (elim d as (λ _. Bool) [ short ↦ b | long ↦ l ] ≡ true)
    king_case true true l short e = (refl, refl)
    king_case true true l long e = absurd (false≢true e)
    king_case true false true short e = absurd (false≢true e)
    king_case true false true long e = (refl, refl)
    king_case true false false short e = absurd (false≢true e)
    king_case true false false long e = absurd (false≢true e)
    king_case false b l short e = absurd (false≢true e)
    king_case false b l long e = absurd (false≢true e)

    on_side : (c : Color) (d : Side) → (elim d as (λ _. Bool) [ short ↦ eqb s (king_to c short) | long ↦ eqb s (king_to c long) ]) ≡ true → s ≡ king_to c d
    on_side c short e = eqb-true s (king_to c short) e
    on_side c long e = eqb-true s (king_to c long) e

    no : (d : Side) → is_castling d plain ≡ true → ⊥
    no short e = false≢true e
    no long e = false≢true e

    no_pawn : (b : Bool) (d : Side) → is_castling d (cond b passant plain) ≡ true → ⊥
    no_pawn true short e = false≢true e
    no_pawn true long e = false≢true e
    no_pawn false d e = no d e

    go : (y : Man) → is_of c y ≡ true → is_castling d (way y t s u) ≡ true → (t ≡ king_home c) × (s ≡ king_to c d) × (y ≡ man c King)
    go empty e h = absurd (no d h)
    go (man c' Pawn) e h = absurd (no_pawn (eqb u 0 and not (eqb (files t s) 0)) d h)
    go (man c' Knight) e h = absurd (no d h)
    go (man c' Bishop) e h = absurd (no d h)
    go (man c' Rook) e h = absurd (no d h)
    go (man c' Queen) e h = absurd (no d h)
    go (man c' King) e h =
        let k = king_case (eqb t (king_home c')) (eqb s (king_to c' short)) (eqb s (king_to c' long)) d h in
        subst (λ (z : Color). (t ≡ king_home z) × (s ≡ king_to z d) × (man c' King ≡ man z King)) (sym (same_colour c c' e)) (eqb-true t (king_home c') k.0, on_side c' d k.1, refl)

pub state_named : (st : EnPassantFlag) (q : ℕ) → is_named st q ≡ true → st ≡ Some q
state_named Any q e = absurd (false≢true e)
state_named None q e = absurd (false≢true e)
state_named (Some p) q e = ap (λ (z : ℕ). Some z) (eqb-true p q e)
