-- The Rust's tests of castling and of un-en-passant, and the kind that it reads on the source, are the Laws'.
use mathlib.Core.Path.{◌≡◌, refl, sym, ap, ap₂, ◌∙◌, subst}
use mathlib.Core.Bool.{Bool, true, false, not, cond, true≢false, false≢true}
use Prim.Native.Nat.{ℕ, ◌<◌}
use native.Mathlib.Omega.{arith}
use lib.Dec.{eqb, leb}
use lib.Bits.{bit_and, bit_xor}
use borrow.Author.Tests.{eqb-true, eq-eqb, ne_eqb}
use Rattle.squares.specs.Tests.{◌and◌}
use Rattle.squares.specs.Squares.{file, has, up_to, only, all_to}
use Rattle.geometry.specs.declared.Color.{Color}
use Rattle.geometry.specs.declared.Color.TheVariants.{White, Black}
use Rattle.geometry.specs.Colors.{rank_for}
use Rattle.geometry.specs.Lines.{apart, files}
use Rattle.geometry.specs.Steps.{king_step}
use Rattle.laws.specs.declared.Piece.{Piece}
use Rattle.laws.specs.declared.Piece.TheVariants.{Pawn, Knight, Bishop, Rook, Queen, King}
use Rattle.laws.specs.declared.ChessRetraction.{ChessRetraction}
use Rattle.laws.specs.Men.{Man, empty, man, Men, kind_number, is_of, is_kind}
use Rattle.laws.specs.Positions.{Pos, king_home, king_to}
use Rattle.laws.specs.declared.Side.{Side}
use Rattle.laws.specs.declared.Side.TheVariants.{Short as short, Long as long}
use Rattle.laws.specs.declared.Way.{Way}
use Rattle.laws.specs.declared.Way.TheVariants.{Plain as plain, Passant as passant, Castle as castling}
use Rattle.laws.specs.declared.Board.{Board}
use Rattle.laws.specs.Moves.{way, mark_ok, moves, goes}
use Rattle.laws.specs.Unmaking.{leaving, promoted_to, undoable}
use Rattle.laws.specs.Boards.{kind_set, men_at, Clean}
use Rattle.incremental.specs.Moved.{is_piece, piece_on, castle_moves, is_uncastling, is_passant_uncapture}
use Rattle.squares.proofs.Testing.{both, left, right, failed, bool_ext}
use Rattle.squares.proofs.Digits.{differs, has_and, has_xor}
use Rattle.squares.proofs.Comprehension.{has_set_of}
use Rattle.squares.proofs.Every.{pair_eq}
use Rattle.laws.proofs.Mans.{same_colour, is_passant}
use Rattle.laws.proofs.ManSets.{has_kind}

-- a man of the colour c, by its kind
pub kind_of : (c : Color) (x : Man) → is_of c x ≡ true → (k : Piece) × (x ≡ man c k)
kind_of c empty h = absurd (false≢true h)
kind_of c (man d k) h = (k, ap (λ (e : Color). man e k) (sym (same_colour c d h)))

-- `piece_on` reads its kind
abbrev kind_read : (p n l r q : Bool) → Bool → Piece
kind_read p n l r q early = cond early (cond p Pawn (cond n Knight Bishop)) (cond r Rook (cond q Queen King))

pub piece_read : (b : Board) (s : ℕ) (c : Color) (k : Piece) → Clean b.pieces b.colors → s < 64 → men_at b.pieces b.colors s ≡ man c k → piece_on b s ≡ k
unfolding piece_on
piece_read b s c k ok l e =
    (λ i. kind_read (at Pawn i) (at Knight i) (at Bishop i) (at Rook i) (at Queen i) (early i)) ∙ reads k
  where
    at : (j : Piece) → has (kind_set b.pieces j) s ≡ is_piece j k
    at j = has_kind b.pieces b.colors ok j s l ∙ ap (is_kind j) e

    early : has (bit_xor (bit_xor (kind_set b.pieces Pawn) (kind_set b.pieces Knight)) (kind_set b.pieces Bishop)) s
        ≡ differs (differs (is_piece Pawn k) (is_piece Knight k)) (is_piece Bishop k)
    early =
        has_xor _ (kind_set b.pieces Bishop) s
        ∙ ap₂ differs (has_xor (kind_set b.pieces Pawn) (kind_set b.pieces Knight) s ∙ ap₂ differs (at Pawn) (at Knight)) (at Bishop)

    reads : (j : Piece)
        → kind_read (is_piece Pawn j) (is_piece Knight j) (is_piece Bishop j) (is_piece Rook j) (is_piece Queen j) (differs (differs (is_piece Pawn j) (is_piece Knight j)) (is_piece Bishop j)) ≡ j
    reads Pawn = refl
    reads Knight = refl
    reads Bishop = refl
    reads Rook = refl
    reads Queen = refl
    reads King = refl

-- the squares of `CASTLE_MOVES` are no king's step apart
step_apart : (a b : ℕ) → a < 64 → b < 64 → (has castle_moves a and has castle_moves b and king_step a b) ≡ false
unfolding ◌and◌ has all_to king_step
step_apart = pair_eq (λ a b. has castle_moves a and has castle_moves b and king_step a b) (λ a b. false) refl

-- a mark is borne by neither a pawn nor a king
officer : (c : Color) (k : Piece) (s : ℕ) → mark_ok (man c Pawn) c s true (kind_number k) ≡ true → (is_piece Pawn k ≡ false) × (is_piece King k ≡ false)
officer c k s h = go k (right _ _ (left _ _ h)) (right _ _ h)
  where
    go : (k : Piece) → leb 2 (kind_number k) ≡ true → leb (kind_number k) 5 ≡ true → (is_piece Pawn k ≡ false) × (is_piece King k ≡ false)
    go Pawn p q = absurd (false≢true p)
    go Knight p q = (refl, refl)
    go Bishop p q = (refl, refl)
    go Rook p q = (refl, refl)
    go Queen p q = (refl, refl)
    go King p q = absurd (false≢true q)

abbrev pub is_castle : Way → Bool
is_castle plain = false
is_castle passant = false
is_castle (castling d) = true

-- the way of a pawn, and of a king
pawn_passant : (b : Bool) → is_passant (cond b passant plain) ≡ b
pawn_passant true = refl
pawn_passant false = refl

pawn_castles : (b : Bool) → is_castle (cond b passant plain) ≡ false
pawn_castles true = refl
pawn_castles false = refl

king_passant : (b d e : Bool) → is_passant (cond b (cond d (castling short) (cond e (castling long) plain)) plain) ≡ false
king_passant true true e = refl
king_passant true false true = refl
king_passant true false false = refl
king_passant false d e = refl

same_file : (s t : ℕ) → eqb (file s) (file t) ≡ eqb (files t s) 0
same_file s t = bool_ext _ _ (λ h. eq-eqb _ _ (near (file s) (file t) (eqb-true (file s) (file t) h))) (λ h. eq-eqb _ _ (level (file s) (file t) (eqb-true (files t s) 0 h)))
  where
    near : (a b : ℕ) → a ≡ b → apart b a ≡ 0
    near a b e = omega arith

    level : (a b : ℕ) → apart b a ≡ 0 → a ≡ b
    level a b e = omega arith

-- a pawn's taking en passant, and that one which promotes does not
abbrev takes : ChessRetraction → Bool
takes r = eqb r.uncaptured 0 and not (eqb (files r.target r.source) 0)

promotes : (b : Bool) (c : Color) (s : ℕ) (m : Men) (n : ℕ) → undoable (cond b passant plain) c s m ≡ true → mark_ok (man c Pawn) c s true n ≡ true → false ≡ is_passant (cond b passant plain)
promotes true c s m n h g = absurd (ranks (rank_for c s) (eqb-true (rank_for c s) 5 (left _ _ (left _ _ h))) (eqb-true (rank_for c s) 7 (right _ _ (left _ _ (left _ _ g)))))
  where
    ranks : (a : ℕ) → a ≡ 5 → a ≡ 7 → ⊥
    ranks a p q = omega arith
promotes false c s m n h g = refl

pub passant_test : (r : ChessRetraction) (c : Color) (m : Men) (mark : Bool) (k : Piece) → mark_ok (leaving mark c (man c k)) c r.source mark (promoted_to mark (man c k)) ≡ true
    → undoable (way (leaving mark c (man c k)) r.target r.source r.uncaptured) c r.source m ≡ true
    → is_passant_uncapture k r ≡ is_passant (way (leaving mark c (man c k)) r.target r.source r.uncaptured)
unfolding is_passant_uncapture ◌and◌
passant_test r c m true k h g =
    ap (λ (b : Bool). (b and eqb r.uncaptured 0) and not (eqb (file r.source) (file r.target))) (officer c k r.source h).0
    ∙ promotes (takes r) c r.source m (kind_number k) g h
passant_test r c m false Pawn h g = ap (λ (b : Bool). eqb r.uncaptured 0 and not b) (same_file r.source r.target) ∙ sym (pawn_passant (takes r))
passant_test r c m false Knight h g = refl
passant_test r c m false Bishop h g = refl
passant_test r c m false Rook h g = refl
passant_test r c m false Queen h g = refl
passant_test r c m false King h g = sym (king_passant (eqb r.target (king_home c)) (eqb r.source (king_to c short)) (eqb r.source (king_to c long)))

-- a king's step is not one of castling
abbrev castles : ℕ → ℕ → Bool
castles s t = eqb (bit_and (bit_xor (only s) (only t)) castle_moves) (bit_xor (only s) (only t))

steps : (s t : ℕ) → s < 64 → t < 64 → king_step t s ≡ true → castles s t ≡ false
unfolding king_step
steps s t hs ht h = go (castles s t) refl
  where
    differ : (i j : ℕ) → eqb i j ≡ false → (differs (eqb i i) (eqb i j) ≡ true) × (differs (eqb i j) (eqb i i) ≡ true)
    differ i j e = (ap₂ differs (eq-eqb i i refl) e, ap₂ differs e (eq-eqb i i refl))

    apart : (t ≡ s) → ⊥
    apart e = failed (eqb t s) (left _ _ h) (eq-eqb t s e)

    go : (b : Bool) → castles s t ≡ b → b ≡ false
    go true e =
        absurd (true≢false (sym (both (both (inside t ht (differ t s (ne_eqb t s apart)).1) (inside s hs (differ s t (ne_eqb s t (λ z. apart (sym z)))).0)) h) ∙ step_apart t s ht hs))
      where
        inside : (j : ℕ) → j < 64 → differs (eqb j s) (eqb j t) ≡ true → has castle_moves j ≡ true
        inside j l d =
            right _ _ (sym (has_and (bit_xor (only s) (only t)) castle_moves j) ∙ ap (λ (x : ℕ). has x j) (eqb-true (bit_and (bit_xor (only s) (only t)) castle_moves) (bit_xor (only s) (only t)) e)
            ∙ has_xor (only s) (only t) j ∙ ap₂ differs (has_set_of (λ i. eqb i s) j l) (has_set_of (λ i. eqb i t) j l) ∙ d)
    go false e = refl

-- castling is one of its squares
castled : (c : Color) (d : Side) → castles (king_to c d) (king_home c) ≡ true
unfolding up_to
castled White short = refl
castled White long = refl
castled Black short = refl
castled Black long = refl

-- the way of a king
module _ (c : Color) (s t : ℕ) (hs : s < 64) (ht : t < 64) where
  abbrev king_way : (b d e : Bool) → Way
  king_way b d e = cond b (cond d (castling short) (cond e (castling long) plain)) plain

  king_castles : (b d e : Bool) → eqb t (king_home c) ≡ b → eqb s (king_to c short) ≡ d → eqb s (king_to c long) ≡ e
      → (king_way b d e ≡ plain → king_step t s ≡ true) → castles s t ≡ is_castle (king_way b d e)
  king_castles true true e p q r g = ap₂ castles (eqb-true _ _ q) (eqb-true _ _ p) ∙ castled c short
  king_castles true false true p q r g = ap₂ castles (eqb-true _ _ r) (eqb-true _ _ p) ∙ castled c long
  king_castles true false false p q r g = steps s t hs ht (g refl)
  king_castles false d e p q r g = steps s t hs ht (g refl)

pub castle_test : (r : ChessRetraction) (c : Color) (mark : Bool) (k : Piece) (e : Pos) → r.source < 64 → r.target < 64
    → mark_ok (leaving mark c (man c k)) c r.source mark (promoted_to mark (man c k)) ≡ true → e.men r.target ≡ leaving mark c (man c k)
    → goes e (way (leaving mark c (man c k)) r.target r.source r.uncaptured) r.target r.source r.uncaptured ≡ true
    → is_uncastling k r ≡ is_castle (way (leaving mark c (man c k)) r.target r.source r.uncaptured)
unfolding is_uncastling ◌and◌
castle_test r c true k e hs ht h there g =
    ap (λ (b : Bool). b and castles r.source r.target) (officer c k r.source h).1 ∙ sym (pawn_castles (takes r))
castle_test r c false Pawn e hs ht h there g = sym (pawn_castles (takes r))
castle_test r c false Knight e hs ht h there g = refl
castle_test r c false Bishop e hs ht h there g = refl
castle_test r c false Rook e hs ht h there g = refl
castle_test r c false Queen e hs ht h there g = refl
castle_test r c false King e hs ht h there g =
    king_castles c r.source r.target hs ht _ _ _ refl refl refl
    (λ w. subst (λ (x : Man). moves e.men x r.target r.source r.uncaptured ≡ true) there
    (subst (λ (v : Way). goes e v r.target r.source r.uncaptured ≡ true) w g))
