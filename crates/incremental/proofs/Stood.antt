-- A man that the retraction did not bring stood on its square already.
use mathlib.Core.Path.{◌≡◌, refl, sym, ◌∙◌, ap}
use mathlib.Core.Bool.{Bool, true, false, cond, not, true≢false, false≢true}
use Prim.Native.Nat.{ℕ, zero, suc}
use lib.Dec.{eqb, leb}
use Rattle.squares.specs.Tests.{◌and◌, ◌or◌}
use Rattle.geometry.specs.declared.Color.{Color}
use Rattle.geometry.specs.Colors.{opp, behind}
use Rattle.laws.specs.declared.Piece.{Piece}
use Rattle.laws.specs.declared.Piece.TheVariants.{Pawn, Rook, King}
use Rattle.laws.specs.Men.{Man, empty, man, Men, kind_number, numbered, is_of, is_kind, same_man, put}
use Rattle.laws.specs.Positions.{corner, rook_to}
use Rattle.laws.specs.declared.Way.{Way}
use Rattle.laws.specs.declared.Way.TheVariants.{Plain as plain, Passant as passant, Castle as castling}
use Rattle.laws.specs.Unmaking.{before, leaving}
use Rattle.laws.proofs.Cases.{by_kinds}
use Rattle.laws.proofs.Mans.{is_passant, same, same_self, one_colour, own_colour, numbered_not_of}

unput : (k : ℕ) (x : Man) (m : Men) (j : ℕ) (z : Man) → same_man x z ≡ false → put k x m j ≡ z → m j ≡ z
unput k x m j z ne = go (eqb j k)
  where
    go : (b : Bool) → cond b x (m j) ≡ z → m j ≡ z
    go true e = absurd (true≢false (sym (same_self x z e) ∙ ne))
    go false e = e

pub stood : (w : Way) (c : Color) (t s : ℕ) (x y z : Man) (m : Men) (j : ℕ)
    → same_man x z ≡ false → same_man y z ≡ false → (is_passant w ≡ true → same_man (man (opp c) Pawn) z ≡ false) → same_man (man c Rook) z ≡ false → same_man empty z ≡ false
    → before w c t s x y m j ≡ z → m j ≡ z
stood plain c t s x y z m j hx hy hp hr he e = unput s y m j z hy (unput t x (put s y m) j z hx e)
stood passant c t s x y z m j hx hy hp hr he e =
    unput s y m j z hy (unput (behind c s) (man (opp c) Pawn) (put s y m) j z (hp refl) (unput t x (put (behind c s) (man (opp c) Pawn) (put s y m)) j z hx e))
stood (castling d) c t s x y z m j hx hy hp hr he e =
    unput (rook_to c d) empty m j z he
    (unput s y (put (rook_to c d) empty m) j z hy
    (unput (corner c d) (man c Rook) (put s y (put (rook_to c d) empty m)) j z hr
    (unput t x (put (corner c d) (man c Rook) (put s y (put (rook_to c d) empty m))) j z hx e)))

-- a test tells two men apart
apart : (f : Man → Bool) (x y : Man) → f x ≡ false → f y ≡ true → same_man x y ≡ false
apart f x y e h = go (same_man x y) refl
  where
    go : (t : Bool) → same_man x y ≡ t → t ≡ false
    go true s = absurd (false≢true (sym e ∙ ap f (same x y s) ∙ h))
    go false s = refl

-- men of one colour are not men of the other
pub other : (c : Color) (x : Man) (k : Piece) → is_of c x ≡ true → same_man x (man (opp c) k) ≡ false
other c x k h = apart (λ z. not (is_of c z)) x (man (opp c) k) (ap not h) (ap not (one_colour c k))

-- the uncaptured man is no king of the mover, and has the kind of its number, five or more being a queen
pub no_king : (c : Color) (u : ℕ) → same_man (numbered (opp c) u) (man c King) ≡ false
no_king c u = apart (is_of c) (numbered (opp c) u) (man c King) (numbered_not_of c u) (own_colour c King)

abbrev kind_law : Color → ℕ → Piece → Bool
kind_law c u k = not (is_kind k (numbered c u)) or (leb 5 (kind_number k) or eqb u (kind_number k))

kind_law_lem : (c : Color) (u : ℕ) (k : Piece) → kind_law c u k ≡ true
unfolding ◌or◌ ◌and◌
kind_law_lem c zero = by_kinds (kind_law c 0) refl
kind_law_lem c (suc zero) = by_kinds (kind_law c 1) refl
kind_law_lem c (suc (suc zero)) = by_kinds (kind_law c 2) refl
kind_law_lem c (suc (suc (suc zero))) = by_kinds (kind_law c 3) refl
kind_law_lem c (suc (suc (suc (suc zero)))) = by_kinds (kind_law c 4) refl
kind_law_lem c (suc (suc (suc (suc (suc n))))) = by_kinds (kind_law c (suc (suc (suc (suc (suc n)))))) refl

pub unnumbered : (c : Color) (u : ℕ) (k : Piece) → leb 5 (kind_number k) ≡ false → eqb u (kind_number k) ≡ false → same_man (numbered c u) (man c k) ≡ false
unfolding ◌or◌ ◌and◌
unnumbered c u k l e = apart (is_kind k) (numbered c u) (man c k) (go (is_kind k (numbered c u)) (rw (l, e) at (kind_law_lem c u k))) (by_kinds (λ j. is_kind j (man c j)) refl k)
  where
    go : (t : Bool) → (not t or (false or false)) ≡ true → t ≡ false
    go true h = absurd (false≢true h)
    go false h = refl

-- nor is the man that left the target, unless a king stands on the source
pub not_king : (b : Bool) (c : Color) (x : Man) → is_kind King x ≡ false → same_man (leaving b c x) (man c King) ≡ false
not_king true c x e = apart (is_kind King) (man c Pawn) (man c King) refl refl
not_king false c x e = apart (is_kind King) x (man c King) e refl

-- a rook of one side is neither its king nor a man of the other
pub no_rook : (c : Color) → same_man (man c Rook) (man c King) ≡ false
no_rook c = apart (is_kind King) (man c Rook) (man c King) refl refl

pub no_man : (c : Color) (k : Piece) → same_man empty (man c k) ≡ false
no_man c k = apart (is_of c) empty (man c k) refl (own_colour c k)
