-- Un-make neither adds nor takes a king (2).
use mathlib.Core.Path.{◌≡◌, refl, sym, ap, ◌∙◌}
use mathlib.Core.Logic.{◌≢◌}
use mathlib.Core.Bool.{Bool, true, false, cond, true≢false, false≢true}
use Prim.Native.Nat.{ℕ, zero, suc, ◌+◌, ◌<◌}
use native.Mathlib.Omega.{arith}
use lib.Dec.{eqb}
use borrow.Author.Tests.{eqb-true}
use Rattle.squares.specs.Tests.{◌and◌, ◌or◌}
use Rattle.geometry.specs.declared.Color.{Color}
use Rattle.geometry.specs.declared.Color.TheVariants.{White, Black}
use Rattle.geometry.specs.Colors.{opp, behind}
use Rattle.laws.specs.declared.Piece.{Piece}
use Rattle.laws.specs.declared.Piece.TheVariants.{Pawn, Knight, Bishop, Rook, Queen, King}
use Rattle.laws.specs.Men.{Man, empty, man, Men, kind_number, numbered, put}
use Rattle.laws.specs.Souls.{number}
use Rattle.laws.specs.declared.Side.{Side}
use Rattle.laws.specs.declared.Side.TheVariants.{Short as short, Long as long}
use Rattle.laws.specs.Positions.{corner, king_to, rook_to}
use Rattle.laws.specs.declared.Way.{Way}
use Rattle.laws.specs.declared.Way.TheVariants.{Plain as plain, Passant as passant, Castle as castling}
use Rattle.laws.specs.Moves.{mark_ok}
use Rattle.laws.specs.Unmaking.{before, leaving, undoable, promoted_to}
use Rattle.squares.proofs.Testing.{left, right}
use Rattle.laws.proofs.Cases.{every_color, every_kind, by_colors, by_kinds}
use Rattle.laws.proofs.Puts.{off}
use Rattle.laws.proofs.Numbers.{weigh, number_put}
use Rattle.laws.proofs.Retracting.{done_of}
use Rattle.laws.proofs.Boundaries.{behind_in, corner_in, rook_to_in}

-- an edit that changes nothing about kings
pub calm_edit : (m : Men) (c : Color) (k : ℕ) (x : Man) → k < 64 → weigh (man c King) (m k) ≡ 0 → weigh (man c King) x ≡ 0 → number (put k x m) c King ≡ number m c King
calm_edit m c k x h a b = go (number_put m c King k x h) a b
  where
    go : {n₁ n₂ w₁ w₂ : ℕ} → n₁ + w₁ ≡ n₂ + w₂ → w₁ ≡ 0 → w₂ ≡ 0 → n₁ ≡ n₂
    go e a b = omega arith

-- no man of another kind is a king
pub no_king : (c c' : Color) (d : Piece) → eqb (kind_number d) 6 ≡ false → weigh (man c King) (man c' d) ≡ 0
unfolding ◌and◌ ◌or◌
no_king c c' d e = go (eqb (kind_number d) 6) (eqb (weigh (man c King) (man c' d)) 0) e all refl
  where
    all : (eqb (kind_number d) 6 or eqb (weigh (man c King) (man c' d)) 0) ≡ true
    all =
        by_kinds (λ k. eqb (kind_number k) 6 or eqb (weigh (man c King) (man c' k)) 0)
        (by_colors (λ b. every_kind (λ k. eqb (kind_number k) 6 or eqb (weigh (man c King) (man b k)) 0))
        (by_colors (λ a. every_color (λ b. every_kind (λ k. eqb (kind_number k) 6 or eqb (weigh (man a King) (man b k)) 0))) refl c) c') d

    go : (a b : Bool) → a ≡ false → (a or b) ≡ true → eqb (weigh (man c King) (man c' d)) 0 ≡ b → weigh (man c King) (man c' d) ≡ 0
    go true b n h q = absurd (true≢false n)
    go false true n h q = eqb-true _ 0 q
    go false false n h q = absurd (false≢true h)

pub no_king_numbered : (c c' : Color) (u : ℕ) → weigh (man c King) (numbered c' u) ≡ 0
no_king_numbered White c' zero = refl
no_king_numbered Black c' zero = refl
no_king_numbered c c' (suc zero) = no_king c c' Pawn refl
no_king_numbered c c' (suc (suc zero)) = no_king c c' Knight refl
no_king_numbered c c' (suc (suc (suc zero))) = no_king c c' Bishop refl
no_king_numbered c c' (suc (suc (suc (suc zero)))) = no_king c c' Rook refl
no_king_numbered c c' (suc (suc (suc (suc (suc n))))) = no_king c c' Queen refl

-- the man that left and the man that stands there today are both that king or neither
pub same_weight : (c c' : Color) (b : Bool) (y : Man) (s : ℕ) → mark_ok (leaving b c y) c s b (promoted_to b y) ≡ true → weigh (man c' King) (leaving b c y) ≡ weigh (man c' King) y
same_weight c c' false y s h = refl
same_weight c c' true empty s h = absurd (false≢true (right _ _ (left _ _ h)))
same_weight c c' true (man d Pawn) s h = absurd (false≢true (right _ _ (left _ _ h)))
same_weight c c' true (man d Knight) s h = no_king c' c Pawn refl ∙ sym (no_king c' d Knight refl)
same_weight c c' true (man d Bishop) s h = no_king c' c Pawn refl ∙ sym (no_king c' d Bishop refl)
same_weight c c' true (man d Rook) s h = no_king c' c Pawn refl ∙ sym (no_king c' d Rook refl)
same_weight c c' true (man d Queen) s h = no_king c' c Pawn refl ∙ sym (no_king c' d Queen refl)
same_weight c c' true (man d King) s h = absurd (false≢true (right _ _ h))

-- a square with an edit over it holds no king if neither has
pub no_king_put : (c : Color) (k : ℕ) (x : Man) (m : Men) (j : ℕ) → weigh (man c King) x ≡ 0 → weigh (man c King) (m j) ≡ 0 → weigh (man c King) (put k x m j) ≡ 0
no_king_put c k x m j a b = go (eqb j k)
  where
    go : (q : Bool) → weigh (man c King) (cond q x (m j)) ≡ 0
    go true = a
    go false = b

pub empty_weight : (c : Color) {x : Man} → x ≡ empty → weigh (man c King) x ≡ 0
empty_weight White e = ap (weigh (man White King)) e
empty_weight Black e = ap (weigh (man Black King)) e

-- the man x goes back from s to t, by way of the men f in which s has been given up
kings_move : (m f : Men) (c : Color) (t s : ℕ) (x : Man) → t < 64 → number f c King + weigh (man c King) (m s) ≡ number m c King
    → weigh (man c King) (f t) ≡ 0 → weigh (man c King) x ≡ weigh (man c King) (m s) → number (put t x f) c King ≡ number m c King
kings_move m f c t s x ht a b e = go (number f c King) (number_put f c King t x ht) a b e
  where
    go : {n₁ n₃ w₁ w₂ w₃ : ℕ} (n₂ : ℕ) → n₁ + w₁ ≡ n₂ + w₂ → n₂ + w₃ ≡ n₃ → w₁ ≡ 0 → w₂ ≡ w₃ → n₁ ≡ n₃
    go n₂ p q a e = omega arith

-- s is given up
kings_gone : (m : Men) (c : Color) (s : ℕ) (y : Man) → s < 64 → weigh (man c King) y ≡ 0 → number (put s y m) c King + weigh (man c King) (m s) ≡ number m c King
kings_gone m c s y hs b = go (number m c King) (weigh (man c King) y) (number_put m c King s y hs) b
  where
    go : {n₁ : ℕ} (n₂ w : ℕ) → n₁ ≡ n₂ + w → w ≡ 0 → n₁ ≡ n₂
    go n₂ w e a = omega arith

king≢rook : (c : Color) (d : Side) → king_to c d ≢ rook_to c d
king≢rook White short e = omega arith
king≢rook White long e = omega arith
king≢rook Black short e = omega arith
king≢rook Black long e = omega arith

pub kings_back : (w : Way) (m : Men) (c c' : Color) (t s : ℕ) (x y : Man) → t < 64 → s < 64 → m t ≡ empty → weigh (man c' King) y ≡ 0 → weigh (man c' King) x ≡ weigh (man c' King) (m s)
    → undoable w c s m ≡ true → ((d : Side) → w ≡ castling d → s ≡ king_to c d) → number (before w c t s x y m) c' King ≡ number m c' King
kings_back plain m c c' t s x y ht hs bare hy hx h f =
    kings_move m (put s y m) c' t s x ht (kings_gone m c' s y hs hy) (no_king_put c' s y m t hy (empty_weight c' bare)) hx
kings_back passant m c c' t s x y ht hs bare hy hx h f =
    kings_move m (put v (man (opp c) Pawn) (put s y m)) c' t s x ht
    (ap (λ (n : ℕ). n + weigh (man c' King) (m s)) (calm_edit (put s y m) c' v (man (opp c) Pawn) v_in (no_king_put c' s y m v hy (empty_weight c' (done_of passant c s m h))) (no_king c' (opp c) Pawn refl))
    ∙ kings_gone m c' s y hs hy)
    (no_king_put c' v (man (opp c) Pawn) (put s y m) t (no_king c' (opp c) Pawn refl) (no_king_put c' s y m t hy (empty_weight c' bare))) hx
  where
    v : ℕ
    v = behind c s

    v_in : v < 64
    v_in = behind_in c s hs (eqb-true _ _ (left _ _ (left _ _ h)))
kings_back (castling d) m c c' t s x y ht hs bare hy hx h f =
    kings_move m (put (corner c d) (man c Rook) (put s y g)) c' t s x ht
    (ap (λ (n : ℕ). n + weigh (man c' King) (m s)) (calm_edit (put s y g) c' (corner c d) (man c Rook) (corner_in c d) (no_king_put c' s y g (corner c d) hy (no_king_put c' (rook_to c d) empty m (corner c d) (empty_weight c' refl) (empty_weight c' (done_of (castling d) c s m h).1))) (no_king c' c Rook refl))
    ∙ ap (λ (z : Man). number (put s y g) c' King + weigh (man c' King) z) (sym same_s)
    ∙ kings_gone g c' s y hs hy
    ∙ calm_edit m c' (rook_to c d) empty (rook_to_in c d) (ap (weigh (man c' King)) (done_of (castling d) c s m h).0 ∙ no_king c' c Rook refl) (empty_weight c' refl))
    (no_king_put c' (corner c d) (man c Rook) (put s y g) t (no_king c' c Rook refl) (no_king_put c' s y g t hy (no_king_put c' (rook_to c d) empty m t (empty_weight c' refl) (empty_weight c' bare)))) hx
  where
    g : Men
    g = put (rook_to c d) empty m

    same_s : g s ≡ m s
    same_s = off (rook_to c d) empty s (λ q. king≢rook c d (sym (f d refl) ∙ q)) refl
