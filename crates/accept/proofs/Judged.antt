-- The tests of the arrays are those of the men.
use mathlib.Core.Path.{◌≡◌, refl, sym, ap, ap₂, ◌∙◌}
use mathlib.Core.Bool.{Bool, true, false, not}
use mathlib.Core.List.{List}
use Prim.Native.Nat.{ℕ, ◌<◌, ◌≤◌}
use lib.Dec.{eqb}
use lib.Bits.{bit_and}
use borrow.Author.Tests.{eq-eqb, ne_eqb, lt-ltb, le-ltb}
use Rattle.squares.specs.Tests.{◌and◌, ◌or◌}
use Rattle.squares.specs.Squares.{rank, has, every_square}
use Rattle.geometry.specs.declared.Color.{Color}
use Rattle.geometry.specs.declared.Color.TheVariants.{White, Black}
use Rattle.geometry.specs.Colors.{opp, rank_for, behind}
use Rattle.laws.specs.declared.Piece.TheVariants.{Pawn}
use Rattle.laws.specs.declared.EnPassantFlag.TheVariants.{Some}
use Rattle.laws.specs.declared.Edition.{Edition}
use Rattle.laws.specs.Men.{man, Men, is_empty, is_pawn, same_man}
use Rattle.laws.specs.Positions.{Rights}
use Rattle.laws.specs.declared.Side.TheVariants.{Short as short, Long as long}
use Rattle.laws.specs.Acceptance.{edge, pawns_ok, right_ok, rights_ok, state_ok, noted}
use Rattle.laws.specs.Boards.{kind_set, men_at, Clean}
use Rattle.men.specs.inner.Standing.{noted_of}
use Rattle.accept.specs.inner.Parts.{stepped_twice}
use Rattle.squares.proofs.Testing.{agree, agree_eq}
use Rattle.squares.proofs.Every.{meet_test, all_cong, square_eq}
use Rattle.laws.proofs.Cases.{by_cases}
use Rattle.laws.proofs.ManSets.{has_kind, kind_lt}

pub not_both : (a b : Bool) → (not a or not b) ≡ not (a and b)
unfolding ◌and◌ ◌or◌
not_both true b = refl
not_both false b = refl

not_four : (a b d e : Bool) → (not a or not b or not d or not e) ≡ not (a and b and d and e)
unfolding ◌and◌ ◌or◌
not_four a b d e = agree_eq (not a or not b or not d or not e) (not (a and b and d and e)) (by_cases 4 (λ a b d e. agree (not a or not b or not d or not e) (not (a and b and d and e))) refl a b d e)

-- 3: a mask that has the squares of rank 1 and 8
pub pawns_is : (pieces colors : List ℕ) → Clean pieces colors → (mask : ℕ) → every_square (λ k. agree (has mask k) (edge k)) ≡ true
    → not (eqb (bit_and (kind_set pieces Pawn) mask) 0) ≡ not (pawns_ok (men_at pieces colors))
pawns_is pieces colors ok mask e =
    ap not (meet_test 64 (kind_set pieces Pawn) mask (kind_lt pieces colors ok Pawn)
    ∙ all_cong 64 (λ k. not (has (kind_set pieces Pawn) k and has mask k)) (λ k. not (is_pawn (men_at pieces colors k) and edge k))
    (λ k l. ap₂ (λ (t u : Bool). not (t and u)) (has_kind pieces colors ok Pawn k l) (square_eq (has mask) edge e k l)))

-- 4
pub rights_is : (m : Men) (ρ : Rights)
    → (not (right_ok m ρ White short) or not (right_ok m ρ White long) or not (right_ok m ρ Black short) or not (right_ok m ρ Black long)) ≡ not (rights_ok m ρ)
rights_is m ρ = not_four (right_ok m ρ White short) (right_ok m ρ White long) (right_ok m ρ Black short) (right_ok m ρ Black long)

-- 5: the rank is the fourth, or it is not
stepped_law : (p e f r : Bool) → r ≡ true → ((p and e) and f) ≡ (p and r and e and f)
unfolding ◌and◌
stepped_law p e f r h =
    agree_eq ((p and e) and f) (p and true and e and f) (by_cases 3 (λ p e f. agree ((p and e) and f) (p and true and e and f)) refl p e f)
    ∙ ap (λ (t : Bool). p and t and e and f) (sym h)

elsewhere : (p e f r : Bool) → r ≡ false → false ≡ (p and r and e and f)
unfolding ◌and◌
elsewhere p e f r h =
    agree_eq false (p and false and e and f) (by_cases 3 (λ p e f. agree false (p and false and e and f)) refl p e f)
    ∙ ap (λ (t : Bool). p and t and e and f) (sym h)

pub is_stepped : (m : Men) (c : Color) (q : ℕ) → rank_for c q ≡ 3
    → ((same_man (m q) (man c Pawn) and is_empty (m (behind c q))) and is_empty (m (behind c (behind c q)))) ≡ stepped_twice m c q
unfolding stepped_twice
is_stepped m c q h = stepped_law (same_man (m q) (man c Pawn)) (is_empty (m (behind c q))) (is_empty (m (behind c (behind c q)))) (eqb (rank_for c q) 3) (eq-eqb (rank_for c q) 3 h)

pub not_stepped : (m : Men) (c : Color) (q : ℕ) → (rank_for c q ≡ 3 → ⊥) → false ≡ stepped_twice m c q
unfolding stepped_twice
not_stepped m c q h = elsewhere (same_man (m q) (man c Pawn)) (is_empty (m (behind c q))) (is_empty (m (behind c (behind c q)))) (eqb (rank_for c q) 3) (ne_eqb (rank_for c q) 3 h)

-- the square is one of the 64, or it is not
abbrev below : Edition → Men → Color → ℕ → Bool → Bool
below v m c q t =
    t and same_man (m q) (man (opp c) Pawn) and eqb (rank_for (opp c) q) 3 and is_empty (m (behind (opp c) q)) and is_empty (m (behind (opp c) (behind (opp c) q)))
    and noted v m c q

pub square_is : (v : Edition) (m : Men) (c : Color) (q : ℕ) → q < 64 → not (stepped_twice m (opp c) q and noted_of v m c q) ≡ not (state_ok v m c (Some q))
unfolding stepped_twice noted_of ◌and◌
square_is v m c q h = ap (λ (t : Bool). not (below v m c q t)) (sym (lt-ltb q 64 h))

pub square_above : (v : Edition) (m : Men) (c : Color) (q : ℕ) → 64 ≤ q → true ≡ not (state_ok v m c (Some q))
unfolding ◌and◌
square_above v m c q h = ap (λ (t : Bool). not (below v m c q t)) (sym (le-ltb q 64 h))
