-- The double step before en passant: boards on which it decides, computed in both editions, and the kings, which it leaves alone.
use mathlib.Core.Path.{◌≡◌, refl, ap, ◌∙◌}
use mathlib.Core.Bool.{Bool, true, false, not}
use Prim.Native.Nat.{ℕ}
use borrow.Author.Tests.{eqb-true, eq-eqb}
use Rattle.squares.specs.Tests.{◌and◌, ◌or◌}
use Rattle.squares.specs.Squares.{has, up_to, count_to, all_to, any_to}
use Rattle.geometry.specs.Lines.{same_rank, same_file, same_diagonal, straight, diagonal, between, between_of, clear}
use Rattle.geometry.specs.Steps.{knight_step, king_step, pawn_step, pawn_double, pawn_takes}
use Rattle.geometry.specs.declared.Color.{Color}
use Rattle.geometry.specs.declared.Color.TheVariants.{White, Black}
use Rattle.geometry.specs.Colors.{opp, behind}
use Rattle.laws.specs.declared.Piece.TheVariants.{Pawn, Rook, King}
use Rattle.laws.specs.declared.EnPassantFlag.TheVariants.{Any, Some}
use Rattle.laws.specs.declared.CastleRights.TheVariants.{NoRights}
use Rattle.laws.specs.declared.Edition.{Edition}
use Rattle.laws.specs.declared.Edition.TheVariants.{A, B}
use Rattle.laws.specs.declared.ChessRetraction.{ChessRetraction}
use Rattle.laws.specs.Men.{empty, man, Men, put}
use Rattle.laws.specs.Souls.{number}
use Rattle.laws.specs.Positions.{Pos, rights_of, terms_of}
use Rattle.laws.specs.Acceptance.{kings_ok, state_ok}
use Rattle.laws.specs.Strictness.{unstepped, strict}
use Rattle.squares.proofs.Testing.{both, left, right}
use Rattle.laws.proofs.Facts.{Named, names}
use Rattle.laws.proofs.Numbers.{weigh}
use Rattle.laws.proofs.Boundaries.{twice_behind_in}
use Rattle.laws.proofs.Kings.{calm_edit, no_king, no_king_put, empty_weight}

-- boards with no rights and an unknown state
abbrev board : Edition → Color → Men → Pos
board v c m = record { men = m; turn = c; rights = rights_of NoRights NoRights; state = Any; terms = terms_of v }

abbrev taken : ℕ → ℕ → ChessRetraction
taken s t = record { source = s; target = t; uncaptured = 0; unpromotion = false }

-- 8/8/8/8/8/3kp3/1K6/8 w: the pawn that stepped from e2 attacked the king on d3 from there, so neither d4 nor f4 took it
abbrev by_the_pawn : Men
by_the_pawn = put 20 (man Black Pawn) (put 19 (man Black King) (put 9 (man White King) (λ k. empty)))

-- k7/8/3P4/8/4K3/8/8/8 b: the pawn attacks the king on e4 from d5 alone, where it stepped to
abbrev by_the_step : Men
by_the_step = put 43 (man White Pawn) (put 28 (man White King) (put 56 (man Black King) (λ k. empty)))

-- 1k6/8/3P3K/8/8/8/8/8 b; with a rook on a6 the king on h6 was attacked before the step too
abbrev unattacked : Men
unattacked = put 43 (man White Pawn) (put 47 (man White King) (put 57 (man Black King) (λ k. empty)))

abbrev shown : Edition → Bool
shown v =
    not (strict (board v White by_the_pawn) (taken 20 27)) and not (strict (board v White by_the_pawn) (taken 20 29)) and strict (board v Black by_the_step) (taken 43 36)
    and strict (board v Black unattacked) (taken 43 36) and not (strict (board v Black (put 40 (man Black Rook) unattacked)) (taken 43 36))

pub boards_shown : (v : Edition) → shown v ≡ true
unfolding has up_to count_to all_to any_to same_rank same_file same_diagonal straight diagonal between between_of clear knight_step king_step pawn_step pawn_double pawn_takes ◌and◌ ◌or◌
boards_shown A = refl
boards_shown B = refl

-- no king comes or goes by the double step to q, after which c is to move
pub kings_unstepped : (v : Edition) (m : Men) (c : Color) (q : ℕ) → kings_ok m ≡ true → state_ok v m c (Some q) ≡ true → kings_ok (unstepped (opp c) q m) ≡ true
kings_unstepped v m c q k h = both (eq-eqb _ _ (same White ∙ eqb-true _ _ (left _ _ k))) (eq-eqb _ _ (same Black ∙ eqb-true _ _ (right _ _ k)))
  where
    n : Named v m c q
    n = names v m c q h

    home : ℕ
    home = behind (opp c) (behind (opp c) q)

    same : (a : Color) → number (unstepped (opp c) q m) a King ≡ number m a King
    same a =
        calm_edit (put q empty m) a home (man (opp c) Pawn) (twice_behind_in (opp c) q n.on_board n.on_fourth)
        (no_king_put a q empty m home (empty_weight a refl) (empty_weight a n.started)) (no_king a (opp c) Pawn refl)
        ∙ calm_edit m a q empty n.on_board (ap (weigh (man a King)) n.stepped ∙ no_king a (opp c) Pawn refl) (empty_weight a refl)
