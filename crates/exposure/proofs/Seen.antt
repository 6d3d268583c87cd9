-- The squares from which a man attacks a square are those that it would reach from there, a pawn of the other colour.
use mathlib.Core.Path.{◌≡◌, refl, sym, ap, ap₂, ◌∙◌}
use mathlib.Core.Bool.{Bool, not}
use Prim.Native.Nat.{ℕ, ◌-◌, ◌/◌, ◌^◌, ◌<◌}
use Rattle.squares.specs.Tests.{◌and◌, ◌or◌}
use Rattle.squares.specs.Squares.{has, set_of}
use Rattle.geometry.specs.declared.Color.{Color}
use Rattle.geometry.specs.Colors.{opp}
use Rattle.geometry.specs.Lines.{between, between_of, straight, diagonal, aligned, free}
use Rattle.geometry.specs.Steps.{knight_step, king_step, pawn_takes, reaches}
use Rattle.laws.specs.Men.{Man, Men, man_of, bare}
use Rattle.laws.specs.Attacks.{attacks, union_of}
use Rattle.position.specs.inner.Edits.{man_with, color_by}
use Rattle.squares.proofs.Comprehension.{up_to_cong, set_of_none, not_is}
use Rattle.geometry.proofs.Turned.{knight_sym, king_sym, straight_sym, diagonal_sym, pawn_turned}
use Rattle.tables.proofs.BetweenRule.{between_lt, between_has}
use Rattle.laws.proofs.Mans.{opp_opp}
use Rattle.attacks.proofs.Meets.{clear_union}
use Rattle.position.proofs.Editing.{man_split}

-- `!between(t, a, k)`
pub off_between : (a k : ℕ) → (2 ^ 64 - 1) - between_of a k ≡ set_of (λ j. not (between a k j))
off_between a k =
    not_is 64 (between_of a k) (between_lt a k) ∙ up_to_cong 64 (λ j. not (has (between_of a k) j)) (λ j. not (between a k j)) (λ j l. ap not (between_has a k j l))

-- by the number of the kind of the man numbered x
module _ (m : Men) (x k : ℕ) (few : x < 14) (h : k < 64) where
  abbrev seen : Man → ℕ
  seen v = set_of (λ q. attacks m v q k)

  by_kind : (j : ℕ) → x / 2 ≡ j → seen (man_with (color_by x) j) ≡ seen (man_of x)
  by_kind j e = sym (ap (λ (v : Man). seen v) (man_split x few ∙ ap (man_with (color_by x)) e))

  along : (on : ℕ → ℕ → Bool) → ((q : ℕ) → q < 64 → on k q ≡ on q k) → set_of (reaches on (free (union_of m)) k) ≡ set_of (λ q. reaches on (bare m) q k)
  along on turn = up_to_cong 64 _ _ (λ q l. ap₂ ◌and◌ (turn q l) (clear_union m q k))

  pub none_seen : x / 2 ≡ 0 → 0 ≡ seen (man_of x)
  none_seen e = set_of_none _ (λ q l. refl) ∙ by_kind 0 e

  pub pawn_seen : x / 2 ≡ 1 → set_of (pawn_takes (opp (color_by x)) k) ≡ seen (man_of x)
  pawn_seen e = up_to_cong 64 _ _ (λ q l. pawn_turned (opp (color_by x)) k q h l ∙ ap (λ (d : Color). pawn_takes d q k) (opp_opp (color_by x))) ∙ by_kind 1 e

  pub knight_seen : x / 2 ≡ 2 → set_of (knight_step k) ≡ seen (man_of x)
  knight_seen e = up_to_cong 64 _ _ (λ q l. knight_sym k q h l) ∙ by_kind 2 e

  pub bishop_seen : x / 2 ≡ 3 → set_of (reaches diagonal (free (union_of m)) k) ≡ seen (man_of x)
  bishop_seen e = along diagonal (λ q l. diagonal_sym k q h l) ∙ by_kind 3 e

  pub rook_seen : x / 2 ≡ 4 → set_of (reaches straight (free (union_of m)) k) ≡ seen (man_of x)
  rook_seen e = along straight (λ q l. straight_sym k q h l) ∙ by_kind 4 e

  pub queen_seen : x / 2 ≡ 5 → set_of (reaches aligned (free (union_of m)) k) ≡ seen (man_of x)
  queen_seen e = along aligned (λ q l. ap₂ ◌or◌ (straight_sym k q h l) (diagonal_sym k q h l)) ∙ by_kind 5 e

  pub king_seen : x / 2 ≡ 6 → set_of (king_step k) ≡ seen (man_of x)
  king_seen e = up_to_cong 64 _ _ (λ q l. king_sym k q h l) ∙ by_kind 6 e
