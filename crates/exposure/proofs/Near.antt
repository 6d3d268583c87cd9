-- Nothing is between two squares a step apart, and a line's start is not between its ends: computed at each pair of squares.
use mathlib.Core.Path.{◌≡◌, refl, sym, ap, ◌∙◌}
use mathlib.Core.Bool.{Bool, true, false}
use Prim.Native.Nat.{ℕ, ◌<◌}
use lib.Dec.{eqb}
use borrow.Author.Tests.{eqb-true}
use Rattle.squares.specs.Tests.{◌and◌, ◌or◌}
use Rattle.squares.specs.Squares.{has, up_to, all_to}
use Rattle.geometry.specs.declared.Color.{Color}
use Rattle.geometry.specs.declared.Color.TheVariants.{White, Black}
use Rattle.geometry.specs.Lines.{between, between_of, same_rank, same_file, same_diagonal}
use Rattle.geometry.specs.Steps.{knight_step, king_step, pawn_takes}
use Rattle.squares.proofs.Digits.{has_zero}
use Rattle.squares.proofs.Every.{all_at, pair_eq}
use Rattle.tables.proofs.BetweenRule.{between_has}
use Rattle.laws.proofs.Cases.{implies, given}

pub not_start : (a b : ℕ) → a < 64 → b < 64 → between a b a ≡ false
unfolding between same_rank same_file same_diagonal ◌and◌ ◌or◌ all_to
not_start = pair_eq (λ a b. between a b a) (λ a b. false) refl

-- the two squares of a step have no square between them
abbrev adjoins : (ℕ → ℕ → Bool) → Bool
adjoins step = all_to 64 (λ a. all_to 64 (λ b. implies (step a b) (eqb (between_of a b) 0)))

near : (step : ℕ → ℕ → Bool) → adjoins step ≡ true → (a b j : ℕ) → a < 64 → b < 64 → j < 64 → step a b ≡ true → between a b j ≡ false
near step e a b j ha hb hj h =
    sym (between_has a b j hj)
    ∙ ap (λ (s : ℕ). has s j)
    (eqb-true (between_of a b) 0 (given (step a b) _ (all_at 64 (λ y. implies (step a y) (eqb (between_of a y) 0)) (all_at 64 (λ x. all_to 64 (λ y. implies (step x y) (eqb (between_of x y) 0))) e a ha) b hb) h))
    ∙ has_zero j

pub knight_near : (a b j : ℕ) → a < 64 → b < 64 → j < 64 → knight_step a b ≡ true → between a b j ≡ false
unfolding knight_step between_of between same_rank same_file same_diagonal up_to all_to ◌and◌ ◌or◌
knight_near = near knight_step refl

pub king_near : (a b j : ℕ) → a < 64 → b < 64 → j < 64 → king_step a b ≡ true → between a b j ≡ false
unfolding king_step between_of between same_rank same_file same_diagonal up_to all_to ◌and◌ ◌or◌
king_near = near king_step refl

pub pawn_near : (c : Color) (a b j : ℕ) → a < 64 → b < 64 → j < 64 → pawn_takes c a b ≡ true → between a b j ≡ false
unfolding pawn_takes between_of between same_rank same_file same_diagonal up_to all_to ◌and◌ ◌or◌
pawn_near White = near (pawn_takes White) refl
pawn_near Black = near (pawn_takes Black) refl
