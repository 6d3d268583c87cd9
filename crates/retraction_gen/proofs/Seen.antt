-- What the lists see of an accepted board: clean men and their union, so that the Rust's test of attack is the Laws' there.
use mathlib.Core.Path.{◌≡◌, ap, ◌∙◌}
use Prim.Native.Nat.{ℕ, ◌<◌}
use lib.ListN.{length}
use Rattle.geometry.specs.declared.Color.{Color}
use Rattle.laws.specs.Attacks.{attacked}
use Rattle.board.specs.declared.RetractableBoard.{RetractableBoard}
use Rattle.board.specs.Gate.{position_on, men_on, gate_of}
use Rattle.view.specs.Views.{view_of}
use Rattle.view.specs.inner.Readiness.{Whole}
use Rattle.kings.specs.Kings.{attacked_of}
use Rattle.retraction_gen.specs.Making.{view_on}
use Rattle.laws.proofs.Cleaning.{Bounded}
use Rattle.laws.proofs.Mans.{opp_opp}
use Rattle.board.proofs.Passing.{gate_sound, gate_passed}
use Rattle.view.proofs.Seen.{whole}
use Rattle.kings.proofs.Attacked.{same_attack}
use Rattle.refusal.specs.Refusals.{nothing_refused}

module _ (b : RetractableBoard) (six : length b.pieces ≡ 6) (two : length b.colors ≡ 2) (kinds : Bounded b.pieces) (colours : Bounded b.colors)
    (g : gate_of b ≡ nothing_refused) where
  pub seen_whole : Whole (view_on b)
  seen_whole = whole (position_on b) b.combined b.pinned b.checkers (gate_sound b six two kinds colours g).clean (gate_passed b g).union_is

  pub accepted_attack : (sq : ℕ) → sq < 64 → attacked_of (view_on b) sq ≡ attacked (men_on b) b.turn sq
  unfolding view_of
  accepted_attack sq h = same_attack (view_on b) seen_whole sq h ∙ ap (λ (c : Color). attacked (men_on b) c sq) (opp_opp b.turn)
