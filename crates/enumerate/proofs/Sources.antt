-- Every entry of the ported list goes from a square, whatever is seen of the board.
use mathlib.Core.Path.{◌≡◌}
use mathlib.Core.Bool.{true, not}
use Prim.Native.Nat.{ℕ, ◌<◌}
use native.Mathlib.Omega.{arith}
use lib.Dec.{eqb, ltb}
use lib.Bits.{bit_and}
use Rattle.squares.specs.Tests.{◌and◌, ◌or◌}
use Rattle.squares.specs.Squares.{has}
use Rattle.squares.specs.Members.{compl}
use Rattle.geometry.specs.Colors.{opp, back_of}
use Rattle.laws.specs.declared.Piece.TheVariants.{Knight, Queen}
use Rattle.laws.specs.Men.{kind_place}
use Rattle.laws.specs.declared.EnPassantFlag.{EnPassantFlag}
use Rattle.laws.specs.declared.EnPassantFlag.TheVariants.{Any, Some, None}
use Rattle.retraction_list.specs.Entries.{sound}
use Rattle.view.specs.declared.View.{View}
use Rattle.enumerate.specs.Lists.{lesser_of, kinds_of, by_checkers, named_of, by_state, list_of}
use Rattle.squares.proofs.Members.{first_lt}
use Rattle.retraction_list.proofs.Sourced.{sound_none, sound_one, sound_if, sound_offered, sound_both, sound_each}
use Rattle.officers.specs.Officers as officers
use Rattle.pawns.specs.Pawns as pawns
use Rattle.un_en_passant.specs.UnEnPassants as passants
use Rattle.kings.specs.Kings as kings

each_sound : (v : View) (k allowed set : ℕ) → sound (officers.each_of v k allowed set) ≡ true
unfolding officers.each_of officers.from_of
each_sound v k allowed set = sound_each _ set (λ src h. sound_offered src _ _ _ h)

alone_sound : (v : View) (k : ℕ) → sound (officers.alone_of v k) ≡ true
unfolding officers.alone_of officers.alone_at
alone_sound v k =
    sound_if (eqb (bit_and v.checkers (officers.free_of v k)) 0) _ _ sound_none
    (sound_if (eqb k (kind_place Knight)) _ _ (sound_offered _ _ _ _ (first_lt v.checkers))
    (sound_both _ _ (sound_offered _ _ _ _ (first_lt v.checkers)) (sound_offered _ _ _ _ (first_lt v.checkers))))

onto_sound : (v : View) (k : ℕ) → sound (officers.onto_of v k) ≡ true
unfolding officers.onto_of
onto_sound v k =
    sound_if (not (eqb k (kind_place Queen)) and eqb (bit_and v.checkers (officers.kind_men v k)) 0) _ _ (each_sound v k _ _) sound_none

both_sound : (v : View) (k : ℕ) → sound (officers.both_of v k) ≡ true
unfolding officers.both_of officers.both_at
both_sound v k =
    sound_if (not (eqb (bit_and v.checkers (officers.free_of v k)) 0) and not (eqb (bit_and v.checkers (compl (officers.kind_men v k))) 0)) _ _
    (sound_offered _ _ _ _ (first_lt _)) sound_none

officer_sound : (v : View) (n k : ℕ) → sound (officers.officer_of v n k) ≡ true
unfolding officers.officer_of officers.calm_of
officer_sound v n k =
    sound_if (eqb n 0) _ _ (each_sound v k _ _) (sound_if (eqb n 1) _ _ (sound_both _ _ (alone_sound v k) (onto_sound v k)) (both_sound v k))

pawn_sound : (v : View) (n : ℕ) → sound (pawns.pawn_of v n) ≡ true
unfolding pawns.pawn_of pawns.steps_of pawns.from_of passants.un_en_passants_of passants.passant_of passants.passant_at
pawn_sound v n =
    sound_both _ _ (sound_each _ _ (λ src h. sound_both _ _ (sound_offered src _ _ _ h) (sound_offered src _ _ _ h)))
    (sound_each _ _ (λ src h. sound_if (has v.combined (back_of (opp v.color) src) or has v.combined (back_of v.color src)) _ _ sound_none (sound_offered src _ _ _ h)))

module _ (v : View) (king : v.king < 64) where
  king_sound : (n : ℕ) → sound (kings.king_of v n) ≡ true
  unfolding kings.king_of kings.stepped_of kings.uncastled_of
  king_sound n =
      sound_if v.held _ _ sound_none
      (sound_both _ _ (sound_both _ _ (sound_offered _ _ _ _ king) (sound_offered _ _ _ _ king))
      (sound_if (kings.short_of v n or kings.long_of v n) _ _ (sound_one _ _ _ _ king) sound_none))

  lesser_sound : (n : ℕ) → sound (lesser_of v n) ≡ true
  unfolding lesser_of
  lesser_sound n =
      sound_both _ _ (sound_both _ _ (sound_both _ _ (pawn_sound v n) (officer_sound v n _)) (officer_sound v n _)) (officer_sound v n _)

  checkers_sound : (n : ℕ) → sound (by_checkers v n) ≡ true
  unfolding by_checkers kinds_of
  checkers_sound n =
      sound_if (ltb 2 n) _ _ sound_none
      (sound_if (eqb n 2) _ _ (lesser_sound n) (sound_both _ _ (sound_both _ _ (lesser_sound n) (officer_sound v n _)) (king_sound n)))

  state_sound : (e : EnPassantFlag) → sound (by_state e v) ≡ true
  unfolding named_of
  state_sound Any = checkers_sound _
  state_sound (Some sq) = sound_one _ _ _ _ (omega arith)
  state_sound None = checkers_sound _

  pub sources_are : sound (list_of v) ≡ true
  unfolding list_of
  sources_are = state_sound v.passant
