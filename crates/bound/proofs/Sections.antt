-- How long each section of the list is, against the sizes of the sets that its loops go over; `counted` puts them together. Nothing is asked of
-- the checkers and pins.
use mathlib.Core.Path.{◌≡◌, refl, sym, ap, ◌∙◌}
use mathlib.Core.Logic.{◌⊎◌}
use mathlib.Core.Bool.{Bool, true, false, not, cond, true≢false}
use mathlib.Core.List.{[], ◌∷◌, ◌++◌}
use Prim.Native.Nat.{ℕ, ◌+◌, ◌*◌, ◌<◌, ◌≤◌, ◌^◌}
use native.Mathlib.Nat.{le-suc, lt_of_le_of_lt}
use native.Mathlib.Omega.{arith}
use lib.Dec.{eqb}
use lib.Bits.{bit_and, bit_or, and_le_l, and_le_r}
use borrow.Author.Tests.{eqb-true, eqb-false, eq-eqb}
use Rattle.squares.specs.Tests.{◌and◌, ◌or◌}
use Rattle.squares.specs.Squares.{has, flag, size}
use Rattle.squares.specs.Members.{compl}
use Rattle.geometry.specs.Colors.{opp, back_of}
use Rattle.laws.specs.declared.Piece.{Piece}
use Rattle.laws.specs.declared.Piece.TheVariants.{Knight, Bishop, Rook, Queen}
use Rattle.laws.specs.Men.{kind_place}
use Rattle.laws.specs.Boards.{kind_set}
use Rattle.retraction_list.specs.declared.SourceAndTargets.{SourceAndTargets}
use Rattle.view.specs.declared.View.{View}
use Rattle.enumerate.specs.Lists.{lesser_of, kinds_of}
use Rattle.bound.specs.Sections.{checkers_of, officer_entries, castled, entries_of}
use Rattle.squares.proofs.Testing.{both, left, right, either, failed}
use Rattle.squares.proofs.Digits.{has_and, has_or, has_zero}
use Rattle.squares.proofs.Counting.{count_empty}
use Rattle.officers.specs.Officers as officers
use Rattle.pawns.specs.Pawns as pawns
use Rattle.un_en_passant.specs.UnEnPassants as passants
use Rattle.kings.specs.Kings as kings
use Rattle.bound.proofs.Counts.{count_mono, count_some}
use Rattle.bound.proofs.Lengths.{AtMost, most_none, most_one, most_le, most_if, most_offered, most_both, most_each}

-- parts of a set
pub and_left : (a b k : ℕ) → has (bit_and a b) k ≡ true → has a k ≡ true
and_left a b k e = left _ _ (sym (has_and a b k) ∙ e)

pub and_right : (a b k : ℕ) → has (bit_and a b) k ≡ true → has b k ≡ true
and_right a b k e = right _ _ (sym (has_and a b k) ∙ e)

pub or_of : (a b k : ℕ) → has (bit_or a b) k ≡ true → (has a k ≡ true) ⊎ (has b k ≡ true)
or_of a b k e = either _ _ (sym (has_or a b k) ∙ e)

pub size_left : (a b : ℕ) → size (bit_and a b) ≤ size a
size_left a b = count_mono 64 _ _ (λ k l. and_left a b k)

size_right : (a b : ℕ) → size (bit_and a b) ≤ size b
size_right a b = count_mono 64 _ _ (λ k l. and_right a b k)

module _ (s : View) where
  -- the pawns' section
  steps_length : (n : ℕ) → AtMost (2 * size (pawns.candidate_retractors s n)) (pawns.steps_of s n)
  unfolding pawns.steps_of pawns.from_of
  steps_length n = most_each 2 _ _ (λ k. most_both _ _ 1 1 (most_offered _ _ _ _) (most_offered _ _ _ _))

  pawn_length : (n : ℕ) → AtMost (2 * size (pawns.candidate_retractors s n) + size (passants.pawns_of s)) (pawns.pawn_of s n)
  unfolding pawns.pawn_of passants.un_en_passants_of passants.passant_of passants.passant_at
  pawn_length n =
      most_both _ _ _ _ (steps_length n)
      (most_le _ _ _ (omega (arith, size_right (passants.passant_rank s) (passants.pawns_of s)))
      (most_each 1 _ _ (λ src. most_if (has s.combined (back_of (opp s.color) src) or has s.combined (back_of s.color src)) _ _ 1 (λ e. most_none 1) (λ e. most_offered _ _ _ _))))

  -- the king's
  pub king_length : (n : ℕ) → AtMost (2 + flag (castled s n)) (kings.king_of s n)
  unfolding kings.king_of kings.stepped_of kings.uncastled_of
  king_length n =
      most_if s.held _ _ _ (λ e. most_none _)
      (λ e. most_both _ _ 2 _ (most_both _ _ 1 1 (most_offered _ _ _ _) (most_offered _ _ _ _)) (one (castled s n) _))
    where
      one : (t : Bool) (e : SourceAndTargets) → AtMost (flag t) (cond t (e ∷ []) [])
      one true e = most_one e
      one false e = most_none 0

  -- an officers' section: the kind by its place among the six
  module _ (k : ℕ) where
    -- the men of the kind that no right holds
    free_in : (j : ℕ) → has (officers.free_of s k) j ≡ true → has (officers.kind_men s k) j ≡ true
    unfolding officers.free_of
    free_in j = go (eqb k (kind_place Knight))
      where
        go : (t : Bool) → has (cond t (officers.kind_men s k) (bit_and (officers.kind_men s k) (compl s.corners))) j ≡ true → has (officers.kind_men s k) j ≡ true
        go true e = e
        go false e = and_left (officers.kind_men s k) (compl s.corners) j e

    free_size : size (officers.free_of s k) ≤ size (officers.kind_men s k)
    free_size = count_mono 64 _ _ (λ j l. free_in j)

    free_lt : officers.kind_men s k < 2 ^ 64 → officers.free_of s k < 2 ^ 64
    unfolding officers.free_of
    free_lt h = go (eqb k (kind_place Knight))
      where
        go : (t : Bool) → cond t (officers.kind_men s k) (bit_and (officers.kind_men s k) (compl s.corners)) < 2 ^ 64
        go true = h
        go false = lt_of_le_of_lt (and_le_l (officers.kind_men s k) (compl s.corners)) h

    each_length : (allowed : ℕ) → AtMost (size (officers.kind_men s k)) (officers.each_of s k allowed (officers.free_of s k))
    unfolding officers.each_of officers.from_of
    each_length allowed = most_le _ _ _ (omega (arith, free_size)) (most_each 1 _ _ (λ src. most_offered _ _ _ _))

    -- the checkers of the kind are among its men
    pub checkers_in : (j : ℕ) → has (checkers_of s k) j ≡ true → has (officers.kind_men s k) j ≡ true
    checkers_in j e = free_in j (and_right s.checkers (officers.free_of s k) j e)

    checkers_size : size (checkers_of s k) ≤ size (officers.kind_men s k)
    checkers_size = count_mono 64 _ _ (λ j l. checkers_in j)

    some_checker : officers.kind_men s k < 2 ^ 64 → (checkers_of s k ≡ 0 → ⊥) → 1 ≤ size (checkers_of s k)
    some_checker fits = count_some (checkers_of s k) (lt_of_le_of_lt (and_le_r s.checkers (officers.free_of s k)) (free_lt fits))

    -- no checker: an entry for each man
    pub calm_length : AtMost (size (officers.kind_men s k)) (officers.calm_of s k)
    unfolding officers.calm_of
    calm_length = each_length _

    -- one, which is of the kind: two entries for it
    alone_none : eqb (checkers_of s k) 0 ≡ true → AtMost 0 (officers.alone_of s k)
    unfolding officers.alone_of
    alone_none e = most_if (eqb (checkers_of s k) 0) _ _ 0 (λ x. most_none 0) (λ x. absurd (true≢false (sym e ∙ x)))

    alone_two : AtMost 2 (officers.alone_of s k)
    unfolding officers.alone_of officers.alone_at
    alone_two =
        most_if (eqb (checkers_of s k) 0) _ _ 2 (λ x. most_none 2)
        (λ x. most_if (eqb k (kind_place Knight)) _ _ 2 (λ y. most_le 1 2 _ (le-suc 1) (most_offered _ _ _ _)) (λ y. most_both _ _ 1 1 (most_offered _ _ _ _) (most_offered _ _ _ _)))

    -- one, and where it is of the kind, none for the others of the kind
    onto_each : AtMost (size (officers.kind_men s k)) (officers.onto_of s k)
    unfolding officers.onto_of
    onto_each = most_if (not (eqb k (kind_place Queen)) and eqb (bit_and s.checkers (officers.kind_men s k)) 0) _ _ _ (λ e. each_length _) (λ e. most_none _)

    onto_none : 1 ≤ size (checkers_of s k) → AtMost 0 (officers.onto_of s k)
    unfolding officers.onto_of
    onto_none some =
        most_if (not (eqb k (kind_place Queen)) and eqb (bit_and s.checkers (officers.kind_men s k)) 0) _ _ 0
        (λ e. absurd (never (eqb-true _ 0 (right _ _ e)))) (λ e. most_none 0)
      where
        all : size (checkers_of s k) ≤ size (bit_and s.checkers (officers.kind_men s k))
        all = count_mono 64 _ _ (λ j l e. has_and _ _ j ∙ both (and_left s.checkers (officers.free_of s k) j e) (checkers_in j e))

        never : bit_and s.checkers (officers.kind_men s k) ≡ 0 → ⊥
        never e = omega (arith, all, ap (λ (x : ℕ). size x) e, count_empty 64 (has 0) (λ j l. has_zero j))

    one_length : officers.kind_men s k < 2 ^ 64 → AtMost (officer_entries s k) (officers.alone_of s k ++ officers.onto_of s k)
    one_length fits = go (eqb (checkers_of s k) 0) refl
      where
        go : (t : Bool) → eqb (checkers_of s k) 0 ≡ t → AtMost (officer_entries s k) (officers.alone_of s k ++ officers.onto_of s k)
        go true e = most_le _ _ _ (omega arith) (most_both _ _ 0 _ (alone_none e) onto_each)
        go false e = let some = some_checker fits (eqb-false (checkers_of s k) 0 e) in most_le _ _ _ (omega (arith, some, checkers_size)) (most_both _ _ 2 0 alone_two (onto_none some))

    -- two, one of them of the kind: one entry
    two_length : officers.kind_men s k < 2 ^ 64 → AtMost (size (checkers_of s k)) (officers.both_of s k)
    unfolding officers.both_of officers.both_at
    two_length fits =
        most_if (not (eqb (checkers_of s k) 0) and not (eqb (bit_and s.checkers (compl (officers.kind_men s k))) 0)) _ _ _
        (λ e. most_le 1 _ _ (some_checker fits (λ z. failed _ (left _ _ e) (eq-eqb (checkers_of s k) 0 z))) (most_offered _ _ _ _)) (λ e. most_none _)

    officer_length : (n : ℕ) → officers.kind_men s k < 2 ^ 64 → AtMost (officer_entries s k) (officers.officer_of s n k)
    unfolding officers.officer_of
    officer_length n fits =
        most_if (eqb n 0) _ _ _ (λ e. most_le _ _ _ (omega arith) calm_length)
        (λ e. most_if (eqb n 1) _ _ _ (λ x. one_length fits) (λ x. most_le _ _ _ (omega arith) (two_length fits)))

  -- the whole list with n checkers; with two the queen's and the king's sections are left out
  pub counted : ((k : Piece) → kind_set s.men k < 2 ^ 64) → (n : ℕ) → AtMost (entries_of s n) (kinds_of s n)
  unfolding kinds_of lesser_of
  counted fits n = most_if (eqb n 2) _ _ _ (λ e. most_le _ _ _ (omega arith) lesser) (λ e. most_both _ _ _ _ (most_both _ _ _ _ lesser (of Queen)) (king_length n))
    where
      of : (k : Piece) → AtMost (officer_entries s (kind_place k)) (officers.officer_of s n (kind_place k))
      of k = officer_length (kind_place k) n (fits k)

      lesser : AtMost (2 * size (pawns.candidate_retractors s n) + size (passants.pawns_of s) + officer_entries s (kind_place Knight) + officer_entries s (kind_place Bishop) + officer_entries s (kind_place Rook))
          (pawns.pawn_of s n ++ officers.officer_of s n (kind_place Knight) ++ officers.officer_of s n (kind_place Bishop) ++ officers.officer_of s n (kind_place Rook))
      lesser = most_both _ _ _ _ (most_both _ _ _ _ (most_both _ _ _ _ (pawn_length n) (of Knight)) (of Bishop)) (of Rook)
