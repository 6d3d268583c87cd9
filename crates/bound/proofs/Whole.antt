-- The whole list of a view: 47 entries at most where the retractor has fifteen men besides its king. Nothing is asked of the checkers and pins.
use mathlib.Core.Path.{◌≡◌, refl, sym, ap, ◌∙◌}
use mathlib.Core.Logic.{◌⊎◌, inl, inr, ⊎_elim}
use mathlib.Core.Bool.{Bool, true, false, not, cond, true≢false}
use Prim.Native.Nat.{ℕ, zero, suc, ◌+◌, ◌<◌, ◌≤◌, ◌^◌, zero-le}
use native.Mathlib.Nat.{le_trans, not-suc-le-zero, le_of_suc-le-suc}
use native.Mathlib.Omega.{arith}
use lib.Dec.{eqb, ltb}
use lib.Bits.{bit_and, bit_or}
use borrow.Author.Tests.{eqb-true, ltb-false}
use Rattle.squares.specs.Tests.{◌and◌, ◌or◌}
use Rattle.squares.specs.Squares.{has, flag, how_many, size, rank, only}
use Rattle.squares.specs.Members.{compl}
use Rattle.geometry.specs.declared.Color.{Color}
use Rattle.geometry.specs.declared.Color.TheVariants.{White, Black}
use Rattle.laws.specs.declared.Piece.{Piece}
use Rattle.laws.specs.declared.Piece.TheVariants.{Pawn, Knight, Bishop, Rook, Queen}
use Rattle.laws.specs.declared.EnPassantFlag.{EnPassantFlag}
use Rattle.laws.specs.declared.EnPassantFlag.TheVariants.{Any, Some, None}
use Rattle.laws.specs.Men.{kind_place}
use Rattle.laws.specs.declared.Side.{Side}
use Rattle.laws.specs.declared.Side.TheVariants.{Short as short, Long as long}
use Rattle.laws.specs.Positions.{rook_to}
use Rattle.laws.specs.Boards.{kind_set}
use Rattle.view.specs.declared.View.{View}
use Rattle.geometry.specs.Colors.{own_rank}
use Rattle.enumerate.specs.Lists.{by_checkers, named_of, by_state, list_of, all_but_pawns}
use Rattle.bound.specs.Sections.{checkers_of, castled, entries_of}
use Rattle.squares.proofs.Testing.{both, left, right, either, or_left, or_right, cases}
use Rattle.squares.proofs.Digits.{has_or, has_zero}
use Rattle.squares.proofs.Comprehension.{flag_lt, has_set_of, has_not, up_to_lt, disjoint_at}
use Rattle.squares.proofs.Counting.{count_empty}
use Rattle.officers.specs.Officers as officers
use Rattle.pawns.specs.Pawns as pawns
use Rattle.un_en_passant.specs.UnEnPassants as passants
use Rattle.kings.specs.Kings as kings
use Rattle.bound.proofs.Counts.{flag_le, count_mono, count_five, count_apart}
use Rattle.bound.proofs.Lengths.{AtMost, most_none, most_one, most_le, most_if, most_both}
use Rattle.bound.proofs.Sections.{and_left, and_right, or_of, size_left, king_length, checkers_in, calm_length, counted}

-- a man of the retractor's other than its king
abbrev pub other : View → ℕ → Bool
other s k = has s.own k and not (eqb k s.king)

-- there are fifteen such men at most, and each is of one kind
pub record Manned (s : View) : Type 0 where
  pub fifteen : how_many (other s) ≤ 15
  pub kinds_fit : (k : Piece) → kind_set s.men k < 2 ^ 64
  pub one_kind : (k : ℕ) → k < 64
      → flag (has (kind_set s.men Pawn) k) + flag (has (kind_set s.men Knight) k) + flag (has (kind_set s.men Bishop) k)
      + flag (has (kind_set s.men Rook) k) + flag (has (kind_set s.men Queen) k) ≤ flag (other s k)

flag_none : (t : Bool) → (t ≡ true → ⊥) → flag t ≤ 0
flag_none true f = absurd (f refl)
flag_none false f = zero-le

flag_is : (t : Bool) → 1 ≤ flag t → t ≡ true
flag_is true h = refl
flag_is false h = absurd (not-suc-le-zero h)

-- own men on the last rank, but for the king
abbrev last_men : View → ℕ
last_men s = bit_and (bit_and (pawns.last_rank s) s.own) (compl (only s.king))

-- the men that un-push or uncapture where the checkers don't rule them out
abbrev steppers : View → ℕ
steppers s = bit_or (passants.pawns_of s) (last_men s)

module _ (s : View) where
  on_last : (k : ℕ) → has (last_men s) k ≡ true → has (pawns.last_rank s) k ≡ true
  on_last k e = and_left (pawns.last_rank s) s.own k (and_left (bit_and (pawns.last_rank s) s.own) _ k e)

  last_other : (k : ℕ) → k < 64 → has (last_men s) k ≡ true → other s k ≡ true
  last_other k l e =
      both (and_right (pawns.last_rank s) s.own k (and_left (bit_and (pawns.last_rank s) s.own) _ k e))
      (ap not (sym (has_set_of (λ j. eqb j s.king) k l))
      ∙ right (ltb k 64) (not (has (only s.king) k)) (sym (has_not 64 (only s.king) k (up_to_lt 64 (λ j. eqb j s.king))) ∙ and_right (bit_and (pawns.last_rank s) s.own) (compl (only s.king)) k e))

  -- the rook of a castling stands on a square of its first rank
  rook_to_home : (c : Color) (d : Side) → (rook_to c d < 64) × (eqb (rank (rook_to c d)) (own_rank c 7) ≡ false)
  rook_to_home White short = (omega arith, refl)
  rook_to_home White long = (omega arith, refl)
  rook_to_home Black short = (omega arith, refl)
  rook_to_home Black long = (omega arith, refl)

  rook_there : (n rook e corner : ℕ) → kings.castled_of s n rook e corner ≡ true → has (kind_set s.men Rook) rook ≡ true
  unfolding kings.castled_of
  rook_there n rook e corner h = left _ _ (left _ _ (left _ _ (left _ _ (left _ _ h))))

  castled_rook : (n : ℕ) → castled s n ≡ true → (d : Side) × (has (kind_set s.men Rook) (rook_to s.color d) ≡ true)
  unfolding kings.short_of kings.long_of
  castled_rook n h = ⊎_elim (λ x. (short, rook_there n _ _ _ (right _ _ x))) (λ x. (long, rook_there n _ _ _ (right _ _ x))) (either _ _ h)

module _ (s : View) (m : Manned s) where
  -- how many men of a kind there are, and how many of them check; the steppers and the officers that check
  abbrev of : Piece → ℕ
  of k = size (kind_set s.men k)

  abbrev checking : Piece → ℕ
  checking k = size (checkers_of s (kind_place k))

  abbrev together : ℕ
  together = size (steppers s) + checking Knight + checking Bishop + checking Rook + checking Queen

  -- the kinds together
  kinds_sum : of Pawn + of Knight + of Bishop + of Rook + of Queen ≤ 15
  kinds_sum = le_trans (count_five 64 _ _ _ _ _ (other s) m.one_kind) m.fifteen

  -- the steppers are among the fifteen
  stepper_other : (k : ℕ) → k < 64 → has (steppers s) k ≡ true → other s k ≡ true
  stepper_other k l e = ⊎_elim (λ x. flag_is (other s k) (omega (arith, ap flag x, m.one_kind k l))) (last_other s k l) (or_of (passants.pawns_of s) (last_men s) k e)

  all_steppers : size (steppers s) ≤ 15
  all_steppers = le_trans (count_mono 64 (has (steppers s)) (other s) stepper_other) m.fifteen

  -- the rook beside a king that un-castles is one of the fifteen, and no stepper
  few_steppers : (n : ℕ) → size (steppers s) + flag (castled s n) ≤ 15
  few_steppers n = ⊎_elim (λ h. omega (arith, ap flag h, by_rook (castled_rook s n h))) (λ h. omega (arith, ap flag h, all_steppers)) (cases (castled s n))
    where
      by_rook : (d : Side) × (has (kind_set s.men Rook) (rook_to s.color d) ≡ true) → size (steppers s) + 1 ≤ 15
      by_rook (d, e) = le_trans (count_apart (has (steppers s)) (other s) r l stepper_other (flag_is (other s r) (omega (arith, ap flag e, m.one_kind r l))) out) m.fifteen
        where
          r : ℕ
          r = rook_to s.color d

          l : r < 64
          l = (rook_to_home s s.color d).0

          out : has (steppers s) r ≡ true → ⊥
          out x =
              ⊎_elim (λ y. omega (arith, ap flag e, ap flag y, m.one_kind r l, flag_lt (other s r)))
              (λ y. true≢false (sym (on_last s r y) ∙ has_set_of (λ j. eqb (rank j) (own_rank s.color 7)) r l ∙ (rook_to_home s s.color d).1))
              (or_of (passants.pawns_of s) (last_men s) r x)

  -- where no checker is a pawn or on the last rank, none of the officers that check is a stepper
  module _ (h : pawns.checking_of s ≡ 0) where
    no_stepper : (k : ℕ) → has s.checkers k ≡ true → has (steppers s) k ≡ true → ⊥
    no_stepper k c x = true≢false (sym (both c there) ∙ disjoint_at s.checkers (bit_or (passants.pawns_of s) (pawns.last_rank s)) h k)
      where
        there : has (bit_or (passants.pawns_of s) (pawns.last_rank s)) k ≡ true
        there = has_or (passants.pawns_of s) (pawns.last_rank s) k ∙ ⊎_elim (λ y. or_left _ y) (λ y. or_right _ (on_last s k y)) (or_of (passants.pawns_of s) (last_men s) k x)

    abbrev weight : ℕ → ℕ
    weight k =
        flag (has (steppers s) k) + flag (has (checkers_of s (kind_place Knight)) k) + flag (has (checkers_of s (kind_place Bishop)) k)
        + flag (has (checkers_of s (kind_place Rook)) k) + flag (has (checkers_of s (kind_place Queen)) k)

    at : (k : ℕ) → k < 64 → weight k ≤ flag (other s k)
    at k l = ⊎_elim yes no (cases (has s.checkers k))
      where
        man : (i : ℕ) → flag (has (checkers_of s i) k) ≤ flag (has (officers.kind_men s i) k)
        man i = flag_le _ _ (checkers_in s i k)

        yes : has s.checkers k ≡ true → weight k ≤ flag (other s k)
        yes c = omega (arith, m.one_kind k l, flag_none (has (steppers s) k) (no_stepper k c), man (kind_place Knight), man (kind_place Bishop), man (kind_place Rook), man (kind_place Queen))

        none : has s.checkers k ≡ false → (i : ℕ) → flag (has (checkers_of s i) k) ≤ 0
        none c i = flag_none _ (λ x. true≢false (sym (and_left s.checkers (officers.free_of s i) k x) ∙ c))

        no : has s.checkers k ≡ false → weight k ≤ flag (other s k)
        no c = omega (arith, flag_le (has (steppers s) k) (other s k) (stepper_other k l), none c (kind_place Knight), none c (kind_place Bishop), none c (kind_place Rook), none c (kind_place Queen))

    apart : together ≤ 15
    apart = le_trans (count_five 64 _ _ _ _ _ (other s) at) m.fifteen

  -- the candidates c for un-pushes and uncaptures: all steppers, and the officers that check are others of the fifteen; or checkers alone
  abbrev Candidates : ℕ → Type 0
  Candidates c = ((size c ≡ size (steppers s)) × (together ≤ 15)) ⊎ (size c ≤ size s.checkers)

  checking_le : (k : Piece) → checking k ≤ size s.checkers
  checking_le k = size_left s.checkers (officers.free_of s (kind_place k))

  pawns_le : size (pawns.checking_of s) ≤ size s.checkers
  pawns_le = size_left s.checkers (bit_or (passants.pawns_of s) (pawns.last_rank s))

  none_check : size s.checkers ≡ 0 → Candidates (pawns.candidate_retractors s 0)
  unfolding pawns.candidate_retractors ◌and◌
  none_check e = inl (refl, omega (arith, all_steppers, checking_le Knight, checking_le Bishop, checking_le Rook, checking_le Queen))

  one_checks : Candidates (pawns.candidate_retractors s 1)
  unfolding pawns.candidate_retractors ◌and◌
  one_checks = go (eqb (pawns.checking_of s) 0) refl
    where
      go : (t : Bool) → eqb (pawns.checking_of s) 0 ≡ t → Candidates (cond (not t) (pawns.checking_of s) (steppers s))
      go true e = inl (refl, apart (eqb-true _ 0 e))
      go false e = inr pawns_le

  two_check : Candidates (pawns.candidate_retractors s 2)
  unfolding pawns.candidate_retractors ◌and◌
  two_check = go (eqb (pawns.checking_of s) 0)
    where
      go : (t : Bool) → Candidates (cond (not t) (pawns.checking_of s) 0)
      go true = inr (omega (arith, count_empty 64 (has 0) (λ k l. has_zero k)))
      go false = inr pawns_le

  -- 30 for un-pushes and uncaptures, 15 for the rest, 2 for the king; or few checkers, and few entries
  few_entries : (n : ℕ) → n ≤ 2 → size s.checkers ≡ n → Candidates (pawns.candidate_retractors s n) → entries_of s n ≤ 47
  few_entries n l e (inl x) = omega (arith, few_steppers n, kinds_sum)
  few_entries n l e (inr x) = omega (arith, few_steppers n, kinds_sum, checking_le Knight, checking_le Bishop, checking_le Rook, checking_le Queen)

  by_number : (n : ℕ) → n ≤ 2 → size s.checkers ≡ n → entries_of s n ≤ 47
  by_number zero l e = few_entries 0 l e (none_check e)
  by_number (suc zero) l e = few_entries 1 l e one_checks
  by_number (suc (suc zero)) l e = few_entries 2 l e two_check
  by_number (suc (suc (suc n))) l e = absurd (not-suc-le-zero (le_of_suc-le-suc (le_of_suc-le-suc l)))

  checkers_whole : AtMost 47 (by_checkers s (size s.checkers))
  unfolding by_checkers
  checkers_whole =
      most_if (ltb 2 (size s.checkers)) _ _ 47 (λ e. most_none 47)
      (λ e. most_le _ 47 _ (by_number (size s.checkers) (ltb-false 2 (size s.checkers) e) refl) (counted s m.kinds_fit (size s.checkers)))

  state_whole : (e : EnPassantFlag) → AtMost 47 (by_state e s)
  unfolding named_of
  state_whole Any = checkers_whole
  state_whole (Some sq) = most_le 1 47 _ (omega arith) (most_one _)
  state_whole None = checkers_whole

  -- the ported list
  pub listed_whole : AtMost 47 (list_of s)
  unfolding list_of
  listed_whole = state_whole s.passant

  -- a list of the limited test
  pub pawnless_whole : AtMost 18 (all_but_pawns s)
  unfolding all_but_pawns officers.officer_of
  pawnless_whole =
      most_le _ 18 _ (omega (arith, flag_lt (castled s 0), kinds_sum))
      (most_both _ _ _ _ (most_both _ _ _ _ (most_both _ _ _ _ (most_both _ _ _ _ (calm Knight) (calm Bishop)) (calm Rook)) (calm Queen)) (king_length s 0))
    where
      calm : (k : Piece) → AtMost (of k) (officers.calm_of s (kind_place k))
      calm k = calm_length s (kind_place k)
