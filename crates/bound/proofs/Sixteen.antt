-- Clean men with one king a side, sixteen of the retractor's at most: the lists of any board that shows them, whatever else it says.
use mathlib.Core.Path.{◌≡◌, refl, sym, ap, ◌∙◌, subst}
use mathlib.Core.Bool.{Bool, true, not}
use Prim.Native.Nat.{ℕ, ◌+◌, ◌<◌, ◌≤◌, ◌^◌}
use native.Mathlib.Omega.{arith}
use lib.Dec.{eqb, leb}
use lib.Bits.{bit_and}
use lib.ListN.{length}
use borrow.Author.Tests.{eq-eqb, leb-true}
use Rattle.squares.specs.Tests.{◌and◌}
use Rattle.squares.specs.Squares.{has, flag, size}
use Rattle.squares.specs.Members.{first_of}
use Rattle.geometry.specs.declared.Color.{Color}
use Rattle.geometry.specs.Colors.{opp}
use Rattle.laws.specs.declared.Piece.{Piece}
use Rattle.laws.specs.declared.Piece.TheVariants.{Pawn, Knight, Bishop, Rook, Queen, King}
use Rattle.laws.specs.declared.Position.{Position}
use Rattle.laws.specs.Men.{Man, man, Men, is_of, same_man}
use Rattle.laws.specs.Acceptance.{kings_ok}
use Rattle.laws.specs.Boards.{kind_set, color_set, men_in, Clean}
use Rattle.pins.specs.inner.Kings.{TheKing}
use Rattle.view.specs.Views.{within, view_of}
use Rattle.enumerate.specs.Lists.{list_of, all_but_pawns}
use Rattle.bound.specs.Limits.{limit}
use Rattle.squares.proofs.Counting.{count_out}
use Rattle.laws.proofs.Cases.{every_man, by_colors, by_men}
use Rattle.laws.proofs.Mans.{same, own_colour}
use Rattle.laws.proofs.ManSets.{has_colour}
use Rattle.men.proofs.Having.{men_of_lt, stands_at, men_of_is}
use Rattle.pins.proofs.OneKing.{first_king}
use Rattle.bound.proofs.Whole.{Manned, listed_whole, pawnless_whole}

-- a man is of one kind, and the king is of none of the five
abbrev five : Color → Man → ℕ
five c x =
    flag (same_man x (man c Pawn)) + flag (same_man x (man c Knight)) + flag (same_man x (man c Bishop)) + flag (same_man x (man c Rook)) + flag (same_man x (man c Queen))

abbrev five_law : Color → Man → Bool
five_law c x = leb (five c x) (flag (is_of c x and not (same_man x (man c King))))

five_law_lem : (c : Color) (x : Man) → five c x ≤ flag (is_of c x and not (same_man x (man c King)))
unfolding ◌and◌
five_law_lem c x = leb-true _ _ (by_men (five_law c) (by_colors (λ d. every_man (five_law d)) refl c) x)

module _ (p : Position) (ok : Clean p.pieces p.colors) (kings : kings_ok (men_in p) ≡ true) where
  abbrev m : Men
  m = men_in p

  module _ (c : Color) where
    abbrev own : ℕ
    own = color_set p.colors c

    abbrev king : ℕ
    king = first_of (bit_and (kind_set p.pieces King) own)

    the : TheKing m c king
    the = subst (λ (s : ℕ). TheKing m c (first_of s)) (sym (men_of_is p.pieces p.colors ok c King)) (first_king m c kings)

    -- the sets of the colour's men, by the man on each square
    set_at : (k : Piece) (a : ℕ) → has (bit_and (kind_set p.pieces k) own) a ≡ same_man (m a) (man c k)
    set_at k a = ap (λ (s : ℕ). has s a) (men_of_is p.pieces p.colors ok c k) ∙ stands_at p.pieces p.colors c k a

    set_lt : (k : Piece) → bit_and (kind_set p.pieces k) own < 2 ^ 64
    set_lt k = subst (λ (s : ℕ). s < 2 ^ 64) (sym (men_of_is p.pieces p.colors ok c k)) (men_of_lt m c k)

    within_lt : (k : Piece) → kind_set (within p.pieces own) k < 2 ^ 64
    unfolding within
    within_lt Pawn = set_lt Pawn
    within_lt Knight = set_lt Knight
    within_lt Bishop = set_lt Bishop
    within_lt Rook = set_lt Rook
    within_lt Queen = set_lt Queen
    within_lt King = set_lt King

    king_own : has own king ≡ true
    king_own =
        has_colour p.pieces p.colors ok c king the.here
        ∙ ap (λ (x : Man). is_of c x) (same (m king) (man c King) (the.only king the.here ∙ eq-eqb king king refl)) ∙ own_colour c King

    one_kind : (a : ℕ) → a < 64
        → flag (has (bit_and (kind_set p.pieces Pawn) own) a) + flag (has (bit_and (kind_set p.pieces Knight) own) a) + flag (has (bit_and (kind_set p.pieces Bishop) own) a)
        + flag (has (bit_and (kind_set p.pieces Rook) own) a) + flag (has (bit_and (kind_set p.pieces Queen) own) a) ≤ flag (has own a and not (eqb a king))
    one_kind a h =
        rw (set_at Pawn a, set_at Knight a, set_at Bishop a, set_at Rook a, set_at Queen a, has_colour p.pieces p.colors ok c a h, ← the.only a h) (five_law_lem c (m a))

  module _ (combined pinned checkers : ℕ) (few : size (color_set p.colors (opp p.turn)) ≤ limit) where
    manned : Manned (view_of p combined pinned checkers)
    unfolding view_of within
    manned = record {
      fifteen = omega (arith, count_out 64 (has (own (opp p.turn))) (king (opp p.turn)) (the (opp p.turn)).here (king_own (opp p.turn)), few);
      kinds_fit = within_lt (opp p.turn);
      one_kind = one_kind (opp p.turn);
    }

    -- the ported list, and a list of the limited test
    pub list_fits : length (list_of (view_of p combined pinned checkers)) ≤ 47
    list_fits = (listed_whole _ manned).fits

    pub pawnless_fits : length (all_but_pawns (view_of p combined pinned checkers)) ≤ 18
    pawnless_fits = (pawnless_whole _ manned).fits
