-- The pawn's `legals`, un-en-passant (piece_type.rs, 285 to 345), with the number n of checkers: 0, 1, or 2. `reborn` is
-- `reappearing_pawn_square`, the square behind src. Where the Rust writes `a & b & c`, the same sets may be grouped otherwise here; `x & s != EMPTY` of
-- a single square x is `has s x`.
use Rattle.std.specs.Prelude.{false, not, cond, List, [], ℕ, eqb}
use Rattle.std.specs.Int.Bits.{bit_and, bit_or}
use Rattle.squares.specs.Tests.{◌and◌, ◌or◌}
use Rattle.squares.specs.Squares.{rank, has, only}
use Rattle.squares.specs.Members.{compl, first_of, members, for_each, concat}
use Rattle.geometry.specs.Colors.{opp, own_rank, back_of}
use Rattle.geometry.specs.Lines.{between_of}
use Rattle.laws.specs.declared.Piece.TheVariants.{Pawn}
use Rattle.laws.specs.Boards.{kind_set}
use Rattle.retraction_list.specs.declared.SourceAndTargets.{SourceAndTargets}
use Rattle.retraction_list.specs.declared.UnCaptureKind.TheVariants.{UnEnPassant}
use Rattle.retraction_list.specs.Entries.{offered}
use Rattle.view.specs.declared.View.{View}
use Rattle.geometry.specs.Chess.{rank_set, adjacent_files, pawn_attacks, line_of}

-- `pieces` (207) and `check_mask` (212)
abbrev pub pawns_of : View → ℕ
pawns_of v = kind_set v.men Pawn

abbrev pub check_mask : View → ℕ
check_mask v = pawn_attacks (opp v.color) v.oppking

-- `!combined & !check_mask`
unfoldable pub vacant_of : View → ℕ
vacant_of v = bit_and (compl v.combined) (compl (check_mask v))

-- `targets` (297 to 301), and with the pin's line (302 to 306)
abbrev pub beside_plain : View → ℕ → ℕ → ℕ
beside_plain v src reborn = bit_and (bit_and (bit_and (adjacent_files src) (rank_set (rank reborn))) (vacant_of v)) v.mask

unfoldable pub beside_reborn : View → ℕ → ℕ → ℕ
beside_reborn v src reborn =
    cond (has v.pinned src and not (has (line_of src v.oppking) reborn))
    (bit_and (beside_plain v src reborn) (line_of src v.oppking))
    (beside_plain v src reborn)

-- `between(checker, opp_ksq)`
abbrev pub ray_of : View → ℕ → ℕ
ray_of v checker = between_of checker v.oppking

-- `if T::NB_CHECKERS == 1 && checkers.to_square() != src` (308 to 312)
unfoldable pub under_one : View → ℕ → ℕ → ℕ → ℕ
under_one v src reborn targets =
    cond (not (eqb (first_of v.checkers) src) and not (has (ray_of v (first_of v.checkers)) reborn)) (bit_and targets (ray_of v (first_of v.checkers))) targets

-- `for checker in *checkers { rays |= between(checker, opp_ksq); }` (324 to 327)
unfoldable pub rays_of : ℕ → ℕ → ℕ
rays_of oppking set = for_each (λ rays checker. bit_or rays (between_of checker oppking)) 0 (members set)

-- src checks beside another man (315 to 321): a fault of the Rust, whose test of the other's ray is inverted
unfoldable pub one_of_two : View → ℕ → ℕ → ℕ → ℕ
one_of_two v other reborn targets = cond (has (ray_of v other) reborn) (bit_and targets (ray_of v other)) targets

-- two others check (323 to 331): a fault of the Rust, which lets both pawns block one ray
unfoldable pub two_others : View → ℕ → ℕ → ℕ
two_others v reborn targets = bit_and (cond (has (rays_of v.oppking v.checkers) reborn) targets 0) (rays_of v.oppking v.checkers)

-- `else if T::NB_CHECKERS == 2` (313 to 333)
unfoldable pub under_two : View → ℕ → ℕ → ℕ → ℕ
under_two v src reborn targets =
    cond (has v.checkers src) (one_of_two v (first_of (bit_and v.checkers (compl (only src)))) reborn targets) (two_others v reborn targets)

unfoldable pub under_of : View → ℕ → ℕ → ℕ → ℕ → ℕ
under_of v n src reborn targets = cond (eqb n 1) (under_one v src reborn targets) (cond (eqb n 2) (under_two v src reborn targets) targets)

-- one turn of `for src in ep_rank & pieces` (290 to 345), past the `continue` of 292 to 296
unfoldable pub passant_at : View → ℕ → ℕ → ℕ → List SourceAndTargets
passant_at v n src reborn = offered src (under_of v n src reborn (beside_reborn v src reborn)) UnEnPassant false

unfoldable pub passant_of : View → ℕ → ℕ → List SourceAndTargets
passant_of v n src =
    cond (has v.combined (back_of (opp v.color) src) or has v.combined (back_of v.color src)) [] (passant_at v n src (back_of v.color src))

-- `ep_rank` (286 to 289): the sixth rank as the retractor counts
abbrev pub passant_rank : View → ℕ
passant_rank v = rank_set (own_rank v.color 5)

-- `for src in ep_rank & pieces` (290 to 345)
unfoldable pub un_en_passants_of : View → ℕ → List SourceAndTargets
un_en_passants_of v n = concat (passant_of v n) (members (bit_and (passant_rank v) (pawns_of v)))
