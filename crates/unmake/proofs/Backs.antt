-- Un-make on arrays is un-make of the Laws on their men.
use mathlib.Core.Path.{◌≡◌, ap, ◌∙◌}
use Prim.Native.Nat.{ℕ, ◌<◌}
use native.Mathlib.Omega.{arith}
use Rattle.geometry.specs.declared.Color.{Color}
use Rattle.geometry.specs.declared.Color.TheVariants.{White, Black}
use Rattle.geometry.specs.Colors.{opp, behind}
use Rattle.laws.specs.declared.Piece.TheVariants.{Pawn, Rook}
use Rattle.laws.specs.declared.CastleRights.{CastleRights}
use Rattle.laws.specs.declared.EnPassantFlag.{EnPassantFlag}
use Rattle.laws.specs.declared.Side.TheVariants.{Short as short, Long as long}
use Rattle.laws.specs.declared.Way.{Way}
use Rattle.laws.specs.declared.Way.TheVariants.{Plain as plain, Passant as passant, Castle as castling}
use Rattle.laws.specs.declared.Position.{Position}
use Rattle.laws.specs.declared.ChessRetraction.{ChessRetraction}
use Rattle.laws.specs.Men.{empty, man, Men, man_number, man_of, numbered}
use Rattle.laws.specs.Positions.{Pos, rights_for, corner, rook_to}
use Rattle.laws.specs.Unmaking.{uncleared, unfilled, before, leaving, unmade_by}
use Rattle.laws.specs.Boards.{men_in, pos_at}
use Rattle.position.specs.Answers.{position_of}
use Rattle.position.specs.inner.Edits.{with_men, man_with}
use Rattle.unmake.specs.inner.Parts.{Fits, before_for, Leaves}
use Rattle.geometry.proofs.Behind.{behind_in}
use Rattle.laws.proofs.Boundaries.{corner_in, rook_to_in}
use Rattle.laws.proofs.ManSets.{OnBoard, men_on}
use Rattle.position.proofs.Editing.{is_man}
use Rattle.position.proofs.Composing.{put_on, Keeps, four_on, numbered_is}

-- the men stay on the 64 squares
uncleared_on : (w : Way) (c : Color) (m : Men) → OnBoard m → OnBoard (uncleared w c m)
uncleared_on plain c m on = on
uncleared_on passant c m on = on
uncleared_on (castling d) c m on = put_on (rook_to c d) empty m (rook_to_in c d) on

unfilled_on : (w : Way) (c : Color) (s : ℕ) (m : Men) → s < 64 → Fits w c s → OnBoard m → OnBoard (unfilled w c s m)
unfilled_on plain c s m h f on = on
unfilled_on passant c s m h f on = put_on (behind c s) (man (opp c) Pawn) m (behind_in c s h f).0 on
unfilled_on (castling d) c s m h f on = put_on (corner c d) (man c Rook) m (corner_in c d) on

-- the edits of un-make
pub edits : (w : Way) (c : Color) (s : ℕ) → s < 64 → Fits w c s → Keeps (uncleared w c) (unfilled w c s) s
edits w c s h f = record { first_on = uncleared_on w c; square_in = h; second_on = λ m on. unfilled_on w c s m h f on }

-- the whole earlier position
module _ (p : Position) (r : ChessRetraction) (w : Way) (c : Color) {x : ℕ} (h : Leaves p r w c x) where
  abbrev pub earlier : Pos
  earlier = unmade_by w c (pos_at p) r

  pub earlier_on : OnBoard earlier.men
  earlier_on =
      four_on (edits w c r.source h.source_in h.fits) r.target (numbered (opp c) r.uncaptured)
      (leaving r.unpromotion c (men_in p r.source)) (men_in p) h.target_in (men_on p.pieces p.colors)

  pub unmade_is : (y : ℕ) {m : Position} {d t : Color} {u v : CastleRights} {f : EnPassantFlag}
      → m ≡ with_men p (before_for w c r.target r.source (man_of x) (man_of y) (men_in p)) → d ≡ opp c → y ≡ man_number (man_with d r.uncaptured)
      → u ≡ rights_for (earlier.rights White short) (earlier.rights White long) → v ≡ rights_for (earlier.rights Black short) (earlier.rights Black long)
      → f ≡ earlier.state → t ≡ c
      → ◌≡◌ {A = Position} (record { pieces = m.pieces; colors = m.colors; turn = t; white = u; black = v; passant = f; terms = m.terms }) (position_of earlier)
  unfolding position_of with_men before_for
  unmade_is y {m} {d} {t} {u} {v} {f} em ed ey eu ev ef et = λ i. record {
    pieces = (men i).pieces;
    colors = (men i).colors;
    turn = et i;
    white = eu i;
    black = ev i;
    passant = ef i;
    terms = (men i).terms;
  }
    where
      taken : man_of y ≡ numbered (opp c) r.uncaptured
      taken =
          is_man (man_with d r.uncaptured) ey ∙ ap (λ (z : Color). man_with z r.uncaptured) ed
          ∙ numbered_is (opp c) r.uncaptured (omega (arith, h.uncaptured_in))

      men : m ≡ with_men p earlier.men
      men = em ∙ (λ i. with_men p (before w c r.target r.source (h.man_is i) (taken i) (men_in p)))
