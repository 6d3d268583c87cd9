-- The Rust's men, rights and state, before checkers and pins are looked for, are those of the Laws' un-made board.
use mathlib.Core.Path.{◌≡◌, refl, sym, ap, ap₂, ◌∙◌, subst}
use mathlib.Core.Bool.{Bool, true, false, false≢true}
use borrow.Author.Tests.{eqb-true}
use Rattle.squares.specs.Tests.{◌and◌, ◌or◌}
use Rattle.squares.specs.Squares.{only}
use Rattle.geometry.specs.declared.Color.{Color}
use Rattle.geometry.specs.declared.Color.TheVariants.{White, Black}
use Rattle.geometry.specs.Colors.{opp, rank_for}
use Rattle.laws.specs.declared.Piece.{Piece}
use Rattle.laws.specs.declared.Piece.TheVariants.{King}
use Rattle.laws.specs.declared.CastleRights.{CastleRights}
use Rattle.laws.specs.declared.CastleRights.TheVariants.{NoRights, KingSide, QueenSide, Both}
use Rattle.laws.specs.declared.EnPassantFlag.TheVariants.{Any}
use Rattle.laws.specs.declared.ChessRetraction.{ChessRetraction}
use Rattle.laws.specs.Men.{Man, empty, man, Men, numbered, is_empty, put}
use Rattle.laws.specs.Attacks.{union_of}
use Rattle.laws.specs.Positions.{Pos, holds, rights_of, rights_for, retractor, king_home, king_to}
use Rattle.laws.specs.declared.Side.{Side}
use Rattle.laws.specs.declared.Side.TheVariants.{Short as short, Long as long}
use Rattle.laws.specs.Acceptance.{accepted}
use Rattle.laws.specs.declared.Way.{Way}
use Rattle.laws.specs.declared.Way.TheVariants.{Plain as plain, Passant as passant, Castle as castling}
use Rattle.laws.specs.declared.Board.{Board}
use Rattle.laws.specs.Moves.{way, mark_ok, goes}
use Rattle.laws.specs.Unmaking.{leaving, promoted_to, undoable, regained, unmade_by, way_back, unmade}
use Rattle.laws.specs.Boards.{Clean, kind_sets, color_sets, pos_of, board_of}
use Rattle.incremental.specs.Moved.{piece_on, opened_of, stepped_of, uncaptured_of, is_uncastling, rights_stored, uncastled_of, is_passant_uncapture, passant_stored, reborn_of, rust_moved}
use Rattle.incremental.specs.Found.{found_stored}
use Rattle.squares.proofs.Testing.{left}
use Rattle.laws.proofs.Mans.{opp_opp, castling_is, is_passant}
use Rattle.laws.proofs.Facts.{accepts}
use Rattle.laws.proofs.Puts.{Done}
use Rattle.laws.proofs.Rights.{home}
use Rattle.laws.proofs.StateBack.{Around, around}
use Rattle.laws.proofs.Retracting.{mover, can_retract, Back, back, done_of}
use Rattle.incremental.proofs.Toggling.{with_men}
use Rattle.incremental.proofs.Stages.{gone, of_side, stepped, uncaptured, uncastled, reborn, skip_castle, skip_passant}
use Rattle.incremental.proofs.Ways.{kind_of, piece_read, is_castle, passant_test, castle_test}

-- rights: those kept, and the one that castling gives back to a king that had none
kept : (w : CastleRights) → w ≡ rights_for (holds w short or false) (holds w long or false)
unfolding ◌or◌
kept NoRights = refl
kept KingSide = refl
kept QueenSide = refl
kept Both = refl

same : (w : CastleRights) → w ≡ rights_for (holds w short) (holds w long)
same NoRights = refl
same KingSide = refl
same QueenSide = refl
same Both = refl

module _ (b : Board) where
  abbrev Recovered : Color → Side → Type 0
  Recovered c d =
      ((rights_stored b c (of_side d)).white ≡ rights_for (regained (castling d) c (rights_of b.white b.black) White short) (regained (castling d) c (rights_of b.white b.black) White long))
      × ((rights_stored b c (of_side d)).black ≡ rights_for (regained (castling d) c (rights_of b.white b.black) Black short) (regained (castling d) c (rights_of b.white b.black) Black long))

  recovered : (c : Color) (d : Side) → rights_of b.white b.black c short ≡ false → rights_of b.white b.black c long ≡ false → Recovered c d
  unfolding rights_stored ◌and◌ ◌or◌
  recovered White short p q = (sym (ap₂ (λ (u v : Bool). rights_for (u or true) (v or false)) p q), kept b.black)
  recovered White long p q = (sym (ap₂ (λ (u v : Bool). rights_for (u or false) (v or true)) p q), kept b.black)
  recovered Black short p q = (kept b.white, sym (ap₂ (λ (u v : Bool). rights_for (u or true) (v or false)) p q))
  recovered Black long p q = (kept b.white, sym (ap₂ (λ (u v : Bool). rights_for (u or false) (v or true)) p q))

-- a board with the men, the turn and the state of a position, nothing found yet, and fields that say the position's rights
told : (q : Pos) {w b : CastleRights} → w ≡ rights_for (q.rights White short) (q.rights White long) → b ≡ rights_for (q.rights Black short) (q.rights Black long)
    → ◌≡◌ {A = Board} (record {
      pieces = kind_sets q.men;
      colors = color_sets q.men;
      combined = union_of q.men;
      turn = q.turn;
      white = w;
      black = b;
      pinned = 0;
      checkers = 0;
      passant = q.state;
      terms = q.terms;
    }) (found_stored (board_of q) 0 0)
unfolding found_stored
told q e f =
    λ i. record {
      pieces = kind_sets q.men;
      colors = color_sets q.men;
      combined = union_of q.men;
      turn = q.turn;
      white = e i;
      black = f i;
      pinned = 0;
      checkers = 0;
      passant = q.state;
      terms = q.terms;
    }

module _ (b : Board) (r : ChessRetraction) (clean : Clean b.pieces b.colors) (union : b.combined ≡ union_of (pos_of b).men)
    (ok : accepted (pos_of b) ≡ true) (can : can_retract (pos_of b) r ≡ true) where
  abbrev p : Pos
  p = pos_of b

  abbrev c : Color
  c = retractor p

  abbrev m : Men
  m = p.men

  abbrev x : Man
  x = mover p r

  abbrev y : Man
  y = numbered (opp c) r.uncaptured

  known : Back p r
  known = back p r can

  -- the man on the source
  pub on_source : (k : Piece) × (m r.source ≡ man c k)
  on_source = kind_of c (m r.source) known.can.mine

  abbrev kind : Piece
  kind = on_source.0

  pub piece_is : piece_on b r.source ≡ kind
  piece_is = piece_read b r.source c kind clean known.can.source_in on_source.1

  -- the Rust's two tests
  pub by_passant : is_passant_uncapture kind r ≡ is_passant (way_back c p r)
  by_passant =
      subst (λ (z : Man). mark_ok (leaving r.unpromotion c z) c r.source r.unpromotion (promoted_to r.unpromotion z) ≡ true
      → undoable (way (leaving r.unpromotion c z) r.target r.source r.uncaptured) c r.source m ≡ true
      → is_passant_uncapture kind r ≡ is_passant (way (leaving r.unpromotion c z) r.target r.source r.uncaptured))
      (sym on_source.1) (passant_test r c m r.unpromotion kind) known.marked known.can.undo

  by_castle : is_uncastling kind r ≡ is_castle (way_back c p r)
  by_castle =
      subst (λ (z : Man). mark_ok (leaving r.unpromotion c z) c r.source r.unpromotion (promoted_to r.unpromotion z) ≡ true
      → (unmade p r).men r.target ≡ leaving r.unpromotion c z
      → goes (unmade p r) (way (leaving r.unpromotion c z) r.target r.source r.uncaptured) r.target r.source r.uncaptured ≡ true
      → is_uncastling kind r ≡ is_castle (way (leaving r.unpromotion c z) r.target r.source r.uncaptured))
      (sym on_source.1) (castle_test r c r.unpromotion kind (unmade p r) known.can.source_in known.can.target_in) known.marked known.there known.going

  -- a king that castled has no right: its home is empty
  rightless : (d : Side) → r.target ≡ king_home c → p.rights c d ≡ false
  rightless d e = go (p.rights c d) refl
    where
      go : (u : Bool) → p.rights c d ≡ u → u ≡ false
      go true h = absurd (false≢true (ap is_empty (sym (home m p.rights (accepts p ok).rights c d h).0 ∙ ap m (sym e) ∙ known.can.target_bare)))
      go false h = refl

  -- the last two statements
  abbrev ending : Board → Board
  ending result = reborn_of (uncastled_of result kind r c) kind r c (opp c)

  by_way : (w : Way) → way_back c p r ≡ w → ending (with_men (opened_of b) (gone m r x y)) ≡ found_stored (board_of (unmade_by w c p r)) 0 0
  unfolding opened_of passant_stored rights_stored
  by_way plain e =
      ap (λ (q : Board). reborn_of q kind r c (opp c)) (skip_castle _ kind r c (by_castle ∙ ap is_castle e))
      ∙ skip_passant _ kind r c (opp c) (by_passant ∙ ap is_passant e)
      ∙ told (unmade_by plain c p r) (same b.white) (same b.black)
  by_way passant e =
      ap (λ (q : Board). reborn_of q kind r c (opp c)) (skip_castle _ kind r c (by_castle ∙ ap is_castle e))
      ∙ reborn (opened_of b) m c r x y kind (by_passant ∙ ap is_passant e) known.can.source_in sixth squares (done_of passant c r.source m undo)
      ∙ told (unmade_by passant c p r) (same b.white) (same b.black)
    where
      undo : undoable passant c r.source m ≡ true
      undo = subst (λ (w : Way). undoable w c r.source m ≡ true) e known.can.undo

      sixth : rank_for c r.source ≡ 5
      sixth = eqb-true _ _ (left _ _ (left _ _ undo))

      squares : Around c r.target r.source
      squares =
          around c r.target r.source known.can.target_in known.can.source_in sixth
          (left _ _ (subst (λ (w : Way). goes (unmade p r) w r.target r.source r.uncaptured ≡ true) e known.going))
  by_way (castling d) e =
      ap (λ (q : Board). reborn_of q kind r c (opp c)) (uncastled (opened_of b) m c r x y kind d (by_castle ∙ ap is_castle e) squares.0 squares.1 done)
      ∙ skip_passant _ kind r c (opp c) (by_passant ∙ ap is_passant e)
      ∙ told (unmade_by (castling d) c p r) rights.0 rights.1
    where
      squares : (r.target ≡ king_home c) × (r.source ≡ king_to c d) × (x ≡ man c King)
      squares = castling_is x r.target r.source r.uncaptured c d known.mine e

      done : Done (castling d) c r.source m
      done = done_of (castling d) c r.source m (subst (λ (w : Way). undoable w c r.source m ≡ true) e known.can.undo)

      rights : Recovered (opened_of b) c d
      rights = recovered (opened_of b) c d (rightless short squares.0) (rightless long squares.0)

  pub moved_same : rust_moved b r ≡ found_stored (board_of (unmade p r)) 0 0
  unfolding rust_moved opened_of
  moved_same =
      (λ i. reborn_of (uncastled_of (uncaptured_of (stepped_of (opened i) (piece_is i) r c) (numbered (turned i) r.uncaptured) (only r.source)) (piece_is i) r c) (piece_is i) r c (turned i))
      ∙ ap (λ (q : Board). ending (uncaptured_of q y (only r.source))) (stepped (opened_of b) m c kind r on_source.1 known.can.target_bare)
      ∙ ap (λ (z : Man). ending (uncaptured_of (with_men (opened_of b) (put r.target (leaving r.unpromotion c z) (put r.source empty m))) y (only r.source))) (sym on_source.1)
      ∙ ap ending (uncaptured (opened_of b) m c kind r on_source.1 known.can.target_bare x y)
      ∙ by_way (way_back c p r) refl
    where
      turned : b.turn ≡ opp c
      turned = sym (opp_opp b.turn)

      opened : opened_of b ≡ with_men (opened_of b) m
      opened = λ i. record {
        pieces = clean.kinds i;
        colors = clean.colours i;
        combined = union i;
        turn = c;
        white = b.white;
        black = b.black;
        pinned = 0;
        checkers = 0;
        passant = Any;
        terms = b.terms;
      }
