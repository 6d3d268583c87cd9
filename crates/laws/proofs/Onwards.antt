-- A move forward neither adds nor takes a king, and leaves every man on the 64 squares.
use mathlib.Core.Path.{◌≡◌, refl, sym, ap, ◌∙◌}
use mathlib.Core.Logic.{◌≢◌}
use mathlib.Core.Bool.{Bool, true, false, false≢true}
use Prim.Native.Nat.{ℕ, ◌<◌}
use borrow.Author.Tests.{eqb-true, eq-eqb}
use Rattle.geometry.specs.declared.Color.{Color}
use Rattle.geometry.specs.declared.Color.TheVariants.{White, Black}
use Rattle.geometry.specs.Colors.{opp, behind}
use Rattle.laws.specs.declared.Piece.TheVariants.{Rook, King}
use Rattle.laws.specs.declared.ChessRetraction.{ChessRetraction}
use Rattle.laws.specs.Men.{Man, empty, man, Men, numbered, is_of, put}
use Rattle.laws.specs.Souls.{number}
use Rattle.laws.specs.Positions.{Pos, corner, rook_to}
use Rattle.laws.specs.Acceptance.{kings_ok}
use Rattle.laws.specs.declared.Way.{Way}
use Rattle.laws.specs.declared.Way.TheVariants.{Plain as plain, Passant as passant, Castle as castling}
use Rattle.laws.specs.Moves.{way, cleared, filled, after, arriving, mark_ok, possible, replayed}
use Rattle.laws.specs.Unmaking.{undoable}
use Rattle.squares.proofs.Testing.{both, left, right}
use Rattle.laws.proofs.Mans.{numbered_not_of, pawn_of, castling_is}
use Rattle.laws.proofs.Facts.{Possible, possibly}
use Rattle.laws.proofs.Puts.{put_at, before_after}
use Rattle.laws.proofs.Numbers.{weigh}
use Rattle.laws.proofs.Kings.{no_king_numbered, kings_back}
use Rattle.laws.proofs.Boundaries.{behind_in, corner_in, rook_to_in}
use Rattle.laws.proofs.Passes.{Passes}
use Rattle.laws.proofs.ManSets.{OnBoard}
use Rattle.laws.proofs.BoardPasts.{put_on}
use Rattle.laws.proofs.Demand3.{ready, undone, left_bare}

after_on : (w : Way) (c : Color) (t s : ℕ) (x : Man) (m m' : Men) → t < 64 → s < 64 → undoable w c s m' ≡ true → OnBoard m → OnBoard (after w c t s x m)
after_on plain c t s x m m' ht hs h o = put_on s x _ hs (put_on t empty m ht o)
after_on passant c t s x m m' ht hs h o =
    put_on s x _ hs (put_on t empty _ ht (put_on (behind c s) empty m (behind_in c s hs (eqb-true _ _ (left _ _ (left _ _ h)))) o))
after_on (castling d) c t s x m m' ht hs h o =
    put_on s x _ hs (put_on (rook_to c d) (man c Rook) _ (rook_to_in c d) (put_on t empty _ ht (put_on (corner c d) empty m (corner_in c d) o)))

-- the man that leaves and the man that arrives are both that king or neither
arrives_same : (c c' : Color) (b : Bool) (x : Man) (s k : ℕ) → is_of c x ≡ true → mark_ok x c s b k ≡ true → weigh (man c' King) x ≡ weigh (man c' King) (arriving b x c k)
arrives_same c c' false x s k e h = refl
arrives_same c c' true x s k e h =
    ap (weigh (man c' King)) (pawn_of c x e (left _ _ (left _ _ (left _ _ h)))) ∙ no_king_numbered c' c 1 ∙ sym (no_king_numbered c' c k)

module _ (b : Pos) (r : ChessRetraction) (k : ℕ) (ok : Passes b) (h : possible b r k ≡ true) where
  abbrev c : Color
  c = b.turn

  abbrev x : Man
  x = b.men r.target

  abbrev w : Way
  w = way x r.target r.source r.uncaptured

  abbrev a : Man
  a = arriving r.unpromotion x c k

  abbrev m : Men
  m = after w c r.target r.source a b.men

  move : Possible b r k
  move = possibly b r k h

  undo : undoable w c r.source m ≡ true
  undo = undone w b r.target r.source r.uncaptured a ok move.going move.source_in move.taken move.mine refl

  kings_at : (c' : Color) → number m c' King ≡ number b.men c' King
  kings_at c' =
      sym (kings_back w m c c' r.target r.source x (numbered (opp c) r.uncaptured) move.target_in move.source_in
      (left_bare w c r.target r.source a b.men apart (λ d q. (castling_is x r.target r.source r.uncaptured c d move.mine q).0))
      (no_king_numbered c' (opp c) r.uncaptured) same_king undo
      (λ d q. (castling_is x r.target r.source r.uncaptured c d move.mine q).1))
      ∙ ap (λ (z : Men). number z c' King)
      (before_after w c r.target r.source x (numbered (opp c) r.uncaptured) a b.men refl move.taken (ready w b r.target r.source r.uncaptured ok move.going))
    where
      apart : r.target ≢ r.source
      apart q = false≢true (sym (numbered_not_of c r.uncaptured) ∙ ap (is_of c) (sym move.taken ∙ ap b.men (sym q)) ∙ move.mine)

      same_king : weigh (man c' King) x ≡ weigh (man c' King) (m r.source)
      same_king =
          arrives_same c c' r.unpromotion x r.source k move.mine move.marked
          ∙ ap (weigh (man c' King)) (sym (put_at r.source a (filled w c (put r.target empty (cleared w c r.source b.men)))))

  pub kings_on : kings_ok (replayed b r k).men ≡ true
  kings_on = both (eq-eqb _ _ (kings_at White ∙ eqb-true _ _ (left _ _ ok.kings))) (eq-eqb _ _ (kings_at Black ∙ eqb-true _ _ (right _ _ ok.kings)))
