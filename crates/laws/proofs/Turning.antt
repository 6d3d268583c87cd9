-- Turning a position into the other edition refuses nothing, loses no last move, and never makes a dash of what is unknown.
use mathlib.Core.Path.{◌≡◌, refl, sym, ap, ◌∙◌, subst}
use mathlib.Core.Logic.{◌≢◌, ◌⊎◌, inl, inr}
use mathlib.Core.Bool.{Bool, true, false, not, cond, false≢true}
use Prim.Native.Nat.{ℕ}
use native.Mathlib.Omega.{arith}
use lib.Dec.{eqb}
use borrow.Author.Tests.{eqb-true, eq-eqb}
use Rattle.squares.specs.Tests.{◌and◌}
use Rattle.squares.specs.Squares.{rank}
use Rattle.geometry.specs.declared.Color.{Color}
use Rattle.geometry.specs.declared.Color.TheVariants.{White, Black}
use Rattle.geometry.specs.Colors.{opp, rank_for, behind}
use Rattle.geometry.specs.Lines.{files, ranks}
use Rattle.laws.specs.declared.Piece.TheVariants.{Pawn, Knight, Bishop, Rook, Queen, King}
use Rattle.laws.specs.declared.EnPassantFlag.{EnPassantFlag}
use Rattle.laws.specs.declared.EnPassantFlag.TheVariants.{Any, Some, None}
use Rattle.laws.specs.declared.Edition.{Edition}
use Rattle.laws.specs.declared.Edition.TheVariants.{A, B}
use Rattle.laws.specs.declared.Terms.{Terms}
use Rattle.laws.specs.declared.ChessRetraction.{ChessRetraction}
use Rattle.laws.specs.Men.{Man, empty, man, Men, numbered, same_man, is_of}
use Rattle.laws.specs.Positions.{Pos, retractor}
use Rattle.laws.specs.Acceptance.{beside, noted, state_ok, accepted}
use Rattle.laws.specs.declared.Way.{Way}
use Rattle.laws.specs.declared.Way.TheVariants.{Plain as plain, Passant as passant, Castle as castling}
use Rattle.laws.specs.declared.Board.{Board}
use Rattle.laws.specs.Moves.{way, goes, state_after}
use Rattle.laws.specs.Unmaking.{before, unmade, undoable}
use Rattle.laws.specs.Strictness.{agrees, Past, strict}
use Rattle.laws.specs.Boards.{pos_of, BoardPast}
use Rattle.laws.specs.Editions.{other_edition, turned_state, turned}
use Rattle.squares.proofs.Testing.{both, left, right, and_false}
use Rattle.squares.proofs.Every.{any_cong}
use Rattle.laws.proofs.Mans.{opp_opp, same_colour}
use Rattle.laws.proofs.Facts.{Accepts, accepts, accepted_by}
use Rattle.laws.proofs.Puts.{off}
use Rattle.laws.proofs.Retracting.{mover, can_retract, Back, back}
use Rattle.laws.proofs.Passes.{unmade_passes}
use Rattle.laws.proofs.Demand3.{demand3}
use Rattle.laws.proofs.BoardPasts as boards

-- unknown stays unknown
pub unknown_stays : (v : Edition) (m : Men) (c : Color) → turned_state v m c Any ≡ Any
unknown_stays A m c = refl
unknown_stays B m c = refl

-- unknown never becomes a dash
pub unknown_to_dash : (v : Edition) (m : Men) (c : Color) (st : EnPassantFlag) → turned_state v m c st ≡ None → st ≡ Any → ⊥
unknown_to_dash v m c st d e = false≢true (ap (agrees None) (sym (unknown_stays v m c) ∙ ap (turned_state v m c) (sym e) ∙ d))

-- A turned into B has no dash
pub dash_to_dash : (m : Men) (c : Color) (st : EnPassantFlag) → turned_state A m c st ≡ None → ⊥
dash_to_dash m c Any d = false≢true (ap (agrees None) d)
dash_to_dash m c None d = false≢true (ap (agrees None) d)
dash_to_dash m c (Some q) d = false≢true (ap (agrees None) d)

-- the turned state passes 5 in the other edition
state_turned : (v : Edition) (m : Men) (c : Color) (st : EnPassantFlag) → state_ok v m c st ≡ true → state_ok (other_edition v) m c (turned_state v m c st) ≡ true
state_turned A m c Any h = refl
state_turned A m c None h = refl
state_turned A m c (Some q) h = both (left _ _ h) refl
state_turned B m c Any h = refl
state_turned B m c None h = refl
state_turned B m c (Some q) h = go (noted A m c q) refl
  where
    go : (b : Bool) → noted A m c q ≡ b → state_ok A m c (cond b (Some q) None) ≡ true
    go true e = both (left _ _ h) e
    go false e = refl

-- turning refuses nothing
pub turned_accepted : (p : Pos) → accepted p ≡ true → accepted (turned p) ≡ true
turned_accepted p ok = accepted_by (turned p) (record {
  kings = a.kings;
  pawns = a.pawns;
  rights = a.rights;
  state = state_turned p.terms.edition p.men p.turn p.state a.state;
  calm = a.calm;
})
  where
    a : Accepts p
    a = accepts p ok

-- the squares beside s are neither s nor two ranks away
elsewhere : (t s k : ℕ) → ranks t s ≡ 2 → rank k ≡ rank s → files k s ≡ 1 → (k ≢ t) × (k ≢ s)
elsewhere t s k e r f = omega arith

-- nor behind s
not_behind : (c : Color) (s k : ℕ) → rank_for c s ≡ 5 → rank k ≡ rank s → k ≢ behind c s
not_behind White s k e r = omega arith
not_behind Black s k e r = omega arith

-- un-making a double step moves no man beside its square
unmoved : (b : Bool) (c : Color) (t s k : ℕ) (x y : Man) (m : Men) → undoable (cond b passant plain) c s m ≡ true → ranks t s ≡ 2 → rank k ≡ rank s → files k s ≡ 1
    → before (cond b passant plain) c t s x y m k ≡ m k
unmoved false c t s k x y m h e r f = let a = elsewhere t s k e r f in off t x k a.0 (off s y k a.1 refl)
unmoved true c t s k x y m h e r f =
    let a = elsewhere t s k e r f in
    off t x k a.0 (off (behind c s) (man (opp c) Pawn) k (not_behind c s k (eqb-true _ _ (left _ _ (left _ _ h))) r) (off s y k a.1 refl))

-- a test may be replaced by one that is the same where two more pass
under : (a a' r f : Bool) → (r ≡ true → f ≡ true → a ≡ a') → (a and r and f) ≡ (a' and r and f)
under a a' true true h = ap (λ (z : Bool). z and true and true) (h refl refl)
under a a' true false h = and_false (a and true) ∙ sym (and_false (a' and true))
under a a' false f h = ap (λ (z : Bool). z and f) (and_false a ∙ sym (and_false a'))

-- a man stands beside that square before the double step where one does today
pub neighbours_stay : (b : Bool) (c : Color) (t s : ℕ) (x y : Man) (m : Men) (z : Man) → undoable (cond b passant plain) c s m ≡ true → ranks t s ≡ 2
    → beside (before (cond b passant plain) c t s x y m) z s ≡ beside m z s
neighbours_stay b c t s x y m z h e =
    any_cong 64 _ _ (λ k _. under _ _ _ _ (λ r f. ap (λ (i : Man). same_man i z) (unmoved b c t s k x y m h e (eqb-true _ _ r) (eqb-true _ _ f))))

-- after a move that is no double step the turned state agrees where the state did
none_agrees : (v : Edition) (m : Men) (c : Color) (st : EnPassantFlag) → agrees st None ≡ true → agrees (turned_state v m c st) None ≡ true
none_agrees A m c Any h = refl
none_agrees A m c None h = refl
none_agrees A m c (Some q) h = h
none_agrees B m c Any h = refl
none_agrees B m c None h = refl
none_agrees B m c (Some q) h = absurd (false≢true h)

-- so it does after a double step to s, with the same neighbour on the men m' before it and on today's men m
step_agrees : (v : Edition) (m m' : Men) (c : Color) (s : ℕ) (st : EnPassantFlag) → noted A m' c s ≡ noted A m c s → agrees st (cond (noted v m' c s) (Some s) None) ≡ true
    → agrees (turned_state v m c st) (cond (noted (other_edition v) m' c s) (Some s) None) ≡ true
step_agrees A m m' c s Any n h = refl
step_agrees A m m' c s None n h = refl
step_agrees A m m' c s (Some q) n h = go (noted A m' c s) h
  where
    go : (b : Bool) → agrees (Some q) (cond b (Some s) None) ≡ true → agrees (Some q) (Some s) ≡ true
    go true e = e
    go false e = absurd (false≢true e)
step_agrees B m m' c s Any n h = refl
step_agrees B m m' c s None n h = absurd (false≢true h)
step_agrees B m m' c s (Some q) n h =
    subst (λ (b : Bool). agrees (turned_state B m c (Some q)) (cond b (Some s) None) ≡ true) (sym n)
    (subst (λ (i : ℕ). agrees (turned_state B m c (Some i)) (cond (noted A m c s) (Some s) None) ≡ true) (sym (eqb-true q s h)) (go (noted A m c s)))
  where
    go : (b : Bool) → agrees (cond b (Some s) None) (cond b (Some s) None) ≡ true
    go true = eq-eqb s s refl
    go false = refl

-- so it does after any move of a pawn; b says that it goes two ranks
pawn_agrees : (v : Edition) (m m' : Men) (c : Color) (s : ℕ) (st : EnPassantFlag) (b : Bool) → (b ≡ true → noted A m' c s ≡ noted A m c s)
    → agrees st (cond (b and noted v m' c s) (Some s) None) ≡ true → agrees (turned_state v m c st) (cond (b and noted (other_edition v) m' c s) (Some s) None) ≡ true
unfolding ◌and◌
pawn_agrees v m m' c s st true n h = step_agrees v m m' c s st (n refl) h
pawn_agrees v m m' c s st false n h = none_agrees v m c st h

-- so it does after the move that is taken back: x is the man that moved, c is to move today
mover_agrees : (v : Edition) (m : Men) (c : Color) (t s u : ℕ) (x y : Man) (st : EnPassantFlag) → is_of (opp c) x ≡ true → undoable (way x t s u) (opp c) s m ≡ true
    → agrees st (state_after v (before (way x t s u) (opp c) t s x y m) x t s) ≡ true
    → agrees (turned_state v m c st) (state_after (other_edition v) (before (way x t s u) (opp c) t s x y m) x t s) ≡ true
mover_agrees v m c t s u empty y st i un h = none_agrees v m c st h
mover_agrees v m c t s u (man d Pawn) y st i un h =
    subst (λ (z : Color). agrees (turned_state v m z st) (state_after (other_edition v) m' (man d Pawn) t s) ≡ true) (ap opp (sym (same_colour (opp c) d i)) ∙ opp_opp c)
    (pawn_agrees v m m' (opp d) s st (eqb (ranks t s) 2) (λ e. neighbours_stay (eqb u 0 and not (eqb (files t s) 0)) (opp c) t s (man d Pawn) y m (man (opp d) Pawn) un (eqb-true _ _ e)) h)
  where
    m' : Men
    m' = before (way (man d Pawn) t s u) (opp c) t s (man d Pawn) y m
mover_agrees v m c t s u (man d Knight) y st i un h = none_agrees v m c st h
mover_agrees v m c t s u (man d Bishop) y st i un h = none_agrees v m c st h
mover_agrees v m c t s u (man d Rook) y st i un h = none_agrees v m c st h
mover_agrees v m c t s u (man d Queen) y st i un h = none_agrees v m c st h
mover_agrees v m c t s u (man d King) y st i un h = none_agrees v m c st h

-- no step reads the terms
any_terms : (w : Way) (p : Pos) (z : Terms) (t s u : ℕ) → goes p w t s u ≡ true
    → goes (record { men = p.men; turn = p.turn; rights = p.rights; state = p.state; terms = z }) w t s u ≡ true
any_terms plain p z t s u h = h
any_terms passant p z t s u h = h
any_terms (castling d) p z t s u h = h

-- so un-make refuses no more
turned_retracts : (p : Pos) (r : ChessRetraction) → can_retract p r ≡ true → can_retract (turned p) r ≡ true
turned_retracts p r R = both (left _ _ R) (both (left _ _ (right _ _ R)) (both (left _ _ (right _ _ (right _ _ R))) going))
  where
    e : Pos
    e = unmade p r

    w : Way
    w = way (e.men r.target) r.target r.source r.uncaptured

    going : goes (unmade (turned p) r) w r.target r.source r.uncaptured ≡ true
    going = any_terms w e (turned p).terms r.target r.source r.uncaptured (back p r R).step.going

-- turning loses no last move
pub turning_keeps : (p : Pos) (r : ChessRetraction) → accepted p ≡ true → strict p r ≡ true → strict (turned p) r ≡ true
turning_keeps p r ok h = both (both (both (both R' accepts_it) (right _ _ (left _ _ (left _ _ h)))) (right _ _ (left _ _ h))) agr
  where
    v : Edition
    v = p.terms.edition

    c : Color
    c = retractor p

    e : Pos
    e = unmade p r

    R : can_retract p r ≡ true
    R = left _ _ (left _ _ (left _ _ (left _ _ h)))

    b : Back p r
    b = back p r R

    R' : can_retract (turned p) r ≡ true
    R' = turned_retracts p r R

    then : Accepts e
    then = accepts e (right _ _ (left _ _ (left _ _ (left _ _ h))))

    accepts_it : accepted (unmade (turned p) r) ≡ true
    accepts_it = accepted_by (unmade (turned p) r) (record {
      kings = then.kings;
      pawns = then.pawns;
      rights = then.rights;
      state = (unmade_passes (turned p) r (turned_accepted p ok) R').state;
      calm = then.calm;
    })

    agr : agrees (turned p).state (state_after (other_edition v) e.men (e.men r.target) r.target r.source) ≡ true
    agr =
        subst (λ (z : Man). agrees (turned p).state (state_after (other_edition v) e.men z r.target r.source) ≡ true) (sym b.there)
        (mover_agrees v p.men p.turn r.target r.source r.uncaptured (mover p r) (numbered (opp c) r.uncaptured) p.state b.mine b.can.undo
        (subst (λ (z : Man). agrees p.state (state_after v e.men z r.target r.source) ≡ true) b.there (right _ _ h)))

-- the same of pasts
pub past_kept : (p : Pos) (r : ChessRetraction) → accepted p ≡ true → Past p r → Past (turned p) r
past_kept p r ok q = (demand3 (turned p) r (turned_accepted p ok)).0 (turning_keeps p r ok ((demand3 p r ok).1 q))

-- and of boards, b' being one that shows the turned position of b
pub board_past_kept : (b b' : Board) (r : ChessRetraction) → pos_of b' ≡ turned (pos_of b) → accepted (pos_of b) ≡ true → BoardPast b r → BoardPast b' r
board_past_kept b b' r e ok q =
    (boards.demand3 b' r (ap accepted e ∙ turned_accepted (pos_of b) ok)).0 (ap (λ (z : Pos). strict z r) e ∙ turning_keeps (pos_of b) r ok ((boards.demand3 b r ok).1 q))

-- turned into B and back, a state of A is what it was in B: itself, but unknown where it was a dash
pub back_to_a : (m : Men) (c : Color) (st : EnPassantFlag) → state_ok A m c st ≡ true → turned_state B m c (turned_state A m c st) ≡ turned_state A m c st
back_to_a m c Any h = refl
back_to_a m c None h = refl
back_to_a m c (Some q) h = ap (λ (b : Bool). cond b (Some q) None) (right _ _ h)

-- turned into A and back, a square of B stays where it has a neighbour, and is unknown where it has none
pub back_to_b : (m : Men) (c : Color) (q : ℕ) → turned_state A m c (turned_state B m c (Some q)) ≡ cond (noted A m c q) (Some q) Any
back_to_b m c q = go (noted A m c q)
  where
    go : (b : Bool) → turned_state A m c (cond b (Some q) None) ≡ cond b (Some q) Any
    go true = refl
    go false = refl

-- turned there and back, a state is itself or unknown
pub there_and_back : (v : Edition) (m : Men) (c : Color) (st : EnPassantFlag) → state_ok v m c st ≡ true
    → (turned_state (other_edition v) m c (turned_state v m c st) ≡ st) ⊎ (turned_state (other_edition v) m c (turned_state v m c st) ≡ Any)
there_and_back A m c Any h = inl refl
there_and_back A m c None h = inr refl
there_and_back A m c (Some q) h = inl (back_to_a m c (Some q) h)
there_and_back B m c Any h = inl refl
there_and_back B m c None h = inr refl
there_and_back B m c (Some q) h = go (noted A m c q) (back_to_b m c q)
  where
    st : EnPassantFlag
    st = turned_state A m c (turned_state B m c (Some q))

    go : (b : Bool) → st ≡ cond b (Some q) Any → (st ≡ Some q) ⊎ (st ≡ Any)
    go true e = inl e
    go false e = inr e
