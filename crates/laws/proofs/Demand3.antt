-- Demand 3: a retraction is strict exactly when it has a past.
use mathlib.Core.Path.{◌≡◌, refl, sym, ap, ◌∙◌, subst}
use mathlib.Core.Logic.{◌≢◌, ◌↔◌}
use mathlib.Core.Bool.{Bool, true, false, not, cond, false≢true}
use Prim.Native.Nat.{ℕ, ◌<◌}
use native.Mathlib.Omega.{arith}
use lib.Dec.{eqb, lit<}
use borrow.Author.Tests.{eq-eqb, lt-ltb}
use Rattle.squares.specs.Tests.{◌and◌, ◌or◌}
use Rattle.geometry.specs.declared.Color.{Color}
use Rattle.geometry.specs.declared.Color.TheVariants.{White, Black}
use Rattle.geometry.specs.Colors.{opp, rank_for, behind}
use Rattle.geometry.specs.Lines.{between, same_rank, same_file, same_diagonal, clear}
use Rattle.laws.specs.declared.Piece.TheVariants.{Rook}
use Rattle.laws.specs.declared.EnPassantFlag.{EnPassantFlag}
use Rattle.laws.specs.declared.EnPassantFlag.TheVariants.{Some}
use Rattle.laws.specs.declared.Edition.{Edition}
use Rattle.laws.specs.declared.ChessRetraction.{ChessRetraction}
use Rattle.laws.specs.Men.{Man, empty, man, Men, numbered, is_empty, is_of, is_pawn, bare, put}
use Rattle.laws.specs.Souls.{souls_ok}
use Rattle.laws.specs.declared.Side.{Side}
use Rattle.laws.specs.declared.Side.TheVariants.{Short as short, Long as long}
use Rattle.laws.specs.Positions.{Rights, Pos, retractor, king_home, corner, king_to, rook_to}
use Rattle.laws.specs.Acceptance.{edge, state_ok, quiet, accepted}
use Rattle.laws.specs.declared.Way.{Way}
use Rattle.laws.specs.declared.Way.TheVariants.{Plain as plain, Passant as passant, Castle as castling}
use Rattle.laws.specs.Moves.{way, cleared, filled, after, goes, mark_ok, possible, arriving, kept, replayed, safe, legal}
use Rattle.laws.specs.Unmaking.{before, leaving, regained, state_before, unmade_by, way_back, unmade, undoable, promoted_to, retractable}
use Rattle.laws.specs.Strictness.{agrees, step_ok, counts, Gives, Past, strict_by, strict}
use Rattle.squares.proofs.Testing.{both, left, right, or_right}
use Rattle.squares.proofs.Every.{all_at}
use Rattle.laws.proofs.Mans.{opp_opp, is_empty_lem, numbered_not_of, leaves, kind_back_lem, arriving_of, passant_is, castling_is, state_named}
use Rattle.laws.proofs.Passes.{Passes, passes_of}
use Rattle.laws.proofs.Facts.{Accepts, accepts, accepted_by, Named, names, Possible, possibly, possible_by}
use Rattle.laws.proofs.Puts.{put_at, off, Ready, before_after}
use Rattle.laws.proofs.Retracting.{kind_today, can_retract, back}
use Rattle.laws.proofs.Replays.{Replays, replay_unmake}
use Rattle.laws.proofs.Rights.{home, fewer, same_right_self, regained_in, kept_free}

-- from strict to a past: the un-made board is the earlier board
pub sound : (p : Pos) (r : ChessRetraction) → accepted p ≡ true → strict p r ≡ true → Gives (unmade p r) p r (kind_today p r)
sound p r ok h = record {
  is_accepted = right _ _ (left _ _ (left _ _ (left _ _ h)));
  few_souls = left _ _ (right _ _ (left _ _ (left _ _ h)));
  could_step = right _ _ (right _ _ (left _ _ (left _ _ h)));
  is_legal = both (both again.possible_again safe_way) calm;
  same_men = again.men_back;
  same_turn = again.turn_back;
  same_rights = again.rights_back;
  same_terms = refl;
  same_state = right _ _ h;
}
  where
    c : Color
    c = retractor p

    e : Pos
    e = unmade p r

    R : can_retract p r ≡ true
    R = left _ _ (left _ _ (left _ _ (left _ _ h)))

    again : Replays p r
    again = replay_unmake p r (accepts p ok).rights R

    safe_way : safe e.men (way (e.men r.target) r.target r.source r.uncaptured) c ≡ true
    safe_way =
        subst (λ (z : Man). safe e.men (way z r.target r.source r.uncaptured) c ≡ true) (sym (back p r R).there) (right _ _ (left _ _ h))

    calm : quiet (replayed e r (kind_today p r)).men (opp c) ≡ true
    calm = ap (λ (m : Men). quiet m (opp c)) again.men_back ∙ ap (quiet p.men) (opp_opp p.turn) ∙ (accepts p ok).calm

-- from a past to strict. The squares about a pawn that was taken en passant, the mover of colour c arriving on s
around : (c : Color) (s : ℕ) → s < 64 → rank_for (opp c) (behind c s) ≡ 3 → (rank_for c s ≡ 5) × (behind (opp c) (behind c s) ≡ s) × (behind (opp c) s ≢ s)
around White s h e = omega arith
around Black s h e = omega arith

-- the square that the castling rook goes to lies between king and rook
crossed : (m : Men) (c : Color) (d : Side) → clear (bare m) (king_home c) (corner c d) ≡ true → m (rook_to c d) ≡ empty
unfolding clear between same_rank same_file same_diagonal ◌and◌ ◌or◌
crossed m White short h = is_empty_lem (m 5) (all_at 64 (λ k. not (between 4 7 k) or is_empty (m k)) h 5 (lit< tt))
crossed m White long h = is_empty_lem (m 3) (all_at 64 (λ k. not (between 4 0 k) or is_empty (m k)) h 3 (lit< tt))
crossed m Black short h = is_empty_lem (m 61) (all_at 64 (λ k. not (between 60 63 k) or is_empty (m k)) h 61 (lit< tt))
crossed m Black long h = is_empty_lem (m 59) (all_at 64 (λ k. not (between 60 56 k) or is_empty (m k)) h 59 (lit< tt))

-- the state that en passant goes by
passing : (p : Pos) (t s u : ℕ) → Passes p → goes p passant t s u ≡ true → state_ok p.terms.edition p.men p.turn (Some (behind p.turn s)) ≡ true
passing p t s u ok g =
    subst (λ (st : EnPassantFlag). state_ok p.terms.edition p.men p.turn st ≡ true) (state_named p.state (behind p.turn s) (right _ _ g)) ok.state

taken_pawn : (p : Pos) (t s u : ℕ) → Passes p → goes p passant t s u ≡ true → Named p.terms.edition p.men p.turn (behind p.turn s)
taken_pawn p t s u ok g = names p.terms.edition p.men p.turn (behind p.turn s) (passing p t s u ok g)

-- what an accepted board says where a way goes
pub ready : (w : Way) (p : Pos) (t s u : ℕ) → Passes p → goes p w t s u ≡ true → Ready w p.turn s p.men
ready plain p t s u ok g = tt
ready passant p t s u ok g = (taken_pawn p t s u ok g).stepped
ready (castling d) p t s u ok g =
    ((home p.men p.rights ok.rights p.turn d (right _ _ (left _ _ g))).1, crossed p.men p.turn d (right _ _ g))

-- the un-made board goes the same way
goes_on : (w : Way) (p : Pos) (t s u : ℕ) (ρ : Rights) → goes p w t s u ≡ true
    → goes (record { men = p.men; turn = p.turn; rights = regained w p.turn ρ; state = state_before w p.turn s; terms = p.terms }) w t s u ≡ true
goes_on plain p t s u ρ g = g
goes_on passant p t s u ρ g = both (left _ _ g) (eq-eqb (behind p.turn s) (behind p.turn s) refl)
goes_on (castling d) p t s u ρ g = both (both (left _ _ (left _ _ g)) (or_right (ρ p.turn d) (same_right_self p.turn d))) (right _ _ g)

state_on : (w : Way) (p : Pos) (t s u : ℕ) → Passes p → goes p w t s u ≡ true → state_ok p.terms.edition p.men p.turn (state_before w p.turn s) ≡ true
state_on plain p t s u ok g = refl
state_on passant p t s u ok g = passing p t s u ok g
state_on (castling d) p t s u ok g = refl

-- only a capture en passant asks for the double step
step_on : (w : Way) (p : Pos) (t s u : ℕ) → goes p w t s u ≡ true → (w ≡ passant → step_ok p.men p.turn p.state ≡ true)
    → step_ok p.men p.turn (state_before w p.turn s) ≡ true
step_on plain p t s u g h = refl
step_on passant p t s u g h =
    subst (λ (st : EnPassantFlag). step_ok p.men p.turn st ≡ true) (state_named p.state (behind p.turn s) (right _ _ g)) (h refl)
step_on (castling d) p t s u g h = refl

castle_done : (c : Color) (d : Side) (a : Man) (m : Men) → undoable (castling d) c (king_to c d) (after (castling d) c (king_home c) (king_to c d) a m) ≡ true
unfolding ◌and◌
castle_done White short a m = refl
castle_done White long a m = refl
castle_done Black short a m = refl
castle_done Black long a m = refl

-- an edit to empty leaves an empty square empty
still : (k j : ℕ) {z : Man} → z ≡ empty → cond (eqb j k) empty z ≡ empty
still k j {z} e = go (eqb j k)
  where
    go : (b : Bool) → cond b empty z ≡ empty
    go true = refl
    go false = e

-- after a capture en passant: the pawn's square and the square ahead are empty, on the sixth rank
passed : (v : Edition) (c : Color) (m : Men) (t s : ℕ) (a : Man) → s < 64 → m s ≡ empty → Named v m c (behind c s) → undoable passant c s (after passant c t s a m) ≡ true
passed ed c m t s a hs ms st =
    both (both (eq-eqb _ _ near.0) (ap is_empty (off s a v v≢s (still t v (put_at v empty m)))))
    (ap is_empty (off s a (behind (opp c) s) near.2 (still t (behind (opp c) s) (still v (behind (opp c) s) ahead))))
  where
    v : ℕ
    v = behind c s

    near : (rank_for c s ≡ 5) × (behind (opp c) (behind c s) ≡ s) × (behind (opp c) s ≢ s)
    near = around c s hs st.on_fourth

    ahead : m (behind (opp c) s) ≡ empty
    ahead = ap (λ (q : ℕ). m (behind (opp c) q)) (sym near.1) ∙ st.started

    v≢s : v ≢ s
    v≢s q = false≢true (ap is_empty (sym st.stepped ∙ ap m q ∙ ms))

-- after the move stands what un-make overwrites
pub undone : (w : Way) (p : Pos) (t s u : ℕ) (a : Man) → Passes p → goes p w t s u ≡ true → s < 64 → p.men s ≡ numbered (opp p.turn) u
    → is_of p.turn (p.men t) ≡ true → way (p.men t) t s u ≡ w → undoable w p.turn s (after w p.turn t s a p.men) ≡ true
undone plain p t s u a ok g hs ms mt e = refl
undone passant p t s u a ok g hs ms mt e =
    passed p.terms.edition p.turn p.men t s a hs (ms ∙ ap (numbered (opp p.turn)) (passant_is (p.men t) t s u p.turn mt e).1) (taken_pawn p t s u ok g)
undone (castling d) p t s u a ok g hs ms mt e =
    let k = castling_is (p.men t) t s u p.turn d mt e in
    subst (λ (t' : ℕ). undoable (castling d) p.turn s (after (castling d) p.turn t' s a p.men) ≡ true) (sym k.0)
    (subst (λ (s' : ℕ). undoable (castling d) p.turn s' (after (castling d) p.turn (king_home p.turn) s' a p.men) ≡ true) (sym k.1)
    (castle_done p.turn d a p.men))

home≢rook : (c : Color) (d : Side) → king_home c ≢ rook_to c d
home≢rook White short e = omega arith
home≢rook White long e = omega arith
home≢rook Black short e = omega arith
home≢rook Black long e = omega arith

-- the square that a man left is empty
pub left_bare : (w : Way) (c : Color) (t s : ℕ) (a : Man) (m : Men) → t ≢ s → ((d : Side) → w ≡ castling d → t ≡ king_home c) → after w c t s a m t ≡ empty
left_bare plain c t s a m ne f = off s a t ne (put_at t empty m)
left_bare passant c t s a m ne f = off s a t ne (put_at t empty (cleared passant c s m))
left_bare (castling d) c t s a m ne f =
    off s a t ne (off (rook_to c d) (man c Rook) t (λ q. home≢rook c d (sym (f d refl) ∙ q)) (put_at t empty (cleared (castling d) c s m)))

-- a legal move from an accepted b: p is the position after it, with any state
module _ (b : Pos) (r : ChessRetraction) (k : ℕ) (st : EnPassantFlag) (ok : accepted b ≡ true) (leg : legal b r k ≡ true) where
  a_b : Accepts b
  a_b = accepts b ok

  pass : Passes b
  pass = passes_of b a_b

  abbrev c : Color
  c = b.turn

  abbrev t : ℕ
  t = r.target

  abbrev s : ℕ
  s = r.source

  abbrev u : ℕ
  u = r.uncaptured

  abbrev x : Man
  x = b.men t

  abbrev w : Way
  w = way x t s u

  abbrev a : Man
  a = arriving r.unpromotion x c k

  abbrev p : Pos
  p = record { men = after w c t s a b.men; turn = opp c; rights = kept t s b.rights; state = st; terms = b.terms }

  abbrev earlier : Men → Pos
  earlier z = record { men = z; turn = c; rights = regained w c p.rights; state = state_before w c s; terms = b.terms }

  move : Possible b r k
  move = possibly b r k (left _ _ (left _ _ leg))

  now_s : p.men s ≡ a
  now_s = put_at s a (filled w c (put t empty (cleared w c s b.men)))

  left_man : leaving r.unpromotion c (p.men s) ≡ x
  left_man = ap (leaving r.unpromotion c) now_s ∙ leaves x c s r.unpromotion k move.mine move.marked

  same_way : way_back c p r ≡ w
  same_way = ap (λ (z : Man). way z t s u) left_man

  same_men_lem : (unmade_by w c p r).men ≡ b.men
  same_men_lem =
      ap (λ (z : Man). before w c t s z (numbered (opp c) u) p.men) left_man
      ∙ before_after w c t s x (numbered (opp c) u) a b.men refl move.taken (ready w b t s u pass move.going)

  -- un-make gives b's men back
  pub unmade_back : unmade p r ≡ earlier b.men
  unmade_back =
      ap (λ (z : Color). unmade_by (way_back z p r) z p r) (opp_opp c) ∙ ap (λ (z : Way). unmade_by z c p r) same_way ∙ ap earlier same_men_lem

  -- and no right that b has not
  pub rights_back : (d : Color) (i : Side) → regained w c p.rights d i ≡ true → b.rights d i ≡ true
  rights_back = regained_in w c t s b.rights has_right
    where
      has_right : (d : Side) → w ≡ castling d → b.rights c d ≡ true
      has_right d e = right _ _ (left _ _ (subst (λ (z : Way). goes b z t s u ≡ true) e move.going))

  -- as a strict test sees it
  complete_at : souls_ok b.men ≡ true → (w ≡ passant → step_ok b.men b.turn b.state ≡ true) → agrees st (replayed b r k).state ≡ true
      → strict p r ≡ true
  complete_at few stepped agr =
      ap (λ (z : Color). strict_by (way_back z p r) z (unmade_by (way_back z p r) z p r) p r) (opp_opp c)
      ∙ ap (λ (z : Way). strict_by z c (unmade_by z c p r) p r) same_way
      ∙ ap (λ (z : Men). strict_by w c (earlier z) p r) same_men_lem
      ∙ both (both (both (both can accepts_it) counted) (right _ _ (left _ _ leg))) agr
    where
      same_kind : promoted_to r.unpromotion (p.men s) ≡ k
      same_kind = ap (promoted_to r.unpromotion) now_s ∙ kind_back_lem x c s r.unpromotion k move.marked

      t≢s : t ≢ s
      t≢s q = false≢true (sym (numbered_not_of c u) ∙ ap (is_of c) (sym move.taken ∙ ap b.men (sym q)) ∙ move.mine)

      no_pawn : (q : ℕ) → q < 64 → not (is_pawn (b.men q) and edge q) ≡ true
      no_pawn q h = all_at 64 (λ j. not (is_pawn (b.men j) and edge j)) a_b.pawns q h

      step : possible (earlier b.men) r (promoted_to r.unpromotion (p.men s)) ≡ true
      step = possible_by (earlier b.men) r (promoted_to r.unpromotion (p.men s)) (record {
        source_in = move.source_in;
        target_in = move.target_in;
        small = move.small;
        mine = move.mine;
        taken = move.taken;
        marked = subst (λ (z : ℕ). mark_ok x c s r.unpromotion z ≡ true) (sym same_kind) move.marked;
        going = goes_on w b t s u p.rights move.going;
      })

      can : retractable w c (earlier b.men) p r ≡ true
      can =
          both (both (both
          (both (lt-ltb s 64 move.source_in) (subst (λ (z : Man). is_of c z ≡ true) (sym now_s) (arriving_of x c s r.unpromotion k move.mine move.marked)))
          (both (lt-ltb t 64 move.target_in) (ap is_empty (left_bare w c t s a b.men t≢s (λ d q. (castling_is x t s u c d move.mine q).0)))))
          (kept_free b.rights c t s))
          (both (both (both (undone w b t s u a pass move.going move.source_in move.taken move.mine refl)
          (subst (λ (z : Man). not (is_pawn z and edge s) ≡ true) move.taken (no_pawn s move.source_in)))
          (no_pawn t move.target_in)) step)

      counted : counts (earlier b.men) ≡ true
      counted = both few (step_on w b t s u move.going stepped)

      accepts_it : accepted (earlier b.men) ≡ true
      accepts_it = accepted_by (earlier b.men) (record {
        kings = a_b.kings;
        pawns = a_b.pawns;
        rights = fewer b.men b.rights (regained w c p.rights) rights_back a_b.rights;
        state = state_on w b t s u pass move.going;
        calm = a_b.calm;
      })

-- from an earlier board to strict; a board whose move is no capture en passant is asked for no double step
pub complete_by : (e p : Pos) (r : ChessRetraction) (k : ℕ) → accepted e ≡ true → souls_ok e.men ≡ true
    → (way (e.men r.target) r.target r.source r.uncaptured ≡ passant → step_ok e.men e.turn e.state ≡ true) → legal e r k ≡ true
    → (replayed e r k).men ≡ p.men → (replayed e r k).turn ≡ p.turn → (replayed e r k).rights ≡ p.rights → e.terms ≡ p.terms
    → agrees p.state (replayed e r k).state ≡ true → strict p r ≡ true
complete_by e p r k ok few stepped leg men turn rights terms agr =
    subst (λ (b : Bool). b ≡ true)
    (λ i. strict (record { men = men i; turn = turn i; rights = rights i; state = p.state; terms = terms i }) r)
    (complete_at e r k p.state ok leg few stepped agr)

pub complete : (e p : Pos) (r : ChessRetraction) (k : ℕ) → Gives e p r k → strict p r ≡ true
complete e p r k h =
    complete_by e p r k h.is_accepted h.few_souls (λ _. h.could_step) h.is_legal h.same_men h.same_turn h.same_rights h.same_terms h.same_state

-- demand 3, of positions
pub demand3 : (p : Pos) (r : ChessRetraction) → accepted p ≡ true → (strict p r ≡ true) ↔ Past p r
demand3 p r ok = (λ h. (unmade p r, kind_today p r, sound p r ok h), λ q. complete q.0 p r q.1 q.2)

-- whatever square an earlier board names, and whether or not that double step was possible: a move from it that is no capture en passant has a past
pub past_but_passant : (e p : Pos) (r : ChessRetraction) (k : ℕ) → accepted p ≡ true → way (e.men r.target) r.target r.source r.uncaptured ≢ passant
    → accepted e ≡ true → souls_ok e.men ≡ true → legal e r k ≡ true → (replayed e r k).men ≡ p.men → (replayed e r k).turn ≡ p.turn
    → (replayed e r k).rights ≡ p.rights → e.terms ≡ p.terms → agrees p.state (replayed e r k).state ≡ true → Past p r
past_but_passant e p r k today other ok few leg men turn rights terms agr =
    (demand3 p r today).0 (complete_by e p r k ok few (λ w. absurd (other w)) leg men turn rights terms agr)
