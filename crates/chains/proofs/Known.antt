-- A chain over accepted boards, of which some may have an unknown state, is one over boards of known states: the state that the move before left, or
-- none on the earliest. There request 3's clause holds by itself: before the double step stood the men of the board before.
use mathlib.Core.Path.{◌≡◌, refl, sym, ap, ◌∙◌, subst}
use mathlib.Core.Logic.{◌⊎◌, inl, inr, ◌↔◌, ◌≢◌}
use mathlib.Core.Bool.{Bool, true, false, not, cond, false≢true}
use mathlib.Core.List.{List, [], ◌∷◌}
use Prim.Native.Nat.{ℕ, ◌<◌, ◌+◌, ◌-◌}
use native.Mathlib.Omega.{arith}
use lib.Dec.{eqb, ltb}
use borrow.Author.Tests.{eq-eqb, eqb-true, lt-ltb}
use Rattle.squares.specs.Tests.{◌and◌, ◌or◌}
use Rattle.squares.specs.Squares.{file, rank}
use Rattle.geometry.specs.declared.Color.{Color}
use Rattle.geometry.specs.declared.Color.TheVariants.{White, Black}
use Rattle.geometry.specs.Colors.{opp, rank_for, behind}
use Rattle.geometry.specs.Lines.{files, ranks, between, same_file, clear}
use Rattle.geometry.specs.Steps.{pawn_step, pawn_double, pawn_takes}
use Rattle.laws.specs.declared.Piece.TheVariants.{Pawn, Knight, Bishop, Rook, Queen, King}
use Rattle.laws.specs.declared.EnPassantFlag.{EnPassantFlag}
use Rattle.laws.specs.declared.EnPassantFlag.TheVariants.{Any, Some, None}
use Rattle.laws.specs.declared.Edition.{Edition}
use Rattle.laws.specs.declared.Edition.TheVariants.{A, B}
use Rattle.laws.specs.declared.ChessRetraction.{ChessRetraction}
use Rattle.laws.specs.declared.Way.{Way}
use Rattle.laws.specs.declared.Way.TheVariants.{Plain as plain, Passant as passant, Castle as castling}
use Rattle.laws.specs.Men.{Man, empty, man, Men, numbered, same_man, is_empty, is_of, bare, put}
use Rattle.laws.specs.Positions.{Pos}
use Rattle.laws.specs.Acceptance.{beside, noted, state_ok, quiet, accepted}
use Rattle.laws.specs.Moves.{way, after, pawn_goes, moves, is_named, goes, mark_ok, arriving, state_after, replayed, possible}
use Rattle.laws.specs.Unmaking.{before}
use Rattle.laws.specs.Strictness.{agrees, unstepped, step_ok, Gives}
use Rattle.laws.specs.Boards.{Shaped}
use Rattle.board.specs.declared.RetractableBoard.{RetractableBoard}
use Rattle.board.specs.Gate.{pos_on, to_laws, gate_of}
use Rattle.board.specs.Answers.{with_passant}
use Rattle.chains.specs.Chains.{Chain, KnownChain}
use Rattle.squares.proofs.Testing.{both, left, right, either, or_left, or_right, implied}
use Rattle.squares.proofs.Every.{all_at}
use Rattle.laws.proofs.Mans.{opp_opp, same_self, same_colour, is_empty_lem}
use Rattle.laws.proofs.Facts.{Accepts, accepts, accepted_by, Possible, possibly, possible_by}
use Rattle.laws.proofs.Puts.{put_at, off, before_after}
use Rattle.laws.proofs.Turning.{neighbours_stay}
use Rattle.board.proofs.Passing.{gate_by, accepted_by_gate}
use Rattle.refusal.specs.Refusals.{nothing_refused}

-- the squares of a double step of c from t to s
record Double (c : Color) (t s : ℕ) : Type 0 where
  s_rank : rank_for c s ≡ 3
  mid_in : behind c s < 64
  mid≢s : behind c s ≢ s
  mid≢t : behind c s ≢ t
  home : behind c (behind c s) ≡ t
  t≢s : t ≢ s
  two : ranks t s ≡ 2

doubled : (c : Color) (t s : ℕ) → t < 64 → s < 64 → files t s ≡ 0 → rank_for c t ≡ 1 → rank_for c s ≡ 3 → Double c t s
doubled White t s ht hs f a b = omega arith
doubled Black t s ht hs f a b = omega arith

two_not_one : (c : Color) (t s : ℕ) → t < 64 → s < 64 → ranks t s ≡ 2 → rank_for c s ≡ rank_for c t + 1 → ⊥
two_not_one White t s ht hs a b = omega arith
two_not_one Black t s ht hs a b = omega arith

-- the square passed over lies between
middle : (c : Color) (t s : ℕ) → t < 64 → s < 64 → files t s ≡ 0 → rank_for c t ≡ 1 → rank_for c s ≡ 3 → between t s (behind c s) ≡ true
unfolding between same_file
middle White t s ht hs f a b =
    or_left _ (or_right _ (both (both (eq-eqb (file t) (file s) (omega arith)) (eq-eqb (file t) (file (s - 8)) (omega arith)))
    (or_left _ (both (lt-ltb (rank t) (rank (s - 8)) (omega arith)) (lt-ltb (rank (s - 8)) (rank s) (omega arith))))))
middle Black t s ht hs f a b =
    or_left _ (or_right _ (both (both (eq-eqb (file t) (file s) (omega arith)) (eq-eqb (file t) (file (s + 8)) (omega arith)))
    (or_right _ (both (lt-ltb (rank s) (rank (s + 8)) (omega arith)) (lt-ltb (rank (s + 8)) (rank t) (omega arith))))))

-- a pawn that goes two ranks makes a double step, and takes nothing
module _ (b : Pos) (t s u : ℕ) (ht : t < 64) (hs : s < 64) (two : ranks t s ≡ 2) (hx : b.men t ≡ man b.turn Pawn) where
  not_taking : pawn_takes b.turn t s ≡ true → ⊥
  unfolding pawn_takes
  not_taking h = two_not_one b.turn t s ht hs two (eqb-true _ _ (left _ _ h))

  not_one : pawn_step b.turn t s ≡ true → ⊥
  unfolding pawn_step
  not_one h = two_not_one b.turn t s ht hs two (eqb-true _ _ (right _ _ h))

  abbrev Steps : Way → Type 0
  Steps w = (w ≡ plain) × (eqb u 0 ≡ true) × (pawn_double b.turn t s ≡ true) × (clear (bare b.men) t s ≡ true)

  going_two : (z : Bool) → eqb u 0 ≡ z → cond z (pawn_goes b.men b.turn t s) (pawn_takes b.turn t s) ≡ true → Steps plain
  going_two false e g = absurd (not_taking g)
  going_two true e g = which (either _ _ g)
    where
      which : (pawn_step b.turn t s ≡ true) ⊎ ((pawn_double b.turn t s and clear (bare b.men) t s) ≡ true) → Steps plain
      which (inl h) = absurd (not_one h)
      which (inr h) = (refl, e, left _ _ h, right _ _ h)

  two_steps : (z : Bool) → goes b (cond z passant plain) t s u ≡ true → Steps (cond z passant plain)
  two_steps true g = absurd (not_taking (left _ _ g))
  two_steps false g = going_two (eqb u 0) refl (subst (λ (x : Man). moves b.men x t s u ≡ true) hx g)

-- after a double step its square may be named, where its edition notes it, and with the pawn put back stand the men before
module _ (v : Edition) (m : Men) (c : Color) (t s : ℕ) (ht : t < 64) (hs : s < 64) (mt : m t ≡ man c Pawn) (ms : m s ≡ empty)
    (d : pawn_double c t s ≡ true) (cl : clear (bare m) t s ≡ true) where
  abbrev n : Men
  n = after plain c t s (man c Pawn) m

  fs : files t s ≡ 0
  unfolding pawn_double
  fs = eqb-true _ _ (left _ _ (left _ _ d))

  t_rank : rank_for c t ≡ 1
  unfolding pawn_double
  t_rank = eqb-true _ _ (right _ _ (left _ _ d))

  q : Double c t s
  unfolding pawn_double
  q = doubled c t s ht hs fs t_rank (eqb-true _ _ (right _ _ d))

  back_is : before plain c t s (man c Pawn) empty n ≡ m
  back_is = before_after plain c t s (man c Pawn) empty (man c Pawn) m mt ms tt

  mid_bare : m (behind c s) ≡ empty
  unfolding clear
  mid_bare = is_empty_lem (m (behind c s)) (implied (between t s (behind c s)) (all_at 64 (λ k. not (between t s k) or is_empty (m k)) cl (behind c s) q.mid_in)
      (middle c t s ht hs fs t_rank q.s_rank))

  noted_still : noted v m (opp c) s ≡ true → noted v n (opp c) s ≡ true
  noted_still = go v
    where
      go : (w : Edition) → noted w m (opp c) s ≡ true → noted w n (opp c) s ≡ true
      go A h =
          sym (neighbours_stay false c t s (man c Pawn) empty n (man (opp c) Pawn) refl q.two)
          ∙ ap (λ (z : Men). beside z (man (opp c) Pawn) s) back_is ∙ h
      go B h = refl

  named_ok : noted v m (opp c) s ≡ true → state_ok v n (opp c) (Some s) ≡ true
  named_ok h =
      subst (λ (z : Color). (ltb s 64 and same_man (n s) (man z Pawn) and eqb (rank_for z s) 3 and is_empty (n (behind z s)) and is_empty (n (behind z (behind z s))) and noted v n (opp c) s) ≡ true)
      (sym (opp_opp c))
      (both (both (both (both (both (lt-ltb s 64 hs) (same_self (n s) (man c Pawn) (put_at s (man c Pawn) (put t empty m)))) (eq-eqb _ _ q.s_rank))
      (ap is_empty (off s (man c Pawn) (behind c s) q.mid≢s (off t empty (behind c s) q.mid≢t mid_bare))))
      (ap is_empty (ap n q.home ∙ off s (man c Pawn) t q.t≢s (put_at t empty m))))
      (noted_still h))

  step_ok_lem : quiet m c ≡ true → step_ok n (opp c) (Some s) ≡ true
  step_ok_lem h =
      ap (λ (z : Color). quiet (unstepped z s n) z) (opp_opp c) ∙ ap (λ (z : ℕ). quiet (put z (man c Pawn) (put s empty n)) c) q.home
      ∙ ap (λ (z : Men). quiet z c) back_is ∙ h

-- a state that may be named, the double step to it being possible
abbrev Fine : Edition → Men → Color → EnPassantFlag → Type 0
Fine v m c st = (state_ok v m c st ≡ true) × (step_ok m c st ≡ true)

-- the state that a move leaves is fine: it passes 5, and request 3's clause
module _ (b : Pos) (r : ChessRetraction) (k : ℕ) (h : possible b r k ≡ true) (calm : quiet b.men b.turn ≡ true) where
  abbrev t : ℕ
  t = r.target

  abbrev s : ℕ
  s = r.source

  abbrev u : ℕ
  u = r.uncaptured

  abbrev v : Edition
  v = b.terms.edition

  abbrev men_after : Man → Men
  men_after x = after (way x t s u) b.turn t s (arriving r.unpromotion x b.turn k) b.men

  move : Possible b r k
  move = possibly b r k h

  own_pawn : b.men t ≡ man b.turn Pawn → (z : Bool) → (eqb (ranks t s) 2 and noted v b.men (opp b.turn) s) ≡ z
      → Fine v (men_after (man b.turn Pawn)) (opp b.turn) (cond z (Some s) None)
  unfolding pawn_double
  own_pawn hx false e = (refl, refl)
  own_pawn hx true e =
      subst (λ (w : Way). Fine v (after w b.turn t s (arriving r.unpromotion (man b.turn Pawn) b.turn k) b.men) (opp b.turn) (Some s)) (sym g.0)
      (unmarked r.unpromotion mk)
    where
      g : Steps b t s u move.target_in move.source_in (eqb-true _ _ (left _ _ e)) hx (way (man b.turn Pawn) t s u)
      g = two_steps b t s u move.target_in move.source_in (eqb-true _ _ (left _ _ e)) hx (eqb u 0 and not (eqb (files t s) 0))
          (subst (λ (x : Man). goes b (way x t s u) t s u ≡ true) hx move.going)

      ms : b.men s ≡ empty
      ms = move.taken ∙ ap (numbered (opp b.turn)) (eqb-true u 0 g.1)

      mk : mark_ok (man b.turn Pawn) b.turn s r.unpromotion k ≡ true
      mk = subst (λ (x : Man). mark_ok x b.turn s r.unpromotion k ≡ true) hx move.marked

      fourth : rank_for b.turn s ≡ 3
      fourth = eqb-true _ _ (right _ _ g.2)

      unmarked : (z : Bool) → mark_ok (man b.turn Pawn) b.turn s z k ≡ true
          → Fine v (after plain b.turn t s (arriving z (man b.turn Pawn) b.turn k) b.men) (opp b.turn) (Some s)
      unmarked false f = (
        named_ok v b.men b.turn t s move.target_in move.source_in hx ms g.2 g.3 (right _ _ e),
        step_ok_lem v b.men b.turn t s move.target_in move.source_in hx ms g.2 g.3 calm,
      )
      unmarked true f = absurd (omega (arith, fourth, eqb-true (rank_for b.turn s) 7 (right _ _ (left _ _ (left _ _ f)))))

  pawn : (y : Color) → is_of b.turn (man y Pawn) ≡ true → b.men t ≡ man y Pawn
      → Fine v (men_after (man y Pawn)) (opp b.turn) (state_after v b.men (man y Pawn) t s)
  pawn y o e =
      let z = same_colour b.turn y o in
      subst (λ (w : Color). Fine v (men_after (man w Pawn)) (opp b.turn) (state_after v b.men (man w Pawn) t s)) z
      (own_pawn (e ∙ ap (λ (w : Color). man w Pawn) (sym z)) (eqb (ranks t s) 2 and noted v b.men (opp b.turn) s) refl)

  left_by_lem : (x : Man) → b.men t ≡ x → is_of b.turn x ≡ true → Fine v (men_after x) (opp b.turn) (state_after v b.men x t s)
  left_by_lem empty e o = (refl, refl)
  left_by_lem (man y Pawn) e o = pawn y o e
  left_by_lem (man y Knight) e o = (refl, refl)
  left_by_lem (man y Bishop) e o = (refl, refl)
  left_by_lem (man y Rook) e o = (refl, refl)
  left_by_lem (man y Queen) e o = (refl, refl)
  left_by_lem (man y King) e o = (refl, refl)

  pub state_left : (state_ok v (replayed b r k).men (opp b.turn) (replayed b r k).state ≡ true)
      × (step_ok (replayed b r k).men (opp b.turn) (replayed b r k).state ≡ true)
  state_left = left_by_lem (b.men t) refl move.mine

none_known : ◌≡◌ {A = EnPassantFlag} None Any → ⊥
none_known e = false≢true (ap (λ (z : EnPassantFlag). agrees z Any) e)

some_known : (q : ℕ) → ◌≡◌ {A = EnPassantFlag} (Some q) Any → ⊥
some_known q e = false≢true (ap (λ (z : EnPassantFlag). agrees z Any) e)

-- the state after a move is known
after_known : (v : Edition) (m : Men) (x : Man) (t s : ℕ) → state_after v m x t s ≡ Any → ⊥
after_known v m empty t s e = none_known e
after_known v m (man c Pawn) t s e = go (eqb (ranks t s) 2 and noted v m (opp c) s) e
  where
    go : (z : Bool) → cond z (Some s) None ≡ Any → ⊥
    go true q = some_known s q
    go false q = none_known q
after_known v m (man c Knight) t s e = none_known e
after_known v m (man c Bishop) t s e = none_known e
after_known v m (man c Rook) t s e = none_known e
after_known v m (man c Queen) t s e = none_known e
after_known v m (man c King) t s e = none_known e

agrees_self : (st : EnPassantFlag) → agrees st st ≡ true
agrees_self Any = refl
agrees_self None = refl
agrees_self (Some q) = eq-eqb q q refl

-- a board of unknown state, with a fine state in its place
module _ (e : RetractableBoard) (h : gate_of e ≡ nothing_refused) (unknown : e.passant ≡ Any) (st : EnPassantFlag)
    (fine : Fine e.terms.edition (pos_on e).men e.turn st) where
  ac : Accepts (pos_on e)
  ac = accepts (pos_on e) (right _ _ (left _ _ (accepted_by_gate e h)))

  stated_accepted : accepted (pos_on (with_passant e st)) ≡ true
  stated_accepted = accepted_by (pos_on (with_passant e st)) (record { kings = ac.kings; pawns = ac.pawns; rights = ac.rights; state = fine.0; calm = ac.calm })

  pub stated_gate : gate_of (with_passant e st) ≡ nothing_refused
  stated_gate =
      let z = accepted_by_gate e h in gate_by (with_passant e st) (both (both (left _ _ (left _ _ z)) stated_accepted) (right _ _ z))

  goes_stated : (w : Way) (t s u : ℕ) → goes (pos_on e) w t s u ≡ true → goes (pos_on (with_passant e st)) w t s u ≡ true
  goes_stated plain t s u g = g
  goes_stated passant t s u g = absurd (false≢true (sym (ap (λ (z : EnPassantFlag). is_named z (behind e.turn s)) unknown) ∙ right _ _ g))
  goes_stated (castling d) t s u g = g

  pub gives_stated : (p : Pos) (r : ChessRetraction) (k : ℕ) → Gives (pos_on e) p r k → Gives (pos_on (with_passant e st)) p r k
  gives_stated p r k g = record {
    is_accepted = stated_accepted;
    few_souls = g.few_souls;
    could_step = fine.1;
    is_legal = both (both can (right _ _ (left _ _ g.is_legal))) (right _ _ g.is_legal);
    same_men = g.same_men;
    same_turn = g.same_turn;
    same_rights = g.same_rights;
    same_terms = g.same_terms;
    same_state = g.same_state;
  }
    where
      move : Possible (pos_on e) r k
      move = possibly (pos_on e) r k (left _ _ (left _ _ g.is_legal))

      can : possible (pos_on (with_passant e st)) r k ≡ true
      can = possible_by (pos_on (with_passant e st)) r k (record {
        source_in = move.source_in;
        target_in = move.target_in;
        small = move.small;
        mine = move.mine;
        taken = move.taken;
        marked = move.marked;
        going = goes_stated (way ((pos_on e).men r.target) r.target r.source r.uncaptured) r.target r.source r.uncaptured move.going;
      })

  pub shaped_stated : Shaped (to_laws e) → Shaped (to_laws (with_passant e st))
  shaped_stated z = record { six = z.six; two = z.two; kinds_fit = z.kinds_fit; colors_fit = z.colors_fit }

-- the latest move from a board of known state
abbrev KnownLatest : List ChessRetraction → RetractableBoard → ChessRetraction → ℕ → Type 0
KnownLatest l b r k =
    (e : RetractableBoard) × Shaped (to_laws e) × (gate_of e ≡ nothing_refused) × Gives (pos_on e) (pos_on b) r k × (e.passant ≡ Any → ⊥) × Chain l e

known_latest : (l : List ChessRetraction) (e b : RetractableBoard) (r : ChessRetraction) (k : ℕ) → Shaped (to_laws e) → gate_of e ≡ nothing_refused
    → Gives (pos_on e) (pos_on b) r k → Chain l e → KnownLatest l b r k
known_latest l e b r k sh h g c = by_state_lem e.passant refl
  where
    stated : (st : EnPassantFlag) → e.passant ≡ Any → Fine e.terms.edition (pos_on e).men e.turn st → (st ≡ Any → ⊥) → Chain l (with_passant e st) → KnownLatest l b r k
    stated st a f ne z =
        (with_passant e st, shaped_stated e h a st f sh, stated_gate e h a st f, gives_stated e h a st f (pos_on b) r k g, ne, z)

    fresh : (m : List ChessRetraction) → Chain m e → ((st : EnPassantFlag) → Fine e.terms.edition (pos_on e).men e.turn st → (st ≡ Any → ⊥) → Chain m (with_passant e st) → KnownLatest l b r k)
        → KnownLatest l b r k
    fresh [] z f = f None (refl, refl) none_known tt
    fresh (x ∷ m) z f =
        let y = z.4 in
        let st = (replayed (pos_on z.0) x z.1).state in
        f st
        (fine_left y)
        (after_known z.0.terms.edition (pos_on z.0).men ((pos_on z.0).men x.target) x.target x.source) (
          z.0,
          z.1,
          z.2,
          z.3,
          record {
            is_accepted = y.is_accepted;
            few_souls = y.few_souls;
            could_step = y.could_step;
            is_legal = y.is_legal;
            same_men = y.same_men;
            same_turn = y.same_turn;
            same_rights = y.same_rights;
            same_terms = y.same_terms;
            same_state = agrees_self st;
          },
          z.5,
        )
      where
        fine_left : (y : Gives (pos_on z.0) (pos_on e) x z.1) → Fine e.terms.edition (pos_on e).men e.turn (replayed (pos_on z.0) x z.1).state
        fine_left y =
            let o = pos_on z.0 in
            subst (λ (q : Pos). Fine q.terms.edition q.men q.turn (replayed o x z.1).state)
            (λ i. record { men = y.same_men i; turn = y.same_turn i; rights = (pos_on e).rights; state = (pos_on e).state; terms = y.same_terms i })
            (state_left o x z.1 (left _ _ (left _ _ y.is_legal)) (accepts o y.is_accepted).calm)

    by_state_lem : (st : EnPassantFlag) → e.passant ≡ st → KnownLatest l b r k
    by_state_lem Any a = fresh l c (λ st. stated st a)
    by_state_lem None a = (e, sh, h, g, (λ z. none_known (sym a ∙ z)), c)
    by_state_lem (Some q) a = (e, sh, h, g, (λ z. some_known q (sym a ∙ z)), c)

-- allowing earlier boards an unknown state adds no chain
pub known : (l : List ChessRetraction) (b : RetractableBoard) → Chain l b ↔ KnownChain l b
known l b = (there l b, back l b)
  where
    there : (l : List ChessRetraction) (b : RetractableBoard) → Chain l b → KnownChain l b
    there [] b c = tt
    there (r ∷ l) b c =
        let z = known_latest l c.0 b r c.1 c.2 c.3 c.4 c.5 in
        (z.0, c.1, z.1, z.2, z.3, z.4, there l z.0 z.5)

    back : (l : List ChessRetraction) (b : RetractableBoard) → KnownChain l b → Chain l b
    back [] b c = tt
    back (r ∷ l) b c = (c.0, c.1, c.2, c.3, c.4, back l c.0 c.6)
