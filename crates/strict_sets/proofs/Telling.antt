-- The sets of a source are exact.
use mathlib.Core.Path.{◌≡◌, refl, sym, ap, ap₂, ◌∙◌}
use mathlib.Core.Logic.{◌⊎◌, inl, inr}
use mathlib.Core.Bool.{Bool, true, false, not, cond, false≢true, not-not}
use Prim.Native.Nat.{ℕ, zero, suc, ◌<◌}
use native.Mathlib.Omega.{arith}
use lib.Dec.{eqb, leb}
use borrow.Author.Tests.{ne_eqb, le-leb}
use Rattle.squares.specs.Tests.{◌and◌, ◌or◌}
use Rattle.squares.specs.Squares.{has, rank, all_to}
use Rattle.geometry.specs.declared.Color.{Color}
use Rattle.geometry.specs.declared.Color.TheVariants.{White, Black}
use Rattle.geometry.specs.Colors.{opp, rank_for}
use Rattle.geometry.specs.Lines.{diagonal, same_diagonal}
use Rattle.laws.specs.declared.Piece.TheVariants.{Pawn, Knight, Bishop, Rook, Queen, King}
use Rattle.laws.specs.declared.EnPassantFlag.TheVariants.{None}
use Rattle.laws.specs.declared.ChessRetraction.{ChessRetraction}
use Rattle.laws.specs.Men.{Man, empty, man, Men, numbered, is_empty, is_of, is_kind, is_pawn, put}
use Rattle.laws.specs.Souls.{dark, souls, souls_ok}
use Rattle.laws.specs.Positions.{Pos, retractor}
use Rattle.laws.specs.Acceptance.{edge, quiet, accepted}
use Rattle.laws.specs.Moves.{mark_ok}
use Rattle.laws.specs.Unmaking.{held, leaving, promoted_to}
use Rattle.laws.specs.Strictness.{agrees}
use Rattle.pins.specs.inner.Kings.{TheKing}
use Rattle.returning.specs.inner.Back.{comes_back}
use Rattle.strict_test.specs.inner.Strictly.{strict_for}
use Rattle.strict_sets.specs.declared.Targets.{Targets}
use Rattle.strict_sets.specs.inner.Sets.{holds_at, only_plain, Exact}
use Rattle.strict_sets.specs.inner.Parts.{steps, steps_at, comes_at, special, stood, calm_at, half_at, raised_at}
use Rattle.squares.proofs.Testing.{both, left, right, or_left, or_right, bool_ext, fails, failed, implied, agree, agree_eq, and_true, and_swap, known, either, cases}
use Rattle.squares.proofs.Digits.{has_zero}
use Rattle.squares.proofs.Every.{all_at, pair_eq, square_eq}
use Rattle.laws.proofs.Mans.{own_colour, is_empty_lem}
use Rattle.laws.proofs.Facts.{accepts}
use Rattle.laws.proofs.Retracting.{Back, back}
use Rattle.returning.proofs.Parted.{souls_parted, souls_lifted}
use Rattle.strict_test.proofs.Earlier.{strict_can}
use Rattle.strict_sets.proofs.Simple.{Simply, simply_so, simply_strict}
use Rattle.strict_sets.proofs.Calming.{stander_numbered, stander_stood, empty_numbered, empty_stood, apart, quiet_same}

-- a bishop stays on its shade
one_shade : (a b : ℕ) → a < 64 → b < 64 → (not (diagonal a b) or agree (dark a) (dark b)) ≡ true
unfolding diagonal same_diagonal ◌and◌ ◌or◌ all_to
one_shade = pair_eq (λ a b. not (diagonal a b) or agree (dark a) (dark b)) (λ a b. true) refl

pawn_numbered : (d : Color) (u : ℕ) → is_pawn (numbered d u) ≡ eqb u 1
pawn_numbered d zero = refl
pawn_numbered d (suc zero) = refl
pawn_numbered d (suc (suc u)) = go u ∙ sym (ne_eqb (suc (suc u)) 1 (λ z. absurd (omega arith)))
  where
    go : (n : ℕ) → is_pawn (numbered d (suc (suc n))) ≡ false
    go zero = refl
    go (suc zero) = refl
    go (suc (suc zero)) = refl
    go (suc (suc (suc n))) = refl

-- the last rank is one that no pawn stands on
last_edge : (c : Color) (s : ℕ) → s < 64 → (not (eqb (rank_for c s) 7) or edge s) ≡ true
unfolding ◌or◌ ◌and◌ all_to
last_edge White = square_eq (λ s. not (eqb (rank_for White s) 7) or edge s) (λ s. true) refl
last_edge Black = square_eq (λ s. not (eqb (rank_for Black s) 7) or edge s) (λ s. true) refl

empty_holds : (mark : Bool) (q u : ℕ) → (has (cond mark 0 0) q and has 0 u) ≡ false
unfolding ◌and◌
empty_holds true q u = ap (λ (b : Bool). b and has 0 u) (has_zero q)
empty_holds false q u = ap (λ (b : Bool). b and has 0 u) (has_zero q)

-- the side to move with the man numbered u back on s
abbrev backed : Men → Color → ℕ → ℕ → Bool
backed m c s u = leb (souls (put s (numbered (opp c) u) m) (opp c)) 8 and not (is_pawn (numbered (opp c) u) and edge s)

none_back : (m : Men) (c : Color) (s : ℕ) → s < 64 → is_of c (m s) ≡ true → backed m c s 0 ≡ leb (souls m (opp c)) 8
unfolding ◌and◌
none_back m c s hs own = and_true _ ∙ ap (λ (n : ℕ). leb n 8) (souls_lifted m c s hs own)

some_back : (m : Men) (c : Color) (s u : ℕ) → (u ≡ 0 → ⊥) → u < 6 → backed m c s u ≡ comes_back m (opp c) s u
unfolding comes_back
some_back m c s u n hu =
    and_swap _ _ ∙ ap (λ (b : Bool). not (b and edge s) and leb (souls (put s (numbered (opp c) u) m) (opp c)) 8) (pawn_numbered (opp c) u)
    ∙ ap (λ (b : Bool). b and leb (souls (put s (numbered (opp c) u) m) (opp c)) 8) (sym (known _ (both (le-leb 1 u (omega arith)) (le-leb u 5 (omega arith)))))

-- the source s of the position p: a man of c stands there that no right holds, and k is the square of the king that waited
module _ (p : Pos) (s k : ℕ) (ok : accepted p ≡ true) (hs : s < 64) (king : TheKing p.men (opp (retractor p)) k) (stands : is_of (retractor p) (p.men s) ≡ true) (free : not (held p.rights (retractor p) s) ≡ true) where
  abbrev c : Color
  c = retractor p

  abbrev m : Men
  m = p.men

  -- an unmarked man needs no more
  unmarked : mark_ok (m s) c s false 0 ≡ true
  unmarked = both (fails (is_pawn (m s) and eqb (rank_for c s) 7) (λ h. failed (is_pawn (m s) and edge s) (all_at 64 (λ j. not (is_pawn (m j) and edge j)) (accepts p ok).pawns s hs) (both (left _ _ h) (implied _ (last_edge c s hs) (right _ _ h))))) refl

  module _ (q u : ℕ) (mark : Bool) (hq : q < 64) (hu : u < 6) where
    abbrev x : Man
    x = leaving mark c (m s)

    abbrev y : Man
    y = numbered (opp c) u

    ours : is_of c x ≡ true
    ours = go mark
      where
        go : (z : Bool) → is_of c (leaving z c (m s)) ≡ true
        go true = own_colour c Pawn
        go false = stands

    shade : steps m x (not (eqb u 0)) s q ≡ true → is_kind Bishop x ≡ true → dark q ≡ dark s
    shade h e = go x h e
      where
        go : (z : Man) → steps m z (not (eqb u 0)) s q ≡ true → is_kind Bishop z ≡ true → dark q ≡ dark s
        go empty h e = absurd (false≢true e)
        go (man d Pawn) h e = absurd (false≢true e)
        go (man d Knight) h e = absurd (false≢true e)
        go (man d Bishop) h e = agree_eq (dark q) (dark s) (implied _ (one_shade q s hq hs) (left _ _ h))
        go (man d Rook) h e = absurd (false≢true e)
        go (man d Queen) h e = absurd (false≢true e)
        go (man d King) h e = absurd (false≢true e)

    module _ (bare : m q ≡ empty) (stepped : steps m x (not (eqb u 0)) s q ≡ true) where
      parted : souls_ok (put q x (put s y m)) ≡ (leb (souls (put s x m) c) 8 and leb (souls (put s y m) (opp c)) 8)
      parted = souls_parted m c s q x y hs hq (apart m c k s q x king hs hq stands bare ours) bare ours (stander_numbered c u).not_ours (shade stepped)

      calmed : quiet (put q x (put s y m)) c ≡ quiet (put q x (put s (stood c (not (eqb u 0))) m)) c
      calmed = quiet_same m c k s q x king hs hq stands bare ours y (stood c (not (eqb u 0))) (stander_numbered c u) (stander_stood c (not (eqb u 0)))
          (empty_numbered (opp c) u ∙ sym (empty_stood c (not (eqb u 0)) ∙ not-not (eqb u 0)))

    to_half : Simply p s q u mark → half_at m c x (not (eqb u 0)) s q ≡ true
    unfolding half_at calm_at comes_at steps_at
    to_half a =
        both (left _ _ (sym (parted a.bare_target a.stepped) ∙ a.few))
        (both (both (both a.stepped a.target_inner) (ap is_empty a.bare_target)) (sym (calmed a.bare_target a.stepped) ∙ a.calm))

    to_back : Simply p s q u mark → backed m c s u ≡ true
    to_back a = both (right _ _ (sym (parted a.bare_target a.stepped) ∙ a.few)) a.source_inner

    from_half : agrees p.state None ≡ true → mark_ok x c s mark (promoted_to mark (m s)) ≡ true → half_at m c x (not (eqb u 0)) s q ≡ true → backed m c s u ≡ true
        → strict_for p (record { source = s; target = q; uncaptured = u; unpromotion = mark }) ≡ true
    unfolding half_at calm_at comes_at steps_at
    from_half openly marked h z = simply_strict p s q u mark ok hs hq hu (record {
      openly = openly;
      mine = stands;
      not_held = free;
      marked = marked;
      bare_target = bare;
      target_inner = right _ _ (left _ _ (left _ _ (right _ _ h)));
      stepped = stepped;
      source_inner = right _ _ z;
      few = parted bare stepped ∙ both (left _ _ h) (left _ _ z);
      calm = calmed bare stepped ∙ right _ _ (right _ _ h);
    })
      where
        bare : m q ≡ empty
        bare = is_empty_lem (m q) (right _ _ (left _ _ (right _ _ h)))

        stepped : steps m x (not (eqb u 0)) s q ≡ true
        stepped = left _ _ (left _ _ (left _ _ (right _ _ h)))

  module _ (w : Targets) where
    holds_none : (q : ℕ) (mark : Bool) → holds_at w q 0 mark ≡ has (cond mark w.marked w.plain) q
    unfolding holds_at ◌or◌
    holds_none q mark = and_true _

    holds_some : (q u : ℕ) (mark : Bool) → (u ≡ 0 → ⊥) → holds_at w q u mark ≡ (has (cond mark w.both w.taking) q and has w.men u)
    unfolding holds_at ◌or◌
    holds_some q u mark n = ap (λ (b : Bool). has (cond b (cond mark w.marked w.plain) (cond mark w.both w.taking)) q and (b or has w.men u)) (ne_eqb u 0 n)

  abbrev at : ℕ → ℕ → Bool → ChessRetraction
  at q u mark = record { source = s; target = q; uncaptured = u; unpromotion = mark }

  -- where today's state may be left by a step that no state remembers
  module _ (openly : agrees p.state None ≡ true) where
    plain_told : (q : ℕ) → q < 64
        → strict_for p (at q 0 false) ≡ ((leb (souls m (opp c)) 8 and (half_at m c (m s) false s q and not (special c (m s) s q))) or (special c (m s) s q and strict_for p (at q 0 false)))
    plain_told q hq = bool_ext _ _ (λ h. to h (cases (special c (m s) s q))) (λ h. from (either _ _ h))
      where
        to : strict_for p (at q 0 false) ≡ true → (special c (m s) s q ≡ true) ⊎ (special c (m s) s q ≡ false)
            → ((leb (souls m (opp c)) 8 and (half_at m c (m s) false s q and not (special c (m s) s q))) or (special c (m s) s q and strict_for p (at q 0 false))) ≡ true
        to h (inl e) = or_right _ (both e h)
        to h (inr e) =
            let a : Simply p s q 0 false = simply_so p s q 0 false ok hs hq (omega arith) h (λ z y. e) in
            or_left _ (both (sym (none_back m c s hs stands) ∙ to_back q 0 false hq (omega arith) a) (both (to_half q 0 false hq (omega arith) a) (ap not e)))

        from : ((leb (souls m (opp c)) 8 and (half_at m c (m s) false s q and not (special c (m s) s q))) ≡ true) ⊎ ((special c (m s) s q and strict_for p (at q 0 false)) ≡ true) → strict_for p (at q 0 false) ≡ true
        from (inl h) = from_half q 0 false hq (omega arith) openly unmarked (left _ _ (right _ _ h)) (none_back m c s hs stands ∙ left _ _ h)
        from (inr h) = right _ _ h

    marked_told : (q : ℕ) → q < 64 → strict_for p (at q 0 true) ≡ (leb (souls m (opp c)) 8 and raised_at m c (m s) false s q)
    unfolding raised_at
    marked_told q hq = bool_ext _ _ to (λ h. from_half q 0 true hq (omega arith) openly (left _ _ (right _ _ h)) (right _ _ (right _ _ h)) (none_back m c s hs stands ∙ left _ _ h))
      where
        to : strict_for p (at q 0 true) ≡ true → (leb (souls m (opp c)) 8 and raised_at m c (m s) false s q) ≡ true
        to h =
            let a : Simply p s q 0 true = simply_so p s q 0 true ok hs hq (omega arith) h (λ z y. absurd (false≢true (sym y))) in
            both (sym (none_back m c s hs stands) ∙ to_back q 0 true hq (omega arith) a) (both a.marked (to_half q 0 true hq (omega arith) a))

    module _ (q u : ℕ) (hq : q < 64) (hu : u < 6) (n : u ≡ 0 → ⊥) where
      taken : (m : Men) (c : Color) (x : Man) (b : Bool) → half_at m c x (not (eqb u 0)) s q ≡ b → half_at m c x true s q ≡ b
      taken m c x b e = ap (λ (z : Bool). half_at m c x (not z) s q) (sym (ne_eqb u 0 n)) ∙ e

      taking_told : strict_for p (at q u false) ≡ (half_at m c (m s) true s q and comes_back m (opp c) s u)
      taking_told = bool_ext _ _ to (λ h. from_half q u false hq hu openly unmarked (sym (taken m c (m s) _ refl) ∙ left _ _ h) (some_back m c s u n hu ∙ right _ _ h))
        where
          to : strict_for p (at q u false) ≡ true → (half_at m c (m s) true s q and comes_back m (opp c) s u) ≡ true
          to h =
              let a : Simply p s q u false = simply_so p s q u false ok hs hq hu h (λ z y. absurd (n z)) in
              both (taken m c (m s) true (to_half q u false hq hu a)) (sym (some_back m c s u n hu) ∙ to_back q u false hq hu a)

      both_told : strict_for p (at q u true) ≡ (raised_at m c (m s) true s q and comes_back m (opp c) s u)
      unfolding raised_at
      both_told =
          bool_ext _ _ to (λ h. from_half q u true hq hu openly (left _ _ (left _ _ h)) (sym (taken m c (man c Pawn) _ refl) ∙ right _ _ (left _ _ h)) (some_back m c s u n hu ∙ right _ _ h))
        where
          to : strict_for p (at q u true) ≡ true → (raised_at m c (m s) true s q and comes_back m (opp c) s u) ≡ true
          to h =
              let a : Simply p s q u true = simply_so p s q u true ok hs hq hu h (λ z y. absurd (n z)) in
              both (both a.marked (taken m c (man c Pawn) true (to_half q u true hq hu a))) (sym (some_back m c s u n hu) ∙ to_back q u true hq hu a)

    pub exact_open : (w : Targets)
        → ((q : ℕ) → q < 64 → has w.plain q ≡ ((leb (souls m (opp c)) 8 and (half_at m c (m s) false s q and not (special c (m s) s q))) or (special c (m s) s q and strict_for p (at q 0 false))))
        → ((q : ℕ) → q < 64 → has w.taking q ≡ half_at m c (m s) true s q)
        → ((q : ℕ) → q < 64 → has w.marked q ≡ (leb (souls m (opp c)) 8 and raised_at m c (m s) false s q))
        → ((q : ℕ) → q < 64 → has w.both q ≡ raised_at m c (m s) true s q)
        → ((u : ℕ) → u < 64 → has w.men u ≡ comes_back m (opp c) s u)
        → Exact p s w
    exact_open w plain taking marked both men = record { told = tell }
      where
        by_mark : (q u : ℕ) (mark : Bool) → q < 64 → u < 6 → (u ≡ 0 → ⊥) → strict_for p (at q u mark) ≡ (has (cond mark w.both w.taking) q and has w.men u)
        by_mark q u true hq hu n = both_told q u hq hu n ∙ sym (ap₂ ◌and◌ (both q hq) (men u (omega arith)))
        by_mark q u false hq hu n = taking_told q u hq hu n ∙ sym (ap₂ ◌and◌ (taking q hq) (men u (omega arith)))

        none_by_mark : (q : ℕ) (mark : Bool) → q < 64 → strict_for p (at q 0 mark) ≡ has (cond mark w.marked w.plain) q
        none_by_mark q true hq = marked_told q hq ∙ sym (marked q hq)
        none_by_mark q false hq = plain_told q hq ∙ sym (plain q hq)

        tell : (q u : ℕ) (mark : Bool) → q < 64 → u < 6 → strict_for p (at q u mark) ≡ holds_at w q u mark
        tell q zero mark hq hu = none_by_mark q mark hq ∙ sym (holds_none w q mark)
        tell q (suc u) mark hq hu = by_mark q (suc u) mark hq hu (λ z. absurd (omega arith)) ∙ sym (holds_some w q (suc u) mark (λ z. absurd (omega arith)))

  -- where it names a square, only those that un-make itself is asked about
  pub exact_named : agrees p.state None ≡ false → {told : ℕ} → ((q : ℕ) → q < 64 → has told q ≡ (special c (m s) s q and strict_for p (at q 0 false))) → Exact p s (only_plain told)
  exact_named shut {told} is = record { told = tell }
    where
      plain : (q : ℕ) → q < 64 → strict_for p (at q 0 false) ≡ has told q
      plain q hq = bool_ext _ _ (λ h. is q hq ∙ both (asked h (cases (special c (m s) s q))) h) (λ h. right _ _ (sym (is q hq) ∙ h))
        where
          asked : strict_for p (at q 0 false) ≡ true → (special c (m s) s q ≡ true) ⊎ (special c (m s) s q ≡ false) → special c (m s) s q ≡ true
          asked h (inl e) = e
          asked h (inr e) = absurd (false≢true (sym shut ∙ (simply_so p s q 0 false ok hs hq (omega arith) h (λ z y. e)).openly))

      never : (q u : ℕ) (mark : Bool) → q < 64 → u < 6 → (u ≡ 0 → mark ≡ false → ⊥) → strict_for p (at q u mark) ≡ false
      never q u mark hq hu n = go (strict_for p (at q u mark)) refl
        where
          go : (b : Bool) → strict_for p (at q u mark) ≡ b → b ≡ false
          go false e = refl
          go true e = absurd (false≢true (sym shut ∙ (simply_so p s q u mark ok hs hq hu e (λ z y. absurd (n z y))).openly))

      tell : (q u : ℕ) (mark : Bool) → q < 64 → u < 6 → strict_for p (at q u mark) ≡ holds_at (only_plain told) q u mark
      tell q zero false hq hu = plain q hq ∙ sym (holds_none (only_plain told) q false)
      tell q zero true hq hu = never q 0 true hq hu (λ z y. false≢true (sym y)) ∙ sym (holds_none (only_plain told) q true ∙ has_zero q)
      tell q (suc u) mark hq hu = never q (suc u) mark hq hu (λ z y. absurd (omega arith)) ∙ sym (holds_some (only_plain told) q (suc u) mark (λ z. absurd (omega arith)) ∙ empty_holds mark q (suc u))

-- a source without a man of the retractor, or one that a right holds, has none
pub exact_none : (p : Pos) (s : ℕ) → (is_of (retractor p) (p.men s) and not (held p.rights (retractor p) s)) ≡ false → Exact p s (only_plain 0)
unfolding holds_at ◌and◌
exact_none p s e = record { told = λ q u mark hq hu. never q u mark ∙ sym (ap (λ (n : ℕ). has n q and (eqb u 0 or has 0 u)) (chosen_none (eqb u 0) mark) ∙ ap (λ (b : Bool). b and (eqb u 0 or has 0 u)) (has_zero q)) }
  where
    chosen_none : (a b : Bool) → ◌≡◌ {A = ℕ} (cond a (cond b 0 0) (cond b 0 0)) 0
    chosen_none true true = refl
    chosen_none true false = refl
    chosen_none false true = refl
    chosen_none false false = refl

    never : (q u : ℕ) (mark : Bool) → strict_for p (record { source = s; target = q; uncaptured = u; unpromotion = mark }) ≡ false
    never q u mark = go (strict_for p (record { source = s; target = q; uncaptured = u; unpromotion = mark })) refl
      where
        go : (b : Bool) → strict_for p (record { source = s; target = q; uncaptured = u; unpromotion = mark }) ≡ b → b ≡ false
        go false z = refl
        go true z = absurd (false≢true (sym e ∙ both b.can.mine b.can.not_held))
          where
            b : Back p (record { source = s; target = q; uncaptured = u; unpromotion = mark })
            b = back p (record { source = s; target = q; uncaptured = u; unpromotion = mark }) (strict_can p (record { source = s; target = q; uncaptured = u; unpromotion = mark }) z)
