-- A man of c on an empty square: the king is attacked where the set `exposedAt` says, and what the source holds matters only by being there.
use mathlib.Core.Path.{◌≡◌, refl, sym, ap, ap₂, ◌∙◌, fun_ext}
use mathlib.Core.Logic.{⊎_elim, ◌≢◌}
use mathlib.Core.Bool.{Bool, true, false, not, cond, false≢true, not-not}
use Prim.Native.Nat.{ℕ, ◌<◌}
use lib.Dec.{eqb}
use borrow.Author.Tests.{eqb-true, eqb-false}
use Rattle.squares.specs.Tests.{◌and◌, ◌or◌}
use Rattle.squares.specs.Squares.{has, set_of, some_square, united}
use Rattle.geometry.specs.declared.Color.{Color}
use Rattle.geometry.specs.declared.Color.TheVariants.{White, Black}
use Rattle.geometry.specs.Colors.{opp}
use Rattle.geometry.specs.Lines.{between, straight, diagonal, aligned, clear}
use Rattle.laws.specs.declared.Piece.TheVariants.{Pawn, Knight, Bishop, Rook, Queen, King}
use Rattle.laws.specs.Men.{Man, empty, man, Men, is_empty, is_of, same_man, bare, put}
use Rattle.laws.specs.Attacks.{attacks, attacks_from, attacked, attackers_of}
use Rattle.laws.specs.Acceptance.{quiet}
use Rattle.pins.specs.inner.Kings.{TheKing}
use Rattle.exposure.specs.inner.Exposing.{exposed_at}
use Rattle.squares.proofs.Testing.{both, left, right, either, or_left, or_right, or_false, and_yes, and_group, known, absorbs, bool_ext}
use Rattle.squares.proofs.Comprehension.{has_set_of, up_to_cong}
use Rattle.squares.proofs.Every.{all_at, all_of, any_at, any_of}
use Rattle.laws.proofs.Puts.{put_at, put_off}
use Rattle.laws.proofs.Mans.{same, one_colour}
use Rattle.pins.proofs.OneKing.{quiet_is}
use Rattle.exposure.proofs.Near.{not_start, knight_near, king_near, pawn_near}

-- a test that is known to fail, before another
lost : {a : Bool} (b : Bool) → a ≡ false → (a and b) ≡ false
unfolding ◌and◌
lost b e = ap (λ (t : Bool). t and b) e

-- two tests that differ at most on q, where the second fails
some_but : (f g : ℕ → Bool) (q : ℕ) → q < 64 → ((a : ℕ) → a < 64 → a ≢ q → f a ≡ g a) → g q ≡ false → some_square f ≡ (f q or some_square g)
some_but f g q l e z = bool_ext (some_square f) (f q or some_square g) to from
  where
    to : some_square f ≡ true → (f q or some_square g) ≡ true
    to h = go (any_at 64 f h)
      where
        go : (a : ℕ) × (a < 64) × (f a ≡ true) → (f q or some_square g) ≡ true
        go w = pick (eqb w.0 q) refl
          where
            pick : (t : Bool) → eqb w.0 q ≡ t → (f q or some_square g) ≡ true
            pick true p = or_left (some_square g) (ap f (sym (eqb-true w.0 q p)) ∙ w.2)
            pick false p = or_right (f q) (any_of 64 g w.0 w.1 (sym (e w.0 w.1 (eqb-false w.0 q p)) ∙ w.2))

    from : (f q or some_square g) ≡ true → some_square f ≡ true
    from h = ⊎_elim (λ p. any_of 64 f q l p) (λ p. back (any_at 64 g p)) (either _ _ h)
      where
        back : (a : ℕ) × (a < 64) × (g a ≡ true) → some_square f ≡ true
        back w = any_of 64 f w.0 w.1 (e w.0 w.1 (λ p. false≢true (sym z ∙ ap g (sym p) ∙ w.2)) ∙ w.2)

module _ (n : Men) (q : ℕ) (x : Man) (lq : q < 64) (bare_there : n q ≡ empty) (some : is_empty x ≡ false) where
  -- a man more on a way shuts it
  clear_put : (a b : ℕ) → clear (bare (put q x n)) a b ≡ (clear (bare n) a b and not (between a b q))
  unfolding clear
  clear_put a b = bool_ext _ _ to from
    where
      to : clear (bare (put q x n)) a b ≡ true → (clear (bare n) a b and not (between a b q)) ≡ true
      to h = both (all_of 64 (λ k. not (between a b k) or bare n k) (λ k l. without k l (eqb k q) refl)) here
        where
          at : (k : ℕ) → k < 64 → (not (between a b k) or bare (put q x n) k) ≡ true
          at = all_at 64 (λ k. not (between a b k) or bare (put q x n) k) h

          here : not (between a b q) ≡ true
          here = sym (or_false _) ∙ ap (λ (t : Bool). not (between a b q) or t) (sym (ap is_empty (put_at q x n) ∙ some)) ∙ at q lq

          without : (k : ℕ) → k < 64 → (t : Bool) → eqb k q ≡ t → (not (between a b k) or bare n k) ≡ true
          without k l true e = or_right _ (ap (bare n) (eqb-true k q e) ∙ ap is_empty bare_there)
          without k l false e = ap (λ (v : Man). not (between a b k) or is_empty v) (sym (put_off q x n k (eqb-false k q e))) ∙ at k l

      from : (clear (bare n) a b and not (between a b q)) ≡ true → clear (bare (put q x n)) a b ≡ true
      from h = all_of 64 (λ k. not (between a b k) or bare (put q x n) k) (λ k l. with_it k l (eqb k q) refl)
        where
          with_it : (k : ℕ) → k < 64 → (t : Bool) → eqb k q ≡ t → (not (between a b k) or bare (put q x n) k) ≡ true
          with_it k l true e = or_left _ (ap (λ (j : ℕ). not (between a b j)) (eqb-true k q e) ∙ right _ _ h)
          with_it k l false e =
              ap (λ (v : Man). not (between a b k) or is_empty v) (put_off q x n k (eqb-false k q e)) ∙ all_at 64 (λ j. not (between a b j) or bare n j) (left _ _ h) k l

  -- an attack goes on where the man does not stand in its way
  attacks_put : (y : Man) (a b : ℕ) → a < 64 → b < 64 → attacks (put q x n) y a b ≡ (attacks n y a b and not (between a b q))
  attacks_put empty a b la lb = sym (lost _ refl)
  attacks_put (man c Pawn) a b la lb = sym (absorbs _ _ (λ e. ap not (pawn_near c a b q la lb lq e)))
  attacks_put (man c Knight) a b la lb = sym (absorbs _ _ (λ e. ap not (knight_near a b q la lb lq e)))
  attacks_put (man c Bishop) a b la lb = ap (λ (t : Bool). diagonal a b and t) (clear_put a b) ∙ sym (and_group _ _ _)
  attacks_put (man c Rook) a b la lb = ap (λ (t : Bool). straight a b and t) (clear_put a b) ∙ sym (and_group _ _ _)
  attacks_put (man c Queen) a b la lb = ap (λ (t : Bool). aligned a b and t) (clear_put a b) ∙ sym (and_group _ _ _)
  attacks_put (man c King) a b la lb = sym (absorbs _ _ (λ e. ap not (king_near a b q la lb lq e)))

not_empty : (c : Color) (x : Man) → is_of c x ≡ true → is_empty x ≡ false
not_empty c empty e = absurd (false≢true e)
not_empty c (man d j) e = refl

pub attacked_by : (n : Men) (c : Color) (k q : ℕ) (x : Man) → k < 64 → q < 64 → n q ≡ empty → is_of c x ≡ true → attacked (put q x n) c k ≡ exposed_at n c x k q
unfolding exposed_at united attackers_of
attacked_by n c k q x lk lq z own = some_but (attacks_from (put q x n) c k) still q lq others none ∙ ap (λ (t : Bool). t or some_square still) itself
  where
    still : ℕ → Bool
    still a = has (set_of (attacks_from n c k)) a and not (between a k q)

    seen : (y : Man) (a : ℕ) → a < 64 → attacks (put q x n) y a k ≡ (attacks n y a k and not (between a k q))
    seen y a l = attacks_put n q x lq z (not_empty c x own) y a k l lk

    others : (a : ℕ) → a < 64 → a ≢ q → attacks_from (put q x n) c k a ≡ still a
    others a l ne =
        ap (λ (v : Man). is_of c v and attacks (put q x n) v a k) (put_off q x n a ne)
        ∙ ap (λ (t : Bool). is_of c (n a) and t) (seen (n a) a l)
        ∙ sym (and_group _ _ _)
        ∙ ap (λ (t : Bool). t and not (between a k q)) (sym (has_set_of (attacks_from n c k) a l))

    none : still q ≡ false
    none = lost _ (has_set_of (attacks_from n c k) q lq ∙ lost _ (ap (is_of c) z))

    itself : attacks_from (put q x n) c k q ≡ attacks n x q k
    itself =
        ap (λ (v : Man). is_of c v and attacks (put q x n) v q k) (put_at q x n)
        ∙ known _ own
        ∙ seen x q lq
        ∙ and_yes _ (ap not (not_start q k lq lk))

-- the other side's king stays the only one
not_king : (c : Color) (x : Man) → is_of c x ≡ true → same_man x (man (opp c) King) ≡ false
not_king c x e = go (same_man x (man (opp c) King)) refl
  where
    go : (t : Bool) → same_man x (man (opp c) King) ≡ t → t ≡ false
    go true h = absurd (false≢true (sym (one_colour c King) ∙ ap (is_of c) (sym (same x (man (opp c) King) h)) ∙ e))
    go false h = refl

no_king : (c : Color) → same_man empty (man c King) ≡ false
no_king White = refl
no_king Black = refl

king_stays : (n : Men) (c : Color) (k q : ℕ) (x : Man) → TheKing n (opp c) k → q < 64 → n q ≡ empty → is_of c x ≡ true → TheKing (put q x n) (opp c) k
king_stays n c k q x king lq z own = record { here = king.here; only = λ a l. go a l (eqb a q) refl }
  where
    go : (a : ℕ) → a < 64 → (t : Bool) → eqb a q ≡ t → same_man (cond t x (n a)) (man (opp c) King) ≡ eqb a k
    go a l true e =
        not_king c x own ∙ sym (no_king (opp c))
        ∙ ap (λ (v : Man). same_man v (man (opp c) King)) (sym (ap n (eqb-true a q e) ∙ z)) ∙ king.only a l
    go a l false e = king.only a l

pub quiet_by : (n : Men) (c : Color) (k q : ℕ) (x : Man) → TheKing n (opp c) k → q < 64 → n q ≡ empty → is_of c x ≡ true → quiet (put q x n) c ≡ not (exposed_at n c x k q)
quiet_by n c k q x king lq z own =
    sym (not-not (quiet (put q x n) c))
    ∙ ap not (sym (quiet_is (put q x n) c k (king_stays n c k q x king lq z own)) ∙ attacked_by n c k q x king.here lq z own)

-- attacks see of the men between only that they are there
attacks_bare : (m n : Men) (v : Man) (a b : ℕ) → bare m ≡ bare n → attacks m v a b ≡ attacks n v a b
attacks_bare m n empty a b e = refl
attacks_bare m n (man c Pawn) a b e = refl
attacks_bare m n (man c Knight) a b e = refl
attacks_bare m n (man c Bishop) a b e = ap (λ (f : ℕ → Bool). diagonal a b and clear f a b) e
attacks_bare m n (man c Rook) a b e = ap (λ (f : ℕ → Bool). straight a b and clear f a b) e
attacks_bare m n (man c Queen) a b e = ap (λ (f : ℕ → Bool). aligned a b and clear f a b) e
attacks_bare m n (man c King) a b e = refl

pub exposed_same : (m : Men) (c : Color) (s : ℕ) (y z x : Man) (k q : ℕ) → is_empty y ≡ is_empty z → is_of c y ≡ false → is_of c z ≡ false
    → exposed_at (put s y m) c x k q ≡ exposed_at (put s z m) c x k q
unfolding exposed_at attackers_of
exposed_same m c s y z x k q e ny nz =
    ap₂ (λ (t : Bool) (w : ℕ). t or united (λ a j. not (between a k j)) w q) (attacks_bare (put s y m) (put s z m) x q k there)
    (up_to_cong 64 (attacks_from (put s y m) c k) (attacks_from (put s z m) c k) (λ a l. go a (eqb a s)))
  where
    filled : (t : Bool) (v : Man) → is_empty (cond t y v) ≡ is_empty (cond t z v)
    filled true v = e
    filled false v = refl

    there : bare (put s y m) ≡ bare (put s z m)
    there = fun_ext λ j. filled (eqb j s) (m j)

    go : (a : ℕ) (t : Bool) → (is_of c (cond t y (m a)) and attacks (put s y m) (cond t y (m a)) a k) ≡ (is_of c (cond t z (m a)) and attacks (put s z m) (cond t z (m a)) a k)
    go a true = lost _ ny ∙ sym (lost _ nz)
    go a false = ap (λ (t : Bool). is_of c (m a) and t) (attacks_bare (put s y m) (put s z m) (m a) a k there)
