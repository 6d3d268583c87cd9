-- Edits compose: clean arrays stay clean, and the men are those of the Laws' `put`, one after the other.
use mathlib.Core.Path.{◌≡◌, refl, sym, ap, ◌∙◌, subst}
use Prim.Native.Nat.{ℕ, zero, suc, ◌≤◌, ◌<◌}
use native.Mathlib.Omega.{arith}
use Rattle.geometry.specs.declared.Color.{Color}
use Rattle.laws.specs.Men.{Man, Men, man_number, man_of, numbered, put}
use Rattle.laws.specs.Positions.{Pos}
use Rattle.laws.specs.Boards.{kind_sets, color_sets, Clean, men_in, pos_at}
use Rattle.laws.specs.declared.Position.{Position}
use Rattle.position.specs.Answers.{position_of}
use Rattle.position.specs.inner.Edits.{with_men, man_with}
use Rattle.laws.proofs.Puts.{off}
use Rattle.laws.proofs.ManSets.{OnBoard, men_on, men_shown}
use Rattle.laws.proofs.BoardPasts.{pos_shown}
use Rattle.position.proofs.Editing.{is_man}

-- arrays of the sets of men are clean
sets_clean : (m : Men) → OnBoard m → Clean (kind_sets m) (color_sets m)
sets_clean m on = record { kinds = ap kind_sets (sym (men_shown m on)); colours = ap color_sets (sym (men_shown m on)) }

pub put_on : (k : ℕ) (x : Man) (m : Men) → k < 64 → OnBoard m → OnBoard (put k x m)
put_on k x m h o j l = off k x j (λ e. apart e) (o j l)
  where
    apart : j ≡ k → ⊥
    apart e = omega arith

module _ (p : Position) where
  -- a clean position is that of its own men
  pub with_own : Clean p.pieces p.colors → p ≡ with_men p (men_in p)
  unfolding with_men
  with_own ok = λ i. record { pieces = ok.kinds i; colors = ok.colours i; turn = p.turn; white = p.white; black = p.black; passant = p.passant; terms = p.terms }

  module _ (q : Position) (m : Men) (e : q ≡ with_men p m) (on : OnBoard m) where
    pub then_clean : Clean q.pieces q.colors
    unfolding with_men
    then_clean = subst (λ (z : Position). Clean z.pieces z.colors) (sym e) (sets_clean m on)

    pub then_men : men_in q ≡ m
    unfolding with_men
    then_men = ap men_in e ∙ men_shown m on

    pub then_do : (f : Men → Men) {r : Position} → r ≡ with_men q (f (men_in q)) → r ≡ with_men p (f m)
    unfolding with_men
    then_do f h = h ∙ (λ i. with_men (e i) (f (then_men i)))

  -- a man put on a square, told by their numbers
  pub puts : (k : ℕ) (x : Man) {r : Position} {q n : ℕ} → r ≡ with_men p (put q (man_of n) (men_in p)) → q ≡ k → n ≡ man_number x → r ≡ with_men p (put k x (men_in p))
  puts k x h e f = h ∙ (λ i. with_men p (put (e i) (is_man x f i) (men_in p)))

-- two changes of the men that keep them on the 64 squares, with a man put on the square a between them
pub record Keeps (f g : Men → Men) (a : ℕ) : Type 0 where
  pub first_on : (m : Men) → OnBoard m → OnBoard (f m)
  pub square_in : a < 64
  pub second_on : (m : Men) → OnBoard m → OnBoard (g m)

-- the four edits of a move: the first change, a man on a, the second change, a man on b
module _ {f g : Men → Men} {a : ℕ} (k : Keeps f g a) where
  pub four_on : (b : ℕ) (x y : Man) (m : Men) → b < 64 → OnBoard m → OnBoard (put b y (g (put a x (f m))))
  four_on b x y m h on = put_on b y _ h (k.second_on _ (put_on a x _ k.square_in (k.first_on m on)))

  module _ (p : Position) {q₁ : Position} (e₁ : q₁ ≡ with_men p (f (men_in p))) where
    on₁ : OnBoard (f (men_in p))
    on₁ = k.first_on (men_in p) (men_on p.pieces p.colors)

    pub once_clean : Clean q₁.pieces q₁.colors
    once_clean = then_clean p q₁ (f (men_in p)) e₁ on₁

    module _ (x : Man) {q₂ : Position} (e₂ : q₂ ≡ with_men q₁ (put a x (men_in q₁))) where
      abbrev m₂ : Men
      m₂ = put a x (f (men_in p))

      on₂ : OnBoard m₂
      on₂ = put_on a x _ k.square_in on₁

      twice : q₂ ≡ with_men p m₂
      twice = then_do p q₁ (f (men_in p)) e₁ on₁ (put a x) e₂

      pub twice_clean : Clean q₂.pieces q₂.colors
      twice_clean = then_clean p q₂ m₂ twice on₂

      module _ {q₃ : Position} (e₃ : q₃ ≡ with_men q₂ (g (men_in q₂))) where
        thrice : q₃ ≡ with_men p (g m₂)
        thrice = then_do p q₂ m₂ twice on₂ g e₃

        pub thrice_clean : Clean q₃.pieces q₃.colors
        thrice_clean = then_clean p q₃ (g m₂) thrice (k.second_on m₂ on₂)

        pub four : (b : ℕ) (y : Man) {q : Position} → q ≡ with_men q₃ (put b y (men_in q₃)) → q ≡ with_men p (put b y (g m₂))
        four b y e₄ = then_do p q₃ (g m₂) thrice (k.second_on m₂ on₂) (put b y) e₄

-- positions of the Laws
module _ (p : Pos) (on : OnBoard p.men) where
  pub position_shown : pos_at (position_of p) ≡ p
  unfolding position_of
  position_shown = pos_shown p on

  pub position_clean : Clean (position_of p).pieces (position_of p).colors
  unfolding position_of
  position_clean = sets_clean p.men on

-- the uncaptured man of the Laws
pub numbered_is : (c : Color) (u : ℕ) → u ≤ 5 → man_with c u ≡ numbered c u
numbered_is c zero h = refl
numbered_is c (suc zero) h = refl
numbered_is c (suc (suc zero)) h = refl
numbered_is c (suc (suc (suc zero))) h = refl
numbered_is c (suc (suc (suc (suc zero)))) h = refl
numbered_is c (suc (suc (suc (suc (suc zero))))) h = refl
numbered_is c (suc (suc (suc (suc (suc (suc n)))))) h = absurd (omega arith)
