-- The man that stands alone between two squares, by the count of the men between.
use mathlib.Core.Path.{◌≡◌, refl, sym, ap, ap₂, ◌∙◌}
use mathlib.Core.Bool.{Bool, true, false, not}
use Prim.Native.Nat.{ℕ, ◌<◌, ◌^◌}
use native.Mathlib.Nat.{lt_of_le_of_lt}
use lib.Dec.{eqb}
use lib.Bits.{bit_and, and_le_l}
use lib.Pow.{pow_pos}
use Rattle.squares.specs.Tests.{◌and◌, ◌or◌}
use Rattle.squares.specs.Squares.{has, set_of, size, every_square}
use Rattle.geometry.specs.Lines.{between, between_of}
use Rattle.laws.specs.Men.{Men, is_empty}
use Rattle.laws.specs.Attacks.{union_of, alone}
use Rattle.squares.proofs.Testing.{agree, agree_eq}
use Rattle.squares.proofs.Digits.{has_and, has_zero}
use Rattle.squares.proofs.Comprehension.{is_up_to, has_set_of}
use Rattle.squares.proofs.Every.{all_cong}
use Rattle.squares.proofs.Singles.{others, only_member}
use Rattle.tables.proofs.BetweenRule.{between_lt, between_has}
use Rattle.laws.proofs.Cases.{by_cases}

others_law : (b e x : Bool) → (not b or e or x) ≡ (not (b and not x) or e)
unfolding ◌and◌ ◌or◌
others_law b e x = agree_eq (not b or e or x) (not (b and not x) or e) (by_cases 3 (λ b e x. agree (not b or e or x) (not (b and not x) or e)) refl b e x)

alone_law : (b x o : Bool) → (not x and b and o) ≡ ((b and not x) and o)
unfolding ◌and◌
alone_law b x o = agree_eq (not x and b and o) ((b and not x) and o) (by_cases 3 (λ b x o. agree (not x and b and o) ((b and not x) and o)) refl b x o)

module _ (m : Men) (a q : ℕ) where
  -- the men between
  abbrev pub mid : ℕ
  mid = bit_and (between_of a q) (union_of m)

  mid_lt : mid < 2 ^ 64
  mid_lt = lt_of_le_of_lt (and_le_l (between_of a q) (union_of m)) (between_lt a q)

  has_mid : (k : ℕ) → k < 64 → has mid k ≡ (between a q k and not (is_empty (m k)))
  has_mid k l = has_and (between_of a q) (union_of m) k ∙ ap₂ ◌and◌ (between_has a q k l) (has_set_of (λ j. not (is_empty (m j))) k l)

  pub alone_at : (k : ℕ) → k < 64 → alone m a q k ≡ (eqb (size mid) 1 and has mid k)
  alone_at k l =
      ap (λ (t : Bool). not (is_empty (m k)) and between a q k and t)
      (all_cong 64 (λ j. not (between a q j) or eqb j k or is_empty (m j)) (others mid k)
      (λ j lj. others_law (between a q j) (eqb j k) (is_empty (m j)) ∙ ap (λ (t : Bool). not t or eqb j k) (sym (has_mid j lj))))
      ∙ alone_law (between a q k) (is_empty (m k)) (every_square (others mid k))
      ∙ ap (λ (t : Bool). t and every_square (others mid k)) (sym (has_mid k l))
      ∙ only_member mid k mid_lt

  pub one_between : eqb (size mid) 1 ≡ true → mid ≡ set_of (alone m a q)
  unfolding ◌and◌
  one_between e = is_up_to 64 mid (alone m a q) mid_lt (λ k l. sym (alone_at k l ∙ ap (λ (t : Bool). t and has mid k) e))

  pub not_one_between : eqb (size mid) 1 ≡ false → 0 ≡ set_of (alone m a q)
  unfolding ◌and◌
  not_one_between e = is_up_to 64 0 (alone m a q) (pow_pos 64) (λ k l. has_zero k ∙ sym (alone_at k l ∙ ap (λ (t : Bool). t and has mid k) e))
