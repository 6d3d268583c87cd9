-- The search of one source: from a place to the next one of its target, and from a target to the next.
use mathlib.Core.Path.{◌≡◌, refl, sym, ap, ◌∙◌, subst}
use mathlib.Core.Logic.{◌⊎◌, inl, inr, ⊎_elim}
use mathlib.Core.Bool.{Bool, true, false, cond, true≢false}
use Prim.Native.Nat.{ℕ, ◌+◌, ◌-◌, ◌*◌, ◌/◌, ◌%◌, ◌^◌, ◌≤◌, ◌<◌}
use native.Mathlib.Nat.{div-le_self, le_refl, lt_of_le_of_lt}
use native.Mathlib.Omega.{arith}
use lib.Dec.{eqb}
use lib.Bits.{bit_or}
use borrow.Author.Tests.{lt-ltb}
use Rattle.squares.specs.Tests.{◌and◌, ◌or◌}
use Rattle.squares.specs.Squares.{odd, has, up_to, count_to}
use Rattle.squares.specs.Members.{lowest_of}
use Rattle.strict_sets.specs.declared.Targets.{Targets}
use Rattle.strict_sets.specs.inner.Sets.{holds_at}
use Rattle.strict_search.specs.inner.Searching.{holds_in, end_of, Skips, FirstIn, Jumps}
use Rattle.squares.proofs.Testing.{order, known}
use Rattle.squares.proofs.Digits.{has_or, has_zero, has_shr}
use Rattle.squares.proofs.Comprehension.{has_up_to, up_to_lt, member_below}
use Rattle.squares.proofs.Counting.{count_empty}
use Rattle.squares.proofs.Members.{least_of}
use Rattle.strict_search.proofs.Skipping.{skips_both}
use Rattle.strict_search.proofs.Twelve.{nth, place_is}

-- below the lowest member there is none, also where there is no member at all
under_lowest : (s n : ℕ) → s < 2 ^ 64 → n ≡ lowest_of s → (k : ℕ) → k < n → has s k ≡ false
under_lowest s n fits e k l = ⊎_elim (λ p. ((least_of fits e).some p).1.least k l) none (order 0 s)
  where
    none : s ≤ 0 → has s k ≡ false
    none p = let z : s ≡ 0 = omega arith in ap (λ (x : ℕ). has x k) z ∙ has_zero k

shifted_lt : (s n : ℕ) → s < 2 ^ 64 → s / 2 ^ n < 2 ^ 64
shifted_lt s n h = lt_of_le_of_lt (div-le_self s (2 ^ n)) h

-- n is the lowest of the members above the target of i, counted from there
module _ (set i n : ℕ) (fits : set < 2 ^ 64) (h : i < 49152) (e : n ≡ lowest_of (set / 2 ^ (i / 12 % 64) / 2 ^ 1)) where
  between : (k : ℕ) → (i / 12 + 1) * 12 ≤ k → k < end_of i → k / 12 < i / 12 + 1 + n → has set (k / 12 % 64) ≡ false
  between k l m d =
      ap (has set) (target l m) ∙ sym (has_shr (set / 2 ^ (i / 12 % 64)) 1 (k / 12 - (i / 12 + 1)) ∙ has_shr set (i / 12 % 64) (1 + (k / 12 - (i / 12 + 1))))
      ∙ under_lowest _ n (shifted_lt _ 1 (shifted_lt set (i / 12 % 64) fits)) e (k / 12 - (i / 12 + 1)) (omega arith)
    where
      target : (i / 12 + 1) * 12 ≤ k → k < end_of i → k / 12 % 64 ≡ i / 12 % 64 + (1 + (k / 12 - (i / 12 + 1)))
      target l m = omega arith

  pub jumped : i / 12 % 64 + n < 63 → Jumps set i ((i / 12 + n + 1) * 12)
  jumped l = record { on = omega arith; near = omega arith; none = λ k a b. between k a (omega arith) (omega arith) }

  pub ended : 63 ≤ i / 12 % 64 + n → Jumps set i (end_of i)
  ended l = record { on = omega arith; near = le_refl (end_of i); none = λ k a b. between k a b (omega arith) }

-- neither of two
out_left : (a b : Bool) → (a or b) ≡ false → a ≡ false
unfolding ◌or◌
out_left true b e = e
out_left false b e = refl

out_right : (a : Bool) {b : Bool} → (a or b) ≡ false → b ≡ false
unfolding ◌or◌
out_right true e = absurd (true≢false e)
out_right false e = e

-- the targets of a source, and one that is none of them
abbrev pub reached : Targets → ℕ
reached w = bit_or (bit_or (bit_or w.plain w.taking) w.marked) w.both

outside : (w : Targets) (i : ℕ) → has (reached w) (i / 12 % 64) ≡ false → holds_in w i ≡ false
unfolding holds_in holds_at ◌and◌
outside w i h = ap (λ (t : Bool). t and (eqb (i / 2 % 6) 0 or has w.men (i / 2 % 6))) (go (eqb (i / 2 % 6) 0) (odd i) (sym (parts q) ∙ h))
  where
    q : ℕ
    q = i / 12 % 64

    parts : (q : ℕ) → has (reached w) q ≡ (has w.plain q or has w.taking q or has w.marked q or has w.both q)
    parts q = has_or _ _ q ∙ ap (λ (t : Bool). t or has w.both q) (has_or _ _ q ∙ ap (λ (t : Bool). t or has w.marked q) (has_or w.plain w.taking q))

    go : (z mark : Bool) → (has w.plain q or has w.taking q or has w.marked q or has w.both q) ≡ false
        → has (cond z (cond mark w.marked w.plain) (cond mark w.both w.taking)) q ≡ false
    go true true e = out_right _ (out_left _ _ e)
    go true false e = out_left _ _ (out_left _ _ (out_left _ _ e))
    go false true e = out_right _ e
    go false false e = out_right _ (out_left _ _ (out_left _ _ e))

-- no target at all
none_held : (w : Targets) (i : ℕ) → reached w ≡ 0 → holds_in w i ≡ false
none_held w i z = outside w i (ap (λ (x : ℕ). has x (i / 12 % 64)) z ∙ has_zero (i / 12 % 64))

pub count_none : (w : Targets) → reached w ≡ 0 → 0 ≡ count_to 768 (holds_in w)
count_none w z = sym (count_empty 768 (holds_in w) (λ k l. none_held w k z))

pub no_targets : (w : Targets) (i : ℕ) → i < 49152 → reached w ≡ 0 → FirstIn (holds_in w) i (end_of i)
no_targets w i h z = record {
  skips = record { on = omega arith; most = omega arith; none = λ k a b. none_held w k z };
  near = le_refl (end_of i);
  there = λ l. absurd (omega arith);
}

-- at the place j: what the twelve of its target have from there on
module _ (w : Targets) (j all : ℕ) (e : all ≡ up_to 12 (nth w (j / 12 % 64))) where
  ahead : (d : ℕ) → j % 12 + d < 12 → has (all / 2 ^ (j % 12)) d ≡ holds_in w (j + d)
  ahead d h =
      has_shr all (j % 12) d ∙ ap (λ (x : ℕ). has x (j % 12 + d)) e ∙ has_up_to 12 (nth w (j / 12 % 64)) (j % 12 + d)
      ∙ known _ (lt-ltb (j % 12 + d) 12 h) ∙ sym (place_is w (j / 12) (j % 12 + d) h) ∙ ap (holds_in w) (omega arith)

  from_here : (n : ℕ) → ((d : ℕ) → d < n → has (all / 2 ^ (j % 12)) d ≡ false) → (k : ℕ) → j ≤ k → k < (j / 12 + 1) * 12 → k < j + n → holds_in w k ≡ false
  from_here n h k l m b = ap (holds_in w) (there l) ∙ sym (ahead (k - j) (omega arith)) ∙ h (k - j) (omega arith)
    where
      there : j ≤ k → k ≡ j + (k - j)
      there l = omega arith

  -- the search of the source of i has come to j
  module _ (i : ℕ) (h : i < 49152) (s : Skips (holds_in w) i j) (l : j < end_of i) where
    low : all / 2 ^ (j % 12) < 2 ^ 64
    low = omega (arith, div-le_self all (2 ^ (j % 12)), up_to_lt 12 (nth w (j / 12 % 64)))

    pub found : (n : ℕ) → (all / 2 ^ (j % 12) ≡ 0 → ⊥) → n ≡ lowest_of (all / 2 ^ (j % 12)) → FirstIn (holds_in w) i (j + n)
    found n p m =
        let b = (least_of low m).some (omega arith) in
        let d : j % 12 + n < 12 = near b.1.member in
        record {
          skips = skips_both (holds_in w) i j (j + n) s (record {
            on = omega arith;
            most = omega arith;
            none = λ k a c. from_here n b.1.least k a (omega arith) c;
          });
          near = omega arith;
          there = λ _. sym (ahead n d) ∙ b.1.member;
        }
      where
        near : has (all / 2 ^ (j % 12)) n ≡ true → j % 12 + n < 12
        near y =
            member_below (j % 12 + n) (up_to_lt 12 (nth w (j / 12 % 64)))
            (ap (λ (x : ℕ). has x (j % 12 + n)) (sym e) ∙ sym (has_shr all (j % 12) n) ∙ y)

    pub passed : (k : ℕ) → all / 2 ^ (j % 12) ≡ 0 → Jumps (reached w) j k → Skips (holds_in w) i k × (k ≤ end_of i)
    passed k z x = (
      skips_both (holds_in w) i j k s (record { on = omega (arith, x.on); most = omega (arith, x.near); none = λ n a b. go n a b (order n ((j / 12 + 1) * 12)) }),
      omega (arith, x.near, s.on),
    )
      where
        go : (n : ℕ) → j ≤ n → n < k → (n < (j / 12 + 1) * 12) ⊎ ((j / 12 + 1) * 12 ≤ n) → holds_in w n ≡ false
        go n a b (inl c) = from_here 12 (λ d m. ap (λ (y : ℕ). has y d) z ∙ has_zero d) n a c (omega arith)
        go n a b (inr c) = outside w n (x.none n c b)

pub at_end : (w : Targets) (i j : ℕ) → Skips (holds_in w) i j → j ≤ end_of i → end_of i ≤ j → FirstIn (holds_in w) i (end_of i)
at_end w i j s a b = record { skips = subst (Skips (holds_in w) i) (both a b) s; near = le_refl (end_of i); there = λ l. absurd (omega arith) }
  where
    both : j ≤ end_of i → end_of i ≤ j → j ≡ end_of i
    both a b = omega arith
