-- Each number is given exactly under its condition, the earlier tests having passed; and no refusal is acceptance by the Laws.
use mathlib.Core.Path.{◌≡◌, refl, sym, ap, ap₂, ◌∙◌}
use mathlib.Core.Bool.{Bool, true, false, not}
use mathlib.Core.List.{[], ◌∷◌}
use Prim.Native.Nat.{ℕ}
use lib.Dec.{eqb}
use borrow.Author.Tests.{eqb-true}
use Rattle.squares.specs.Tests.{◌and◌}
use Rattle.laws.specs.declared.Position.{Position}
use Rattle.laws.specs.Men.{Men}
use Rattle.laws.specs.Positions.{Rights}
use Rattle.laws.specs.Acceptance.{kings_ok, pawns_ok, rights_ok, state_ok, quiet}
use Rattle.laws.specs.Boards.{men_ok, men_in, pos_at}
use Rattle.refusal.specs.declared.Refusal.TheVariants.{Men as men, Kings as kings, Pawn as pawn, Rights as rights, Passant as passant, Check as check}
use Rattle.refusal.specs.Refusals.{verdict_number, unless, and_then, Verdict, nothing_refused}
use Rattle.refusal.specs.Said.{◌else◌, first_failing}
use Rattle.accept.specs.Verdicts.{first_refused, third_of, five_of, judged_of, five_tests, raw_tests}
use Rattle.squares.proofs.Testing.{left, right, agree, agree_eq}
use Rattle.laws.proofs.Cases.{by_cases}
use Rattle.laws.proofs.Passes.{Passes}
use Rattle.refusal.proofs.Saying.{then_number, both_accept, test_passes}
use Rattle.std.specs.Prelude.{Err}

-- the number of the verdict of six tests
abbrev number_by : (a b d e f g : Bool) → ℕ
number_by a b d e f g = verdict_number (and_then (unless a men (unless b kings (first_refused (not d) (not e) (not f)))) (unless g check nothing_refused))

-- exactly when each number is given: the tests of 1 to 6 are a b d e f g
pub record Exactly (n : ℕ) (a b d e f g : Bool) : Type 0 where
  pub given0 : eqb n 0 ≡ (a and b and d and e and f and g)
  pub given1 : eqb n 1 ≡ not a
  pub given2 : eqb n 2 ≡ (a and not b)
  pub given3 : eqb n 3 ≡ (a and b and not d)
  pub given4 : eqb n 4 ≡ (a and b and d and not e)
  pub given5 : eqb n 5 ≡ (a and b and d and e and not f)
  pub given6 : eqb n 6 ≡ (a and b and d and e and f and not g)

exactly : (a b d e f g : Bool) → Exactly (number_by a b d e f g) a b d e f g
unfolding ◌and◌
exactly a b d e f g = record {
  given0 = agree_eq _ _ (by_cases 6 (λ a b d e f g. agree (eqb (number_by a b d e f g) 0) (a and b and d and e and f and g)) refl a b d e f g);
  given1 = agree_eq _ _ (by_cases 6 (λ a b d e f g. agree (eqb (number_by a b d e f g) 1) (not a)) refl a b d e f g);
  given2 = agree_eq _ _ (by_cases 6 (λ a b d e f g. agree (eqb (number_by a b d e f g) 2) (a and not b)) refl a b d e f g);
  given3 = agree_eq _ _ (by_cases 6 (λ a b d e f g. agree (eqb (number_by a b d e f g) 3) (a and b and not d)) refl a b d e f g);
  given4 = agree_eq _ _ (by_cases 6 (λ a b d e f g. agree (eqb (number_by a b d e f g) 4) (a and b and d and not e)) refl a b d e f g);
  given5 = agree_eq _ _ (by_cases 6 (λ a b d e f g. agree (eqb (number_by a b d e f g) 5) (a and b and d and e and not f)) refl a b d e f g);
  given6 = agree_eq _ _ (by_cases 6 (λ a b d e f g. agree (eqb (number_by a b d e f g) 6) (a and b and d and e and f and not g)) refl a b d e f g);
}

module _ (p : Position) where
  abbrev m : Men
  m = men_in p

  abbrev ρ : Rights
  ρ = (pos_at p).rights

  pub judged_exactly : Exactly (verdict_number (judged_of p)) (men_ok p.pieces p.colors) (kings_ok m) (pawns_ok m) (rights_ok m ρ) (state_ok p.terms.edition m p.turn p.passant) (quiet m p.turn)
  unfolding judged_of five_of third_of
  judged_exactly = exactly (men_ok p.pieces p.colors) (kings_ok m) (pawns_ok m) (rights_ok m ρ) (state_ok p.terms.edition m p.turn p.passant) (quiet m p.turn)

  abbrev five : Bool → Bool → Verdict
  five t u = unless t men (unless u kings (third_of p))

  pub is_men : men_ok p.pieces p.colors ≡ false → Err men ≡ five_of p
  unfolding five_of
  is_men e = ap (λ (t : Bool). five t (kings_ok m)) (sym e)

  pub is_kings : men_ok p.pieces p.colors ≡ true → kings_ok m ≡ false → Err kings ≡ five_of p
  unfolding five_of
  is_kings e f = ap₂ five (sym e) (sym f)

  pub is_third : men_ok p.pieces p.colors ≡ true → kings_ok m ≡ true → third_of p ≡ five_of p
  unfolding five_of
  is_third e f = ap₂ five (sym e) (sym f)

  -- nothing refused by 1 to 5
  pub record Five : Type 0 where
    pub men_pass : men_ok p.pieces p.colors ≡ true
    pub passes : Passes (pos_at p)

  five_all : five_of p ≡ nothing_refused → (men_ok p.pieces p.colors and kings_ok m and pawns_ok m and rights_ok m ρ and state_ok p.terms.edition m p.turn p.passant) ≡ true
  unfolding five_of third_of ◌and◌
  five_all h =
      sym (agree_eq _ _ (by_cases 5 (λ a b d e f. agree (eqb (verdict_number (unless a men (unless b kings (first_refused (not d) (not e) (not f))))) 0) (a and b and d and e and f)) refl
      (men_ok p.pieces p.colors) (kings_ok m) (pawns_ok m) (rights_ok m ρ) (state_ok p.terms.edition m p.turn p.passant)))
      ∙ ap (λ (v : Verdict). eqb (verdict_number v) 0) h

  pub five_passes : five_of p ≡ nothing_refused → Five
  five_passes h = let all = five_all h in record {
    men_pass = left _ _ (left _ _ (left _ _ (left _ _ all)));
    passes = record {
      kings = right _ _ (left _ _ (left _ _ (left _ _ all)));
      pawns = right _ _ (left _ _ (left _ _ all));
      rights = right _ _ (left _ _ all);
      state = right _ _ all;
    };
  }

  -- and back
  pub five_accepts : Five → five_of p ≡ nothing_refused
  unfolding five_of third_of
  five_accepts f = rw (f.men_pass, f.passes.kings, f.passes.pawns, f.passes.rights, f.passes.state)

pub judged_passes : (p : Position) → judged_of p ≡ nothing_refused → Five p × (quiet (men_in p) p.turn ≡ true)
unfolding judged_of
judged_passes p h =
    let v = both_accept (five_of p) (unless (quiet (men_in p) p.turn) check nothing_refused) h in
    (five_passes p v.0, (test_passes (quiet (men_in p) p.turn) check nothing_refused v.1).0)

module _ (p : Position) where
  -- 1 to 5, and 1 to 6
  pub five_number : verdict_number (five_of p) ≡ first_failing (five_tests p)
  unfolding five_of third_of first_failing ◌and◌
  five_number =
      eqb-true _ _ (by_cases 5 (λ a b d e f. eqb (verdict_number (unless a men (unless b kings (first_refused (not d) (not e) (not f)))))
      (first_failing ((a else men) ∷ (b else kings) ∷ (d else pawn) ∷ (e else rights) ∷ (f else passant) ∷ []))) refl
      (men_ok p.pieces p.colors) (kings_ok (men_in p)) (pawns_ok (men_in p)) (rights_ok (men_in p) (pos_at p).rights) (state_ok p.terms.edition (men_in p) p.turn p.passant))

  pub judged_number : verdict_number (judged_of p) ≡ first_failing (raw_tests p)
  unfolding judged_of
  judged_number = then_number (five_of p) (five_tests p) (quiet (men_in p) p.turn) check five_number
