-- A board without a past of n plies has none of n + 1, and a depth of 1 is answered as `last_move` answers.
use mathlib.Core.Path.{◌≡◌, refl, sym, ap, ◌∙◌, subst}
use mathlib.Core.Logic.{◌↔◌}
use mathlib.Core.Bool.{Bool, true, false, cond}
use mathlib.Core.List.{List, [], ◌∷◌}
use Prim.Native.Nat.{ℕ, zero, suc, ◌<◌}
use native.Mathlib.Omega.{arith}
use lib.Dec.{eqb}
use lib.ListN.{length}
use borrow.Author.Tests.{eqb-true}
use Rattle.squares.specs.Tests.{◌and◌}
use Rattle.laws.specs.declared.ChessRetraction.{ChessRetraction}
use Rattle.refusal.specs.Said.{first_failing, number_said}
use Rattle.board.specs.declared.RetractableBoard.{RetractableBoard}
use Rattle.board.specs.Gate.{board_tests}
use Rattle.strict.specs.Demand.{Past as PastOf, last_says, Answers as AnswersLast}
use Rattle.chains.specs.Chains.{Chain}
use Rattle.history.specs.Histories.{NoHistory, number_for, answer_number, Answers}
use Rattle.strict.proofs.Unique.{no_refusal}
use Rattle.history.proofs.Answering.{never_zero, passing, passed}
use Rattle.std.specs.Prelude.{Result, Ok, Err, None, Option, Some}
use Rattle.refusal.specs.declared.Refusal.{Refusal}
use Rattle.history.specs.declared.History.{History}
use Rattle.history.specs.declared.Why.{Why}

-- a chain without its earliest move
shorter : (n : ℕ) (l : List ChessRetraction) (b : RetractableBoard) → length l ≡ suc n → Chain l b → (m : List ChessRetraction) × (length m ≡ n) × Chain m b
shorter n [] b e c = absurd (omega arith)
shorter zero (r ∷ l) b e c = ([], refl, tt)
shorter (suc n) (r ∷ l) b e c =
    let z = shorter n l c.0 (omega arith) c.5 in (r ∷ z.0, ap suc z.1, (c.0, c.1, c.2, c.3, c.4, z.2))

pub no_longer : (n : ℕ) (b : RetractableBoard) → NoHistory n b → NoHistory (suc n) b
no_longer n b f l e c = let z = shorter n l b e c in f z.0 z.1 z.2

-- "no" at a depth is "no" at the next
pub no_deeper : (b : RetractableBoard) (n : ℕ) (r : Result (Option History) Why) → n < 4 → Answers b n (Ok None) → Answers b (suc n) r → r ≡ Ok None
no_deeper b n r l x y = go r y
  where
    passes : number_for b (suc n) ≡ 0
    passes = let p = passed b n (sym x.number) in passing b (suc n) p.0 (omega (arith, p.1)) (omega (arith, l))

    go : (s : Result (Option History) Why) → Answers b (suc n) s → s ≡ Ok None
    go (Ok (Some h)) z = let u = z.answer passes in absurd (no_longer n b (x.answer (sym x.number)) u.0 u.1.long u.1.chain)
    go (Ok None) z = refl
    go (Err w) z = absurd (never_zero w (z.number ∙ passes))

-- a chain of one move is a retraction with a past
one_move : (l : List ChessRetraction) (b : RetractableBoard) → length l ≡ 1 → Chain l b → (q : ChessRetraction) × PastOf b q
one_move [] b e c = absurd (omega arith)
one_move (q ∷ l) b e c = (q, (c.0, c.1, c.2, c.3, c.4))

module _ (b : RetractableBoard) (r : Result (Option History) Why) (s : Result Bool Refusal) (x : Answers b 1 r) (y : AnswersLast b s) where
  one_ply : number_for b 1 ≡ first_failing (board_tests b)
  unfolding ◌and◌
  one_ply = go (eqb (first_failing (board_tests b)) 0) refl
    where
      go : (z : Bool) → eqb (first_failing (board_tests b)) 0 ≡ z → cond z 0 (first_failing (board_tests b)) ≡ first_failing (board_tests b)
      go true e = sym (eqb-true _ _ e)
      go false e = refl

  -- a depth of 1 is refused by the same number
  pub last_number : answer_number r ≡ number_said (last_says s)
  last_number = x.number ∙ one_ply ∙ sym y.number

  -- and is answered no exactly where there is no last move
  pub last_agrees : (r ≡ Ok None) ↔ (s ≡ Ok false)
  last_agrees = ((λ e. there s (subst (Answers b 1) e x) y), (λ e. back r x (subst (AnswersLast b) e y)))
    where
      there : (z : Result Bool Refusal) → Answers b 1 (Ok None) → AnswersLast b z → z ≡ Ok false
      there (Ok true) u v = let q = (v.exists (passed b 1 (sym u.number)).0).0 refl in absurd (u.answer (sym u.number) (q.0 ∷ []) refl (q.1.0, q.1.1, q.1.2, q.1.3, q.1.4, tt))
      there (Ok false) u v = refl
      there (Err w) u v = no_refusal w (u.number ∙ one_ply ∙ sym v.number)

      back : (z : Result (Option History) Why) → Answers b 1 z → AnswersLast b (Ok false) → z ≡ Ok None
      back (Ok (Some h)) u v =
          let z = u.answer (sym u.number) in
          let q = one_move z.0 b z.1.long z.1.chain in
          absurd ((v.none (passed b 1 (sym u.number)).0).0 refl q.0 q.1)
      back (Ok None) u v = refl
      back (Err w) u v = absurd (never_zero w (u.number ∙ one_ply ∙ sym v.number))
