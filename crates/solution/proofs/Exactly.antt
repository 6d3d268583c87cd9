-- Each verdict is given exactly when its rule says, complete exactly of the strict list, and what that says of a claim of no last move.
use mathlib.Core.Path.{◌≡◌, refl, sym, ap, ◌∙◌, subst}
use mathlib.Core.Logic.{◌⊎◌, inl, inr, ◌↔◌}
use mathlib.Core.Bool.{true, false, false≢true}
use mathlib.Core.List.{List, []}
use Prim.Native.Nat.{ℕ, ◌<◌}
use native.Mathlib.Omega.{arith}
use lib.ListN.{length}
use Rattle.laws.specs.declared.ChessRetraction.{ChessRetraction}
use Rattle.laws.specs.declared.Edition.{Edition}
use Rattle.laws.specs.Retractions.{InRange}
use Rattle.laws.specs.Strictness.{strict}
use Rattle.laws.specs.StrictLists.{In}
use Rattle.refusal.specs.declared.Refusal.{Refusal}
use Rattle.board.specs.Gate.{pos_on}
use Rattle.strict.specs.Demand.{Past, IsStrictList}
use Rattle.solution_lines.specs.Lines.{lines_of, line_at, Says, Among, NoneOf, TellsForm}
use Rattle.solution_lines.specs.inner.Reading.{leniently}
use Rattle.solution.specs.declared.Why.{Why}
use Rattle.solution.specs.declared.Why.TheVariants.{Position}
use Rattle.solution.specs.declared.Checked.{Checked}
use Rattle.solution.specs.declared.Checked.TheVariants.{Complete}
use Rattle.solution.specs.Verdicts.{IsWrong, IsSaid, Tells, TellsOf, Checks}
use Rattle.squares.proofs.Testing.{cases}
use Rattle.laws.proofs.StrictMembers.{strict_in}
use Rattle.text.proofs.RoundTrip.{read_accepted}
use Rattle.strict.proofs.Told.{strict_past}
use Rattle.solution_lines.proofs.Inverse.{says_one, says_something}
use Rattle.solution.proofs.Answering.{one_answer}
use Rattle.refusal.specs.Refusals.{Verdict, nothing_refused}
use Rattle.std.specs.Prelude.{Result, Ok, Err}

-- of an accepted position, each of `Complete`, `Wrong k`, `Incomplete q`, 23 with its line and 24 is answered exactly when its rule holds
module _ (e : Edition) (t s : List ℕ) (a : Result Checked Why) (x : Checks e t s a) (h : x.read.verdict ≡ nothing_refused) where
  pub exactly : (v : Result Checked Why) → (a ≡ v) ↔ Tells (Past x.read.board) (lines_of s) v
  exactly v = (
    (λ q. subst (Tells (Past x.read.board) (lines_of s)) q (subst (λ (z : Verdict). TellsOf z x.read.board (lines_of s) a) h x.told)),
    (λ z. one_answer e t s a v x
        (record { read = x.read; reads = x.reads; told = subst (λ (u : Verdict). TellsOf u x.read.board (lines_of s) v) (sym h) z })),
  )

  -- a line that is not wrong says a retraction that has a past, and repeats none before it
  module _ (f : TellsForm (lines_of s) (Ok tt)) (i : ℕ) (l : i < length (lines_of s)) where
    line_says : Says (leniently (line_at (lines_of s) i)) (line_at (lines_of s) i)
    line_says = says_something (line_at (lines_of s) i) (f.1 i l)

    pub not_wrong : (IsWrong (Past x.read.board) (lines_of s) i → ⊥)
        ↔ (((r : ChessRetraction) × Says r (line_at (lines_of s) i) × Past x.read.board r) × (Among (lines_of s) i (line_at (lines_of s) i) → ⊥))
    not_wrong = ((λ n. (by n (cases (strict (pos_on x.read.board) q)), λ z. n (inr z))), λ g z. back g z)
      where
        q : ChessRetraction
        q = leniently (line_at (lines_of s) i)

        past : (r : ChessRetraction) → (strict (pos_on x.read.board) r ≡ true) ↔ Past x.read.board r
        past = strict_past x.read.board (read_accepted e t x.read x.reads h).0

        by : (IsWrong (Past x.read.board) (lines_of s) i → ⊥) → (strict (pos_on x.read.board) q ≡ true) ⊎ (strict (pos_on x.read.board) q ≡ false)
            → (r : ChessRetraction) × Says r (line_at (lines_of s) i) × Past x.read.board r
        by n (inl y) = (q, line_says, (past q).0 y)
        by n (inr y) =
            absurd (n (inl (λ r z p. false≢true (sym y ∙ ap (strict (pos_on x.read.board)) (says_one line_says z) ∙ (past r).1 p))))

        back : ((r : ChessRetraction) × Says r (line_at (lines_of s) i) × Past x.read.board r) × (Among (lines_of s) i (line_at (lines_of s) i) → ⊥)
            → IsWrong (Past x.read.board) (lines_of s) i → ⊥
        back g (inl k) = k g.0.0 g.0.1 g.0.2
        back g (inr k) = g.1 k

  -- "the lines are exactly the strict list": of a list l that is the strict one, complete exactly when all lines are in form and at most 4,096, none repeats an
  -- earlier one, and they say what l has, and nothing else
  pub complete_list : (l : List ChessRetraction) → IsStrictList x.read.board l → (a ≡ Ok Complete)
      ↔ (TellsForm (lines_of s) (Ok tt) × NoneOf (length (lines_of s)) (λ i. Among (lines_of s) i (line_at (lines_of s) i))
      × ((r : ChessRetraction) → InRange r → IsSaid (lines_of s) r ↔ In r l))
  complete_list l m = (to, back)
    where
      in_range : (r : ChessRetraction) → Past x.read.board r → InRange r
      in_range r p = strict_in (pos_on x.read.board) r ((strict_past x.read.board (read_accepted e t x.read x.reads h).0 r).1 p)

      to : a ≡ Ok Complete → TellsForm (lines_of s) (Ok tt) × NoneOf (length (lines_of s)) (λ i. Among (lines_of s) i (line_at (lines_of s) i))
          × ((r : ChessRetraction) → InRange r → IsSaid (lines_of s) r ↔ In r l)
      to z =
          let w = (exactly (Ok Complete)).0 z in
          (w.0, (λ i j k. w.1 i j (inr k)), λ r k. ((λ u. (m.members r).1 (said r k u)), (λ u. w.2 r ((m.members r).0 u))))
        where
          said : (r : ChessRetraction) → InRange r → IsSaid (lines_of s) r → Past x.read.board r
          said r k u =
              let w = (exactly (Ok Complete)).0 z in
              let g = ((not_wrong w.0 u.0 u.1).0 (w.1 u.0 u.1)).0 in
              subst (Past x.read.board) (says_one g.1 (k, sym u.2)) g.2

      back : TellsForm (lines_of s) (Ok tt) × NoneOf (length (lines_of s)) (λ i. Among (lines_of s) i (line_at (lines_of s) i))
          × ((r : ChessRetraction) → InRange r → IsSaid (lines_of s) r ↔ In r l) → a ≡ Ok Complete
      back y = (exactly (Ok Complete)).1 (
        y.0,
        (λ i j. (not_wrong y.0 i j).1 (
          (leniently (line_at (lines_of s) i), line_says y.0 i j, (m.members _).0 ((y.2 _ (line_says y.0 i j).0).0 (i, j, sym (line_says y.0 i j).1))),
          y.1 i j,
        )),
        (λ r p. (y.2 r (in_range r p)).1 ((m.members r).1 p)),
      )

-- and a position is refused by its own number exactly when it is not accepted
pub refused_exactly : (e : Edition) (t s : List ℕ) (a : Result Checked Why) (x : Checks e t s a) (why : Refusal) → (a ≡ Err (Position why)) ↔ (x.read.verdict ≡ Err why)
refused_exactly e t s a x why = by x.read.verdict refl x.told
  where
    by : (v : Verdict) → x.read.verdict ≡ v → TellsOf v x.read.board (lines_of s) a → (a ≡ Err (Position why)) ↔ (x.read.verdict ≡ Err why)
    by (Ok _) h z = (
      (λ q. absurd (subst (Tells (Past x.read.board) (lines_of s)) q z)),
      (λ q. absurd (omega (arith, (let w : ◌≡◌ {A = ℕ} 0 1 = cc in w)))),
    )
    by (Err w) h z = ((λ q. let i : w ≡ why = cc in h ∙ cc), (λ q. let i : w ≡ why = cc in z ∙ cc))

-- "a claim of no last move is an empty set of lines": complete exactly when no retraction has a past
pub no_lines : (e : Edition) (t : List ℕ) (a : Result Checked Why) (x : Checks e t [] a) → x.read.verdict ≡ nothing_refused → (a ≡ Ok Complete) ↔ ((r : ChessRetraction) → Past x.read.board r → ⊥)
unfolding lines_of
no_lines e t a x h = (
  (λ q r z. omega (arith, (((exactly e t [] a x h (Ok Complete)).0 q).2 r z).1)),
  (λ f. (exactly e t [] a x h (Ok Complete)).1 ((omega arith, λ i l. absurd (omega arith)), (λ i l. absurd (omega arith)), (λ r z. absurd (f r z)))),
)
