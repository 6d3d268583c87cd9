-- Which line is refused: one line more, the end of the lines, and that there is one answer.
use mathlib.Core.Path.{◌≡◌, refl, sym, ap, subst}
use mathlib.Core.Logic.{◌↔◌}
use mathlib.Core.Bool.{Bool, true, false, not, cond}
use mathlib.Core.List.{List}
use Prim.Native.Nat.{ℕ, ◌+◌, ◌-◌, ◌≤◌, ◌<◌}
use native.Mathlib.Omega.{arith}
use lib.Dec.{ltb}
use lib.ListN.{length, take, drop}
use Rattle.chunks.specs.Newlines.{stop_from}
use Rattle.laws.specs.declared.ChessRetraction.{ChessRetraction}
use Rattle.solution_lines.specs.declared.Unformed.{Unformed}
use Rattle.solution_lines.specs.declared.Unformed.TheVariants.{Line, Many}
use Rattle.solution_lines.specs.Lines.{lines_of, line_at, Says, NoneOf, FirstOf, OutOfForm, TellsForm}
use Rattle.solution_lines.specs.inner.Reading.{leniently}
use Rattle.squares.proofs.Testing.{failed, granted}
use Rattle.std.specs.Prelude.{Result, Ok, Err, ⊤}
use Rattle.solution_lines.proofs.Inverse.{says_read}
use Rattle.solution_lines.proofs.Walking.{Through, line_is, first_so, one_more, walked, none_walked, first_one}

-- a turn of the loop: t says whether the line is in form
module _ (s : List ℕ) (at n : ℕ) (x : Through (OutOfForm (lines_of s)) s at n) (h : at < length s) (stop : ℕ) (e : stop ≡ stop_from s at (length s - at)) (t : Bool)
    (q : (t ≡ true) ↔ Says (leniently (take (stop - at) (drop at s))) (take (stop - at) (drop at s))) where
  line : line_at (lines_of s) n ≡ take (stop - at) (drop at s)
  line = line_is (OutOfForm (lines_of s)) s at n x h stop e

  out : not t ≡ true → OutOfForm (lines_of s) n
  out z r w =
      let u : Says r (take (stop - at) (drop at s)) = subst (Says r) line w in
      failed t z (q.1 (subst (λ (v : ChessRetraction). Says v (take (stop - at) (drop at s))) (sym (says_read u)) u))

  in_form_lem : not t ≡ false → OutOfForm (lines_of s) n → ⊥
  in_form_lem z f = f (leniently (take (stop - at) (drop at s))) (subst (Says (leniently (take (stop - at) (drop at s)))) (sym line) (q.0 (granted t z)))

  pub tells_line : not t ≡ true → n ≤ 4096 → TellsForm (lines_of s) (Err (Line (n + 1)))
  tells_line z m = (first_so (OutOfForm (lines_of s)) s at n x h stop e (out z), omega arith)

  pub goes_on : not t ≡ false → (next : ℕ) → next ≡ cond (ltb stop (length s)) (stop + 1) (length s) → Through (OutOfForm (lines_of s)) s next (n + 1)
  goes_on z = one_more (OutOfForm (lines_of s)) s at n x h stop e (in_form_lem z)

pub tells_all : (s : List ℕ) (at n : ℕ) → Through (OutOfForm (lines_of s)) s at n → at ≤ length s → length s ≤ at → n ≤ 4096 → TellsForm (lines_of s) (Ok tt)
tells_all s at n x h k m = (omega (arith, walked (OutOfForm (lines_of s)) s at n x h k), none_walked (OutOfForm (lines_of s)) s at n x h k)

-- any two answers agree
module _ (ls : List (List ℕ)) where
  none_some : {n k : ℕ} → NoneOf n (OutOfForm ls) → (x : FirstOf (length ls) (OutOfForm ls) k) → x.before < n → ⊥
  none_some f x l = f x.before l x.so

  pub one_form : (a b : Result ⊤ Unformed) → TellsForm ls a → TellsForm ls b → a ≡ b
  one_form (Ok _) (Ok _) x y = refl
  one_form (Ok _) (Err (Line k)) x y = absurd (none_some x.1 y.0 y.0.there)
  one_form (Ok _) (Err Many) x y = absurd (omega (arith, x.0, y.0))
  one_form (Err (Line k)) (Ok _) x y = absurd (none_some y.1 x.0 x.0.there)
  one_form (Err (Line k)) (Err (Line j)) x y = ap (λ (i : ℕ). Err (Line i)) (first_one (length ls) (OutOfForm ls) k j x.0 y.0)
  one_form (Err (Line k)) (Err Many) x y = absurd (none_some y.1 x.0 (omega (arith, x.0.number, x.1)))
  one_form (Err Many) (Ok _) x y = absurd (omega (arith, x.0, y.0))
  one_form (Err Many) (Err (Line k)) x y = absurd (none_some x.1 y.0 (omega (arith, y.0.number, y.1)))
  one_form (Err Many) (Err Many) x y = refl
