-- The answer to a file: its position and its solution, and that there is one answer.
use mathlib.Core.Path.{◌≡◌, sym, ap, ◌∙◌, subst}
use mathlib.Core.Logic.{◌⊎◌, inl, inr}
use mathlib.Core.Bool.{Bool, cond}
use mathlib.Core.List.{List}
use Prim.Native.Nat.{ℕ, suc, ◌+◌, ◌-◌, ◌≤◌, ◌<◌}
use native.Mathlib.Omega.{arith}
use native.Mathlib.Numerals.{add-one}
use lib.Dec.{ltb}
use lib.ListN.{length, take, drop, length-drop}
use lib.Seq.{take_all}
use borrow.Author.Tests.{lt-ltb, le-ltb}
use Rattle.io.specs.Counts.{IsPrefixLen}
use Rattle.chunks.specs.Newlines.{stop_from}
use Rattle.laws.specs.declared.Edition.TheVariants.{A}
use Rattle.reply.specs.Replies.{Shows}
use Rattle.solution.specs.declared.Why.{Why}
use Rattle.solution.specs.declared.Checked.{Checked}
use Rattle.solution.specs.Verdicts.{Checks}
use Rattle.solution_reply.specs.Replies.{verdict_text, stop_of, position_in, solution_in, Replies}
use Rattle.std.specs.Prelude.{Result}
use Rattle.squares.proofs.Testing.{order}
use Rattle.solution_lines.proofs.Cutting.{drop_over}
use Rattle.solution.proofs.Answering.{one_answer}
use Rattle.reply.proofs.Spoken.{shows_one}

-- what stands below the first newline
module _ (f : List ℕ) (stop below : ℕ) (e : stop ≡ stop_from f 0 (length f - 0)) (p : below ≡ cond (ltb stop (length f)) (stop + 1) (length f)) where
  stop_is : stop ≡ stop_of f
  stop_is = e ∙ ap (stop_from f 0) (let z : length f - 0 ≡ length f = omega arith in z)

  below_is : drop below f ≡ solution_in f
  below_is = go (order stop (length f)) ∙ ap (λ (i : ℕ). drop (suc i) f) stop_is
    where
      go : (stop < length f) ⊎ (length f ≤ stop) → drop below f ≡ drop (suc stop) f
      go (inl l) = ap (λ (i : ℕ). drop i f) (p ∙ ap (λ (b : Bool). cond b (stop + 1) (length f)) (lt-ltb stop (length f) l) ∙ add-one stop)
      go (inr l) =
          ap (λ (i : ℕ). drop i f) (p ∙ ap (λ (b : Bool). cond b (stop + 1) (length f)) (le-ltb stop (length f) l))
          ∙ drop_over f (length f) (omega arith) ∙ sym (drop_over f (suc stop) (omega arith))

  pub answered : (a : Result Checked Why) → Checks A (take stop f) (take (length f - below) (drop below f)) a → {n : ℕ} {o out : List ℕ} → Shows (verdict_text a) n o out → Replies f n o out
  answered a c z = record {
    told = a;
    checks =
        subst (λ (x : List ℕ). Checks A x (solution_in f) a) (ap (λ (k : ℕ). take k f) stop_is)
        (subst (λ (x : List ℕ). Checks A (take stop f) x a) (take_all (length f - below) (drop below f) (omega (arith, length-drop below f)) ∙ below_is) c);
    shows = z;
  }

-- there is one answer to a file: its bytes, and all of the buffer
pub reply_one : (f : List ℕ) (k l : ℕ) (o p q : List ℕ) → Replies f k o p → Replies f l o q → (k ≡ l) × (p ≡ q)
reply_one f k l o p q x y = shows_one (ap verdict_text (one_answer A (position_in f) (solution_in f) x.told y.told x.checks y.checks)) x.shows y.shows

-- an answer lies in its buffer
pub reply_counts : (f : List ℕ) (n : ℕ) (o out : List ℕ) → Replies f n o out → IsPrefixLen n out
reply_counts f n o out x = x.shows.counts
