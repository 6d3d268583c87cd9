-- The first 65,536 bytes of a file decide its verdict, so that a file of any size is answered in as much memory.
use mathlib.Core.Path.{◌≡◌, refl, sym, ap, ap₂, ◌∙◌, subst}
use mathlib.Core.Logic.{◌⊎◌, inl, inr}
use mathlib.Core.List.{List, ◌++◌}
use Prim.Native.Nat.{ℕ, suc, ◌≤◌, ◌<◌}
use native.Mathlib.Omega.{arith}
use lib.ListN.{length, get_or, take, drop, length-drop, take-append-drop}
use lib.Seq.{length-take-le, take_all, take-take, drop-append-le, get_or-take}
use Rattle.laws.specs.declared.ChessRetraction.{ChessRetraction}
use Rattle.laws.specs.declared.Edition.TheVariants.{A}
use Rattle.board.specs.declared.Boarded.{Boarded}
use Rattle.text.specs.Entries.{Reads, said, unsaid}
use Rattle.strict.specs.Demand.{Past}
use Rattle.solution_lines.specs.declared.Unformed.TheVariants.{Line as formLine, Many as formMany}
use Rattle.solution_lines.specs.Lines.{lines_of}
use Rattle.solution.specs.declared.Why.{Why}
use Rattle.solution.specs.declared.Why.TheVariants.{Position, Line, Many}
use Rattle.solution.specs.declared.Checked.{Checked}
use Rattle.solution.specs.declared.Checked.TheVariants.{Complete, Wrong, Incomplete}
use Rattle.solution.specs.Verdicts.{Tells, TellsOf, Checks}
use Rattle.solution_reply.specs.Replies.{stop_of, position_in, solution_in, Replies}
use Rattle.squares.proofs.Testing.{order}
use Rattle.chunks.proofs.Cuts.{stop_within, stop_newline, stop_first}
use Rattle.position_text.proofs.Inverse.{says_short}
use Rattle.text.proofs.RoundTrip.{read_accepted}
use Rattle.reply.proofs.Shown.{text_short}
use Rattle.solution_lines.proofs.Beginnings.{same_form}
use Rattle.refusal.specs.Refusals.{Verdict, nothing_refused}
use Rattle.std.specs.Prelude.{Result, Ok, Err}

-- where the lines' first bytes tell the form, they tell the answer
tells_enough : (S : ChessRetraction → Type 0) (u v : List ℕ) → 36874 ≤ length u → (a : Result Checked Why) → Tells S (lines_of u) a → Tells S (lines_of (u ++ v)) a
tells_enough S u v h (Ok Complete) x = absurd ((same_form u v h (Ok tt) x.0).1 refl)
tells_enough S u v h (Ok (Wrong k)) x = absurd ((same_form u v h (Ok tt) x.0).1 refl)
tells_enough S u v h (Ok (Incomplete q)) x = absurd ((same_form u v h (Ok tt) x.0).1 refl)
tells_enough S u v h (Err (Line k)) x = (same_form u v h (Err (formLine k)) x).0
tells_enough S u v h (Err Many) x = (same_form u v h (Err formMany) x).0
tells_enough S u v h (Err (Position why)) x = absurd x

-- a text that is accepted is short
read_short : (t : List ℕ) (r : Boarded) → Reads A t r → r.verdict ≡ nothing_refused → length t ≤ 81
read_short t r x e = subst (λ (y : List ℕ). length y ≤ 81) (read_accepted A t r x e).1 (text_short r.board)

-- the first newline of a file
stop_here : (s : List ℕ) (k : ℕ) → k < length s → get_or s k 0 ≡ 10 → ((j : ℕ) → j < k → get_or s j 0 ≡ 10 → ⊥) → stop_of s ≡ k
stop_here s k h e f = go (order (stop_of s) k) (order k (stop_of s))
  where
    go : (stop_of s < k) ⊎ (k ≤ stop_of s) → (k < stop_of s) ⊎ (stop_of s ≤ k) → stop_of s ≡ k
    go (inl l) m = absurd (f (stop_of s) l (stop_newline s 0 (length s) (omega arith)))
    go (inr l) (inl m) = absurd (stop_first s 0 (length s) k (omega arith) m e)
    go (inr l) (inr m) = omega arith

module _ (f : List ℕ) (long : 65536 < length f) where
  abbrev g : List ℕ
  g = take 65536 f

  g_long : length g ≡ 65536
  g_long = length-take-le 65536 f (omega arith)

  whole : f ≡ g ++ drop 65536 f
  whole = sym (take-append-drop 65536 f)

  same_byte : (k : ℕ) → k < 65536 → get_or g k 0 ≡ get_or f k 0
  same_byte k h = get_or-take 65536 f k 0 h

  within : stop_of g ≤ 65536
  within = omega (arith, (stop_within g 0 (length g)).1, g_long)

  -- the first line ends among these bytes
  module _ (h : stop_of g < 65536) where
    same_stop : stop_of f ≡ stop_of g
    same_stop =
        stop_here f (stop_of g) (omega arith)
        (sym (same_byte (stop_of g) h) ∙ stop_newline g 0 (length g) (omega (arith, g_long)))
        (λ j l e. stop_first g 0 (length g) j (omega arith) l (same_byte j (omega arith) ∙ e))

    same_position : position_in g ≡ position_in f
    same_position = take-take (stop_of g) 65536 f (omega arith) ∙ ap (λ (k : ℕ). take k f) (sym same_stop)

    more_lines : solution_in f ≡ solution_in g ++ drop 65536 f
    more_lines =
        ap₂ (λ (k : ℕ) (x : List ℕ). drop (suc k) x) same_stop whole
        ∙ drop-append-le (suc (stop_of g)) g (drop 65536 f) (omega (arith, g_long))

    told_too : (r : Boarded) → Reads A (position_in g) r → (v : Verdict) → r.verdict ≡ v → (a : Result Checked Why) → TellsOf v r.board (lines_of (solution_in g)) a → TellsOf v r.board (lines_of (solution_in f)) a
    told_too r x (Err why) e a t = t
    told_too r x nothing_refused e a t =
        let size = length-take-le (stop_of g) g (omega (arith, g_long)) in
        subst (λ (y : List ℕ). Tells (Past r.board) (lines_of y) a) (sym more_lines)
        (tells_enough (Past r.board) (solution_in g) (drop 65536 f) (omega (arith, length-drop (suc (stop_of g)) g, g_long, read_short (position_in g) r x e, size)) a t)

    here : (a : Result Checked Why) → Checks A (position_in g) (solution_in g) a → Checks A (position_in f) (solution_in f) a
    here a c = record {
      read = c.read;
      reads = subst (λ (y : List ℕ). Reads A y c.read) same_position c.reads;
      told = told_too c.read c.reads c.read.verdict refl a c.told;
    }

  -- the first line goes on behind them, and is no text
  module _ (h : 65536 ≤ stop_of g) where
    far_stop : 65536 ≤ stop_of f
    far_stop = go (order (stop_of f) 65536)
      where
        go : (stop_of f < 65536) ⊎ (65536 ≤ stop_of f) → 65536 ≤ stop_of f
        go (inl l) =
            absurd (stop_first g 0 (length g) (stop_of f) (omega arith) (omega arith) (same_byte (stop_of f) l ∙ stop_newline f 0 (length f) (omega arith)))
        go (inr l) = l

    too_long : (x : List ℕ) → 65536 ≤ stop_of x → stop_of x ≤ length x → 65536 ≤ length (position_in x)
    too_long x l m = omega (arith, length-take-le (stop_of x) x m)

    no_text : (r : Boarded) → Reads A (position_in g) r → Reads A (position_in f) r
    no_text r (said p s b) = absurd (omega (arith, says_short A (position_in g) p s, too_long g h (omega (arith, within, g_long))))
    no_text r (unsaid n e k) =
        unsaid (λ p s. omega (arith, says_short A (position_in f) p s, too_long f far_stop (omega (arith, (stop_within f 0 (length f)).1)))) e k

    refused_too : (r : Boarded) → Reads A (position_in g) r → (v : Verdict) → r.verdict ≡ v → (a : Result Checked Why) → TellsOf v r.board (lines_of (solution_in g)) a → TellsOf v r.board (lines_of (solution_in f)) a
    refused_too r x (Err why) e a t = t
    refused_too r x nothing_refused e a t =
        absurd (omega (arith, read_short (position_in g) r x e, too_long g h (omega (arith, within, g_long))))

    beyond : (a : Result Checked Why) → Checks A (position_in g) (solution_in g) a → Checks A (position_in f) (solution_in f) a
    beyond a c = record {
      read = c.read;
      reads = no_text c.read c.reads;
      told = refused_too c.read c.reads c.read.verdict refl a c.told;
    }

  checks_enough : (a : Result Checked Why) → Checks A (position_in g) (solution_in g) a → Checks A (position_in f) (solution_in f) a
  checks_enough a c = go (order (stop_of g) 65536)
    where
      go : (stop_of g < 65536) ⊎ (65536 ≤ stop_of g) → Checks A (position_in f) (solution_in f) a
      go (inl l) = here l a c
      go (inr l) = beyond l a c

-- what is answered to the first 65,536 bytes of a file is the answer to the file
pub enough : (f : List ℕ) (n : ℕ) (o out : List ℕ) → Replies (take 65536 f) n o out → Replies f n o out
enough f n o out x = go (order 65536 (length f))
  where
    go : (65536 < length f) ⊎ (length f ≤ 65536) → Replies f n o out
    go (inl l) = record { told = x.told; checks = checks_enough f l x.told x.checks; shows = x.shows }
    go (inr l) = subst (λ (y : List ℕ). Replies y n o out) (take_all 65536 f l) x
