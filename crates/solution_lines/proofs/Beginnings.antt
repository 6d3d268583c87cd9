-- The first bytes tell the form of all lines: 4,097 lines in form end before the 36,874th byte.
use mathlib.Core.Path.{◌≡◌, refl, sym, ap, subst}
use mathlib.Core.Logic.{◌⊎◌, inl, inr}
use mathlib.Core.Bool.{Bool, true, false, cond}
use mathlib.Core.List.{List, [], ◌∷◌, ◌++◌}
use Prim.Native.Nat.{ℕ, zero, suc, ◌+◌, ◌*◌, ◌≤◌, ◌<◌}
use native.Mathlib.Omega.{arith}
use lib.Dec.{eqb}
use lib.ListN.{length, drop}
use Rattle.laws.specs.declared.ChessRetraction.{ChessRetraction}
use Rattle.solution_lines.specs.declared.Unformed.{Unformed}
use Rattle.solution_lines.specs.declared.Unformed.TheVariants.{Line, Many}
use Rattle.solution_lines.specs.Lines.{onto, lines_of, line_at, Says, NoneOf, OutOfForm, TellsForm}
use Rattle.squares.proofs.Testing.{order}
use Rattle.std.specs.Prelude.{Result, Ok, Err, ⊤}
use Rattle.solution_lines.proofs.Inverse.{says_something}
use Rattle.solution_lines.proofs.Cutting.{drop_over}

-- the bytes of lines, with a newline each
size : List (List ℕ) → ℕ
size [] = 0
size (l ∷ ls) = length l + 1 + size ls

lines_size : (u : List ℕ) → length u ≤ size (lines_of u)
unfolding lines_of size
lines_size [] = omega arith
lines_size (b ∷ u) = go (eqb b 10) (lines_of u) (lines_size u)
  where
    go : (t : Bool) (ls : List (List ℕ)) → length u ≤ size ls → length (b ∷ u) ≤ size (cond t ([] ∷ ls) (onto b ls))
    go true ls h = omega arith
    go false [] h = omega arith
    go false (l ∷ ls) h = omega arith

-- lines of eight bytes, and what stands behind them
eights : (n : ℕ) (ls : List (List ℕ)) → n ≤ length ls → ((i : ℕ) → i < n → length (line_at ls i) ≡ 8) → size ls ≡ 9 * n + size (drop n ls)
unfolding size
eights zero ls h f = omega arith
eights (suc n) [] h f = absurd (omega arith)
eights (suc n) (l ∷ ls) h f = omega (arith, f 0 (omega arith), eights n ls (omega arith) (λ i k. f (suc i) (omega arith)))

last_size : (i : ℕ) (ls : List (List ℕ)) → suc i ≡ length ls → size (drop i ls) ≡ length (line_at ls i) + 1
unfolding size
last_size i [] e = absurd (omega arith)
last_size zero (l ∷ []) e = omega arith
last_size zero (l ∷ k ∷ ls) e = absurd (omega arith)
last_size (suc i) (l ∷ ls) e = last_size i ls (omega arith)

-- the lines ls are the first of ms, but that the last one may go on
abbrev Begins : List (List ℕ) → List (List ℕ) → Type 0
Begins [] ms = Unit {0}
Begins (l ∷ ls) [] = ⊥
Begins (l ∷ []) (m ∷ ms) = length l ≤ length m
Begins (l ∷ k ∷ ls) (m ∷ ms) = (m ≡ l) × Begins (k ∷ ls) ms

begins : (u v : List ℕ) → Begins (lines_of u) (lines_of (u ++ v))
unfolding lines_of
begins [] v = tt
begins (b ∷ u) v = go (eqb b 10) (lines_of u) (lines_of (u ++ v)) (begins u v)
  where
    go : (t : Bool) (ls ms : List (List ℕ)) → Begins ls ms → Begins (cond t ([] ∷ ls) (onto b ls)) (cond t ([] ∷ ms) (onto b ms))
    go true [] ms h = omega arith
    go true (l ∷ ls) ms h = (refl, h)
    go false [] [] h = omega arith
    go false [] (m ∷ ms) h = omega arith
    go false (l ∷ ls) [] h = absurd h
    go false (l ∷ []) (m ∷ ms) h = omega arith
    go false (l ∷ k ∷ ls) (m ∷ ms) h = (ap (λ (x : List ℕ). b ∷ x) h.0, h.1)

same_at : (ls ms : List (List ℕ)) → Begins ls ms → (i : ℕ) → suc i < length ls → line_at ms i ≡ line_at ls i
same_at [] ms h i l = absurd (omega arith)
same_at (x ∷ ls) [] h i l = absurd h
same_at (x ∷ []) (m ∷ ms) h i l = absurd (omega arith)
same_at (x ∷ k ∷ ls) (m ∷ ms) h zero l = h.0
same_at (x ∷ k ∷ ls) (m ∷ ms) h (suc i) l = same_at (k ∷ ls) ms h.1 i (omega arith)

longer_at : (ls ms : List (List ℕ)) → Begins ls ms → (i : ℕ) → suc i ≡ length ls → length (line_at ls i) ≤ length (line_at ms i)
longer_at [] ms h i e = absurd (omega arith)
longer_at (x ∷ ls) [] h i e = absurd h
longer_at (x ∷ []) (m ∷ ms) h zero e = h
longer_at (x ∷ []) (m ∷ ms) h (suc i) e = absurd (omega arith)
longer_at (x ∷ k ∷ ls) (m ∷ ms) h zero e = absurd (omega arith)
longer_at (x ∷ k ∷ ls) (m ∷ ms) h (suc i) e = longer_at (k ∷ ls) ms h.1 i (omega arith)

as_many : (ls ms : List (List ℕ)) → Begins ls ms → length ls ≤ length ms
as_many [] ms h = omega arith
as_many (x ∷ ls) [] h = absurd h
as_many (x ∷ []) (m ∷ ms) h = omega arith
as_many (x ∷ k ∷ ls) (m ∷ ms) h = omega (arith, as_many (k ∷ ls) ms h.1)

says_eight : {r : ChessRetraction} {l : List ℕ} → Says r l → length l ≡ 8
says_eight h = sym (ap length h.1)

module _ (u v : List ℕ) (big : 36874 ≤ length u) where
  abbrev ls : List (List ℕ)
  ls = lines_of u

  abbrev ms : List (List ℕ)
  ms = lines_of (u ++ v)

  eight : (i : ℕ) → (OutOfForm ls i → ⊥) → length (line_at ls i) ≡ 8
  eight i f = says_eight (says_something (line_at ls i) f)

  -- a line that has others behind it is the same
  out_back : (i : ℕ) → suc i < length ls → OutOfForm ms i → OutOfForm ls i
  out_back i l f r h = f r (subst (Says r) (sym (same_at ls ms (begins u v) i l)) h)

  out_too : (i : ℕ) → suc i < length ls → OutOfForm ls i → OutOfForm ms i
  out_too i l f r h = f r (subst (Says r) (same_at ls ms (begins u v) i l) h)

  -- lines that are all in form are more than 4,097
  many : (n : ℕ) → n ≤ 4097 → length ls ≤ n → NoneOf (length ls) (OutOfForm ls) → ⊥
  unfolding size
  many n m h f =
      let e = eights (length ls) ls (omega arith) (λ i l. eight i (f i l)) in
      omega (arith, e, lines_size u, ap size (drop_over ls (length ls) (omega arith)))

  -- a last line behind 4,096 in form is too long
  last_out : (i : ℕ) → i ≤ 4096 → suc i ≡ length ls → NoneOf i (OutOfForm ls) → OutOfForm ms i
  last_out i m e f r h =
      let w = eights i ls (omega arith) (λ j l. eight j (f j l)) in
      omega (arith, w, lines_size u, last_size i ls e, longer_at ls ms (begins u v) i e, says_eight h)

  pub same_form : (a : Result ⊤ Unformed) → TellsForm ls a → TellsForm ms a × (a ≡ Ok tt → ⊥)
  same_form (Ok _) x = absurd (many 4096 (omega arith) x.0 x.1)
  same_form (Err Many) x = (
    (omega (arith, x.0, as_many ls ms (begins u v)), λ i l f. x.1 i l (out_back i (omega (arith, more)) f)),
    λ e. omega (arith, (let w : ◌≡◌ {A = ℕ} 0 1 = cc in w)),
  )
    where
      more : 4097 < length ls
      more = go (order 4097 (length ls))
        where
          go : (4097 < length ls) ⊎ (length ls ≤ 4097) → 4097 < length ls
          go (inl l) = l
          go (inr l) = absurd (many 4097 (omega arith) l (λ i k. x.1 i (omega arith)))
  same_form (Err (Line k)) x = (
    (
      record {
        before = i;
        number = x.0.number;
        there = omega (arith, x.0.there, as_many ls ms (begins u v));
        so = go (order (suc i) (length ls));
        none = λ j l f. x.0.none j l (out_back j (omega (arith, x.0.there)) f);
      },
      x.1,
    ),
    λ e. omega (arith, (let w : ◌≡◌ {A = ℕ} 0 1 = cc in w)),
  )
    where
      i : ℕ
      i = x.0.before

      go : (suc i < length ls) ⊎ (length ls ≤ suc i) → OutOfForm ms i
      go (inl l) = out_too i l x.0.so
      go (inr l) = last_out i (omega (arith, x.0.number, x.1)) (omega (arith, x.0.there)) x.0.none
