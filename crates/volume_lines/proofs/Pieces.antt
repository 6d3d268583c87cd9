-- A register that is read in pieces, each from behind the last line of the one before, is looked at as one.
use mathlib.Core.Path.{◌≡◌, refl, sym, ◌∙◌, ap}
use mathlib.Core.Bool.{Bool, true, false}
use mathlib.Core.List.{List, [], ◌∷◌, ◌++◌, append_assoc}
use Prim.Native.Nat.{ℕ, ◌+◌, ◌-◌, ◌≤◌, ◌<◌}
use native.Mathlib.Omega.{arith}
use lib.ListN.{length, drop, get_or, length-append, length-drop}
use lib.Seq.{drop-append-le, drop-drop, get_or-drop}
use Rattle.laws.specs.declared.Position.{Position}
use Rattle.accept.specs.Verdicts.{judged_of}
use Rattle.position_text.specs.Form.{printed}
use Rattle.volume_lines.specs.declared.Named.{Named}
use Rattle.volume_lines.specs.declared.Survey.{Survey}
use Rattle.volume_lines.specs.Register.{AllTold, lines_of, note_of, noted_of}
use Rattle.volume_lines.specs.inner.Surveys.{EndsAt, Surveyed}

all_append : (ps qs : List Position) → AllTold ps → AllTold qs → AllTold (ps ++ qs)
all_append [] qs a b = b
all_append (p ∷ ps) qs a b = (a.0, all_append ps qs a.1 b)

pub lines_append : (ps qs : List Position) → lines_of (ps ++ qs) ≡ lines_of ps ++ lines_of qs
unfolding lines_of
lines_append [] qs = refl
lines_append (p ∷ ps) qs =
    ap (λ (z : List ℕ). printed p ++ (10 ∷ z)) (lines_append ps qs) ∙ sym (append_assoc (printed p) (10 ∷ lines_of ps) (lines_of qs))

noted_append : (n : Named) (k : ℕ) (ps qs : List Position) → noted_of n k (ps ++ qs) ≡ noted_of (noted_of n k ps) (k + length ps) qs
unfolding noted_of
noted_append n k [] qs = ap (λ (j : ℕ). noted_of n j qs) (omega arith)
noted_append n k (p ∷ ps) qs =
    noted_append (note_of n (k + 1) (judged_of p)) (k + 1) ps qs
    ∙ ap (λ (j : ℕ). noted_of (noted_of (note_of n (k + 1) (judged_of p)) (k + 1) ps) j qs) (omega arith)

-- t was looked at, and then what was left of it with u behind
module _ (t u : List ℕ) (count : ℕ) (before : Named) (s r : Survey) (a : Surveyed t count before s) (b : Surveyed (drop s.at t ++ u) s.count s.named r) where
  whole : drop s.at (t ++ u) ≡ drop s.at t ++ u
  whole = drop-append-le s.at t u a.inside

  rest : drop (s.at + r.at) (t ++ u) ≡ drop r.at (drop s.at t ++ u)
  rest = sym (drop-drop r.at s.at (t ++ u)) ∙ ap (drop r.at) whole

  ends : (g : Bool) → EndsAt (drop s.at t ++ u) r.at g → EndsAt (t ++ u) (s.at + r.at) g
  ends true f = λ k h l e. over k h l e (k - s.at) (omega arith)
    where
      over : (k : ℕ) → s.at + r.at ≤ k → k < length (t ++ u) → get_or (t ++ u) k 0 ≡ 10 → (j : ℕ) → s.at + j ≡ k → ⊥
      over k h l e j q =
          f j (omega arith) (omega (arith, length-append (drop s.at t) u, length-drop s.at t, length-append t u, a.inside))
          (sym (ap (λ (z : List ℕ). get_or z j 0) whole) ∙ get_or-drop s.at (t ++ u) j 0 ∙ ap (λ (i : ℕ). get_or (t ++ u) i 0) q ∙ e)
  ends false f =
      (omega (arith, f.0, length-append (drop s.at t) u, length-drop s.at t, length-append t u, a.inside), λ p v w. f.1 p v (record { told = w.told; text = w.text ∙ rest }))

  pub in_pieces : Surveyed (t ++ u) count before (record { count = r.count; named = r.named; at = s.at + r.at; good = r.good })
  in_pieces =
      record {
        boards = a.boards ++ b.boards;
        told = all_append a.boards b.boards a.told b.told;
        text =
            ap (λ (z : List ℕ). z ++ drop (s.at + r.at) (t ++ u)) (lines_append a.boards b.boards)
            ∙ append_assoc (lines_of a.boards) (lines_of b.boards) (drop (s.at + r.at) (t ++ u))
            ∙ ap (λ (z : List ℕ). lines_of a.boards ++ (lines_of b.boards ++ z)) rest
            ∙ ap (λ (z : List ℕ). lines_of a.boards ++ z) b.text
            ∙ sym (append_assoc (lines_of a.boards) (drop s.at t) u)
            ∙ ap (λ (z : List ℕ). z ++ u) a.text;
        inside = omega (arith, b.inside, length-append (drop s.at t) u, length-drop s.at t, length-append t u, a.inside);
        number = omega (arith, a.number, b.number, length-append a.boards b.boards);
        named_is =
            b.named_is ∙ (λ i. noted_of (a.named_is i) (a.number i) b.boards) ∙ sym (noted_append before count a.boards b.boards);
        ends = ends r.good b.ends;
      }
