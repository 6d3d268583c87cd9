-- Any two lines that 14 may name are the same.
use mathlib.Core.Path.{◌≡◌, refl, sym, ◌∙◌, ap}
use mathlib.Core.List.{List, [], ◌∷◌, ◌++◌, append_assoc}
use Prim.Native.Nat.{ℕ, suc}
use lib.ListN.{length}
use Rattle.laws.specs.declared.Position.{Position}
use Rattle.position_text.specs.Form.{printed}
use Rattle.volume_lines.specs.Register.{AllTold, lines_of, Starts, Stops}
use Rattle.volume_lines.proofs.Breaks.{line_one}

-- a list of lines and the rest, from its first line on
first : (p : Position) (ps : List Position) (s : List ℕ) → lines_of (p ∷ ps) ++ s ≡ printed p ++ (10 ∷ lines_of ps ++ s)
unfolding lines_of
first p ps s = append_assoc (printed p) (10 ∷ lines_of ps) s

stops_same : (ps qs : List Position) (s r : List ℕ) → AllTold ps → AllTold qs → lines_of ps ++ s ≡ lines_of qs ++ r
    → ((p : Position) (u : List ℕ) → Starts p u s → ⊥) → ((p : Position) (u : List ℕ) → Starts p u r → ⊥) → length ps ≡ length qs
unfolding lines_of
stops_same [] [] s r a b e m n = refl
stops_same [] (q ∷ qs) s r a b e m n = absurd (m q (lines_of qs ++ r) (record { told = b.0; text = sym (first q qs r) ∙ sym e }))
stops_same (p ∷ ps) [] s r a b e m n = absurd (n p (lines_of ps ++ s) (record { told = a.0; text = sym (first p ps s) ∙ e }))
stops_same (p ∷ ps) (q ∷ qs) s r a b e m n =
    let d = line_one p q (lines_of ps ++ s) (lines_of qs ++ r) a.0 b.0 (sym (first p ps s) ∙ e ∙ first q qs r) in
    ap suc (stops_same ps qs s r a.1 b.1 d.1 m n)

pub stops_one : (t : List ℕ) (j k : ℕ) → Stops t j → Stops t k → j ≡ k
stops_one t j k a b = sym a.count ∙ stops_same a.before b.before a.rest b.rest a.told b.told (a.text ∙ sym b.text) a.none b.none ∙ b.count
