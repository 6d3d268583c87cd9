-- The fields after the men, added to a line.
use mathlib.Core.Path.{◌≡◌}
use mathlib.Core.List.{List, [], ◌∷◌, ◌++◌}
use Prim.Native.Nat.{ℕ, ◌+◌, ◌≤◌, ◌<◌}
use native.Mathlib.Omega.{arith}
use lib.ListN.{length, length-append}
use Rattle.geometry.specs.declared.Color.{Color}
use Rattle.laws.specs.declared.CastleRights.{CastleRights}
use Rattle.laws.specs.declared.CastleRights.TheVariants.{NoRights, KingSide, QueenSide, Both}
use Rattle.laws.specs.declared.EnPassantFlag.{EnPassantFlag}
use Rattle.laws.specs.declared.EnPassantFlag.TheVariants.{Any, Some, None}
use Rattle.laws.specs.Men.{Men}
use Rattle.men_field.specs.declared.Line.{Line}
use Rattle.men_field.specs.Placement.{men_text}
use Rattle.men_field.specs.inner.Lines.{Added, Holds}
use Rattle.position_text.specs.Form.{side_text, or_dash, rights_text, state_text, tail_text, print_of}
use Rattle.men_field.proofs.Adding.{added_both, men_short}

pub side_is : {l r : Line} (k q : ℕ) {x y : CastleRights} → x ≡ y → Added l (side_text k q y) r → Added l (side_text k q x) r
side_is k q e a = rw e a

pub state_is : {l r : Line} {x y : EnPassantFlag} → x ≡ y → Added l (state_text y) r → Added l (state_text x) r
state_is e a = rw e a

side_short : (k q : ℕ) (x : CastleRights) → length (side_text k q x) ≤ 2
side_short k q NoRights = omega arith
side_short k q KingSide = omega arith
side_short k q QueenSide = omega arith
side_short k q Both = omega arith

pub side_grows : (k q : ℕ) (x : CastleRights) {l r : Line} → Added l (side_text k q x) r → r.len ≤ l.len + 2
side_grows k q x a = omega (arith, a.len, side_short k q x)

dash_short : (t : List ℕ) (n : ℕ) → 0 < n → length t ≤ n → length (or_dash t) ≤ n
dash_short [] n h k = h
dash_short (x ∷ t) n h k = k

pub rights_short : (w b : CastleRights) → length (rights_text w b) ≤ 4
rights_short w b =
    dash_short (side_text 75 81 w ++ side_text 107 113 b) 4 (omega arith)
    (omega (arith, length-append (side_text 75 81 w) (side_text 107 113 b), side_short 75 81 w, side_short 107 113 b))

state_short : (e : EnPassantFlag) → length (state_text e) ≤ 2
state_short Any = omega arith
state_short (Some s) = omega arith
state_short None = omega arith

tail_short : (c : Color) (w b : CastleRights) (e : EnPassantFlag) → length (tail_text c w b e) ≤ 10
tail_short c w b e = omega (arith, length-append (rights_text w b) (32 ∷ state_text e), rights_short w b, state_short e)

-- "At most 81 bytes"
pub print_short : (m : Men) (c : Color) (w b : CastleRights) (e : EnPassantFlag) → length (print_of m c w b e) ≤ 81
unfolding print_of
print_short m c w b e = omega (arith, length-append (men_text m) (tail_text c w b e), men_short m, tail_short c w b e)

pub dash_none : (t : List ℕ) {l r o : Line} → Added l t r → r.len ≡ l.len → Added r (45 ∷ []) o → Added l (or_dash t) o
dash_none [] p e q = added_both p q
dash_none (x ∷ t) p e q = absurd (omega (arith, p.len))

pub dash_some : (t : List ℕ) {l r : Line} → Added l t r → (r.len ≡ l.len → ⊥) → Added l (or_dash t) r
dash_some [] p f = absurd (f (omega (arith, p.len)))
dash_some (x ∷ t) p f = p

pub line_done : {l r : Line} (m : Men) (c : Color) (w b : CastleRights) (e : EnPassantFlag) → Holds l (men_text m) → Added l (tail_text c w b e) r
    → Holds r (print_of m c w b e) × (r.len ≤ 81)
unfolding print_of
line_done {l} {r} m c w b e p a =
    let n = length-append (men_text m) (tail_text c w b e) in
    (record { text = simp (a.text, p.text); len = omega (arith, a.len, p.len, n) }, omega (arith, a.len, p.len, n, print_short m c w b e))
