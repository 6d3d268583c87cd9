-- What `next` promises, from what its definition hands back; and any two answers agree.
use mathlib.Core.Path.{◌≡◌, refl, sym, ap, ◌∙◌}
use mathlib.Core.Bool.{Bool, true, false}
use native.Mathlib.Omega.{arith}
use Rattle.squares.specs.Squares.{flag}
use Rattle.laws.specs.declared.ChessRetraction.{ChessRetraction}
use Rattle.retraction_gen.specs.declared.RetractionGen.{RetractionGen}
use Rattle.retraction_gen.specs.declared.Stepped.{Stepped}
use Rattle.retraction_gen.specs.Cursors.{retraction_said, next_says, Answered, back, next_of, Steps}
use Rattle.refusal.proofs.Writing.{no_value}
use Rattle.std.specs.Prelude.{Option, Some, None}

pub steps : (g h : RetractionGen) (a : Option ChessRetraction) → next_of g ≡ back h (next_says a) → Steps g (record { cursor = h; next = a })
steps g h a e = record { cursor = sym (ap (λ (x : Answered). x.cursor) e); answer = sym (ap (λ (x : Answered). x.said) e) }

flag_one : (s t : Bool) → flag s ≡ flag t → s ≡ t
flag_one true true e = refl
flag_one true false e = absurd (omega arith)
flag_one false true e = absurd (omega arith)
flag_one false false e = refl

pub retraction_one : (r q : ChessRetraction) → retraction_said r ≡ retraction_said q → r ≡ q
retraction_one r q e =
    let s : r.source ≡ q.source = cc in
    let t : r.target ≡ q.target = cc in
    let u : r.uncaptured ≡ q.uncaptured = cc in
    let m : r.unpromotion ≡ q.unpromotion = flag_one r.unpromotion q.unpromotion (cc) in
    λ i. record { source = s i; target = t i; uncaptured = u i; unpromotion = m i }

-- what is said settles the answer
pub next_one : (a b : Option ChessRetraction) → next_says a ≡ next_says b → a ≡ b
next_one (Some r) (Some q) e = ap Some (retraction_one r q e)
next_one (Some r) None e = no_value e
next_one None (Some q) e = no_value (sym e)
next_one None None e = refl

-- any two answers agree
pub steps_one : (g : RetractionGen) (r q : Stepped) → Steps g r → Steps g q → r ≡ q
steps_one g r q x y =
    let e = next_one r.next q.next (x.answer ∙ sym y.answer) in
    let f = x.cursor ∙ sym y.cursor in
    λ i. record { cursor = f i; next = e i }
