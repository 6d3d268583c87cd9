-- The lengths of a volume and its parts; rows of old lines.
use mathlib.Core.Path.{◌≡◌, refl, sym, ◌∙◌, ap}
use mathlib.Core.List.{List, [], ◌∷◌, ◌++◌, append_assoc, append-nil}
use Prim.Native.Nat.{ℕ, zero, suc, ◌+◌, ◌*◌}
use native.Mathlib.Omega.{arith}
use lib.ListN.{length, length-append}
use Rattle.laws.specs.declared.Position.{Position}
use Rattle.laws.specs.Boards.{men_in}
use Rattle.volume_body.specs.Layout.{bodied}
use Rattle.volume_body.proofs.Writing.{body_length}
use Rattle.volume_contents.specs.Layout.{head_of, row_of, body_place}
use Rattle.volume_lines.specs.Register.{AllTold}
use Rattle.volume_make.specs.Volumes.{Problem, rows_of, bodies_of, volume_of, numbered_from, bound}
use Rattle.volume_make.specs.inner.Filling.{joined, plain_row}

pub bodied_length : (p : Position) → length (bodied p) ≡ 34
bodied_length p = body_length (men_in p) p.turn p.white p.black p.passant

pub numbered_length : (k : ℕ) (ps : List Position) → length (numbered_from k ps) ≡ length ps
unfolding numbered_from
numbered_length k [] = refl
numbered_length k (p ∷ ps) = ap suc (numbered_length (k + 1) ps)

pub rows_length : (place : ℕ) (ps : List Problem) → length (rows_of place ps) ≡ 8 * length ps
unfolding rows_of
rows_length place [] = refl
rows_length place (p ∷ ps) =
    omega (arith, length-append (row_of p.number p.board.terms.edition place) (rows_of (place + 34) ps), rows_length (place + 34) ps)

pub bodies_length : (ps : List Problem) → length (bodies_of ps) ≡ 34 * length ps
unfolding bodies_of
bodies_length [] = refl
bodies_length (p ∷ ps) = omega (arith, length-append (bodied p.board) (bodies_of ps), bodied_length p.board, bodies_length ps)

pub volume_length : (ps : List Problem) → length (volume_of ps) ≡ 6 + 42 * length ps
unfolding volume_of
volume_length ps =
    let r = rows_of (body_place (length ps) 0) ps in
    omega (arith, length-append (head_of (length ps) ++ r) (bodies_of ps), length-append (head_of (length ps)) r, rows_length (body_place (length ps) 0) ps, bodies_length ps)

pub bound_length : (ps : List Position) → length (bound ps) ≡ 6 + 42 * length ps
bound_length ps = omega (arith, volume_length (numbered_from 1 ps), numbered_length 1 ps)

-- the rows of n old lines, from the row i on
pub joined_front : (f : ℕ → List ℕ) (n : ℕ) → joined f (suc n) ≡ f 0 ++ joined (λ i. f (suc i)) n
unfolding joined
joined_front f zero = sym (append-nil (f 0))
joined_front f (suc n) =
    ap (λ (z : List ℕ). z ++ f (suc n)) (joined_front f n) ∙ append_assoc (f 0) (joined (λ i. f (suc i)) n) (f (suc n))

pub rows_plain : (n k : ℕ) (ps : List Position) (f : ℕ → List ℕ) → AllTold ps → ((i : ℕ) → f i ≡ plain_row n (k + i))
    → rows_of (body_place n k) (numbered_from (k + 1) ps) ≡ joined f (length ps)
unfolding rows_of numbered_from joined
rows_plain n k [] f a g = refl
rows_plain n k (p ∷ ps) f a g =
    (λ i. row_of (k + 1) (a.0.edition i).edition (body_place n k) ++ rows_of (next i) (numbered_from (k + 1 + 1) ps))
    ∙ (λ i. first i ++ rows_plain n (k + 1) ps (λ j. f (suc j)) a.1 (λ j. g (suc j) ∙ ap (plain_row n) (over j)) i)
    ∙ sym (joined_front f (length ps))
  where
    next : body_place n k + 34 ≡ body_place n (k + 1)
    next = omega arith

    none : k ≡ k + 0
    none = omega arith

    first : plain_row n k ≡ f 0
    first = ap (plain_row n) none ∙ sym (g 0)

    over : (j : ℕ) → k + suc j ≡ k + 1 + j
    over j = omega arith
