-- The texts of a list's members, added one after the other.
use mathlib.Core.Path.{◌≡◌, sym, ◌∙◌, ap, subst}
use mathlib.Core.List.{List, [], ◌∷◌, ◌++◌, append-nil}
use Prim.Native.Nat.{ℕ, ◌+◌, ◌≤◌, ◌<◌}
use native.Mathlib.Numerals.{add-one}
use native.Mathlib.Omega.{arith}
use lib.ListN.{length, get_or, take, drop, length-append, take-append-drop}
use lib.Seq.{take-suc}
use Rattle.squares.specs.Members.{concat}
use Rattle.output.specs.Appending.{Adds}
use Rattle.squares.proofs.Members.{concat_both}
use Rattle.output.proofs.Adding.{adds_then}

-- the text of one member more
module _ (f : ℕ → List ℕ) (l : List ℕ) (i : ℕ) (h : i < length l) where
  concat_next : concat f (take (i + 1) l) ≡ concat f (take i l) ++ f (get_or l i 0)
  unfolding concat
  concat_next =
      rw add-one
      (ap (concat f) (take-suc l i 0 h)
      ∙ concat_both f (take i l) (get_or l i 0 ∷ [])
      ∙ ap (λ (t : List ℕ). concat f (take i l) ++ t) (append-nil (f (get_or l i 0))))

  short : length (concat f (take i l) ++ f (get_or l i 0)) ≤ length (concat f l)
  short =
      let e = ap length (ap (concat f) (sym (take-append-drop (i + 1) l)) ∙ concat_both f (take (i + 1) l) (drop (i + 1) l)) in
      omega (arith, ap length concat_next, e, length-append (concat f (take (i + 1) l)) (concat f (drop (i + 1) l)))

  pub adds_next : (o x y : List ℕ) (len r s : ℕ) → len + length (concat f l) ≤ length o → Adds o len (concat f (take i l)) r x → Adds x r (f (get_or l i 0)) s y
      → Adds o len (concat f (take (i + 1) l)) s y
  adds_next o x y len r s room p q =
      subst (λ (t : List ℕ). Adds o len t s y) (sym concat_next)
      (adds_then o x y (concat f (take i l)) (f (get_or l i 0)) len r s (omega (arith, short)) p q)
