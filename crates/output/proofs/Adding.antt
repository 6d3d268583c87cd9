-- Bytes added one after the other.
use mathlib.Core.Path.{◌≡◌, refl, sym, ◌∙◌, ap, ap₂, subst}
use mathlib.Core.Bool.{Bool, true, false, cond}
use mathlib.Core.List.{List, [], ◌++◌, append_assoc}
use Prim.Native.Nat.{ℕ, ◌+◌, ◌≤◌}
use native.Mathlib.Nat.{le_refl, add-zero}
use native.Mathlib.Omega.{arith}
use lib.Dec.{leb}
use lib.ListN.{length, take, drop, length-append}
use lib.Seq.{paste, paste-zero, take-length, drop-drop, drop-paste}
use Rattle.output.specs.Appending.{Adds}
use Rattle.output.proofs.Added.{adds, added_len_lem, added_out_lem, added_bytes, added_length}

pub adds_as : (o x b d : List ℕ) (len r : ℕ) → Adds o len b r x → b ≡ d → Adds o len d r x
adds_as o x b d len r a e = subst (λ (t : List ℕ). Adds o len t r x) e a

-- no bytes are always added
pub adds_nothing : (o : List ℕ) (len : ℕ) → Adds o len [] len o
adds_nothing o len = record { used = used (leb (len + 0) (length o)); holds = holds (leb (len + 0) (length o)) }
  where
    used : (t : Bool) → len ≡ cond t (len + 0) len
    used true = sym (add-zero len)
    used false = refl

    holds : (t : Bool) → o ≡ cond t (paste o len [] 0) o
    holds true = paste-zero o len []
    holds false = refl

-- bytes, and then others behind them, where there is room for both
module _ (o x y b c : List ℕ) (len r s : ℕ) (room : len + length (b ++ c) ≤ length o) (p : Adds o len b r x) (q : Adds x r c s y) where
  first : len + length b ≤ length o
  first = omega (arith, length-append b c)

  used : r ≡ len + length b
  used = added_len_lem o b x len r p first

  second : r + length c ≤ length x
  second = omega (arith, length-append b c, used, added_length o b x len r p first)

  -- what stands behind the first bytes stands there still
  behind : drop (r + length c) x ≡ drop (len + length (b ++ c)) o
  behind =
      let e = added_out_lem o b x len r p first in
      let k : len + length b + length c ≡ len + length (b ++ c) = omega (arith, length-append b c) in
      sym (drop-drop (length c) r x)
      ∙ ap (drop (length c)) (ap₂ drop used e ∙ drop-paste o len b (length b) (omega arith) (le_refl (length b)))
      ∙ drop-drop (length c) (len + length b) o
      ∙ ap (λ (i : ℕ). drop i o) k

  pub adds_then : Adds o len (b ++ c) s y
  adds_then =
      let e : s ≡ len + length (b ++ c) = omega (arith, length-append b c, used, added_len_lem x c y r s q second) in
      let y_is = added_out_lem x c y r s q second in
      let front : take r x ++ take (length c) c ≡ take len o ++ take (length (b ++ c)) (b ++ c) =
      ap₂ (λ (i j : List ℕ). i ++ j) (added_bytes o b x len r p first) (take-length c)
      ∙ append_assoc (take len o) b c ∙ ap (λ (i : List ℕ). take len o ++ i) (sym (take-length (b ++ c))) in
      subst (λ (i : ℕ). Adds o len (b ++ c) i y) (sym e) (adds o (b ++ c) len room y (y_is ∙ ap₂ (λ (i j : List ℕ). i ++ j) front behind))
