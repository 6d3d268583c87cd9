-- Slots that are filled from the front hold the list and then what stood there.
use mathlib.Core.Path.{◌≡◌, refl, sym, ap, ◌∙◌}
use mathlib.Core.List.{List, [], ◌∷◌, ◌++◌, map, append_assoc}
use Prim.Native.Nat.{ℕ, ◌+◌, ◌≤◌}
use native.Mathlib.Nat.{not-suc-le-zero, le_of_suc-le-suc}
use native.Mathlib.Omega.{arith}
use lib.ListN.{length, drop, set, length-append, length-map, length-set}
use lib.Seq.{set-append_seam}
use Rattle.laws.specs.declared.ChessRetraction.{ChessRetraction}
use Rattle.laws.specs.Retractions.{packed}
use Rattle.slots.specs.Slots.{fill_from}

fill_after : (xs ys : List ℕ) (n : ℕ) (l : List ChessRetraction) → n ≡ length xs → length l ≤ length ys
    → fill_from (xs ++ ys) n l ≡ xs ++ (map packed l ++ drop (length l) ys)
unfolding fill_from
fill_after xs ys n [] e h = refl
fill_after xs [] n (r ∷ l) e h = absurd (not-suc-le-zero h)
fill_after xs (y ∷ ys) n (r ∷ l) e h =
    ap (λ (k : ℕ). fill_from (set (xs ++ (y ∷ ys)) k (packed r)) (k + 1) l) e
    ∙ ap (λ (s : List ℕ). fill_from s (length xs + 1) l) (set-append_seam xs y ys (packed r) ∙ sym (append_assoc xs (packed r ∷ []) ys))
    ∙ fill_after (xs ++ (packed r ∷ [])) ys (length xs + 1) l (sym (length-append xs (packed r ∷ []))) (le_of_suc-le-suc h)
    ∙ append_assoc xs (packed r ∷ []) (map packed l ++ drop (length l) ys)

pub filled_is : (s : List ℕ) (l : List ChessRetraction) → length l ≤ length s → fill_from s 0 l ≡ map packed l ++ drop (length (map packed l)) s
filled_is s l h = fill_after [] s 0 l refl h ∙ ap (λ (n : ℕ). map packed l ++ drop n s) (sym (length-map l packed))

-- one slot more
pub fill_on : (slots slots₀ whole : List ℕ) (n v : ℕ) (l rest : List ChessRetraction) (r : ChessRetraction) → l ≡ r ∷ rest → v ≡ packed r → n + length l ≤ length slots
    → length slots ≡ length slots₀ → fill_from slots n l ≡ whole
    → (n + 1 + length rest ≤ length (set slots n v)) × ((length (set slots n v) ≡ length slots₀) × (fill_from (set slots n v) (n + 1) rest ≡ whole))
unfolding fill_from
fill_on slots slots₀ whole n v l rest r le ve h same e = (
  rw length-set (omega (arith, ap length le)),
  (rw length-set same, ap (λ (k : ℕ). fill_from (set slots n k) (n + 1) rest) ve ∙ sym (ap (fill_from slots n) le) ∙ e),
)
