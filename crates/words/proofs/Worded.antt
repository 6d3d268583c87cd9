-- Words added one after the other.
use mathlib.Core.Path.{◌≡◌, refl, ap₂}
use mathlib.Core.Bool.{Bool}
use mathlib.Core.List.{List, ◌++◌}
use Prim.Native.Nat.{ℕ, zero, suc, ◌^◌, ◌+◌, ◌≤◌, ◌<◌}
use native.Mathlib.Omega.{arith}
use lib.ListN.{length, length-append}
use Rattle.geometry.specs.declared.Color.{Color}
use Rattle.laws.specs.declared.ChessRetraction.{ChessRetraction}
use Rattle.output.specs.Appending.{Adds}
use Rattle.rows.specs.Rows.{decimal_of}
use Rattle.men_field.specs.Placement.{square_name}
use Rattle.output.proofs.Adding.{adds_as, adds_then}
use Rattle.words.specs.Words.{bytes, side_name, name_of, moved_kind, way_text, deed_text, becoming_text, verdict_text, subject_text, words_of}
use Rattle.words.proofs.Chained.{four_added, five_added}
use Rattle.words.proofs.Lengths.{name_short, subject_short, way_short, words_short}

module _ {o o₁ o₂ o₃ o₄ : List ℕ} {len n₁ n₂ n₃ n₄ : ℕ} where
  pub way_added : (r : ChessRetraction) → len + 14 ≤ length o → Adds o len (bytes " from ") n₁ o₁ → Adds o₁ n₁ (square_name r.target) n₂ o₂
      → Adds o₂ n₂ (bytes " to ") n₃ o₃ → Adds o₃ n₃ (square_name r.source) n₄ o₄ → Adds o len (way_text r) n₄ o₄
  way_added r h p₁ p₂ p₃ p₄ = four_added p₁ p₂ p₃ p₄ (omega (arith, way_short r))

  pub subject_added : {o₅ : List ℕ} {n₅ : ℕ} (n : ℕ) (c : Color) (k : ℕ) → n < 2 ^ 64 → len + 36 ≤ length o → Adds o len (decimal_of n) n₁ o₁
      → Adds o₁ n₁ (bytes ". ") n₂ o₂ → Adds o₂ n₂ (side_name c) n₃ o₃ → Adds o₃ n₃ (bytes "'s ") n₄ o₄ → Adds o₄ n₄ (name_of k) n₅ o₅
      → Adds o len (subject_text n c k) n₅ o₅
  subject_added n c k f h p₁ p₂ p₃ p₄ p₅ = five_added p₁ p₂ p₃ p₄ (omega (arith, subject_short n c k f)) p₅

  -- by what the callees answer: the side, today's kind and the kind that moved
  pub words_added : {o₅ : List ℕ} {n₅ : ℕ} (n : ℕ) (c d : Color) (k j m : ℕ) (r : ChessRetraction) (strict : Bool) → n < 2 ^ 64 → c ≡ d → k ≡ j → m ≡ moved_kind k r
      → len + 101 ≤ length o → Adds o len (subject_text n c m) n₁ o₁ → Adds o₁ n₁ (way_text r) n₂ o₂ → Adds o₂ n₂ (deed_text k r) n₃ o₃
      → Adds o₃ n₃ (becoming_text k r) n₄ o₄ → Adds o₄ n₄ (verdict_text strict) n₅ o₅ → Adds o len (words_of n d j r strict) n₅ o₅
  unfolding words_of
  words_added {o₅} {n₅} n c d k j m r strict f e g i h p₁ p₂ p₃ p₄ p₅ =
      let w : Adds o len (words_of n c k r strict) n₅ o₅ = five_added (rw i at p₁) p₂ p₃ p₄ (omega (arith, words_short n c k r strict f)) p₅ in
      adds_as _ _ _ _ _ _ w (ap₂ (λ (x : Color) (y : ℕ). words_of n x y r strict) e g)

-- the kind's name behind a text
pub name_added : {o o₁ o₂ : List ℕ} {len n₁ n₂ : ℕ} (t : List ℕ) (k : ℕ) → length t ≤ 13 → len + 19 ≤ length o → Adds o len t n₁ o₁
    → Adds o₁ n₁ (name_of k) n₂ o₂ → Adds o len (t ++ name_of k) n₂ o₂
name_added {o} {o₁} {o₂} {len} {n₁} {n₂} t k s h p₁ p₂ =
    adds_then o o₁ o₂ t (name_of k) len n₁ n₂ (omega (arith, name_short k, length-append t (name_of k))) p₁ p₂

-- a number that is no kind's
pub name_rest : (k : ℕ) → (((((Unit {0} × (k ≡ 1 → ⊥)) × (k ≡ 2 → ⊥)) × (k ≡ 3 → ⊥)) × (k ≡ 4 → ⊥)) × (k ≡ 5 → ⊥)) × (k ≡ 6 → ⊥) → bytes "man" ≡ name_of k
name_rest zero h = refl
name_rest (suc zero) h = absurd (h.0.0.0.0.0.1 refl)
name_rest (suc (suc zero)) h = absurd (h.0.0.0.0.1 refl)
name_rest (suc (suc (suc zero))) h = absurd (h.0.0.0.1 refl)
name_rest (suc (suc (suc (suc zero)))) h = absurd (h.0.0.1 refl)
name_rest (suc (suc (suc (suc (suc zero))))) h = absurd (h.0.1 refl)
name_rest (suc (suc (suc (suc (suc (suc zero)))))) h = absurd (h.1 refl)
name_rest (suc (suc (suc (suc (suc (suc (suc k))))))) h = refl
