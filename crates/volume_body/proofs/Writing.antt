-- Laws of bytes that are added to a line, and the length of a body.
use mathlib.Core.Path.{◌≡◌, refl, ◌∙◌}
use mathlib.Core.List.{[], ◌∷◌, append_assoc}
use Prim.Native.Nat.{ℕ, zero, suc, ◌+◌}
use native.Mathlib.Omega.{arith}
use native.Mathlib.Numerals.{add-one}
use lib.ListN.{length, length-append}
use Rattle.geometry.specs.declared.Color.{Color}
use Rattle.laws.specs.declared.CastleRights.{CastleRights}
use Rattle.laws.specs.declared.EnPassantFlag.{EnPassantFlag}
use Rattle.laws.specs.Men.{Men}
use Rattle.men_field.specs.declared.Line.{Line}
use Rattle.men_field.specs.inner.Lines.{Added, Holds}
use Rattle.men_field.proofs.Adding.{holds_none, holds_more}
use Rattle.volume_body.specs.Layout.{pair_at, men_bytes, head_byte, state_byte, body_of}

-- the bytes of the men: none yet, and one more
pub pairs_length : (m : Men) (n : ℕ) → length (men_bytes m n) ≡ n
unfolding men_bytes
pairs_length m zero = refl
pairs_length m (suc n) = omega (arith, pairs_length m n, length-append (men_bytes m n) (pair_at m n ∷ []))

pub pairs_none : (m : Men) (l : Line) → l.len ≡ 0 → Holds l (men_bytes m 0)
unfolding men_bytes
pairs_none m l e = holds_none l e

pub pairs_len : (m : Men) (n : ℕ) {l : Line} → Holds l (men_bytes m n) → l.len ≡ n
pairs_len m n h = h.len ∙ pairs_length m n

pub pairs_more : (m : Men) (n b : ℕ) {l r : Line} → Holds l (men_bytes m n) → b ≡ pair_at m n → Added l (b ∷ []) r → Holds r (men_bytes m (n + 1))
unfolding men_bytes
pairs_more m n b h e a = rw (add-one n, ← e) (holds_more h a)

module _ (m : Men) (c : Color) (w b : CastleRights) (e : EnPassantFlag) where
  pub body_length : length (body_of m c w b e) ≡ 34
  unfolding body_of
  body_length = omega (arith, pairs_length m 32, length-append (men_bytes m 32) (head_byte c w b ∷ state_byte e ∷ []))

  held : {l k r : Line} (x y : ℕ) → Holds l (men_bytes m 32) → x ≡ head_byte c w b → Added l (x ∷ []) k → y ≡ state_byte e → Added k (y ∷ []) r
      → Holds r (body_of m c w b e)
  unfolding body_of
  held x y h p a q d = rw (← p, ← q) (rw append_assoc at (holds_more (holds_more h a) d))

  -- the men, the head and the state are a body
  pub body_held : {l k r : Line} (x y : ℕ) → Holds l (men_bytes m 32) → x ≡ head_byte c w b → Added l (x ∷ []) k → y ≡ state_byte e → Added k (y ∷ []) r
      → Holds r (body_of m c w b e) × (r.len ≡ 34)
  body_held x y h p a q d = let z = held x y h p a q d in (z, z.len ∙ body_length)
