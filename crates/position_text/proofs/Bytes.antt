-- Bytes copied into a slice, and compared with one.
use mathlib.Core.Path.{◌≡◌, refl, sym, ◌∙◌}
use mathlib.Core.Bool.{Bool, true, false, cond}
use mathlib.Core.List.{List, [], ◌++◌}
use Prim.Native.Nat.{ℕ, ◌≤◌, ◌<◌}
use native.Mathlib.Omega.{arith}
use lib.Dec.{ltb}
use lib.ListN.{length, take, drop}
use lib.Seq.{length-take-le}
use borrow.Author.Tests.{lt-ltb, le-ltb, ltb-false}
use Rattle.refusal.specs.Said.{Writes}
use Rattle.position_text.specs.inner.Copies.{copied_says, SameAs}
use Rattle.refusal.proofs.Writing.{writes_roomless, writes_whole}
use Rattle.std.specs.Prelude.{Err, Ok}

-- n bytes of b, which o has no room for, or has
module _ (b o : List ℕ) (n w : ℕ) (fit : n ≤ length b) (said : w ≡ cond (ltb (length o) n) 0 n) where
  long : length (take n b) ≡ n
  long = length-take-le n b fit

  -- what is copied is no longer than the text and than the slice
  pub fits : (w ≤ n) × (w ≤ length o)
  fits = go (ltb (length o) n) refl
    where
      go : (x : Bool) → ltb (length o) n ≡ x → (w ≤ n) × (w ≤ length o)
      go true e = let z : w ≡ 0 = (rw e at said) in (omega arith, omega arith)
      go false e = let z : w ≡ n = (rw e at said) in (omega arith, omega (arith, ltb-false (length o) n e))

  pub room : {x : List ℕ} → length o < n → x ≡ take w b ++ drop w o → Writes [] (take n b) o (copied_says (Err n)) x
  room h e =
      let k : ltb (length o) n ≡ true = lt-ltb (length o) n h in
      let z : w ≡ 0 = (rw k at said) in
      let d : _ ≡ o = e ∙ simp z in
      rw d (writes_roomless n (sym long) h)

  pub all : {x : List ℕ} → n ≤ length o → x ≡ take w b ++ drop w o → Writes [] (take n b) o (copied_says (Ok n)) x
  all h e =
      let k : ltb (length o) n ≡ false = le-ltb (length o) n h in
      let z : w ≡ n = (rw k at said) in
      writes_whole n (sym long) h (e ∙ simp (long, z))

pub same_true : (a b : List ℕ) (x : Bool) → x ≡ true → SameAs a b x → a ≡ b
same_true a b x e h = rw e at h

pub same_false : (a b : List ℕ) (x : Bool) → x ≡ false → SameAs a b x → a ≡ b → ⊥
same_false a b x e h = rw e at h
