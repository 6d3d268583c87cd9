-- Any two answers that 17 allows are the same.
use mathlib.Core.Path.{◌≡◌, refl, sym, ◌∙◌, ap}
use mathlib.Core.Bool.{Bool}
use mathlib.Core.List.{List}
use mathlib.Core.Logic.{⊎_elim}
use Prim.Native.Nat.{ℕ, suc, ◌≤◌, ◌<◌}
use native.Mathlib.Omega.{arith}
use Rattle.squares.proofs.Testing.{order}
use Rattle.volume_contents.specs.declared.Flaw.{Flaw}
use Rattle.std.specs.Prelude.{Ok, Err}
use Rattle.volume_contents.specs.Contents.{Tested, problems, tested_at, Table, Spoilt, head, row}
use Rattle.volume_contents.proofs.Sound.{sound_not}

flaw_one : (t : Tested) (w u : Flaw) → t ≡ Err w → t ≡ Err u → w ≡ u
flaw_one t w u p q = cc

both_ways : (t : Tested) (w : Flaw) → t ≡ Err w → t ≡ Ok tt → ⊥
both_ways t w p q = sound_not w (sym p ∙ q)

-- what is sound up to a row has no flaw before it
behind : (f : ℕ → Tested) (i j : ℕ) (w : Flaw) → ((k : ℕ) → k < j → f k ≡ Ok tt) → f i ≡ Err w → j ≤ i
behind f i j w s e = ⊎_elim (λ h. absurd (both_ways (f i) w e (s i h))) (λ h. h) (order i j)

pub spoilt_one : (back : Bool) (v : List ℕ) (j k : ℕ) (w u : Flaw) → Spoilt back v j w → Spoilt back v k u → (j ≡ k) × (w ≡ u)
spoilt_one back v j k w u (head _ a) (head _ b) = (refl, flaw_one _ w u a b)
spoilt_one back v j k w u (head _ a) (row _ _ b _ _ _) = absurd (both_ways _ w a b)
spoilt_one back v j k w u (row _ _ a _ _ _) (head _ b) = absurd (both_ways _ u b a)
spoilt_one back v j k w u (row i _ _ _ s a) (row l _ _ _ t b) =
    let f = tested_at back v (problems v) in
    let e : i ≡ l = omega (arith, behind f i l w t a, behind f l i u s b) in
    (ap suc e, flaw_one (f l) w u (ap f (sym e) ∙ a) b)

pub sound_spoilt : (back : Bool) (v : List ℕ) (n k : ℕ) (w : Flaw) → Table back v n → Spoilt back v k w → ⊥
sound_spoilt back v n k w t (head _ a) = both_ways _ w a t.head
sound_spoilt back v n k w t (row i _ _ h _ a) =
    both_ways _ w a (ap (λ (m : ℕ). tested_at back v m i) t.count ∙ t.rows i (omega (arith, t.count)))

pub table_one : (back : Bool) (v : List ℕ) (n m : ℕ) → Table back v n → Table back v m → n ≡ m
table_one back v n m t u = sym t.count ∙ u.count
