-- The first place of a search that is not in a set of places.
use Rattle.std.specs.Prelude.{◌≡◌, Bool, true, false, ℕ, ◌<◌}
use Rattle.laws.specs.StrictLists.{retraction_at}
use Rattle.solution.specs.declared.Checked.{Checked}
use Rattle.solution.specs.declared.Checked.TheVariants.{Complete, Wrong, Incomplete}

-- all places below n that pass f are marked by m
abbrev pub AllMarked : (ℕ → Bool) → (ℕ → Bool) → ℕ → Type 0
AllMarked f m n = (i : ℕ) → i < n → f i ≡ true → m i ≡ true

-- all that pass are marked, or the first that is not
abbrev pub Lacks : (ℕ → Bool) → (ℕ → Bool) → Checked → Type 0
Lacks f m Complete = AllMarked f m 49152
Lacks f m (Wrong k) = ⊥
Lacks f m (Incomplete q) = (j : ℕ) × (j < 49152) × (q ≡ retraction_at j) × (f j ≡ true) × (m j ≡ false) × AllMarked f m j
