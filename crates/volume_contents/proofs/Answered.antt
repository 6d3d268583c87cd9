-- Two answers are the same where their numbers, or their reasons, are.
use mathlib.Core.Path.{◌≡◌}
use Prim.Native.Nat.{ℕ}
use Rattle.std.specs.Prelude.{Ok, Err}
use Rattle.volume_contents.specs.declared.Why.{Why}
use Rattle.volume_contents.specs.Refusing.{Written}

pub count_same : {a b : ℕ} → a ≡ b → ◌≡◌ {A = Written} (Ok a) (Ok b)
count_same e = λ i. Ok (e i)

pub why_same : {a b : Why} → a ≡ b → ◌≡◌ {A = Written} (Err a) (Err b)
why_same e = λ i. Err (e i)
