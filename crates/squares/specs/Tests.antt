-- Conjunction and disjunction of tests. They are the library's `&&` and `||`, shut, so that a proof takes a conjunction apart by its
-- shape; a proof that has to compute with them says `unfolding _and_ _or_`, and then they are the code's `&` and `|`.
use Rattle.std.specs.Prelude.{Bool, true, false}

infixl 35 ◌and◌
infixl 30 ◌or◌
unfoldable pub ◌and◌ : Bool → Bool → Bool
true and b = b
false and b = false

unfoldable pub ◌or◌ : Bool → Bool → Bool
true or b = true
false or b = b
