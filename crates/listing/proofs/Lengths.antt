-- How many retractions an entry gives; and that a `usize` can count the sequence of at most 47 entries.
use mathlib.Core.Path.{◌≡◌, sym, ap, ap₂, ◌∙◌}
use mathlib.Core.List.{List, [], ◌∷◌}
use Prim.Native.Nat.{ℕ, ◌+◌, ◌*◌, ◌≤◌, ◌<◌, ◌^◌}
use native.Mathlib.Nat.{le_refl, le_trans, add_comm, suc-mul, mul-le-mul}
use native.Mathlib.Omega.{arith}
use lib.Dec.{lit<}
use lib.ListN.{length, length-append, length-map}
use Rattle.squares.specs.Squares.{has, size}
use Rattle.squares.specs.Members.{members, concat}
use Rattle.laws.specs.declared.ChessRetraction.{ChessRetraction}
use Rattle.retraction_list.specs.declared.SourceAndTargets.{SourceAndTargets}
use Rattle.retraction_gen.specs.Sequence.{at_target, sequence_of}
use Rattle.squares.proofs.Counting.{count_le}
use Rattle.listing.specs.inner.Giving.{uncaptures_of, retraction, of_target, of_entry}
use Rattle.listing.proofs.Numbers.{size_members}
use Rattle.listing.proofs.Allowed.{unpromotes, target_gives}

target_length : (ms : List ℕ) (e : SourceAndTargets) (t : ℕ) → length (at_target ms e t) ≡ size (uncaptures_of ms e)
unfolding of_target
target_length ms e t =
    ap length (target_gives ms e t)
    ∙ length-map (members (uncaptures_of ms e)) (retraction e.source (unpromotes e) t)
    ∙ sym (size_members (uncaptures_of ms e))

concat_length : (c : ℕ) (f : ℕ → List ChessRetraction) (ks : List ℕ) → ((k : ℕ) → length (f k) ≡ c) → length (concat f ks) ≡ length ks * c
unfolding concat
concat_length c f [] h = omega arith
concat_length c f (k ∷ ks) h = length-append (f k) (concat f ks) ∙ ap₂ ◌+◌ (h k) (concat_length c f ks h) ∙ sym (suc-mul (length ks) c ∙ add_comm (length ks * c) c)

-- targets times uncaptures
pub entry_length : (ms : List ℕ) (e : SourceAndTargets) → length (of_entry ms e) ≡ size e.targets * size (uncaptures_of ms e)
unfolding of_entry
entry_length ms e =
    concat_length (size (uncaptures_of ms e)) (at_target ms e) (members e.targets) (target_length ms e)
    ∙ ap (λ (n : ℕ). n * size (uncaptures_of ms e)) (sym (size_members e.targets))

pub product_le : (a b : ℕ) → size a * size b ≤ 4096
product_le a b = mul-le-mul (count_le 64 (has a)) (count_le 64 (has b))

sequence_le : (ms : List ℕ) (es : List SourceAndTargets) → length (sequence_of ms es) ≤ length es * 4096
unfolding sequence_of of_entry
sequence_le ms [] = le_refl 0
sequence_le ms (e ∷ es) =
    omega (arith, length-append (of_entry ms e) (sequence_of ms es), entry_length ms e, product_le e.targets (uncaptures_of ms e), sequence_le ms es)

pub sequence_fits : (ms : List ℕ) (es : List SourceAndTargets) → length es ≤ 47 → length (sequence_of ms es) < 2 ^ 64
sequence_fits ms es h =
    let a : length (sequence_of ms es) < 192513 = omega (arith, sequence_le ms es) in
    let b : 192513 ≤ 2 ^ 64 = lit< tt in
    le_trans a b
