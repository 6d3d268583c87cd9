-- A sound volume whose rows have boards is, byte by byte, the volume of its problems.
use mathlib.Core.Path.{◌≡◌, refl, sym, ◌∙◌, ap, ap₂}
use mathlib.Core.Bool.{Bool}
use mathlib.Core.List.{List, [], ◌∷◌, ◌++◌}
use Prim.Native.Nat.{ℕ, zero, suc, ◌+◌, ◌*◌, ◌/◌, ◌%◌, ◌≤◌, ◌<◌}
use native.Mathlib.Omega.{arith}
use native.Mathlib.Numerals.{add-one}
use lib.ListN.{length, get_or, take, drop, length-drop, take-append-drop}
use lib.Seq.{drop-cons, drop-drop, take-add, take_all}
use Rattle.laws.specs.declared.Edition.{Edition}
use Rattle.laws.specs.declared.Position.{Position}
use Rattle.volume_contents.specs.Layout.{head_of, edition_byte, row_of, body_place}
use Rattle.volume_contents.specs.Contents.{problems, row_at, Table}
use Rattle.volume_contents.proofs.Sound.{row_of_lem, head_of_lem, size_of_lem}
use Rattle.volume_make.specs.Volumes.{rows_of, bodies_of, volume_of}
use Rattle.volume_read.specs.Problems.{problems_from, problems_of}
use Rattle.volume_read.specs.Reading.{Boards, Whole}

-- what a slice of bytes has
abbrev pub Bytes : List ℕ → Type 0
Bytes v = (i : ℕ) → get_or v i 0 < 256

-- n elements from a on
from_to : List ℕ → ℕ → ℕ → List ℕ
from_to v a zero = []
from_to v a (suc n) = get_or v a 0 ∷ from_to v (a + 1) n

from_to_lem : (v : List ℕ) (a n : ℕ) → a + n ≤ length v → take n (drop a v) ≡ from_to v a n
unfolding from_to
from_to_lem v a zero h = refl
from_to_lem v a (suc n) h =
    ap (take (suc n)) (drop-cons v a 0 (omega arith)) ∙ ap (λ (l : List ℕ). get_or v a 0 ∷ take n l) (ap (λ (i : ℕ). drop i v) (sym (add-one a)))
    ∙ ap (λ (l : List ℕ). get_or v a 0 ∷ l) (from_to_lem v (a + 1) n (omega arith))

at : (v : List ℕ) (i j x : ℕ) → i ≡ j → get_or v j 0 ≡ x → get_or v i 0 ≡ x
at v i j x e q = ap (λ (k : ℕ). get_or v k 0) e ∙ q

low : (x d : ℕ) → d < 256 → (256 * x + d) % 256 ≡ d
low x d h = omega arith

shape : (a b c d : ℕ) → 65536 * (256 * a + b) + (256 * c + d) ≡ 256 * (256 * (256 * a + b) + c) + d
shape a b c d = omega arith

-- four bytes of a number
digits : (a b c d p : ℕ) → a < 256 → b < 256 → c < 256 → d < 256 → 65536 * (256 * a + b) + (256 * c + d) ≡ p
    → (a ≡ p / 16777216 % 256) × (b ≡ p / 65536 % 256) × (c ≡ p / 256 % 256) × (d ≡ p % 256)
digits a b c d p ha hb hc hd e =
    let x : p / 16777216 ≡ a = omega arith in
    let y : p / 65536 ≡ 256 * a + b = omega arith in
    let z : p / 256 ≡ 256 * (256 * a + b) + c = omega arith in
    let s : a % 256 ≡ a = omega arith in
    let u : p / 65536 % 256 ≡ b = ap (λ (k : ℕ). k % 256) y ∙ low a b hb in
    let w : p / 256 % 256 ≡ c = ap (λ (k : ℕ). k % 256) z ∙ low (256 * a + b) c hc in
    let q : p / 16777216 % 256 ≡ a = ap (λ (k : ℕ). k % 256) x ∙ s in
    (sym q, sym u, sym w, sym (ap (λ (k : ℕ). k % 256) (sym e ∙ shape a b c d) ∙ low (256 * (256 * a + b) + c) d hd))

module _ (back : Bool) (v : List ℕ) (n : ℕ) (b : Bytes v) (t : Table back v n) where
  head_so : take 6 v ≡ head_of n
  unfolding from_to
  head_so =
      let h = head_of_lem back v n t in
      let c : problems v ≡ n = t.count in
      let b0 : get_or v 0 0 ≡ 86 = h.v_is in
      let b1 : get_or v (0 + 1) 0 ≡ 79 = at v (0 + 1) 1 79 (omega arith) h.o_is in
      let b2 : get_or v (0 + 1 + 1) 0 ≡ 76 = at v (0 + 1 + 1) 2 76 (omega arith) h.l_is in
      let b3 : get_or v (0 + 1 + 1 + 1) 0 ≡ 1 = at v (0 + 1 + 1 + 1) 3 1 (omega arith) h.version_is in
      let b4 : get_or v (0 + 1 + 1 + 1 + 1) 0 ≡ n / 256 % 256 = at v (0 + 1 + 1 + 1 + 1) 4 _ (omega arith) (omega (arith, b 4, b (4 + 1))) in
      let b5 : get_or v (0 + 1 + 1 + 1 + 1 + 1) 0 ≡ n % 256 = at v (0 + 1 + 1 + 1 + 1 + 1) 5 _ (omega arith) (omega (arith, b 4, b (4 + 1))) in
      from_to_lem v 0 6 (omega (arith, size_of_lem back v n t)) ∙ cc

  row_so : (i : ℕ) (e : Edition) → i < n → edition_byte e ≡ (row_at v i).edition → take 8 (drop (6 + 8 * i) v) ≡ row_of (row_at v i).number e (body_place n i)
  unfolding from_to
  row_so i e h q =
      let r = row_of_lem back v n t i h in
      let a = 6 + 8 * i in
      let b0 : get_or v (6 + 8 * i) 0 ≡ (row_at v i).number / 256 % 256 = omega (arith, b (6 + 8 * i), b (6 + 8 * i + 1)) in
      let b1 : get_or v (6 + 8 * i + 1) 0 ≡ (row_at v i).number % 256 = omega (arith, b (6 + 8 * i), b (6 + 8 * i + 1)) in
      let b2 : get_or v (6 + 8 * i + 1 + 1) 0 ≡ edition_byte e = at v (6 + 8 * i + 1 + 1) (6 + 8 * i + 2) (edition_byte e) (omega arith) (sym q) in
      let d = digits (get_or v (6 + 8 * i + 3) 0) (get_or v (6 + 8 * i + 3 + 1) 0) (get_or v (6 + 8 * i + 5) 0) (get_or v (6 + 8 * i + 5 + 1) 0) (body_place n i) (b (6 + 8 * i + 3)) (b (6 + 8 * i + 3 + 1)) (b (6 + 8 * i + 5)) (b (6 + 8 * i + 5 + 1)) r.place_is in
      let b3 = at v (6 + 8 * i + 1 + 1 + 1) (6 + 8 * i + 3) _ (omega arith) d.0 in
      let b4 = at v (6 + 8 * i + 1 + 1 + 1 + 1) (6 + 8 * i + 3 + 1) _ (omega arith) d.1 in
      let b5 = at v (6 + 8 * i + 1 + 1 + 1 + 1 + 1) (6 + 8 * i + 5) _ (omega arith) d.2 in
      let b6 = at v (6 + 8 * i + 1 + 1 + 1 + 1 + 1 + 1) (6 + 8 * i + 5 + 1) _ (omega arith) d.3 in
      let b7 : get_or v (6 + 8 * i + 1 + 1 + 1 + 1 + 1 + 1 + 1) 0 ≡ 34 = at v (6 + 8 * i + 1 + 1 + 1 + 1 + 1 + 1 + 1) (6 + 8 * i + 7) 34 (omega arith) r.length_is in
      from_to_lem v (6 + 8 * i) 8 (omega (arith, size_of_lem back v n t)) ∙ cc

  -- the rows from i on
  rows_so : (i : ℕ) (ps : List Position) → i + length ps ≤ n → Boards v n i ps → rows_of (body_place n i) (problems_from v i ps) ≡ take (8 * length ps) (drop (6 + 8 * i) v)
  unfolding rows_of problems_from
  rows_so i [] h s = refl
  rows_so i (p ∷ ps) h s =
      let z : body_place n i + 34 ≡ body_place n (suc i) = omega arith in
      let y : 6 + 8 * suc i ≡ 6 + 8 * i + 8 = omega arith in
      let x : 8 + 8 * length ps ≡ 8 * suc (length ps) = omega arith in
      ap₂ (λ (l r : List ℕ). l ++ r) (sym (row_so i p.terms.edition (omega arith) s.0.0.edition))
      (ap (λ (k : ℕ). rows_of k (problems_from v (suc i) ps)) z ∙ rows_so (suc i) ps (omega arith) s.1 ∙ ap (λ (k : ℕ). take (8 * length ps) (drop k v)) y ∙ ap (take (8 * length ps)) (sym (drop-drop 8 (6 + 8 * i) v)))
      ∙ sym (take-add 8 (8 * length ps) (drop (6 + 8 * i) v))
      ∙ ap (λ (k : ℕ). take k (drop (6 + 8 * i) v)) x

-- the bodies from i on
bodies_so : (v : List ℕ) (n i : ℕ) (ps : List Position) → Boards v n i ps → bodies_of (problems_from v i ps) ≡ take (34 * length ps) (drop (body_place n i) v)
unfolding bodies_of problems_from
bodies_so v n i [] s = refl
bodies_so v n i (p ∷ ps) s =
    let z : body_place n (suc i) ≡ body_place n i + 34 = omega arith in
    let x : 34 + 34 * length ps ≡ 34 * suc (length ps) = omega arith in
    ap₂ (λ (l r : List ℕ). l ++ r) s.0.0.body.bytes
    (bodies_so v n (suc i) ps s.1 ∙ ap (λ (k : ℕ). take (34 * length ps) (drop k v)) z ∙ ap (take (34 * length ps)) (sym (drop-drop 34 (body_place n i) v)))
    ∙ sym (take-add 34 (34 * length ps) (drop (body_place n i) v))
    ∙ ap (λ (k : ℕ). take k (drop (body_place n i) v)) x

pub problems_length : (v : List ℕ) (i : ℕ) (ps : List Position) → length (problems_from v i ps) ≡ length ps
unfolding problems_from
problems_length v i [] = refl
problems_length v i (p ∷ ps) = ap suc (problems_length v (suc i) ps)

pub bodies_of_lem : (back : Bool) (v : List ℕ) (n : ℕ) (ps : List Position) → Whole back v n ps → bodies_of (problems_of v ps) ≡ drop (6 + 8 * n) v
bodies_of_lem back v n ps w =
    let z : body_place n 0 ≡ 6 + 8 * n = omega arith in
    bodies_so v n 0 ps w.boards ∙ ap₂ (λ (k j : ℕ). take (34 * k) (drop j v)) w.count z
    ∙ take_all (34 * n) (drop (6 + 8 * n) v) (omega (arith, length-drop (6 + 8 * n) v, size_of_lem back v n w.table))

-- the parts of a volume: its head, its rows and its bodies
module _ (back : Bool) (v : List ℕ) (n : ℕ) (ps : List Position) (b : Bytes v) (w : Whole back v n ps) where
  count : length (problems_of v ps) ≡ n
  count = problems_length v 0 ps ∙ w.count

  pub rows_of_lem : rows_of (body_place n 0) (problems_of v ps) ≡ take (8 * n) (drop 6 v)
  rows_of_lem =
      let z : 6 + 8 * 0 ≡ 6 = omega arith in
      rows_so back v n b w.table 0 ps (omega (arith, w.count)) w.boards ∙ ap₂ (λ (k j : ℕ). take (8 * k) (drop j v)) w.count z

  pub volume_of_lem : volume_of (problems_of v ps) ≡ v
  unfolding volume_of
  volume_of_lem =
      (λ i. head_of (count i) ++ rows_of (body_place (count i) 0) (problems_of v ps) ++ bodies_of (problems_of v ps))
      ∙ (λ i. sym (head_so back v n b w.table) i ++ rows_of_lem i ++ bodies_of_lem back v n ps w i)
      ∙ ap (λ (z : List ℕ). z ++ drop (6 + 8 * n) v) (sym (take-add 6 (8 * n) v))
      ∙ take-append-drop (6 + 8 * n) v
