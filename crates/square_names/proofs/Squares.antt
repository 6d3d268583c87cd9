-- The squares of a set in writing.
use mathlib.Core.Path.{◌≡◌, refl, sym, ◌∙◌, ap, subst}
use mathlib.Core.Bool.{Bool, true, false, cond}
use mathlib.Core.List.{List, [], ◌∷◌, ◌++◌}
use Prim.Native.Nat.{ℕ, zero, suc, ◌^◌, ◌+◌, ◌*◌, ◌≤◌, ◌<◌}
use native.Mathlib.Omega.{arith}
use lib.ListN.{length, length-append}
use Rattle.squares.specs.Squares.{has, set_of, besides}
use Rattle.squares.specs.Members.{list_to, members, lowest_of, for_each, concat}
use Rattle.output.specs.Appending.{added_len, added_out, Adds}
use Rattle.men_field.specs.Placement.{square_name}
use Rattle.square_names.specs.Names.{spaced_name, square_names, squares_text}
use Rattle.squares.proofs.Members.{members_none, members_next, least_of, concat_both}
use Rattle.output.proofs.Added.{added_len_lem, added_length}
use Rattle.output.proofs.Adding.{adds_as, adds_nothing, adds_then}

-- a turn of a loop over members: how many bytes are in use, and the buffer, with the text of one more
abbrev pub add_one : (ℕ → List ℕ) → ℕ × List ℕ → ℕ → ℕ × List ℕ
add_one f x k = (added_len x.1 x.0 (f k), added_out x.1 x.0 (f k))

module _ (f : ℕ → List ℕ) where
  pub one_added : {o x : List ℕ} {len r k : ℕ} → Adds o len (f k) r x → ◌≡◌ {A = ℕ × List ℕ} (r, x) (add_one f (len, o) k)
  one_added a = λ i. (a.used i, a.holds i)

  -- all turns add the texts of all members, where there is room for them
  all_added : (l : List ℕ) (x : ℕ × List ℕ) → x.0 + length (concat f l) ≤ length x.1 → Adds x.1 x.0 (concat f l) (for_each (add_one f) x l).0 (for_each (add_one f) x l).1
  unfolding for_each concat
  all_added [] x h = adds_nothing x.1 x.0
  all_added (k ∷ ks) x h =
      let y = add_one f x k in
      let p : Adds x.1 x.0 (f k) y.0 y.1 = record { used = refl; holds = refl } in
      let e = length-append (f k) (concat f ks) in
      let first : x.0 + length (f k) ≤ length x.1 = omega arith in
      let rest : y.0 + length (concat f ks) ≤ length y.1 =
      omega (arith, added_len_lem x.1 (f k) y.1 x.0 y.0 p first, added_length x.1 (f k) y.1 x.0 y.0 p first) in
      adds_then x.1 y.1 (for_each (add_one f) y ks).1 (f k) (concat f ks) x.0 y.0 (for_each (add_one f) y ks).0 h p (all_added ks y rest)

  pub loop_adds : (o x : List ℕ) (len r set : ℕ) → len + length (concat f (members set)) ≤ length o → ◌≡◌ {A = ℕ × List ℕ} (r, x) (for_each (add_one f) (len, o) (members set))
      → Adds o len (concat f (members set)) r x
  loop_adds o x len r set h e = subst (λ (y : ℕ × List ℕ). Adds o len (concat f (members set)) y.0 y.1) (sym e) (all_added (members set) (len, o) h)

-- 64 squares and 63 spaces at most
spaced_short : (n : ℕ) (p : ℕ → Bool) → length (concat spaced_name (list_to n p)) ≤ 3 * n
unfolding list_to concat
spaced_short zero p = omega arith
spaced_short (suc n) p = rw concat_both (by (p n) (spaced_short n p))
  where
    by : (t : Bool) → length (concat spaced_name (list_to n p)) ≤ 3 * n → length (concat spaced_name (list_to n p) ++ concat spaced_name (cond t (n ∷ []) [])) ≤ 3 * suc n
    by true h = omega (arith, length-append (concat spaced_name (list_to n p)) (spaced_name n))
    by false h = omega (arith, length-append (concat spaced_name (list_to n p)) [])

pub squares_short : (s : ℕ) → length (squares_text s) ≤ 191
unfolding squares_text members concat
squares_short s = by (list_to 64 (has s)) (spaced_short 64 (has s))
  where
    by : (l : List ℕ) → length (concat spaced_name l) ≤ 192 → length (square_names l) ≤ 191
    by [] h = omega arith
    by (k ∷ ks) h = omega arith

-- a dash, or the lowest and behind it the others
pub dash_is : {s : ℕ} → s ≡ 0 → 45 ∷ [] ≡ squares_text s
unfolding squares_text
dash_is e = sym (ap (λ (s : ℕ). square_names (members s)) e ∙ ap square_names members_none)

module _ {s k next : ℕ} (h : s < 2 ^ 64) (some : s ≡ 0 → ⊥) (lowest : k ≡ lowest_of s) (others : next ≡ set_of (besides s k)) where
  names_are : square_name k ++ concat spaced_name (members next) ≡ squares_text s
  unfolding squares_text
  names_are =
      ap (λ (i : ℕ). square_name k ++ concat spaced_name (members i)) others ∙ sym (ap square_names (members_next s k (omega arith) (least_of h lowest)))

  module _ (o x : List ℕ) (len r : ℕ) (room : len + 191 ≤ length o) (p : Adds o len (square_name k) r x) where
    size : length (square_name k ++ concat spaced_name (members next)) ≤ 191
    size = omega (arith, ap length names_are, squares_short s)

    pub others_room : r + length (concat spaced_name (members next)) ≤ length x
    others_room =
        let first : len + length (square_name k) ≤ length o = omega arith in
        omega (
          arith,
          size,
          length-append (square_name k) (concat spaced_name (members next)),
          added_len_lem o (square_name k) x len r p first,
          added_length o (square_name k) x len r p first,
        )

    pub names_added : (n : ℕ) (y : List ℕ) → Adds x r (concat spaced_name (members next)) n y → Adds o len (squares_text s) n y
    names_added n y q =
        adds_as o y (square_name k ++ concat spaced_name (members next)) (squares_text s) len n
        (adds_then o x y (square_name k) (concat spaced_name (members next)) len r n (omega (arith, size)) p q) names_are
