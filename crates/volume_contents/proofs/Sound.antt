-- What a sound head, a sound row and a sound table say.
use mathlib.Core.Path.{◌≡◌, refl, sym, ◌∙◌, ap, subst}
use mathlib.Core.Bool.{Bool, true, false}
use mathlib.Core.List.{List}
use mathlib.Core.Logic.{⊎_elim, ◌⊎◌, inl, inr}
use Prim.Native.Nat.{ℕ, zero, suc, ◌+◌, ◌≤◌, ◌<◌}
use native.Mathlib.Omega.{arith}
use lib.Dec.{eqb}
use lib.ListN.{length, get_or}
use borrow.Author.Tests.{eqb-true, leb-true, ltb-true}
use Rattle.squares.proofs.Testing.{order, left, right, either, implied}
use Rattle.volume_contents.specs.declared.Entry.{Entry}
use Rattle.volume_contents.specs.declared.Flaw.{Flaw}
use Rattle.volume_contents.specs.declared.Flaw.TheVariants.{Mark, Version, Size, Number, Edition, Length, Order, Outside, Overlap, Gap, Place, EditionB}
use Rattle.std.specs.Prelude.{Ok, Err}
use Rattle.volume_contents.specs.Layout.{body_place, size_of}
use Rattle.volume_contents.specs.Contents.{Tested, unless, marked, problems, head_tested, numbered, editioned, long, rises, inside, apart, close, its_place, of_a, row_tested, row_at, number_before, Table}

pub sound_not : (w : Flaw) → ◌≡◌ {A = Tested} (Err w) (Ok tt) → ⊥
sound_not w e = cc

-- the first test passes, and so do those behind it
pub passes : (b : Bool) (w : Flaw) (t : Tested) → unless b w t ≡ Ok tt → (b ≡ true) × (t ≡ Ok tt)
passes true w t e = (refl, e)
passes false w t e = absurd (sound_not w e)

pub record Head (v : List ℕ) (size : ℕ) : Type 0 where
  pub v_is : get_or v 0 0 ≡ 86
  pub o_is : get_or v 1 0 ≡ 79
  pub l_is : get_or v 2 0 ≡ 76
  pub version_is : get_or v 3 0 ≡ 1
  pub size_is : size ≡ size_of (problems v)

pub sound_head : (v : List ℕ) (size : ℕ) → head_tested v size ≡ Ok tt → Head v size
unfolding head_tested
sound_head v size e =
    let a = passes (marked v) Mark _ e in
    let b = passes (eqb (get_or v 3 0) 1) Version _ a.1 in
    let c = passes (eqb size (size_of (problems v))) Size (Ok tt) b.1 in
    record {
      v_is = eqb-true _ _ (left _ _ (left _ _ a.0));
      o_is = eqb-true _ _ (right _ _ (left _ _ a.0));
      l_is = eqb-true _ _ (right _ _ a.0);
      version_is = eqb-true _ _ b.0;
      size_is = eqb-true _ _ c.0;
    }

pub record Row (n i last : ℕ) (e : Entry) : Type 0 where
  pub some : 0 < e.number
  pub edition_is : (e.edition ≡ 65) ⊎ (e.edition ≡ 66)
  pub length_is : e.length ≡ 34
  pub rising : last < e.number
  pub place_is : e.place ≡ body_place n i

module _ (back : Bool) (n i last : ℕ) (e : Entry) (s : row_tested back n i last e ≡ Ok tt) where
  all : (numbered e ≡ true) × (editioned e ≡ true) × (long e ≡ true) × (rises last e ≡ true) × (apart n i e ≡ true) × (close n i e ≡ true) × (its_place back i e ≡ true) × (of_a back e ≡ true)
  unfolding row_tested
  all =
      let a = passes (numbered e) Number _ s in
      let b = passes (editioned e) Edition _ a.1 in
      let c = passes (long e) Length _ b.1 in
      let d = passes (rises last e) Order _ c.1 in
      let f = passes (inside n e) Outside _ d.1 in
      let g = passes (apart n i e) Overlap _ f.1 in
      let h = passes (close n i e) Gap _ g.1 in
      let j = passes (its_place back i e) Place _ h.1 in
      let k = passes (of_a back e) EditionB (Ok tt) j.1 in
      (a.0, b.0, c.0, d.0, g.0, h.0, j.0, k.0)

  pub sound_row : Row n i last e
  sound_row =
      let lo = leb-true (body_place n i) e.place all.4 in
      let hi = leb-true e.place (body_place n i) all.5 in
      record {
        some = ltb-true _ _ all.0;
        edition_is = ⊎_elim (λ x. inl (eqb-true _ _ x)) (λ x. inr (eqb-true _ _ x)) (either _ _ all.1);
        length_is = eqb-true _ _ all.2;
        rising = ltb-true _ _ all.3;
        place_is = omega arith;
      }

  -- "going back to lines, a number that isn't its place or edition B"
  pub plain_row : back ≡ true → (e.number ≡ i + 1) × (e.edition ≡ 65)
  plain_row z = (eqb-true _ _ (implied back all.6 z), eqb-true _ _ (implied back all.7 z))

module _ (back : Bool) (v : List ℕ) (n : ℕ) (t : Table back v n) where
  pub row_of_lem : (i : ℕ) → i < n → Row n i (number_before v i) (row_at v i)
  row_of_lem i h = sound_row back n i (number_before v i) (row_at v i) (t.rows i h)

  pub head_of_lem : Head v (length v)
  head_of_lem = sound_head v (length v) t.head

  pub size_of_lem : length v ≡ size_of n
  size_of_lem = head_of_lem.size_is ∙ ap size_of t.count

  -- numbers rise from row to row, and so from any to any
  pub rising : (i j : ℕ) → i < j → j < n → (row_at v i).number < (row_at v j).number
  rising i zero h g = absurd (omega arith)
  rising i (suc j) h g = ⊎_elim (λ k. let a = rising i j k (omega arith) in omega (arith, (row_of_lem (suc j) g).rising)) (λ k. same k) (order i j)
    where
      same : j ≤ i → (row_at v i).number < (row_at v (suc j)).number
      same k = let e : i ≡ j = omega arith in subst (λ (x : ℕ). (row_at v x).number < (row_at v (suc j)).number) (sym e) (row_of_lem (suc j) g).rising

  -- no two rows have one number
  pub one_row : (i j : ℕ) → i < n → j < n → (row_at v i).number ≡ (row_at v j).number → i ≡ j
  one_row i j h g e =
      ⊎_elim (λ k. absurd (let a = rising i j k g in omega arith)) (λ k. ⊎_elim (λ l. absurd (let a = rising j i l h in omega arith)) (λ l. omega arith) (order j i)) (order i j)
