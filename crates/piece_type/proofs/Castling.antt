-- The two tests of un-castling, over whatever they ask of squares: the Rust's, of the squares beside the king, and ours, of the squares by name.
use Rattle.std.specs.Prelude.{◌==◌, if◌then◌else◌}
use mathlib.Core.Path.{◌≡◌, refl, sym, ap, ap₂, ◌∙◌, subst}
use mathlib.Core.Bool.{Bool, true, false, cond}
use mathlib.Core.List.{List, [], ◌∷◌}
use Prim.Native.Nat.{ℕ, ◌+◌}
use native.Mathlib.Omega.{arith}
use lib.Dec.{eqb}
use borrow.Author.Tests.{eqb-true, eqb-false, ne_eqb}
use Rattle.squares.specs.Tests.{◌and◌, ◌or◌}
use Rattle.squares.specs.Squares.{file, rank}
use Rattle.geometry.specs.declared.Color.{Color}
use Rattle.geometry.specs.declared.Color.TheVariants.{White, Black}
use Rattle.geometry.specs.Colors.{home_square}
use Rattle.laws.specs.declared.Side.TheVariants.{Short as short, Long as long}
use Rattle.laws.specs.Positions.{king_home, corner, king_to, rook_to}
use Rattle.retraction_list.specs.declared.SourceAndTargets.{SourceAndTargets}
use Rattle.retraction_list.specs.declared.UnCaptureKind.TheVariants.{Forbidden}
use Rattle.retraction_list.specs.Entries.{entry_of}
use Rattle.squares.proofs.Testing.{agree, agree_eq}
use Rattle.laws.proofs.Cases.{by_cases}
use Rattle.piece_type.specs.Bitboards.{from_square}
use Rattle.piece_type.specs.Squares.{to_my_backrank, uleft, uright}

-- our rook stands on a square, nothing does, it is not attacked, a rook there gives no check, no other man checks than one there
pub record Asked : Type 0 where
  pub rook : ℕ → Bool
  pub bare : ℕ → Bool
  pub safe : ℕ → Bool
  pub far : ℕ → Bool
  pub lone : ℕ → Bool

-- the Rust's (566 to 574, 586 to 596), where g and c tell the king's file
abbrev pub shortly : Asked → Bool → ℕ → Bool
shortly t g q =
    g and t.rook (uleft q) and t.bare (uleft (uleft q)) and t.bare (uright q) and t.safe (uleft q) and t.safe (uleft (uleft q))
    and t.far (uright q) and t.lone (uleft q)

abbrev pub longly : Asked → Bool → ℕ → Bool
longly t c q =
    c and t.rook (uright q) and t.bare (uright (uright q)) and t.bare (uleft q) and t.bare (uleft (uleft q)) and t.safe (uright q)
    and t.safe (uright (uright q)) and t.far (uleft (uleft q)) and t.lone (uright q)

abbrev entry : ℕ → ℕ → List SourceAndTargets
entry q e = entry_of q (from_square e) Forbidden false ∷ []

abbrev told : Asked → Bool → Bool → Bool → ℕ → List SourceAndTargets
told t home g c q = if home then (if shortly t g q then entry q (uleft (uleft q)) else if longly t c q then entry q (uright (uright q)) else []) else []

abbrev pub rustly : Asked → Color → ℕ → List SourceAndTargets
rustly t c q = told t (rank q == to_my_backrank c) (file q == 6) (file q == 2) q

-- ours
abbrev castled : Asked → ℕ → ℕ → ℕ → Bool
castled t r e k = t.rook r and t.bare e and t.bare k and (t.safe r and t.safe e) and t.far k and t.lone r

abbrev pub short_ours : Asked → Color → ℕ → Bool
short_ours t c q = q == king_to c short and castled t (rook_to c short) (king_home c) (corner c short)

abbrev pub long_ours : Asked → Color → ℕ → Bool
long_ours t c q = q == king_to c long and t.bare (home_square c 1) and castled t (rook_to c long) (king_home c) (corner c long)

abbrev pub ours : Asked → Color → ℕ → List SourceAndTargets
ours t c q = if short_ours t c q or long_ours t c q then entry q (king_home c) else []

short_law : (r e k v w f z : Bool) → (r and e and k and v and w and f and z) ≡ ((r and e and k and (v and w) and f and z) or false)
unfolding ◌and◌ ◌or◌
short_law r e k v w f z =
    agree_eq (r and e and k and v and w and f and z) ((r and e and k and (v and w) and f and z) or false)
    (by_cases 7 (λ r e k v w f z. agree (r and e and k and v and w and f and z) ((r and e and k and (v and w) and f and z) or false)) refl r e k v w f z)

long_law : (r e d k v w f z : Bool) → (r and e and d and k and v and w and f and z) ≡ (d and (r and e and k and (v and w) and f and z))
unfolding ◌and◌
long_law r e d k v w f z =
    agree_eq (r and e and d and k and v and w and f and z) (d and (r and e and k and (v and w) and f and z))
    (by_cases 8 (λ r e d k v w f z. agree (r and e and d and k and v and w and f and z) (d and (r and e and k and (v and w) and f and z))) refl r e d k v w f z)

module _ (t : Asked) where
  as_short : (q r e k : ℕ)
      → cond (t.rook r and t.bare e and t.bare k and t.safe r and t.safe e and t.far k and t.lone r) (entry q e) [] ≡ cond (castled t r e k or false) (entry q e) []
  as_short q r e k =
      ap (λ (x : Bool). cond x (entry q e) []) (short_law (t.rook r) (t.bare e) (t.bare k) (t.safe r) (t.safe e) (t.far k) (t.lone r))

  as_long : (q r e d k : ℕ)
      → cond (t.rook r and t.bare e and t.bare d and t.bare k and t.safe r and t.safe e and t.far k and t.lone r) (entry q e) []
      ≡ cond (t.bare d and castled t r e k) (entry q e) []
  as_long q r e d k =
      ap (λ (x : Bool). cond x (entry q e) []) (long_law (t.rook r) (t.bare e) (t.bare d) (t.bare k) (t.safe r) (t.safe e) (t.far k) (t.lone r))

  at_short : (c : Color) → rustly t c (king_to c short) ≡ ours t c (king_to c short)
  unfolding ◌and◌ ◌or◌
  at_short White = as_short 6 5 4 7
  at_short Black = as_short 62 61 60 63

  at_long : (c : Color) → rustly t c (king_to c long) ≡ ours t c (king_to c long)
  unfolding ◌and◌ ◌or◌
  at_long White = as_long 2 3 4 1 0
  at_long Black = as_long 58 59 60 57 56

  -- a square of the home rank is told by its file
  off : (c : Color) (q f : ℕ) → eqb (rank q) (to_my_backrank c) ≡ true → eqb q (home_square c f) ≡ false → eqb (file q) f ≡ false
  off White q f r e = ne_eqb (file q) f (λ g. eqb-false q f e (omega (arith, eqb-true (rank q) 0 r, g)))
  off Black q f r e = ne_eqb (file q) f (λ g. eqb-false q (56 + f) e (omega (arith, eqb-true (rank q) 7 r, g)))

  elsewhere : (c : Color) (q : ℕ) → eqb q (king_to c short) ≡ false → eqb q (king_to c long) ≡ false → rustly t c q ≡ ours t c q
  unfolding ◌and◌ ◌or◌
  elsewhere c q s l = go (eqb (rank q) (to_my_backrank c)) refl ∙ sym none
    where
      none : ours t c q ≡ []
      none =
          let rest = castled t (rook_to c long) (king_home c) (corner c long) in
          ap₂ (λ (u v : Bool). if u and castled t (rook_to c short) (king_home c) (corner c short) or v and t.bare (home_square c 1) and rest then entry q (king_home c) else [])
          s l

      go : (u : Bool) → eqb (rank q) (to_my_backrank c) ≡ u → rustly t c q ≡ []
      go true e = ap₂ (λ (g d : Bool). told t (rank q == to_my_backrank c) g d q) (off c q 6 e s) (off c q 2 e l) ∙ ap (λ (u : Bool). told t u false false q) e
      go false e = ap (λ (u : Bool). told t u (file q == 6) (file q == 2) q) e

  pub castles : (c : Color) (q : ℕ) → rustly t c q ≡ ours t c q
  castles c q = pick (eqb q (king_to c short)) refl (eqb q (king_to c long)) refl
    where
      pick : (u : Bool) → eqb q (king_to c short) ≡ u → (v : Bool) → eqb q (king_to c long) ≡ v → rustly t c q ≡ ours t c q
      pick true e v d = subst (λ (x : ℕ). rustly t c x ≡ ours t c x) (sym (eqb-true q (king_to c short) e)) (at_short c)
      pick false e true d = subst (λ (x : ℕ). rustly t c x ≡ ours t c x) (sym (eqb-true q (king_to c long) d)) (at_long c)
      pick false e false d = elsewhere c q e d
