-- The Rust's test of attack on the view of clean men is the Laws'.
use mathlib.Core.Path.{◌≡◌, refl, sym, ap, ◌∙◌}
use mathlib.Core.Bool.{Bool, not}
use mathlib.Core.List.{List}
use Prim.Native.Nat.{ℕ, ◌<◌, ◌^◌}
use native.Mathlib.Nat.{lt_of_le_of_lt}
use lib.Dec.{eqb}
use lib.Bits.{bit_and, bit_or, and_le_l, or_lt}
use Rattle.squares.specs.Tests.{◌and◌, ◌or◌}
use Rattle.squares.specs.Squares.{has, set_of}
use Rattle.geometry.specs.declared.Color.{Color}
use Rattle.geometry.specs.Colors.{opp}
use Rattle.geometry.specs.Chess.{knight_moves, king_moves, bishop_moves, rook_moves, pawn_attacks}
use Rattle.laws.specs.declared.Piece.{Piece}
use Rattle.laws.specs.declared.Piece.TheVariants.{Pawn, Knight, Bishop, Rook, Queen, King}
use Rattle.laws.specs.Men.{Men}
use Rattle.laws.specs.Attacks.{attacks_from, attacked, attackers_of, union_of}
use Rattle.laws.specs.Boards.{kind_set, color_set, men_at, Clean}
use Rattle.view.specs.declared.View.{View}
use Rattle.view.specs.Views.{within}
use Rattle.view.specs.inner.Readiness.{Whole}
use Rattle.attacks.specs.inner.Meeting.{met_of}
use Rattle.kings.specs.Kings.{far_of, near_of, attacked_of}
use Rattle.squares.proofs.Testing.{agree, agree_eq}
use Rattle.squares.proofs.Digits.{has_and, has_or}
use Rattle.squares.proofs.Comprehension.{ext, up_to_lt}
use Rattle.squares.proofs.Every.{some_test}
use Rattle.laws.proofs.Cases.{by_cases}
use Rattle.laws.proofs.Mans.{opp_opp}
use Rattle.attacks.proofs.Meets.{met_lt, met_is}

-- the Rust's five sets of attackers, and the set of those that `attacks` asks for, grouped otherwise
one_kind : (x t o : Bool) → (x and (t and o)) ≡ (o and (t and x))
unfolding ◌and◌
one_kind x t o = agree_eq _ _ (by_cases 3 (λ x t o. agree (x and (t and o)) (o and (t and x))) refl x t o)

two_kinds : (x t u o : Bool) → (x and ((t and o) or (u and o))) ≡ (o and ((t or u) and x))
unfolding ◌and◌ ◌or◌
two_kinds x t u o = agree_eq _ _ (by_cases 4 (λ x t u o. agree (x and ((t and o) or (u and o))) (o and ((t or u) and x))) refl x t u o)

joined : (o s d n k p : Bool) → (((o and s) or (o and d)) or (((o and n) or (o and k)) or (o and p))) ≡ (o and ((((p or n) or d) or s) or k))
unfolding ◌and◌ ◌or◌
joined o s d n k p =
    agree_eq _ _
    (by_cases 6 (λ o s d n k p. agree (((o and s) or (o and d)) or (((o and n) or (o and k)) or (o and p))) (o and ((((p or n) or d) or s) or k))) refl o s d n k p)

kinds_joined : (o p n v r q k P N D S K : Bool)
    → (((S and ((r and o) or (q and o))) or (D and ((v and o) or (q and o)))) or (((N and (n and o)) or (K and (k and o))) or (P and (p and o))))
    ≡ (o and (((((p and P) or (n and N)) or ((v or q) and D)) or ((r or q) and S)) or (k and K)))
kinds_joined o p n v r q k P N D S K =
    (λ i. (two_kinds S r q o i or two_kinds D v q o i) or ((one_kind N n o i or one_kind K k o i) or one_kind P p o i))
    ∙ joined o ((r or q) and S) ((v or q) and D) (n and N) (k and K) (p and P)

-- what `attackedOf` asks: of the men by kind `foes`, over the men of occ, for the retractor's colour d
abbrev asked : (foes : List ℕ) (occ : ℕ) (d : Color) → ℕ → ℕ
asked foes occ d sq =
    bit_or
    (bit_or (bit_and (rook_moves sq occ) (bit_or (kind_set foes Rook) (kind_set foes Queen))) (bit_and (bishop_moves sq occ) (bit_or (kind_set foes Bishop) (kind_set foes Queen))))
    (bit_or (bit_or (bit_and (knight_moves sq) (kind_set foes Knight)) (bit_and (king_moves sq) (kind_set foes King))) (bit_and (pawn_attacks d sq) (kind_set foes Pawn)))

below : (p : ℕ → Bool) (x : ℕ) → bit_and (set_of p) x < 2 ^ 64
below p x = lt_of_le_of_lt (and_le_l (set_of p) x) (up_to_lt 64 p)

module _ (pieces colors : List ℕ) (ok : Clean pieces colors) (c : Color) where
  abbrev m : Men
  m = men_at pieces colors

  asked_is : (sq : ℕ) → sq < 64 → asked (within pieces (color_set colors c)) (union_of m) (opp c) sq ≡ attackers_of m c sq
  unfolding met_of within
  asked_is sq h =
      let P = pawn_attacks (opp c) sq in
      let N = knight_moves sq in
      let D = bishop_moves sq (union_of m) in
      let S = rook_moves sq (union_of m) in
      let K = king_moves sq in
      let stands : ℕ → Piece → Bool = λ j k. has (kind_set pieces k) j in
      ext 64 _ (met_of pieces (color_set colors c) P N D S K)
      (or_lt 64 _ _ (or_lt 64 _ _ (below _ _) (below _ _)) (or_lt 64 _ _ (or_lt 64 _ _ (below _ _) (below _ _)) (below _ _)))
      (met_lt pieces colors ok c P N D S K)
      (λ j l. simp (has_and, has_or)
      (kinds_joined (has (color_set colors c) j) (stands j Pawn) (stands j Knight) (stands j Bishop) (stands j Rook) (stands j Queen) (stands j King) (has P j) (has N j) (has D j) (has S j) (has K j)))
      ∙ met_is pieces colors ok c sq h

-- the side to move attacks the squares that the Laws say
pub same_attack : (v : View) → Whole v → (sq : ℕ) → sq < 64 → attacked_of v sq ≡ attacked (men_at v.pieces v.colors) (opp v.color) sq
unfolding attacked_of far_of near_of attackers_of
same_attack v w sq h =
    let m = men_at v.pieces v.colors in
    let c = opp v.color in
    ap (λ (s : ℕ). not (eqb s 0))
    ((λ i. asked (w.foes i) (w.union i) (sym (opp_opp v.color) i) sq) ∙ asked_is v.pieces v.colors w.clean c sq h)
    ∙ some_test (attacks_from m c sq)
