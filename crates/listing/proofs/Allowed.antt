-- The uncaptures that an entry allows, by the kind and by the six masks at its source; and what a target gives by them.
use mathlib.Core.Path.{◌≡◌, refl, sym, ap, ap₂, ◌∙◌}
use mathlib.Core.Bool.{Bool, true, false, not, cond}
use mathlib.Core.List.{List, [], ◌∷◌, ◌++◌, map}
use Prim.Native.Nat.{ℕ, ◌+◌, ◌*◌, ◌<◌}
use native.Mathlib.Omega.{arith}
use lib.Dec.{eqb}
use lib.ListN.{get_or}
use Rattle.squares.specs.Tests.{◌and◌, ◌or◌}
use Rattle.squares.specs.Squares.{has, flag, up_to}
use Rattle.squares.specs.Members.{members, concat, numbers_from}
use Rattle.laws.specs.declared.ChessRetraction.{ChessRetraction}
use Rattle.retraction_list.specs.declared.UnCaptureKind.{UnCaptureKind}
use Rattle.retraction_list.specs.declared.UnCaptureKind.TheVariants.{Optional, Necessary, Forbidden, UnEnPassant}
use Rattle.retraction_list.specs.declared.SourceAndTargets.{SourceAndTargets}
use Rattle.retraction_gen.specs.Cursors.{is_un_en_passant, against, barred, un_en_passant_to, uncaptured_to}
use Rattle.retraction_gen.specs.Sequence.{allowed, at_target}
use Rattle.squares.proofs.Comprehension.{up_to_lt, up_to_cong}
use Rattle.listing.specs.inner.Giving.{uncaptures_of, of_kind, retraction, of_target, of_entry}
use Rattle.listing.proofs.Numbers.{members_below}

-- what a kind lets pass, of no man and of a man, where the mask has the square, or hasn't
abbrev passes : UnCaptureKind → ℕ → Bool → Bool
passes Optional u t = t
passes Necessary u t = cond (eqb u 0) false t
passes Forbidden u t = cond (eqb u 0) t false
passes UnEnPassant u t = eqb u 0

passes_are : (k : UnCaptureKind) (u : ℕ) (t : Bool) → cond (is_un_en_passant k) (eqb u 0) (not (not t or against k u)) ≡ passes k u t
unfolding ◌or◌
passes_are Optional u true = refl
passes_are Optional u false = refl
passes_are Necessary u t = go (eqb u 0) t
  where
    go : (z t : Bool) → not (not t or z) ≡ cond z false t
    go true true = refl
    go true false = refl
    go false true = refl
    go false false = refl
passes_are Forbidden u t = go (eqb u 0) t
  where
    go : (z t : Bool) → not (not t or not z) ≡ cond z t false
    go true true = refl
    go true false = refl
    go false true = refl
    go false false = refl
passes_are UnEnPassant u t = refl

-- the six masks at a square, as numbers
abbrev some_at : (ℕ → Bool) → ℕ
some_at h = flag (h 1) * 2 + flag (h 2) * 4 + flag (h 3) * 8 + flag (h 4) * 16 + flag (h 5) * 32

by_kind : (k : UnCaptureKind) (h : ℕ → Bool) → up_to 6 (λ u. passes k u (h u)) ≡ of_kind k (some_at h + flag (h 0)) (some_at h) (flag (h 0))
unfolding up_to
by_kind Optional h = omega arith
by_kind Necessary h = omega arith
by_kind Forbidden h = omega arith
by_kind UnEnPassant h = refl

-- whether an entry's retractions are un-promotions: un-en-passant never
unfoldable pub unpromotes : SourceAndTargets → Bool
unpromotes e = not (is_un_en_passant e.kind) and e.unpromotion

module _ (ms : List ℕ) (e : SourceAndTargets) where
  abbrev masked : ℕ → Bool
  masked u = has (get_or ms u 0) e.source

  abbrev allows : ℕ → Bool
  allows u = cond (is_un_en_passant e.kind) (eqb u 0) (allowed ms e u)

  pub uncaptures_are : uncaptures_of ms e ≡ of_kind e.kind (some_at masked + flag (masked 0)) (some_at masked) (flag (masked 0))
  unfolding uncaptures_of barred
  uncaptures_are = up_to_cong 6 allows (λ u. passes e.kind u (masked u)) (λ u l. passes_are e.kind u (masked u)) ∙ by_kind e.kind masked

  pub uncaptures_lt : uncaptures_of ms e < 64
  unfolding uncaptures_of
  uncaptures_lt = up_to_lt 6 allows

  -- what a target of the entry gives
  pub target_gives : (t : ℕ) → at_target ms e t ≡ of_target e.source (unpromotes e) (uncaptures_of ms e) t
  unfolding uncaptures_of unpromotes of_target ◌and◌
  target_gives t =
      go (is_un_en_passant e.kind) ∙ sym (ap (map (retraction e.source (unpromotes e) t)) (members_below allows))
    where
      go : (b : Bool) → cond b (un_en_passant_to e t ∷ []) (map (uncaptured_to e t) (numbers_from (allowed ms e) 0 6))
          ≡ map (retraction e.source (not b and e.unpromotion) t) (numbers_from (λ u. cond b (eqb u 0) (allowed ms e u)) 0 6)
      go true = refl
      go false = refl

-- what its targets give
gives_same : (f g : ℕ → List ChessRetraction) (ks : List ℕ) → ((k : ℕ) → f k ≡ g k) → concat f ks ≡ concat g ks
unfolding concat
gives_same f g [] h = refl
gives_same f g (k ∷ ks) h = ap₂ ◌++◌ (h k) (gives_same f g ks h)

pub entry_gives : (ms : List ℕ) (e : SourceAndTargets) {p : Bool} {us : ℕ} → p ≡ unpromotes e → us ≡ uncaptures_of ms e
    → concat (of_target e.source p us) (members e.targets) ≡ of_entry ms e
unfolding of_entry
entry_gives ms e {p} {us} x y =
    ap₂ (λ (q : Bool) (s : ℕ). concat (of_target e.source q s) (members e.targets)) x y
    ∙ gives_same (of_target e.source (unpromotes e) (uncaptures_of ms e)) (at_target ms e) (members e.targets) (λ t. sym (target_gives ms e t))
