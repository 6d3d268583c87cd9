-- The sets of a position's fields.
use mathlib.Core.Path.{◌≡◌, refl, sym, ap, ap₂, ◌∙◌, subst}
use mathlib.Core.Bool.{Bool, true, false, not, cond}
use Prim.Native.Nat.{ℕ, ◌<◌}
use lib.Dec.{leb}
use lib.Bits.{bit_and, bit_or}
use borrow.Author.Tests.{lt-ltb}
use Rattle.squares.specs.Tests.{◌and◌, ◌or◌}
use Rattle.squares.specs.Squares.{has, set_of, united}
use Rattle.squares.specs.Members.{compl, first_of}
use Rattle.geometry.specs.declared.Color.{Color}
use Rattle.geometry.specs.Colors.{opp}
use Rattle.laws.specs.declared.Piece.TheVariants.{Pawn, King}
use Rattle.laws.specs.declared.EnPassantFlag.TheVariants.{None}
use Rattle.laws.specs.declared.Position.{Position}
use Rattle.laws.specs.Men.{Man, man, Men, man_number, man_of, is_of, put}
use Rattle.laws.specs.Souls.{souls}
use Rattle.laws.specs.Positions.{rights_of}
use Rattle.laws.specs.Unmaking.{held}
use Rattle.laws.specs.Strictness.{agrees}
use Rattle.laws.specs.Boards.{Clean, men_in, pos_at}
use Rattle.men.specs.inner.Standing.{men_of}
use Rattle.position.specs.inner.Edits.{with_men, man_with}
use Rattle.pins.specs.inner.Kings.{TheKing}
use Rattle.exposure.specs.inner.Exposing.{exposed_at}
use Rattle.returning.specs.inner.Back.{comes_back}
use Rattle.strict_test.specs.inner.Strictly.{strict_for, Today}
use Rattle.strict_sets.specs.declared.Half.{Half}
use Rattle.strict_sets.specs.inner.Parts.{comes_at, special, strict_alone, stood, calm_at, half_at, raised_at, Comes}
use Rattle.strict_sets.specs.inner.Sets.{only_plain, Goes, Exact}
use Rattle.squares.proofs.Testing.{left, right, known}
use Rattle.squares.proofs.Digits.{has_and, has_or, has_zero}
use Rattle.squares.proofs.Comprehension.{up_to_lt, has_set_of, has_not}
use Rattle.laws.proofs.Facts.{accepts}
use Rattle.laws.proofs.ManSets.{men_on}
use Rattle.laws.proofs.Mans.{opp_opp, by_number, own_colour}
use Rattle.position.proofs.Editing.{is_man}
use Rattle.position.proofs.Composing.{put_on, then_clean, then_men}
use Rattle.pins.proofs.OneKing.{first_king}
use Rattle.returning.proofs.Parted.{not_theirs}
use Rattle.strict_sets.proofs.Asked.{tested_at}
use Rattle.strict_sets.proofs.Calming.{calm_set}
use Rattle.strict_sets.proofs.Telling.{exact_open, exact_named, exact_none}

-- the man numbered x comes to s
module _ (p : Position) (s x : ℕ) (k : Comes p s x) where
  abbrev c : Color
  c = opp p.turn

  abbrev m : Men
  m = men_in p

  -- the source replaced by the man numbered z
  module _ (z : ℕ) {n : Position} (is : n ≡ with_men p (put s (man_of z) m)) where
    pub left_clean : Clean n.pieces n.colors
    left_clean = then_clean p n _ is (put_on s _ _ k.source_in (men_on _ _))

    left_men : men_in n ≡ put s (man_of z) m
    left_men = then_men p n _ is (put_on s _ _ k.source_in (men_on _ _))

  pub calm_told : (taking : Bool) (z : ℕ) {from q bad : ℕ} {n : Position} {d : Color} → from ≡ set_of (comes_at m (man_of x) taking s) → TheKing m p.turn q
      → man_of z ≡ stood c taking → n ≡ with_men p (put s (man_of z) m) → d ≡ c → bad ≡ set_of (exposed_at (men_in n) d (man_of x) q)
      → bit_and from (compl bad) ≡ set_of (calm_at m c (man_of x) taking s)
  calm_told taking z {q = q} from king is_stood is d bad =
      calm_set m c q s (man_of x) taking (subst (λ (e : Color). TheKing m e q) (sym (opp_opp p.turn)) king) k.source_in k.stands k.ours from
      (bad ∙ ap₂ (λ (e : Color) (w : Men). set_of (exposed_at w e (man_of x) q)) d (left_men z is ∙ ap (λ (y : Man). put s y m) is_stood))

  -- the pawn that it was
  module _ {d : Color} {y : ℕ} (mine : d ≡ c) (is : (y ≡ man_number (man_with d 1)) × (y < 14)) where
    pawn_is : man_of y ≡ man c Pawn
    pawn_is = ap man_of is.0 ∙ by_number (man_with d 1) ∙ ap (λ (e : Color). man e Pawn) mine

    pub pawn_comes : Comes p s y
    pawn_comes = record { source_in = k.source_in; man_in = is.1; stands = k.stands; ours = ap (is_of c) pawn_is ∙ own_colour c Pawn }

    pub pawn_half : (taking : Bool) {h : ℕ} → h ≡ set_of (half_at m c (man_of y) taking s) → h ≡ set_of (half_at m c (man c Pawn) taking s)
    pawn_half taking e = e ∙ ap (λ (w : Man). set_of (half_at m c w taking s)) pawn_is

  pub not_theirs_there : is_of p.turn (m s) ≡ false
  not_theirs_there = subst (λ (d : Color). is_of d (m s) ≡ false) (opp_opp p.turn) (not_theirs c (m s) k.stands)

-- the targets of s, where x stands
module _ (p : Position) (s x : ℕ) (g : Goes p s x) where
  abbrev ours : Color
  ours = opp p.turn

  abbrev today : Men
  today = men_in p

  king : TheKing today (opp ours) (first_of (men_of today (opp ours) King))
  king = first_king today (opp ours) (accepts (pos_at p) g.today.lawful).kings

  -- what un-make was asked about
  module _ {asked told : ℕ} (ea : asked ≡ set_of (special ours (man_of x) s)) (et : told ≡ set_of (united (strict_alone (pos_at p) s) asked)) where
    asked_at : (q : ℕ) → q < 64 → has asked q ≡ special ours (today s) s q
    asked_at q l = ap (λ (n : ℕ). has n q) ea ∙ has_set_of (special ours (man_of x) s) q l ∙ ap (λ (y : Man). special ours y s q) g.is_man

    told_at : (q : ℕ) → q < 64 → has told q ≡ (special ours (today s) s q and strict_for (pos_at p) (record { source = s; target = q; uncaptured = 0; unpromotion = false }))
    told_at q l =
        ap (λ (n : ℕ). has n q) et ∙ has_set_of (united (strict_alone (pos_at p) s) asked) q l ∙ tested_at (pos_at p) s asked q l
        ∙ ap (λ (b : Bool). b and strict_for (pos_at p) (record { source = s; target = q; uncaptured = 0; unpromotion = false })) (asked_at q l)

    pub named_told : agrees p.passant None ≡ false → Exact (pos_at p) s (only_plain told)
    named_told shut = exact_named (pos_at p) s _ g.today.lawful g.comes.source_in king g.comes.stands g.not_held shut told_at

    chosen_at : (few : Bool) (set q : ℕ) → has (cond few set 0) q ≡ (few and has set q)
    unfolding ◌and◌
    chosen_at true set q = refl
    chosen_at false set q = has_zero q

    pub open_told : agrees p.passant None ≡ true → {one two : Half} {few : Bool} {men a b : ℕ}
        → (one.calm ≡ set_of (half_at today ours (man_of x) false s)) × (one.taking ≡ set_of (half_at today ours (man_of x) true s))
        → (two.calm ≡ set_of (raised_at today ours (man_of x) false s)) × (two.taking ≡ set_of (raised_at today ours (man_of x) true s))
        → few ≡ leb (souls today p.turn) 8 → men ≡ set_of (comes_back today p.turn s)
        → a ≡ cond few (bit_and one.calm (compl asked)) 0 → b ≡ cond few two.calm 0
        → Exact (pos_at p) s (record { plain = bit_or a told; taking = one.taking; marked = b; both = two.taking; men = men })
    open_told openly {one} {two} {few} {men} {a} {b} eo ew ef em e₁ e₂ =
        exact_open (pos_at p) s _ g.today.lawful g.comes.source_in king g.comes.stands g.not_held openly _
        (λ q l. has_or a told q ∙ ap₂ ◌or◌ (ap (λ (n : ℕ). has n q) e₁ ∙ chosen_at few _ q ∙ ap₂ ◌and◌ few_is (has_and one.calm (compl asked) q ∙ ap₂ ◌and◌ (half_at_lem false eo.0 q l) (off_asked q l))) (told_at q l))
        (λ q l. half_at_lem true eo.1 q l)
        (λ q l. ap (λ (n : ℕ). has n q) e₂ ∙ chosen_at few _ q ∙ ap₂ ◌and◌ few_is (raised_at_lem false ew.0 q l))
        (λ q l. raised_at_lem true ew.1 q l)
        (λ u l. ap (λ (n : ℕ). has n u) em ∙ has_set_of (comes_back today p.turn s) u l ∙ ap (λ (d : Color). comes_back today d s u) (sym (opp_opp p.turn)))
      where
        few_is : few ≡ leb (souls today (opp ours)) 8
        few_is = ef ∙ ap (λ (d : Color). leb (souls today d) 8) (sym (opp_opp p.turn))

        half_at_lem : (t : Bool) {h : ℕ} → h ≡ set_of (half_at today ours (man_of x) t s) → (q : ℕ) → q < 64 → has h q ≡ half_at today ours (today s) t s q
        half_at_lem t e q l = ap (λ (n : ℕ). has n q) e ∙ has_set_of (half_at today ours (man_of x) t s) q l ∙ ap (λ (y : Man). half_at today ours y t s q) g.is_man

        raised_at_lem : (t : Bool) {h : ℕ} → h ≡ set_of (raised_at today ours (man_of x) t s) → (q : ℕ) → q < 64 → has h q ≡ raised_at today ours (today s) t s q
        raised_at_lem t e q l = ap (λ (n : ℕ). has n q) e ∙ has_set_of (raised_at today ours (man_of x) t s) q l ∙ ap (λ (y : Man). raised_at today ours y t s q) g.is_man

        off_asked : (q : ℕ) → q < 64 → has (compl asked) q ≡ not (special ours (today s) s q)
        off_asked q l = has_not 64 asked q (rw ea (up_to_lt 64 (special ours (man_of x) s))) ∙ known _ (lt-ltb q 64 l) ∙ ap not (asked_at q l)

-- the man on s may go, or it may not
module _ (p : Position) (s : ℕ) {x : ℕ} {z : Bool} (is : (x ≡ man_number (men_in p s)) × (x < 14))
    (may : z ≡ (is_of (opp p.turn) (man_of x) and not (held (rights_of p.white p.black) (opp p.turn) s))) where
  pub none_told : z ≡ false → Exact (pos_at p) s (only_plain 0)
  none_told e =
      exact_none (pos_at p) s (ap (λ (y : Man). is_of (opp p.turn) y and not (held (rights_of p.white p.black) (opp p.turn) s)) (sym (is_man (men_in p s) is.0)) ∙ sym may ∙ e)

  pub goes_there : Today p → s < 64 → z ≡ true → Goes p s x
  goes_there t l e = record {
    today = t;
    comes = record { source_in = l; man_in = is.1; stands = ap (is_of (opp p.turn)) (sym (is_man (men_in p s) is.0)) ∙ left _ _ (sym may ∙ e); ours = left _ _ (sym may ∙ e) };
    is_man = is_man (men_in p s) is.0;
    not_held = right _ _ (sym may ∙ e);
  }
