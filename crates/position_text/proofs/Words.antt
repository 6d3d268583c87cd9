-- A text says some fields exactly when it has the form in document 01's words.
use mathlib.Core.Path.{◌≡◌, refl, sym, ◌∙◌, ap, ap₂, subst}
use mathlib.Core.Bool.{cond}
use mathlib.Core.List.{List, [], ◌∷◌, ◌++◌}
use mathlib.Core.Logic.{◌⊎◌, inl, inr}
use Prim.Native.Nat.{ℕ, zero, suc, ◌+◌, ◌*◌, ◌/◌, ◌%◌, ◌≤◌, ◌<◌}
use native.Mathlib.Omega.{arith}
use lib.Dec.{ltb}
use lib.ListN.{length, get_or}
use borrow.Author.Tests.{lt-ltb, le-ltb}
use Rattle.squares.specs.Squares.{file, rank}
use Rattle.laws.specs.declared.Edition.{Edition}
use Rattle.laws.specs.Men.{Man, empty, Men}
use Rattle.laws.specs.Positions.{terms_of}
use Rattle.laws.specs.Boards.{men_at, kind_sets, color_sets}
use Rattle.men_field.specs.Placement.{run_text, squares_from, rank_text, ranks_text, men_text}
use Rattle.position_text.specs.declared.Form.{Form}
use Rattle.position_text.specs.declared.Form.TheVariants.{InForm, OutOfForm}
use Rattle.position_text.specs.declared.Raw.{Raw}
use Rattle.position_text.specs.Form.{tail_text, print_of, Says, AnswersBy, Answers}
use Rattle.laws.specs.declared.Position.{Position}
use Rattle.position_text.specs.Grammar.{slashed, Formed}
use Rattle.squares.proofs.Testing.{order}
use Rattle.laws.proofs.ManSets.{men_shown}
use Rattle.men_field.proofs.RankForm.{rank_formed, rank_printed}
use Rattle.position_text.proofs.Inverse.{read_clean}
use Rattle.laws.proofs.ManSets as sets

same_ranks : (m : Men) (r : ℕ) → slashed (rank_text m) r ≡ ranks_text m r
unfolding slashed ranks_text
same_ranks m zero = refl
same_ranks m (suc r) = ap (λ (t : List ℕ). 47 ∷ rank_text m r ++ t) (same_ranks m r)

-- what says fields has the form
pub says_formed : (v : Edition) (t : List ℕ) (f : Position) → Says v f t → Formed t
unfolding print_of men_text
says_formed v t f s =
    let m = men_at f.pieces f.colors in
    record {
      ranks = rank_text m;
      formed = λ r h. rank_formed m r;
      turn = f.turn;
      white = f.white;
      black = f.black;
      passant = f.passant;
      square = s.square;
      text = ap (λ (x : List ℕ). (rank_text m 7 ++ x) ++ tail_text f.turn f.white f.black f.passant) (same_ranks m 7) ∙ s.text;
    }

-- with the same state
pub says_state : (v : Edition) (t : List ℕ) (f : Position) (s : Says v f t) → (says_formed v t f s).passant ≡ f.passant
unfolding says_formed
says_state v t f s = refl

-- the men of eight lists of squares
men_by : (ℕ → List Man) → Men
men_by q k = cond (ltb k 64) (get_or (q (rank k)) (file k) empty) empty

men_by_on : (q : ℕ → List Man) → sets.OnBoard (men_by q)
unfolding men_by
men_by_on q k h = rw (le-ltb k 64 h)

at_square : (q : ℕ → List Man) (r i : ℕ) → r < 8 → i < 8 → men_by q (8 * r + i) ≡ get_or (q r) i empty
unfolding men_by
at_square q r i h k =
    let a : (8 * r + i) / 8 ≡ r = omega arith in
    let b : (8 * r + i) % 8 ≡ i = omega arith in
    let l : 8 * r + i < 64 = omega arith in
    rw (lt-ltb (8 * r + i) 64 l, a, b)

-- n squares from i on are a list that agrees with them
squares_are : (m : Men) (xs : List Man) (i : ℕ) → ((j : ℕ) → j < length xs → m (i + j) ≡ get_or xs j empty) → squares_from m (length xs) i ≡ xs
unfolding squares_from
squares_are m [] i h = refl
squares_are m (x ∷ xs) i h =
    let a : i + 0 ≡ i = omega arith in
    ap₂ (λ (y : Man) (ys : List Man). y ∷ ys) (sym (ap m a) ∙ h 0 (omega arith))
    (squares_are m xs (suc i) (λ j l. let b : suc i + j ≡ i + suc j = omega arith in ap m b ∙ h (suc j) (omega arith)))

rank_is : (q : ℕ → List Man) (r : ℕ) → r < 8 → length (q r) ≡ 8 → rank_text (men_by q) r ≡ run_text 0 (q r)
rank_is q r h e =
    ap (λ (n : ℕ). run_text 0 (squares_from (men_by q) n (8 * r))) (sym e)
    ∙ ap (run_text 0) (squares_are (men_by q) (q r) (8 * r) (λ j l. at_square q r j h (omega arith)))

slashed_cong : (s q : ℕ → List ℕ) (n : ℕ) → ((r : ℕ) → r < n → s r ≡ q r) → slashed s n ≡ slashed q n
unfolding slashed
slashed_cong s q zero h = refl
slashed_cong s q (suc n) h = ap₂ (λ (x y : List ℕ). 47 ∷ x ++ y) (h n (omega arith)) (slashed_cong s q n (λ r l. h r (omega arith)))

module _ (t : List ℕ) (w : Formed t) where
  -- the squares of a rank
  squares_by : (r : ℕ) → (r < 8) ⊎ (8 ≤ r) → List Man
  squares_by r (inl h) = (rank_printed (w.ranks r) (w.formed r h)).0
  squares_by r (inr h) = []

  squares_by_lem : (r : ℕ) (o : (r < 8) ⊎ (8 ≤ r)) → r < 8 → (length (squares_by r o) ≡ 8) × (run_text 0 (squares_by r o) ≡ w.ranks r)
  unfolding squares_by
  squares_by_lem r (inl h) l = let e = rank_printed (w.ranks r) (w.formed r h) in (e.1, e.2)
  squares_by_lem r (inr h) l = absurd (omega arith)

  squares_of : ℕ → List Man
  squares_of r = squares_by r (order r 8)

  rank_there : (r : ℕ) → r < 8 → rank_text (men_by squares_of) r ≡ w.ranks r
  unfolding squares_of
  rank_there r h = let e = squares_by_lem r (order r 8) h in rank_is squares_of r h e.0 ∙ e.1

  -- what has the form says fields
  pub formed_says : (v : Edition) → (f : Position) × Says v f t
  unfolding print_of men_text
  formed_says v =
      let m = men_by squares_of in
      let tail = tail_text w.turn w.white w.black w.passant in (
        record { pieces = kind_sets (men_by squares_of); colors = color_sets (men_by squares_of); turn = w.turn; white = w.white; black = w.black; passant = w.passant; terms = terms_of v },
        record {
          edition = refl;
          clean = read_clean m (men_by_on squares_of);
          square = w.square;
          text =
              ap (λ (x : Men). men_text x ++ tail) (men_shown m (men_by_on squares_of))
              ∙ ap (λ (x : List ℕ). (rank_text m 7 ++ x) ++ tail) (sym (same_ranks m 7))
              ∙ ap₂ (λ (x y : List ℕ). (x ++ y) ++ tail) (rank_there 7 (omega arith)) (slashed_cong (rank_text m) w.ranks 7 (λ r h. rank_there r (omega arith)))
              ∙ w.text;
        },
      )

  pub formed_state : (v : Edition) → (formed_says v).0.passant ≡ w.passant
  unfolding formed_says
  formed_state v = refl

-- the reader's verdict, in document 01's words: in form exactly when the text has the form
pub in_form_formed : (v : Edition) (t : List ℕ) (r : Raw) → Answers v t r → r.form ≡ InForm → Formed t
in_form_formed v t r a e = says_formed v t r.position (subst (λ (z : Form). AnswersBy v t r.position z) e a)

pub out_of_form_not_formed : (v : Edition) (t : List ℕ) (r : Raw) → Answers v t r → r.form ≡ OutOfForm → Formed t → ⊥
out_of_form_not_formed v t r a e w =
    let s = formed_says t w v in
    (subst (λ (z : Form). AnswersBy v t r.position z) e a).1 s.0 s.1
