-- Texts have no newline, so lines come apart in one way.
use mathlib.Core.Path.{◌≡◌, refl, sym, ◌∙◌, ap, subst}
use mathlib.Core.List.{List, [], ◌∷◌, ◌++◌, append_assoc}
use Prim.Native.Nat.{ℕ, zero, suc, ◌*◌, ◌<◌}
use native.Mathlib.Omega.{arith}
use lib.ListN.{length, get_or}
use Rattle.geometry.specs.declared.Color.{Color}
use Rattle.geometry.specs.declared.Color.TheVariants.{White, Black}
use Rattle.laws.specs.declared.Piece.{Piece}
use Rattle.laws.specs.declared.Piece.TheVariants.{Pawn, Knight, Bishop, Rook, Queen, King}
use Rattle.laws.specs.declared.CastleRights.{CastleRights}
use Rattle.laws.specs.declared.CastleRights.TheVariants.{NoRights, KingSide, QueenSide, Both}
use Rattle.laws.specs.declared.Edition.TheVariants.{A}
use Rattle.laws.specs.declared.EnPassantFlag.{EnPassantFlag}
use Rattle.laws.specs.declared.EnPassantFlag.TheVariants.{Any, Some, None}
use Rattle.laws.specs.declared.Position.{Position}
use Rattle.laws.specs.Men.{Man, empty, man, Men}
use Rattle.laws.specs.Boards.{men_in}
use Rattle.men_field.specs.Placement.{letter_of, flush_of, run_text, squares_from, rank_text, ranks_text, men_text}
use Rattle.position_text.specs.Form.{turn_byte, side_text, or_dash, rights_text, state_text, tail_text, print_of, printed, Says}
use Rattle.position_text.proofs.Inverse.{says_one}
use Rattle.volume_lines.specs.Register.{Told, AllTold, lines_of, Lines, Starts, Stops}

-- no byte is a newline
abbrev pub Free : List ℕ → Type 0
Free [] = Unit {0}
Free (b ∷ s) = (b ≡ 10 → ⊥) × Free s

pub free_append : (s r : List ℕ) → Free s → Free r → Free (s ++ r)
free_append [] r p q = q
free_append (b ∷ s) r p q = (p.0, free_append s r p.1 q)

pub free_of : (l : List ℕ) → ((k : ℕ) → k < length l → get_or l k 0 ≡ 10 → ⊥) → Free l
free_of [] f = tt
free_of (b ∷ s) f = (f 0 (omega arith), free_of s (λ k h. f (suc k) (omega arith)))

pub free_no : (s u : List ℕ) → Free (s ++ (10 ∷ u)) → ⊥
free_no [] u p = p.0 refl
free_no (b ∷ s) u p = free_no s u p.1

-- up to the first newline
pub free_split : (s r a b : List ℕ) → Free s → Free r → s ++ (10 ∷ a) ≡ r ++ (10 ∷ b) → (s ≡ r) × (a ≡ b)
free_split [] [] a b p q e = (refl, cc)
free_split [] (y ∷ r) a b p q e = let z : 10 ≡ y = cc in absurd (q.0 (sym z))
free_split (x ∷ s) [] a b p q e = let z : x ≡ 10 = cc in absurd (p.0 z)
free_split (x ∷ s) (y ∷ r) a b p q e =
    let z : x ≡ y = cc in
    let w : s ++ (10 ∷ a) ≡ r ++ (10 ∷ b) = cc in
    let d = free_split s r a b p.1 q.1 w in
    let h : s ≡ r = d.0 in
    (cc, d.1)

-- the text of a board is free
letter_free : (c : Color) (k : Piece) → letter_of c k ≡ 10 → ⊥
letter_free White Pawn e = omega arith
letter_free White Knight e = omega arith
letter_free White Bishop e = omega arith
letter_free White Rook e = omega arith
letter_free White Queen e = omega arith
letter_free White King e = omega arith
letter_free Black k e = omega arith

flush_free : (n : ℕ) (s : List ℕ) → Free s → Free (flush_of n s)
flush_free zero s p = p
flush_free (suc n) s p = ((λ e. omega arith), p)

run_free : (xs : List Man) (n : ℕ) → Free (run_text n xs)
unfolding run_text
run_free [] n = flush_free n [] tt
run_free (empty ∷ xs) n = run_free xs (suc n)
run_free (man c k ∷ xs) n = flush_free n (letter_of c k ∷ run_text 0 xs) (letter_free c k, run_free xs 0)

ranks_free : (m : Men) (r : ℕ) → Free (ranks_text m r)
unfolding ranks_text
ranks_free m zero = tt
ranks_free m (suc r) =
    ((λ e. omega arith), free_append (rank_text m r) (ranks_text m r) (run_free (squares_from m 8 (8 * r)) 0) (ranks_free m r))

men_free : (m : Men) → Free (men_text m)
unfolding men_text
men_free m = free_append (rank_text m 7) (ranks_text m 7) (run_free (squares_from m 8 (8 * 7)) 0) (ranks_free m 7)

side_free : (k q : ℕ) (x : CastleRights) → (k ≡ 10 → ⊥) → (q ≡ 10 → ⊥) → Free (side_text k q x)
side_free k q NoRights f g = tt
side_free k q KingSide f g = (f, tt)
side_free k q QueenSide f g = (g, tt)
side_free k q Both f g = (f, (g, tt))

dash_free : (t : List ℕ) → Free t → Free (or_dash t)
dash_free [] p = ((λ e. omega arith), tt)
dash_free (b ∷ t) p = p

rights_free : (w b : CastleRights) → Free (rights_text w b)
rights_free w b =
    dash_free (side_text 75 81 w ++ side_text 107 113 b)
    (free_append (side_text 75 81 w) (side_text 107 113 b) (side_free 75 81 w (λ e. omega arith) (λ e. omega arith)) (side_free 107 113 b (λ e. omega arith) (λ e. omega arith)))

state_free : (e : EnPassantFlag) → Free (state_text e)
state_free Any = ((λ e. omega arith), tt)
state_free (Some s) = ((λ e. omega arith), ((λ e. omega arith), tt))
state_free None = ((λ e. omega arith), tt)

turn_free : (c : Color) → turn_byte c ≡ 10 → ⊥
turn_free White e = omega arith
turn_free Black e = omega arith

print_free : (m : Men) (c : Color) (w b : CastleRights) (e : EnPassantFlag) → Free (print_of m c w b e)
unfolding print_of
print_free m c w b e =
    free_append (men_text m) (tail_text c w b e) (men_free m)
    ((λ z. omega arith), (turn_free c, ((λ z. omega arith), free_append (rights_text w b) (32 ∷ state_text e) (rights_free w b) ((λ z. omega arith), state_free e))))

pub printed_free : (f : Position) → Free (printed f)
printed_free f = print_free (men_in f) f.turn f.white f.black f.passant

-- a line says one thing
pub line_one : (f g : Position) (a b : List ℕ) → Told f → Told g → printed f ++ (10 ∷ a) ≡ printed g ++ (10 ∷ b) → (f ≡ g) × (a ≡ b)
line_one f g a b p q e =
    let d = free_split (printed f) (printed g) a b (printed_free f) (printed_free g) e in
    (says_one A (printed g) f g (subst (λ (t : List ℕ). Says A f t) d.0 p) q, d.1)

-- "Lines to volume and back must give the same bytes": the bytes of lines are those of one list of boards
pub some : (s u : List ℕ) → s ++ (10 ∷ u) ≡ [] → ⊥
some [] u e = let z : suc (length u) ≡ 0 = ap length e in omega arith
some (b ∷ s) u e = let z : suc (length (s ++ (10 ∷ u))) ≡ 0 = ap length e in omega arith

same_lines : (fs gs : List Position) → AllTold fs → AllTold gs → lines_of fs ≡ lines_of gs → fs ≡ gs
unfolding lines_of
same_lines [] [] p q e = refl
same_lines [] (g ∷ gs) p q e = absurd (some (printed g) (lines_of gs) (sym e))
same_lines (f ∷ fs) [] p q e = absurd (some (printed f) (lines_of fs) e)
same_lines (f ∷ fs) (g ∷ gs) p q e =
    let d = line_one f g (lines_of fs) (lines_of gs) p.0 q.0 e in
    let x : f ≡ g = d.0 in
    let y : fs ≡ gs = same_lines fs gs p.1 q.1 d.1 in
    cc

pub lines_one : (t : List ℕ) (fs gs : List Position) → Lines fs t → Lines gs t → fs ≡ gs
lines_one t fs gs p q = same_lines fs gs p.told q.told (p.text ∙ sym q.text)

-- lines that stop are no lines
stops_no : (fs gs : List Position) (rest : List ℕ) → AllTold fs → AllTold gs → lines_of fs ++ rest ≡ lines_of gs → 0 < length rest
    → ((f : Position) (u : List ℕ) → Starts f u rest → ⊥) → ⊥
unfolding lines_of
stops_no [] [] rest p q e h n = let z = ap length e in omega arith
stops_no [] (g ∷ gs) rest p q e h n = n g (lines_of gs) (record { told = q.0; text = sym e })
stops_no (f ∷ fs) [] rest p q e h n = some (printed f) (lines_of fs ++ rest) (sym (append_assoc (printed f) (10 ∷ lines_of fs) rest) ∙ e)
stops_no (f ∷ fs) (g ∷ gs) rest p q e h n =
    let d = line_one f g (lines_of fs ++ rest) (lines_of gs) p.0 q.0 (sym (append_assoc (printed f) (10 ∷ lines_of fs) rest) ∙ e) in
    stops_no fs gs rest p.1 q.1 d.1 h n

pub stops_lines : (t : List ℕ) (k : ℕ) (fs : List Position) → Stops t k → Lines fs t → ⊥
stops_lines t k fs s l = stops_no s.before fs s.rest s.told l.told (s.text ∙ sym l.text) s.more s.none
