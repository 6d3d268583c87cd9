-- The bodies of lines, written one by one behind the rows.
use mathlib.Core.Path.{◌≡◌, refl, sym, ◌∙◌, ap, ap₂}
use mathlib.Core.List.{List, [], ◌∷◌, ◌++◌, append_assoc, append-nil}
use Prim.Native.Nat.{ℕ, ◌+◌, ◌-◌, ◌*◌, ◌≤◌, ◌<◌}
use native.Mathlib.Omega.{arith}
use lib.ListN.{length, take, drop, length-append, length-drop}
use lib.Seq.{length-take-le, paste}
use Rattle.laws.specs.declared.Edition.TheVariants.{A}
use Rattle.laws.specs.declared.Position.{Position}
use Rattle.men_field.specs.declared.Line.{Line}
use Rattle.men_field.specs.inner.Lines.{Holds}
use Rattle.chunks.specs.Newlines.{stop_from}
use Rattle.position_text.specs.declared.Raw.{Raw}
use Rattle.position_text.specs.Form.{printed, Answers}
use Rattle.volume_body.specs.Layout.{bodied}
use Rattle.volume_contents.specs.Layout.{head_of, body_place}
use Rattle.volume_lines.specs.Register.{AllTold, lines_of, Lines, Starts}
use Rattle.volume_lines.proofs.Breaks.{some, lines_one}
use Rattle.volume_lines.proofs.Surveying.{Next, next}
use Rattle.volume_make.specs.Volumes.{rows_of, bodies_of, volume_of, numbered_from, bound}
use Rattle.volume_make.specs.inner.Filling.{joined, plain_row, Sized, BodiesIn, Counted, VolumeIn}
use Rattle.volume_make.proofs.Filling.{Filled, filled_more, filled_line, filled_none, filled_front, joined_length}
use Rattle.volume_make.proofs.Sizes.{bodied_length, numbered_length, rows_plain}

-- the same bodies whatever the numbers
unfoldable pub bodies_for : List Position → List ℕ
bodies_for [] = []
bodies_for (p ∷ ps) = bodied p ++ bodies_for ps

bodies_for_lem : (k : ℕ) (ps : List Position) → bodies_of (numbered_from k ps) ≡ bodies_for ps
unfolding bodies_of numbered_from bodies_for
bodies_for_lem k [] = refl
bodies_for_lem k (p ∷ ps) = ap (λ (z : List ℕ). bodied p ++ z) (bodies_for_lem (k + 1) ps)

for_length : (ps : List Position) → length (bodies_for ps) ≡ 34 * length ps
unfolding bodies_for
for_length [] = refl
for_length (p ∷ ps) = omega (arith, length-append (bodied p) (bodies_for ps), bodied_length p, for_length ps)

-- the bodies of the lines before `at` are written, up to `to`; those to come are `todo`
pub record Going (t o : List ℕ) (start at to : ℕ) (x : List ℕ) : Type 0 where
  pub boards : List Position
  pub lines : Lines boards t
  pub todo : List Position
  pub told : AllTold todo
  pub left : lines_of todo ≡ drop at t
  pub done : List ℕ
  pub filled : Filled o (take start o ++ done) x
  pub place : to ≡ start + length done
  pub come : done ++ bodies_for todo ≡ bodies_for boards
  pub room : to + 34 * length todo ≤ length o
  pub begin : start ≤ length o
  pub inside : at ≤ length t

-- the first of the lines to come
record First (t : List ℕ) (at : ℕ) (todo : List Position) : Type 0 where
  pub board : Position
  pub rest : List Position
  pub is : todo ≡ board ∷ rest
  pub told : AllTold rest
  pub starts : Starts board (lines_of rest) (drop at t)

first : (t : List ℕ) (at : ℕ) (todo : List Position) → AllTold todo → lines_of todo ≡ drop at t → at < length t → First t at todo
unfolding lines_of
first t at [] a l h = absurd (let z : 0 ≡ length (drop at t) = ap length l in omega (arith, length-drop at t))
first t at (p ∷ ps) a l h = record { board = p; rest = ps; is = refl; told = a.1; starts = record { told = a.0; text = l } }

module _ (t o : List ℕ) (start at to : ℕ) (x : List ℕ) (w : Going t o start at to x) (h : at < length t) where
  front : First t at w.todo
  front = first t at w.todo w.told w.left h

  more_todo : length w.todo ≡ 1 + length front.rest
  more_todo = ap length front.is ∙ omega arith

  pub going_room : to + 34 ≤ length o
  going_room = omega (arith, more_todo, w.room)

  module _ (stop : ℕ) (found : stop ≡ stop_from t at (length t - at)) (raw : Raw) (a : Answers A (take (stop - at) (drop at t)) raw) where
    follows : Next t at stop w.inside found front.board (lines_of front.rest) raw.position
    follows = next t at stop w.inside found front.board (lines_of front.rest) front.starts raw a

    pub going_past : stop < length t
    going_past = follows.ended

    pub going_more : (y : List ℕ) (l : Line) → Holds l (bodied raw.position) → y ≡ paste x to l.bytes l.len → Going t o start (stop + 1) (to + 34) y
    unfolding bodies_for
    going_more y l k q =
        record {
          boards = w.boards;
          lines = w.lines;
          todo = front.rest;
          told = front.told;
          left = sym follows.rest;
          done = w.done ++ bodied raw.position;
          filled = rw (← append_assoc (take start o) w.done (bodied raw.position)) (filled_line l to w.filled reach k (omega (arith, bodied_length raw.position, going_room)) q);
          place = omega (arith, w.place, length-append w.done (bodied raw.position), bodied_length raw.position);
          come =
              append_assoc w.done (bodied raw.position) (bodies_for front.rest)
              ∙ ap (λ (p : Position). w.done ++ (bodied p ++ bodies_for front.rest)) follows.same
              ∙ ap (λ (z : List Position). w.done ++ bodies_for z) (sym front.is)
              ∙ w.come;
          room = omega (arith, more_todo, w.room);
          begin = w.begin;
          inside = omega (arith, going_past);
        }
      where
        reach : to ≡ length (take start o ++ w.done)
        reach = omega (arith, w.place, length-append (take start o) w.done, length-take-le start o w.begin)

no_more : (todo : List Position) (t : List ℕ) (at : ℕ) → lines_of todo ≡ drop at t → length t ≤ at → todo ≡ []
unfolding lines_of
no_more [] t at l h = refl
no_more (p ∷ ps) t at l h = absurd (some (printed p) (lines_of ps) (l ∙ nothing (drop at t) (omega (arith, length-drop at t))))
  where
    nothing : (l : List ℕ) → length l ≡ 0 → l ≡ []
    nothing [] e = refl
    nothing (b ∷ s) e = absurd (omega arith)

pub going_done : (t o : List ℕ) (start at to : ℕ) (x : List ℕ) → length t ≤ at → Going t o start at to x → BodiesIn t o start x
unfolding bodies_for
going_done t o start at to x h w = λ ps l.
    let e : w.boards ≡ ps = lines_one t w.boards ps w.lines l in
    let z = no_more w.todo t at w.left h in
    let d : w.done ≡ bodies_for w.boards = sym (append-nil w.done) ∙ ap (λ (y : List Position). w.done ++ bodies_for y) (sym z) ∙ w.come in
    let b : w.done ≡ bodies_of (numbered_from 1 ps) = d ∙ ap bodies_for e ∙ sym (bodies_for_lem 1 ps) in
    let n : length (take start o ++ w.done) ≡ start + 34 * length ps =
    omega (arith, length-append (take start o) w.done, length-take-le start o w.begin, ap length d, for_length w.boards, ap length e) in
    w.filled.holds ∙ ap₂ (λ (y : List ℕ) (k : ℕ). take start o ++ y ++ drop k o) b n

-- the head, the rows and the bodies
pub volume_in : (t o a b x : List ℕ) (n : ℕ) (l : Line) → Counted t o n → Holds l (head_of n) → a ≡ paste o 0 l.bytes l.len
    → b ≡ take 6 a ++ joined (plain_row n) n ++ drop (6 + 8 * n) a → BodiesIn t b (6 + 8 * n) x → VolumeIn t o x
unfolding volume_of
volume_in t o a b x n l s k p q r = λ ps w.
    let e : s.boards ≡ ps = lines_one t s.boards ps s.lines w in
    let c : length ps ≡ n = ap length (sym e) ∙ s.count in
    let j : length (numbered_from 1 ps) ≡ n = numbered_length 1 ps ∙ c in
    let f0 : body_place n 0 ≡ body_place (length (numbered_from 1 ps)) 0 = ap (λ (i : ℕ). body_place i 0) (sym j) in
    let rows : joined (plain_row n) n ≡ rows_of (body_place (length (numbered_from 1 ps)) 0) (numbered_from 1 ps) =
    ap (joined (plain_row n)) (sym c) ∙ sym (rows_plain n 0 ps (plain_row n) w.told (λ i. ap (plain_row n) (over i))) ∙ ap (λ (i : ℕ). rows_of i (numbered_from 1 ps)) f0 in
    let rl : length (joined (plain_row n) n) ≡ 8 * n = joined_length (plain_row n) 8 (λ i. refl) n in
    let bl : length (bodies_of (numbered_from 1 ps)) ≡ 34 * length ps = ap length (bodies_for_lem 1 ps) ∙ for_length ps in
    let f1 = filled_line {y = a} l 0 (filled_none o) refl k (omega (arith, s.room)) p in
    let f2 = filled_more {y = b} (joined (plain_row n) n) 6 (8 * n) f1 refl rl (omega (arith, s.room)) q in
    let f3 = filled_more {y = x} (bodies_of (numbered_from 1 ps)) (6 + 8 * n) (34 * length ps) f2 (omega (arith, rl)) bl (omega (arith, s.room, c)) (r ps w) in
    let v : head_of n ++ joined (plain_row n) n ++ bodies_of (numbered_from 1 ps) ≡ bound ps =
    (λ i. head_of (sym j i) ++ rows i ++ bodies_of (numbered_from 1 ps)) in
    f3.holds ∙ ap (λ (y : List ℕ). y ++ drop (length y) o) v
  where
    over : (i : ℕ) → i ≡ 0 + i
    over i = omega arith
