-- The lines of a volume's boards, written one behind the other.
use mathlib.Core.Path.{◌≡◌, refl, sym, ◌∙◌, ap, subst}
use mathlib.Core.List.{List, [], ◌∷◌, ◌++◌, append_assoc, append-nil}
use Prim.Native.Nat.{ℕ, ◌+◌, ◌≤◌, ◌<◌}
use native.Mathlib.Omega.{arith}
use native.Mathlib.Numerals.{add-one}
use lib.ListN.{length, drop, length-append}
use lib.Seq.{paste}
use Rattle.laws.specs.declared.Position.{Position}
use Rattle.men_field.specs.declared.Line.{Line}
use Rattle.men_field.specs.inner.Lines.{Holds}
use Rattle.position_text.specs.declared.Raw.{Raw}
use Rattle.position_text.specs.Form.{printed}
use Rattle.volume_lines.specs.Register.{lines_of}
use Rattle.volume_lines.proofs.Pieces.{lines_append}
use Rattle.volume_make.proofs.Filling.{Filled, filled_line, filled_none}
use Rattle.volume_read.specs.Reading.{Boards}
use Rattle.volume_read.specs.inner.Scanning.{Sized, AnswersAt, Fitted, LinesIn}
use Rattle.volume_read.proofs.Boards.{read_as, boards_one, snoc_length}

-- the lines of i boards are written, up to `to`; those of `todo` are to come
pub record Lining (v o : List ℕ) (n i to : ℕ) (x : List ℕ) : Type 0 where
  pub sized : Sized v n
  pub list : List Position
  pub boards : Boards v n 0 list
  pub count : length list ≡ n
  pub room : length (lines_of list) ≤ length o
  pub done : List Position
  pub todo : List Position
  pub parts : done ++ todo ≡ list
  pub sofar : length done ≡ i
  pub come : Boards v n i todo
  pub filled : Filled o (lines_of done) x
  pub place : to ≡ length (lines_of done)

pub lining_none : (v o : List ℕ) (n : ℕ) → Fitted v o n → Lining v o n 0 0 o
unfolding lines_of
lining_none v o n f =
    record {
      sized = f.sized;
      list = f.list;
      boards = f.boards;
      count = f.count;
      room = f.room;
      done = [];
      todo = f.list;
      parts = refl;
      sofar = refl;
      come = f.boards;
      filled = filled_none o;
      place = refl;
    }

-- the first of the boards to come
record First (v : List ℕ) (n i : ℕ) (todo : List Position) : Type 0 where
  pub board : Position
  pub rest : List Position
  pub is : todo ≡ board ∷ rest
  pub has : Boards v n i (board ∷ rest)

first : (v : List ℕ) (n i : ℕ) (todo : List Position) → 0 < length todo → Boards v n i todo → First v n i todo
first v n i [] h b = absurd (omega arith)
first v n i (p ∷ ps) h b = record { board = p; rest = ps; is = refl; has = b }

module _ (v o : List ℕ) (n i to : ℕ) (x : List ℕ) (w : Lining v o n i to x) (h : i < n) (raw : Raw) (a : AnswersAt v n i raw) where
  front : First v n i w.todo
  front = first v n i w.todo (omega (arith, length-append w.done w.todo, ap length w.parts, w.count, w.sofar)) w.come

  same : raw.position ≡ front.board
  same = read_as v n i w.sized h raw a front.board front.has.0.0

  next_parts : (w.done ++ (raw.position ∷ [])) ++ front.rest ≡ w.list
  next_parts =
      append_assoc w.done (raw.position ∷ []) front.rest
      ∙ ap (λ (p : Position). w.done ++ (p ∷ front.rest)) same
      ∙ ap (λ (z : List Position). w.done ++ z) (sym front.is)
      ∙ w.parts

  pub lining_room : to + length (printed raw.position) + 1 ≤ length o
  lining_room =
      omega (arith, w.place, w.room, snoc_length w.done raw.position, ap length (sym (lines_append (w.done ++ (raw.position ∷ [])) front.rest) ∙ ap lines_of next_parts), length-append (lines_of (w.done ++ (raw.position ∷ []))) (lines_of front.rest))

  pub lining_more : (y z : List ℕ) (l m : Line) → Holds l (printed raw.position) → Holds m (10 ∷ []) → y ≡ paste x to l.bytes l.len
      → z ≡ paste y (to + l.len) m.bytes m.len → Lining v o n (i + 1) (to + l.len + 1) z
  unfolding lines_of
  lining_more y z l m hl hm ey ez =
      let f1 = filled_line l to w.filled w.place hl (omega (arith, lining_room)) ey in
      let f2 = filled_line m (to + l.len) f1 (omega (arith, w.place, hl.len, length-append (lines_of w.done) (printed raw.position))) hm (omega (arith, lining_room, hl.len)) ez in
      let e : (lines_of w.done ++ printed raw.position) ++ (10 ∷ []) ≡ lines_of (w.done ++ (raw.position ∷ [])) =
      append_assoc (lines_of w.done) (printed raw.position) (10 ∷ []) ∙ sym (lines_append w.done (raw.position ∷ [])) in
      record {
        sized = w.sized;
        list = w.list;
        boards = w.boards;
        count = w.count;
        room = w.room;
        done = w.done ++ (raw.position ∷ []);
        todo = front.rest;
        parts = next_parts;
        sofar = omega (arith, length-append w.done (raw.position ∷ []), w.sofar);
        come = subst (λ (k : ℕ). Boards v n k front.rest) (sym (add-one i)) front.has.1;
        filled = subst (λ (p : List ℕ). Filled o p z) e f2;
        place = omega (arith, w.place, hl.len, snoc_length w.done raw.position);
      }

pub lining_done : (v o : List ℕ) (n i to : ℕ) (x : List ℕ) → n ≤ i → Lining v o n i to x → LinesIn v n o x
lining_done v o n i to x h w = λ ps b c.
    let z : w.todo ≡ [] = none w.todo (omega (arith, length-append w.done w.todo, ap length w.parts, w.count, w.sofar)) in
    let e : w.done ≡ ps =
    sym (append-nil w.done) ∙ ap (λ (y : List Position). w.done ++ y) (sym z) ∙ w.parts ∙ boards_one v n 0 w.list ps w.boards b (w.count ∙ sym c) in
    w.filled.holds ∙ ap (λ (y : List Position). lines_of y ++ drop (length (lines_of y)) o) e
  where
    none : (l : List Position) → length l ≡ 0 → l ≡ []
    none [] e = refl
    none (p ∷ l) e = absurd (omega arith)
