-- Refusals 1 to 6 in order: the tests with their numbers, and the verdict that the code gives.
use Rattle.std.specs.Prelude.{Bool, cond, not, List, [], ◌∷◌, ◌++◌, Err}
use Rattle.laws.specs.declared.Position.{Position}
use Rattle.laws.specs.Acceptance.{kings_ok, pawns_ok, rights_ok, state_ok, quiet}
use Rattle.laws.specs.Boards.{men_ok, men_in, pos_at}
use Rattle.refusal.specs.declared.Refusal.TheVariants.{Men as men, Kings as kings, Pawn as pawn, Rights as rights, Passant as passant, Check as check}
use Rattle.refusal.specs.Refusals.{unless, and_then, Verdict, nothing_refused}
use Rattle.refusal.specs.Said.{Test, ◌else◌}

-- "Replay .. tests 1 to 5"
abbrev pub five_tests : Position → List Test
five_tests p =
    (men_ok p.pieces p.colors else men) ∷ (kings_ok (men_in p) else kings) ∷ (pawns_ok (men_in p) else pawn)
    ∷ (rights_ok (men_in p) (pos_at p).rights else rights) ∷ (state_ok p.terms.edition (men_in p) p.turn p.passant else passant) ∷ []

-- "raw men come in through 1 to 6"
abbrev pub raw_tests : Position → List Test
raw_tests p = five_tests p ++ ((quiet (men_in p) p.turn else check) ∷ [])

-- 3 to 5, by tests that fail
abbrev pub first_refused : Bool → Bool → Bool → Verdict
first_refused pawns rights' state = cond pawns (Err pawn) (cond rights' (Err rights) (cond state (Err passant) nothing_refused))

unfoldable pub third_of : Position → Verdict
third_of p = first_refused (not (pawns_ok (men_in p))) (not (rights_ok (men_in p) (pos_at p).rights)) (not (state_ok p.terms.edition (men_in p) p.turn p.passant))

-- 1 to 5 in order
unfoldable pub five_of : Position → Verdict
five_of p = unless (men_ok p.pieces p.colors) men (unless (kings_ok (men_in p)) kings (third_of p))

-- 1 to 6 in order
unfoldable pub judged_of : Position → Verdict
judged_of p = and_then (five_of p) (unless (quiet (men_in p) p.turn) check nothing_refused)
