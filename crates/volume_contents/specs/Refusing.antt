-- The numbers of refusal of a volume: "14 for an old line out of form or without its newline; 17 CONTENTS ..; then 18 BODY (a body with no such board), then
-- 1 to 6 for that board, then 13".
use Rattle.std.specs.Prelude.{ℕ, Result}
use Rattle.refusal.specs.declared.Refusal.TheVariants.{Text as text, Room as room}
use Rattle.refusal.specs.Refusals.{number_of}
use Rattle.volume_contents.specs.declared.Why.{Why}
use Rattle.volume_contents.specs.declared.Why.TheVariants.{Line, Contents, Body, Board, Room}

-- what went into a lent slice: the number of its bytes, or why nothing did
abbrev pub Written : Type 0
Written = Result ℕ Why

abbrev pub why_number : Why → ℕ
why_number (Line k) = number_of text
why_number (Contents w k) = 17
why_number (Body k) = 18
why_number (Board w k) = number_of w
why_number (Room n) = number_of room
