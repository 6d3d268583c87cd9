-- The table's layout in words of 64 bits (docs/STUDY_TABLE.md): two quotas, then places of one size, the first desk's places first.
use Rattle.std.specs.Prelude.{Bool, cond, List, [], ◌∷◌, ℕ, zero, suc, ◌+◌, ◌-◌, ◌*◌, ◌/◌, eqb, leb, length, get_or}
use Rattle.squares.specs.Tests.{◌and◌}
use Rattle.board.specs.declared.RetractableBoard.{RetractableBoard}
use Rattle.place.specs.Words.{place_words, board_read, words_at}
use Rattle.desks.specs.Desks.{Place, free, held, Found, unfit, table}

-- words before the places
abbrev pub head_words : ℕ
head_words = 2

-- where place p starts
abbrev pub base : ℕ → ℕ
base p = p * place_words + head_words

-- a place is free exactly where its mark is 0
abbrev pub mark_at : List ℕ → ℕ → ℕ
mark_at s p = get_or s (base p) 0

abbrev pub board_at : List ℕ → ℕ → RetractableBoard
board_at s p = board_read (words_at s (base p) place_words)

unfoldable pub place_at : List ℕ → ℕ → Place
place_at s p = cond (eqb (mark_at s p) 0) free (held (board_at s p))

-- n places from the p-th on
unfoldable pub places_from : List ℕ → ℕ → ℕ → List Place
places_from s p zero = []
places_from s p (suc n) = place_at s p ∷ places_from s (suc p) n

-- the quota of a desk as the slice has it
abbrev pub quota_at : List ℕ → (desk : ℕ) → ℕ
quota_at s d = get_or s d 0

-- "the two together no larger than the table", which has n words
unfoldable pub room : (n p q : ℕ) → Bool
room n p q = leb head_words n and leb (p + q) ((n - head_words) / place_words)

unfoldable pub fits : List ℕ → Bool
fits s = room (length s) (quota_at s 0) (quota_at s 1)

-- the table that a lent slice holds
unfoldable pub table_of : List ℕ → Found
table_of s = cond (fits s) (table (places_from s 0 (quota_at s 0)) (places_from s (quota_at s 0) (quota_at s 1))) unfit
