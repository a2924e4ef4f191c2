-- The pieces of a line: each a longest word of letters, digits, '_' and '.', with a '%' or '-' right before it, or any other byte that is no blank. Blanks part pieces and are free. After GNU as; what a piece may be is this project's own. The definition goes by whole lists from the right; the code goes from byte to byte.
use Rattle.std.specs.Prelude.{ℕ, Bool, false, List, [], ◌∷◌, ◌||◌, ◌&&◌, ◌==◌, if◌then◌else◌}
use Rattle.x86_table.specs.Names.{is_of_name}

-- a space or a tab
abbrev pub is_blank : ℕ → Bool
is_blank b = b == 32 || b == 9

-- a byte of a word stands next
abbrev pub goes_on : List ℕ → Bool
goes_on [] = false
goes_on (b ∷ bs) = is_of_name b

-- the byte belongs to the piece that follows it
abbrev pub joins : ℕ → List ℕ → Bool
joins b next = (is_of_name b || b == 37 || b == 45) && goes_on next

-- the first list with a byte before it
abbrev pub onto_first : ℕ → List (List ℕ) → List (List ℕ)
onto_first b [] = (b ∷ []) ∷ []
onto_first b (first ∷ rest) = (b ∷ first) ∷ rest

abbrev pub pieces : List ℕ → List (List ℕ)
pieces [] = []
pieces (b ∷ bs) = if is_blank b then pieces bs else (if joins b bs then onto_first b (pieces bs) else (b ∷ []) ∷ pieces bs)
