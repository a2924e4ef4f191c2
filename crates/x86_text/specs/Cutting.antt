-- How the code cuts a text at its line feeds: functions in the code's order. The lines of a text do not rest on them.
use Rattle.std.specs.Prelude.{ℕ, suc, List, [], ◌∷◌, ◌==◌, if◌then◌else◌}

-- the bytes before the first line feed
abbrev pub line_len : List ℕ → ℕ
line_len [] = 0
line_len (b ∷ bs) = if b == 10 then 0 else suc (line_len bs)

-- what stands behind one
abbrev pub past_feed : List ℕ → List ℕ
past_feed [] = []
past_feed (b ∷ bs) = bs
