-- The lines of a text and the fields of a line, one by one.
use Rattle.std.specs.Prelude.{◌==◌, not, filter}
use Rattle.std.proofs.Common.{◌≡◌, ℕ, Bool, true, false, cond, List, [], ◌∷◌, refl, ap, sym, ◌∙◌}
use Rattle.schedule_text.specs.declared.line.Reading.{Reading}
use Rattle.schedule_text.specs.declared.split.Class.TheVariants.{Blank, InField, InLine}
use Rattle.schedule_text.specs.Text.{onto, lines_of, is_blank, between_blanks, has_bytes, fields_of}
use Rattle.schedule_text.specs.Scanning.{members, front, behind, first_line, behind_line, tail_of, first_field, behind_field, fields_reading, line_reading}

-- lines
line_cases : (b : ℕ) (bs : List ℕ) (t : Bool) → lines_of bs ≡ first_line bs ∷ lines_of (behind_line bs) → cond t ([] ∷ lines_of bs) (onto b (lines_of bs)) ≡ cond (not t) (b ∷ first_line bs) [] ∷ lines_of (tail_of (cond (not t) (behind (members InLine) bs) (b ∷ bs)))
line_cases b bs true e = refl
line_cases b bs false e = ap (onto b) e

last_cases : (b : ℕ) (t : Bool) → cond t ([] ∷ []) ((b ∷ []) ∷ []) ≡ cond (not t) (b ∷ []) [] ∷ lines_of (tail_of (cond (not t) [] (b ∷ [])))
last_cases b true = refl
last_cases b false = refl

pub lines_first : (b : ℕ) (bs : List ℕ) → lines_of (b ∷ bs) ≡ first_line (b ∷ bs) ∷ lines_of (behind_line (b ∷ bs))
lines_first b [] = last_cases b (b == 10)
lines_first b (c ∷ cs) = line_cases b (c ∷ cs) (b == 10) (lines_first c cs)

-- fields
abbrev more : List ℕ → List (List ℕ)
more [] = []
more (b ∷ bs) = between_blanks bs

piece_cases : (b : ℕ) (bs : List ℕ) (t : Bool) → between_blanks bs ≡ front (members InField) bs ∷ more (behind (members InField) bs) → cond t ([] ∷ between_blanks bs) (onto b (between_blanks bs)) ≡ cond (not t) (b ∷ front (members InField) bs) [] ∷ more (cond (not t) (behind (members InField) bs) (b ∷ bs))
piece_cases b bs true e = refl
piece_cases b bs false e = ap (onto b) e

pieces_first : (bs : List ℕ) → between_blanks bs ≡ front (members InField) bs ∷ more (behind (members InField) bs)
pieces_first [] = refl
pieces_first (b ∷ bs) = piece_cases b bs (is_blank b) (pieces_first bs)

skip_cases : (b : ℕ) (bs : List ℕ) (t : Bool) → is_blank b ≡ t → fields_of bs ≡ fields_of (behind (members Blank) bs) → filter has_bytes (cond t ([] ∷ between_blanks bs) (onto b (between_blanks bs))) ≡ fields_of (cond t (behind (members Blank) bs) (b ∷ bs))
skip_cases b bs true is e = e
skip_cases b bs false is e = ap (λ u. filter has_bytes (cond u ([] ∷ between_blanks bs) (onto b (between_blanks bs)))) (sym is)

fields_skip : (bs : List ℕ) → fields_of bs ≡ fields_of (behind (members Blank) bs)
fields_skip [] = refl
fields_skip (b ∷ bs) = skip_cases b bs (is_blank b) refl (fields_skip bs)

more_cases : (b : ℕ) (bs : List ℕ) (t : Bool) → is_blank b ≡ t → filter has_bytes (more (behind (members InField) bs)) ≡ fields_of (behind (members InField) bs) → filter has_bytes (more (cond (not t) (behind (members InField) bs) (b ∷ bs))) ≡ fields_of (cond (not t) (behind (members InField) bs) (b ∷ bs))
more_cases b bs true is e = ap (λ u. filter has_bytes (cond u ([] ∷ between_blanks bs) (onto b (between_blanks bs)))) (sym is)
more_cases b bs false is e = e

more_fields : (bs : List ℕ) → filter has_bytes (more (behind (members InField) bs)) ≡ fields_of (behind (members InField) bs)
more_fields [] = refl
more_fields (b ∷ bs) = more_cases b bs (is_blank b) refl (more_fields bs)

abbrev with_field : List ℕ → List (List ℕ) → List (List ℕ)
with_field [] fields = fields
with_field (b ∷ bs) fields = (b ∷ bs) ∷ fields

filtered : (piece : List ℕ) (pieces : List (List ℕ)) → filter has_bytes (piece ∷ pieces) ≡ with_field piece (filter has_bytes pieces)
filtered [] pieces = refl
filtered (b ∷ bs) pieces = refl

fields_first : (line : List ℕ) → fields_of line ≡ with_field (first_field line) (fields_of (behind_field line))
fields_first line =
    fields_skip line
    ∙ ap (filter has_bytes) (pieces_first (behind (members Blank) line))
    ∙ filtered (first_field line) (more (behind_field line))
    ∙ ap (with_field (first_field line)) (more_fields (behind (members Blank) line))

none_cases : (b : ℕ) (bs : List ℕ) (t : Bool) → is_blank b ≡ t → (first_field bs ≡ [] → fields_of bs ≡ []) → front (members InField) (cond t (behind (members Blank) bs) (b ∷ bs)) ≡ [] → filter has_bytes (cond t ([] ∷ between_blanks bs) (onto b (between_blanks bs))) ≡ []
none_cases b bs true is go e = go e
none_cases b bs false is go e =
    let f : cond (not false) (b ∷ front (members InField) bs) [] ≡ [] = ap (λ u. cond (not u) (b ∷ front (members InField) bs) []) (sym is) ∙ e in
    cc

none_left : (line : List ℕ) → first_field line ≡ [] → fields_of line ≡ []
none_left [] e = refl
none_left (b ∷ bs) e = none_cases b bs (is_blank b) refl (none_left bs) e

-- the first of some fields, and those behind it
abbrev pub head : List (List ℕ) → List ℕ
head [] = []
head (f ∷ fs) = f

abbrev pub rest : List (List ℕ) → List (List ℕ)
rest [] = []
rest (f ∷ fs) = fs

head_cases : (field : List ℕ) (fields whole : List (List ℕ)) → whole ≡ with_field field fields → (field ≡ [] → whole ≡ []) → (head whole ≡ field) × (rest whole ≡ fields)
head_cases [] fields whole e none =
    let n = none refl in
    (ap head n, ap rest n ∙ sym n ∙ e)
head_cases (b ∷ bs) fields whole e none = (ap head e, ap rest e)

parts : (line : List ℕ) → (head (fields_of line) ≡ first_field line) × (rest (fields_of line) ≡ fields_of (behind_field line))
parts line = head_cases (first_field line) (fields_of (behind_field line)) (fields_of line) (fields_first line) (none_left line)

abbrev pub reading : List (List ℕ) → Reading
reading fs = fields_reading (head fs) (head (rest fs)) (head (rest (rest fs))) (head (rest (rest (rest fs))))

same_reading : (a b c d x y z w : List ℕ) → a ≡ x → b ≡ y → c ≡ z → d ≡ w → fields_reading a b c d ≡ fields_reading x y z w
same_reading a b c d x y z w e f g h = ap (λ v. fields_reading v b c d) e ∙ ap (λ v. fields_reading x v c d) f ∙ ap (λ v. fields_reading x y v d) g ∙ ap (λ v. fields_reading x y z v) h

-- a line is read by its fields
pub reading_is : (line : List ℕ) → reading (fields_of line) ≡ line_reading line
reading_is line =
    let one = parts line in
    let two = parts (behind_field line) in
    let three = parts (behind_field (behind_field line)) in
    let four = parts (behind_field (behind_field (behind_field line))) in
    let second : rest (rest (fields_of line)) ≡ fields_of (behind_field (behind_field line)) = ap rest one.1 ∙ two.1 in
    let third : rest (rest (rest (fields_of line))) ≡ fields_of (behind_field (behind_field (behind_field line))) = ap rest second ∙ three.1 in
    same_reading (head (fields_of line)) (head (rest (fields_of line))) (head (rest (rest (fields_of line)))) (head (rest (rest (rest (fields_of line))))) _ _ _ _ one.0 (ap head one.1 ∙ two.0) (ap head second ∙ three.0) (ap head third ∙ four.0)

-- each field has a byte
abbrev pub AreFull : List (List ℕ) → Type 0
AreFull [] = Unit {0}
AreFull (f ∷ fs) = (has_bytes f ≡ true) × AreFull fs

full_cases : (p : List ℕ) (fs : List (List ℕ)) (t : Bool) → has_bytes p ≡ t → AreFull fs → AreFull (cond t (p ∷ fs) fs)
full_cases p fs true is h = (is, h)
full_cases p fs false is h = h

full : (ps : List (List ℕ)) → AreFull (filter has_bytes ps)
full [] = tt
full (p ∷ ps) = full_cases p (filter has_bytes ps) (has_bytes p) refl (full ps)

pub fields_full : (line : List ℕ) → AreFull (fields_of line)
fields_full line = full (between_blanks line)
