-- The first piece of a line.
use Rattle.std.proofs.Common.{◌≡◌, ℕ, suc, ◌+◌, ◌-◌, ◌≤◌, List, [], ◌∷◌, length, take, drop, refl, sym, ◌∙◌, ap, Bool, true, false, cond, arith, get_or}
use Rattle.std.specs.Prelude.{◌&&◌}
use Rattle.std.proofs.lemmas.Bool.{and_parts, and_from, false≢true}
use Rattle.std.proofs.lemmas.List.{take-append-drop, take_all}
use Rattle.x86_table.specs.Names.{AllOf, IsName, begins_name, is_of_name}
use Rattle.x86_lines.specs.Pieces.{pieces, is_blank, goes_on, joins, onto_first}
use Rattle.x86_lines.specs.Reading.{opens, run, behind_first, past_blanks, all_of_name, is_name}
use Rattle.x86_lines.proofs.Cuts.{cut_word, solid_step}

-- blanks before a line change nothing
past_at : (b : ℕ) (bs : List ℕ) (blank : Bool) → is_blank b ≡ blank → pieces (past_blanks bs) ≡ pieces bs → pieces (cond blank (past_blanks bs) (b ∷ bs)) ≡ pieces (b ∷ bs)
past_at b bs true e h = h ∙ sym (ap (λ t. cond t (pieces bs) (cond (joins b bs) (onto_first b (pieces bs)) ((b ∷ []) ∷ pieces bs))) e)
past_at b bs false e h = refl

pub past_pieces : (bytes : List ℕ) → pieces (past_blanks bytes) ≡ pieces bytes
past_pieces [] = refl
past_pieces (b ∷ bs) = past_at b bs (is_blank b) refl (past_pieces bs)

past_twice_at : (b : ℕ) (bs : List ℕ) (blank : Bool) → is_blank b ≡ blank → past_blanks (past_blanks bs) ≡ past_blanks bs → past_blanks (cond blank (past_blanks bs) (b ∷ bs)) ≡ cond blank (past_blanks bs) (b ∷ bs)
past_twice_at b bs true e h = h
past_twice_at b bs false e h = ap (λ t. cond t (past_blanks bs) (b ∷ bs)) e

pub past_twice : (bytes : List ℕ) → past_blanks (past_blanks bytes) ≡ past_blanks bytes
past_twice [] = refl
past_twice (b ∷ bs) = past_twice_at b bs (is_blank b) refl (past_twice bs)

-- a run is of bytes of names, and none follows
run_at : (b : ℕ) (bs : List ℕ) (own : Bool) → is_of_name b ≡ own → all_of_name (take (run bs) bs) ≡ true → all_of_name (take (cond own (suc (run bs)) 0) (b ∷ bs)) ≡ true
run_at b bs true e h = and_from (is_of_name b) (all_of_name (take (run bs) bs)) e h
run_at b bs false e h = refl

pub run_names : (bs : List ℕ) → all_of_name (take (run bs) bs) ≡ true
run_names [] = refl
run_names (b ∷ bs) = run_at b bs (is_of_name b) refl (run_names bs)

stop_at : (b : ℕ) (bs : List ℕ) (own : Bool) → is_of_name b ≡ own → goes_on (drop (run bs) bs) ≡ false → goes_on (drop (cond own (suc (run bs)) 0) (b ∷ bs)) ≡ false
stop_at b bs true e h = h
stop_at b bs false e h = e

pub run_stops : (bs : List ℕ) → goes_on (drop (run bs) bs) ≡ false
run_stops [] = refl
run_stops (b ∷ bs) = stop_at b bs (is_of_name b) refl (run_stops bs)

-- a line that begins with no blank
past_shorter_at : (b : ℕ) (bs : List ℕ) (blank : Bool) → length (past_blanks bs) ≤ length bs → length (cond blank (past_blanks bs) (b ∷ bs)) ≤ suc (length bs)
past_shorter_at b bs true h = omega (arith, h)
past_shorter_at b bs false h = omega arith

past_shorter : (bs : List ℕ) → length (past_blanks bs) ≤ length bs
past_shorter [] = omega arith
past_shorter (b ∷ bs) = past_shorter_at b bs (is_blank b) (past_shorter bs)

solid_at : (b : ℕ) (bs : List ℕ) (blank : Bool) → is_blank b ≡ blank → cond blank (past_blanks bs) (b ∷ bs) ≡ b ∷ bs → is_blank b ≡ false
solid_at b bs true e h = absurd (let k : length (past_blanks bs) ≡ suc (length bs) = ap length h in omega (arith, past_shorter bs, k))
solid_at b bs false e h = e

cut_at : (b : ℕ) (bs : List ℕ) (may : Bool) → opens b ≡ may → is_blank b ≡ false → pieces (b ∷ bs) ≡ (b ∷ take (cond may (run bs) 0) bs) ∷ pieces (drop (cond may (run bs) 0) bs)
cut_at b bs true e solid = ap (λ (t : List ℕ). pieces (b ∷ t)) (sym (take-append-drop (run bs) bs)) ∙ cut_word b (take (run bs) bs) (drop (run bs) bs) solid e (run_names bs) (run_stops bs)
cut_at b bs false e solid = solid_step b bs false false solid (ap (λ (t : Bool). t && goes_on bs) e)

pub first_cut : (line : List ℕ) (n : ℕ) → 1 ≤ length line → past_blanks line ≡ line → n ≡ behind_first (get_or line 0 0) (drop 1 line) → pieces line ≡ take (1 + n) line ∷ pieces (drop (1 + n) line)
first_cut [] n some past e = absurd (let k : 1 ≤ 0 = some in omega arith)
first_cut (b ∷ bs) n some past e =
    let one : 1 + n ≡ suc n = omega arith in
    let solid = solid_at b bs (is_blank b) refl past in
    let same : n ≡ behind_first b bs = e in
    rw one (rw same (cut_at b bs (opens b) refl solid))

-- names
all_of_name_holds : (bs : List ℕ) → all_of_name bs ≡ true → AllOf (λ c. is_of_name c ≡ true) bs
all_of_name_holds [] h = tt
all_of_name_holds (b ∷ bs) h = let parts = and_parts (is_of_name b) (all_of_name bs) h in (parts.0, all_of_name_holds bs parts.1)

all_of_name_passes : (bs : List ℕ) → AllOf (λ c. is_of_name c ≡ true) bs → all_of_name bs ≡ true
all_of_name_passes [] h = refl
all_of_name_passes (b ∷ bs) h = and_from (is_of_name b) (all_of_name bs) h.0 (all_of_name_passes bs h.1)

pub name_holds : (w : List ℕ) → is_name w ≡ true → IsName w
name_holds [] h = absurd (false≢true h)
name_holds (b ∷ bs) h = let parts = and_parts (begins_name b) (all_of_name bs) h in (parts.0, all_of_name_holds bs parts.1)

pub name_passes : (w : List ℕ) → IsName w → is_name w ≡ true
name_passes [] h = absurd h
name_passes (b ∷ bs) h = and_from (begins_name b) (all_of_name bs) h.0 (all_of_name_passes bs h.1)

-- all behind the first byte
pub tail_is : (line : List ℕ) → take (length line - 1) (drop 1 line) ≡ drop 1 line
tail_is [] = refl
tail_is (b ∷ bs) = take_all (suc (length bs) - 1) bs (omega arith)
