-- The pieces of a gap, one by one, are the gap of the definition, and no gap goes on where no piece stands.
use Rattle.std.proofs.Common.{◌≡◌, ◌⊎◌, ℕ, ◌+◌, ◌<◌, ◌≤◌, List, [], ◌∷◌, ◌++◌, length, drop, refl, sym, ◌∙◌, ap, subst, Option, Some, None, Bool, true, false, cond, inl, inr, arith, append_assoc, length-append}
use Rattle.std.specs.Prelude.{◌&&◌, ◌==◌}
use Rattle.std.proofs.lemmas.Bool.{eqb-true}
use Rattle.c_tokens.specs.Lexemes.{Bytes, AllOf, is_decimal}
use Rattle.c_tokens.specs.Tokens.{Gap, NoMore, Space, LineFeed, LineComment, BlockComment, LineMarker, IsPast, IsInLine, IsLineEnd, HasNoClose, is_space}
use Rattle.c_tokens.specs.Scanning.{begins, behind, behind_comment, behind_marker, behind_slash, behind_piece, stays_fresh}
use Rattle.c_tokens.proofs.Runs.{test_some, and_true, run_of, behind_exact, behind_more, in_line, line_all, all_line, line_end, end_line, digit_no_space, digit_in_line}

-- comments
abbrev is_slash : Bytes
is_slash c = c == 47

record Closed (text end : List ℕ) : Type 0 where
  inside : List ℕ
  no_close : HasNoClose inside
  whole : text ≡ inside ++ 42 ∷ 47 ∷ end

none_closed : HasNoClose []
none_closed [] after e = cc
none_closed (x ∷ xs) after e = cc

slash_first : (bs : List ℕ) → begins is_slash bs ≡ true → bs ≡ 47 ∷ drop 1 bs
slash_first [] e = absurd (let k : false ≡ true = e in cc)
slash_first (c ∷ cs) e = ap (λ x. x ∷ cs) (eqb-true c 47 e)

more_open : (b : ℕ) (bs inside end : List ℕ) → (b == 42 && begins is_slash bs) ≡ false → HasNoClose inside → bs ≡ inside ++ 42 ∷ 47 ∷ end → HasNoClose (b ∷ inside)
more_open b bs inside end not_here h whole [] after e =
    let star : b ≡ 42 = cc in
    let rest : inside ≡ 47 ∷ after = cc in
    let one : (b == 42) ≡ true = ap (λ x. x == 42) star in
    let two : begins is_slash bs ≡ true = ap (begins is_slash) (whole ∙ ap (λ xs. xs ++ 42 ∷ 47 ∷ end) rest) in
    let both : (b == 42 && begins is_slash bs) ≡ true = ap (λ t. t && begins is_slash bs) one ∙ two in
    let bad : true ≡ false = sym both ∙ not_here in cc
more_open b bs inside end not_here h whole (x ∷ xs) after e = h xs after (let k : inside ≡ xs ++ 42 ∷ 47 ∷ after = cc in k)

comment_cases : (b : ℕ) (bs end : List ℕ) (t : Bool) → (b == 42 && begins is_slash bs) ≡ t → cond t (Some (drop 1 bs)) (behind_comment bs) ≡ Some end → (behind_comment bs ≡ Some end → Closed bs end) → Closed (b ∷ bs) end
comment_cases b bs end true is e more =
    let both = and_true (b == 42) (begins is_slash bs) is in
    let last : drop 1 bs ≡ end = cc in
    record { inside = []; no_close = none_closed; whole = ap (λ x. x ∷ bs) (eqb-true b 42 both.0) ∙ ap (λ xs. 42 ∷ xs) (slash_first bs both.1) ∙ ap (λ xs. 42 ∷ 47 ∷ xs) last }
comment_cases b bs end false is e more =
    let c = more e in
    record { inside = b ∷ c.inside; no_close = more_open b bs c.inside end is c.no_close c.whole; whole = ap (λ xs. b ∷ xs) c.whole }

comment_sound : (text end : List ℕ) → behind_comment text ≡ Some end → Closed text end
comment_sound [] end e = absurd (cc)
comment_sound (b ∷ bs) end e = comment_cases b bs end (b == 42 && begins is_slash bs) refl e (λ h. comment_sound bs end h)

not_closing : (b : ℕ) (bs rest : List ℕ) → HasNoClose (b ∷ bs) → (b == 42) ≡ true → begins is_slash (bs ++ 42 ∷ 47 ∷ rest) ≡ true → ⊥
not_closing b [] rest h one two = let k : false ≡ true = two in cc
not_closing b (c ∷ cs) rest h one two = h [] cs (ap (λ x. x ∷ c ∷ cs) (eqb-true b 42 one) ∙ ap (λ x. 42 ∷ x ∷ cs) (eqb-true c 47 two))

exact_cases : (b : ℕ) (bs rest : List ℕ) (t : Bool) → (b == 42 && begins is_slash (bs ++ 42 ∷ 47 ∷ rest)) ≡ t → HasNoClose (b ∷ bs) → behind_comment (bs ++ 42 ∷ 47 ∷ rest) ≡ Some rest → cond t (Some (drop 1 (bs ++ 42 ∷ 47 ∷ rest))) (behind_comment (bs ++ 42 ∷ 47 ∷ rest)) ≡ Some rest
exact_cases b bs rest true is h more = absurd (let both = and_true (b == 42) (begins is_slash (bs ++ 42 ∷ 47 ∷ rest)) is in not_closing b bs rest h both.0 both.1)
exact_cases b bs rest false is h more = more

pub comment_exact : (inside rest : List ℕ) → HasNoClose inside → behind_comment (inside ++ 42 ∷ 47 ∷ rest) ≡ Some rest
comment_exact [] rest h = refl
comment_exact (b ∷ bs) rest h = exact_cases b bs rest (b == 42 && begins is_slash (bs ++ 42 ∷ 47 ∷ rest)) refl h (comment_exact bs rest (λ before after e. h (b ∷ before) after (ap (λ xs. b ∷ xs) e)))

closed_shorter : (text end : List ℕ) → Closed text end → length end < length text
closed_shorter text end c =
    let e : length text ≡ length c.inside + length (42 ∷ 47 ∷ end) = ap length c.whole ∙ length-append c.inside (42 ∷ 47 ∷ end) in
    omega arith

-- line markers
record Marked (bytes after : List ℕ) : Type 0 where
  spaces : List ℕ
  digit : ℕ
  text : List ℕ
  are_spaces : AllOf is_space spaces
  is_digit : is_decimal digit ≡ true
  is_line : IsInLine text
  ends : IsLineEnd after
  whole : bytes ≡ (spaces ++ digit ∷ text) ++ after

marked_of : (spaces : List ℕ) → AllOf is_space spaces → (number after bytes : List ℕ) → bytes ≡ spaces ++ number → begins is_decimal number ≡ true → behind in_line number ≡ after → Marked bytes after
marked_of spaces are [] after bytes whole first last = absurd (let k : false ≡ true = first in cc)
marked_of spaces are (d ∷ ds) after bytes whole first last =
    let r = run_of in_line ds in
    let same : behind in_line ds ≡ after = sym (behind_more in_line d ds (digit_in_line d first)) ∙ last in
    record {
      spaces = spaces;
      digit = d;
      text = r.run;
      are_spaces = are;
      is_digit = first;
      is_line = all_line r.run r.all;
      ends = end_line after (ap (begins in_line) (sym same) ∙ r.stops);
      whole = whole ∙ ap (λ xs. spaces ++ d ∷ xs) (r.whole ∙ ap (λ xs. r.run ++ xs) same) ∙ sym (append_assoc spaces (d ∷ r.run) after);
    }

marker_sound : (bytes after : List ℕ) → behind_marker bytes ≡ Some after → Marked bytes after
marker_sound bytes after e =
    let r = run_of is_space bytes in
    let h = test_some (begins is_decimal (behind is_space bytes)) (Some (behind in_line (behind is_space bytes))) after e in
    let last : behind in_line (behind is_space bytes) ≡ after = let k = h.1 in cc in
    marked_of r.run r.all (behind is_space bytes) after bytes r.whole h.0 last

pub marker_exact : (spaces : List ℕ) (digit : ℕ) (text rest : List ℕ) → AllOf is_space spaces → is_decimal digit ≡ true → IsInLine text → IsLineEnd rest → behind_marker ((spaces ++ digit ∷ text) ++ rest) ≡ Some rest
marker_exact spaces digit text rest are first line ends =
    let tail = digit ∷ (text ++ rest) in
    let skip : behind is_space ((spaces ++ digit ∷ text) ++ rest) ≡ tail = ap (behind is_space) (append_assoc spaces (digit ∷ text) rest) ∙ behind_exact is_space spaces tail are (digit_no_space digit first) in
    let last : behind in_line tail ≡ rest = behind_exact in_line (digit ∷ text) rest (digit_in_line digit first, line_all text line) (line_end rest ends) in
    ap (λ xs. cond (begins is_decimal xs) (Some (behind in_line xs)) None) skip
    ∙ ap (λ t. cond t (Some (behind in_line tail)) None) first
    ∙ ap Some last

marked_shorter : (bytes after : List ℕ) → Marked bytes after → length after < length bytes
marked_shorter bytes after m =
    let e : length bytes ≡ length (m.spaces ++ m.digit ∷ m.text) + length after = ap length m.whole ∙ length-append (m.spaces ++ m.digit ∷ m.text) after in
    let f : length (m.spaces ++ m.digit ∷ m.text) ≡ length m.spaces + length (m.digit ∷ m.text) = length-append m.spaces (m.digit ∷ m.text) in
    omega arith

-- one piece
pub record Goes (fresh inner : Bool) (bytes after : List ℕ) : Type 0 where
  pub shorter : length after < length bytes
  pub goes : (now : Bool) (end : List ℕ) → Gap inner after now end → Gap fresh bytes now end

line_comment : (fresh : Bool) (bs after : List ℕ) → behind in_line bs ≡ after → Goes fresh false (47 ∷ 47 ∷ bs) after
line_comment fresh bs after e =
    let r = run_of in_line bs in
    let whole : bs ≡ r.run ++ after = r.whole ∙ ap (λ xs. r.run ++ xs) e in
    let len : length bs ≡ length r.run + length after = ap length whole ∙ length-append r.run after in
    record {
      shorter = omega arith;
      goes = λ now end g. subst (λ (xs : List ℕ). Gap fresh (47 ∷ 47 ∷ xs) now end) (sym whole) (LineComment fresh now r.run after end (all_line r.run r.all) (end_line after (ap (begins in_line) (sym e) ∙ r.stops)) g);
    }

block_comment : (fresh : Bool) (bs after : List ℕ) → behind_comment bs ≡ Some after → Goes fresh false (47 ∷ 42 ∷ bs) after
block_comment fresh bs after e =
    let c = comment_sound bs after e in
    let s = closed_shorter bs after c in
    record {
      shorter = omega arith;
      goes = λ now end g. subst (λ (xs : List ℕ). Gap fresh (47 ∷ 42 ∷ xs) now end) (sym c.whole) (BlockComment fresh now c.inside after end c.no_close g);
    }

line_marker : (bs after : List ℕ) → behind_marker bs ≡ Some after → Goes true false (35 ∷ bs) after
line_marker bs after e =
    let m = marker_sound bs after e in
    let s = marked_shorter bs after m in
    record {
      shorter = omega arith;
      goes = λ now end g. subst (λ (xs : List ℕ). Gap true (35 ∷ xs) now end) (sym m.whole) (LineMarker now m.spaces m.digit m.text after end m.are_spaces m.is_digit m.is_line m.ends g);
    }

star_cases : (fresh : Bool) (c : ℕ) (cs after : List ℕ) (t : Bool) → (c == 42) ≡ t → cond t (behind_comment cs) None ≡ Some after → Goes fresh false (47 ∷ c ∷ cs) after
star_cases fresh c cs after true is e = subst (λ (x : ℕ). Goes fresh false (47 ∷ x ∷ cs) after) (sym (eqb-true c 42 is)) (block_comment fresh cs after e)
star_cases fresh c cs after false is e = absurd (cc)

second_cases : (fresh : Bool) (c : ℕ) (cs after : List ℕ) (t : Bool) → (c == 47) ≡ t → cond t (Some (behind in_line cs)) (cond (c == 42) (behind_comment cs) None) ≡ Some after → Goes fresh false (47 ∷ c ∷ cs) after
second_cases fresh c cs after true is e = subst (λ (x : ℕ). Goes fresh false (47 ∷ x ∷ cs) after) (sym (eqb-true c 47 is)) (line_comment fresh cs after (let k : behind in_line cs ≡ after = cc in k))
second_cases fresh c cs after false is e = star_cases fresh c cs after (c == 42) refl e

slash_goes : (fresh : Bool) (bs after : List ℕ) → behind_slash bs ≡ Some after → Goes fresh false (47 ∷ bs) after
slash_goes fresh [] after e = absurd (cc)
slash_goes fresh (c ∷ cs) after e = second_cases fresh c cs after (c == 47) refl e

mark_cases : (fresh : Bool) (b : ℕ) (bs after : List ℕ) (t : Bool) → (b == 35) ≡ t → cond (t && fresh) (behind_marker bs) None ≡ Some after → Goes fresh false (b ∷ bs) after
mark_cases true b bs after true is e = subst (λ (x : ℕ). Goes true false (x ∷ bs) after) (sym (eqb-true b 35 is)) (line_marker bs after e)
mark_cases false b bs after true is e = absurd (cc)
mark_cases fresh b bs after false is e = absurd (cc)

abbrev pub marked : Bool → ℕ → List ℕ → Option (List ℕ)
marked fresh b bs = cond (b == 35 && fresh) (behind_marker bs) None

slash_cases : (fresh : Bool) (b : ℕ) (bs after : List ℕ) (t : Bool) → (b == 47) ≡ t → cond t (behind_slash bs) (marked fresh b bs) ≡ Some after → Goes fresh false (b ∷ bs) after
slash_cases fresh b bs after true is e = subst (λ (x : ℕ). Goes fresh false (x ∷ bs) after) (sym (eqb-true b 47 is)) (slash_goes fresh bs after e)
slash_cases fresh b bs after false is e = mark_cases fresh b bs after (b == 35) refl e

feed_cases : (fresh : Bool) (b : ℕ) (bs after : List ℕ) (t : Bool) → (b == 10) ≡ t → cond t (Some bs) (cond (b == 47) (behind_slash bs) (marked fresh b bs)) ≡ Some after → Goes fresh t (b ∷ bs) after
feed_cases fresh b bs after true is e =
    let same : bs ≡ after = cc in
    record {
      shorter = let l : length bs ≡ length after = ap length same in omega arith;
      goes = λ now end g. subst (λ (x : ℕ). Gap fresh (x ∷ bs) now end) (sym (eqb-true b 10 is)) (LineFeed fresh now bs end (subst (λ (xs : List ℕ). Gap true xs now end) (sym same) g));
    }
feed_cases fresh b bs after false is e = slash_cases fresh b bs after (b == 47) refl e

space_cases : (fresh : Bool) (b : ℕ) (bs after : List ℕ) (t : Bool) → is_space b ≡ t → cond t (Some bs) (cond (b == 10) (Some bs) (cond (b == 47) (behind_slash bs) (marked fresh b bs))) ≡ Some after → Goes fresh (cond t fresh (b == 10)) (b ∷ bs) after
space_cases fresh b bs after true is e =
    let same : bs ≡ after = cc in
    record {
      shorter = let l : length bs ≡ length after = ap length same in omega arith;
      goes = λ now end g. Space fresh now b bs end is (subst (λ (xs : List ℕ). Gap fresh xs now end) (sym same) g);
    }
space_cases fresh b bs after false is e = feed_cases fresh b bs after (b == 10) refl e

-- what is behind a piece is shorter, and a gap there goes on from here
pub piece_goes : (fresh : Bool) (bytes after : List ℕ) → behind_piece fresh bytes ≡ Some after → Goes fresh (stays_fresh fresh bytes) bytes after
piece_goes fresh [] after e = absurd (cc)
piece_goes fresh (b ∷ bs) after e = space_cases fresh b bs after (is_space b) refl e

-- a gap ends here or goes on behind a piece
abbrev pub GoesOn : Bool → List ℕ → Bool → List ℕ → Type 0
GoesOn fresh here now end = (after : List ℕ) × (behind_piece fresh here ≡ Some after) × Gap (stays_fresh fresh here) after now end

pub gap_goes : (fresh : Bool) (here : List ℕ) (now : Bool) (end : List ℕ) → Gap fresh here now end → ((end ≡ here) × (now ≡ fresh)) ⊎ GoesOn fresh here now end
gap_goes fresh here now end (NoMore f r) = inl (refl, refl)
gap_goes fresh here now end (Space f n b rest e is g) = inr (rest, ap (λ t. cond t (Some rest) (cond (b == 10) (Some rest) (cond (b == 47) (behind_slash rest) (marked fresh b rest)))) is, subst (λ (t : Bool). Gap (cond t fresh (b == 10)) rest now end) (sym is) g)
gap_goes fresh here now end (LineFeed f n rest e g) = inr (rest, refl, g)
gap_goes fresh here now end (LineComment f n text rest e line ends g) = inr (rest, ap Some (behind_exact in_line text rest (line_all text line) (line_end rest ends)), g)
gap_goes fresh here now end (BlockComment f n text rest e none g) = inr (rest, comment_exact text rest none, g)
gap_goes fresh here now end (LineMarker n spaces digit text rest e are first line ends g) = inr (rest, marker_exact spaces digit text rest are first line ends, g)

pub piece_past : (fresh : Bool) (here : List ℕ) → behind_piece fresh here ≡ None → IsPast fresh here
piece_past fresh here none now end g = elim (gap_goes fresh here now end g) [ inl same ↦ same.0 | inr more ↦ absurd (let e = more.1 in cc) ]

-- a gap leaves no more than there was
pub gap_shorter : (fresh : Bool) (here : List ℕ) (now : Bool) (end : List ℕ) → Gap fresh here now end → length end ≤ length here
gap_shorter fresh here now end (NoMore f r) = omega arith
gap_shorter fresh here now end (Space f n b rest e is g) = let h = gap_shorter f rest n e g in omega arith
gap_shorter fresh here now end (LineFeed f n rest e g) = let h = gap_shorter true rest n e g in omega arith
gap_shorter fresh here now end (LineComment f n text rest e line ends g) = let h = gap_shorter false rest n e g in let l = length-append text rest in omega arith
gap_shorter fresh here now end (BlockComment f n text rest e none g) = let h = gap_shorter false rest n e g in let l = length-append text (42 ∷ 47 ∷ rest) in omega arith
gap_shorter fresh here now end (LineMarker n spaces digit text rest e are first line ends g) = let h = gap_shorter false rest n e g in let l = length-append (spaces ++ digit ∷ text) rest in omega arith
