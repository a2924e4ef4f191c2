-- The directives so far, and that those of the lines behind make the schedule of the text; a text has one schedule or one first bad line.
use Rattle.std.specs.Prelude.{◌==◌}
use Rattle.std.proofs.Common.{◌≡◌, ℕ, zero, suc, false, ◌+◌, ◌<◌, ◌≤◌, List, [], ◌∷◌, ◌++◌, length, Option, Some, None, refl, sym, ◌∙◌, ap, subst, arith, append_assoc, length-append}
use Rattle.std.proofs.lemmas.List.{append-nil}
use Rattle.schedule_text.specs.declared.schedule.Directive.{Directive}
use Rattle.schedule_text.specs.declared.schedule.Line.{Line}
use Rattle.schedule_text.specs.declared.line.Reading.TheVariants as R
use Rattle.schedule_text.specs.Text.{lines_of, fields_of}
use Rattle.schedule_text.specs.Schedules.{Says, LinesFrom, NoMore, Skips, Reads, ScheduleOf, IsFirstBad}
use Rattle.schedule_text.specs.Scanning.{first_line, behind_line, line_reading}
use Rattle.schedule_text.proofs.Lines.{lines_first}
use Rattle.schedule_text.proofs.Told.{skipped_line, directs_line, bad_line, says_one}

pub record Progress (bytes : List ℕ) (number : ℕ) (lines : List Line) (left : List ℕ) : Type 0 where
  pub before : List (List ℕ)
  pub parts : lines_of bytes ≡ before ++ lines_of left
  pub good : (texts : List (List ℕ)) (others : List Line) → LinesFrom (suc number) texts others → LinesFrom 1 (before ++ texts) (lines ++ others)
  pub count : number ≡ length before
  pub short : number + length left ≤ length bytes

pub start : (bytes : List ℕ) (lines : List Line) → lines ≡ [] → Progress bytes 0 lines bytes
start bytes lines none =
    let first : Progress bytes 0 [] bytes = record { before = []; parts = refl; good = λ texts others h. h; count = refl; short = omega arith } in
    subst (λ (ls : List Line). Progress bytes 0 ls bytes) (sym none) first

split : (left : List ℕ) → 0 < length left → lines_of left ≡ first_line left ∷ lines_of (behind_line left)
split [] some = absurd (omega arith)
split (b ∷ bs) some = lines_first b bs

parts_more : (whole before others behind : List (List ℕ)) (text : List ℕ) → whole ≡ before ++ others → others ≡ text ∷ behind → whole ≡ (before ++ text ∷ []) ++ behind
parts_more whole before others behind text e f = e ∙ ap (λ xs. before ++ xs) f ∙ sym (append_assoc before (text ∷ []) behind)

count_more : (number : ℕ) (before : List (List ℕ)) (text : List ℕ) → number ≡ length before → number + 1 ≡ length (before ++ text ∷ [])
count_more number before text e = omega (arith, length-append before (text ∷ []))

pub skip : (bytes : List ℕ) (number : ℕ) (lines : List Line) (left text behind : List ℕ) → Progress bytes number lines left → 0 < length left → text ≡ first_line left → behind ≡ behind_line left → length behind < length left → line_reading text ≡ R.Skipped → Progress bytes (number + 1) lines behind
skip bytes number lines left text behind p some is rest shorter e =
    let parts : lines_of left ≡ text ∷ lines_of behind = split left some ∙ ap (λ t. t ∷ lines_of (behind_line left)) (sym is) ∙ ap (λ b. text ∷ lines_of b) (sym rest) in
    let says = skipped_line text e in
    let before = p.before in
    let short : number + length left ≤ length bytes = p.short in
    record {
      before = before ++ text ∷ [];
      parts = parts_more (lines_of bytes) before (lines_of left) (lines_of behind) text p.parts parts;
      good = λ texts others h. subst (λ (ts : List (List ℕ)). LinesFrom 1 ts (lines ++ others)) (sym (append_assoc before (text ∷ []) texts)) (p.good (text ∷ texts) others (Skips (suc number) text texts others says (let same : number + 1 ≡ suc number = omega arith in subst (λ (n : ℕ). LinesFrom (suc n) texts others) same h)));
      count = count_more number before text p.count;
      short = omega arith;
    }

pub step : (bytes : List ℕ) (number : ℕ) (lines : List Line) (left text behind : List ℕ) (what : Directive) (next : List Line) → Progress bytes number lines left → 0 < length left → text ≡ first_line left → behind ≡ behind_line left → length behind < length left → line_reading text ≡ R.Directs what → next ≡ lines ++ record { number = number + 1; what = what } ∷ [] → Progress bytes (number + 1) next behind
step bytes number lines left text behind what next p some is rest shorter e pushed =
    let parts : lines_of left ≡ text ∷ lines_of behind = split left some ∙ ap (λ t. t ∷ lines_of (behind_line left)) (sym is) ∙ ap (λ b. text ∷ lines_of b) (sym rest) in
    let says = directs_line text what e in
    let before = p.before in
    let same : number + 1 ≡ suc number = omega arith in
    let short : number + length left ≤ length bytes = p.short in
    record {
      before = before ++ text ∷ [];
      parts = parts_more (lines_of bytes) before (lines_of left) (lines_of behind) text p.parts parts;
      good = λ texts others h.
          let one : LinesFrom (suc number) (text ∷ texts) (record { number = suc number; what = what } ∷ others) = Reads (suc number) text texts what others says (subst (λ (n : ℕ). LinesFrom (suc n) texts others) same h) in
          let two = p.good (text ∷ texts) (record { number = suc number; what = what } ∷ others) one in
          let three : LinesFrom 1 ((before ++ text ∷ []) ++ texts) (lines ++ (record { number = suc number; what = what } ∷ others)) = subst (λ (ts : List (List ℕ)). LinesFrom 1 ts (lines ++ (record { number = suc number; what = what } ∷ others))) (sym (append_assoc before (text ∷ []) texts)) two in
          let join : lines ++ (record { number = suc number; what = what } ∷ others) ≡ next ++ others = ap (λ (n : ℕ). lines ++ (record { number = n; what = what } ∷ others)) (sym same) ∙ sym (append_assoc lines (record { number = number + 1; what = what } ∷ []) others) ∙ ap (λ ls. ls ++ others) (sym pushed) in
          subst (λ (ls : List Line). LinesFrom 1 ((before ++ text ∷ []) ++ texts) ls) join three;
      count = count_more number before text p.count;
      short = omega arith;
    }

alone : (bytes : List ℕ) (number : ℕ) (lines : List Line) (left : List ℕ) → (p : Progress bytes number lines left) → LinesFrom 1 p.before lines
alone bytes number lines left p =
    let whole = p.good [] [] (NoMore (suc number)) in
    subst (λ (ls : List Line). LinesFrom 1 p.before ls) (append-nil lines) (subst (λ (ts : List (List ℕ)). LinesFrom 1 ts (lines ++ [])) (append-nil p.before) whole)

nothing : (xs : List ℕ) → length xs ≡ 0 → xs ≡ []
nothing [] e = refl
nothing (x ∷ xs) e = absurd (omega arith)

pub ended : (bytes : List ℕ) (number : ℕ) (lines : List Line) (left : List ℕ) → Progress bytes number lines left → length left ≡ 0 → ScheduleOf bytes lines
ended bytes number lines left p e =
    let whole : lines_of bytes ≡ p.before = p.parts ∙ ap (λ b. p.before ++ lines_of b) (nothing left e) ∙ append-nil p.before in
    subst (λ (ts : List (List ℕ)). LinesFrom 1 ts lines) (sym whole) (alone bytes number lines left p)

pub stopped : (bytes : List ℕ) (number : ℕ) (lines : List Line) (left text behind : List ℕ) → Progress bytes number lines left → 0 < length left → text ≡ first_line left → behind ≡ behind_line left → line_reading text ≡ R.Bad → IsFirstBad bytes (number + 1)
stopped bytes number lines left text behind p some is rest e =
    let parts : lines_of left ≡ text ∷ lines_of behind = split left some ∙ ap (λ t. t ∷ lines_of (behind_line left)) (sym is) ∙ ap (λ b. text ∷ lines_of b) (sym rest) in
    record {
      before = p.before;
      text = text;
      after = lines_of behind;
      lines = lines;
      parts = p.parts ∙ ap (λ xs. p.before ++ xs) parts;
      good = alone bytes number lines left p;
      bad = bad_line text e;
      number_is = let c : number ≡ length p.before = p.count in omega arith;
    }

-- a text has one schedule
says_differ : (fs : List (List ℕ)) (what : Directive) → Says fs None → Says fs (Some what) → ⊥
says_differ fs what a b = let e = says_one fs None (Some what) a b in cc

pub one_schedule : (number : ℕ) (texts : List (List ℕ)) (lines others : List Line) → LinesFrom number texts lines → LinesFrom number texts others → lines ≡ others
one_schedule number texts lines others (NoMore n) (NoMore m) = refl
one_schedule number texts lines others (Skips n text behind ls says more) (Skips m same end os told again) = one_schedule (suc n) behind ls os more again
one_schedule number texts lines others (Skips n text behind ls says more) (Reads m same end what os told again) = absurd (says_differ (fields_of text) what says told)
one_schedule number texts lines others (Reads n text behind what ls says more) (Skips m same end os told again) = absurd (says_differ (fields_of text) what told says)
one_schedule number texts lines others (Reads n text behind what ls says more) (Reads m same end other os told again) =
    let e = says_one (fields_of text) (Some what) (Some other) says told in
    let d : what ≡ other = cc in
    ap (λ (x : Directive). record { number = n; what = x } ∷ ls) d ∙ ap (λ rest. record { number = n; what = other } ∷ rest) (one_schedule (suc n) behind ls os more again)

-- a schedule's lines all say something
reaches : (number : ℕ) (before : List (List ℕ)) (text : List ℕ) (after : List (List ℕ)) (lines : List Line) → LinesFrom number (before ++ text ∷ after) lines → (what : Option Directive) × Says (fields_of text) what
reaches number [] text after lines (Skips n t ts ls says more) = (None, says)
reaches number [] text after lines (Reads n t ts what ls says more) = (Some what, says)
reaches number (b ∷ bs) text after lines (Skips n t ts ls says more) = reaches (suc n) bs text after ls more
reaches number (b ∷ bs) text after lines (Reads n t ts what ls says more) = reaches (suc n) bs text after ls more

pub not_both : (bytes : List ℕ) (lines : List Line) (number : ℕ) → ScheduleOf bytes lines → IsFirstBad bytes number → ⊥
not_both bytes lines number s b =
    let r = reaches 1 b.before b.text b.after lines (subst (λ (ts : List (List ℕ)). LinesFrom 1 ts lines) b.parts s) in
    b.bad r.0 r.1

behind_first : (number : ℕ) (text : List ℕ) (texts : List (List ℕ)) (lines : List Line) → LinesFrom number (text ∷ texts) lines → (others : List Line) × LinesFrom (suc number) texts others
behind_first number text texts lines (Skips n t ts ls says more) = (ls, more)
behind_first number text texts lines (Reads n t ts what ls says more) = (ls, more)

-- a text has one first bad line
one_place : (number : ℕ) (before other : List (List ℕ)) (text word : List ℕ) (after end : List (List ℕ)) (lines others : List Line) → before ++ text ∷ after ≡ other ++ word ∷ end → LinesFrom number before lines → LinesFrom number other others → ((what : Option Directive) → ¬ Says (fields_of text) what) → ((what : Option Directive) → ¬ Says (fields_of word) what) → length before ≡ length other
one_place number [] [] text word after end lines others e g h a b = refl
one_place number [] (o ∷ os) text word after end lines others e g h a b =
    let r = reaches number [] o os others h in
    let same : text ≡ o = cc in
    absurd (a r.0 (subst (λ (t : List ℕ). Says (fields_of t) r.0) (sym same) r.1))
one_place number (x ∷ xs) [] text word after end lines others e g h a b =
    let r = reaches number [] x xs lines g in
    let same : x ≡ word = cc in
    absurd (b r.0 (subst (λ (t : List ℕ). Says (fields_of t) r.0) same r.1))
one_place number (x ∷ xs) (o ∷ os) text word after end lines others e g h a b =
    let one = behind_first number x xs lines g in
    let two = behind_first number o os others h in
    ap suc (one_place (suc number) xs os text word after end one.0 two.0 (let same : xs ++ text ∷ after ≡ os ++ word ∷ end = cc in same) one.1 two.1 a b)

pub one_bad : (bytes : List ℕ) (number other : ℕ) → IsFirstBad bytes number → IsFirstBad bytes other → number ≡ other
one_bad bytes number other a b =
    a.number_is ∙ ap suc (one_place 1 a.before b.before a.text b.text a.after b.after a.lines b.lines (sym a.parts ∙ b.parts) a.good b.good a.bad b.bad) ∙ sym b.number_is

-- a file that is not empty
pub some_left : (n : ℕ) → false ≡ (n == 0) → 0 < n
some_left zero e = cc
some_left (suc n) e = omega arith
