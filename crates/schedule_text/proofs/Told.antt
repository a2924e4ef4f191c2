-- The reading of a line is what its fields say, and they say one thing.
use Rattle.std.specs.Prelude.{codes, option_and_then}
use Rattle.std.proofs.Common.{◌≡◌, ℕ, ◌^◌, Bool, true, false, cond, List, [], ◌∷◌, Option, Some, None, refl, ap, sym, ◌∙◌, subst}
use Rattle.std.proofs.lemmas.Bool.{eqb-true}
use Rattle.tso_core.specs.declared.Step.TheVariants.{Run, Drain}
use Rattle.schedule_text.specs.declared.schedule.Directive.{Directive}
use Rattle.schedule_text.specs.declared.schedule.Directive.TheVariants.{Step, Hold, Lazy, Auto}
use Rattle.schedule_text.specs.declared.line.Word.{Word}
use Rattle.schedule_text.specs.declared.line.Word.TheVariants as W
use Rattle.schedule_text.specs.declared.line.Reading.{Reading}
use Rattle.schedule_text.specs.declared.line.Reading.TheVariants as R
use Rattle.schedule_text.specs.Text.{has_bytes, fields_of, IsNumber, IsChoice}
use Rattle.schedule_text.specs.Schedules.{IsDirective, Runs, RunsWith, Drains, Holds, IsLazy, IsAuto, Says, Blank, Comment, Directs}
use Rattle.schedule_text.specs.Scanning.{thread_of, count_of, choice_of, word_of, run_of, directive_with, directive_of, is_skipped, has_none, reading_of, line_reading}
use Rattle.schedule_text.proofs.Fields.{thread_sound, thread_complete, count_sound, count_complete, choice_sound, choice_complete, word_sound, name_of}
use Rattle.schedule_text.proofs.Lines.{head, rest, reading, reading_is, AreFull, fields_full}

abbrev answer : Option Directive → Reading
answer None = R.Skipped
answer (Some what) = R.Directs what

-- what the fields say is read
run_complete : (thread choice : ℕ) (field : List ℕ) → IsChoice field choice → run_of thread field ≡ Some (Step (Run thread (Some choice)))
run_complete thread choice [] h = let e = choice_complete [] choice h in cc
run_complete thread choice (b ∷ bs) h = ap (option_and_then (λ c. Some (Step (Run thread (Some c))))) (choice_complete (b ∷ bs) choice h)

threaded : (w : Word) (t field : List ℕ) (thread : ℕ) (what : Directive) → IsNumber (2 ^ 32) t thread → directive_with w thread field ≡ Some what → option_and_then (λ x. directive_with w x field) (thread_of t) ≡ Some what
threaded w t field thread what h e = ap (option_and_then (λ x. directive_with w x field)) (thread_complete t thread h) ∙ e

directs : (fields : List (List ℕ)) (what : Directive) → IsDirective fields what → reading fields ≡ R.Directs what
directs fields what (Runs t thread h) = ap reading_of (threaded W.Run t [] thread what h refl)
directs fields what (RunsWith t c thread choice h k) = ap reading_of (threaded W.Run t c thread what h (run_complete thread choice c k))
directs fields what (Drains t thread h) = ap reading_of (threaded W.Drain t [] thread what h refl)
directs fields what (Holds t n thread most h k) = ap reading_of (threaded W.Hold t n thread what h (ap (option_and_then (λ m. Some (Hold thread m))) (count_complete n most k)))
directs fields what (IsLazy t n thread most h k) = ap reading_of (threaded W.Lazy t n thread what h (ap (option_and_then (λ m. Some (Lazy thread m))) (count_complete n most k)))
directs fields what (IsAuto t n thread most h k) = ap reading_of (threaded W.Auto t n thread what h (ap (option_and_then (λ m. Some (Auto thread m))) (count_complete n most k)))

pub complete : (fields : List (List ℕ)) (what : Option Directive) → Says fields what → reading fields ≡ answer what
complete fields what Blank = refl
complete fields what (Comment first others) = refl
complete fields what (Directs f d h) = directs f d h

-- what is read the fields say
skipped_cases : (w : List ℕ) (ws : List (List ℕ)) → has_bytes w ≡ true → is_skipped w ≡ true → Says (w ∷ ws) None
skipped_cases [] ws full e = let no : false ≡ true = full in cc
skipped_cases (b ∷ bs) ws full e = subst (λ (v : ℕ). Says ((v ∷ bs) ∷ ws) None) (sym (eqb-true b 35 e)) (Comment bs ws)

skips : (s h : Bool) (o : Option Directive) → cond s R.Skipped (cond h (reading_of o) R.Bad) ≡ R.Skipped → s ≡ true
skips true h o e = refl
skips false true None e = cc
skips false true (Some d) e = cc
skips false false o e = cc

skipped_sound : (fs : List (List ℕ)) → AreFull fs → reading fs ≡ R.Skipped → Says fs None
skipped_sound [] full e = Blank
skipped_sound (w ∷ ws) full e = skipped_cases w ws full.0 (skips (is_skipped w) (has_none (head (rest (rest ws)))) (directive_of w (head ws) (head (rest ws))) e)

directs_of : (s h : Bool) (o : Option Directive) (d : Directive) → cond s R.Skipped (cond h (reading_of o) R.Bad) ≡ R.Directs d → (h ≡ true) × (o ≡ Some d)
directs_of true h o d e = cc
directs_of false true None d e = cc
directs_of false true (Some x) d e = (refl, cc)
directs_of false false o d e = cc

-- the word and the thread of a directive
record Parts (word thread field : List ℕ) (d : Directive) : Type 0 where
  w : Word
  t : ℕ
  name : word ≡ name_of w
  number : IsNumber (2 ^ 32) thread t
  rest_is : directive_with w t field ≡ Some d

thread_part : (word thread field : List ℕ) (d : Directive) (w : Word) (o : Option ℕ) → word ≡ name_of w → thread_of thread ≡ o → option_and_then (λ x. directive_with w x field) o ≡ Some d → Parts word thread field d
thread_part word thread field d w None name is e = cc
thread_part word thread field d w (Some t) name is e = record { w = w; t = t; name = name; number = thread_sound thread t is; rest_is = e }

word_part : (word thread field : List ℕ) (d : Directive) (o : Option Word) → word_of word ≡ o → option_and_then (λ w. option_and_then (λ x. directive_with w x field) (thread_of thread)) o ≡ Some d → Parts word thread field d
word_part word thread field d None is e = cc
word_part word thread field d (Some w) is e = thread_part word thread field d w (thread_of thread) (word_sound word w is) refl e

-- without a further field
alone : (w : Word) (t : List ℕ) (thread : ℕ) (d : Directive) → IsNumber (2 ^ 32) t thread → directive_with w thread [] ≡ Some d → IsDirective (name_of w ∷ t ∷ []) d
alone W.Run t thread d h e = subst (λ (x : Directive). IsDirective (codes "run" ∷ t ∷ []) x) (let s : Step (Run thread None) ≡ d = cc in s) (Runs t thread h)
alone W.Drain t thread d h e = subst (λ (x : Directive). IsDirective (codes "drain" ∷ t ∷ []) x) (let s : Step (Drain thread) ≡ d = cc in s) (Drains t thread h)
alone W.Hold t thread d h e = cc
alone W.Lazy t thread d h e = cc
alone W.Auto t thread d h e = cc

-- with one
some_of : {A : Type 0} (f : A → Directive) (o : Option A) (d : Directive) → option_and_then (λ x. Some (f x)) o ≡ Some d → (x : A) × (o ≡ Some x) × (f x ≡ d)
some_of f None d e = cc
some_of f (Some x) d e = (x, refl, cc)

counted : (name t n : List ℕ) (make : ℕ → Directive) (d : Directive) → ((most : ℕ) → IsNumber (2 ^ 64) n most → IsDirective (name ∷ t ∷ n ∷ []) (make most)) → option_and_then (λ most. Some (make most)) (count_of n) ≡ Some d → IsDirective (name ∷ t ∷ n ∷ []) d
counted name t n make d goes e =
    let s = some_of make (count_of n) d e in
    subst (λ (x : Directive). IsDirective (name ∷ t ∷ n ∷ []) x) s.2 (goes s.0 (count_sound n s.0 s.1))

beside : (w : Word) (t : List ℕ) (b : ℕ) (bs : List ℕ) (thread : ℕ) (d : Directive) → IsNumber (2 ^ 32) t thread → directive_with w thread (b ∷ bs) ≡ Some d → IsDirective (name_of w ∷ t ∷ (b ∷ bs) ∷ []) d
beside W.Run t b bs thread d h e =
    let s = some_of (λ c. Step (Run thread (Some c))) (choice_of (b ∷ bs)) d e in
    subst (λ (x : Directive). IsDirective (codes "run" ∷ t ∷ (b ∷ bs) ∷ []) x) s.2 (RunsWith t (b ∷ bs) thread s.0 h (choice_sound (b ∷ bs) s.0 s.1))
beside W.Drain t b bs thread d h e = cc
beside W.Hold t b bs thread d h e = counted (codes "hold") t (b ∷ bs) (λ m. Hold thread m) d (λ m k. Holds t (b ∷ bs) thread m h k) e
beside W.Lazy t b bs thread d h e = counted (codes "lazy") t (b ∷ bs) (λ m. Lazy thread m) d (λ m k. IsLazy t (b ∷ bs) thread m h k) e
beside W.Auto t b bs thread d h e = counted (codes "auto") t (b ∷ bs) (λ m. Auto thread m) d (λ m k. IsAuto t (b ∷ bs) thread m h k) e

no_thread : (w : List ℕ) (d : Directive) (o : Option Word) → option_and_then (λ v. option_and_then (λ x. directive_with v x []) (thread_of [])) o ≡ Some d → ⊥
no_thread w d None e = cc
no_thread w d (Some v) e = cc

none_full : (x : List ℕ) → has_bytes x ≡ true → has_none x ≡ true → ⊥
none_full [] full e = cc
none_full (b ∷ bs) full e = cc

shapes : (w : List ℕ) (ws : List (List ℕ)) (d : Directive) → AreFull ws → has_none (head (rest (rest ws))) ≡ true → directive_of w (head ws) (head (rest ws)) ≡ Some d → IsDirective (w ∷ ws) d
shapes w [] d full few e = absurd (no_thread w d (word_of w) e)
shapes w (t ∷ []) d full few e =
    let p = word_part w t [] d (word_of w) refl e in
    subst (λ (x : List ℕ). IsDirective (x ∷ t ∷ []) d) (sym p.name) (alone p.w t p.t d p.number p.rest_is)
shapes w (t ∷ [] ∷ []) d full few e = let no : false ≡ true = full.1.0 in cc
shapes w (t ∷ (b ∷ bs) ∷ []) d full few e =
    let p = word_part w t (b ∷ bs) d (word_of w) refl e in
    subst (λ (x : List ℕ). IsDirective (x ∷ t ∷ (b ∷ bs) ∷ []) d) (sym p.name) (beside p.w t b bs p.t d p.number p.rest_is)
shapes w (t ∷ n ∷ x ∷ xs) d full few e = absurd (none_full x full.1.1.0 few)

directs_sound : (fs : List (List ℕ)) (d : Directive) → AreFull fs → reading fs ≡ R.Directs d → Says fs (Some d)
directs_sound [] d full e = cc
directs_sound (w ∷ ws) d full e =
    let s = directs_of (is_skipped w) (has_none (head (rest (rest ws)))) (directive_of w (head ws) (head (rest ws))) d e in
    Directs (w ∷ ws) d (shapes w ws d full.1 s.0 s.1)

bad_sound : (fs : List (List ℕ)) → reading fs ≡ R.Bad → (what : Option Directive) → ¬ Says fs what
bad_sound fs e None says = let c = complete fs None says in cc
bad_sound fs e (Some d) says = let c = complete fs (Some d) says in cc

-- fields say one thing
answers_differ : (a b : Option Directive) → answer a ≡ answer b → a ≡ b
answers_differ None None e = refl
answers_differ None (Some d) e = cc
answers_differ (Some d) None e = cc
answers_differ (Some d) (Some c) e = cc

pub says_one : (fs : List (List ℕ)) (a b : Option Directive) → Says fs a → Says fs b → a ≡ b
says_one fs a b x y = answers_differ a b (sym (complete fs a x) ∙ complete fs b y)

-- of lines
pub skipped_line : (line : List ℕ) → line_reading line ≡ R.Skipped → Says (fields_of line) None
skipped_line line e = skipped_sound (fields_of line) (fields_full line) (reading_is line ∙ e)

pub directs_line : (line : List ℕ) (d : Directive) → line_reading line ≡ R.Directs d → Says (fields_of line) (Some d)
directs_line line d e = directs_sound (fields_of line) d (fields_full line) (reading_is line ∙ e)

pub bad_line : (line : List ℕ) → line_reading line ≡ R.Bad → (what : Option Directive) → ¬ Says (fields_of line) what
bad_line line e = bad_sound (fields_of line) (reading_is line ∙ e)
