-- That the bytes of a file have one answer.
use Rattle.std.proofs.Common.{◌≡◌, ℕ, List, [], length, Some, None, sym, ap, subst, ◌∙◌}
use Rattle.std.specs.Prelude.{slice_get}
use Rattle.c_tree.specs.Trees.{FileTree}
use Rattle.c_reading.specs.Answers.{tree, syntax_fault, too_deep}
use Rattle.c_reading.specs.FileAnswers.{IsFileAnswer}
use Rattle.c_reading.proofs.OneAnswer.{one_answer}
use Rattle.clight_lang.specs.Meaning.{ProgramOf}
use Rattle.clight_types.specs.declared.rule.Fault.{Fault}
use Rattle.clight_types.specs.Judged.{Judged, faults_of, made_of}
use Rattle.clight_types.specs.Rules.{rule_number}
use Rattle.clight_files.specs.Files.{FileMade, file_judged, file_faults}
use Rattle.clight_meaning.specs.Counts.{Passed, passed_counts}
use Rattle.clight_counts.specs.PassedOf.{first_passed}
use Rattle.clight_laws.specs.Laws.{Means}
use Rattle.clight_laws.proofs.Programs.{meaning_alone}
use Rattle.clight_front.specs.Fronts.{HasProgram, BreaksRule, PassesCount, Answer, Program, Rule, Count, Syntax, TooDeep, IsFront}

-- ## The reader's answers

same_file : (bytes : List ℕ) (f g : FileTree) → IsFileAnswer bytes (tree f) → IsFileAnswer bytes (tree g) → f ≡ g
same_file bytes f g a b = let e = one_answer bytes _ _ a b in cc

no_syntax : (bytes : List ℕ) (f : FileTree) (p : ℕ) → IsFileAnswer bytes (tree f) → IsFileAnswer bytes (syntax_fault p) → ⊥
no_syntax bytes f p a b = let e = one_answer bytes _ _ a b in cc

no_depth : (bytes : List ℕ) (f : FileTree) (p : ℕ) → IsFileAnswer bytes (tree f) → IsFileAnswer bytes (too_deep p) → ⊥
no_depth bytes f p a b = let e = one_answer bytes _ _ a b in cc

-- ## What a program says of its file

faultless : (size : ℕ) (f : FileTree) (p : ProgramOf) → Means size f p → file_faults size f ≡ []
faultless size f p h = ap faults_of h.judged

within : (size : ℕ) (f : FileTree) (p : ProgramOf) → Means size f p → passed_counts size f (made_of (file_judged size f)) ≡ []
within size f p h = ap (λ (j : Judged FileMade). passed_counts size f (made_of j)) h.judged ∙ h.counted

none_first : (fs : List Fault) (x : Fault) → fs ≡ [] → slice_get fs 0 ≡ Some x → ⊥
none_first fs x none first = let e : None ≡ Some x = sym (ap (λ (l : List Fault). slice_get l 0) none) ∙ first in cc

none_passed : (ps : List Passed) (x : Passed) → ps ≡ [] → first_passed ps ≡ Some x → ⊥
none_passed ps x none first = let e : None ≡ Some x = sym (ap first_passed none) ∙ first in cc

-- ## Two answers of one kind

one_program : (bytes : List ℕ) (p q : ProgramOf) → HasProgram bytes p → HasProgram bytes q → p ≡ q
one_program bytes p q a b = meaning_alone (length bytes) b.file p q (subst (λ f. Means (length bytes) f p) (same_file bytes a.file b.file a.read b.read) a.means) b.means

one_some : {A : Type 0} (x y : A) → Some x ≡ Some y → x ≡ y
one_some x y e = cc

one_fault : (bytes : List ℕ) (r s m n : ℕ) (a : BreaksRule bytes r m) (b : BreaksRule bytes s n) → a.fault ≡ b.fault
one_fault bytes r s m n a b =
    one_some a.fault b.fault (sym a.first ∙ ap (λ f. slice_get (file_faults (length bytes) f) 0) (same_file bytes a.file b.file a.read b.read) ∙ b.first)

one_rule : (bytes : List ℕ) (r s m n : ℕ) → BreaksRule bytes r m → BreaksRule bytes s n → Rule r m ≡ Rule s n
one_rule bytes r s m n a b =
    let same = one_fault bytes r s m n a b in
    let rules : r ≡ s = a.number ∙ ap (λ (f : Fault). rule_number f.rule) same ∙ sym b.number in
    let places : m ≡ n = a.place ∙ ap (λ (f : Fault). f.at) same ∙ sym b.place in
    λ i. Rule (rules i) (places i)

abbrev passed_with : ℕ → ℕ → Passed
passed_with count at = record { count = count; at = at }

abbrev count_of : Passed → ℕ
count_of x = x.count

abbrev place_of : Passed → ℕ
place_of x = x.at

one_count : (bytes : List ℕ) (c d m n : ℕ) → PassesCount bytes c m → PassesCount bytes d n → Count c m ≡ Count d n
one_count bytes c d m n a b =
    let same = one_some (passed_with c m) (passed_with d n) (sym a.first ∙ ap (λ f. first_passed (passed_counts (length bytes) f (made_of (file_judged (length bytes) f)))) (same_file bytes a.file b.file a.read b.read) ∙ b.first) in
    let counts : c ≡ d = ap count_of same in
    let places : m ≡ n = ap place_of same in
    λ i. Count (counts i) (places i)

-- ## Two answers of two kinds

program_or_rule : (bytes : List ℕ) (p : ProgramOf) (r m : ℕ) → HasProgram bytes p → BreaksRule bytes r m → ⊥
program_or_rule bytes p r m a b =
    none_first (file_faults (length bytes) b.file) b.fault
    (sym (ap (file_faults (length bytes)) (same_file bytes a.file b.file a.read b.read)) ∙ faultless (length bytes) a.file p a.means) b.first

program_or_count : (bytes : List ℕ) (p : ProgramOf) (c m : ℕ) → HasProgram bytes p → PassesCount bytes c m → ⊥
program_or_count bytes p c m a b =
    none_passed (passed_counts (length bytes) b.file (made_of (file_judged (length bytes) b.file))) (passed_with c m)
    (sym (ap (λ f. passed_counts (length bytes) f (made_of (file_judged (length bytes) f))) (same_file bytes a.file b.file a.read b.read)) ∙ within (length bytes) a.file p a.means) b.first

rule_or_count : (bytes : List ℕ) (r m c n : ℕ) → BreaksRule bytes r m → PassesCount bytes c n → ⊥
rule_or_count bytes r m c n a b =
    none_first (file_faults (length bytes) a.file) a.fault
    (ap (file_faults (length bytes)) (same_file bytes a.file b.file a.read b.read) ∙ b.faultless) a.first

pub one_front : (bytes : List ℕ) (a b : Answer) → IsFront bytes a → IsFront bytes b → a ≡ b
one_front bytes (Program p) (Program q) a b = ap Program (one_program bytes p q a b)
one_front bytes (Program p) (Rule r m) a b = absurd (program_or_rule bytes p r m a b)
one_front bytes (Program p) (Count c m) a b = absurd (program_or_count bytes p c m a b)
one_front bytes (Program p) (Syntax m) a b = absurd (no_syntax bytes a.file m a.read b)
one_front bytes (Program p) (TooDeep m) a b = absurd (no_depth bytes a.file m a.read b)
one_front bytes (Rule r m) (Program q) a b = absurd (program_or_rule bytes q r m b a)
one_front bytes (Rule r m) (Rule s n) a b = one_rule bytes r s m n a b
one_front bytes (Rule r m) (Count c n) a b = absurd (rule_or_count bytes r m c n a b)
one_front bytes (Rule r m) (Syntax n) a b = absurd (no_syntax bytes a.file n a.read b)
one_front bytes (Rule r m) (TooDeep n) a b = absurd (no_depth bytes a.file n a.read b)
one_front bytes (Count c m) (Program q) a b = absurd (program_or_count bytes q c m b a)
one_front bytes (Count c m) (Rule r n) a b = absurd (rule_or_count bytes r n c m b a)
one_front bytes (Count c m) (Count d n) a b = one_count bytes c d m n a b
one_front bytes (Count c m) (Syntax n) a b = absurd (no_syntax bytes a.file n a.read b)
one_front bytes (Count c m) (TooDeep n) a b = absurd (no_depth bytes a.file n a.read b)
one_front bytes (Syntax m) (Program q) a b = absurd (no_syntax bytes b.file m b.read a)
one_front bytes (Syntax m) (Rule s n) a b = absurd (no_syntax bytes b.file m b.read a)
one_front bytes (Syntax m) (Count d n) a b = absurd (no_syntax bytes b.file m b.read a)
one_front bytes (Syntax m) (Syntax n) a b = (let same : m ≡ n = (let e = one_answer bytes _ _ a b in cc) in ap Syntax same)
one_front bytes (Syntax m) (TooDeep n) a b = absurd (let e = one_answer bytes _ _ a b in cc)
one_front bytes (TooDeep m) (Program q) a b = absurd (no_depth bytes b.file m b.read a)
one_front bytes (TooDeep m) (Rule s n) a b = absurd (no_depth bytes b.file m b.read a)
one_front bytes (TooDeep m) (Count d n) a b = absurd (no_depth bytes b.file m b.read a)
one_front bytes (TooDeep m) (Syntax n) a b = absurd (let e = one_answer bytes _ _ a b in cc)
one_front bytes (TooDeep m) (TooDeep n) a b = (let same : m ≡ n = (let e = one_answer bytes _ _ a b in cc) in ap TooDeep same)
