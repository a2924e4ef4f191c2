-- What is printed of a file's tree reads as the tree, places aside.
use Rattle.std.proofs.Common.{◌≡◌, ℕ, ◌⊎◌, List, [], None, length, suc, refl, sym, ◌∙◌, ap, subst, inl, inr, ◌≤◌, arith}
use Rattle.c_grammar.specs.Tokens as k
use Rattle.c_grammar.proofs.Exact.{one_file}
use Rattle.c_reading.specs.FileAnswers.{IsFileAnswer}
use Rattle.c_reading.specs.FileTokens.{AreFileTokens}
use Rattle.c_grammar.specs.Derivations.{File}
use Rattle.c_grammar.specs.Yield.{file_yield}
use Rattle.c_grammar.specs.Spelling.{Spells}
use Rattle.c_grammar.specs.Nesting.{file_nest, limit}
use Rattle.c_tree.specs.Trees.{FileTree}
use Rattle.c_tree.specs.Statements.{file_text}
use Rattle.c_tree.specs.Reading.{file_tree}
use Rattle.c_round_trip.specs.Placeless.{placeless}
use Rattle.c_round_trip.specs.RoundTrip.{AllWritten, IsFileTree, ReadsAs, IsSameTree, opens}
use Rattle.c_reading.specs.Answers.{Answer, IsShallow, IsAnswer, tree, syntax_fault, too_deep}
use Rattle.c_round_trip.proofs.Items.{after_file, externals_text}
use Rattle.c_round_trip.proofs.Lexing.{Lexed, lex_whole}
use Rattle.c_round_trip.proofs.OneList.{one_tokens, all_written}
use Rattle.c_round_trip.proofs.Prints.{Low}
use Rattle.c_round_trip.proofs.Shallow.{low_nests, shallow_by}
use Rattle.c_round_trip.proofs.Statements.{print_file}
use Rattle.c_round_trip.proofs.Texts.{same_text}
use Rattle.c_round_trip.proofs.Written.{Written, written_end}

-- the derivation that the text of a tree has, and its tokens
pub record Trip (x : FileTree) (f : File) : Type 0 where
  pub now : File
  pub tokens : List k.Token
  pub lexed : Lexed (file_text x) tokens
  pub spelled : Spells now tokens
  pub same : placeless (file_tree now) ≡ placeless x
  pub fewer : opens tokens ≤ opens (file_yield f [])
  pub nests : Low limit (file_nest f []) → Low limit (file_nest now [])

pub trip : (x : FileTree) (h : IsFileTree x) → Trip x h.file
trip x h =
    let f = h.file in
    let a = print_file f [] h.spelled.0 in
    let text : file_text x ≡ after_file f [] = same_text x (file_tree f) h.tree ∙ externals_text f [] [] in
    let words : AllWritten (file_yield f []) = subst AllWritten (sym h.spelled.1) h.written in
    let laid : Written (file_yield a.now []) [] (after_file f []) = a.prints [] [] (after_file f []) (λ w. written_end (after_file f [])) words in
    record {
      now = a.now;
      tokens = file_yield a.now [];
      lexed = subst (λ t. Lexed t (file_yield a.now [])) (sym text) (lex_whole (file_yield a.now []) (after_file f []) laid);
      spelled = (a.ok, refl);
      same = a.same [] [] refl ∙ sym h.tree;
      fewer = a.fewer [] [] (omega arith);
      nests = λ l. a.nests limit [] [] (λ w. w) l;
    }

file_tokens : (text : List ℕ) (ts : List k.Token) → Lexed text ts → AreFileTokens text ts
file_tokens text ts l = record { scanned = l.list; bad = None; exact = l.exact; each = l.each }

abbrev read_tokens : (text : List ℕ) (x : FileTree) (r : ReadsAs text x) → AreFileTokens text r.tokens
read_tokens text x r = record { scanned = r.scanned; bad = None; exact = r.exact; each = r.each }

pub reads_as : (x : FileTree) → IsFileTree x → ReadsAs (file_text x) x
reads_as x h = let a = trip x h in record { scanned = a.lexed.list; exact = a.lexed.exact; tokens = a.tokens; each = a.lexed.each; file = a.now; spelled = a.spelled; same = a.same }

-- what was read is a file's tree
abbrev pub read_tree : (bytes : List ℕ) (x : FileTree) → IsFileAnswer bytes (tree x) → IsFileTree x
read_tree bytes x r =
    record { file = r.answers.0; tokens = r.tokens; spelled = r.answers.1; written = all_written bytes r.tokens r.are; tree = ap placeless r.answers.2 }

pub reads_again : (bytes : List ℕ) (x : FileTree) → IsFileAnswer bytes (tree x) → (y : FileTree) × IsFileAnswer (file_text x) (tree y) × (placeless y ≡ placeless x)
reads_again bytes x r =
    let a = trip x (read_tree bytes x r) in
    let low = low_nests r.answers.0 r.tokens r.answers.1 r.answers.3 in
    let shallow : IsShallow a.tokens (length a.tokens) = λ m le deep. shallow_by a.now a.tokens a.spelled (a.nests low) m deep in (
      file_tree a.now,
      record { tokens = a.tokens; are = file_tokens (file_text x) a.tokens a.lexed; answers = (a.now, a.spelled, refl, shallow) },
      a.same,
    )

same_file : (f g : File) (x : FileTree) (ts : List k.Token) → Spells f ts → Spells g ts → placeless (file_tree f) ≡ placeless x → placeless (file_tree g) ≡ placeless x
same_file f g x ts hf hg same = ap (λ y. placeless (file_tree y)) (one_file g f ts hg hf) ∙ same

-- what the reader may answer for tokens that a file spells
abbrev TreeOrDeep : FileTree → Answer → Type 0
TreeOrDeep x a = IsSameTree x a ⊎ ((p : ℕ) × (a ≡ too_deep p))

answered : (x : FileTree) (f : File) (ts : List k.Token) (size : ℕ) → Spells f ts → placeless (file_tree f) ≡ placeless x → (a : Answer) → IsAnswer ts size a → TreeOrDeep x a
answered x f ts size h same (tree y) r = inl (y, refl, ap placeless r.2 ∙ same_file f r.0 x ts h r.1 same)
answered x f ts size h same (syntax_fault p) r = absurd (r.1.no_file f h)
answered x f ts size h same (too_deep p) r = inr (p, refl)

pub reads_or_deep : (x : FileTree) → IsFileTree x → (a : Answer) → IsFileAnswer (file_text x) a → IsSameTree x a ⊎ ((p : ℕ) × (a ≡ too_deep p))
reads_or_deep x h a r =
    let t = trip x h in
    let same : t.tokens ≡ r.tokens = one_tokens (file_text x) t.tokens r.tokens (file_tokens (file_text x) t.tokens t.lexed) r.are in
    answered x t.now r.tokens (length (file_text x)) (subst (λ us. Spells t.now us) same t.spelled) t.same a r.answers

shallow_answer : (x : FileTree) (f : File) (ts : List k.Token) (size : ℕ) → Spells f ts → Low limit (file_nest f []) → (a : Answer) → IsAnswer ts size a → TreeOrDeep x a
    → IsSameTree x a
shallow_answer x f ts size h l a r (inl y) = y
shallow_answer x f ts size h l a r (inr d) =
    let deep : IsAnswer ts size (too_deep d.0) = subst (λ b. IsAnswer ts size b) d.1 r in
    absurd (shallow_by f ts h l (suc deep.0) deep.1.deep)

-- and nothing else is read
pub reads_only : (bytes : List ℕ) (x : FileTree) → IsFileAnswer bytes (tree x) → (a : Answer) → IsFileAnswer (file_text x) a → IsSameTree x a
reads_only bytes x r a s =
    let t = trip x (read_tree bytes x r) in
    let low = low_nests r.answers.0 r.tokens r.answers.1 r.answers.3 in
    let same : t.tokens ≡ s.tokens = one_tokens (file_text x) t.tokens s.tokens (file_tokens (file_text x) t.tokens t.lexed) s.are in
    shallow_answer x t.now s.tokens (length (file_text x)) (subst (λ us. Spells t.now us) same t.spelled) (t.nests low) a s.answers (reads_or_deep x (read_tree bytes x r) a s)

-- what a text reads as is a file's tree
abbrev text_tree : (text : List ℕ) (x : FileTree) → ReadsAs text x → IsFileTree x
text_tree text x r = record { file = r.file; tokens = r.tokens; spelled = r.spelled; written = all_written text r.tokens (read_tokens text x r); tree = sym r.same }

-- of the texts that read as a tree none has fewer parentheses than the printed one
pub fewest : (x : FileTree) (text : List ℕ) (printed : ReadsAs (file_text x) x) (other : ReadsAs text x) → opens printed.tokens ≤ opens other.tokens
fewest x text printed other =
    let t = trip x (text_tree text x other) in
    let same : t.tokens ≡ printed.tokens = one_tokens (file_text x) t.tokens printed.tokens (file_tokens (file_text x) t.tokens t.lexed) (read_tokens (file_text x) x printed) in
    let one : opens t.tokens ≡ opens printed.tokens = ap opens same in
    let whole : opens (file_yield other.file []) ≡ opens other.tokens = ap opens other.spelled.1 in
    omega (arith, t.fewer, one, whole)
