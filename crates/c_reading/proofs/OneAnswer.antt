-- The bytes of a file have one answer.
use Rattle.std.proofs.Common.{◌≡◌, ℕ, ◌<◌, ◌≤◌, Bool, true, false, nat_le, List, ◌∷◌, ◌++◌, Option, Some, None, length, suc, take, drop, refl, sym, ◌∙◌, ap, subst, arith, append_assoc}
use Rattle.std.specs.Prelude.{slice_range}
use Rattle.std.specs.List.{list_any}
use Rattle.std.proofs.lemmas.Bool.{leb-true, leb-false}
use Rattle.std.proofs.lemmas.List.{take-append-drop, take-take}
use Rattle.c_tokens.specs.declared.token.TokenKind.{TokenKind}
use Rattle.c_tokens.specs.declared.token.Token as scanned
use Rattle.c_tokens.specs.declared.constant.IntegerConstant.{IntegerConstant}
use Rattle.c_tokens.specs.Constants.{IsIntegerOf, IsCharacterIn, is_unsigned_mark}
use Rattle.c_tokens.specs.Scanning.{integer_number, is_decimal_word, character_number}
use Rattle.c_tokens.proofs.Told as told
use Rattle.c_tokens.proofs.Values.{told_decimal, marked}
use Rattle.c_tokens.proofs.Unique.{one_list}
use Rattle.c_grammar.specs.Tokens as k
use Rattle.c_grammar.specs.Spelling.{Spells, Begins}
use Rattle.c_grammar.specs.Nesting.{TooDeepAt}
use Rattle.c_grammar.specs.Reading.{SyntaxAt}
use Rattle.c_grammar.proofs.Exact.{one_file}
use Rattle.c_tree.specs.Reading.{file_tree}
use Rattle.c_reading.specs.declared.token.Kind.{Kind}
use Rattle.c_reading.specs.Kinds.{kind_of, look_up, fixed_words}
use Rattle.c_reading.specs.Words.{IsFixed, IsKindOf, IsName, IsKeyword, IsPunctuator, IsInteger, IsCharacter, number_by, number_of, AreTokensOf, NoMore, OneMore, place_at}
use Rattle.c_reading.specs.Words as fixed
use Rattle.c_reading.specs.FileTokens.{AreFileTokens}
use Rattle.c_reading.specs.Answers.{Answer, tree, syntax_fault, too_deep, IsAnswer, IsShallow}
use Rattle.c_reading.specs.FileAnswers.{IsFileAnswer}

-- ## A word is one token of the grammar

abbrev kind_in : List ℕ → Option Kind → Option k.Kind
kind_in word None = None
kind_in word (Some kind) = Some (kind_of word kind)

found : (word : List ℕ) (kind : k.Kind) → IsFixed word kind → kind_in word (look_up fixed_words word) ≡ Some kind
found word kind fixed.Void = refl
found word kind fixed.Char = refl
found word kind fixed.Short = refl
found word kind fixed.Int = refl
found word kind fixed.Long = refl
found word kind fixed.Float = refl
found word kind fixed.Double = refl
found word kind fixed.Signed = refl
found word kind fixed.Unsigned = refl
found word kind fixed.Const = refl
found word kind fixed.Volatile = refl
found word kind fixed.Restrict = refl
found word kind fixed.Extern = refl
found word kind fixed.Static = refl
found word kind fixed.Typedef = refl
found word kind fixed.Struct = refl
found word kind fixed.Union = refl
found word kind fixed.Break = refl
found word kind fixed.Continue = refl
found word kind fixed.Inline = refl
found word kind fixed.Enum = refl
found word kind fixed.Sizeof = refl
found word kind fixed.If = refl
found word kind fixed.Else = refl
found word kind fixed.While = refl
found word kind fixed.Do = refl
found word kind fixed.For = refl
found word kind fixed.Switch = refl
found word kind fixed.Case = refl
found word kind fixed.Default = refl
found word kind fixed.Return = refl
found word kind fixed.Auto = refl
found word kind fixed.Goto = refl
found word kind fixed.Register = refl
found word kind fixed.Bool' = refl
found word kind fixed.Complex = refl
found word kind fixed.Imaginary = refl
found word kind fixed.LeftBrace = refl
found word kind fixed.RightBrace = refl
found word kind fixed.LeftParen = refl
found word kind fixed.RightParen = refl
found word kind fixed.LeftBracket = refl
found word kind fixed.RightBracket = refl
found word kind fixed.Semicolon = refl
found word kind fixed.Comma = refl
found word kind fixed.Question = refl
found word kind fixed.Colon = refl
found word kind fixed.Dot = refl
found word kind fixed.Arrow = refl
found word kind fixed.Increase = refl
found word kind fixed.Decrease = refl
found word kind fixed.LogicalOr = refl
found word kind fixed.LogicalAnd = refl
found word kind fixed.BitOr = refl
found word kind fixed.BitXor = refl
found word kind fixed.Ampersand = refl
found word kind fixed.Equal = refl
found word kind fixed.NotEqual = refl
found word kind fixed.Less = refl
found word kind fixed.Greater = refl
found word kind fixed.LessEqual = refl
found word kind fixed.GreaterEqual = refl
found word kind fixed.ShiftLeft = refl
found word kind fixed.ShiftRight = refl
found word kind fixed.Plus = refl
found word kind fixed.Minus = refl
found word kind fixed.Star = refl
found word kind fixed.Slash = refl
found word kind fixed.Percent = refl
found word kind fixed.Complement = refl
found word kind fixed.Not = refl
found word kind fixed.Equals = refl
found word kind fixed.StarEquals = refl
found word kind fixed.SlashEquals = refl
found word kind fixed.PercentEquals = refl
found word kind fixed.PlusEquals = refl
found word kind fixed.MinusEquals = refl
found word kind fixed.ShiftLeftEquals = refl
found word kind fixed.ShiftRightEquals = refl
found word kind fixed.AndEquals = refl
found word kind fixed.XorEquals = refl
found word kind fixed.OrEquals = refl

one_fixed : (word : List ℕ) (a b : k.Kind) → IsFixed word a → IsFixed word b → a ≡ b
one_fixed word a b f g = let e : Some a ≡ Some b = sym (found word a f) ∙ found word b g in cc

number_is : (word : List ℕ) (c : IntegerConstant) → IsIntegerOf word c → number_of c ≡ number_by (is_decimal_word word) (list_any is_unsigned_mark word) (integer_number word)
number_is word c h =
    let value : c.value ≡ integer_number word = sym (told.integer_is h.digits c.value h.numeral h.suffix h.ending) ∙ ap integer_number (sym h.parts) in
    let decimal : c.is_decimal ≡ is_decimal_word word = h.decimal ∙ sym (told_decimal h.digits h.suffix c.value h.numeral h.ending) ∙ ap is_decimal_word (sym h.parts) in
    let unsigned : c.is_unsigned ≡ list_any is_unsigned_mark word = h.unsigned ∙ sym (marked h.digits h.suffix c.value h.numeral) ∙ ap (list_any is_unsigned_mark) (sym h.parts) in
    ap (λ (d : Bool). number_by d c.is_unsigned c.value) decimal ∙ ap (λ (u : Bool). number_by (is_decimal_word word) u c.value) unsigned ∙ ap (λ (n : ℕ). number_by (is_decimal_word word) (list_any is_unsigned_mark word) n) value

character_is : (word : List ℕ) (n : ℕ) → IsCharacterIn word n → n ≡ character_number word
character_is word n h = sym (told.character_is h.inside n h.character) ∙ ap character_number (sym h.parts)

one_kind : (l : TokenKind) (word : List ℕ) (a : k.Kind) → IsKindOf l word a → (b : k.Kind) → IsKindOf l word b → a ≡ b
one_kind l word a (IsName w) b (IsName v) = refl
one_kind l word a (IsKeyword w x f) b (IsKeyword v y g) = one_fixed w x y f g
one_kind l word a (IsPunctuator w x f) b (IsPunctuator v y g) = one_fixed w x y f g
one_kind l word a (IsInteger w c f) b (IsInteger v d g) = ap k.Constant (number_is w c f ∙ sym (number_is w d g))
one_kind l word a (IsCharacter w m f) b (IsCharacter v n g) = ap (λ (i : ℕ). k.Constant (k.Character i)) (character_is w m f ∙ sym (character_is w n g))

one_tokens : (bytes : List ℕ) (bad : Option ℕ) (list : List scanned.Token) (ks js : List k.Token) → AreTokensOf bytes bad list ks → AreTokensOf bytes bad list js → ks ≡ js
one_tokens bytes bad list ks js NoMore NoMore = refl
one_tokens bytes bad list ks js (OneMore t ts a xs f more) (OneMore t2 ts2 b ys g others) =
    ap (λ (x : k.Kind). k.token x t.from ∷ xs) (one_kind t.kind (slice_range bytes t.from t.to) a f b g) ∙ ap (λ (zs : List k.Token). k.token b t.from ∷ zs) (one_tokens bytes bad ts xs ys more others)

one_list_of : (bytes : List ℕ) (ks js : List k.Token) → AreFileTokens bytes ks → AreFileTokens bytes js → ks ≡ js
one_list_of bytes ks js f g =
    let same = one_list bytes f.scanned g.scanned f.bad g.bad f.exact g.exact in
    let each : AreTokensOf bytes g.bad g.scanned ks = subst (λ (b : Option ℕ). AreTokensOf bytes b g.scanned ks) same.1 (subst (λ (l : List scanned.Token). AreTokensOf bytes f.bad l ks) same.0 f.each) in
    one_tokens bytes g.bad g.scanned ks js each g.each

-- ## Tokens have one answer

begins_front : (xs ys : List k.Token) → Begins (xs ++ ys) → Begins xs
begins_front xs ys b = (b.0, ys ++ b.1, subst (λ (ts : List k.Token). Spells b.0 ts) (append_assoc xs ys b.1) b.2)

begins_fewer : (ts : List k.Token) (m n : ℕ) → m ≤ n → Begins (take n ts) → Begins (take m ts)
begins_fewer ts m n le b =
    let parts : take n ts ≡ take m ts ++ drop m (take n ts) = sym (take-append-drop m (take n ts)) ∙ ap (λ (xs : List k.Token). xs ++ drop m (take n ts)) (take-take m n ts le) in
    begins_front (take m ts) (drop m (take n ts)) (subst Begins parts b)

-- the least of two places is the other
no_later : (ts : List k.Token) (m n : ℕ) → SyntaxAt ts m → SyntaxAt ts n → m < n → ⊥
no_later ts m n f g lt = f.longest (let w = g.within in omega arith) (begins_fewer ts (suc m) n (omega arith) g.begins)

one_syntax_place : (ts : List k.Token) (m n : ℕ) → SyntaxAt ts m → SyntaxAt ts n → m ≡ n
one_syntax_place ts m n f g = by_order (nat_le m n) refl (nat_le n m) refl
  where
    by_order : (a : Bool) → nat_le m n ≡ a → (b : Bool) → nat_le n m ≡ b → m ≡ n
    by_order true p true q = let h = leb-true m n p in let i = leb-true n m q in omega arith
    by_order true p false q = absurd (no_later ts m n f g (let i = leb-false n m q in omega arith))
    by_order false p b q = absurd (no_later ts n m g f (let i = leb-false m n p in omega arith))

deep_no_later : (ts : List k.Token) (m n : ℕ) → TooDeepAt ts m → TooDeepAt ts n → m < n → ⊥
deep_no_later ts m n f g lt = g.shortest (suc m) (omega arith) f.deep

one_deep_place : (ts : List k.Token) (m n : ℕ) → TooDeepAt ts m → TooDeepAt ts n → m ≡ n
one_deep_place ts m n f g = by_order (nat_le m n) refl (nat_le n m) refl
  where
    by_order : (a : Bool) → nat_le m n ≡ a → (b : Bool) → nat_le n m ≡ b → m ≡ n
    by_order true p true q = let h = leb-true m n p in let i = leb-true n m q in omega arith
    by_order true p false q = absurd (deep_no_later ts m n f g (let i = leb-false n m q in omega arith))
    by_order false p b q = absurd (deep_no_later ts n m g f (let i = leb-false m n p in omega arith))

not_both : (ts : List k.Token) (m n : ℕ) → SyntaxAt ts m → IsShallow ts m → TooDeepAt ts n → ⊥
not_both ts m n f low g = by_order (nat_le (suc n) m) refl
  where
    by_order : (b : Bool) → nat_le (suc n) m ≡ b → ⊥
    by_order true p = low (suc n) (leb-true (suc n) m p) g.deep
    by_order false p =
        let after = leb-false (suc n) m p in
        let within = g.within in
        f.longest (omega arith) (begins_fewer ts (suc m) (suc n) (omega arith) g.deep.0)

not_deep : (ts : List k.Token) (n : ℕ) → IsShallow ts (length ts) → TooDeepAt ts n → ⊥
not_deep ts n low g = low (suc n) (let w = g.within in omega arith) g.deep

one_of : (ts : List k.Token) (size : ℕ) (a b : Answer) → IsAnswer ts size a → IsAnswer ts size b → a ≡ b
one_of ts size (tree x) (tree y) f g = ap tree (f.2 ∙ ap file_tree (one_file f.0 g.0 ts f.1 g.1) ∙ sym g.2)
one_of ts size (tree x) (syntax_fault q) f g = absurd (g.1.no_file f.0 f.1)
one_of ts size (tree x) (too_deep q) f g = absurd (not_deep ts g.0 f.3 g.1)
one_of ts size (syntax_fault p) (tree y) f g = absurd (f.1.no_file g.0 g.1)
one_of ts size (syntax_fault p) (syntax_fault q) f g = ap syntax_fault (f.2 ∙ ap (place_at size ts) (one_syntax_place ts f.0 g.0 f.1 g.1) ∙ sym g.2)
one_of ts size (syntax_fault p) (too_deep q) f g = absurd (not_both ts f.0 g.0 f.1 f.3 g.1)
one_of ts size (too_deep p) (tree y) f g = absurd (not_deep ts f.0 g.3 f.1)
one_of ts size (too_deep p) (syntax_fault q) f g = absurd (not_both ts g.0 f.0 g.1 g.3 f.1)
one_of ts size (too_deep p) (too_deep q) f g = ap too_deep (f.2 ∙ ap (place_at size ts) (one_deep_place ts f.0 g.0 f.1 g.1) ∙ sym g.2)

pub one_answer : (bytes : List ℕ) (a b : Answer) → IsFileAnswer bytes a → IsFileAnswer bytes b → a ≡ b
one_answer bytes a b f g =
    let same = one_list_of bytes f.tokens g.tokens f.are g.are in
    one_of g.tokens (length bytes) a b (subst (λ (ts : List k.Token). IsAnswer ts (length bytes) a) same f.answers) g.answers
