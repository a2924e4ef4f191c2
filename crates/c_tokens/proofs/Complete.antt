-- Wherever a lexeme stands, the scan finds one that ends no earlier.
use Rattle.std.proofs.Common.{◌≡◌, ℕ, ◌<◌, ◌≤◌, List, [], ◌∷◌, ◌++◌, length, refl, sym, ◌∙◌, ap, subst, Option, Some, Bool, true, false, cond, arith}
use Rattle.std.specs.Prelude.{not, ◌&&◌, ◌||◌, ◌==◌, nat_le}
use Rattle.std.proofs.lemmas.Bool.Decides.{nat_tests}
use Rattle.std.proofs.lemmas.Bool.{leb-true}
use Rattle.c_tokens.specs.Lexemes.{Bytes, AllOf, IsAmong, is_decimal, is_letter, is_letter_or_digit, keywords, punctuators}
use Rattle.c_tokens.specs.Scanning.{begins, behind, behind_one, among, behind_first, by_length, behind_digits, behind_suffix, behind_character, behind_lexeme}
use Rattle.c_tokens.proofs.Runs.{and_true, behind_more, behind_shorter}
use Rattle.c_tokens.proofs.Tables.{among_pass, all_of, all_of_holds, among_sound, first_complete}

abbrev pub Completes : List ℕ → List ℕ → Type 0
Completes s end = (after : List ℕ) × (behind_lexeme (s ++ end) ≡ Some after) × (length after ≤ length end)

pub behind_passes : (set : Bytes) (run rest : List ℕ) → AllOf set run → behind set (run ++ rest) ≡ behind set rest
behind_passes set [] rest all = refl
behind_passes set (b ∷ bs) rest all = behind_more set b (bs ++ rest) all.0 ∙ behind_passes set bs rest all.1

one_cases : (b : ℕ) (bs : List ℕ) (t : Bool) → length (cond t bs (b ∷ bs)) ≤ length (b ∷ bs)
one_cases b bs true = omega arith
one_cases b bs false = omega arith

pub one_shorter : (set : Bytes) (bytes : List ℕ) → length (behind_one set bytes) ≤ length bytes
one_shorter set [] = omega arith
one_shorter set (b ∷ bs) = one_cases b bs (set b)

-- bytes of the classes
pub digit_low : (b : ℕ) → is_decimal b ≡ true → 48 ≤ b
digit_low b e = leb-true 48 b (and_true (nat_le 48 b) (nat_le b 57) e).0

pub digit_high : (b : ℕ) → is_decimal b ≡ true → b ≤ 57
digit_high b e = leb-true b 57 (and_true (nat_le 48 b) (nat_le b 57) e).1

no_letter : (b : ℕ) → b ≤ 57 → is_letter b ≡ false
no_letter b high = grind (arith, nat_tests)

pub digit_no_letter : (b : ℕ) → is_decimal b ≡ true → is_letter b ≡ false
digit_no_letter b e = no_letter b (digit_high b e)

abbrev pub is_suffix_letter : Bytes
is_suffix_letter b = b == 117 || b == 85 || b == 108 || b == 76

high_no_digit : (b : ℕ) → 57 < b → is_decimal b ≡ false
high_no_digit b h = grind (arith, nat_tests)

-- words
abbrev other : ℕ → List ℕ → Option (List ℕ)
other b bs = cond (is_decimal b) (Some (behind_suffix (behind_digits (b ∷ bs)))) (cond (b == 39) (behind_character bs) (behind_first by_length (b ∷ bs)))

pub word_complete : (s end : List ℕ) → begins is_letter s ≡ true → AllOf is_letter_or_digit s → Completes s end
word_complete [] end first all = absurd (let k : false ≡ true = first in cc)
word_complete (b ∷ bs) end first all =
    let after = behind is_letter_or_digit ((b ∷ bs) ++ end) in
    let same : after ≡ behind is_letter_or_digit end = behind_passes is_letter_or_digit (b ∷ bs) end all in
    let short : length (behind is_letter_or_digit end) ≤ length end = behind_shorter is_letter_or_digit end in
    (after, ap (λ t. cond t (Some after) (other b (bs ++ end))) first, subst (λ (xs : List ℕ). length xs ≤ length end) (sym same) short)

abbrev pub is_word : List ℕ → Bool
is_word s = begins is_letter s && all_of is_letter_or_digit s

pub or_left : (a b : Bool) → a ≡ true → (a || b) ≡ true
or_left true b e = refl
or_left false b e = absurd (let k : false ≡ true = e in cc)

pub keyword_complete : (s end : List ℕ) → IsAmong s keywords → Completes s end
keyword_complete s end h =
    let both = and_true (begins is_letter s) (all_of is_letter_or_digit s) (among_pass is_word keywords s refl h) in
    word_complete s end both.0 (all_of_holds is_letter_or_digit s both.1)

-- punctuators
abbrev is_other : List ℕ → Bool
is_other s = begins (λ b. not (is_letter b) && (not (is_decimal b) && not (b == 39))) s && among by_length s

not_true : (t : Bool) → not t ≡ true → t ≡ false
not_true true e = absurd (let k : false ≡ true = e in cc)
not_true false e = refl

punctuator_starts : (s end : List ℕ) → begins (λ b. not (is_letter b) && (not (is_decimal b) && not (b == 39))) s ≡ true → behind_lexeme (s ++ end) ≡ behind_first by_length (s ++ end)
punctuator_starts [] end e = absurd (let k : false ≡ true = e in cc)
punctuator_starts (b ∷ bs) end e =
    let one = and_true (not (is_letter b)) (not (is_decimal b) && not (b == 39)) e in
    let two = and_true (not (is_decimal b)) (not (b == 39)) one.1 in
    ap (λ t. cond t (Some (behind is_letter_or_digit (b ∷ (bs ++ end)))) (other b (bs ++ end))) (not_true (is_letter b) one.0)
    ∙ ap (λ t. cond t (Some (behind_suffix (behind_digits (b ∷ (bs ++ end))))) (cond (b == 39) (behind_character (bs ++ end)) (behind_first by_length (b ∷ (bs ++ end))))) (not_true (is_decimal b) two.0)
    ∙ ap (λ t. cond t (behind_character (bs ++ end)) (behind_first by_length (b ∷ (bs ++ end)))) (not_true (b == 39) two.1)

pub punctuator_complete : (s end : List ℕ) → IsAmong s punctuators → Completes s end
punctuator_complete s end h =
    let both = and_true (begins (λ b. not (is_letter b) && (not (is_decimal b) && not (b == 39))) s) (among by_length s) (among_pass is_other punctuators s refl h) in
    let found = first_complete by_length s end refl (among_sound by_length s both.1) in
    (found.0, punctuator_starts s end both.0 ∙ found.1, found.2)
