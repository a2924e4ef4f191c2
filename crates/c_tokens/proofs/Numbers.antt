-- Numbers that digits write: more digits make no number smaller, and the digits at the front are all that count.
use Rattle.std.proofs.Common.{◌≡◌, ℕ, zero, suc, ◌+◌, ◌*◌, ◌<◌, ◌≤◌, List, [], ◌∷◌, ◌++◌, length, get_or, refl, sym, ◌∙◌, ap, subst, Bool, true, false, cond, arith}
use Rattle.c_tokens.specs.Lexemes.{is_hexadecimal, digit_value, digits_from, AllOf}
use Rattle.c_tokens.specs.Scanning.{number_from, begins}

le_times : (base n : ℕ) → 1 ≤ base → n ≤ base * n
le_times zero n h = absurd (omega arith)
le_times (suc k) n h = omega arith

grows_cases : (base n d more : ℕ) (t : Bool) → 1 ≤ base → base * n + d ≤ more → n ≤ cond t more n
grows_cases base n d more true low h = let l = le_times base n low in omega arith
grows_cases base n d more false low h = omega arith

pub grows : (base n : ℕ) (bytes : List ℕ) → 1 ≤ base → n ≤ number_from base n bytes
grows base n [] low = omega arith
grows base n (b ∷ bs) low = grows_cases base n (digit_value b) (number_from base (base * n + digit_value b) bs) (is_hexadecimal b) low (grows base (base * n + digit_value b) bs low)

pub passes : (base n : ℕ) (xs bytes : List ℕ) → 1 ≤ base → number_from base n xs ≡ number_from base 0 bytes → 0 < length xs → is_hexadecimal (get_or xs 0 0) ≡ true → 4294967295 < base * n + digit_value (get_or xs 0 0) → 4294967295 < number_from base 0 bytes
passes base n [] bytes low same some digit over = absurd (omega arith)
passes base n (b ∷ bs) bytes low same some digit over =
    let h : number_from base (base * n + digit_value b) bs ≡ number_from base 0 bytes = ap (λ t. cond t (number_from base (base * n + digit_value b) bs) n) (sym digit) ∙ same in
    let g = grows base (base * n + digit_value b) bs low in
    omega arith

pub number_exact : (base n : ℕ) (digits rest : List ℕ) → AllOf is_hexadecimal digits → begins is_hexadecimal rest ≡ false → number_from base n (digits ++ rest) ≡ digits_from base n digits
number_exact base n [] [] are e = refl
number_exact base n [] (b ∷ bs) are e = ap (λ t. cond t (number_from base (base * n + digit_value b) bs) n) e
number_exact base n (d ∷ ds) rest are e = ap (λ t. cond t (number_from base (base * n + digit_value d) (ds ++ rest)) n) are.0 ∙ number_exact base (base * n + digit_value d) ds rest are.1 e

-- the same of the numbers as the code has them
pub passes_as : (base n x y d : ℕ) (xs bytes : List ℕ) → 1 ≤ base → number_from base n xs ≡ number_from base 0 bytes → 0 < length xs → is_hexadecimal (get_or xs 0 0) ≡ true → x ≡ base → y ≡ n → d ≡ digit_value (get_or xs 0 0) → 4294967295 < x * y + d → 4294967295 < number_from base 0 bytes
passes_as base n x y d xs bytes low same some digit a b e over =
    let whole : x * y + d ≡ base * n + digit_value (get_or xs 0 0) = ap (λ v. v * y + d) a ∙ ap (λ v. base * v + d) b ∙ ap (λ v. base * n + v) e in
    passes base n xs bytes low same some digit (subst (λ (v : ℕ). 4294967295 < v) whole over)
