-- Runs of bytes of a set: what is behind the longest is what a run and a byte outside the set leave.
use Rattle.std.proofs.Common.{◌≡◌, ◌≢◌, ℕ, ◌+◌, ◌≤◌, List, [], ◌∷◌, ◌++◌, length, refl, sym, ◌∙◌, ap, Option, Some, None, Bool, true, false, cond, arith, length-append}
use Rattle.std.specs.Prelude.{not, ◌&&◌, ◌==◌, nat_le}
use Rattle.std.proofs.lemmas.Bool.Decides.{nat_tests}
use Rattle.std.proofs.lemmas.Bool.{leb-true, eqb-true}
use Rattle.c_tokens.specs.Lexemes.{Bytes, AllOf, is_decimal}
use Rattle.c_tokens.specs.Tokens.{IsInLine, IsLineEnd, is_space}
use Rattle.c_tokens.specs.Scanning.{begins, behind, chain}

-- a chain and a test that give something
pub chain_some : {A B : Type 0} (o : Option A) (f : A → Option B) (y : B) → chain o f ≡ Some y → (x : A) × (o ≡ Some x) × (f x ≡ Some y)
chain_some None f y e = absurd (cc)
chain_some (Some x) f y e = (x, refl, e)

pub test_some : {A : Type 0} (t : Bool) (o : Option A) (y : A) → cond t o None ≡ Some y → (t ≡ true) × (o ≡ Some y)
test_some true o y e = (refl, e)
test_some false o y e = absurd (cc)

pub and_true : (a b : Bool) → (a && b) ≡ true → (a ≡ true) × (b ≡ true)
and_true true true e = (refl, refl)
and_true true false e = (refl, e)
and_true false b e = absurd (cc)

-- the longest run, and what is behind it
pub record Run (set : Bytes) (bytes : List ℕ) : Type 0 where
  pub run : List ℕ
  pub all : AllOf set run
  pub whole : bytes ≡ run ++ behind set bytes
  pub stops : begins set (behind set bytes) ≡ false

run_cases : (set : Bytes) (b : ℕ) (bs : List ℕ) (t : Bool) → set b ≡ t → Run set bs → Run set (b ∷ bs)
run_cases set b bs true e r = record {
  run = b ∷ r.run;
  all = (e, r.all);
  whole = ap (λ xs. b ∷ xs) r.whole ∙ ap (λ t. (b ∷ r.run) ++ cond t (behind set bs) (b ∷ bs)) (sym e);
  stops = ap (λ t. begins set (cond t (behind set bs) (b ∷ bs))) e ∙ r.stops;
}
run_cases set b bs false e r = record {
  run = [];
  all = tt;
  whole = ap (λ t. cond t (behind set bs) (b ∷ bs)) (sym e);
  stops = ap (λ t. begins set (cond t (behind set bs) (b ∷ bs))) e ∙ e;
}

pub run_of : (set : Bytes) (bytes : List ℕ) → Run set bytes
run_of set [] = record { run = []; all = tt; whole = refl; stops = refl }
run_of set (b ∷ bs) = run_cases set b bs (set b) refl (run_of set bs)

pub behind_exact : (set : Bytes) (run rest : List ℕ) → AllOf set run → begins set rest ≡ false → behind set (run ++ rest) ≡ rest
behind_exact set [] [] are e = refl
behind_exact set [] (b ∷ bs) are e = ap (λ t. cond t (behind set bs) (b ∷ bs)) e
behind_exact set (d ∷ ds) rest are e = ap (λ t. cond t (behind set (ds ++ rest)) (d ∷ (ds ++ rest))) are.0 ∙ behind_exact set ds rest are.1 e

pub behind_more : (set : Bytes) (b : ℕ) (bs : List ℕ) → set b ≡ true → behind set (b ∷ bs) ≡ behind set bs
behind_more set b bs e = ap (λ t. cond t (behind set bs) (b ∷ bs)) e

pub behind_shorter : (set : Bytes) (bytes : List ℕ) → length (behind set bytes) ≤ length bytes
behind_shorter set bytes =
    let r = run_of set bytes in
    let e : length bytes ≡ length r.run + length (behind set bytes) = ap length r.whole ∙ length-append r.run (behind set bytes) in
    omega arith

-- lines
abbrev pub in_line : Bytes
in_line b = not (b == 10)

not_ten : (b : ℕ) (t : Bool) → (b == 10) ≡ t → b ≢ 10 → not t ≡ true
not_ten b true e h = absurd (h (eqb-true b 10 e))
not_ten b false e h = refl

is_not_ten : (b : ℕ) (t : Bool) → (b == 10) ≡ t → not t ≡ true → b ≢ 10
is_not_ten b true e h = absurd (let k : false ≡ true = h in cc)
is_not_ten b false e h = λ s. let k : (b == 10) ≡ true = ap (λ x. x == 10) s in let l : true ≡ false = sym k ∙ e in cc

is_ten : (b : ℕ) (t : Bool) → (b == 10) ≡ t → not t ≡ false → b ≡ 10
is_ten b true e h = eqb-true b 10 e
is_ten b false e h = absurd (let k : true ≡ false = h in cc)

pub line_all : (text : List ℕ) → IsInLine text → AllOf in_line text
line_all [] h = tt
line_all (b ∷ bs) h = (not_ten b (b == 10) refl h.0, line_all bs h.1)

pub all_line : (text : List ℕ) → AllOf in_line text → IsInLine text
all_line [] h = tt
all_line (b ∷ bs) h = (is_not_ten b (b == 10) refl h.0, all_line bs h.1)

pub line_end : (rest : List ℕ) → IsLineEnd rest → begins in_line rest ≡ false
line_end [] h = refl
line_end (b ∷ bs) h = ap (λ x. not (x == 10)) h

pub end_line : (rest : List ℕ) → begins in_line rest ≡ false → IsLineEnd rest
end_line [] h = tt
end_line (b ∷ bs) h = is_ten b (b == 10) refl h

-- a digit is no blank
digit_from : (b : ℕ) → is_decimal b ≡ true → 48 ≤ b
digit_from b e = leb-true 48 b (and_true (nat_le 48 b) (nat_le b 57) e).0

not_space : (b : ℕ) → 48 ≤ b → is_space b ≡ false
not_space b le = grind (arith, nat_tests)

not_feed : (b : ℕ) → 48 ≤ b → in_line b ≡ true
not_feed b le = grind (arith, nat_tests)

pub digit_no_space : (b : ℕ) → is_decimal b ≡ true → is_space b ≡ false
digit_no_space b e = not_space b (digit_from b e)

pub digit_in_line : (b : ℕ) → is_decimal b ≡ true → in_line b ≡ true
digit_in_line b e = not_feed b (digit_from b e)
