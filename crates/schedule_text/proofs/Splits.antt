-- The longest run of bytes of a set, and what is behind it.
use Rattle.std.proofs.Common.{◌≡◌, ℕ, ◌-◌, Bool, true, false, cond, List, [], ◌∷◌, ◌++◌, length, take, refl, ap, arith, length-append}
use Rattle.std.proofs.Math.Seq.{take-append_seam}
use Rattle.schedule_text.specs.Scanning.{front, behind}

parts_cases : (set : ℕ → Bool) (b : ℕ) (bs : List ℕ) (t : Bool) → front set bs ++ behind set bs ≡ bs → cond t (b ∷ front set bs) [] ++ cond t (behind set bs) (b ∷ bs) ≡ b ∷ bs
parts_cases set b bs true e = ap (λ xs. b ∷ xs) e
parts_cases set b bs false e = refl

-- together they are the whole
pub parts : (set : ℕ → Bool) (bs : List ℕ) → front set bs ++ behind set bs ≡ bs
parts set [] = refl
parts set (b ∷ bs) = parts_cases set b bs (set b) (parts set bs)

-- a front is what is taken where its end is cut off
taken : (front end whole : List ℕ) → front ++ end ≡ whole → take (length whole - length end) whole ≡ front
taken front end whole e =
    let n : length whole - length end ≡ length front = omega (arith, length-append front end, ap length e) in
    rw (n, ← e) (take-append_seam front end)

pub front_is_taken : (set : ℕ → Bool) (bs : List ℕ) → take (length bs - length (behind set bs)) bs ≡ front set bs
front_is_taken set bs = taken (front set bs) (behind set bs) bs (parts set bs)
