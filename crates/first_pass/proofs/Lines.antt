-- The printed form of the assembly that returns a number.
use Rattle.std.proofs.Common.{◌≡◌, ℕ, ◌≤◌, ◌<◌, [], ◌∷◌, ◌++◌, ap, arith, append_assoc, ◌∙◌}
use Rattle.std.specs.Prelude.{codes}
use Rattle.std.specs.Fmt.{decimal}
use Rattle.std.proofs.lemmas.Bool.{lt-ltb}
use Rattle.std.proofs.lemmas.Fmt.{decimal_digit}
use Rattle.x86_text.specs.Printed.{printed}
use Rattle.first_pass.specs.Assembled.{parts_returning, text_front, text_of}

-- a pace of 1 is printed as one digit
one_digit : decimal 1 ≡ codes "1"
one_digit = decimal_digit 1 (omega arith)

pub seven_lines : (n : ℕ) → n ≤ 2147483647 → printed (parts_returning n) ≡ text_of n
seven_lines n small =
    let low : n < 2147483648 = omega arith in
    let d = decimal n in
    let back = codes "\n\tret\n" in
    rw (one_digit, lt-ltb n 2147483648 low) (ap (λ t. text_front ++ t) (append_assoc (d ++ codes ", %eax") (10 ∷ []) (codes "\tret\n") ∙ append_assoc d (codes ", %eax") back))
