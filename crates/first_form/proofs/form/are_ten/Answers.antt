use Rattle.std.proofs.Common.{rules, ◌≡◌, ap, ◌∙◌, sym, List, ℕ, ◌∷◌, [], codes, arith}
use Rattle.std.specs.Prelude.{decimal, ◌&&◌}
use Rattle.std.proofs.lemmas.Bool.{le-leb}
use Rattle.first_form.specs.Telling.{are_words}
use Rattle.first_form.proofs.form.are_ten.Goals as goal

pub returns-then-number-le-LARGEST : goal.returns-then-number-le-LARGEST
returns-then-number-le-LARGEST c =
    let words : List ℕ → List (List ℕ) = λ digits. codes "int" ∷ codes "main" ∷ codes "(" ∷ codes "void" ∷ codes ")" ∷ codes "{" ∷ codes "return" ∷ digits ∷ codes ";" ∷ codes "}" ∷ [] in
    let digits_are : c.as_bytes-digits.result.now ≡ decimal c.args.number = c.as_bytes-digits.ensures.value ∙ c.format.ensures.text in
    c.are_words.ensures
    ∙ ap (λ (digits : List ℕ). are_words c.args.bytes.now c.args.tokens.now (words digits)) digits_are
    ∙ sym (ap (λ b. b && are_words c.args.bytes.now c.args.tokens.now (words (decimal c.args.number))) (le-leb c.args.number 2147483647 (search (rules, arith))))
