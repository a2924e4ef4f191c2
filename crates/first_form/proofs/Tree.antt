-- The ten tokens are a file of the grammar that nests nothing too deep.
use Rattle.std.proofs.Common.{◌≡◌, ℕ, zero, suc, ◌<◌, ◌≤◌, List, [], ◌∷◌, ◌++◌, length, take, drop, Some, refl, sym, subst, arith}
use Rattle.std.specs.Prelude.{codes, slice_index}
use Rattle.std.proofs.lemmas.List.{take-append-drop}
use Rattle.c_grammar.specs.Tokens.{Decimal, Int, Token}
use Rattle.c_grammar.specs.Derivations.{File, empty_file, function_definition, type_words, no_specifiers, first_word, function, declared_name, void_parameter, statement_item, no_items, return_statement, constant}
use Rattle.c_grammar.specs.Spelling.{Spells}
use Rattle.c_grammar.specs.Nesting.{limit, IsDeep, TooDeep, file_nest}
use Rattle.c_tree.specs.Reading.{file_tree}
use Rattle.c_reading.specs.Answers.{tree, IsAnswer}
use Rattle.first_form.proofs.Ten.{form_tokens}

-- int main ( void ) { return n ; }
abbrev pub form_file : (n p0 p1 p2 p3 p4 p5 p6 p7 p8 p9 : ℕ) → File
form_file n p0 p1 p2 p3 p4 p5 p6 p7 p8 p9 =
    function_definition empty_file (type_words no_specifiers (first_word p0 Int)) (function (declared_name p1 (codes "main")) p2 (void_parameter p3) p4) p5
    (statement_item no_items (return_statement p6 (Some (constant p7 (Decimal n))) p8)) p9

-- no nesting of a list is above the limit
abbrev AreLow : List ℕ → Type 0
AreLow [] = Unit {0}
AreLow (n ∷ ns) = (n ≤ limit) × AreLow ns

low_at : (ns : List ℕ) → AreLow ns → (i : ℕ) → limit < slice_index ns i → ⊥
low_at [] low i deep = omega arith
low_at (n ∷ ns) low zero deep = let h = low.0 in omega (arith, h)
low_at (n ∷ ns) low (suc i) deep = low_at ns low.1 i deep

-- of a file that nests nothing too deep no tokens are too deep
shallow : (f : File) (ts : List Token) → Spells f ts → AreLow (file_nest f []) → (m : ℕ) → TooDeep (take m ts) → ⊥
shallow f ts spelled low m deep =
    let whole : ts ≡ take m ts ++ drop m ts = sym (take-append-drop m ts) in
    let d : IsDeep (length (take m ts)) (file_nest f []) = deep.1 f (drop m ts) (subst (λ (xs : List Token). Spells f xs) whole spelled) in
    low_at (file_nest f []) low d.0 d.2

module _ (n p0 p1 p2 p3 p4 p5 p6 p7 p8 p9 : ℕ) where
  form_spells : Spells (form_file n p0 p1 p2 p3 p4 p5 p6 p7 p8 p9) (form_tokens n p0 p1 p2 p3 p4 p5 p6 p7 p8 p9)
  form_spells = ((tt, (tt, refl, refl), refl, refl, (refl, refl, tt), refl, (tt, tt)), refl)

  form_low : AreLow (file_nest (form_file n p0 p1 p2 p3 p4 p5 p6 p7 p8 p9) [])
  form_low = search arith

  pub form_is : (size : ℕ) → IsAnswer (form_tokens n p0 p1 p2 p3 p4 p5 p6 p7 p8 p9) size (tree (file_tree (form_file n p0 p1 p2 p3 p4 p5 p6 p7 p8 p9)))
  form_is size = (form_file n p0 p1 p2 p3 p4 p5 p6 p7 p8 p9, form_spells, refl, λ m le. shallow (form_file n p0 p1 p2 p3 p4 p5 p6 p7 p8 p9) (form_tokens n p0 p1 p2 p3 p4 p5 p6 p7 p8 p9) form_spells form_low m)
