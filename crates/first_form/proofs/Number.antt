-- A word that is no number of the form.
use Rattle.std.proofs.Common.{◌≡◌, ◌≢◌, ℕ, ◌≤◌, List, [], refl, sym, ◌∙◌, ap, inl, arith}
use Rattle.std.specs.Prelude.{decimal}
use Rattle.std.proofs.lemmas.List.{append-nil}
use Rattle.c_tokens.specs.declared.token.TokenKind.{TokenKind}
use Rattle.c_tokens.specs.declared.token.TokenKind.TheVariants.{Integer}
use Rattle.c_tokens.specs.declared.constant.IntegerConstant.{IntegerConstant}
use Rattle.c_tokens.specs.Constants.{IsWord, IsIntegerOf}
use Rattle.c_tokens.specs.Scanning.{kind_of, integer_number}
use Rattle.c_tokens.proofs.Told.{lexeme_kind, integer_is}
use Rattle.first_form.proofs.Digits.{plain, numeral}
use Rattle.first_form.proofs.Lexed.{digits_kind}

-- digits are an integer constant
pub not_integer : (kind : TokenKind) (word : List ℕ) (n : ℕ) → IsWord kind word → kind ≢ Integer → n ≤ 2147483647 → word ≢ decimal n
not_integer kind word n w other small e = other (sym (lexeme_kind kind word w.0) ∙ ap kind_of e ∙ digits_kind (decimal n) (plain n (omega arith)))

-- digits have the value of their number
pub value_is : (word : List ℕ) (c : IntegerConstant) (n : ℕ) → IsIntegerOf word c → n ≤ 2147483647 → word ≡ decimal n → c.value ≡ n
value_is word c n h small e =
    sym (integer_is h.digits c.value h.numeral h.suffix h.ending) ∙ ap integer_number (sym h.parts ∙ e ∙ sym (append-nil (decimal n))) ∙ integer_is (decimal n) n (numeral n (omega arith)) [] (inl refl)
