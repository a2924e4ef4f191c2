-- The tokens of a file lie in it, in order.
use Rattle.std.proofs.Common.{◌≡◌, ◌≢◌, ℕ, zero, suc, ◌-◌, ◌<◌, ◌≤◌, List, [], ◌∷◌, length, refl, sym, ◌∙◌, ap, subst, Option, Some, Bool, true, false, arith}
use Rattle.std.specs.Prelude.{IfSome, slice_index_or}
use Rattle.c_tokens.specs.declared.token.TokenKind.{TokenKind}
use Rattle.c_tokens.specs.declared.token.Token.{Token}
use Rattle.c_tokens.specs.Tokens.{IsLongest, TokensFrom, AtEnd, AtToken, AtBad, Tokens, AreInOrder}
use Rattle.c_tokens.specs.Scanning.{behind_lexeme, kind_of}
use Rattle.c_tokens.proofs.Gaps.{gap_shorter}
use Rattle.c_tokens.proofs.Constants.{complete}
use Rattle.c_tokens.proofs.Sound.{sound, longest, lexeme_shorter}
use Rattle.c_tokens.proofs.Told.{one_longest}

word_some : (here : List ℕ) (kind : TokenKind) (word after : List ℕ) → IsLongest here kind word after → length after < length here
word_some here kind word after l =
    let c = complete kind word l.lexeme after in
    let found : behind_lexeme here ≡ Some c.0 = ap behind_lexeme l.parts ∙ c.1 in
    let s = one_longest here (kind_of (sound here c.0 found).word) (sound here c.0 found).word c.0 kind word after (longest here c.0 found) l in
    let le : length c.0 < length here = lexeme_shorter here c.0 (sym found) in
    let same : length after ≡ length c.0 = ap length s.afters in
    omega arith

order : (size : ℕ) (fresh : Bool) (rest : List ℕ) (tokens : List Token) (bad : Option ℕ) → TokensFrom size fresh rest tokens bad → length rest ≤ size → AreInOrder size (size - length rest) tokens
order size fresh rest tokens bad (AtEnd f n r g) le = tt
order size fresh rest tokens bad (AtToken f n r here kind word after ts b g p l t more) le =
    let one : length here ≤ length r = gap_shorter f r n here g in
    let two : length after < length here = word_some here kind word after l in
    let three : length after ≤ size = omega arith in
    (omega arith, omega arith, omega arith, order size false after ts b more three)
order size fresh rest tokens bad (AtBad f n r here g p some none) le = tt

not_nothing : (xs : List ℕ) → xs ≢ [] → 0 < length xs
not_nothing [] h = absurd (h refl)
not_nothing (x ∷ xs) h = omega arith

bad_place : (size : ℕ) (fresh : Bool) (rest : List ℕ) (tokens : List Token) (bad : Option ℕ) → TokensFrom size fresh rest tokens bad → length rest ≤ size → IfSome bad (λ place. place < size)
bad_place size fresh rest tokens bad (AtEnd f n r g) le = tt
bad_place size fresh rest tokens bad (AtToken f n r here kind word after ts b g p l t more) le =
    let one : length here ≤ length r = gap_shorter f r n here g in
    let two : length after < length here = word_some here kind word after l in
    let three : length after ≤ size = omega arith in
    bad_place size false after ts b more three
bad_place size fresh rest tokens bad (AtBad f n r here g p some none) le =
    let one : length here ≤ length r = gap_shorter f r n here g in
    let two : 0 < length here = not_nothing here some in
    omega arith

pub in_order : (bytes : List ℕ) (tokens : List Token) (bad : Option ℕ) → Tokens bytes tokens bad → AreInOrder (length bytes) 0 tokens
in_order bytes tokens bad t =
    let none : length bytes - length bytes ≡ 0 = omega arith in
    subst (λ (n : ℕ). AreInOrder (length bytes) n tokens) none (order (length bytes) true bytes tokens bad t (omega arith))

pub bad_within : (bytes : List ℕ) (tokens : List Token) (bad : Option ℕ) → Tokens bytes tokens bad → IfSome bad (λ place. place < length bytes)
bad_within bytes tokens bad t = bad_place (length bytes) true bytes tokens bad t (omega arith)

-- each token lies in its file
pub order_at : (size place : ℕ) (tokens : List Token) (k : ℕ) (d : Token) → AreInOrder size place tokens → k < length tokens → ((slice_index_or tokens k d).from < (slice_index_or tokens k d).to) × ((slice_index_or tokens k d).to ≤ size)
order_at size place [] k d h lt = absurd (omega arith)
order_at size place (t ∷ ts) zero d h lt = (h.1, h.2)
order_at size place (t ∷ ts) (suc k) d h lt = order_at size t.to ts k d h.3 (omega arith)
