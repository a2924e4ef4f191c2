-- The tokens of a file of the form, as the code tells them.
use Rattle.std.proofs.Common.{◌≡◌, ℕ, zero, suc, ◌≤◌, ◌<◌, List, [], ◌∷◌, length, map, get_or, refl, sym, ◌∙◌, ap, subst, Option, Some, None, is_some, Bool, true, false, cond, arith}
use Rattle.std.specs.Prelude.{decimal, bytes_eq, ◌&&◌, leb}
use Rattle.std.proofs.lemmas.Slice.Eq.{bytes_eq-Decides}
use Rattle.std.proofs.lemmas.Bool.{leb-true, le-leb}
use Rattle.c_tokens.specs.declared.token.Token.{Token}
use Rattle.c_tokens.specs.Constants.{IsWord, IsWordOf}
use Rattle.c_tokens.specs.Tokens.{Tokens, AreInOrder}
use Rattle.c_tokens.proofs.Order.{in_order, order_at}
use Rattle.c_tokens.proofs.Runs.{and_true}
use Rattle.c_tokens.proofs.Unique.{one_list}
use Rattle.c_tokens.proofs.Words as words
use Rattle.first_form.specs.Form.{AreTen, TenTokens, ten_words, word_in}
use Rattle.first_form.specs.Telling.{AreWithin, are_words, are_ten}
use Rattle.first_form.proofs.HasTree.{listed}
use Rattle.first_form.proofs.Ten.{ten_tokens}

within : (size place : ℕ) (tokens : List Token) → AreInOrder size place tokens → AreWithin size tokens
within size place [] h = tt
within size place (t ∷ ts) h = (let a = h.1 in omega arith, h.2, within size t.to ts h.3)

pub all_within : (bytes : List ℕ) (tokens : List Token) (bad : Option ℕ) → Tokens bytes tokens bad → AreWithin (length bytes) tokens
all_within bytes tokens bad t = within (length bytes) 0 tokens (in_order bytes tokens bad t)

words_told : (bytes : List ℕ) (tokens : List Token) (ws : List (List ℕ)) → are_words bytes tokens ws ≡ true → map (word_in bytes) tokens ≡ ws
words_told bytes [] [] e = refl
words_told bytes [] (w ∷ ws) e = absurd (let k : false ≡ true = e in cc)
words_told bytes (t ∷ ts) [] e = absurd (let k : false ≡ true = e in cc)
words_told bytes (t ∷ ts) (w ∷ ws) e =
    let both = and_told (bytes_eq (word_in bytes t) w) (are_words bytes ts ws) e in
    ap (λ (x : List ℕ). x ∷ map (word_in bytes) ts) ((bytes_eq-Decides (word_in bytes t) w).0 both.0) ∙ ap (λ (xs : List (List ℕ)). w ∷ xs) (words_told bytes ts ws both.1)
  where
    and_told : (a b : Bool) → cond a b false ≡ true → (a ≡ true) × (b ≡ true)
    and_told true b h = (refl, h)
    and_told false b h = absurd (let k : false ≡ true = h in cc)

words_are : (bytes : List ℕ) (tokens : List Token) → are_words bytes tokens (map (word_in bytes) tokens) ≡ true
words_are bytes [] = refl
words_are bytes (t ∷ ts) = ap (λ (b : Bool). cond b (are_words bytes ts (map (word_in bytes) ts)) false) (same (word_in bytes t)) ∙ words_are bytes ts
  where
    same : (w : List ℕ) → bytes_eq w w ≡ true
    same w = (bytes_eq-Decides w w).1 refl

pub none_of : (o : Option ℕ) → is_some o ≡ false → o ≡ None
none_of None e = refl
none_of (Some n) e = absurd (let k : true ≡ false = e in cc)

pub some_not_none : (o : Option ℕ) → is_some o ≡ true → o ≡ None → ⊥
some_not_none o e none = let k : false ≡ true = ap is_some (sym none) ∙ e in cc

module _ (bytes : List ℕ) (tokens : List Token) (bad : Option ℕ) (t : Tokens bytes tokens bad) where
  record Told (n : ℕ) : Type 0 where
    ten : AreTen bytes tokens n
    none : bad ≡ None

  told : (n : ℕ) → TenTokens bytes n → Told n
  told n h =
      let l = listed bytes n h in
      let same = one_list bytes l.0 tokens None bad l.1 t in
      record { ten = subst (λ (ts : List Token). AreTen bytes ts n) same.0 l.2; none = sym same.1 }

  pub bad_is_none : (n : ℕ) → TenTokens bytes n → bad ≡ None
  bad_is_none n h = (told n h).none

  pub are_told : (n : ℕ) → TenTokens bytes n → are_ten bytes tokens n ≡ true
  are_told n h =
      let a = (told n h).ten in
      ap (λ (b : Bool). b && are_words bytes tokens (map (λ piece. piece.word) (ten_words n))) (le-leb n 2147483647 h.small)
      ∙ ap (λ (ws : List (List ℕ)). are_words bytes tokens ws) (sym a.words) ∙ words_are bytes tokens

  pub ten_long : (n : ℕ) → TenTokens bytes n → length tokens ≡ 10
  ten_long n h = sym (length_map (word_in bytes) tokens) ∙ ap length (told n h).ten.words
    where
      length_map : (f : Token → List ℕ) (ts : List Token) → length (map f ts) ≡ length ts
      length_map f [] = refl
      length_map f (x ∷ xs) = ap suc (length_map f xs)

  pub number_at : (n : ℕ) (d : Token) → TenTokens bytes n → word_in bytes (get_or tokens 7 d) ≡ decimal n
  number_at n d h = map_at tokens 7 (word_in bytes d) d refl ∙ ap (λ (ws : List (List ℕ)). get_or ws 7 (word_in bytes d)) (told n h).ten.words
    where
      map_at : (ts : List Token) (i : ℕ) (w : List ℕ) (d : Token) → w ≡ word_in bytes d → word_in bytes (get_or ts i d) ≡ get_or (map (word_in bytes) ts) i w
      map_at [] i w d e = sym e
      map_at (x ∷ xs) zero w d e = refl
      map_at (x ∷ xs) (suc i) w d e = map_at xs i w d e

  pub is_form : (n : ℕ) → bad ≡ None → are_ten bytes tokens n ≡ true → TenTokens bytes n
  is_form n none e =
      let both = and_true (leb n 2147483647) (are_words bytes tokens (map (λ piece. piece.word) (ten_words n))) e in
      ten_tokens bytes tokens n (subst (λ (b : Option ℕ). Tokens bytes tokens b) none t) (record { small = leb-true n 2147483647 both.0; words = words_told bytes tokens _ both.1 })

  -- what the code reads of the list
  module _ (list : List Token) (same : list ≡ tokens) where
    pub list_within : AreWithin (length bytes) list
    list_within = subst (λ (ts : List Token). AreWithin (length bytes) ts) (sym same) (all_within bytes tokens bad t)

    pub long_enough : (n : ℕ) → TenTokens bytes n → length list ≤ 7 → ⊥
    long_enough n h short = omega (arith, ap length same, ten_long n h)

    module _ (d token : Token) (long : 7 < length list) (here : token ≡ get_or list 7 d) where
      at : token ≡ get_or tokens 7 d
      at = here ∙ ap (λ (ts : List Token). get_or ts 7 d) same

      pub token_ordered : (token.from ≤ token.to) × (token.to ≤ length bytes)
      token_ordered =
          let o = order_at (length bytes) 0 tokens 7 d (in_order bytes tokens bad t) (omega (arith, ap length same)) in
          subst (λ (x : Token). (x.from ≤ x.to) × (x.to ≤ length bytes)) (sym at) (let a = o.0 in omega arith, o.1)

      pub token_word : (word : List ℕ) → word ≡ word_in bytes token → IsWord token.kind word
      token_word word e =
          let is : IsWordOf bytes token = subst (λ (x : Token). IsWordOf bytes x) (sym at) (words.words_of bytes tokens bad t 7 d (omega (arith, ap length same))) in
          subst (λ (w : List ℕ). IsWord token.kind w) (sym e) is

      pub token_digits : (word : List ℕ) → word ≡ word_in bytes token → (n : ℕ) → TenTokens bytes n → word ≡ decimal n
      token_digits word e n h = e ∙ ap (word_in bytes) at ∙ number_at n d h

    pub list_told : (n : ℕ) → TenTokens bytes n → are_ten bytes list n ≡ true
    list_told n h = ap (λ (ts : List Token). are_ten bytes ts n) same ∙ are_told n h

    pub list_is_form : (n : ℕ) → bad ≡ None → are_ten bytes list n ≡ true → TenTokens bytes n
    list_is_form n none e = is_form n none (ap (λ (ts : List Token). are_ten bytes ts n) (sym same) ∙ e)

  -- a number that the tokens are not
  pub no_other : (o : Option ℕ) (number n : ℕ) → o ≡ Some number → TenTokens bytes n → o ≡ Some n → TenTokens bytes number
  no_other o number n is h e = let same : n ≡ number = let k : Some n ≡ Some number = sym e ∙ is in cc in subst (λ (m : ℕ). TenTokens bytes m) same h
