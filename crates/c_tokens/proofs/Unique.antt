-- A file has one list of tokens: the longest gap is one only, and so is the longest lexeme.
use Rattle.std.proofs.Common.{◌≡◌, ℕ, ◌-◌, List, [], ◌∷◌, ◌++◌, length, refl, sym, ◌∙◌, ap, subst, Option, Some, None, Bool, true, false, cond, inl, inr}
use Rattle.std.specs.Prelude.{◌==◌}
use Rattle.c_tokens.specs.declared.token.TokenKind.{TokenKind}
use Rattle.c_tokens.specs.declared.token.Token.{Token}
use Rattle.c_tokens.specs.Tokens.{Gap, NoMore, Space, LineFeed, LineComment, BlockComment, LineMarker, IsPast, IsLongest, IsToken, TokensFrom, AtEnd, AtToken, AtBad, Tokens}
use Rattle.c_tokens.specs.Scanning.{behind_piece, behind_slash, stays_fresh, behind_lexeme}
use Rattle.c_tokens.proofs.Runs.{in_line, line_all, line_end, behind_exact}
use Rattle.c_tokens.proofs.Gaps.{gap_goes, piece_past, comment_exact, marker_exact, marked}
use Rattle.c_tokens.proofs.Constants.{complete}
use Rattle.c_tokens.proofs.Told.{one_longest}

abbrev Rest : Bool → List ℕ → List ℕ → Type 0
Rest fresh here end = (now : Bool) (other : List ℕ) → Gap fresh here now other → IsPast now other → end ≡ other

-- a gap whose first piece is known goes on as any other
step_unique : (fresh : Bool) (here after : List ℕ) (now : Bool) (end : List ℕ) → Gap fresh here now end → behind_piece fresh here ≡ Some after → Rest (stays_fresh fresh here) after end → Rest fresh here end
step_unique fresh here after now end g first more n other h past =
    elim (gap_goes fresh here n other h) [
      | inl same ↦
          let moved : Gap n other now end = subst (λ (f : Bool). Gap f other now end) (sym same.1) (subst (λ (xs : List ℕ). Gap fresh xs now end) (sym same.0) g) in
          past now end moved
      | inr on ↦
          let same : on.0 ≡ after = let k : Some on.0 ≡ Some after = sym on.1 ∙ first in cc in
          more n other (subst (λ (xs : List ℕ). Gap (stays_fresh fresh here) xs n other) same on.2) past
    ]

abbrev Kept : Bool → List ℕ → Bool → List ℕ → Type 0
Kept fresh here now end = IsPast now end → Rest fresh here end

gap_unique : (fresh : Bool) (here : List ℕ) (now : Bool) (end : List ℕ) → Gap fresh here now end → Kept fresh here now end
gap_unique fresh here now end (NoMore f r) = λ past n other h p. sym (past n other h)
gap_unique fresh here now end (Space f m b rest e is g) = λ past n other h p.
    step_unique f (b ∷ rest) rest m e (Space f m b rest e is g)
    (ap (λ t. cond t (Some rest) (cond (b == 10) (Some rest) (cond (b == 47) (behind_slash rest) (marked f b rest)))) is)
    (subst (λ (t : Bool). Rest (cond t f (b == 10)) rest e) (sym is) (gap_unique f rest m e g past)) n other h p
gap_unique fresh here now end (LineFeed f m rest e g) = λ past n other h p. step_unique f (10 ∷ rest) rest m e (LineFeed f m rest e g) refl (gap_unique true rest m e g past) n other h p
gap_unique fresh here now end (LineComment f m text rest e line ends g) = λ past n other h p.
    step_unique f (47 ∷ 47 ∷ text ++ rest) rest m e (LineComment f m text rest e line ends g) (ap Some (behind_exact in_line text rest (line_all text line) (line_end rest ends))) (gap_unique false rest m e g past) n other h p
gap_unique fresh here now end (BlockComment f m text rest e none g) = λ past n other h p.
    step_unique f (47 ∷ 42 ∷ text ++ 42 ∷ 47 ∷ rest) rest m e (BlockComment f m text rest e none g) (comment_exact text rest none) (gap_unique false rest m e g past) n other h p
gap_unique fresh here now end (LineMarker m spaces digit text rest e are first line ends g) = λ past n other h p.
    step_unique true (35 ∷ spaces ++ digit ∷ text ++ rest) rest m e (LineMarker m spaces digit text rest e are first line ends g) (marker_exact spaces digit text rest are first line ends) (gap_unique false rest m e g past) n other h p

nothing_past : (now : Bool) → IsPast now []
nothing_past now = piece_past now [] refl

no_lexeme : (kind : TokenKind) (word after : List ℕ) → IsLongest [] kind word after → ⊥
no_lexeme kind word after l =
    let c = complete kind word l.lexeme after in
    let k : None ≡ Some c.0 = ap behind_lexeme l.parts ∙ c.1 in cc

abbrev Equal : List Token → List Token → Option ℕ → Option ℕ → Type 0
Equal tokens others bad other = (tokens ≡ others) × (bad ≡ other)

ends_here : (here there : List ℕ) (kind : TokenKind) (word after : List ℕ) → [] ≡ there → IsLongest there kind word after → ⊥
ends_here here there kind word after e l = no_lexeme kind word after (subst (λ (xs : List ℕ). IsLongest xs kind word after) (sym e) l)

refused : (here there : List ℕ) (kind : TokenKind) (word after : List ℕ) → here ≡ there → IsLongest here kind word after → IsToken kind word after → ((k : TokenKind) (w a : List ℕ) → IsLongest there k w a → ¬ IsToken k w a) → ⊥
refused here there kind word after e l t none = none kind word after (subst (λ (xs : List ℕ). IsLongest xs kind word after) e l) t

same_token : (size : ℕ) (here there : List ℕ) (kind k : TokenKind) (after a : List ℕ) (tokens others : List Token) → here ≡ there → kind ≡ k → after ≡ a → tokens ≡ others → record { kind = kind; from = size - length here; to = size - length after } ∷ tokens ≡ record { kind = k; from = size - length there; to = size - length a } ∷ others
same_token size here there kind k after a tokens others e f g h =
    ap (λ (xs : List ℕ). record { kind = kind; from = size - length xs; to = size - length after } ∷ tokens) e
    ∙ ap (λ (x : TokenKind). record { kind = x; from = size - length there; to = size - length after } ∷ tokens) f
    ∙ ap (λ (xs : List ℕ). record { kind = k; from = size - length there; to = size - length xs } ∷ tokens) g
    ∙ ap (λ (ts : List Token). record { kind = k; from = size - length there; to = size - length a } ∷ ts) h

unique : (size : ℕ) (fresh : Bool) (rest : List ℕ) (tokens : List Token) (bad : Option ℕ) → TokensFrom size fresh rest tokens bad → (others : List Token) (other : Option ℕ) → TokensFrom size fresh rest others other → Equal tokens others bad other
unique size fresh rest tokens bad (AtEnd f m r g) others other (AtEnd f2 n r2 h) = (refl, refl)
unique size fresh rest tokens bad (AtEnd f m r g) others other (AtToken f2 n r2 there k w a ts b h p l t more) = absurd (ends_here [] there k w a (gap_unique f2 r2 m [] g (nothing_past m) n there h p) l)
unique size fresh rest tokens bad (AtEnd f m r g) others other (AtBad f2 n r2 there h p some none) = absurd (some (sym (gap_unique f2 r2 m [] g (nothing_past m) n there h p)))
unique size fresh rest tokens bad (AtToken f m r here kind word after ts b g p l t more) others other (AtEnd f2 n r2 h) = absurd (ends_here [] here kind word after (sym (gap_unique f2 r2 m here g p n [] h (nothing_past n))) l)
unique size fresh rest tokens bad (AtToken f m r here kind word after ts b g p l t more) others other (AtToken f2 n r2 there k w a ts2 b2 h q l2 t2 more2) =
    let e : here ≡ there = gap_unique f2 r2 m here g p n there h q in
    let s = one_longest there k w a kind word after l2 (subst (λ (xs : List ℕ). IsLongest xs kind word after) e l) in
    let u = unique size false after ts b more ts2 b2 (subst (λ (xs : List ℕ). TokensFrom size false xs ts2 b2) (sym s.afters) more2) in
    (same_token size here there kind k after a ts ts2 e s.kinds s.afters u.0, u.1)
unique size fresh rest tokens bad (AtToken f m r here kind word after ts b g p l t more) others other (AtBad f2 n r2 there h q some none) = absurd (refused here there kind word after (gap_unique f2 r2 m here g p n there h q) l t none)
unique size fresh rest tokens bad (AtBad f m r here g p some none) others other (AtEnd f2 n r2 h) = absurd (some (gap_unique f2 r2 m here g p n [] h (nothing_past n)))
unique size fresh rest tokens bad (AtBad f m r here g p some none) others other (AtToken f2 n r2 there k w a ts b h q l t more) = absurd (refused there here k w a (sym (gap_unique f2 r2 m here g p n there h q)) l t none)
unique size fresh rest tokens bad (AtBad f m r here g p some none) others other (AtBad f2 n r2 there h q some2 none2) = (refl, ap (λ (xs : List ℕ). Some (size - length xs)) (gap_unique f2 r2 m here g p n there h q))

pub one_list : (bytes : List ℕ) (tokens others : List Token) (bad other : Option ℕ) → Tokens bytes tokens bad → Tokens bytes others other → (tokens ≡ others) × (bad ≡ other)
one_list bytes tokens others bad other t o = unique (length bytes) true bytes tokens bad t others other o
