-- The tokens so far, and that those behind make the tokens of the file.
use Rattle.std.specs.Prelude.{◌==◌}
use Rattle.std.proofs.Common.{◌≡◌, ◌≢◌, ℕ, zero, suc, ◌-◌, ◌<◌, ◌≤◌, List, [], ◌∷◌, ◌++◌, length, refl, sym, ◌∙◌, ap, subst, Option, Some, None, Bool, true, false, arith, append_assoc}
use Rattle.std.proofs.lemmas.List.{append-nil}
use Rattle.c_tokens.specs.declared.token.Token.{Token}
use Rattle.c_tokens.specs.Tokens.{Gap, IsPast, TokensFrom, AtEnd, AtToken, AtBad, Tokens}
use Rattle.c_tokens.specs.Scanning.{IsTokenAt, HasNoToken}
use Rattle.c_tokens.proofs.Gaps.{gap_shorter}

abbrev pub Past : Bool → List ℕ → List ℕ → Type 0
Past fresh rest here = (now : Bool) × Gap fresh rest now here × IsPast now here

pub record Progress (bytes : List ℕ) (list : List Token) (here : List ℕ) : Type 0 where
  pub fresh : Bool
  pub rest : List ℕ
  pub past : Past fresh rest here
  pub short : length here ≤ length bytes
  pub goes : (tokens : List Token) (bad : Option ℕ) → TokensFrom (length bytes) fresh rest tokens bad → TokensFrom (length bytes) true bytes (list ++ tokens) bad

pub start : (bytes here : List ℕ) (list : List Token) → list ≡ [] → Past true bytes here → Progress bytes list here
start bytes here list none p =
    let first : Progress bytes [] here = record { fresh = true; rest = bytes; past = p; short = gap_shorter true bytes p.0 here p.1; goes = λ tokens bad t. t } in
    subst (λ (l : List Token). Progress bytes l here) (sym none) first

whole_token : (size : ℕ) (here : List ℕ) (token : Token) (after : List ℕ) → IsTokenAt size here token after → record { kind = token.kind; from = size - length here; to = size - length after } ≡ token
whole_token size here token after t =
    ap (λ (f : ℕ). record token { from = f; to = size - length after }) (sym t.starts)
    ∙ ap (λ (f : ℕ). record token { to = f }) (sym t.ends)

pub step : (bytes : List ℕ) (list : List Token) (here : List ℕ) (token : Token) (after : List ℕ) (next : List Token) (end : List ℕ) → Progress bytes list here → IsTokenAt (length bytes) here token after → next ≡ list ++ token ∷ [] → Past false after end → Progress bytes next end
step bytes list here token after next end p t same q =
    let le : length end ≤ length after = gap_shorter false after q.0 end q.1 in
    let lt : length after < length here = t.shorter in
    let ok : length here ≤ length bytes = p.short in
    record {
      fresh = false;
      rest = after;
      past = q;
      short = omega arith;
      goes = λ tokens bad more.
          let one : TokensFrom (length bytes) p.fresh p.rest (record { kind = token.kind; from = length bytes - length here; to = length bytes - length after } ∷ tokens) bad = AtToken p.fresh p.past.0 p.rest here token.kind t.word after tokens bad p.past.1 p.past.2 t.longest t.is_token more in
          let two : TokensFrom (length bytes) p.fresh p.rest (token ∷ tokens) bad = subst (λ (x : Token). TokensFrom (length bytes) p.fresh p.rest (x ∷ tokens) bad) (whole_token (length bytes) here token after t) one in
          let three = p.goes (token ∷ tokens) bad two in
          let join : list ++ (token ∷ tokens) ≡ next ++ tokens = sym (append_assoc list (token ∷ []) tokens) ∙ ap (λ l. l ++ tokens) (sym same) in
          subst (λ (l : List Token). TokensFrom (length bytes) true bytes l bad) join three;
    }

nothing : (xs : List ℕ) → length xs ≡ 0 → xs ≡ []
nothing [] e = refl
nothing (x ∷ xs) e = absurd (omega arith)

pub ended : (bytes : List ℕ) (list : List Token) (here : List ℕ) → Progress bytes list here → length here ≡ 0 → Tokens bytes list None
ended bytes list here p e =
    let gap : Gap p.fresh p.rest p.past.0 [] = subst (λ (xs : List ℕ). Gap p.fresh p.rest p.past.0 xs) (nothing here e) p.past.1 in
    subst (λ (l : List Token). Tokens bytes l None) (append-nil list) (p.goes [] None (AtEnd p.fresh p.past.0 p.rest gap))

pub stopped : (bytes : List ℕ) (list : List Token) (here : List ℕ) → Progress bytes list here → 0 < length here → HasNoToken here → Tokens bytes list (Some (length bytes - length here))
stopped bytes list here p some h =
    let there : here ≢ [] = λ e. absurd (let l : length here ≡ 0 = ap length e in omega arith) in
    subst (λ (l : List Token). Tokens bytes l (Some (length bytes - length here))) (append-nil list) (p.goes [] (Some (length bytes - length here)) (AtBad p.fresh p.past.0 p.rest here p.past.1 p.past.2 there h))

pub some_left : (n : ℕ) → false ≡ (n == 0) → 0 < n
some_left zero e = absurd (let k : false ≡ true = e in cc)
some_left (suc n) e = omega arith
