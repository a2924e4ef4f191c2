-- A text has one first bad line.
use Rattle.std.proofs.Common.{◌≡◌, ℕ, suc, List, ◌∷◌, refl, sym, ◌∙◌, ap, subst, Option, Some, None}
use Rattle.std.specs.Prelude.{MatchOption, unwrap_or, false}
use Rattle.tso_core.specs.Systems.{Names}
use Rattle.x86_text.specs.declared.line.Line.{Line}
use Rattle.x86_text.specs.Text.{Says, Gathered, opening, lines}
use Rattle.x86_text.specs.Bad.{Hears, Over, Heard, Made, all_made, FirstBad, Here, Later, NoMain, IsBadText}
use Rattle.x86_text.proofs.OneSaying.{one_saying}

one_heard : (bytes : List ℕ) (a b : Option Line) → MatchOption a ((l : Line) → ¬ Says bytes l) (λ l. Says bytes l) → MatchOption b ((l : Line) → ¬ Says bytes l) (λ l. Says bytes l) → a ≡ b
one_heard bytes None None h k = refl
one_heard bytes None (Some l) h k = absurd (h l k)
one_heard bytes (Some l) None h k = absurd (k l h)
one_heard bytes (Some l) (Some m) h k = ap Some (one_saying bytes l m h k)

one_hearing : (ls : List (List ℕ)) (a b : List (Option Line)) → Hears ls a → Hears ls b → a ≡ b
one_hearing ls a b Over Over = refl
one_hearing ls a b (Heard bytes rest x more h k) (Heard bytes' rest' y more' h' k') =
    let first : x ≡ y = one_heard bytes x y h h' in
    let behind : more ≡ more' = one_hearing rest more more' k k' in
    ap (λ (z : Option Line). let q : List (Option Line) = z ∷ more in q) first ∙ ap (λ (zs : List (Option Line)). y ∷ zs) behind

one_first : (all : List (Names × Made)) (g : Gathered) (said : List (Option Line)) (n m : ℕ) → FirstBad all g said n → FirstBad all g said m → n ≡ m
one_first all g said n m (Here u x more b) (Here u' x' more' b') = refl
one_first all g said n m (Here u x more b) (Later u' h l more' k good e rest) = absurd (good b)
one_first all g said n m (Later u h l more k good e rest) (Here u' x' more' b') = absurd (good b')
one_first all g said n m (Later u h l more k good e rest) (Later u' h' l' more' k' good' e' rest') =
    let same : h ≡ h' = ap (λ (o : Option Gathered). unwrap_or o h) (sym e ∙ e') in
    ap suc (one_first all h more k k' rest (subst (λ (z : Gathered). FirstBad all z more k') (sym same) rest'))
one_first all g said n m (NoMain u lacks) (NoMain u' lacks') = refl

pub one_bad : (text : List ℕ) (n m : ℕ) → IsBadText text n → IsBadText text m → n ≡ m
one_bad text n m a b =
    let same : a.said ≡ b.said = one_hearing (lines text) a.said b.said a.hears b.hears in
    one_first (all_made false a.said) opening a.said n m a.first (subst (λ (s : List (Option Line)). FirstBad (all_made false s) opening s m) (sym same) b.first)
