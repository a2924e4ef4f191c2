-- Lines that are judged one after the other make the assembly of the text, or find its first bad line.
use Rattle.std.proofs.Common.{◌≡◌, ◌⊎◌, ℕ, suc, ◌+◌, List, [], ◌∷◌, refl, sym, ◌∙◌, ap, subst, inl, inr, Bool, true, false, Option, Some, None, arith}
use Rattle.std.specs.Prelude.{MatchOption, Result, Ok, Err, IfOk, codes}
use Rattle.std.proofs.lemmas.Bool.{false≢true}
use Rattle.tso_core.specs.Systems.{Names}
use Rattle.x86_lang.specs.declared.assembly.Parts.{Parts}
use Rattle.x86_lang.specs.Whole.{IsCodeLabel}
use Rattle.x86_text.specs.declared.line.Line.{Line}
use Rattle.x86_text.specs.declared.assembling.Assembling.{Assembling}
use Rattle.x86_text.specs.declared.assembling.Outcome.{Outcome}
use Rattle.x86_text.specs.declared.assembling.Outcome.TheVariants.{Whole, BadLine}
use Rattle.x86_text.specs.Text.{Says, Gathered, opening, lines, AsmOf}
use Rattle.x86_text.specs.Gathering.{gathered_of}
use Rattle.x86_text.specs.Bad.{Hears, Over, Heard, Made, CodeLabel, DataLabel, External, all_made, IsMadeAs, IsTooLong, IsBad, FirstBad, Here, Later, NoMain, IsBadText}
use Rattle.x86_text.specs.Naming.{Look, Tells, IsSurvey}
use Rattle.x86_text.specs.Judging.{IsKept, FineBy, BadBy, IsJudgedLine, IsBadSaid, JudgesLine, Ends, IsOutcomeOf}
use Rattle.x86_text.proofs.Growing.{IsMadeIn}
use Rattle.x86_text.proofs.Goods.{Fine, GoodAll, Done, More, good_gathers, good_is_text, made_all, said_is}
use Rattle.x86_text.proofs.Told.{line_told}

-- good and bad, by the names that all lines make
fine_of : (at : Look) (all : List (Names × Made)) → Tells at all → (g h : Gathered) (l : Line) → FineBy at g l h → Fine all g l h
fine_of at all tells g h l f = record { added = f.added; in_range = f.in_range; fresh = f.fresh; uses = (line_told at all tells l).0 f.named }

bad_of : (at : Look) (all : List (Names × Made)) → Tells at all → (g : Gathered) (l : Line) → BadBy at g l → IsBad all g (Some l)
bad_of at all tells g l (inl t) = inl t
bad_of at all tells g l (inr (inl t)) = inr (inl t)
bad_of at all tells g l (inr (inr t)) = inr (inr (λ u. false≢true (sym t ∙ (line_told at all tells l).1 u)))

fine_not_bad : (all : List (Names × Made)) (g h : Gathered) (l : Line) → Fine all g l h → IsBad all g (Some l) → ⊥
fine_not_bad all g h l f (inl t) = f.in_range (subst (λ (o : Option Gathered). MatchOption o (Unit {0}) (λ x. IsTooLong x.parts)) f.added t)
fine_not_bad all g h l f (inr (inl t)) = f.fresh t
fine_not_bad all g h l f (inr (inr t)) = t f.uses

-- how far the lines have been judged
pub record Goes (text : List ℕ) (said : List (Option Line)) (rest : List ℕ) (g : Gathered) (count : ℕ) : Type 0 where
  pub more : List (Option Line)
  pub hears : Hears (lines rest) more
  pub good : (k : Gathered) → GoodAll (all_made false said) g more k → GoodAll (all_made false said) opening said k
  pub bad : (n : ℕ) → FirstBad (all_made false said) g more n → FirstBad (all_made false said) opening said (count + n)

plain : (n : ℕ) → n ≡ 0 + n
plain n = omega arith

next : (count n : ℕ) → count + suc n ≡ (count + 1) + n
next count n = omega arith

pub goes_first : (text : List ℕ) (at : Look) (s : IsSurvey text at) (g : Gathered) → g ≡ opening → Goes text s.said text g 0
goes_first text at s g e = record {
  more = s.said;
  hears = s.hears;
  good = λ k h. subst (λ (x : Gathered). GoodAll (all_made false s.said) x s.said k) e h;
  bad = λ n h. subst (λ (m : ℕ). FirstBad (all_made false s.said) opening s.said m) (plain n) (subst (λ (x : Gathered). FirstBad (all_made false s.said) x s.said n) e h);
}

-- the first of the lines that are left
record Cut (line rest : List ℕ) (more : List (Option Line)) : Type 0 where
  pub first : Option Line
  pub behind : List (Option Line)
  pub is : more ≡ first ∷ behind
  pub says : MatchOption first ((l : Line) → ¬ Says line l) (λ l. Says line l)
  pub hears : Hears (lines rest) behind

cut_of : (line : List ℕ) (ls : List (List ℕ)) (more : List (Option Line)) → Hears (line ∷ ls) more → (first : Option Line) × (behind : List (Option Line)) × (more ≡ first ∷ behind) × MatchOption first ((l : Line) → ¬ Says line l) (λ l. Says line l) × Hears ls behind
cut_of line ls more (Heard bytes rest o behind says hears) = (o, behind, refl, says, hears)

cut : (line rest after : List ℕ) (more : List (Option Line)) → lines rest ≡ line ∷ lines after → Hears (lines rest) more → Cut line after more
cut line rest after more e h =
    let parts = cut_of line (lines after) more (subst (λ (ls : List (List ℕ)). Hears ls more) e h) in
    record { first = parts.0; behind = parts.1; is = parts.2; says = parts.3; hears = parts.4 }

one_on : (all : List (Names × Made)) (said : List (Option Line)) (count n : ℕ) → FirstBad all opening said (count + suc n) → FirstBad all opening said ((count + 1) + n)
one_on all said count n h = subst (λ (m : ℕ). FirstBad all opening said m) (next count n) h

pub goes_more : (text : List ℕ) (at : Look) (s : IsSurvey text at) (rest line after : List ℕ) (old new : Assembling) (count : ℕ) → lines rest ≡ line ∷ lines after → IsJudgedLine at old line new → Goes text s.said rest (gathered_of old.gathering) count → Goes text s.said after (gathered_of new.gathering) (count + 1)
goes_more text at s rest line after old new count e j goes =
    let all = all_made false s.said in
    let g = gathered_of old.gathering in
    let h = gathered_of new.gathering in
    let c = cut line rest after goes.more e goes.hears in
    let is : goes.more ≡ Some j.said ∷ c.behind = c.is ∙ ap (λ (o : Option Line). let q : List (Option Line) = o ∷ c.behind in q) (said_is line j.said c.first j.says c.says) in
    let fine = fine_of at all s.tells g h j.said j.judged.fine in
    record {
      more = c.behind;
      hears = c.hears;
      good = λ k t. goes.good k (subst (λ (m : List (Option Line)). GoodAll all g m k) (sym is) (More g h k j.said c.behind fine t));
      bad = λ n t. one_on all s.said count n (goes.bad (suc n) (subst (λ (m : List (Option Line)). FirstBad all g m (suc n)) (sym is) (Later g h j.said c.behind n (fine_not_bad all g h j.said fine) fine.added t)));
    }

-- a bad line
none_is : (line : List ℕ) (o : Option Line) → ((l : Line) → ¬ Says line l) → MatchOption o ((l : Line) → ¬ Says line l) (λ l. Says line l) → o ≡ None
none_is line None h m = refl
none_is line (Some l) h m = absurd (h l m)

is_bad : (at : Look) (all : List (Names × Made)) → Tells at all → (old : Assembling) (line : List ℕ) (o : Option Line) → MatchOption o ((l : Line) → ¬ Says line l) (λ l. Says line l) → ((l : Line) → ¬ Says line l) ⊎ IsBadSaid at old line → IsBad all (gathered_of old.gathering) o
is_bad at all tells old line o m (inl h) = subst (IsBad all (gathered_of old.gathering)) (sym (none_is line o h m)) tt
is_bad at all tells old line o m (inr b) = subst (IsBad all (gathered_of old.gathering)) (sym (said_is line b.said o b.says m)) (bad_of at all tells (gathered_of old.gathering) b.said b.bad)

pub stops_here : (text : List ℕ) (at : Look) (s : IsSurvey text at) (rest line after : List ℕ) (old new : Assembling) (count : ℕ) → lines rest ≡ line ∷ lines after → JudgesLine false at old line new → Goes text s.said rest (gathered_of old.gathering) count → IsBadText text (count + 1)
stops_here text at s rest line after old new count e j goes =
    let all = all_made false s.said in
    let g = gathered_of old.gathering in
    let c = cut line rest after goes.more e goes.hears in
    record {
      said = s.said;
      hears = s.hears;
      first = goes.bad 1 (subst (λ (m : List (Option Line)). FirstBad all g m 1) (sym c.is) (Here g c.first c.behind (is_bad at all s.tells old line c.first c.says j)));
    }

-- behind the last line
no_more : (more : List (Option Line)) → Hears [] more → more ≡ []
no_more more Over = refl

main_is : (name : Names) (m : Made) (all : List (Names × Made)) → IsMadeIn opening.parts name m ⊎ IsMadeAs name m all → IsMadeAs name m all
main_is name CodeLabel all (inl h) = absurd h
main_is name DataLabel all (inl h) = absurd h
main_is name External all (inl h) = absurd h
main_is name m all (inr h) = h

pub ends_as : (text : List ℕ) (at : Look) (s : IsSurvey text at) (rest : List ℕ) (g : Gathered) (count : ℕ) (outcome : Outcome) → lines rest ≡ [] → Goes text s.said rest g count → Ends at g.parts count outcome → IsOutcomeOf text outcome
ends_as text at s rest g count (Whole parts) e goes ends =
    let all = all_made false s.said in
    let over : goes.more ≡ [] = no_more goes.more (subst (λ (ls : List (List ℕ)). Hears ls goes.more) e goes.hears) in
    let good : GoodAll all opening s.said g = goes.good g (subst (λ (m : List (Option Line)). GoodAll all g m g) (sym over) (Done g)) in
    let main : IsCodeLabel g.parts (codes "main") = (made_all opening g (lines text) s.said (good_gathers all opening g (lines text) s.said s.hears good) s.hears (codes "main") CodeLabel).1 (inr ((s.tells (codes "main") CodeLabel).0 ends.1)) in
    subst (AsmOf text) (sym ends.0) (good_is_text text s.said g s.hears good main)
ends_as text at s rest g count (BadLine n) e goes ends =
    let all = all_made false s.said in
    let over : goes.more ≡ [] = no_more goes.more (subst (λ (ls : List (List ℕ)). Hears ls goes.more) e goes.hears) in
    let good : GoodAll all opening s.said g = goes.good g (subst (λ (m : List (Option Line)). GoodAll all g m g) (sym over) (Done g)) in
    let lacks : IsCodeLabel g.parts (codes "main") → ⊥ = λ h. false≢true (sym ends.1 ∙ (s.tells (codes "main") CodeLabel).1 (main_is (codes "main") CodeLabel all ((made_all opening g (lines text) s.said (good_gathers all opening g (lines text) s.said s.hears good) s.hears (codes "main") CodeLabel).0 h))) in
    subst (IsBadText text) (sym ends.0) (record { said = s.said; hears = s.hears; first = goes.bad 1 (subst (λ (m : List (Option Line)). FirstBad all g m 1) (sym over) (NoMain g lacks)) })

-- by the answer of each line
pub is_judged : (good : Bool) (at : Look) (old : Assembling) (line : List ℕ) (new : Assembling) → good ≡ true → JudgesLine good at old line new → IsJudgedLine at old line new
is_judged true at old line new e j = j
is_judged false at old line new e j = absurd (false≢true e)

pub is_refused : (good : Bool) (at : Look) (old : Assembling) (line : List ℕ) (new : Assembling) → good ≡ false → JudgesLine good at old line new → JudgesLine false at old line new
is_refused true at old line new e j = absurd (false≢true (sym e))
is_refused false at old line new e j = j

pub kept_on : (good : Bool) (at : Look) (old : Assembling) (line : List ℕ) (new : Assembling) → good ≡ true → JudgesLine good at old line new → IsKept new
kept_on good at old line new e j = (is_judged good at old line new e j).judged.kept

pub ends_all : {E : Type 0} (text : List ℕ) (at : Look) (s : IsSurvey text at) (rest : List ℕ) (g : Gathered) (parts : Parts) (count : ℕ) (r : Result Outcome E) → lines rest ≡ [] → Goes text s.said rest g count → parts ≡ g.parts → IfOk r (λ outcome. Ends at parts count outcome) → IfOk r (λ outcome. IsOutcomeOf text outcome)
ends_all text at s rest g parts count (Ok outcome) e goes same ends = ends_as text at s rest g count outcome e goes (subst (λ (p : Parts). Ends at p count outcome) same ends)
ends_all text at s rest g parts count (Err x) e goes same ends = tt
