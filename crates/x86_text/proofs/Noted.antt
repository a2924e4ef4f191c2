-- A table tells what the lines so far make.
use Rattle.std.proofs.Common.{◌≡◌, ◌⊎◌, ℕ, List, [], ◌∷◌, ◌++◌, refl, sym, ◌∙◌, ap, subst, inl, inr, Bool, true, false, cond, Option, Some, append_assoc}
use Rattle.std.specs.Prelude.{◌↔◌, IsTrue, MatchOption, nat_eq}
use Rattle.std.specs.Cmp.Lexicographic.{pointwise}
use Rattle.std.proofs.lemmas.Bool.{false≢true}
use Rattle.std.proofs.lemmas.List.{append-nil}
use Rattle.std.proofs.lemmas.Slice.Eq.{bytes_eq-Decides}
use Rattle.tso_core.specs.Systems.{Names}
use Rattle.x86_text.specs.declared.line.Line.{Line}
use Rattle.x86_text.specs.declared.naming.Role.{Role}
use Rattle.x86_text.specs.declared.naming.Role.TheVariants as role
use Rattle.x86_text.specs.declared.naming.Roles.{Roles}
use Rattle.x86_text.specs.Text.{Says, lines}
use Rattle.x86_text.specs.Bad.{Made, CodeLabel, DataLabel, External, IsMadeAs, all_made, makes, section, Hears, Over, Heard}
use Rattle.x86_text.proofs.Goods.{made_joined, made_split, on_left}
use Rattle.x86_text.specs.Naming.{Look, made_of, as_code, as_data, as_external, has_role, with_role, Tells, Notes, IsSurvey}

-- with one role more
only_left : {X Y : Type 0} → (Y → ⊥) → X ⊎ Y → X
only_left never (inl h) = h
only_left never (inr h) = absurd (never h)

other : (name : Names) (m n : Made) → (m ≡ n → ⊥) → IsMadeAs name m ((name, n) ∷ []) → ⊥
other name m n apart (inl e) = apart e.1
other name m n apart (inr h) = h

-- a role stays, or comes
stays : (name : Names) (m n : Made) (b : Bool) → (m ≡ n → ⊥) → IsTrue b ↔ (IsTrue b ⊎ IsMadeAs name m ((name, n) ∷ []))
stays name m n b apart = (inl, only_left (other name m n apart))

comes : (name : Names) (m : Made) (b : Bool) → IsTrue true ↔ (IsTrue b ⊎ IsMadeAs name m ((name, m) ∷ []))
comes name m b = (λ h. inr (inl (refl, refl)), λ h. refl)

same_role : (name : Names) (x : Role) (o : Option Roles) (m : Made) → IsTrue (has_role m (Some (with_role x o))) ↔ (IsTrue (has_role m o) ⊎ IsMadeAs name m ((name, made_of x) ∷ []))
same_role name role.Code o CodeLabel = comes name CodeLabel (as_code o)
same_role name role.Code o DataLabel = stays name DataLabel CodeLabel (as_data o) (λ e. cc)
same_role name role.Code o External = stays name External CodeLabel (as_external o) (λ e. cc)
same_role name role.Data o CodeLabel = stays name CodeLabel DataLabel (as_code o) (λ e. cc)
same_role name role.Data o DataLabel = comes name DataLabel (as_data o)
same_role name role.Data o External = stays name External DataLabel (as_external o) (λ e. cc)
same_role name role.External o CodeLabel = stays name CodeLabel External (as_code o) (λ e. cc)
same_role name role.External o DataLabel = stays name DataLabel External (as_data o) (λ e. cc)
same_role name role.External o External = comes name External (as_external o)

other_name : (name q : Names) (m n : Made) → (q ≡ name → ⊥) → IsMadeAs q m ((name, n) ∷ []) → ⊥
other_name name q m n apart (inl e) = apart e.0
other_name name q m n apart (inr h) = h

-- one more name
noted_at : (before behind : Look) (name q : Names) (x : Role) (m : Made) (same : Bool) → pointwise nat_eq name q ≡ same → behind q ≡ cond same (Some (with_role x (before name))) (before q) → IsTrue (has_role m (behind q)) ↔ (IsTrue (has_role m (before q)) ⊎ IsMadeAs q m ((name, made_of x) ∷ []))
noted_at before behind name q x m true e h =
    let at : name ≡ q = (bytes_eq-Decides name q).0 e in
    subst (λ (t : Names). IsTrue (has_role m (behind q)) ↔ (IsTrue (has_role m (before t)) ⊎ IsMadeAs t m ((name, made_of x) ∷ []))) at (subst (λ (o : Option Roles). IsTrue (has_role m o) ↔ (IsTrue (has_role m (before name)) ⊎ IsMadeAs name m ((name, made_of x) ∷ []))) (sym h) (same_role name x (before name) m))
noted_at before behind name q x m false e h =
    let apart : q ≡ name → ⊥ = λ k. false≢true (sym e ∙ (bytes_eq-Decides name q).1 (sym k)) in
    subst (λ (o : Option Roles). IsTrue (has_role m o) ↔ (IsTrue (has_role m (before q)) ⊎ IsMadeAs q m ((name, made_of x) ∷ []))) (sym h) (inl, only_left (other_name name q m (made_of x) apart))

pub noted : (before behind : Look) (name : Names) (x : Role) → ((q : Names) → behind q ≡ cond (pointwise nat_eq name q) (Some (with_role x (before name))) (before q)) → Notes before behind ((name, made_of x) ∷ [])
noted before behind name x h = λ q m. noted_at before behind name q x m (pointwise nat_eq name q) refl (h q)

pub noted_nothing : (before : Look) → Notes before before []
noted_nothing before = λ q m. (inl, only_left (λ h. h))

-- all names so far, and those of further lines
pub tells_more : (before behind : Look) (all new : List (Names × Made)) → Tells before all → Notes before behind new → Tells behind (all ++ new)
tells_more before behind all new t n = λ name m. (
  λ h. made_joined name m all new (on_left (t name m).0 ((n name m).0 h)),
  λ h. (n name m).1 (on_left (t name m).1 (made_split name m all new h)),
)

-- how far the table has got
pub record SoFar (text rest : List ℕ) (in_data : Bool) (at : Look) : Type 0 where
  pub made : List (Names × Made)
  pub tells : Tells at made
  pub goes_on : (more : List (Option Line)) → Hears (lines rest) more → (said : List (Option Line)) × Hears (lines text) said × (all_made false said ≡ made ++ all_made in_data more)

pub so_far_first : (text : List ℕ) (at : Look) → Tells at [] → SoFar text text false at
so_far_first text at t = record { made = []; tells = t; goes_on = λ more h. (more, h, refl) }

pub so_far_more : (text rest line after : List ℕ) (d e : Bool) (before behind : Look) (o : Option Line) → lines rest ≡ line ∷ lines after → MatchOption o ((l : Line) → ¬ Says line l) (λ l. Says line l) → e ≡ section d o → Notes before behind (makes d o) → SoFar text rest d before → SoFar text after e behind
so_far_more text rest line after d e before behind o cut says sect n s = record {
  made = s.made ++ makes d o;
  tells = tells_more before behind s.made (makes d o) s.tells n;
  goes_on = λ more h.
      let on = s.goes_on (o ∷ more) (subst (λ (ls : List (List ℕ)). Hears ls (o ∷ more)) (sym cut) (Heard line (lines after) o more says h)) in
      (on.0, on.1, on.2 ∙ sym (append_assoc s.made (makes d o) (all_made (section d o) more)) ∙ ap (λ (b : Bool). (s.made ++ makes d o) ++ all_made b more) (sym sect));
}

pub so_far_end : (text rest : List ℕ) (d : Bool) (at : Look) → lines rest ≡ [] → SoFar text rest d at → IsSurvey text at
so_far_end text rest d at cut s =
    let on = s.goes_on [] (subst (λ (ls : List (List ℕ)). Hears ls []) (sym cut) Over) in
    record { said = on.0; hears = on.1; tells = subst (Tells at) (sym (on.2 ∙ append-nil s.made)) s.tells }
