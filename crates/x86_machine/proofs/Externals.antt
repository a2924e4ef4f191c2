-- The words of externals, taken into a map from the last external on.
use Rattle.std.proofs.Common.{◌≡◌, ℕ, suc, ◌<◌, List, [], ◌∷◌, ◌++◌, length, take, Option, None, Some, cond, nat_eq, refl, sym, ap, ◌∙◌}
use Rattle.std.specs.Prelude.{if◌then◌else◌, bytes_eq, slice_index_or}
use Rattle.std.specs.Map.{lookup}
use Rattle.std.specs.Cmp.Lexicographic.{pointwise}
use Rattle.std.proofs.Math.Seq.{take-suc}
use Rattle.tso_core.specs.Systems.{Names}
use Rattle.x86_machine.specs.Target.{words_of}

abbrev Externs : Type 0
Externs = List (Names × ℕ)

-- what the list gives of a name, or else this
abbrev pub words_or : Externs → Names → Option ℕ → Option ℕ
words_or [] name other = other
words_or (e ∷ es) name other = if bytes_eq e.0 name then Some e.1 else words_or es name other

of_none : (es : Externs) (name : Names) → words_or es name None ≡ words_of es name
of_none [] name = refl
of_none (e ∷ es) name = ap (λ z. if bytes_eq e.0 name then Some e.1 else z) (of_none es name)

of_last : (es : Externs) (e : Names × ℕ) (name : Names) (other : Option ℕ) → words_or (es ++ e ∷ []) name other ≡ words_or es name (if bytes_eq e.0 name then Some e.1 else other)
of_last [] e name other = refl
of_last (d ∷ ds) e name other = ap (λ z. if bytes_eq d.0 name then Some d.1 else z) (of_last ds e name other)

of_all : (es : Externs) (name : Names) (other : Option ℕ) → words_or (take (length es) es) name other ≡ words_or es name other
of_all [] name other = refl
of_all (e ∷ es) name other = ap (λ z. if bytes_eq e.0 name then Some e.1 else z) (of_all es name other)

pub opens : (es entries : Externs) → entries ≡ [] → (name : Names) → words_or (take (length es) es) name (lookup (pointwise nat_eq name) entries) ≡ words_of es name
opens es entries e name = of_all es name (lookup (pointwise nat_eq name) entries) ∙ ap (λ known. words_or es name (lookup (pointwise nat_eq name) known)) e ∙ of_none es name

pub goes_on : (es : Externs) (left : ℕ) (e : Names × ℕ) → left < length es → slice_index_or es left e ≡ e → (name : Names) (old new : Option ℕ) → new ≡ cond (pointwise nat_eq e.0 name) (Some e.1) old → words_or (take (suc left) es) name old ≡ words_of es name → words_or (take left es) name new ≡ words_of es name
goes_on es left e within is name old new put before =
    ap (λ z. words_or (take left es) name z) put
    ∙ sym (of_last (take left es) e name old)
    ∙ ap (λ (z : Names × ℕ). words_or (take left es ++ z ∷ []) name old) (sym is)
    ∙ ap (λ l. words_or l name old) (sym (take-suc es left e within))
    ∙ before
