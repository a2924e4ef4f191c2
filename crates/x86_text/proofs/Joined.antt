-- Lines that are joined, and their lines.
use Rattle.std.proofs.Common.{◌≡◌, ℕ, List, [], ◌∷◌, ◌++◌, refl, sym, ◌∙◌, ap, Bool, true, false, cond, append_assoc, eqb}
use Rattle.std.specs.Prelude.{◌&&◌, not, map}
use Rattle.std.proofs.lemmas.Bool.{and_parts}
use Rattle.std.proofs.lemmas.List.{append-nil}
use Rattle.x86_table.specs.Names.{AllOf}
use Rattle.x86_lines.specs.Pieces.{onto_first}
use Rattle.x86_lang.specs.declared.assembly.Parts.{Parts}
use Rattle.x86_text.specs.Printed.{joined, printed, pace_text, extern_text, export_text, static_lines, code_lines}
use Rattle.x86_text.specs.Text.{lines}

-- no line feed
abbrev pub in_line : List ℕ → Bool
in_line [] = true
in_line (b ∷ bs) = not (eqb b 10) && in_line bs

first_line_at : (b : ℕ) (l : List ℕ) (rest : List ℕ) (feed : Bool) → eqb b 10 ≡ feed → not feed ≡ true → lines (l ++ 10 ∷ rest) ≡ l ∷ lines rest → lines (b ∷ l ++ 10 ∷ rest) ≡ (b ∷ l) ∷ lines rest
first_line_at b l rest true e h k = absurd (let bad : false ≡ true = h in cc)
first_line_at b l rest false e h k = ap (λ t. cond t ([] ∷ lines (l ++ 10 ∷ rest)) (onto_first b (lines (l ++ 10 ∷ rest)))) e ∙ ap (onto_first b) k

pub first_line : (l rest : List ℕ) → in_line l ≡ true → lines (l ++ 10 ∷ rest) ≡ l ∷ lines rest
first_line [] rest h = refl
first_line (b ∷ l) rest h =
    let parts = and_parts (not (eqb b 10)) (in_line l) h in
    first_line_at b l rest (eqb b 10) refl parts.0 (first_line l rest parts.1)

pub lines_joined : (ls : List (List ℕ)) → AllOf (λ l. in_line l ≡ true) ls → lines (joined ls) ≡ ls
lines_joined [] h = refl
lines_joined (l ∷ ls) h = ap lines (append_assoc l (10 ∷ []) (joined ls)) ∙ first_line l (joined ls) h.0 ∙ ap (λ xs. l ∷ xs) (lines_joined ls h.1)

pub joined_append : (xs ys : List (List ℕ)) → joined (xs ++ ys) ≡ joined xs ++ joined ys
joined_append [] ys = refl
joined_append (x ∷ xs) ys = ap (λ t. (x ++ 10 ∷ []) ++ t) (joined_append xs ys) ∙ sym (append_assoc (x ++ 10 ∷ []) (joined xs) (joined ys))

flat : (p e x s c : List ℕ) → ((([] ++ (p ++ [])) ++ e) ++ x) ++ s ++ c ≡ p ++ (e ++ (x ++ (s ++ c)))
flat p e x s c = ap (λ t. (((t ++ e) ++ x) ++ s) ++ c) (append-nil p) ∙ append_assoc ((p ++ e) ++ x) s c ∙ append_assoc (p ++ e) x (s ++ c) ∙ append_assoc p e (x ++ (s ++ c))

-- what the head and the sections add to nothing is the printed form
pub printed_is : (a : Parts) (out head all : List ℕ) → out ≡ [] → head ≡ out ++ joined (pace_text a.pace ∷ []) ++ joined (map extern_text a.externs) ++ joined (map export_text a.exports) → all ≡ head ++ joined (static_lines a) ++ joined (code_lines a) → all ≡ printed a
printed_is a out head all e f g =
    let p = pace_text a.pace ++ 10 ∷ [] in
    let es = map extern_text a.externs in
    let xs = map export_text a.exports in
    g
    ∙ ap (λ t. t ++ joined (static_lines a) ++ joined (code_lines a)) (f ∙ ap (λ t. t ++ joined (pace_text a.pace ∷ []) ++ joined es ++ joined xs) e)
    ∙ flat p (joined es) (joined xs) (joined (static_lines a)) (joined (code_lines a))
    ∙ ap (λ t. p ++ t) (sym (joined_append es (xs ++ (static_lines a ++ code_lines a)) ∙ ap (λ t. joined es ++ t) (joined_append xs (static_lines a ++ code_lines a) ∙ ap (λ t. joined xs ++ t) (joined_append (static_lines a) (code_lines a)))))
