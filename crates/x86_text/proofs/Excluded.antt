-- A text of an assembly has no bad line.
use Rattle.std.proofs.Common.{◌≡◌, ◌⊎◌, ℕ, ◌≤◌, List, [], ◌∷◌, ◌++◌, refl, sym, ◌∙◌, ap, subst, inl, inr, false, Option, Some, append_assoc, arith}
use Rattle.std.specs.Prelude.{MatchOption, unwrap_or}
use Rattle.std.proofs.lemmas.List.{append-nil}
use Rattle.tso_core.specs.Systems.{Names, Places}
use Rattle.x86_table.specs.Names.{AllOf}
use Rattle.x86_table.specs.declared.instruction.Instr.{Instr}
use Rattle.x86_lang.specs.declared.assembly.CodeLine.{CodeLine}
use Rattle.x86_lang.specs.declared.assembly.CodeLine.TheVariants as code
use Rattle.x86_lang.specs.declared.assembly.StaticLine.{StaticLine}
use Rattle.x86_lang.specs.declared.assembly.StaticLine.TheVariants as statics
use Rattle.x86_lang.specs.declared.assembly.Parts.{Parts}
use Rattle.x86_lang.specs.Assembly.{code_start, data_start, code_end, code_labels, data_end, data_labels, instructions}
use Rattle.x86_lang.specs.Whole.{IsMade, names_made, IsLabel, IsRightInstr, IsWhole}
use Rattle.x86_lang.proofs.Ends.{code_end-grows, data_end-grows}
use Rattle.x86_text.specs.declared.line.Line.{Line}
use Rattle.x86_text.specs.Text.{Gathered, adds, opening, lines, Gathers, End, Next, AsmOf}
use Rattle.x86_text.specs.Bad.{Hears, Over, Heard, Made, CodeLabel, DataLabel, External, makes, all_made, IsMadeAs, UsesMade, IsTooLong, IsBad, FirstBad, Here, Later, NoMain, IsBadText}
use Rattle.x86_text.proofs.Assembled.{all_front, all_back, all_both}
use Rattle.x86_text.proofs.Placed.{Differ, differ_parts, from_names_differ}
use Rattle.x86_text.proofs.Growing
use Rattle.x86_text.proofs.Growing.{Grown, grown, RightLine, names_grow, IsMadeIn, any_taken, put, taken_clashes, codes_of, datas_of, code_labels_both, data_labels_both, code_end_both, data_end_both, instructions_both}
use Rattle.x86_text.proofs.Used.{label_from, instr_from}
use Rattle.x86_text.proofs.Ranged.{says_right}
use Rattle.x86_text.proofs.Goods.{made_all, said_is}

-- parts that begin others
pub record Within (p q : Parts) : Type 0 where
  pub more_code : List CodeLine
  pub more_statics : List StaticLine
  pub more_externs : Places
  pub more_exports : List Names
  pub code : q.code ≡ p.code ++ more_code
  pub statics : q.statics ≡ p.statics ++ more_statics
  pub externs : q.externs ≡ p.externs ++ more_externs
  pub exports : q.exports ≡ p.exports ++ more_exports

within_with : (p q : Parts) (cs : List CodeLine) (ss : List StaticLine) (es : Places) (xs : List Names) → q.code ≡ p.code ++ cs → q.statics ≡ p.statics ++ ss → q.externs ≡ p.externs ++ es → q.exports ≡ p.exports ++ xs → Within p q
within_with p q cs ss es xs c s e x = record { more_code = cs; more_statics = ss; more_externs = es; more_exports = xs; code = c; statics = s; externs = e; exports = x }

none : {X : Type 0} (xs : List X) → xs ≡ xs ++ []
none xs = sym (append-nil xs)

within_step : (g h : Gathered) (l : Line) → Grown g l h → Within g.parts h.parts
within_step g h l Growing.Nothing = within_with g.parts h.parts [] [] [] [] (none g.parts.code) (none g.parts.statics) (none g.parts.externs) (none g.parts.exports)
within_step g h l (Growing.Pace n) = within_with g.parts h.parts [] [] [] [] (none g.parts.code) (none g.parts.statics) (none g.parts.externs) (none g.parts.exports)
within_step g h l (Growing.Extern name n) = within_with g.parts h.parts [] [] ((name, n) ∷ []) [] (none g.parts.code) (none g.parts.statics) refl (none g.parts.exports)
within_step g h l Growing.Text = within_with g.parts h.parts [] [] [] [] (none g.parts.code) (none g.parts.statics) (none g.parts.externs) (none g.parts.exports)
within_step g h l Growing.Data = within_with g.parts h.parts [] [] [] [] (none g.parts.code) (none g.parts.statics) (none g.parts.externs) (none g.parts.exports)
within_step g h l (Growing.Export name) = within_with g.parts h.parts [] [] [] (name ∷ []) (none g.parts.code) (none g.parts.statics) (none g.parts.externs) refl
within_step g h l (Growing.InCode name e) = within_with g.parts h.parts (code.Label name ∷ []) [] [] [] refl (none g.parts.statics) (none g.parts.externs) (none g.parts.exports)
within_step g h l (Growing.InData name e) = within_with g.parts h.parts [] (statics.Label name ∷ []) [] [] (none g.parts.code) refl (none g.parts.externs) (none g.parts.exports)
within_step g h l (Growing.Datum s e) = within_with g.parts h.parts [] (s ∷ []) [] [] (none g.parts.code) refl (none g.parts.externs) (none g.parts.exports)
within_step g h l (Growing.Op i e) = within_with g.parts h.parts (code.Op i ∷ []) [] [] [] refl (none g.parts.statics) (none g.parts.externs) (none g.parts.exports)

then_more : {X : Type 0} (xs ys zs us vs : List X) → ys ≡ xs ++ us → zs ≡ ys ++ vs → zs ≡ xs ++ (us ++ vs)
then_more xs ys zs us vs e f = f ∙ ap (λ t. t ++ vs) e ∙ append_assoc xs us vs

within_then : (p q r : Parts) → Within p q → Within q r → Within p r
within_then p q r a b = within_with p r (a.more_code ++ b.more_code) (a.more_statics ++ b.more_statics) (a.more_externs ++ b.more_externs) (a.more_exports ++ b.more_exports)
    (then_more p.code q.code r.code a.more_code b.more_code a.code b.code)
    (then_more p.statics q.statics r.statics a.more_statics b.more_statics a.statics b.statics)
    (then_more p.externs q.externs r.externs a.more_externs b.more_externs a.externs b.externs)
    (then_more p.exports q.exports r.exports a.more_exports b.more_exports a.exports b.exports)

within_all : (g k : Gathered) (ls : List (List ℕ)) → Gathers g ls k → Within g.parts k.parts
within_all g k ls (End x) = within_with x.parts x.parts [] [] [] [] (none x.parts.code) (none x.parts.statics) (none x.parts.externs) (none x.parts.exports)
within_all g k ls (Next x h y bytes rest l says added more) = within_then x.parts h.parts y.parts (within_step x h l (grown x h l added)) (within_all h y rest more)

-- what holds of the whole holds of the beginning
code_shorter : (p q : Parts) → Within p q → code_end code_start p.code ≤ code_end code_start q.code
code_shorter p q w = let both : code_end code_start q.code ≡ code_end (code_end code_start p.code) w.more_code = ap (code_end code_start) w.code ∙ code_end_both code_start p.code w.more_code in omega (arith, both, code_end-grows (code_end code_start p.code) w.more_code)

data_shorter : (p q : Parts) → Within p q → data_end data_start p.statics ≤ data_end data_start q.statics
data_shorter p q w = let both : data_end data_start q.statics ≡ data_end (data_end data_start p.statics) w.more_statics = ap (data_end data_start) w.statics ∙ data_end_both data_start p.statics w.more_statics in omega (arith, both, data_end-grows (data_end data_start p.statics) w.more_statics)

rows : (p q : Parts) (w : Within p q) → names_made q ≡ ((codes_of p ++ code_labels (code_end code_start p.code) w.more_code) ++ (datas_of p ++ data_labels (data_end data_start p.statics) w.more_statics)) ++ (p.externs ++ w.more_externs)
rows p q w =
    ap (λ (t : List CodeLine). (code_labels code_start t ++ datas_of q) ++ q.externs) w.code
    ∙ ap (λ (t : Places). (t ++ datas_of q) ++ q.externs) (code_labels_both code_start p.code w.more_code)
    ∙ ap (λ (t : List StaticLine). ((codes_of p ++ code_labels (code_end code_start p.code) w.more_code) ++ data_labels data_start t) ++ q.externs) w.statics
    ∙ ap (λ (t : Places). ((codes_of p ++ code_labels (code_end code_start p.code) w.more_code) ++ t) ++ q.externs) (data_labels_both data_start p.statics w.more_statics)
    ∙ ap (λ (t : Places). ((codes_of p ++ code_labels (code_end code_start p.code) w.more_code) ++ (datas_of p ++ data_labels (data_end data_start p.statics) w.more_statics)) ++ t) w.externs

differ_three : (a b c d e f : Places) → Differ (((a ++ b) ++ (c ++ d)) ++ (e ++ f)) → Differ ((a ++ c) ++ e)
differ_three a b c d e f h =
    let first : Differ (a ++ ((c ++ d) ++ (e ++ f))) = differ_parts a b ((c ++ d) ++ (e ++ f)) (subst Differ (append_assoc (a ++ b) (c ++ d) (e ++ f) ∙ append_assoc a b ((c ++ d) ++ (e ++ f))) h) in
    let second : Differ ((a ++ c) ++ (e ++ f)) = differ_parts (a ++ c) d (e ++ f) (subst Differ (ap (λ (t : Places). a ++ t) (append_assoc c d (e ++ f)) ∙ sym (append_assoc a c (d ++ (e ++ f)))) first) in
    let third : Differ (((a ++ c) ++ e) ++ []) = differ_parts ((a ++ c) ++ e) f [] (subst Differ (sym (append_assoc (a ++ c) e f) ∙ ap (λ (t : Places). ((a ++ c) ++ e) ++ t) (none f)) second) in
    subst Differ (append-nil ((a ++ c) ++ e)) third

made_three : (a b c d e f : Places) → AllOf IsMade (((a ++ b) ++ (c ++ d)) ++ (e ++ f)) → AllOf IsMade ((a ++ c) ++ e)
made_three a b c d e f h =
    let front = all_front IsMade ((a ++ b) ++ (c ++ d)) (e ++ f) h in
    all_both IsMade (a ++ c) e
    (all_both IsMade a c (all_front IsMade a b (all_front IsMade (a ++ b) (c ++ d) front)) (all_front IsMade c d (all_back IsMade (a ++ b) (c ++ d) front)))
    (all_front IsMade e f (all_back IsMade ((a ++ b) ++ (c ++ d)) (e ++ f) h))

differ_before : (p q : Parts) → Within p q → Differ (names_made q) → Differ (names_made p)
differ_before p q w h = differ_three (codes_of p) (code_labels (code_end code_start p.code) w.more_code) (datas_of p) (data_labels (data_end data_start p.statics) w.more_statics) p.externs w.more_externs (subst Differ (rows p q w) h)

made_before : (p q : Parts) → Within p q → AllOf IsMade (names_made q) → AllOf IsMade (names_made p)
made_before p q w h = made_three (codes_of p) (code_labels (code_end code_start p.code) w.more_code) (datas_of p) (data_labels (data_end data_start p.statics) w.more_statics) p.externs w.more_externs (subst (AllOf IsMade) (rows p q w) h)

ops_before : (P : Instr → Type 0) (p q : Parts) → Within p q → AllOf P (instructions q.code) → AllOf P (instructions p.code)
ops_before P p q w h = all_front P (instructions p.code) (instructions w.more_code) (subst (AllOf P) (ap instructions w.code ∙ instructions_both p.code w.more_code) h)

exports_before : (P : Names → Type 0) (p q : Parts) → Within p q → AllOf P q.exports → AllOf P p.exports
exports_before P p q w h = all_front P p.exports w.more_exports (subst (AllOf P) w.exports h)

-- a line on the way to a whole assembly
module _ (all : List (Names × Made)) (k : Parts) (whole : IsWhole k) (from : (name : Names) (m : Made) → IsMadeIn k name m → IsMadeAs name m all) where
  uses_made : (g h : Gathered) (l : Line) → Grown g l h → AllOf (IsRightInstr k) (instructions h.parts.code) → AllOf (IsLabel k) h.parts.exports → UsesMade all l
  uses_made g h l Growing.Nothing o x = tt
  uses_made g h l (Growing.Pace n) o x = tt
  uses_made g h l (Growing.Extern name n) o x = tt
  uses_made g h l Growing.Text o x = tt
  uses_made g h l Growing.Data o x = tt
  uses_made g h l (Growing.Export name) o x = label_from all k from name (all_back (IsLabel k) g.parts.exports (name ∷ []) x).0
  uses_made g h l (Growing.InCode name e) o x = tt
  uses_made g h l (Growing.InData name e) o x = tt
  uses_made g h l (Growing.Datum s e) o x = tt
  uses_made g h l (Growing.Op i e) o x = instr_from all k from i (all_back (IsRightInstr k) (instructions g.parts.code) (i ∷ []) (subst (AllOf (IsRightInstr k)) (instructions_both g.parts.code (code.Op i ∷ [])) o)).0

  not_too_long : (h : Parts) → Within h k → IsTooLong h → ⊥
  not_too_long h w (inl t) = omega (arith, t, code_shorter h k w, whole.code_fits)
  not_too_long h w (inr t) = omega (arith, t, data_shorter h k w, whole.data_fits)

  not_bad : (g h : Gathered) (l : Line) → adds g l ≡ Some h → RightLine l → Within h.parts k → IsBad all g (Some l) → ⊥
  not_bad g h l e r w (inl t) = not_too_long h.parts w (subst (λ (o : Option Gathered). MatchOption o (Unit {0}) (λ x. IsTooLong x.parts)) e t)
  not_bad g h l e r w (inr (inl t)) = taken_clashes g.parts h.parts (makes g.in_data (Some l)) (put g.parts h.parts (makes g.in_data (Some l)) (names_grow g h l (grown g h l e) r)) (any_taken g.parts g.in_data l t) (differ_before h.parts k w (from_names_differ (names_made k) whole.names_differ)) (made_before h.parts k w whole.names_made_right)
  not_bad g h l e r w (inr (inr t)) = t (uses_made g h l (grown g h l e) (ops_before (IsRightInstr k) h.parts k w whole.uses) (exports_before (IsLabel k) h.parts k w whole.exports))

some_line : (x y : Line) → Some x ≡ Some y → x ≡ y
some_line x y e = cc

-- nothing is made before the first line
not_opening : (name : Names) (m : Made) → IsMadeIn opening.parts name m → ⊥
not_opening name CodeLabel h = h
not_opening name DataLabel h = h
not_opening name External h = h

made_here : (name : Names) (m : Made) (all : List (Names × Made)) → IsMadeIn opening.parts name m ⊎ IsMadeAs name m all → IsMadeAs name m all
made_here name m all (inl h) = absurd (not_opening name m h)
made_here name m all (inr h) = h

same_next : (g h x : Gathered) (l m : Line) → m ≡ l → adds g l ≡ Some h → adds g m ≡ Some x → x ≡ h
same_next g h x l m e a b = ap (λ (o : Option Gathered). unwrap_or o h) (sym b ∙ ap (adds g) e ∙ a)

no_first_bad : (all : List (Names × Made)) (g k : Gathered) (ls : List (List ℕ)) (said : List (Option Line)) (n : ℕ) → IsWhole k.parts → ((name : Names) (m : Made) → IsMadeIn k.parts name m → IsMadeAs name m all) → Gathers g ls k → Hears ls said → FirstBad all g said n → ⊥
no_first_bad all g k ls said n whole from (End x) Over (NoMain u lacks) = lacks whole.starts
no_first_bad all g k ls said n whole from (Next x h y bytes rest l says added more) (Heard bytes' rest' o rests m hears) (Here u o' more' bad) =
    not_bad all y.parts whole from x h l added (says_right bytes l says) (within_all h y rest more) (subst (IsBad all x) (said_is bytes l o says m) bad)
no_first_bad all g k ls said n whole from (Next x h y bytes rest l says added more) (Heard bytes' rest' o rests m hears) (Later u h' l' more' n' good added' later) =
    let same : l' ≡ l = some_line l' l (said_is bytes l (Some l') says m) in
    no_first_bad all h y rest rests n' whole from more hears (subst (λ (z : Gathered). FirstBad all z rests n') (same_next x h h' l l' same added added') later)

pub asm_has_no_bad : (text : List ℕ) (a : Parts) (n : ℕ) → AsmOf text a → IsBadText text n → ⊥
asm_has_no_bad text a n h b =
    let whole : IsWhole h.gathered.parts = subst IsWhole (sym h.parts) h.whole in
    no_first_bad (all_made false b.said) opening h.gathered (lines text) b.said n whole (λ name m t. made_here name m (all_made false b.said) ((made_all opening h.gathered (lines text) b.said h.says b.hears name m).0 t)) h.says b.hears b.first
