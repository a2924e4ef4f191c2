-- What a line does to the parts where it may stand.
use Rattle.std.proofs.Common.{◌≡◌, ◌≢◌, ◌⊎◌, ℕ, ◌+◌, ◌^◌, ◌<◌, ◌≤◌, List, [], ◌∷◌, ◌++◌, refl, sym, ◌∙◌, ap, subst, inl, inr, Bool, true, false, Some, None, append_assoc}
use Rattle.std.specs.Prelude.{◌↔◌, if◌then◌else◌}
use Rattle.std.proofs.lemmas.List.{append-nil}
use Rattle.tso_core.specs.Systems.{Names, Places}
use Rattle.x86_table.specs.Names.{AllOf, IsName}
use Rattle.x86_table.specs.declared.instruction.Instr.{Instr}
use Rattle.x86_lines.specs.Grammar.{HasShortShift}
use Rattle.x86_lang.specs.declared.assembly.CodeLine.{CodeLine}
use Rattle.x86_lang.specs.declared.assembly.CodeLine.TheVariants as code
use Rattle.x86_lang.specs.declared.assembly.StaticLine.{StaticLine}
use Rattle.x86_lang.specs.declared.assembly.StaticLine.TheVariants as statics
use Rattle.x86_lang.specs.declared.assembly.Parts.{Parts}
use Rattle.x86_lang.specs.Assembly.{code_start, data_start, code_size, code_end, code_label, code_labels, size_at, data_end, data_label, data_labels, instruction_of, instructions}
use Rattle.x86_lang.specs.Whole.{IsPlaced, IsMade, names_made, FitsWidth, IsAlignment, HasWords}
use Rattle.x86_text.specs.declared.line.Line.{Line}
use Rattle.x86_text.specs.declared.line.Line.TheVariants as line
use Rattle.x86_text.specs.Text.{Gathered, adds, with_parts, with_code, with_static}
use Rattle.x86_text.specs.Bad.{Made, CodeLabel, DataLabel, External, section, makes, label_in, IsMadeAs, IsTaken, MakesTaken}
use Rattle.x86_text.proofs.Assembled.{all_front, all_back, all_both}
use Rattle.x86_text.proofs.Placed.{placed_left, placed_right, placed_split, Differ, differ_with, differ_without, placed_made}

-- a line that may stand, and what there is behind it
pub data Grown (g : Gathered) : Line → Gathered → Type 0 where
  Nothing : Grown g line.Nothing g
  Pace : (n : ℕ) → Grown g (line.Pace n) (record { in_data = g.in_data; has_pace = true; parts = record g.parts { pace = n } })
  Extern : (name : Names) (n : ℕ) → Grown g (line.Extern name n) (with_parts g (record g.parts { externs = g.parts.externs ++ (name, n) ∷ [] }))
  Text : Grown g line.Text (record g { in_data = false })
  Data : Grown g line.Data (record g { in_data = true })
  Export : (name : Names) → Grown g (line.Export name) (with_parts g (record g.parts { exports = g.parts.exports ++ name ∷ [] }))
  InCode : (name : Names) → g.in_data ≡ false → Grown g (line.Label name) (with_code g (code.Label name))
  InData : (name : Names) → g.in_data ≡ true → Grown g (line.Label name) (with_static g (statics.Label name))
  Datum : (s : StaticLine) → g.in_data ≡ true → Grown g (line.Datum s) (with_static g s)
  Op : (i : Instr) → g.in_data ≡ false → Grown g (line.Op i) (with_code g (code.Op i))

some_same : {X : Type 0} (x y : X) → Some x ≡ Some y → x ≡ y
some_same x y e = cc

pace_grown : (g h : Gathered) (n : ℕ) (had : Bool) → (if had then None else Some (record { in_data = g.in_data; has_pace = true; parts = record g.parts { pace = n } })) ≡ Some h → Grown g (line.Pace n) h
pace_grown g h n true e = absurd cc
pace_grown g h n false e = subst (Grown g (line.Pace n)) (some_same _ h e) (Pace n)

label_grown : (g h : Gathered) (name : Names) (d : Bool) → g.in_data ≡ d → (if d then with_static g (statics.Label name) else with_code g (code.Label name)) ≡ h → Grown g (line.Label name) h
label_grown g h name true e k = subst (Grown g (line.Label name)) k (InData name e)
label_grown g h name false e k = subst (Grown g (line.Label name)) k (InCode name e)

datum_grown : (g h : Gathered) (s : StaticLine) (d : Bool) → g.in_data ≡ d → (if d then Some (with_static g s) else None) ≡ Some h → Grown g (line.Datum s) h
datum_grown g h s true e k = subst (Grown g (line.Datum s)) (some_same _ h k) (Datum s e)
datum_grown g h s false e k = absurd cc

op_grown : (g h : Gathered) (i : Instr) (d : Bool) → g.in_data ≡ d → (if d then None else Some (with_code g (code.Op i))) ≡ Some h → Grown g (line.Op i) h
op_grown g h i true e k = absurd cc
op_grown g h i false e k = subst (Grown g (line.Op i)) (some_same _ h k) (Op i e)

pub grown : (g h : Gathered) (l : Line) → adds g l ≡ Some h → Grown g l h
grown g h line.Nothing e = subst (Grown g line.Nothing) (some_same _ h e) Nothing
grown g h (line.Pace n) e = pace_grown g h n g.has_pace e
grown g h (line.Extern name n) e = subst (Grown g (line.Extern name n)) (some_same _ h e) (Extern name n)
grown g h line.Text e = subst (Grown g line.Text) (some_same _ h e) Text
grown g h line.Data e = subst (Grown g line.Data) (some_same _ h e) Data
grown g h (line.Export name) e = subst (Grown g (line.Export name)) (some_same _ h e) (Export name)
grown g h (line.Label name) e = label_grown g h name g.in_data refl (some_same _ h e)
grown g h (line.Datum s) e = datum_grown g h s g.in_data refl e
grown g h (line.Op i) e = op_grown g h i g.in_data refl e

-- no label stands among the directives
abbrev pub IsNoLabel : StaticLine → Type 0
IsNoLabel (statics.Label name) = ⊥
IsNoLabel s = Unit {0}

-- what a line says is in its ranges
abbrev pub RightLine : Line → Type 0
RightLine (line.Pace n) = n < 2 ^ 128
RightLine (line.Extern name n) = IsName name × (n ≤ 64)
RightLine (line.Label name) = IsName name
RightLine (line.Datum s) = IsNoLabel s × FitsWidth s × IsAlignment s
RightLine (line.Op i) = HasWords i × HasShortShift i
RightLine l = Unit {0}

-- the lists of lines joined
pub code_labels_both : (at : ℕ) (xs ys : List CodeLine) → code_labels at (xs ++ ys) ≡ code_labels at xs ++ code_labels (code_end at xs) ys
code_labels_both at [] ys = refl
code_labels_both at (x ∷ xs) ys = ap (λ (t : Places). code_label at x ++ t) (code_labels_both (at + code_size x) xs ys) ∙ sym (append_assoc (code_label at x) (code_labels (at + code_size x) xs) (code_labels (code_end (at + code_size x) xs) ys))

pub data_labels_both : (at : ℕ) (xs ys : List StaticLine) → data_labels at (xs ++ ys) ≡ data_labels at xs ++ data_labels (data_end at xs) ys
data_labels_both at [] ys = refl
data_labels_both at (x ∷ xs) ys = ap (λ (t : Places). data_label at x ++ t) (data_labels_both (at + size_at at x) xs ys) ∙ sym (append_assoc (data_label at x) (data_labels (at + size_at at x) xs) (data_labels (data_end (at + size_at at x) xs) ys))

pub code_end_both : (at : ℕ) (xs ys : List CodeLine) → code_end at (xs ++ ys) ≡ code_end (code_end at xs) ys
code_end_both at [] ys = refl
code_end_both at (x ∷ xs) ys = code_end_both (at + code_size x) xs ys

pub data_end_both : (at : ℕ) (xs ys : List StaticLine) → data_end at (xs ++ ys) ≡ data_end (data_end at xs) ys
data_end_both at [] ys = refl
data_end_both at (x ∷ xs) ys = data_end_both (at + size_at at x) xs ys

pub instructions_both : (xs ys : List CodeLine) → instructions (xs ++ ys) ≡ instructions xs ++ instructions ys
instructions_both [] ys = refl
instructions_both (x ∷ xs) ys = ap (λ (t : List Instr). instruction_of x ++ t) (instructions_both xs ys) ∙ sym (append_assoc (instruction_of x) (instructions xs) (instructions ys))

-- the labels of parts
abbrev pub codes_of : Parts → Places
codes_of p = code_labels code_start p.code

abbrev pub datas_of : Parts → Places
datas_of p = data_labels data_start p.statics

-- how the names grow with a line
pub data NamesGrow (p q : Parts) : List (Names × Made) → Type 0 where
  Same : codes_of q ≡ codes_of p → datas_of q ≡ datas_of p → q.externs ≡ p.externs → NamesGrow p q []
  ByCode : (name : Names) (at : ℕ) → codes_of q ≡ codes_of p ++ (name, at) ∷ [] → datas_of q ≡ datas_of p → q.externs ≡ p.externs → NamesGrow p q ((name, CodeLabel) ∷ [])
  ByData : (name : Names) (at : ℕ) → codes_of q ≡ codes_of p → datas_of q ≡ datas_of p ++ (name, at) ∷ [] → q.externs ≡ p.externs → NamesGrow p q ((name, DataLabel) ∷ [])
  ByExtern : (name : Names) (n : ℕ) → codes_of q ≡ codes_of p → datas_of q ≡ datas_of p → q.externs ≡ p.externs ++ (name, n) ∷ [] → NamesGrow p q ((name, External) ∷ [])

no_data_label : (s : StaticLine) (at : ℕ) → IsNoLabel s → data_labels at (s ∷ []) ≡ []
no_data_label (statics.Label name) at h = absurd h
no_data_label (statics.Byte n) at h = refl
no_data_label (statics.Short n) at h = refl
no_data_label (statics.Long n) at h = refl
no_data_label (statics.Zero n) at h = refl
no_data_label (statics.Balign n) at h = refl

pub names_grow : (g h : Gathered) (l : Line) → Grown g l h → RightLine l → NamesGrow g.parts h.parts (makes g.in_data (Some l))
names_grow g h l Nothing r = Same refl refl refl
names_grow g h l (Pace n) r = Same refl refl refl
names_grow g h l (Extern name n) r = ByExtern name n refl refl refl
names_grow g h l Text r = Same refl refl refl
names_grow g h l Data r = Same refl refl refl
names_grow g h l (Export name) r = Same refl refl refl
names_grow g h l (InCode name e) r = subst (λ (d : Bool). NamesGrow g.parts (with_code g (code.Label name)).parts ((name, label_in d) ∷ [])) (sym e) (ByCode name (code_end code_start g.parts.code) (code_labels_both code_start g.parts.code (code.Label name ∷ [])) refl refl)
names_grow g h l (InData name e) r = subst (λ (d : Bool). NamesGrow g.parts (with_static g (statics.Label name)).parts ((name, label_in d) ∷ [])) (sym e) (ByData name (data_end data_start g.parts.statics) refl (data_labels_both data_start g.parts.statics (statics.Label name ∷ [])) refl)
names_grow g h l (Datum s e) r = Same refl (data_labels_both data_start g.parts.statics (s ∷ []) ∙ ap (λ (t : Places). datas_of g.parts ++ t) (no_data_label s (data_end data_start g.parts.statics) r.0) ∙ append-nil (datas_of g.parts)) refl
names_grow g h l (Op i e) r = Same (code_labels_both code_start g.parts.code (code.Op i ∷ []) ∙ append-nil (codes_of g.parts)) refl refl

pub section_grows : (g h : Gathered) (l : Line) → Grown g l h → h.in_data ≡ section g.in_data (Some l)
section_grows g h l Nothing = refl
section_grows g h l (Pace n) = refl
section_grows g h l (Extern name n) = refl
section_grows g h l Text = refl
section_grows g h l Data = refl
section_grows g h l (Export name) = refl
section_grows g h l (InCode name e) = refl
section_grows g h l (InData name e) = refl
section_grows g h l (Datum s e) = refl
section_grows g h l (Op i e) = refl

-- a name that parts make as this
abbrev pub IsMadeIn : Parts → Names → Made → Type 0
IsMadeIn p name CodeLabel = IsPlaced name (codes_of p)
IsMadeIn p name DataLabel = IsPlaced name (datas_of p)
IsMadeIn p name External = IsPlaced name p.externs

to_last : (name x : Names) (at : ℕ) (ps : Places) (m : Made) → IsPlaced name ps ⊎ IsPlaced name ((x, at) ∷ []) → IsPlaced name ps ⊎ IsMadeAs name m ((x, m) ∷ [])
to_last name x at ps m (inl h) = inl h
to_last name x at ps m (inr (inl e)) = inr (inl (e, refl))
to_last name x at ps m (inr (inr h)) = absurd h

from_last : (name x : Names) (at : ℕ) (ps : Places) (m : Made) → IsPlaced name ps ⊎ IsMadeAs name m ((x, m) ∷ []) → IsPlaced name (ps ++ (x, at) ∷ [])
from_last name x at ps m (inl h) = placed_left name ps ((x, at) ∷ []) h
from_last name x at ps m (inr (inl e)) = placed_right name ps ((x, at) ∷ []) (inl e.0)
from_last name x at ps m (inr (inr h)) = absurd h

with_last : (name x : Names) (at : ℕ) (ps qs : Places) (m : Made) → qs ≡ ps ++ (x, at) ∷ [] → IsPlaced name qs ↔ (IsPlaced name ps ⊎ IsMadeAs name m ((x, m) ∷ []))
with_last name x at ps qs m e = (λ h. to_last name x at ps m (placed_split name ps ((x, at) ∷ []) (subst (IsPlaced name) e h)), λ h. subst (IsPlaced name) (sym e) (from_last name x at ps m h))

-- places that stay, where another thing is made
no_other : (name x : Names) (m n : Made) → m ≢ n → IsMadeAs name m ((x, n) ∷ []) → ⊥
no_other name x m n other (inl e) = other e.1
no_other name x m n other (inr h) = h

from_same : (name : Names) (ps : Places) {X : Type 0} → (X → ⊥) → IsPlaced name ps ⊎ X → IsPlaced name ps
from_same name ps never (inl h) = h
from_same name ps never (inr h) = absurd (never h)

without : (name : Names) (ps qs : Places) {X : Type 0} → qs ≡ ps → (X → ⊥) → IsPlaced name qs ↔ (IsPlaced name ps ⊎ X)
without name ps qs e never = (λ h. inl (subst (IsPlaced name) e h), λ h. subst (IsPlaced name) (sym e) (from_same name ps never h))

code_is_no_data : CodeLabel ≢ DataLabel
code_is_no_data e = cc

code_is_no_extern : CodeLabel ≢ External
code_is_no_extern e = cc

data_is_no_extern : DataLabel ≢ External
data_is_no_extern e = cc

pub made_grows : (p q : Parts) (new : List (Names × Made)) → NamesGrow p q new → (name : Names) (m : Made) → IsMadeIn q name m ↔ (IsMadeIn p name m ⊎ IsMadeAs name m new)
made_grows p q new (Same c d e) name CodeLabel = without name (codes_of p) (codes_of q) c (λ h. h)
made_grows p q new (Same c d e) name DataLabel = without name (datas_of p) (datas_of q) d (λ h. h)
made_grows p q new (Same c d e) name External = without name p.externs q.externs e (λ h. h)
made_grows p q new (ByCode x at c d e) name CodeLabel = with_last name x at (codes_of p) (codes_of q) CodeLabel c
made_grows p q new (ByCode x at c d e) name DataLabel = without name (datas_of p) (datas_of q) d (no_other name x DataLabel CodeLabel (λ k. code_is_no_data (sym k)))
made_grows p q new (ByCode x at c d e) name External = without name p.externs q.externs e (no_other name x External CodeLabel (λ k. code_is_no_extern (sym k)))
made_grows p q new (ByData x at c d e) name CodeLabel = without name (codes_of p) (codes_of q) c (no_other name x CodeLabel DataLabel code_is_no_data)
made_grows p q new (ByData x at c d e) name DataLabel = with_last name x at (datas_of p) (datas_of q) DataLabel d
made_grows p q new (ByData x at c d e) name External = without name p.externs q.externs e (no_other name x External DataLabel (λ k. data_is_no_extern (sym k)))
made_grows p q new (ByExtern x n c d e) name CodeLabel = without name (codes_of p) (codes_of q) c (no_other name x CodeLabel External code_is_no_extern)
made_grows p q new (ByExtern x n c d e) name DataLabel = without name (datas_of p) (datas_of q) d (no_other name x DataLabel External data_is_no_extern)
made_grows p q new (ByExtern x n c d e) name External = with_last name x n p.externs q.externs External e

-- each of the new names is new, and right
abbrev pub AllFresh : Parts → List (Names × Made) → Type 0
AllFresh p [] = Unit {0}
AllFresh p (x ∷ xs) = (IsTaken p x.0 → ⊥) × AllFresh p xs

abbrev pub AnyTaken : Parts → List (Names × Made) → Type 0
AnyTaken p [] = ⊥
AnyTaken p (x ∷ xs) = IsTaken p x.0 ⊎ AnyTaken p xs

abbrev pub AllNames : List (Names × Made) → Type 0
AllNames [] = Unit {0}
AllNames (x ∷ xs) = IsName x.0 × AllNames xs

pub all_fresh : (p : Parts) (d : Bool) (l : Line) → (MakesTaken p l → ⊥) → AllFresh p (makes d (Some l))
all_fresh p d line.Nothing h = tt
all_fresh p d (line.Pace n) h = tt
all_fresh p d (line.Extern name n) h = (h, tt)
all_fresh p d line.Text h = tt
all_fresh p d line.Data h = tt
all_fresh p d (line.Export name) h = tt
all_fresh p d (line.Label name) h = (h, tt)
all_fresh p d (line.Datum s) h = tt
all_fresh p d (line.Op i) h = tt

pub any_taken : (p : Parts) (d : Bool) (l : Line) → MakesTaken p l → AnyTaken p (makes d (Some l))
any_taken p d line.Nothing h = h
any_taken p d (line.Pace n) h = h
any_taken p d (line.Extern name n) h = inl h
any_taken p d line.Text h = h
any_taken p d line.Data h = h
any_taken p d (line.Export name) h = h
any_taken p d (line.Label name) h = inl h
any_taken p d (line.Datum s) h = h
any_taken p d (line.Op i) h = h

pub all_names : (d : Bool) (l : Line) → RightLine l → AllNames (makes d (Some l))
all_names d line.Nothing h = tt
all_names d (line.Pace n) h = tt
all_names d (line.Extern name n) h = (h.0, tt)
all_names d line.Text h = tt
all_names d line.Data h = tt
all_names d (line.Export name) h = tt
all_names d (line.Label name) h = (h, tt)
all_names d (line.Datum s) h = tt
all_names d (line.Op i) h = tt

-- a new name among those that were there
pub data Put (p q : Parts) : List (Names × Made) → Type 0 where
  Stays : names_made q ≡ names_made p → Put p q []
  Comes : (xs ys : Places) (name : Names) (at : ℕ) (m : Made) → names_made p ≡ xs ++ ys → names_made q ≡ xs ++ (name, at) ∷ ys → Put p q ((name, m) ∷ [])

row_same : (c d e x y z : Places) → x ≡ c → y ≡ d → z ≡ e → (x ++ y) ++ z ≡ (c ++ d) ++ e
row_same c d e x y z h k l = ap (λ (t : Places). (t ++ y) ++ z) h ∙ ap (λ (t : Places). (c ++ t) ++ z) k ∙ ap (λ (t : Places). (c ++ d) ++ t) l

row_code : (c d e x y z : Places) (n : Names × ℕ) → x ≡ c ++ n ∷ [] → y ≡ d → z ≡ e → (x ++ y) ++ z ≡ c ++ n ∷ (d ++ e)
row_code c d e x y z n h k l = row_same (c ++ n ∷ []) d e x y z h k l ∙ append_assoc (c ++ n ∷ []) d e ∙ append_assoc c (n ∷ []) (d ++ e)

row_data : (c d e x y z : Places) (n : Names × ℕ) → x ≡ c → y ≡ d ++ n ∷ [] → z ≡ e → (x ++ y) ++ z ≡ (c ++ d) ++ n ∷ e
row_data c d e x y z n h k l = row_same c (d ++ n ∷ []) e x y z h k l ∙ ap (λ (t : Places). t ++ e) (sym (append_assoc c d (n ∷ []))) ∙ append_assoc (c ++ d) (n ∷ []) e

row_extern : (c d e x y z : Places) (n : Names × ℕ) → x ≡ c → y ≡ d → z ≡ e ++ n ∷ [] → (x ++ y) ++ z ≡ ((c ++ d) ++ e) ++ n ∷ []
row_extern c d e x y z n h k l = row_same c d (e ++ n ∷ []) x y z h k l ∙ sym (append_assoc (c ++ d) e (n ∷ []))

pub put : (p q : Parts) (new : List (Names × Made)) → NamesGrow p q new → Put p q new
put p q new (Same c d e) = Stays (row_same (codes_of p) (datas_of p) p.externs (codes_of q) (datas_of q) q.externs c d e)
put p q new (ByCode x at c d e) = Comes (codes_of p) (datas_of p ++ p.externs) x at CodeLabel (append_assoc (codes_of p) (datas_of p) p.externs) (row_code (codes_of p) (datas_of p) p.externs (codes_of q) (datas_of q) q.externs (x, at) c d e)
put p q new (ByData x at c d e) = Comes (codes_of p ++ datas_of p) p.externs x at DataLabel refl (row_data (codes_of p) (datas_of p) p.externs (codes_of q) (datas_of q) q.externs (x, at) c d e)
put p q new (ByExtern x n c d e) = Comes ((codes_of p ++ datas_of p) ++ p.externs) [] x n External (sym (append-nil (names_made p))) (row_extern (codes_of p) (datas_of p) p.externs (codes_of q) (datas_of q) q.externs (x, n) c d e)

pub differ_grows : (p q : Parts) (new : List (Names × Made)) → Put p q new → AllFresh p new → Differ (names_made p) → Differ (names_made q)
differ_grows p q new (Stays e) fresh h = subst Differ (sym e) h
differ_grows p q new (Comes xs ys name at m e k) fresh h = subst Differ (sym k) (differ_with xs ys (name, at) (λ t. fresh.0 (inl (subst (IsPlaced name) (sym e) t))) (subst Differ e h))

all_put : (P : Names × ℕ → Type 0) (xs ys : Places) (n : Names × ℕ) → P n → AllOf P (xs ++ ys) → AllOf P (xs ++ n ∷ ys)
all_put P xs ys n h k = all_both P xs (n ∷ ys) (all_front P xs ys k) (h, all_back P xs ys k)

pub made_right_grows : (p q : Parts) (new : List (Names × Made)) → Put p q new → AllFresh p new → AllNames new → AllOf IsMade (names_made p) → AllOf IsMade (names_made q)
made_right_grows p q new (Stays e) fresh named h = subst (AllOf IsMade) (sym e) h
made_right_grows p q new (Comes xs ys name at m e k) fresh named h = subst (AllOf IsMade) (sym k) (all_put IsMade xs ys (name, at) (named.0, λ s. fresh.0 (inr s)) (subst (AllOf IsMade) e h))

-- a name that was taken does not come again
clash : (p : Parts) (xs ys : Places) (name : Names) (at : ℕ) → names_made p ≡ xs ++ ys → Differ (xs ++ (name, at) ∷ ys) → AllOf IsMade (xs ++ (name, at) ∷ ys) → IsTaken p name → ⊥
clash p xs ys name at e h k (inl t) = differ_without xs ys (name, at) h (subst (IsPlaced name) e t)
clash p xs ys name at e h k (inr s) = (placed_made name (xs ++ (name, at) ∷ ys) k (placed_right name xs ((name, at) ∷ ys) (inl refl))).1 s

first_taken : (p : Parts) (name : Names) (m : Made) → AnyTaken p ((name, m) ∷ []) → IsTaken p name
first_taken p name m (inl h) = h
first_taken p name m (inr h) = absurd h

pub taken_clashes : (p q : Parts) (new : List (Names × Made)) → Put p q new → AnyTaken p new → Differ (names_made q) → AllOf IsMade (names_made q) → ⊥
taken_clashes p q new (Stays e) t h k = t
taken_clashes p q new (Comes xs ys name at m e f) t h k = clash p xs ys name at e (subst Differ f h) (subst (AllOf IsMade) f k) (first_taken p name m t)
