-- A line is judged by what the table tells and by what is kept.
use Rattle.std.proofs.Common.{◌≡◌, ◌⊎◌, ℕ, ◌+◌, ◌≤◌, ◌<◌, List, [], ◌∷◌, ◌++◌, refl, sym, ◌∙◌, ap, subst, inl, inr, Bool, true, false, cond, Option, Some, None, arith}
use Rattle.std.specs.Prelude.{◌↔◌, IsTrue, MatchOption, Result, Ok, Err, IfOk, nat_eq}
use Rattle.std.specs.Cmp.Lexicographic.{pointwise}
use Rattle.std.proofs.lemmas.Bool.{false≢true}
use Rattle.std.proofs.lemmas.Slice.Eq.{bytes_eq-Decides}
use Rattle.indexmap.specs.IndexSet.{contains}
use Rattle.tso_core.specs.Systems.{Names, Places}
use Rattle.x86_lang.specs.declared.assembly.CodeLine.TheVariants as code
use Rattle.x86_lang.specs.declared.assembly.StaticLine.{StaticLine}
use Rattle.x86_lang.specs.declared.assembly.StaticLine.TheVariants as statics
use Rattle.x86_lang.specs.declared.assembly.Parts.{Parts}
use Rattle.x86_lang.specs.Assembly.{code_start, data_start, heap_start, code_end, data_end}
use Rattle.x86_lang.specs.Whole.{IsPlaced, IsAlignment, names_made}
use Rattle.x86_text.specs.declared.line.Line.{Line}
use Rattle.x86_text.specs.declared.line.Line.TheVariants as line
use Rattle.x86_text.specs.declared.assembling.Assembling.{Assembling}
use Rattle.x86_text.specs.Text.{Gathered, adds}
use Rattle.x86_text.specs.Gathering.{gathered_of}
use Rattle.x86_text.specs.Bad.{Made, makes, IsTaken, MakesTaken, IsTooLong}
use Rattle.x86_text.specs.Naming.{Look, is_service, line_named}
use Rattle.x86_text.specs.Judging.{Among, among, IsSaid, made_name, TakesMade, op_count, datum_size, IsKept, IsGrown, Grows, BadBy, IsJudged, Judges}
use Rattle.x86_text.proofs.Placed.{placed_left, placed_right, placed_split}
use Rattle.x86_text.proofs.Growing
use Rattle.x86_text.proofs.Growing.{Grown, grown, RightLine, names_grow, Put, Stays, Comes, put, code_end_both, data_end_both}
use Rattle.x86_text.proofs.Ranged.{says_right}
use Rattle.x86_text.proofs.Told.{is_served}

-- the names behind a line
abbrev Gains : Among → Among → List (Names × Made) → Type 0
Gains before behind [] = (q : Names) → behind q ≡ before q
Gains before behind (x ∷ xs) = (q : Names) → behind q ≡ cond (pointwise nat_eq x.0 q) true (before q)

gains_of : (before behind : Among) (d : Bool) (l : Line) → TakesMade true before (made_name l) behind → Gains before behind (makes d (Some l))
gains_of before behind d line.Nothing h = h.1
gains_of before behind d (line.Pace n) h = h.1
gains_of before behind d (line.Extern name n) h = h.2
gains_of before behind d line.Text h = h.1
gains_of before behind d line.Data h = h.1
gains_of before behind d (line.Export name) h = h.1
gains_of before behind d (line.Label name) h = h.2
gains_of before behind d (line.Datum s) h = h.1
gains_of before behind d (line.Op i) h = h.1

-- a name among those in the middle of a list
not_name : (q name : Names) (at : ℕ) (xs ys : Places) → (q ≡ name → ⊥) → IsPlaced q xs ⊎ IsPlaced q ((name, at) ∷ ys) → IsPlaced q (xs ++ ys)
not_name q name at xs ys apart (inl h) = placed_left q xs ys h
not_name q name at xs ys apart (inr (inl e)) = absurd (apart e)
not_name q name at xs ys apart (inr (inr h)) = placed_right q xs ys h

in_wider : (q name : Names) (at : ℕ) (xs ys : Places) → IsPlaced q xs ⊎ IsPlaced q ys → IsPlaced q (xs ++ (name, at) ∷ ys)
in_wider q name at xs ys (inl h) = placed_left q xs ((name, at) ∷ ys) h
in_wider q name at xs ys (inr h) = placed_right q xs ((name, at) ∷ ys) (inr h)

gained_at : (before : Among) (name q : Names) (at : ℕ) (xs ys : Places) (same : Bool) → pointwise nat_eq name q ≡ same → IsTrue (before q) ↔ IsPlaced q (xs ++ ys) → IsTrue (cond same true (before q)) ↔ IsPlaced q (xs ++ (name, at) ∷ ys)
gained_at before name q at xs ys true e h = (λ t. placed_right q xs ((name, at) ∷ ys) (inl (sym ((bytes_eq-Decides name q).0 e))), λ t. refl)
gained_at before name q at xs ys false e h =
    let apart : q ≡ name → ⊥ = λ k. false≢true (sym e ∙ (bytes_eq-Decides name q).1 (sym k)) in
    (λ t. in_wider q name at xs ys (placed_split q xs ys (h.0 t)), λ t. h.1 (not_name q name at xs ys apart (placed_split q xs ((name, at) ∷ ys) t)))

kept_names : (p q : Parts) (new : List (Names × Made)) (before behind : Among) → Put p q new → Gains before behind new → ((name : Names) → IsTrue (before name) ↔ IsPlaced name (names_made p)) → (name : Names) → IsTrue (behind name) ↔ IsPlaced name (names_made q)
kept_names p q new before behind (Stays e) gains h name = subst (λ (b : Bool). IsTrue b ↔ IsPlaced name (names_made q)) (sym (gains name)) (subst (λ (ps : Places). IsTrue (before name) ↔ IsPlaced name ps) (sym e) (h name))
kept_names p q new before behind (Comes xs ys x at m e f) gains h name =
    subst (λ (b : Bool). IsTrue b ↔ IsPlaced name (names_made q)) (sym (gains name))
    (subst (λ (ps : Places). IsTrue (cond (pointwise nat_eq x name) true (before name)) ↔ IsPlaced name ps) (sym f)
    (gained_at before x name at xs ys (pointwise nat_eq x name) refl (subst (λ (ps : Places). IsTrue (before name) ↔ IsPlaced name ps) e (h name))))

-- a name that was taken
taken_is_bad : (p : Parts) (before : Among) (name : Names) → ((q : Names) → IsTrue (before q) ↔ IsPlaced q (names_made p)) → (is_service name ≡ true) ⊎ (before name ≡ true) → IsTaken p name
taken_is_bad p before name h (inl s) = inr ((is_served name).0 s)
taken_is_bad p before name h (inr t) = inl ((h name).0 t)

taken_is_told : (p : Parts) (before : Among) (name : Names) → ((q : Names) → IsTrue (before q) ↔ IsPlaced q (names_made p)) → is_service name ≡ false → before name ≡ false → IsTaken p name → ⊥
taken_is_told p before name h s t (inl k) = false≢true (sym t ∙ (h name).1 k)
taken_is_told p before name h s t (inr k) = false≢true (sym s ∙ (is_served name).1 k)

line_is_new : (p : Parts) (before behind : Among) (l : Line) → ((q : Names) → IsTrue (before q) ↔ IsPlaced q (names_made p)) → TakesMade true before (made_name l) behind → MakesTaken p l → ⊥
line_is_new p before behind line.Nothing h t k = k
line_is_new p before behind (line.Pace n) h t k = k
line_is_new p before behind (line.Extern name n) h t k = taken_is_told p before name h t.0 t.1 k
line_is_new p before behind line.Text h t k = k
line_is_new p before behind line.Data h t k = k
line_is_new p before behind (line.Export name) h t k = k
line_is_new p before behind (line.Label name) h t k = taken_is_told p before name h t.0 t.1 k
line_is_new p before behind (line.Datum s) h t k = k
line_is_new p before behind (line.Op i) h t k = k

line_is_taken : (p : Parts) (before behind : Among) (l : Line) → ((q : Names) → IsTrue (before q) ↔ IsPlaced q (names_made p)) → TakesMade false before (made_name l) behind → MakesTaken p l
line_is_taken p before behind line.Nothing h t = absurd (false≢true t.0)
line_is_taken p before behind (line.Pace n) h t = absurd (false≢true t.0)
line_is_taken p before behind (line.Extern name n) h t = taken_is_bad p before name h t
line_is_taken p before behind line.Text h t = absurd (false≢true t.0)
line_is_taken p before behind line.Data h t = absurd (false≢true t.0)
line_is_taken p before behind (line.Export name) h t = absurd (false≢true t.0)
line_is_taken p before behind (line.Label name) h t = taken_is_bad p before name h t
line_is_taken p before behind (line.Datum s) h t = absurd (false≢true t.0)
line_is_taken p before behind (line.Op i) h t = absurd (false≢true t.0)

-- how the ends move
stays_put : (n : ℕ) → n ≡ n + 0
stays_put n = omega arith

code_moves : (g h : Gathered) (l : Line) → Grown g l h → code_end code_start h.parts.code ≡ code_end code_start g.parts.code + op_count l
code_moves g h l Growing.Nothing = stays_put (code_end code_start g.parts.code)
code_moves g h l (Growing.Pace n) = stays_put (code_end code_start g.parts.code)
code_moves g h l (Growing.Extern name n) = stays_put (code_end code_start g.parts.code)
code_moves g h l Growing.Text = stays_put (code_end code_start g.parts.code)
code_moves g h l Growing.Data = stays_put (code_end code_start g.parts.code)
code_moves g h l (Growing.Export name) = stays_put (code_end code_start g.parts.code)
code_moves g h l (Growing.InCode name e) = code_end_both code_start g.parts.code (code.Label name ∷ [])
code_moves g h l (Growing.InData name e) = stays_put (code_end code_start g.parts.code)
code_moves g h l (Growing.Datum s e) = stays_put (code_end code_start g.parts.code)
code_moves g h l (Growing.Op i e) = code_end_both code_start g.parts.code (code.Op i ∷ [])

data_moves : (g h : Gathered) (l : Line) → Grown g l h → data_end data_start h.parts.statics ≡ data_end data_start g.parts.statics + datum_size (data_end data_start g.parts.statics) l
data_moves g h l Growing.Nothing = stays_put (data_end data_start g.parts.statics)
data_moves g h l (Growing.Pace n) = stays_put (data_end data_start g.parts.statics)
data_moves g h l (Growing.Extern name n) = stays_put (data_end data_start g.parts.statics)
data_moves g h l Growing.Text = stays_put (data_end data_start g.parts.statics)
data_moves g h l Growing.Data = stays_put (data_end data_start g.parts.statics)
data_moves g h l (Growing.Export name) = stays_put (data_end data_start g.parts.statics)
data_moves g h l (Growing.InCode name e) = stays_put (data_end data_start g.parts.statics)
data_moves g h l (Growing.InData name e) = data_end_both data_start g.parts.statics (statics.Label name ∷ [])
data_moves g h l (Growing.Datum s e) = data_end_both data_start g.parts.statics (s ∷ [])
data_moves g h l (Growing.Op i e) = stays_put (data_end data_start g.parts.statics)

not_long : (p : Parts) (c s : ℕ) → c ≡ code_end code_start p.code → s ≡ data_end data_start p.statics → c ≤ data_start → s ≤ heap_start → IsTooLong p → ⊥
not_long p c s e f h k (inl t) = omega (arith, e, h, t)
not_long p c s e f h k (inr t) = omega (arith, f, k, t)

-- a good line
pub judged : (at : Look) (old mid new : Assembling) (l : Line) → IsKept old → IsSaid l → mid.gathering ≡ old.gathering → mid.code_end ≡ old.code_end → mid.data_end ≡ old.data_end → line_named at l ≡ true → TakesMade true (among old) (made_name l) (among mid) → IsGrown mid l new → IsJudged at old l new
judged at old mid new l kept said same same_code same_data named takes grows =
    let g = gathered_of old.gathering in
    let h = gathered_of new.gathering in
    let added : adds g l ≡ Some h = ap (λ x. adds (gathered_of x) l) (sym same) ∙ grows.added in
    let how : Grown g l h = grown g h l added in
    let right = says_right said.bytes l said.says in
    let gains = gains_of (among old) (among mid) g.in_data l takes in
    let names = kept_names g.parts h.parts (makes g.in_data (Some l)) (among old) (among mid) (put g.parts h.parts (makes g.in_data (Some l)) (names_grow g h l how right)) gains kept.names in
    let code_at : new.code_end ≡ code_end code_start h.parts.code = grows.code ∙ ap (λ (n : ℕ). n + op_count l) (same_code ∙ kept.code) ∙ sym (code_moves g h l how) in
    let data_at : new.data_end ≡ data_end data_start h.parts.statics = grows.statics ∙ ap (λ (n : ℕ). n + datum_size n l) (same_data ∙ kept.statics) ∙ sym (data_moves g h l how) in
    record {
      kept = record {
        names = λ name. subst (λ (b : Bool). IsTrue b ↔ IsPlaced name (names_made h.parts)) (ap (λ x. contains (pointwise nat_eq) x name) (sym grows.names)) (names name);
        code = code_at;
        statics = data_at;
        code_fits = grows.code_fits;
        data_fits = grows.data_fits;
      };
      fine = record {
        added = added;
        in_range = not_long h.parts new.code_end new.data_end code_at data_at grows.code_fits grows.data_fits;
        fresh = line_is_new g.parts (among old) (among mid) l kept.names takes;
        named = named;
      };
    }

-- a bad one
pub badly_named : (at : Look) (g : Gathered) (l : Line) → line_named at l ≡ false → BadBy at g l
badly_named at g l h = inr (inr h)

pub badly_made : (at : Look) (old : Assembling) (l : Line) (behind : Among) → IsKept old → TakesMade false (among old) (made_name l) behind → BadBy at (gathered_of old.gathering) l
badly_made at old l behind kept t = inr (inl (line_is_taken old.gathering.parts (among old) behind l kept.names t))

long_at : (g : Gathered) (l : Line) (c s : ℕ) (o : Option Gathered) → adds g l ≡ o → c ≡ code_end code_start g.parts.code → s ≡ data_end data_start g.parts.statics → MatchOption o (Unit {0}) (λ h. (data_start < c + op_count l) ⊎ (heap_start < s + datum_size s l)) → MatchOption o (Unit {0}) (λ h. IsTooLong h.parts)
long_at g l c s None e f k t = tt
long_at g l c s (Some h) e f k (inl t) = inl (subst (λ (n : ℕ). data_start < n) (ap (λ (n : ℕ). n + op_count l) f ∙ sym (code_moves g h l (grown g h l e))) t)
long_at g l c s (Some h) e f k (inr t) = inr (subst (λ (n : ℕ). heap_start < n) (ap (λ (n : ℕ). n + datum_size n l) k ∙ sym (data_moves g h l (grown g h l e))) t)

pub badly_grown : (at : Look) (old mid new : Assembling) (l : Line) → IsKept old → mid.gathering ≡ old.gathering → mid.code_end ≡ old.code_end → mid.data_end ≡ old.data_end → Grows false mid l new → BadBy at (gathered_of old.gathering) l
badly_grown at old mid new l kept same same_code same_data t =
    let g = gathered_of old.gathering in
    let here : MatchOption (adds g l) (Unit {0}) (λ h. (data_start < mid.code_end + op_count l) ⊎ (heap_start < mid.data_end + datum_size mid.data_end l)) = subst (λ x. MatchOption (adds (gathered_of x) l) (Unit {0}) (λ h. (data_start < mid.code_end + op_count l) ⊎ (heap_start < mid.data_end + datum_size mid.data_end l))) same t in
    inl (long_at g l mid.code_end mid.data_end (adds g l) refl (same_code ∙ kept.code) (same_data ∙ kept.statics) here)

judges_at : (at : Look) (old mid new : Assembling) (l : Line) (good : Bool) → IsKept old → IsSaid l → mid.gathering ≡ old.gathering → mid.code_end ≡ old.code_end → mid.data_end ≡ old.data_end → line_named at l ≡ true → TakesMade true (among old) (made_name l) (among mid) → Grows good mid l new → Judges good at old l new
judges_at at old mid new l true kept said same same_code same_data named takes grows = judged at old mid new l kept said same same_code same_data named takes grows
judges_at at old mid new l false kept said same same_code same_data named takes grows = badly_grown at old mid new l kept same same_code same_data grows

-- a line whose name was taken in, and that was added or not
pub judges : {E : Type 0} (at : Look) (old mid new : Assembling) (l : Line) (fresh : Bool) (r : Result Bool E) → IsKept old → IsSaid l → mid.gathering ≡ old.gathering → mid.code_end ≡ old.code_end → mid.data_end ≡ old.data_end → line_named at l ≡ true → fresh ≡ true → TakesMade fresh (among old) (made_name l) (among mid) → IfOk r (λ good. Grows good mid l new) → IfOk r (λ good. Judges good at old l new)
judges at old mid new l fresh (Ok good) kept said same same_code same_data named e takes grows = judges_at at old mid new l good kept said same same_code same_data named (subst (λ (b : Bool). TakesMade b (among old) (made_name l) (among mid)) e takes) grows
judges at old mid new l fresh (Err e) kept said same same_code same_data named is takes grows = tt

pub made_badly : (at : Look) (old : Assembling) (l : Line) (behind : Among) (fresh : Bool) → fresh ≡ false → IsKept old → TakesMade fresh (among old) (made_name l) behind → BadBy at (gathered_of old.gathering) l
made_badly at old l behind fresh e kept t = badly_made at old l behind kept (subst (λ (b : Bool). TakesMade b (among old) (made_name l) behind) e t)

-- the alignment of a directive
datum_aligned : (s : StaticLine) (l : Line) → l ≡ line.Datum s → RightLine l → IsAlignment s
datum_aligned s l e h = (subst RightLine e h).2

pub said_aligned : (l : Line) (s : StaticLine) → l ≡ line.Datum s → IsSaid l → IsAlignment s
said_aligned l s e said = datum_aligned s l e (says_right said.bytes l said.says)
