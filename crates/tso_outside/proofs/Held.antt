-- What a list of files holds after one of them is changed or a new one is put behind.
use Rattle.std.proofs.Common.{inl, inr, min, ◌-◌, ◌≡◌, ℕ, suc, ◌+◌, ◌<◌, ◌≤◌, List, [], ◌∷◌, ◌++◌, length, take, drop, get_or, set, refl, sym, ◌∙◌, ap, subst, Option, Some, None, String, Vec, string_bytes, Bool, true, false, cond, arith}
use Rattle.std.specs.Option.{ForSome}
use Rattle.std.specs.Prelude.{◌⊎◌, Result, Ok, Err, OnOk, OnErr, is_ok, bytes_eq}
use Rattle.std.proofs.lemmas.Bool.{cases_lt}
use Rattle.std.proofs.lemmas.Grind.{common_steps}
use Rattle.std.proofs.lemmas.List.{length-map, take_all, drop-drop, length-drop, take-append-drop, set_split, get_or-map, map-set, take_more, map-append}
use Rattle.std.proofs.Math.Seq.{drop-cons}
use Rattle.std.proofs.lemmas.Slice.Eq.{bytes_eq-Decides}
use Rattle.tso_outside.specs.Views.{Files, held, ReadsFrom, Spares, or_empty}
use Rattle.tso_outside.specs.Entries.{entry, entries, IsPlaceOf}

same_name : (a b : List ℕ) → a ≡ b → bytes_eq a b ≡ true
same_name a b e = (bytes_eq-Decides a b).1 e

not_name : (a b : List ℕ) (t : Bool) → bytes_eq a b ≡ t → (b ≡ a → ⊥) → t ≡ false
not_name a b true e ne = absurd (ne (sym ((bytes_eq-Decides a b).0 e)))
not_name a b false e ne = refl

pub held_here : (file : List ℕ × List ℕ) (files : Files) (name : List ℕ) → file.0 ≡ name → held (file ∷ files) name ≡ Some file.1
held_here file files name e = ap (λ t. cond t (Some file.1) (held files name)) (same_name file.0 name e)

pub held_past : (file : List ℕ × List ℕ) (files : Files) (name : List ℕ) → (name ≡ file.0 → ⊥) → held (file ∷ files) name ≡ held files name
held_past file files name ne = ap (λ t. cond t (Some file.1) (held files name)) (not_name file.0 name (bytes_eq file.0 name) refl ne)

skip_one : (file : List ℕ × List ℕ) (files more : Files) (name : List ℕ) (t : Bool) → (held files name ≡ None → held (files ++ more) name ≡ held more name) → cond t (Some file.1) (held files name) ≡ None → cond t (Some file.1) (held (files ++ more) name) ≡ held more name
skip_one file files more name true rest none = cc
skip_one file files more name false rest none = rest none

pub held_skip : (files more : Files) (name : List ℕ) → held files name ≡ None → held (files ++ more) name ≡ held more name
held_skip [] more name none = refl
held_skip (file ∷ files) more name none = skip_one file files more name (bytes_eq file.0 name) (held_skip files more name) none

pub held_spare : (files more : Files) (f g : List ℕ × List ℕ) (name other : List ℕ) → f.0 ≡ name → g.0 ≡ name → (other ≡ name → ⊥) → held (files ++ g ∷ more) other ≡ held (files ++ f ∷ more) other
held_spare [] more f g name other ef eg ne = held_past g more other (λ e. ne (e ∙ eg)) ∙ sym (held_past f more other (λ e. ne (e ∙ ef)))
held_spare (file ∷ files) more f g name other ef eg ne = ap (λ r. cond (bytes_eq file.0 other) (Some file.1) r) (held_spare files more f g name other ef eg ne)

pub held_new : (files : Files) (g : List ℕ × List ℕ) (other : List ℕ) → (other ≡ g.0 → ⊥) → held (files ++ g ∷ []) other ≡ held files other
held_new [] g other ne = held_past g [] other ne
held_new (file ∷ files) g other ne = ap (λ r. cond (bytes_eq file.0 other) (Some file.1) r) (held_new files g other ne)

split_at : (files : Files) (i : ℕ) → i < length files → files ≡ take i files ++ get_or files i ([], []) ∷ drop (suc i) files
split_at files i lt = grind (arith, common_steps, drop-cons files i ([], []), take-append-drop i files)

pub found : (files : Files) (name : List ℕ) (i : ℕ) → IsPlaceOf files name i → held files name ≡ Some (get_or files i ([], [])).1
found files name i p =
    let P : Files → Type 0 = λ fs. held fs name ≡ Some (get_or files i ([], [])).1 in
    subst P (sym (split_at files i p.within)) (held_skip (take i files) _ name p.before ∙ held_here (get_or files i ([], [])) _ name p.here)

pub changed : (files : Files) (name : List ℕ) (i : ℕ) (g : List ℕ × List ℕ) → IsPlaceOf files name i → g.0 ≡ name → held (set files i g) name ≡ Some g.1
changed files name i g p e =
    let P : Files → Type 0 = λ fs. held fs name ≡ Some g.1 in
    subst P (sym (set_split files i g p.within)) (held_skip (take i files) _ name p.before ∙ held_here g _ name e)

pub spared : (files : Files) (name : List ℕ) (i : ℕ) (g : List ℕ × List ℕ) → IsPlaceOf files name i → g.0 ≡ name → Spares name files (set files i g)
spared files name i g p e other ne =
    ap (λ fs. held fs other) (set_split files i g p.within)
    ∙ held_spare (take i files) (drop (suc i) files) (get_or files i ([], [])) g name other p.here e ne
    ∙ sym (ap (λ fs. held fs other) (split_at files i p.within))

module _ {Y Z : Type 0} (items : List (String Y × Vec ℕ Z)) (name : List ℕ) (i : ℕ) (x : String Y × Vec ℕ Z) (place : IsPlaceOf (entries items) name i) (is : x ≡ get_or items i x) where
  at_place : get_or (entries items) i ([], []) ≡ entry x
  at_place = let lt : i < length items = subst (λ n. i < n) (length-map items entry) place.within in get_or-map entry items i x ([], []) lt ∙ ap entry (sym is)

  named : string_bytes x.0 ≡ name
  named = sym (ap (λ (f : List ℕ × List ℕ). f.0) at_place) ∙ place.here

  pub put_spares : (y : String Y × Vec ℕ Z) → string_bytes y.0 ≡ string_bytes x.0 → Spares name (entries items) (entries (set items i y))
  put_spares y e other ne = ap (λ fs. held fs other) (map-set entry items i y) ∙ spared (entries items) name i (entry y) place (e ∙ named) other ne

  pub put_here : (y : String Y × Vec ℕ Z) → string_bytes y.0 ≡ string_bytes x.0 → held (entries (set items i y)) name ≡ Some y.1.items
  put_here y e = ap (λ fs. held fs name) (map-set entry items i y) ∙ changed (entries items) name i (entry y) place (e ∙ named)

  pub found_at : held (entries items) name ≡ Some x.1.items
  found_at = found (entries items) name i place ∙ ap (λ (f : List ℕ × List ℕ). Some f.1) at_place

pub added_spares : {Y Z : Type 0} (items : List (String Y × Vec ℕ Z)) (y : String Y × Vec ℕ Z) (name : List ℕ) → string_bytes y.0 ≡ name → Spares name (entries items) (entries (items ++ y ∷ []))
added_spares items y name e other ne = ap (λ fs. held fs other) (map-append entry items (y ∷ [])) ∙ held_new (entries items) (entry y) other (λ h. ne (h ∙ e))

pub added_here : {Y Z : Type 0} (items : List (String Y × Vec ℕ Z)) (y : String Y × Vec ℕ Z) (name : List ℕ) → string_bytes y.0 ≡ name → held (entries items) name ≡ None → held (entries (items ++ y ∷ [])) name ≡ Some y.1.items
added_here items y name e none = ap (λ fs. held fs name) (map-append entry items (y ∷ [])) ∙ held_skip (entries items) (entry y ∷ []) name none ∙ held_here (entry y) [] name e

-- what a call that puts a piece behind a file's bytes leaves there
pub longer_ok : {T E : Type 0} (r : Result T E) (old new piece : List ℕ) (was now : Option (List ℕ)) → new ≡ cond (is_ok r) (old ++ piece) old → now ≡ Some new → was ≡ Some old → OnOk r (now ≡ Some (or_empty was ++ piece))
longer_ok (Ok x) old new piece was now e en ew = en ∙ ap Some e ∙ ap (λ w. Some (or_empty w ++ piece)) (sym ew)
longer_ok (Err x) old new piece was now e en ew = tt

pub longer_err : {T E : Type 0} (r : Result T E) (old new piece : List ℕ) (was now : Option (List ℕ)) → new ≡ cond (is_ok r) (old ++ piece) old → now ≡ Some new → was ≡ Some old → OnErr r (now ≡ was)
longer_err (Ok x) old new piece was now e en ew = tt
longer_err (Err x) old new piece was now e en ew = en ∙ ap Some e ∙ sym ew

-- a loop over the files that looks for a name
pub none_more : {Y Z : Type 0} (items : List (String Y × Vec ℕ Z)) (name : List ℕ) (i : ℕ) (x : String Y × Vec ℕ Z) → i < length items → x ≡ get_or items i x → bytes_eq (string_bytes x.0) name ≡ false → held (take i (entries items)) name ≡ None → held (take (i + 1) (entries items)) name ≡ None
none_more items name i x lt is differs none =
    let lt2 : i < length (entries items) = subst (λ n. i < n) (sym (length-map items entry)) lt in
    let at : get_or (entries items) i ([], []) ≡ entry x = get_or-map entry items i x ([], []) lt ∙ ap entry (sym is) in
    ap (λ fs. held fs name) (take_more (entries items) i ([], []) lt2)
    ∙ held_skip (take i (entries items)) (get_or (entries items) i ([], []) ∷ []) name none
    ∙ ap (λ f. held (f ∷ []) name) at
    ∙ ap (λ t. cond t (Some x.1.items) None) differs

pub is_place : {Y Z : Type 0} (items : List (String Y × Vec ℕ Z)) (name : List ℕ) (i : ℕ) (x : String Y × Vec ℕ Z) → i < length items → x ≡ get_or items i x → bytes_eq (string_bytes x.0) name ≡ true → held (take i (entries items)) name ≡ None → IsPlaceOf (entries items) name i
is_place items name i x lt is same none = record {
  within = subst (λ n. i < n) (sym (length-map items entry)) lt;
  before = none;
  here = ap (λ (f : List ℕ × List ℕ). f.0) (get_or-map entry items i x ([], []) lt ∙ ap entry (sym is)) ∙ (bytes_eq-Decides (string_bytes x.0) name).0 same;
}

pub none_at_all : {Y Z : Type 0} (items : List (String Y × Vec ℕ Z)) (name : List ℕ) (i : ℕ) → length items ≤ i → held (take i (entries items)) name ≡ None → held (entries items) name ≡ None
none_at_all items name i le none = ap (λ fs. held fs name) (sym (take_all i (entries items) (subst (λ n. n ≤ i) (sym (length-map items entry)) le))) ∙ none

at_end : (new bytes source : List ℕ) (from n : ℕ) → source ≡ drop from bytes → (n ≡ 0 → (length new ≡ 0) ⊎ (length source ≡ 0)) → n ≡ 0 → (length new ≡ 0) ⊎ (length bytes ≤ from)
at_end new bytes source from n is none zero = elim (none zero) [ inl a ↦ inl a | inr b ↦ let e : length bytes - from ≡ 0 = sym (length-drop from bytes) ∙ ap length (sym is) ∙ b in inr (omega arith) ]

pub reads_bytes : (bytes new source : List ℕ) (from n : ℕ) → source ≡ drop from bytes → source ≡ take n new ++ drop n source → (n ≡ 0 → (length new ≡ 0) ⊎ (length source ≡ 0)) → ReadsFrom (Some bytes) from new (Ok n)
reads_bytes bytes new source from n is front none =
    let whole : drop from bytes ≡ take n new ++ drop (from + n) bytes = sym is ∙ front ∙ ap (λ s. take n new ++ drop n s) is ∙ ap (λ s. take n new ++ s) (drop-drop n from bytes) in
    (whole, at_end new bytes source from n is none)

pub reads : (files : Files) (name bytes new source : List ℕ) (from n : ℕ) → held files name ≡ Some bytes → source ≡ drop from bytes → source ≡ take n new ++ drop n source → (n ≡ 0 → (length new ≡ 0) ⊎ (length source ≡ 0)) → ForSome (Some files) (λ fs. ReadsFrom (held fs name) from new (Ok n))
reads files name bytes new source from n has is front none fs e =
    let same : files ≡ fs = cc in
    let P : Option (List ℕ) → Type 0 = λ o. ReadsFrom o from new (Ok n) in
    subst P (sym has ∙ ap (λ gs. held gs name) same) (reads_bytes bytes new source from n is front none)

-- nothing is read only into no room or at the end
pub none_taken : (new source : List ℕ) (most n : ℕ) → 0 < most → n ≡ min most (min (length new) (length source)) → n ≡ 0 → (length new ≡ 0) ⊎ (length source ≡ 0)
none_taken new source most n some count zero = elim (cases_lt 0 (length new)) [
  | inl room ↦ inr (omega arith)
  | inr none ↦ inl (omega arith)
]

-- nothing is read only into no room or at the end, where all that is left is offered
pub none_offered : (new source : List ℕ) (n : ℕ) → n ≡ min (length source) (min (length new) (length source)) → n ≡ 0 → (length new ≡ 0) ⊎ (length source ≡ 0)
none_offered new source n count zero = elim (cases_lt 0 (length new)) [
  | inl room ↦ inr (omega arith)
  | inr none ↦ inl (omega arith)
]
