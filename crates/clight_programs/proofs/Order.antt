-- Functions in the order of names, their names, and main among them.
use Rattle.std.proofs.Common.{◌≡◌, ℕ, ◌+◌, ◌<◌, ◌≤◌, Bool, true, false, cond, ◌&&◌, List, [], ◌∷◌, ◌++◌, length, map, get_or, drop, take, find, nat_eq, Option, Some, None, refl, sym, ap, ◌∙◌, append_assoc, eq-eqb}
use Rattle.std.specs.Option.{option_map}
use Rattle.std.specs.Global.{Global}
use Rattle.std.specs.declared.rc.Rc.{Rc}
use Rattle.std.specs.Map.{lookup}
use Rattle.std.proofs.lemmas.List.{take_more, take_all}
use Rattle.clight_lang.specs.declared.function.Function.{Function}
use Rattle.clight_lang.specs.State.{FunctionOf, function_of, functions_of}
use Rattle.clight_types.specs.Types.{Spelling, same_name}
use Rattle.clight_types.proofs.Entries.{same_name_is}
use Rattle.clight_globals.specs.Globals.{main_name}
use Rattle.clight_meaning.specs.Meaning.{main_of}
use Rattle.clight_programs.specs.ProgramsOf.{table_of, shared_function, found_in, in_order}
use Rattle.clight_programs.proofs.Walks.{at_front, past_end, pushed, append_end, map_push}

abbrev Shared : Type 0
Shared = Rc Function Global

seen : (k : Spelling) (es : List (Spelling × Shared)) → lookup (same_name k) (table_of es) ≡ option_map (λ (r : Shared). function_of r.value) (lookup (same_name k) es)
seen k [] = refl
seen k (e ∷ es) = by (same_name k e.0) (seen k es)
  where
    by : (b : Bool) → lookup (same_name k) (table_of es) ≡ option_map (λ (r : Shared). function_of r.value) (lookup (same_name k) es) → cond b (Some (function_of e.1.value)) (lookup (same_name k) (table_of es)) ≡ option_map (λ (r : Shared). function_of r.value) (cond b (Some e.1) (lookup (same_name k) es))
    by true h = refl
    by false h = h

pub found_put : (now new : List Shared) (o : Option Shared) (f r : Shared) → o ≡ Some r → f.value ≡ r.value → new ≡ now ++ f ∷ [] → functions_of new ≡ functions_of now ++ found_in (shared_function o)
found_put now new o f r found same step =
    ap functions_of step ∙ map_push (λ (g : Shared). function_of g.value) now f
    ∙ ap (λ v. functions_of now ++ function_of v ∷ []) same
    ∙ sym (ap (λ (x : Option Shared). functions_of now ++ found_in (shared_function x)) found)

pub none_put : (now : List Shared) (o : Option Shared) → o ≡ None → functions_of now ≡ functions_of now ++ found_in (shared_function o)
none_put now o none = sym (append_end (functions_of now)) ∙ sym (ap (λ (x : Option Shared). functions_of now ++ found_in (shared_function x)) none)

pub order_next : (es : List (Spelling × Shared)) (now new : List Shared) (o : Option Shared) (name : Spelling) (left rest : List Spelling) (all : List FunctionOf) → left ≡ name ∷ rest → o ≡ lookup (same_name name) es → functions_of new ≡ functions_of now ++ found_in (shared_function o) → functions_of now ++ in_order (table_of es) left ≡ all → functions_of new ++ in_order (table_of es) rest ≡ all
order_next es now new o name left rest all front found step known =
    ap (λ l. l ++ in_order (table_of es) rest) (step ∙ ap (λ (x : Option Shared). functions_of now ++ found_in (shared_function x)) found)
    ∙ append_assoc (functions_of now) (found_in (shared_function (lookup (same_name name) es))) (in_order (table_of es) rest)
    ∙ sym (ap (λ x. functions_of now ++ (found_in x ++ in_order (table_of es) rest)) (seen name es))
    ∙ sym (ap (λ l. functions_of now ++ in_order (table_of es) l) front)
    ∙ known

pub order_end : (es : List (Spelling × Shared)) (now : List Shared) (left : List Spelling) (all : List FunctionOf) → left ≡ [] → functions_of now ++ in_order (table_of es) left ≡ all → functions_of now ≡ all
order_end es now left all none known = sym (append_end (functions_of now)) ∙ sym (ap (λ l. functions_of now ++ in_order (table_of es) l) none) ∙ known

-- ## Names

pub names_next : (now new : List Spelling) (list : List Shared) (i : ℕ) (x : Shared) (name : Spelling) → i < length list → x ≡ get_or list i x → name ≡ x.value.name → new ≡ now ++ name ∷ [] → now ≡ map (λ (f : FunctionOf). f.name) (functions_of (take i list)) → new ≡ map (λ (f : FunctionOf). f.name) (functions_of (take (i + 1) list))
names_next now new list i x name within is same step known =
    step ∙ ap (λ l. l ++ name ∷ []) known
    ∙ ap (λ n. map (λ (f : FunctionOf). f.name) (functions_of (take i list)) ++ n ∷ []) same
    ∙ sym (map_push (λ (f : FunctionOf). f.name) (functions_of (take i list)) (function_of x.value))
    ∙ sym (ap (map (λ (f : FunctionOf). f.name)) (map_push (λ (g : Shared). function_of g.value) (take i list) x))
    ∙ sym (ap (λ (l : List Shared). map (λ (f : FunctionOf). f.name) (functions_of l)) (take_more list i x within ∙ ap (λ y. take i list ++ y ∷ []) (sym is)))

pub names_end : (now : List Spelling) (list : List Shared) (i : ℕ) → length list ≤ i → now ≡ map (λ (f : FunctionOf). f.name) (functions_of (take i list)) → now ≡ map (λ (f : FunctionOf). f.name) (functions_of list)
names_end now list i past known = known ∙ ap (λ (l : List Shared). map (λ (f : FunctionOf). f.name) (functions_of l)) (take_all i list past)

-- ## main

name_self : (name : Spelling) → same_name name name ≡ true
name_self [] = refl
name_self (x ∷ xs) = ap (λ b. b && same_name xs xs) (eq-eqb x x refl) ∙ name_self xs

name_other : (a b : Spelling) → (a ≡ b → ⊥) → same_name a b ≡ false
name_other a b h = by (same_name a b) refl
  where
    by : (c : Bool) → same_name a b ≡ c → c ≡ false
    by true e = absurd (h (same_name_is a b e))
    by false e = refl

main_at : (list : List Shared) (i : ℕ) (x : Shared) (all : Option FunctionOf) → i < length list → x ≡ get_or list i x → main_of (functions_of (drop i list)) ≡ all → cond (same_name x.value.name main_name) (Some (function_of x.value)) (main_of (functions_of (drop (i + 1) list))) ≡ all
main_at list i x all within is known = sym (ap (λ (l : List Shared). main_of (functions_of l)) (at_front list i x within is)) ∙ known

pub main_here : (list : List Shared) (i : ℕ) (x y : Shared) (name : Spelling) (all : Option FunctionOf) → i < length list → x ≡ get_or list i x → name ≡ main_name → x.value.name ≡ name → y.value ≡ x.value → main_of (functions_of (drop i list)) ≡ all → all ≡ Some (function_of y.value)
main_here list i x y name all within is main same again known =
    sym (main_at list i x all within is known)
    ∙ ap (λ b. cond b (Some (function_of x.value)) (main_of (functions_of (drop (i + 1) list)))) (ap (λ n. same_name n main_name) (same ∙ main) ∙ name_self main_name)
    ∙ sym (ap (λ v. Some (function_of v)) again)

pub main_behind : (list : List Shared) (i : ℕ) (x : Shared) (name : Spelling) (all : Option FunctionOf) → i < length list → x ≡ get_or list i x → name ≡ main_name → (x.value.name ≡ name → ⊥) → main_of (functions_of (drop i list)) ≡ all → main_of (functions_of (drop (i + 1) list)) ≡ all
main_behind list i x name all within is main other known =
    sym (ap (λ b. cond b (Some (function_of x.value)) (main_of (functions_of (drop (i + 1) list)))) (name_other x.value.name main_name (λ e. other (e ∙ sym main))))
    ∙ main_at list i x all within is known
