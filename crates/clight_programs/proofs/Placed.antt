-- What a function means by what the code finds of it, and the table of the functions by their names.
use Rattle.std.proofs.Common.{◌≡◌, ℕ, ◌-◌, Bool, true, false, cond, List, [], ◌∷◌, ◌++◌, length, map, refl, sym, ap, subst, ◌∙◌}
use Rattle.std.specs.Prelude.{Result, Ok, Err, IfOk, OnOk, unwrap_or, slice_get}
use Rattle.std.specs.Global.{Global}
use Rattle.std.specs.declared.rc.Rc.{Rc}
use Rattle.clight_lang.specs.declared.function.Function.{Function}
use Rattle.clight_lang.specs.State.{FunctionOf, function_of}
use Rattle.clight_types.specs.Types.{Types, Spelling, is_scalar}
use Rattle.clight_placing.specs.declared.inner.Location as L
use Rattle.clight_placing.specs.InnerOf.{location_of, location_in}
use Rattle.clight_placing.specs.Placing.{Inner, InTemp, InMemory, number_of_type}
use Rattle.clight_files.specs.Files.{FunctionMade}
use Rattle.clight_files.specs.FilesOf.{function_made_of, functions_of}
use Rattle.clight_files.specs.declared.made.FunctionMade as M
use Rattle.clight_meaning.specs.Counts.{SizeOf}
use Rattle.clight_counts.specs.declared.sizes.Sizes.{Sizes}
use Rattle.clight_counts.specs.CountsOf.{size_in}
use Rattle.clight_counts.specs.First.{with_first, firsts}
use Rattle.clight_counts.proofs.Firsts.{seen_first}
use Rattle.clight_programs.specs.Locals.{marks_of, located}
use Rattle.clight_programs.specs.ProgramsOf.{inner_with, function_placed, function_with, function_entry, function_table, table_of}
use Rattle.clight_programs.proofs.Marks.{inner_found, inner_is}

pub meant_by : {E : Type 0} (r : Result Function E) (types : Types) (ts : List ℕ) (y z : SizeOf) (f : FunctionMade) (ls : List L.Location) → is_scalar types 0 ≡ false → map location_of ls ≡ located 0 0 (marks_of types f) → y ≡ z
    → IfOk r (λ g. function_of g ≡ function_placed (inner_found types ts ls) y f) → IfOk r (λ g. function_of g ≡ function_with types ts z f)
meant_by r types ts y z f ls none are same h =
    subst (λ x. IfOk r (λ (g : Function). function_of g ≡ x))
    (ap (λ w. function_placed w y f) (inner_is types ts f ls none are) ∙ ap (λ x. function_placed (inner_with types ts f) x f) same) h

pub function_put : (types : Types) (ts : List ℕ) (s : Sizes) (x : FunctionMade) (now new : List (Spelling × Rc Function Global)) (name : Spelling) (r : Rc Function Global) → (name, function_of r.value) ≡ function_entry types ts s x → new ≡ with_first now (name, r) → table_of new ≡ with_first (table_of now) (function_entry types ts s x)
function_put types ts s x now new name r is step = ap table_of step ∙ seen_first (λ (r : Rc Function Global). function_of r.value) now (name, r) ∙ ap (with_first (table_of now)) is

pub put_entry : {A E : Type 0} (o : Result A E) (types : Types) (ts : List ℕ) (s : Sizes) (x : FunctionMade) (now new : List (Spelling × Rc Function Global)) (name : Spelling) (r : Rc Function Global)
    → name ≡ x.name → function_of r.value ≡ function_with types ts (size_in s types x.name x.type) x → OnOk o (new ≡ with_first now (name, r)) → OnOk o (table_of new ≡ with_first (table_of now) (function_entry types ts s x))
put_entry (Ok a) types ts s x now new name r named is h = function_put types ts s x now new name r (λ i. (named i, is i)) h
put_entry (Err e) types ts s x now new name r named is h = tt

pub table_next : (types : Types) (ts : List ℕ) (s : Sizes) (now new : List (Spelling × FunctionOf)) (x : M.FunctionMade) (left rest : List M.FunctionMade) (all : List (Spelling × FunctionOf)) → left ≡ x ∷ rest → new ≡ with_first now (function_entry types ts s (function_made_of x)) → firsts now (map (function_entry types ts s) (functions_of left)) ≡ all → firsts new (map (function_entry types ts s) (functions_of rest)) ≡ all
table_next types ts s now new x left rest all front step known =
    ap (λ es. firsts es (map (function_entry types ts s) (functions_of rest))) step
    ∙ sym (ap (λ (l : List M.FunctionMade). firsts now (map (function_entry types ts s) (functions_of l))) front)
    ∙ known

pub table_end : (types : Types) (ts : List ℕ) (s : Sizes) (now : List (Spelling × FunctionOf)) (left : List M.FunctionMade) (all : List (Spelling × FunctionOf)) → left ≡ [] → firsts now (map (function_entry types ts s) (functions_of left)) ≡ all → now ≡ all
table_end types ts s now left all none known = sym (ap (λ (l : List M.FunctionMade). firsts now (map (function_entry types ts s) (functions_of l))) none) ∙ known
