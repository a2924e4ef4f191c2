-- One object or external function more.
use Rattle.std.proofs.Common.{◌≡◌, ℕ, Bool, false, List, [], ◌∷◌, ◌++◌, map, append_assoc, refl, sym, ap, ◌∙◌}
use Rattle.tso_core.specs.declared.placement.Global.{Global}
use Rattle.tso_core.specs.Stated.{object_of}
use Rattle.clight_lang.specs.declared.program.External.{External}
use Rattle.clight_lang.specs.Meaning.{ExternalOf, external_of}
use Rattle.clight_types.specs.Types.{Types, Spelling, size_at, align_at}
use Rattle.clight_scopes.specs.Scopes.{ObjectEntity, FunctionEntity}
use Rattle.clight_scopes.specs.declared.scene.FileName as N
use Rattle.clight_scopes.specs.SceneOf.{entity_of, file_of}
use Rattle.clight_placing.specs.Placing.{number_of_type}
use Rattle.clight_meaning.specs.Meaning.{object_meant, objects_meant}
use Rattle.clight_programs.specs.ProgramsOf.{external_with, externals_with}
use Rattle.clight_programs.proofs.Walks.{append_end, map_push}

pub object_put : (types : Types) (now new : List Global) (o : Global) (name : Spelling) (t : ℕ) (d : Bool) (start : List ℕ) → object_of o ≡ (name, size_at types t, align_at types t, start) → new ≡ now ++ o ∷ [] → map object_of new ≡ map object_of now ++ object_meant types name (ObjectEntity t d start)
object_put types now new o name t d start is step = ap (map object_of) step ∙ map_push object_of now o ∙ ap (λ x. map object_of now ++ x ∷ []) is

pub external_put : (ts : List ℕ) (now new : List External) (x : External) (name : Spelling) (t : ℕ) (static : Bool) → external_of x ≡ record { name = name; function_type = number_of_type ts t } → new ≡ now ++ x ∷ [] → map external_of new ≡ map external_of now ++ external_with ts name (FunctionEntity t static false)
external_put ts now new x name t static is step = ap (map external_of) step ∙ map_push external_of now x ∙ ap (λ y. map external_of now ++ y ∷ []) is

pub nothing_put : {A B : Type 0} (f : A → B) (now : List A) → map f now ≡ map f now ++ []
nothing_put f now = sym (append_end (map f now))

abbrev Objects : Type 0
Objects = List (List ℕ × ℕ × ℕ × List ℕ)

pub objects_next : (types : Types) (now new : Objects) (left rest : List (Spelling × N.FileName)) (x : Spelling × N.FileName) (all : Objects) → left ≡ x ∷ rest → new ≡ now ++ object_meant types x.0 (entity_of x.1.entity) → now ++ objects_meant types (file_of left) ≡ all → new ++ objects_meant types (file_of rest) ≡ all
objects_next types now new left rest x all front step known =
    ap (λ l. l ++ objects_meant types (file_of rest)) step
    ∙ append_assoc now (object_meant types x.0 (entity_of x.1.entity)) (objects_meant types (file_of rest))
    ∙ sym (ap (λ l. now ++ objects_meant types (file_of l)) front)
    ∙ known

pub objects_end : (types : Types) (now : Objects) (left : List (Spelling × N.FileName)) (all : Objects) → left ≡ [] → now ++ objects_meant types (file_of left) ≡ all → now ≡ all
objects_end types now left all none known = sym (append_end now) ∙ sym (ap (λ l. now ++ objects_meant types (file_of l)) none) ∙ known

pub externals_next : (ts : List ℕ) (now new : List ExternalOf) (left rest : List (Spelling × N.FileName)) (x : Spelling × N.FileName) (all : List ExternalOf) → left ≡ x ∷ rest → new ≡ now ++ external_with ts x.0 (entity_of x.1.entity) → now ++ externals_with ts (file_of left) ≡ all → new ++ externals_with ts (file_of rest) ≡ all
externals_next ts now new left rest x all front step known =
    ap (λ l. l ++ externals_with ts (file_of rest)) step
    ∙ append_assoc now (external_with ts x.0 (entity_of x.1.entity)) (externals_with ts (file_of rest))
    ∙ sym (ap (λ l. now ++ externals_with ts (file_of l)) front)
    ∙ known

pub externals_end : (ts : List ℕ) (now : List ExternalOf) (left : List (Spelling × N.FileName)) (all : List ExternalOf) → left ≡ [] → now ++ externals_with ts (file_of left) ≡ all → now ≡ all
externals_end ts now left all none known = sym (append_end now) ∙ sym (ap (λ l. now ++ externals_with ts (file_of l)) none) ∙ known
