-- What is known of a name that the file has already.
use Rattle.std.proofs.Common.{◌≡◌, ℕ, Bool, true, false, cond, List, [], ◌∷◌, Option, Some, None, is_some, true≢false, refl, sym, ap, ◌∙◌}
use Rattle.std.specs.Prelude.{◌||◌, nat_eq, position, slice_get}
use Rattle.std.specs.Cmp.Lexicographic.{pointwise}
use Rattle.std.specs.Map.{lookup, keys_of, values_of}
use Rattle.indexmap.specs.IndexMap.{set_value_at}
use Rattle.clight_scopes.specs.declared.scene.Entity as E
use Rattle.clight_scopes.specs.declared.scene.FileName as F
use Rattle.clight_scopes.specs.declared.scene.Scene as S
use Rattle.clight_scopes.specs.SceneOf.{scene_of, entity_of as entity_value, file_of, file_named}
use Rattle.clight_scopes.proofs.Found.{file_found, file_replaced}
use Rattle.std.specs.Option.{option_map}
use Rattle.std.proofs.lemmas.Option.{same_Some}
use Rattle.clight_types.specs.Types.{Spelling, same_name}
use Rattle.clight_scopes.specs.Scopes.{Entity, ObjectEntity, FunctionEntity, EnumeratorEntity, TypedefEntity, BuiltinEntity, FileName, Scene, find_file, replaced, with_entity, with_file_name}
use Rattle.clight_calls.specs.Builtins.{is_builtin_name}
use Rattle.clight_typing.specs.Typing.{entity_of}
use Rattle.clight_globals.specs.Globals.{object_known, function_known, typedef_clash, with_start}
use Rattle.clight_globals.specs.GlobalsOf.{object_again, function_again, object_started}

no_entity : (o : Option FileName) → is_some (option_map (λ x. x.entity) o) ≡ false → o ≡ None
no_entity None h = refl
no_entity (Some x) h = absurd (true≢false h)

new_by : (b : Bool) (s : Scene) (name : Spelling) → (b || is_some (entity_of s name)) ≡ false → find_file name s.file ≡ None
new_by true s name h = absurd (true≢false h)
new_by false s name h = no_entity (find_file name s.file) h

-- a typedef's name that may stand is new
pub typedef_new : (s : Scene) (name : Spelling) → typedef_clash s name ≡ false → find_file name s.file ≡ None
typedef_new s name h = new_by (is_builtin_name name) s name h

none_named : (name : Spelling) (o : Option F.FileName) → is_some o ≡ false → file_named name o ≡ None
none_named name None h = refl
none_named name (Some x) h = absurd (true≢false h)

-- a name that the map does not have is new
pub new_name : (name copy : Spelling) (xs : List (Spelling × F.FileName)) → copy ≡ name → is_some (lookup (pointwise nat_eq name) xs) ≡ false → find_file copy (file_of xs) ≡ None
new_name name copy xs same h = ap (λ n. find_file n (file_of xs)) same ∙ file_found name xs ∙ none_named name (lookup (pointwise nat_eq name) xs) h

-- a new object
pub object_put : (s new : Scene) (name copy : Spelling) (at t : ℕ) (defines : Bool) (x : Entity) → find_file copy s.file ≡ None → copy ≡ name → x ≡ ObjectEntity t defines [] → new ≡ with_file_name s copy at x → new ≡ object_known s name at t defines (entity_of s name)
object_put s new name copy at t defines x none same is put =
    put
    ∙ ap (λ n. with_file_name s n at x) same
    ∙ ap (with_file_name s name at) is
    ∙ sym (ap (object_known s name at t defines) (ap (λ n. entity_of s n) (sym same) ∙ ap (option_map (λ y. y.entity)) none))

-- to put in the place of an entity the same one changes nothing
same_by : (b : Bool) (name : Spelling) (e : Entity) (x : FileName) (xs : List FileName) → option_map (λ x. x.entity) (cond b (Some x) (find_file name xs)) ≡ Some e
    → (option_map (λ x. x.entity) (find_file name xs) ≡ Some e → replaced name e xs ≡ xs)
    → cond b (record x { entity = e } ∷ xs) (x ∷ replaced name e xs) ≡ x ∷ xs
same_by true name e x xs h rest = ap (λ y. record x { entity = y } ∷ xs) (sym (same_Some _ _ h))
same_by false name e x xs h rest = ap (λ ys. x ∷ ys) (rest h)

replaced_same : (name : Spelling) (e : Entity) (xs : List FileName) → option_map (λ x. x.entity) (find_file name xs) ≡ Some e → replaced name e xs ≡ xs
replaced_same name e [] h = refl
replaced_same name e (x ∷ xs) h = same_by (same_name name x.name) name e x xs h (replaced_same name e xs)

pub entity_kept : (s : Scene) (name : Spelling) (e : Entity) → entity_of s name ≡ Some e → s ≡ with_entity s name e
entity_kept s name e h = ap (λ names. record s { file = names }) (sym (replaced_same name e s.file h))

object_by : (s : Scene) (name : Spelling) (at t : ℕ) (defines : Bool) (e : Entity) → s ≡ with_entity s name e → object_known s name at t defines (Some e) ≡ with_entity s name (object_again defines e)
object_by s name at t defines (ObjectEntity u defined start) same = refl
object_by s name at t defines (FunctionEntity u static defined) same = same
object_by s name at t defines (EnumeratorEntity w) same = same
object_by s name at t defines (TypedefEntity u) same = same
object_by s name at t defines (BuiltinEntity static) same = same

-- an object that is declared again
pub object_declared_again : (s : Scene) (name : Spelling) (at t : ℕ) (defines : Bool) (e : Entity) → entity_of s name ≡ Some e → object_known s name at t defines (entity_of s name) ≡ with_entity s name (object_again defines e)
object_declared_again s name at t defines e h = ap (object_known s name at t defines) h ∙ object_by s name at t defines e (entity_kept s name e h)

-- the same in the code's map of names
pub object_in_file : (s : S.Scene) (name : Spelling) (at t : ℕ) (defines : Bool) (i : ℕ) (old : F.FileName) (x : E.Entity) → position (pointwise nat_eq name) (keys_of s.file.entries) ≡ Some i → slice_get (values_of s.file.entries) i ≡ Some old → lookup (pointwise nat_eq name) s.file.entries ≡ Some old → entity_value x ≡ object_again defines (entity_value old.entity)
    → record (scene_of s) { file = file_of (set_value_at s.file.entries i (record { at = old.at; entity = x })) } ≡ object_known (scene_of s) name at t defines (entity_of (scene_of s) name)
object_in_file s name at t defines i old x place held found changed =
    ap (λ names. record (scene_of s) { file = names }) (file_replaced name x s.file.entries i old place held)
    ∙ ap (with_entity (scene_of s) name) changed
    ∙ sym (object_declared_again (scene_of s) name at t defines (entity_value old.entity) (ap (option_map (λ y. y.entity)) (file_found name s.file.entries ∙ ap (file_named name) found)))

-- a function or a builtin that is declared again
pub function_declared_again : (s : Scene) (name : Spelling) (at t : ℕ) (static defines : Bool) (e f : Entity) → function_again static defines e ≡ Some f → function_known s name at t static defines (Some e) ≡ with_entity s name f
function_declared_again s name at t static defines (ObjectEntity u defined start) f h = absurd (true≢false (sym (ap is_some h)))
function_declared_again s name at t static defines (FunctionEntity u was_static defined) f h = ap (with_entity s name) (same_Some _ _ h)
function_declared_again s name at t static defines (EnumeratorEntity w) f h = absurd (true≢false (sym (ap is_some h)))
function_declared_again s name at t static defines (TypedefEntity u) f h = absurd (true≢false (sym (ap is_some h)))
function_declared_again s name at t static defines (BuiltinEntity was_static) f h = ap (with_entity s name) (same_Some _ _ h)

pub no_function_again : (s : Scene) (name : Spelling) (at t : ℕ) (static defines : Bool) (e : Entity) → function_again static defines e ≡ None → function_known s name at t static defines (Some e) ≡ s
no_function_again s name at t static defines (ObjectEntity u defined start) h = refl
no_function_again s name at t static defines (FunctionEntity u was_static defined) h = absurd (true≢false (ap is_some h))
no_function_again s name at t static defines (EnumeratorEntity w) h = refl
no_function_again s name at t static defines (TypedefEntity u) h = refl
no_function_again s name at t static defines (BuiltinEntity was_static) h = absurd (true≢false (ap is_some h))

-- an object that begins with bytes
pub started_so : (s : Scene) (name : Spelling) (bytes : List ℕ) (e f : Entity) → object_started bytes e ≡ Some f → with_start s name bytes (Some e) ≡ with_entity s name f
started_so s name bytes (ObjectEntity u defined start) f h = ap (with_entity s name) (same_Some _ _ h)
started_so s name bytes (FunctionEntity u was_static defined) f h = absurd (true≢false (sym (ap is_some h)))
started_so s name bytes (EnumeratorEntity w) f h = absurd (true≢false (sym (ap is_some h)))
started_so s name bytes (TypedefEntity u) f h = absurd (true≢false (sym (ap is_some h)))
started_so s name bytes (BuiltinEntity was_static) f h = absurd (true≢false (sym (ap is_some h)))

pub not_started : (s : Scene) (name : Spelling) (bytes : List ℕ) (e : Entity) → object_started bytes e ≡ None → with_start s name bytes (Some e) ≡ s
not_started s name bytes (ObjectEntity u defined start) h = absurd (true≢false (ap is_some h))
not_started s name bytes (FunctionEntity u was_static defined) h = refl
not_started s name bytes (EnumeratorEntity w) h = refl
not_started s name bytes (TypedefEntity u) h = refl
not_started s name bytes (BuiltinEntity was_static) h = refl
