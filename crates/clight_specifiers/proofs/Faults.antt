-- What stands in no clash, and in which order the faults of parts come.
use Rattle.std.proofs.Common.{◌≡◌, Bool, true, false, cond, not, Option, Some, None, true≢false, refl, sym, ap, subst, is_ok}
use Rattle.std.specs.Prelude.{Result, Ok, Err}
use Rattle.std.specs.Option.{option_map}
use Rattle.clight_types.specs.declared.rule.Fault.{Fault}
use Rattle.clight_types.specs.declared.rule.Refusal.{Refusal}
use Rattle.clight_types.specs.declared.rule.Refusal.TheVariants as refusal
use Rattle.clight_types.specs.Judged.{Judged, value, fault, and_then, first_of, Judges}
use Rattle.clight_types.specs.Types.{Spelling}
use Rattle.clight_scopes.specs.Scopes.{Entity, ObjectEntity, FunctionEntity, EnumeratorEntity, TypedefEntity, BuiltinEntity, FileName, Scene, find_file}
use Rattle.clight_calls.specs.Builtins.{is_builtin_name}
use Rattle.clight_typing.specs.Typing.{defined_twice, enumerator_with, enumerator_clash, entity_of, beside}

defined_differs : (b : Bool) → b ≡ false → not b ≡ false → ⊥
defined_differs true p q = true≢false p
defined_differs false p q = true≢false q

clash_by : (o : Option FileName) → (enumerator_with (option_map (λ x. x.entity) o)).twice ≡ false → (enumerator_with (option_map (λ x. x.entity) o)).differs ≡ false → o ≡ None
clash_by None p q = refl
clash_by (Some x) p q = by x.entity p q
  where
    by : (y : Entity) → (enumerator_with (Some y)).twice ≡ false → (enumerator_with (Some y)).differs ≡ false → Some x ≡ None
    by (ObjectEntity t defined start) p q = absurd (defined_differs defined p q)
    by (FunctionEntity t static defined) p q = absurd (defined_differs defined p q)
    by (EnumeratorEntity w) p q = absurd (true≢false p)
    by (TypedefEntity t) p q = absurd (true≢false p)
    by (BuiltinEntity static) p q = absurd (true≢false p)

new_by : (b : Bool) (s : Scene) (name : Spelling) → (cond b defined_twice (enumerator_with (entity_of s name))).twice ≡ false → (cond b defined_twice (enumerator_with (entity_of s name))).differs ≡ false → find_file name s.file ≡ None
new_by true s name p q = absurd (true≢false p)
new_by false s name p q = clash_by (find_file name s.file) p q

-- a name that clashes with nothing is new
pub no_clash_new : (s : Scene) (name : Spelling) → (enumerator_clash s name).twice ≡ false → (enumerator_clash s name).differs ≡ false → find_file name s.file ≡ None
no_clash_new s name p q = new_by (is_builtin_name name) s name p q

-- ## The faults of one part behind another

abbrev fault_in : {A : Type 0} → Fault → Result A Fault → Fault
fault_in other (Ok a) = other
fault_in other (Err f) = f

abbrev refused_with : {B : Type 0} → Fault → Result B Fault
refused_with f = Err f

pub first_then : {A B : Type 0} (j : Judged A) (next : A → Judged B) (f : Fault) → first_of j ≡ Err f → first_of (and_then j next) ≡ Err f
first_then (value a) next f e = absurd (true≢false (ap is_ok e))
first_then {A} {B} (fault r at j) next f e = ap (refused_with {B = B}) (ap (fault_in f) e)

pub stopped : {A B C D : Type 0} (j : Judged A) (view : C → A) (next : A → Judged B) (other : D → B) (e : Refusal) → Judges j view (Err e) → Judges (and_then j next) other (Err e)
stopped j view next other (refusal.Faulty f) h = first_then j next f h
stopped j view next other refusal.NoMemory h = tt

pub gone_on : {A B D : Type 0} (j : Judged A) (a : A) (next : A → Judged B) (view : D → B) (r : Result D Refusal) → j ≡ value a → Judges (next a) view r → Judges (and_then j next) view r
gone_on j a next view r h p = subst (λ i. Judges (and_then i next) view r) (sym h) p

pub judged_beside : {A B : Type 0} (s : Scene) (j : Judged A) (view : B → A) (r : Result B Refusal) → Judges j view r → Judges (beside s j) (λ b. (s, view b)) r
judged_beside s j view (Ok b) h = ap (beside s) h
judged_beside {A} {B} s j view (Err e) h = stopped {B = Scene × A} {D = B} j view (λ a. value (s, a)) (λ b. (s, view b)) e h

pub judged_as : {A B : Type 0} (j k : Judged A) (view : B → A) (r : Result B Refusal) → j ≡ k → Judges k view r → Judges j view r
judged_as j k view r e h = subst (λ i. Judges i view r) (sym e) h
