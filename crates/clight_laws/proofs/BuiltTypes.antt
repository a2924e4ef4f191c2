-- What a declarator makes of a type: a table that is still good, and for the type of a function as many parameters as the declarator has.
use Rattle.std.proofs.Common.{◌≡◌, ℕ, zero, suc, ◌+◌, ◌*◌, ◌≤◌, nat_eq, ◌==◌, Bool, true, false, cond, ◌&&◌, ◌||◌, not, true≢false, List, [], ◌∷◌, map, length, min, Option, Some, None, refl, sym, ap, ◌∙◌, subst, arith}
use Rattle.std.specs.Prelude.{nat_lt}
use Rattle.std.specs.Cmp.Lexicographic.{pointwise}
use Rattle.clight_types.specs.Types.{Types, Shape, VoidShape, IntegerShape, PointerShape, ArrayShape, StructShape, FunctionShape, same_shape, with_shape, shape_at, size_at, is_complete, is_function, is_function_shape, is_array_shape, is_struct, array_shape, type_limit}
use Rattle.clight_types.specs.Declarators.{Length, NoLength, BadLength, Elements, ParameterOf, Part, PointerPart, ArrayPart, FunctionPart, Built, begun, shaped, refused, with_bad_array, is_no_element, with_elements, with_array, part_onto, built_of, adjusted_shape, adjusted, built_parameter, built_type}
use Rattle.clight_calls.specs.Calls.{parameters_at}
use Rattle.clight_laws.proofs.Holding.{both_true}
use Rattle.clight_laws.proofs.TypeTables.{IsShape, AreTypes, Grows, grows_none, grows_twice, complete_sized, shape_grows, shape_added, IsMadeAs, made_new, made_same, new_shape}

-- a table behind another one
pub record IsNext (types new : Types) : Type 0 where
  pub good : AreTypes new
  pub grows : Grows types new

pub next_none : (types : Types) → AreTypes types → IsNext types types
next_none types h = record { good = h; grows = grows_none types }

pub next_twice : (a b c : Types) → IsNext a b → IsNext b c → IsNext a c
next_twice a b c g h = record { good = h.good; grows = grows_twice a b c g.grows h.grows }

next_shaped : (types : Types) (b : Built) (s : Shape) → IsNext types b.types → IsShape s → IsNext types (shaped b s).types
next_shaped types b s h g = next_twice types b.types (with_shape b.types s).0 h (record { good = shape_added b.types s h.good g; grows = shape_grows b.types s })

-- a length has an element at least
abbrev pub IsPart : Part → Type 0
IsPart (ArrayPart (Elements n)) = 1 ≤ n
IsPart _ = Unit {0}

abbrev pub AreParts : List Part → Type 0
AreParts [] = Unit {0}
AreParts (p ∷ ps) = IsPart p × AreParts ps

element_complete : (types : Types) (t : ℕ) → is_no_element types t ≡ false → is_complete types t ≡ true
element_complete types t e = by (is_complete types t) (is_function types t) e
  where
    by : (c f : Bool) → ((not c && not f) || f) ≡ false → c ≡ true
    by true f e = refl
    by false true e = absurd (true≢false e)
    by false false e = absurd (true≢false e)

array_good : (types : Types) (t n : ℕ) → AreTypes types → is_complete types t ≡ true → 1 ≤ n → IsShape (array_shape types t n)
array_good types t n h e l =
    let s = complete_sized types h t e in
    (some_bytes (size_at types t) n s.0 l, s.1)
  where
    some_bytes : (a n : ℕ) → 1 ≤ a → 1 ≤ n → 1 ≤ min (a * n) (type_limit + 1)
    some_bytes (suc a) (suc n) p q = omega arith
    some_bytes zero n p q = absurd (omega arith)
    some_bytes (suc a) zero p q = absurd (omega arith)

elements_next : (types : Types) (b : Built) (t n : ℕ) → IsNext types b.types → 1 ≤ n → IsNext types (with_elements b t n).types
elements_next types b t n h l = by (is_no_element b.types t) refl
  where
    by : (c : Bool) → is_no_element b.types t ≡ c → IsNext types (cond c (with_bad_array b t false) (let d = shaped b (array_shape b.types t n) in record d { is_large = b.is_large || nat_lt type_limit (size_at b.types t * n) })).types
    by true q = h
    by false q = next_shaped types b (array_shape b.types t n) h (array_good b.types t n h.good (element_complete b.types t q) l)

open_next : (types : Types) (b : Built) (t : ℕ) (excused c : Bool) → IsNext types b.types → IsNext types (cond c (with_bad_array b t (not excused)) (shaped b (PointerShape t))).types
open_next types b t excused true h = h
open_next types b t excused false h = next_shaped types b (PointerShape t) h tt

array_next : (types : Types) (b : Built) (t : ℕ) (excused : Bool) (n : Length) → IsNext types b.types → IsPart (ArrayPart n) → IsNext types (with_array b t excused n).types
array_next types b t excused NoLength h l = open_next types b t excused (is_no_element b.types t || not excused) h
array_next types b t excused BadLength h l = h
array_next types b t excused (Elements n) h l = elements_next types b t n h l

function_next : (types : Types) (b : Built) (t : ℕ) (ps : List ParameterOf) (c : Bool) → IsNext types b.types → IsNext types (cond c (refused b) (let d = shaped b (FunctionShape t (map (λ p. p.type) ps)) in record d { gives_struct = b.gives_struct || is_struct b.types t })).types
function_next types b t ps true h = h
function_next types b t ps false h = next_shaped types b (FunctionShape t (map (λ p. p.type) ps)) h tt

part_next : (types : Types) (b : Built) (o : Option ℕ) (excused : Bool) (p : Part) → IsNext types b.types → IsPart p → IsNext types (part_onto b o excused p).types
part_next types b None excused p h l = h
part_next types b (Some t) excused PointerPart h l = next_shaped types b (PointerShape t) h tt
part_next types b (Some t) excused (ArrayPart n) h l = array_next types b t excused n h l
part_next types b (Some t) excused (FunctionPart ps) h l = function_next types b t ps (is_function_shape (shape_at b.types t) || is_array_shape (shape_at b.types t)) h

parts_next : (types : Types) (parameter : Bool) (ps : List Part) (b : Built) → IsNext types b.types → AreParts ps → IsNext types (built_of parameter b ps).types
parts_next types parameter [] b h l = h
parts_next types parameter (p ∷ []) b h l = part_next types b b.type parameter p h l.0
parts_next types parameter (p ∷ q ∷ ps) b h l = parts_next types parameter (q ∷ ps) (part_onto b b.type false p) (part_next types b b.type false p h l.0) l.1

pub type_next : (types : Types) (base : ℕ) (ps : List Part) → AreTypes types → AreParts ps → IsNext types (built_type types base ps).types
type_next types base ps h l = parts_next types false ps (begun types base) (next_none types h) l

adjusted_next : (types : Types) (b : Built) (t : ℕ) (s : Shape) → IsNext types b.types → IsNext types (adjusted_shape b t s).types
adjusted_next types b t VoidShape h = h
adjusted_next types b t (IntegerShape j) h = h
adjusted_next types b t (PointerShape u) h = h
adjusted_next types b t (ArrayShape u n size align) h = next_shaped types b (PointerShape u) h tt
adjusted_next types b t (StructShape n) h = h
adjusted_next types b t (FunctionShape r ps) h = next_shaped types b (PointerShape t) h tt

option_next : (types : Types) (b : Built) (o : Option ℕ) → IsNext types b.types → IsNext types (adjusted b o).types
option_next types b None h = h
option_next types b (Some t) h = adjusted_next types b t (shape_at b.types t) h

pub parameter_next : (types : Types) (base : ℕ) (ps : List Part) → AreTypes types → AreParts ps → IsNext types (built_parameter types base ps).types
parameter_next types base ps h l =
    let b = built_of true (begun types base) ps in
    option_next types b b.type (parts_next types true ps (begun types base) (next_none types h) l)

-- ## A parameter is no function

pointer_made : (u : ℕ) (x : Shape) → IsMadeAs (PointerShape u) x → is_function_shape x ≡ false
pointer_made u x made_new = refl
pointer_made u x (made_same y e) = by y e
  where
    by : (y : Shape) → same_shape (PointerShape u) y ≡ true → is_function_shape y ≡ false
    by VoidShape e = refl
    by (IntegerShape j) e = refl
    by (PointerShape t) e = refl
    by (ArrayShape t n s a) e = refl
    by (StructShape n) e = refl
    by (FunctionShape r ps) e = absurd (true≢false (sym e))

abbrev pub IsNoFunction : Types → Option ℕ → Type 0
IsNoFunction types None = Unit {0}
IsNoFunction types (Some t) = is_function types t ≡ false

adjusted_object : (b : Built) (t : ℕ) (s : Shape) → shape_at b.types t ≡ s → b.type ≡ Some t → IsNoFunction (adjusted_shape b t s).types (adjusted_shape b t s).type
adjusted_object b t VoidShape e o = subst (IsNoFunction b.types) (sym o) (ap is_function_shape e)
adjusted_object b t (IntegerShape j) e o = subst (IsNoFunction b.types) (sym o) (ap is_function_shape e)
adjusted_object b t (PointerShape u) e o = subst (IsNoFunction b.types) (sym o) (ap is_function_shape e)
adjusted_object b t (ArrayShape u n size align) e o = pointer_made u _ (new_shape b.types (PointerShape u))
adjusted_object b t (StructShape n) e o = subst (IsNoFunction b.types) (sym o) (ap is_function_shape e)
adjusted_object b t (FunctionShape r ps) e o = pointer_made t _ (new_shape b.types (PointerShape t))

pub parameter_object : (types : Types) (base : ℕ) (ps : List Part) → IsNoFunction (built_parameter types base ps).types (built_parameter types base ps).type
parameter_object types base ps = let b = built_of true (begun types base) ps in by b b.type refl
  where
    by : (b : Built) (o : Option ℕ) → b.type ≡ o → IsNoFunction (adjusted b o).types (adjusted b o).type
    by b None e = subst (IsNoFunction b.types) (sym e) tt
    by b (Some t) e = adjusted_object b t (shape_at b.types t) refl e

-- ## The type of a function that is defined

same_many : (xs ys : List ℕ) → pointwise nat_eq xs ys ≡ true → length xs ≡ length ys
same_many [] [] e = refl
same_many [] (y ∷ ys) e = absurd (true≢false (sym e))
same_many (x ∷ xs) [] e = absurd (true≢false (sym e))
same_many (x ∷ xs) (y ∷ ys) e = ap suc (same_many xs ys (both_true (nat_eq x y) (pointwise nat_eq xs ys) e).1)

function_made : (r : ℕ) (ps : List ℕ) (x : Shape) → IsMadeAs (FunctionShape r ps) x → length (parameters_at x) ≡ length ps
function_made r ps x made_new = refl
function_made r ps x (made_same y e) = by y e
  where
    by : (y : Shape) → same_shape (FunctionShape r ps) y ≡ true → length (parameters_at y) ≡ length ps
    by VoidShape e = absurd (true≢false (sym e))
    by (IntegerShape j) e = absurd (true≢false (sym e))
    by (PointerShape t) e = absurd (true≢false (sym e))
    by (ArrayShape t n s a) e = absurd (true≢false (sym e))
    by (StructShape n) e = absurd (true≢false (sym e))
    by (FunctionShape s qs) e = sym (same_many ps qs (both_true (r == s) (pointwise nat_eq ps qs) e).1)

length_types : (ps : List ParameterOf) → length (map (λ p. p.type) ps) ≡ length ps
length_types [] = refl
length_types (p ∷ ps) = ap suc (length_types ps)

-- the last part is a function, of these parameters
abbrev pub EndsIn : List ParameterOf → List Part → Type 0
EndsIn ps [] = ⊥
EndsIn ps (p ∷ []) = p ≡ FunctionPart ps
EndsIn ps (p ∷ q ∷ l) = EndsIn ps (q ∷ l)

abbrev pub HasParameters : Types → Option ℕ → ℕ → Type 0
HasParameters types None n = Unit {0}
HasParameters types (Some t) n = length (parameters_at (shape_at types t)) ≡ n

function_last : (b : Built) (o : Option ℕ) (ps : List ParameterOf) → b.type ≡ o → HasParameters (part_onto b o false (FunctionPart ps)).types (part_onto b o false (FunctionPart ps)).type (length ps)
function_last b None ps e = subst (λ o. HasParameters b.types o (length ps)) (sym e) tt
function_last b (Some t) ps e = by (is_function_shape (shape_at b.types t) || is_array_shape (shape_at b.types t))
  where
    by : (c : Bool) → HasParameters (cond c (refused b) (let d = shaped b (FunctionShape t (map (λ p. p.type) ps)) in record d { gives_struct = b.gives_struct || is_struct b.types t })).types (cond c (refused b) (let d = shaped b (FunctionShape t (map (λ p. p.type) ps)) in record d { gives_struct = b.gives_struct || is_struct b.types t })).type (length ps)
    by true = tt
    by false = function_made t (map (λ p. p.type) ps) _ (new_shape b.types (FunctionShape t (map (λ p. p.type) ps))) ∙ length_types ps

ends_built : (ps : List ParameterOf) (l : List Part) → EndsIn ps l → (b : Built) → HasParameters (built_of false b l).types (built_of false b l).type (length ps)
ends_built ps [] e b = absurd e
ends_built ps (p ∷ []) e b = subst (λ x. HasParameters (part_onto b b.type false x).types (part_onto b b.type false x).type (length ps)) (sym e) (function_last b b.type ps refl)
ends_built ps (p ∷ q ∷ l) e b = ends_built ps (q ∷ l) e (part_onto b b.type false p)

pub defined_parameters : (types : Types) (base : ℕ) (ps : List ParameterOf) (l : List Part) → EndsIn ps l → HasParameters (built_type types base l).types (built_type types base l).type (length ps)
defined_parameters types base ps l e = ends_built ps l e (begun types base)

function_shape_made : (r : ℕ) (ps : List ℕ) (x : Shape) → IsMadeAs (FunctionShape r ps) x → is_function_shape x ≡ true
function_shape_made r ps x made_new = refl
function_shape_made r ps x (made_same y e) = by y e
  where
    by : (y : Shape) → same_shape (FunctionShape r ps) y ≡ true → is_function_shape y ≡ true
    by VoidShape e = absurd (true≢false (sym e))
    by (IntegerShape j) e = absurd (true≢false (sym e))
    by (PointerShape t) e = absurd (true≢false (sym e))
    by (ArrayShape t n s a) e = absurd (true≢false (sym e))
    by (StructShape n) e = absurd (true≢false (sym e))
    by (FunctionShape s qs) e = refl

-- the type is that of a function, where there is one
abbrev pub IsFunctionType : Types → Option ℕ → Type 0
IsFunctionType types None = Unit {0}
IsFunctionType types (Some t) = is_function types t ≡ true

function_type_last : (b : Built) (o : Option ℕ) (ps : List ParameterOf) → b.type ≡ o → IsFunctionType (part_onto b o false (FunctionPart ps)).types (part_onto b o false (FunctionPart ps)).type
function_type_last b None ps e = subst (IsFunctionType b.types) (sym e) tt
function_type_last b (Some t) ps e = by (is_function_shape (shape_at b.types t) || is_array_shape (shape_at b.types t))
  where
    by : (c : Bool) → IsFunctionType (cond c (refused b) (let d = shaped b (FunctionShape t (map (λ p. p.type) ps)) in record d { gives_struct = b.gives_struct || is_struct b.types t })).types (cond c (refused b) (let d = shaped b (FunctionShape t (map (λ p. p.type) ps)) in record d { gives_struct = b.gives_struct || is_struct b.types t })).type
    by true = tt
    by false = function_shape_made t (map (λ p. p.type) ps) _ (new_shape b.types (FunctionShape t (map (λ p. p.type) ps)))

function_type_ends : (ps : List ParameterOf) (l : List Part) → EndsIn ps l → (b : Built) → IsFunctionType (built_of false b l).types (built_of false b l).type
function_type_ends ps [] e b = absurd e
function_type_ends ps (p ∷ []) e b = subst (λ x. IsFunctionType (part_onto b b.type false x).types (part_onto b b.type false x).type) (sym e) (function_type_last b b.type ps refl)
function_type_ends ps (p ∷ q ∷ l) e b = function_type_ends ps (q ∷ l) e (part_onto b b.type false p)

pub defined_function : (types : Types) (base : ℕ) (ps : List ParameterOf) (l : List Part) → EndsIn ps l → IsFunctionType (built_type types base l).types (built_type types base l).type
defined_function types base ps l e = function_type_ends ps l e (begun types base)
