-- The reader knows the nesting of the deepest token that it has read.
use Rattle.std.proofs.Common.{◌≡◌, ℕ, Bool, true, false, cond, List, [], ◌∷◌, max, ◌&&◌, ◌||◌, refl, sym, ◌∙◌, ap, arith}
use Rattle.c_reading.proofs.Contexts.{base_inner, base_star_inner, expression_reads, length_reads, parameters_reads, specifiers_reads, composite_reads, enum_reads, declarator_reads, abstract_reads}
use Rattle.c_reading.proofs.Depths.{chain_inner, chain_name, chain_star_inner, star_in, chain_star_depth, chain_deepest, name_below, star_below, IsChain, chain_high, abstract_high, head_high, brackets_on, head_code}
use Rattle.c_reading.proofs.Simulation.{takes_name_code}
use Rattle.c_reading.proofs.Marks.{Reads, Covers, reads, mark_on, beside_on, file_reads, statement_reads, items_reads, groups_reads, label_reads, initializer_reads}
use Rattle.c_reading.proofs.Heights.{cap, highest, Nesting, Solid, tall, one, seq, before, behind, before', behind', between, between', solid_as, qualifiers_tall, trailing_tall, max_zero, pointed_bare, function_bare, expr_solid, arguments_tall, specs_tall, members_tall, enumerator_tall, enumerators_tall, inner_solid, length_tall, abstract_tall, direct_tall, parameters_tall, optional_tall, for_first_tall, stmt_solid, items_tall}
use Rattle.c_reading.proofs.Erase.{expr_part, arguments_part, members_part, enumerators_part, decl_part, abstract_part, parameters_part, items_part, chain_stack, declarator_stack, abstract_stack, reader_of}
use Rattle.c_reading.specs.Parts.{deeper, over, DeclaratorShape, bare, named_function, pointed_function, other_shape, pointed_shape, function_shape, is_bare, is_named_function, abstract_height}
use Rattle.c_reading.specs.Frames.{Nest, nest_of}
use Rattle.c_grammar.specs.Derivations.{Declarator, declared_name, pointer, parenthesized_declarator, array, function, AbstractDeclarator, no_declarator, abstract_pointer, parenthesized_abstract, abstract_array, abstract_function, Parameters, File}
use Rattle.c_grammar.specs.Nesting.{members_nest, enumerators_nest, inner_nest, direct_nest, items_nest}
use Rattle.c_grammar.proofs.Nests.{chain_in, abstract_in, name_in, declarator_depth, abstract_depth, chain_nest, abstract_chain_nest, head_nest, array_nests, declarator_nests, abstract_nests, at_abstract_nests, state_nest}
use Rattle.c_grammar.specs.Contexts.{Chain, opened, of_declarator, of_abstract, DeclaratorContext, AbstractContext, parameter_abstract, type_name_abstract}
use Rattle.c_grammar.specs.Tokens.{Identifier, Place}
use Rattle.c_grammar.proofs.Endings.{may_head}
use Rattle.c_grammar.specs.Machine.{State}
use Rattle.c_grammar.specs.Machine as M
use Rattle.c_reading.specs.Code as C

abbrev Knows : State → Type 0
Knows s = cap (highest (state_nest s [])) ≡ C.deepest (reader_of s)

ended : (F : List ℕ → List ℕ) (d : ℕ) (n : Nest) → Reads F d n → cap (highest (F [])) ≡ n.deepest
ended F d n f = ap cap (f []).whole ∙ nil (f []).most ∙ (f []).deepest_is
  where
    nil : (m : ℕ) → cap (max m 0) ≡ cap m
    nil m = omega arith

covered : (F : List ℕ → List ℕ) (d : ℕ) (n : Nest) → Covers F d n → cap (highest (F [])) ≡ n.deepest
covered F d n f = ended F d n (reads F d n f)

-- with a part on top
part_on : (F : List ℕ → List ℕ) (d : ℕ) (b : Nest) (G : Nesting) (h : ℕ) → Reads F d b → Solid G h → cap (highest (F (G d []))) ≡ C.with_part b h
part_on F d b G h f g =
    let x = (f (G d [])).whole in let y = (g d []).whole in let u = (f (G d [])).deepest_is in let v = (g d []).height_is in let z = (f (G d [])).depth_is in
    let e : over b.depth h ≡ over d h = omega arith in
    let w : highest (F (G d [])) ≡ max (f (G d [])).most (g d []).most = omega arith in
    let c : cap (highest (F (G d []))) ≡ max (cap (f (G d [])).most) (cap (g d []).most) = ap cap w ∙ two (f (G d [])).most (g d []).most in cc
  where
    two : (x y : ℕ) → cap (max x y) ≡ max (cap x) (cap y)
    two x y = omega arith

max_last : (a e : ℕ) → max a (max e 0) ≡ max a e
max_last a e = omega arith

-- ## Declarators

-- a chain on top
chain_on : (N : List ℕ → List ℕ) (C : List ℕ → List ℕ) (d n : ℕ) (b b' : Nest) (depth : ℕ) → Covers N d b → IsChain C d n [] → b'.deepest ≡ b.deepest → cap n ≡ depth
    → cap (highest (N (C []))) ≡ max b'.deepest depth
chain_on N C d n b b' depth f g e w =
    let x = (f (C [])).whole in let y = g.whole in let u = (f (C [])).deepest_is in let v = g.height_is in let s = (f (C [])).some in
    let h : highest (N (C [])) ≡ max (f (C [])).most g.most = omega arith in
    let c : cap (max (f (C [])).most g.most) ≡ max (cap (f (C [])).most) (cap (max d g.most)) = omega arith in
    ap cap h ∙ c ∙ ap (λ x. max x (cap (max d g.most))) (u ∙ sym e) ∙ ap (λ x. max b'.deepest x) (v ∙ w)

-- the head of what may be a function definition
head_chain_on : (N : List ℕ → List ℕ) (C : List ℕ → List ℕ) (d : ℕ) (b b' : Nest) → Covers N d b → IsChain C 0 0 [] → b'.deepest ≡ b.deepest → cap (highest (N (C []))) ≡ b'.deepest
head_chain_on N C d b b' f g e =
    let x = (f (C [])).whole in let y = g.whole in let u = (f (C [])).deepest_is in let v = g.height_is in
    let h : cap (highest (N (C []))) ≡ cap (f (C [])).most = omega arith in h ∙ u ∙ sym e

cond_cap : (v v' : Bool) (X Y : List ℕ) (x y : ℕ) → v ≡ v' → cap (highest X) ≡ x → cap (highest Y) ≡ y → cap (highest (cond v X Y)) ≡ cond v' x y
cond_cap true v' X Y x y e f g = f ∙ ap (λ b. cond b x y) e
cond_cap false v' X Y x y e f g = g ∙ ap (λ b. cond b x y) e

name_at : (c : Chain) (k : DeclaratorContext) → cap (name_in c (declarator_depth k)) ≡ (nest_of (chain_stack c (declarator_stack k))).depth
name_at c k = chain_name c (declarator_stack k) (declarator_depth k) (declarator_reads k []).depth_is (base_inner k)

inner_at : (c : Chain) (k : DeclaratorContext) → cap (chain_in c (declarator_depth k)) ≡ (nest_of (chain_stack c (declarator_stack k))).inner
inner_at c k = chain_inner c (declarator_stack k) (declarator_depth k) (declarator_reads k []).depth_is (base_inner k)

at_declarator_knows : (c : Chain) (k : DeclaratorContext) → Knows (M.at_declarator c k)
at_declarator_knows c k =
    cond_cap (may_head c k) _ _ _ _ _ (sym (head_code c k))
    (head_chain_on (λ r. declarator_nests k r) (λ r. head_nest c r) (declarator_depth k) (nest_of (declarator_stack k)) (nest_of (chain_stack c (declarator_stack k))) (declarator_reads k) (head_high c []) (chain_deepest c (declarator_stack k)))
    (chain_on (λ r. declarator_nests k r) (λ r. chain_nest c (declarator_depth k) r) (declarator_depth k) (name_in c (declarator_depth k)) (nest_of (declarator_stack k)) (nest_of (chain_stack c (declarator_stack k))) _ (declarator_reads k)
    (chain_high c (declarator_depth k) []) (chain_deepest c (declarator_stack k)) (name_at c k))

-- the name behind a chain
zero_head : (c : Chain) → IsChain (λ r. head_nest c (0 ∷ r)) 0 0 []
zero_head c = record {
  most = (head_high c (0 ∷ [])).most;
  whole = let x = (head_high c (0 ∷ [])).whole in omega arith;
  height_is = (head_high c (0 ∷ [])).height_is;
}

name_chain : (c : Chain) (d : ℕ) → IsChain (λ r. chain_nest c d (name_in c d ∷ r)) d (name_in c d) []
name_chain c d = record {
  most = max (chain_high c d (name_in c d ∷ [])).most (name_in c d);
  whole = let x = (chain_high c d (name_in c d ∷ [])).whole in omega arith;
  height_is = let x = (chain_high c d (name_in c d ∷ [])).height_is in omega arith;
}

over_zero_max : (D : ℕ) → D ≡ max D (over 0 0)
over_zero_max D = omega arith

after_name_knows : (p : Place) (x : Identifier) (c : Chain) (k : DeclaratorContext) → Knows (M.after_declarator (declared_name p x) c k)
after_name_knows p x c k =
    cond_cap (may_head c k) _ _ _ _ _ (sym (head_code c k))
    (head_chain_on (λ r. declarator_nests k r) (λ r. head_nest c (0 ∷ r)) (declarator_depth k) (nest_of (declarator_stack k)) (nest_of (chain_stack c (declarator_stack k))) (declarator_reads k) (zero_head c) (chain_deepest c (declarator_stack k))
    ∙ over_zero_max (nest_of (chain_stack c (declarator_stack k))).deepest)
    (chain_on (λ r. declarator_nests k r) (λ r. chain_nest c (declarator_depth k) (name_in c (declarator_depth k) ∷ r)) (declarator_depth k) (name_in c (declarator_depth k)) (nest_of (declarator_stack k)) (nest_of (chain_stack c (declarator_stack k))) _ (declarator_reads k)
    (name_chain c (declarator_depth k)) (chain_deepest c (declarator_stack k)) (name_at c k))

-- a declarator that is no name
array_knows : (d : Declarator) (c : Chain) (k : DeclaratorContext)
    → cap (highest (array_nests (of_declarator d c k) [])) ≡ max (nest_of (chain_stack c (declarator_stack k))).deepest (over (nest_of (chain_stack c (declarator_stack k))).inner (decl_part d).inner)
array_knows d c k =
    covered (λ r. declarator_nests k (chain_nest c (declarator_depth k) (inner_nest d (chain_in c (declarator_depth k)) r))) (chain_in c (declarator_depth k)) _
    (brackets_on (λ r. declarator_nests k r) (λ r. chain_nest c (declarator_depth k) r) (λ n r. inner_nest d n r) (declarator_depth k) (name_in c (declarator_depth k)) (chain_in c (declarator_depth k)) (decl_part d).inner (nest_of (declarator_stack k)) (nest_of (chain_stack c (declarator_stack k))) (declarator_reads k)
    (chain_high c (declarator_depth k)) (inner_solid d) (name_below c (declarator_depth k)) (chain_deepest c (declarator_stack k)) (nest_of (chain_stack c (declarator_stack k))).inner (inner_at c k))

pointed_named : (s : DeclaratorShape) → is_named_function (pointed_shape s) ≡ false
pointed_named bare = refl
pointed_named named_function = refl
pointed_named pointed_function = refl
pointed_named other_shape = refl

function_named : (s : DeclaratorShape) → is_named_function (function_shape s) ≡ is_bare s
function_named bare = refl
function_named named_function = refl
function_named pointed_function = refl
function_named other_shape = refl

-- a declarator that is neither a name nor a name and its parameters
other_knows : (d : Declarator) (c : Chain) (k : DeclaratorContext) → is_bare (decl_part d).shape ≡ false → is_named_function (decl_part d).shape ≡ false
    → cap (highest (array_nests (of_declarator d c k) [])) ≡ C.declarator_deepest (decl_part d) (nest_of (chain_stack c (declarator_stack k)))
other_knows d c k e g =
    array_knows d c k ∙ deepest_of (is_bare (decl_part d).shape) (is_named_function (decl_part d).shape) (nest_of (chain_stack c (declarator_stack k))) (decl_part d).inner e g
  where
    deepest_of : (a b : Bool) (n : Nest) (i : ℕ) → a ≡ false → b ≡ false → max n.deepest (over n.inner i) ≡ cond ((a || b) && n.may_head) (max n.deepest (over 0 i)) (max n.deepest (cond a n.depth (over n.inner i)))
    deepest_of true b n i e g = absurd (let f : true ≡ false = e in cc)
    deepest_of false true n i e g = absurd (let f : true ≡ false = g in cc)
    deepest_of false false n i e g = refl

function_knows : (d : Declarator) (p : Place) (ps : Parameters) (q : Place) (c : Chain) (k : DeclaratorContext) → Knows (M.after_declarator (function d p ps q) c k)
function_knows d p ps q c k =
    covered _ _ _ (beside_on _ _ _ _ _ (parameters_reads (of_declarator d c k)) (tall _ _ (behind _ _ (parameters_tall ps))))
    ∙ deepest_of (is_bare (decl_part d).shape) (nest_of (chain_stack c (declarator_stack k))) (decl_part d).inner (parameters_part ps).height
    ∙ by_shape (is_bare (decl_part d).shape) (is_bare (function_shape (decl_part d).shape)) (is_named_function (function_shape (decl_part d).shape)) (nest_of (chain_stack c (declarator_stack k))) (max (decl_part d).inner (parameters_part ps).height) (function_bare (decl_part d).shape) (function_named (decl_part d).shape)
  where
    joined : (D x i j : ℕ) → max (max D (over x i)) (over x j) ≡ max D (over x (max i j))
    joined D x i j = omega arith

    choose : (v : Bool) (D x i j : ℕ) → max (max D (over (cond v 0 x) i)) (over (cond v 0 x) j) ≡ cond v (max D (over 0 (max i j))) (max D (over x (max i j)))
    choose true D x i j = joined D 0 i j
    choose false D x i j = joined D x i j

    deepest_of : (a : Bool) (n : Nest) (i j : ℕ) → max (max n.deepest (over (cond (a && n.may_head) 0 n.inner) i)) (over (cond (a && n.may_head) 0 n.inner) j) ≡ cond (a && n.may_head) (max n.deepest (over 0 (max i j))) (max n.deepest (over n.inner (max i j)))
    deepest_of a n i j = choose (a && n.may_head) n.deepest n.inner i j

    by_shape : (a b m : Bool) (n : Nest) (h : ℕ) → b ≡ false → m ≡ a
        → cond (a && n.may_head) (max n.deepest (over 0 h)) (max n.deepest (over n.inner h)) ≡ cond ((b || m) && n.may_head) (max n.deepest (over 0 h)) (max n.deepest (cond b n.depth (over n.inner h)))
    by_shape a true m n h e g = absurd (let f : true ≡ false = e in cc)
    by_shape a false m n h e g = ap (λ x. cond (x && n.may_head) (max n.deepest (over 0 h)) (max n.deepest (over n.inner h))) (sym g)

after_declarator_knows : (d : Declarator) (c : Chain) (k : DeclaratorContext) → Knows (M.after_declarator d c k)
after_declarator_knows (declared_name p x) c k = after_name_knows p x c k
after_declarator_knows (pointer p qs d) c k = other_knows (pointer p qs d) c k (pointed_bare (decl_part d).shape) (pointed_named (decl_part d).shape)
after_declarator_knows (parenthesized_declarator p d q) c k = other_knows (parenthesized_declarator p d q) c k refl refl
after_declarator_knows (array d p l q) c k = other_knows (array d p l q) c k refl refl
after_declarator_knows (function d p ps q) c k = function_knows d p ps q c k

-- ## Abstract declarators

base_star_depth : (k : AbstractContext) → (nest_of (abstract_stack k)).star_depth ≡ (nest_of (abstract_stack k)).depth
base_star_depth (parameter_abstract ps s k p) = refl
base_star_depth (type_name_abstract s k) = refl

base_abstract_inner : (k : AbstractContext) → (nest_of (abstract_stack k)).inner ≡ deeper (nest_of (abstract_stack k)).depth
base_abstract_inner (parameter_abstract ps s k p) = refl
base_abstract_inner (type_name_abstract s k) = refl

abstract_star : (c : Chain) (k : AbstractContext) → cap (star_in c (abstract_depth k)) ≡ (nest_of (chain_stack c (abstract_stack k))).star_depth
abstract_star c k = chain_star_depth c (abstract_stack k) (abstract_depth k) (abstract_reads k []).depth_is (base_star_depth k) (base_star_inner k)

at_abstract_knows : (c : Chain) (k : AbstractContext) → cap (highest (at_abstract_nests k c []))
    ≡ max (nest_of (chain_stack c (abstract_stack k))).deepest (cond (nest_of (chain_stack c (abstract_stack k))).takes_name (nest_of (chain_stack c (abstract_stack k))).depth (nest_of (chain_stack c (abstract_stack k))).star_depth)
at_abstract_knows c (parameter_abstract ps s k p) =
    let K : AbstractContext = parameter_abstract ps s k p in
    let n : Nest = nest_of (chain_stack c (abstract_stack K)) in
    chain_on (λ r. abstract_nests K r) (λ r. chain_nest c (abstract_depth K) r) (abstract_depth K) (name_in c (abstract_depth K)) (nest_of (abstract_stack K)) n n.depth (abstract_reads K) (chain_high c (abstract_depth K) []) (chain_deepest c (abstract_stack K))
    (chain_name c (abstract_stack K) (abstract_depth K) (abstract_reads K []).depth_is (base_abstract_inner K))
    ∙ ap (λ b. max n.deepest (cond b n.depth n.star_depth)) (sym (takes_name_code c K))
at_abstract_knows c (type_name_abstract s k) =
    let K : AbstractContext = type_name_abstract s k in
    let n : Nest = nest_of (chain_stack c (abstract_stack K)) in
    chain_on (λ r. abstract_nests K r) (λ r. abstract_chain_nest c (abstract_depth K) r) (abstract_depth K) (star_in c (abstract_depth K)) (nest_of (abstract_stack K)) n n.star_depth (abstract_reads K) (abstract_high c (abstract_depth K) []) (chain_deepest c (abstract_stack K))
    (abstract_star c K)
    ∙ ap (λ b. max n.deepest (cond b n.depth n.star_depth)) (sym (takes_name_code c K))

-- some abstract declarator behind a chain
some_abstract_knows : (a : AbstractDeclarator) (c : Chain) (k : AbstractContext) → Solid (λ n r. direct_nest a n r) (abstract_part a).inner
    → cap (highest (array_nests (of_abstract a c k) [])) ≡ max (nest_of (chain_stack c (abstract_stack k))).deepest (over (nest_of (chain_stack c (abstract_stack k))).star_inner (abstract_part a).inner)
some_abstract_knows a c k s =
    covered (λ r. abstract_nests k (abstract_chain_nest c (abstract_depth k) (direct_nest a (abstract_in c (abstract_depth k)) r))) (abstract_in c (abstract_depth k)) _
    (brackets_on (λ r. abstract_nests k r) (λ r. abstract_chain_nest c (abstract_depth k) r) (λ n r. direct_nest a n r) (abstract_depth k) (star_in c (abstract_depth k)) (abstract_in c (abstract_depth k)) (abstract_part a).inner (nest_of (abstract_stack k)) (nest_of (chain_stack c (abstract_stack k))) (abstract_reads k)
    (abstract_high c (abstract_depth k)) s (star_below c (abstract_depth k)) (chain_deepest c (abstract_stack k)) (nest_of (chain_stack c (abstract_stack k))).star_inner
    (chain_star_inner c (abstract_stack k) (abstract_depth k) (abstract_reads k []).depth_is (base_star_inner k)))

after_abstract_knows : (a : AbstractDeclarator) (c : Chain) (k : AbstractContext) → Knows (M.after_abstract a c k)
after_abstract_knows no_declarator c k =
    chain_on (λ r. abstract_nests k r) (λ r. abstract_chain_nest c (abstract_depth k) r) (abstract_depth k) (star_in c (abstract_depth k)) (nest_of (abstract_stack k)) (nest_of (chain_stack c (abstract_stack k))) _ (abstract_reads k) (abstract_high c (abstract_depth k) []) (chain_deepest c (abstract_stack k))
    (abstract_star c k)
after_abstract_knows (abstract_pointer p qs a) c k =
    some_abstract_knows (abstract_pointer p qs a) c k (solid_as _ _ _ (max_zero (abstract_height (abstract_part a))) (before _ _ (seq _ _ _ _ (qualifiers_tall qs) (abstract_tall a))))
after_abstract_knows (parenthesized_abstract p a q) c k = some_abstract_knows (parenthesized_abstract p a q) c k (before' _ _ (behind _ _ (abstract_tall a)))
after_abstract_knows (abstract_array a p l q) c k = some_abstract_knows (abstract_array a p l q) c k (between _ _ _ _ (direct_tall a) (tall _ _ (behind _ _ (length_tall l))))
after_abstract_knows (abstract_function a p ps q) c k = some_abstract_knows (abstract_function a p ps q) c k (between _ _ _ _ (direct_tall a) (tall _ _ (behind _ _ (parameters_tall ps))))

-- ## States

file_knows : (f : File) → Knows (M.at_file f)
file_knows f = ap cap (file_reads f []).whole ∙ nil (file_reads f []).most ∙ (file_reads f []).deepest_is
  where
    nil : (m : ℕ) → cap (max m 0) ≡ cap m
    nil m = omega arith

pub state_knows : (s : State) → cap (highest (state_nest s [])) ≡ C.deepest (reader_of s)
state_knows (M.at_file f) = file_knows f
state_knows (M.at_items is k) = covered _ _ _ (items_reads k (items_part is) (λ n r. items_nest is n r) (items_tall is))
state_knows (M.at_statement k) = ended _ _ _ (statement_reads k)
state_knows (M.after_statement s k) = part_on _ _ _ _ _ (statement_reads k) (stmt_solid s)
state_knows (M.at_labels k) = covered _ _ _ (groups_reads k)
state_knows (M.after_default k p) = part_on _ _ _ _ _ (reads _ _ _ (label_reads k)) one
state_knows (M.at_condition h p k) = covered _ _ _ (mark_on _ _ _ _ _ (statement_reads k) one)
state_knows (M.at_do_condition p s w k) = covered _ _ _ (mark_on _ _ _ _ _ (statement_reads k) (before' _ _ (behind' _ _ (stmt_solid s))))
state_knows (M.after_do p s w q e l k) = covered _ _ _ (mark_on _ _ _ _ _ (statement_reads k) (before' _ _ (between' _ _ _ _ (stmt_solid s) (before' _ _ (behind' _ _ (expr_solid e))))))
state_knows (M.at_for p k) = covered _ _ _ (mark_on _ _ _ _ _ (statement_reads k) one)
state_knows (M.at_for_first p q k) = covered _ _ _ (mark_on _ _ _ _ _ (statement_reads k) (before' _ _ one))
state_knows (M.at_for_test p q f k) = covered _ _ _ (mark_on _ _ _ _ _ (statement_reads k) (before' _ _ (before _ _ (for_first_tall f))))
state_knows (M.at_for_step p q f c m k) =
    covered _ _ _ (mark_on _ _ _ _ _ (statement_reads k) (before' _ _ (before _ _ (seq _ _ _ _ (for_first_tall f) (tall _ _ (behind _ _ (optional_tall c)))))))
state_knows (M.at_switch_body p q e l k) = covered _ _ _ (mark_on _ _ _ _ _ (statement_reads k) (before' _ _ (before' _ _ (behind' _ _ (expr_solid e)))))
state_knows (M.at_jump p j k) = covered _ _ _ (mark_on _ _ _ _ _ (statement_reads k) one)
state_knows (M.at_return p k) = covered _ _ _ (mark_on _ _ _ _ _ (statement_reads k) one)
state_knows (M.at_initializer k) = covered _ _ _ (initializer_reads k)
state_knows (M.at_list_comma k p xs e q) =
    part_on _ _ _ _ _ (reads _ _ _ (mark_on _ _ _ _ _ (reads _ _ _ (initializer_reads k)) (before _ _ (arguments_tall xs)))) (behind' _ _ (expr_solid e))
state_knows (M.after_list k p xs e c l) =
    covered _ _ _ (mark_on _ _ _ _ _ (reads _ _ _ (initializer_reads k)) (solid_as _ _ _ (max_last (arguments_part xs).height (expr_part e).height)
    (before _ _ (seq _ _ _ _ (arguments_tall xs) (seq _ _ _ _ (tall _ _ (expr_solid e)) (tall _ _ (behind _ _ (trailing_tall c))))))))
state_knows (M.at_specifiers s k) = covered _ _ _ (beside_on _ _ _ _ _ (specifiers_reads k) (specs_tall s))
state_knows (M.at_composite s p w k) = covered _ _ _ (beside_on _ _ _ _ _ (specifiers_reads k) (tall _ _ (behind _ _ (specs_tall s))))
state_knows (M.at_enum s p k) = covered _ _ _ (beside_on _ _ _ _ _ (specifiers_reads k) (tall _ _ (behind _ _ (specs_tall s))))
state_knows (M.at_members ms k) = covered _ _ _ (composite_reads k (members_part ms) (λ n r. members_nest ms n r) (members_tall ms))
state_knows (M.at_enumerator k) = covered _ _ _ (enum_reads k)
state_knows (M.after_enumerator es p x k) = covered _ _ _ (beside_on _ _ _ _ _ (enum_reads k) (tall _ _ (behind _ _ (enumerators_tall es))))
state_knows (M.after_enumerator_comma es e p k) =
    covered _ _ _ (beside_on _ _ _ _ _ (enum_reads k) (tall _ _ (behind _ _ (enumerator_tall e (enumerators_part es) (λ n r. enumerators_nest es n r) (enumerators_tall es)))))
state_knows (M.at_declarator c k) = at_declarator_knows c k
state_knows (M.after_declarator d c k) = after_declarator_knows d c k
state_knows (M.at_abstract c k) = at_abstract_knows c k
state_knows (M.at_opened c p k) = at_abstract_knows (opened p c) k
state_knows (M.after_abstract a c k) = after_abstract_knows a c k
state_knows (M.at_length k p) = covered _ _ _ (length_reads k)
state_knows (M.at_parameters k p) = covered _ _ _ (parameters_reads k)
state_knows (M.at_expression k) = ended _ _ _ (expression_reads k)
state_knows (M.after_postfix e k) = part_on _ _ _ _ _ (expression_reads k) (expr_solid e)
state_knows (M.after_sizeof e k) = part_on _ _ _ _ _ (expression_reads k) (expr_solid e)
state_knows (M.at_open p k) = covered _ _ _ (mark_on _ _ _ _ _ (expression_reads k) one)
state_knows (M.at_sizeof p k) = covered _ _ _ (mark_on _ _ _ _ _ (expression_reads k) one)
state_knows (M.at_sizeof_open p q k) = covered _ _ _ (mark_on _ _ _ _ _ (expression_reads k) (before' _ _ one))
state_knows (M.at_arguments f p k) = covered _ _ _ (mark_on _ _ _ _ _ (expression_reads k) (behind' _ _ (expr_solid f)))
state_knows (M.at_access e p o k) = covered _ _ _ (mark_on _ _ _ _ _ (expression_reads k) (behind' _ _ (expr_solid e)))
