-- The marks above what stands in the frames of expressions, specifiers and declarators, and the nesting of the deepest token before.
use Rattle.std.proofs.Common.{◌≡◌, ℕ, Bool, true, false, cond, List, [], ◌∷◌, max, ◌&&◌, refl, sym, ap, arith}
use Rattle.c_reading.proofs.Depths.{chain_inner, chain_star_inner, star_in, chain_deepest, name_below, star_below, IsChain, chain_high, abstract_high, head_high, brackets_on, define_code}
use Rattle.c_reading.proofs.Marks.{Reads, Covers, reads, mark_on, beside_on, covers_as, declaration_reads, statement_hole_reads}
use Rattle.c_reading.proofs.Heights.{cap, Nesting, Tall, Solid, tall, one, seq, before, behind, before', behind', between, between', tall_as, tag_tall, zero_max, expr_solid, arguments_tall, type_tall, specs_tall, members_tall, declarators_tall, enumerators_tall, inner_solid, direct_tall, earlier_tall, inits_tall}
use Rattle.c_reading.proofs.Erase.{specs_part, members_part, decl_part, abstract_part, chain_stack, expression_stack, hole_stack, length_stack, parameters_stack, specifiers_stack, type_name_stack, composite_stack, enum_stack, declarator_stack, abstract_stack}
use Rattle.c_reading.specs.Parts.{deeper, over, MembersPart, is_bare}
use Rattle.c_reading.specs.Frames.{Nest, beside, under, nest_of}
use Rattle.c_grammar.specs.Derivations.{Declarator, AbstractDeclarator}
use Rattle.c_grammar.specs.Nesting.{tag_nest, specifiers_nest, members_nest, inner_nest, direct_nest}
use Rattle.c_grammar.proofs.Nests.{chain_in, abstract_in, name_in, expression_depth, hole_depth, array_depth, function_depth, specifiers_depth, type_name_depth, composite_depth, enum_depth, declarator_depth, abstract_depth, chain_nest, abstract_chain_nest, head_nest, expression_nests, hole_nests, array_nests, function_nests, specifiers_nests, type_name_nests, composite_nests, enum_nests, declarator_nests, abstract_nests}
use Rattle.c_grammar.specs.Contexts.{Chain, ExpressionContext, operand, whole, Hole, in_parentheses, in_index, in_argument, in_middle, in_length, in_enumerator, in_statement, Suffixed, of_declarator, of_abstract, SpecifiersContext, in_declaration, in_member, in_parameter, in_type_name, TypeNameContext, in_cast, in_sizeof, CompositeContext, in_composite, EnumContext, in_enumeration, DeclaratorContext, init_context, member_context, parameter_context, AbstractContext, parameter_abstract, type_name_abstract}
use Rattle.c_grammar.proofs.Endings.{may_define}
use Rattle.c_grammar.specs.Contexts as contexts

one_more : (s m D : ℕ) → max (max D s) m ≡ max D (max s m)
one_more s m D = omega arith

zeros : (s : ℕ) → max s (max 0 0) ≡ s
zeros s = omega arith

-- parameters behind the name of what may be a function definition
head_on : (N : List ℕ → List ℕ) (C : List ℕ → List ℕ) (I : Nesting) (d h : ℕ) (b b' : Nest)
    → Covers N d b → ((r : List ℕ) → IsChain C 0 0 r) → Solid I h → b'.deepest ≡ b.deepest → Covers (λ r. N (C (I 0 r))) 0 (under b' 0 h)
head_on N C I d h b b' f g s e r = record {
  most = max (f (C (I 0 r))).most (max (g (I 0 r)).most (s 0 r).most);
  whole = let x = (f (C (I 0 r))).whole in let y = (g (I 0 r)).whole in let z = (s 0 r).whole in omega arith;
  deepest_is =
      let x = (f (C (I 0 r))).deepest_is in let y = (g (I 0 r)).height_is in let z = (s 0 r).height_is in
      let u : cap (max (f (C (I 0 r))).most (max (g (I 0 r)).most (s 0 r).most)) ≡ max (cap (f (C (I 0 r))).most) (cap (s 0 r).most) = omega arith in
      let v : b.deepest ≡ b'.deepest = sym e in cc;
  depth_is = refl;
  some = omega arith;
}

-- parameters behind a declarator, or behind what may be the name of a function definition
parameters_on : (d : Declarator) (c : Chain) (k : DeclaratorContext) → Covers (λ r. declarator_nests k r) (declarator_depth k) (nest_of (declarator_stack k))
    → cap (chain_in c (declarator_depth k)) ≡ (nest_of (chain_stack c (declarator_stack k))).inner
    → Covers (λ r. function_nests (of_declarator d c k) (function_depth (of_declarator d c k) ∷ r)) (function_depth (of_declarator d c k)) (nest_of (parameters_stack (of_declarator d c k)))
parameters_on d c k f w =
    by_choice (may_define d c k) (is_bare (decl_part d).shape && (nest_of (chain_stack c (declarator_stack k))).may_head) (define_code d c k)
  where
    by_choice : (v v' : Bool) → v ≡ v'
        → Covers (λ r. cond v (declarator_nests k (head_nest c (inner_nest d 0 (cond v 0 (chain_in c (declarator_depth k)) ∷ r)))) (declarator_nests k (chain_nest c (declarator_depth k) (inner_nest d (chain_in c (declarator_depth k)) (cond v 0 (chain_in c (declarator_depth k)) ∷ r)))))
        (cond v 0 (chain_in c (declarator_depth k))) (under (nest_of (chain_stack c (declarator_stack k))) (cond v' 0 (nest_of (chain_stack c (declarator_stack k))).inner) (decl_part d).inner)
    by_choice true v' e = let b = nest_of (chain_stack c (declarator_stack k)) in
        covers_as (λ r. declarator_nests k (head_nest c (inner_nest d 0 (0 ∷ r)))) 0 (under b 0 (decl_part d).inner) (under b (cond v' 0 b.inner) (decl_part d).inner)
        (ap (λ x. max b.deepest (over (cond x 0 b.inner) (decl_part d).inner)) e) (ap (λ x. cond x 0 b.inner) e)
        (head_on (λ r. declarator_nests k r) (λ r. head_nest c r) (λ n r. inner_nest d n (n ∷ r)) (declarator_depth k) (decl_part d).inner (nest_of (declarator_stack k)) b f (head_high c) (behind' _ _ (inner_solid d)) (chain_deepest c (declarator_stack k)))
    by_choice false v' e = let b = nest_of (chain_stack c (declarator_stack k)) in
        covers_as (λ r. declarator_nests k (chain_nest c (declarator_depth k) (inner_nest d (chain_in c (declarator_depth k)) (chain_in c (declarator_depth k) ∷ r)))) (chain_in c (declarator_depth k)) (under b b.inner (decl_part d).inner) (under b (cond v' 0 b.inner) (decl_part d).inner)
        (ap (λ x. max b.deepest (over (cond x 0 b.inner) (decl_part d).inner)) e) (ap (λ x. cond x 0 b.inner) e)
        (brackets_on (λ r. declarator_nests k r) (λ r. chain_nest c (declarator_depth k) r) (λ n r. inner_nest d n (n ∷ r)) (declarator_depth k) (name_in c (declarator_depth k)) (chain_in c (declarator_depth k)) (decl_part d).inner (nest_of (declarator_stack k)) b f
        (chain_high c (declarator_depth k)) (behind' _ _ (inner_solid d)) (name_below c (declarator_depth k)) (chain_deepest c (declarator_stack k)) b.inner w)

-- brackets behind a declarator
array_on : (d : Declarator) (c : Chain) (k : DeclaratorContext) → Covers (λ r. declarator_nests k r) (declarator_depth k) (nest_of (declarator_stack k))
    → cap (chain_in c (declarator_depth k)) ≡ (nest_of (chain_stack c (declarator_stack k))).inner
    → Covers (λ r. array_nests (of_declarator d c k) (array_depth (of_declarator d c k) ∷ r)) (array_depth (of_declarator d c k)) (nest_of (length_stack (of_declarator d c k)))
array_on d c k f w = let b = nest_of (chain_stack c (declarator_stack k)) in
    brackets_on (λ r. declarator_nests k r) (λ r. chain_nest c (declarator_depth k) r) (λ n r. inner_nest d n (n ∷ r)) (declarator_depth k) (name_in c (declarator_depth k)) (chain_in c (declarator_depth k)) (decl_part d).inner (nest_of (declarator_stack k)) b f
    (chain_high c (declarator_depth k)) (behind' _ _ (inner_solid d)) (name_below c (declarator_depth k)) (chain_deepest c (declarator_stack k)) b.inner w

-- brackets or parameters behind an abstract declarator
abstract_on : (a : AbstractDeclarator) (c : Chain) (k : AbstractContext) → Covers (λ r. abstract_nests k r) (abstract_depth k) (nest_of (abstract_stack k))
    → cap (abstract_in c (abstract_depth k)) ≡ (nest_of (chain_stack c (abstract_stack k))).star_inner
    → Covers (λ r. array_nests (of_abstract a c k) (array_depth (of_abstract a c k) ∷ r)) (array_depth (of_abstract a c k)) (nest_of (length_stack (of_abstract a c k)))
abstract_on a c k f w = let b = nest_of (chain_stack c (abstract_stack k)) in
    brackets_on (λ r. abstract_nests k r) (λ r. abstract_chain_nest c (abstract_depth k) r) (λ n r. direct_nest a n (n ∷ r)) (abstract_depth k) (star_in c (abstract_depth k)) (abstract_in c (abstract_depth k)) (abstract_part a).inner (nest_of (abstract_stack k)) b f
    (abstract_high c (abstract_depth k)) (behind _ _ (direct_tall a)) (star_below c (abstract_depth k)) (chain_deepest c (abstract_stack k)) b.star_inner w

pub base_inner : (k : DeclaratorContext) → (nest_of (declarator_stack k)).inner ≡ deeper (nest_of (declarator_stack k)).depth
base_inner (init_context s ds k) = refl
base_inner (member_context ms s ds k) = refl
base_inner (parameter_context ps s k p) = refl

pub base_star_inner : (k : AbstractContext) → (nest_of (abstract_stack k)).star_inner ≡ deeper (nest_of (abstract_stack k)).depth
base_star_inner (parameter_abstract ps s k p) = refl
base_star_inner (type_name_abstract s k) = refl

mutual
  pub expression_reads : (k : ExpressionContext) → Reads (λ r. expression_nests k r) (expression_depth k) (nest_of (expression_stack k))
  expression_reads (operand (contexts.step_frame p o) k) = reads _ _ _ (mark_on _ _ _ _ _ (expression_reads k) one)
  expression_reads (operand (contexts.unary_frame p o) k) = reads _ _ _ (mark_on _ _ _ _ _ (expression_reads k) one)
  expression_reads (operand (contexts.sizeof_frame p) k) = reads _ _ _ (mark_on _ _ _ _ _ (expression_reads k) one)
  expression_reads (operand (contexts.cast_frame p t q) k) = reads _ _ _ (mark_on _ _ _ _ _ (expression_reads k) (before' _ _ (behind _ _ (type_tall t))))
  expression_reads (operand (contexts.binary_frame a p o) k) = reads _ _ _ (mark_on _ _ _ _ _ (expression_reads k) (behind' _ _ (expr_solid a)))
  expression_reads (operand (contexts.conditional_frame c p a q) k) = reads _ _ _ (mark_on _ _ _ _ _ (expression_reads k) (between' _ _ _ _ (expr_solid c) (behind' _ _ (expr_solid a))))
  expression_reads (operand (contexts.assignment_frame a p o) k) = reads _ _ _ (mark_on _ _ _ _ _ (expression_reads k) (behind' _ _ (expr_solid a)))
  expression_reads (whole h) = hole_reads h

  pub hole_reads : (h : Hole) → Reads (λ r. hole_nests h r) (hole_depth h) (nest_of (hole_stack h))
  hole_reads (in_parentheses p k) = reads _ _ _ (mark_on _ _ _ _ _ (expression_reads k) one)
  hole_reads (in_index e p k) = reads _ _ _ (mark_on _ _ _ _ _ (expression_reads k) (behind' _ _ (expr_solid e)))
  hole_reads (in_argument f p xs k) = reads _ _ _ (mark_on _ _ _ _ _ (expression_reads k) (between _ _ _ _ (tall _ _ (expr_solid f)) (arguments_tall xs)))
  hole_reads (in_middle c p k) = reads _ _ _ (mark_on _ _ _ _ _ (expression_reads k) (behind' _ _ (expr_solid c)))
  hole_reads (in_length k p) = reads _ _ _ (length_reads k)
  hole_reads (in_enumerator es p x q k) = reads _ _ _ (beside_on _ _ _ _ _ (enum_reads k) (tall _ _ (behind' _ _ (behind _ _ (enumerators_tall es)))))
  hole_reads (in_statement h) = statement_hole_reads h

  pub length_reads : (k : Suffixed) → Covers (λ r. array_nests k (array_depth k ∷ r)) (array_depth k) (nest_of (length_stack k))
  length_reads (of_declarator d c k) r =
      array_on d c k (declarator_reads k) (chain_inner c (declarator_stack k) (declarator_depth k) (declarator_reads k []).depth_is (base_inner k)) r
  length_reads (of_abstract a c k) r =
      abstract_on a c k (abstract_reads k) (chain_star_inner c (abstract_stack k) (abstract_depth k) (abstract_reads k []).depth_is (base_star_inner k)) r

  pub parameters_reads : (k : Suffixed) → Covers (λ r. function_nests k (function_depth k ∷ r)) (function_depth k) (nest_of (parameters_stack k))
  parameters_reads (of_declarator d c k) r =
      parameters_on d c k (declarator_reads k) (chain_inner c (declarator_stack k) (declarator_depth k) (declarator_reads k []).depth_is (base_inner k)) r
  parameters_reads (of_abstract a c k) r =
      abstract_on a c k (abstract_reads k) (chain_star_inner c (abstract_stack k) (abstract_depth k) (abstract_reads k []).depth_is (base_star_inner k)) r

  pub specifiers_reads : (k : SpecifiersContext) → Covers (λ r. specifiers_nests k r) (specifiers_depth k) (nest_of (specifiers_stack k))
  specifiers_reads (in_declaration k) = declaration_reads k
  specifiers_reads (in_member ms k) = composite_reads k (members_part ms) (λ n r. members_nest ms n r) (members_tall ms)
  specifiers_reads (in_parameter ps k p) = beside_on _ _ _ _ _ (parameters_reads k) (earlier_tall ps)
  specifiers_reads (in_type_name k) = type_name_reads k

  pub type_name_reads : (k : TypeNameContext) → Covers (λ r. type_name_nests k r) (type_name_depth k) (nest_of (type_name_stack k))
  type_name_reads (in_cast p k) = mark_on _ _ _ _ _ (expression_reads k) one
  type_name_reads (in_sizeof p q k) = mark_on _ _ _ _ _ (expression_reads k) (before' _ _ one)

  pub composite_reads : (k : CompositeContext) (ms : MembersPart) (F : Nesting) → Tall F ms.height
      → Covers (λ r. composite_nests k (F (composite_depth k) r)) (composite_depth k) (nest_of (composite_stack ms k))
  composite_reads (in_composite s p w t q k) ms F f =
      covers_as _ _ _ _ (one_more _ _ _) refl
      (mark_on (λ r. specifiers_nests k (specifiers_nest s (specifiers_depth k) (specifiers_depth k ∷ tag_nest t (specifiers_depth k) r))) (specifiers_depth k) (beside (nest_of (specifiers_stack k)) (specs_part s).height) (λ n r. n ∷ F n r) ms.height
      (reads _ _ _ (beside_on (λ r. specifiers_nests k r) (specifiers_depth k) (nest_of (specifiers_stack k)) (λ n r. specifiers_nest s n (n ∷ tag_nest t n r)) (specs_part s).height (specifiers_reads k)
      (tall_as _ _ _ (zero_max (specs_part s).height) (tall _ _ (between _ _ _ _ (specs_tall s) (tag_tall t))))))
      (before F _ f))

  pub enum_reads : (k : EnumContext) → Covers (λ r. enum_nests k r) (enum_depth k) (nest_of (enum_stack k))
  enum_reads (in_enumeration s p t q k) =
      beside_on _ _ _ _ _ (specifiers_reads k) (tall_as _ _ _ (zeros (specs_part s).height) (tall _ _ (between _ _ _ _ (specs_tall s) (seq _ _ _ _ (tag_tall t) (tall _ _ one)))))

  pub declarator_reads : (k : DeclaratorContext) → Covers (λ r. declarator_nests k r) (declarator_depth k) (nest_of (declarator_stack k))
  declarator_reads (init_context s ds k) =
      covers_as _ _ _ _ refl refl (beside_on _ _ _ _ _ (declaration_reads k) (seq _ _ _ _ (specs_tall s) (inits_tall ds)))
  declarator_reads (member_context ms s ds k) =
      beside_on _ _ _ _ _ (composite_reads k (members_part ms) (λ n r. members_nest ms n r) (members_tall ms)) (seq _ _ _ _ (specs_tall s) (declarators_tall ds))
  declarator_reads (parameter_context ps s k p) =
      covers_as _ _ _ _ refl refl (beside_on _ _ _ _ _ (beside_on _ _ _ _ _ (parameters_reads k) (earlier_tall ps)) (specs_tall s))

  pub abstract_reads : (k : AbstractContext) → Covers (λ r. abstract_nests k r) (abstract_depth k) (nest_of (abstract_stack k))
  abstract_reads (parameter_abstract ps s k p) =
      covers_as _ _ _ _ refl refl (beside_on _ _ _ _ _ (beside_on _ _ _ _ _ (parameters_reads k) (earlier_tall ps)) (specs_tall s))
  abstract_reads (type_name_abstract s k) = beside_on _ _ _ _ _ (type_name_reads k) (specs_tall s)
