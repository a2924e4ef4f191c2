-- The marks above what stands in the frames of expressions, specifiers and declarators are those of their contexts, up to 255.
use Rattle.std.proofs.Common.{◌≡◌, ℕ, ◌≤◌, Bool, true, false, cond, not, List, [], ◌∷◌, suc, max, ◌&&◌, refl, sym, ◌∙◌, ap, arith}
use Rattle.c_reading.proofs.Marks.{Covers}
use Rattle.c_reading.proofs.Heights.{cap, highest, Nesting, IsTall, Solid, qualifiers_tall, pointed_bare, function_bare}
use Rattle.c_reading.proofs.Erase.{specs_part, decl_part, init_part, with_init, inits_part, items_part, items_stack, declaration_stack, chain_stack, declarator_stack}
use Rattle.c_reading.proofs.Tests.{declares_same, list_some}
use Rattle.c_reading.specs.Parts.{deeper, over, pointed_shape, function_shape, is_bare, is_empty, ItemsPart}
use Rattle.c_reading.specs.Frames.{Nest, under, Stack, nest_of}
use Rattle.c_tree.specs.Trees.{init_tree}
use Rattle.c_grammar.specs.Derivations.{Declarator, declared_name, pointer, parenthesized_declarator, array, function, InitDeclarator, init_declarator, InitDeclarators, no_init_declarators, init_declarators}
use Rattle.c_grammar.specs.Nesting.{qualifiers_nest}
use Rattle.c_grammar.proofs.Nests.{chain_in, abstract_in, name_in, chain_nest, abstract_chain_nest, head_nest}
use Rattle.c_grammar.proofs.Endings.{only_stars, may_define}
use Rattle.c_grammar.specs.Contexts.{ItemsContext, block_of, function_body, group_of, in_file, in_items, in_for_head, Chain, top, starred, opened, DeclaratorContext, init_context, member_context, parameter_context}

-- ## Chains of stars and parentheses

pub chain_inner : (c : Chain) (k : Stack) (d : ℕ) → cap d ≡ (nest_of k).depth → (nest_of k).inner ≡ deeper (nest_of k).depth → cap (chain_in c d) ≡ (nest_of (chain_stack c k)).inner
chain_inner top k d e g = let h : cap (suc d) ≡ deeper (cap d) = omega arith in h ∙ ap deeper e ∙ sym g
chain_inner (starred p qs c) k d e g = chain_inner c k d e g
chain_inner (opened p c) k d e g = let i = chain_inner c k d e g in let h : cap (suc (chain_in c d)) ≡ deeper (cap (chain_in c d)) = omega arith in h ∙ ap deeper i

pub chain_name : (c : Chain) (k : Stack) (d : ℕ) → cap d ≡ (nest_of k).depth → (nest_of k).inner ≡ deeper (nest_of k).depth → cap (name_in c d) ≡ (nest_of (chain_stack c k)).depth
chain_name top k d e g = e
chain_name (starred p qs c) k d e g = chain_inner c k d e g
chain_name (opened p c) k d e g = chain_inner c k d e g

pub chain_star_inner : (c : Chain) (k : Stack) (d : ℕ) → cap d ≡ (nest_of k).depth → (nest_of k).star_inner ≡ deeper (nest_of k).depth
    → cap (abstract_in c d) ≡ (nest_of (chain_stack c k)).star_inner
chain_star_inner top k d e g = let h : cap (suc d) ≡ deeper (cap d) = omega arith in h ∙ ap deeper e ∙ sym g
chain_star_inner (starred p qs c) k d e g =
    let i = chain_star_inner c k d e g in let h : cap (suc (abstract_in c d)) ≡ deeper (cap (abstract_in c d)) = omega arith in h ∙ ap deeper i
chain_star_inner (opened p c) k d e g =
    let i = chain_star_inner c k d e g in let h : cap (suc (abstract_in c d)) ≡ deeper (cap (abstract_in c d)) = omega arith in h ∙ ap deeper i

-- the marks above the last star or parenthesis of an abstract declarator
abbrev pub star_in : Chain → ℕ → ℕ
star_in top d = d
star_in (starred p qs c) d = abstract_in c d
star_in (opened p c) d = abstract_in c d

pub chain_star_depth : (c : Chain) (k : Stack) (d : ℕ) → cap d ≡ (nest_of k).depth → (nest_of k).star_depth ≡ (nest_of k).depth → (nest_of k).star_inner ≡ deeper (nest_of k).depth
    → cap (star_in c d) ≡ (nest_of (chain_stack c k)).star_depth
chain_star_depth top k d e f g = e ∙ sym f
chain_star_depth (starred p qs c) k d e f g = chain_star_inner c k d e g
chain_star_depth (opened p c) k d e f g = chain_star_inner c k d e g

pub chain_deepest : (c : Chain) (k : Stack) → (nest_of (chain_stack c k)).deepest ≡ (nest_of k).deepest
chain_deepest top k = refl
chain_deepest (starred p qs c) k = chain_deepest c k
chain_deepest (opened p c) k = chain_deepest c k

pub chain_head : (c : Chain) (k : Stack) → (nest_of (chain_stack c k)).may_head ≡ cond (only_stars c) (nest_of k).may_head false
chain_head top k = refl
chain_head (starred p qs c) k = chain_head c k
chain_head (opened p c) k = refl

pub name_below : (c : Chain) (d : ℕ) → name_in c d ≤ chain_in c d
name_below top d = omega arith
name_below (starred p qs c) d = omega arith
name_below (opened p c) d = omega arith

pub star_below : (c : Chain) (d : ℕ) → star_in c d ≤ abstract_in c d
star_below top d = omega arith
star_below (starred p qs c) d = omega arith
star_below (opened p c) d = omega arith

-- the tokens of a chain, the deepest at these marks
pub record IsChain (L : List ℕ → List ℕ) (d height : ℕ) (r : List ℕ) : Type 0 where
  pub most : ℕ
  pub whole : highest (L r) ≡ max most (highest r)
  pub height_is : cap (max d most) ≡ cap height

join_most : (d a i q n : ℕ) → cap (max d i) ≡ cap n → n ≤ a → cap (max a q) ≡ over a 0 → cap (max d (max i (max a q))) ≡ cap a
join_most d a i q n e h g = omega arith

pub chain_high : (c : Chain) (d : ℕ) (r : List ℕ) → IsChain (λ s. chain_nest c d s) d (name_in c d) r
chain_high top d r = record { most = 0; whole = omega arith; height_is = omega arith }
chain_high (starred p qs c) d r =
    let q : IsTall (λ n s. qualifiers_nest qs n s) 0 (chain_in c d) r = qualifiers_tall qs (chain_in c d) r in
    let i : IsChain (λ s. chain_nest c d s) d (name_in c d) (chain_in c d ∷ qualifiers_nest qs (chain_in c d) r) = chain_high c d (chain_in c d ∷ qualifiers_nest qs (chain_in c d) r) in
    record {
      most = max i.most (max (chain_in c d) q.most);
      whole = let x = i.whole in let y = q.whole in omega arith;
      height_is = join_most d (chain_in c d) i.most q.most (name_in c d) i.height_is (name_below c d) q.height_is;
    }
chain_high (opened p c) d r =
    let i : IsChain (λ s. chain_nest c d s) d (name_in c d) (chain_in c d ∷ r) = chain_high c d (chain_in c d ∷ r) in
    record {
      most = max i.most (chain_in c d);
      whole = let x = i.whole in omega arith;
      height_is = let e = i.height_is in let h = name_below c d in omega arith;
    }

pub abstract_high : (c : Chain) (d : ℕ) (r : List ℕ) → IsChain (λ s. abstract_chain_nest c d s) d (star_in c d) r
abstract_high top d r = record { most = 0; whole = omega arith; height_is = omega arith }
abstract_high (starred p qs c) d r =
    let q : IsTall (λ n s. qualifiers_nest qs n s) 0 (abstract_in c d) r = qualifiers_tall qs (abstract_in c d) r in
    let i : IsChain (λ s. abstract_chain_nest c d s) d (star_in c d) (abstract_in c d ∷ qualifiers_nest qs (abstract_in c d) r) = abstract_high c d (abstract_in c d ∷ qualifiers_nest qs (abstract_in c d) r) in
    record {
      most = max i.most (max (abstract_in c d) q.most);
      whole = let x = i.whole in let y = q.whole in omega arith;
      height_is = join_most d (abstract_in c d) i.most q.most (star_in c d) i.height_is (star_below c d) q.height_is;
    }
abstract_high (opened p c) d r =
    let i : IsChain (λ s. abstract_chain_nest c d s) d (star_in c d) (abstract_in c d ∷ r) = abstract_high c d (abstract_in c d ∷ r) in
    record {
      most = max i.most (abstract_in c d);
      whole = let x = i.whole in omega arith;
      height_is = let e = i.height_is in let h = star_below c d in omega arith;
    }

pub head_high : (c : Chain) (r : List ℕ) → IsChain (λ s. head_nest c s) 0 0 r
head_high top r = record { most = 0; whole = omega arith; height_is = refl }
head_high (starred p qs c) r =
    let q : IsTall (λ n s. qualifiers_nest qs n s) 0 0 r = qualifiers_tall qs 0 r in
    let i : IsChain (λ s. head_nest c s) 0 0 (0 ∷ qualifiers_nest qs 0 r) = head_high c (0 ∷ qualifiers_nest qs 0 r) in
    record {
      most = max i.most q.most;
      whole = let x = i.whole in let y = q.whole in omega arith;
      height_is = let e = i.height_is in let g = q.height_is in omega arith;
    }
head_high (opened p c) r =
    let i : IsChain (λ s. head_nest c s) 0 0 (0 ∷ r) = head_high c (0 ∷ r) in
    record { most = i.most; whole = let x = i.whole in omega arith; height_is = i.height_is }

-- ## Suffixes: brackets and parameters behind a declarator

-- all with the token that begins the suffix
suffix_most : (i x s a d n h D : ℕ) → cap i ≡ D → cap (max d x) ≡ cap n → n ≤ a → a ≤ s → cap s ≡ over a h → cap (max i (max x s)) ≡ max D (over (cap a) h)
suffix_most i x s a d n h D p e g l q =
    let u : cap (max i (max x s)) ≡ max (cap i) (cap s) = omega arith in
    let v : over (cap a) h ≡ over a h = omega arith in cc

pub brackets_on : (N : List ℕ → List ℕ) (C : List ℕ → List ℕ) (I : Nesting) (d n a h : ℕ) (b b' : Nest)
    → Covers N d b → ((r : List ℕ) → IsChain C d n r) → Solid I h → n ≤ a → b'.deepest ≡ b.deepest → (inner : ℕ) → cap a ≡ inner
    → Covers (λ r. N (C (I a r))) a (under b' inner h)
brackets_on N C I d n a h b b' f g s le e inner w r = record {
  most = max (f (C (I a r))).most (max (g (I a r)).most (s a r).most);
  whole = let x = (f (C (I a r))).whole in let y = (g (I a r)).whole in let z = (s a r).whole in omega arith;
  deepest_is =
      let m = suffix_most (f (C (I a r))).most (g (I a r)).most (s a r).most a d n h b.deepest (f (C (I a r))).deepest_is (g (I a r)).height_is le (s a r).some (s a r).height_is in
      m ∙ ap (λ x. max x (over (cap a) h)) (sym e) ∙ ap (λ x. max b'.deepest (over x h)) w;
  depth_is = w;
  some = let z = (s a r).some in omega arith;
}

-- whether a declarator may head a function definition
items_head : (is : ItemsPart) (k : ItemsContext) → (nest_of (items_stack is k)).may_head ≡ false
items_head is (block_of p k) = refl
items_head is (function_body f s d p) = refl
items_head is (group_of gs ls k) = refl

and_false : (b c : Bool) → c ≡ false → (b && c) ≡ false
and_false true c e = e
and_false false c e = refl

cond_same : (b : Bool) → cond b false false ≡ false
cond_same true = refl
cond_same false = refl

and_true : (b c : Bool) → c ≡ true → (b && c) ≡ b
and_true true c e = e
and_true false c e = refl

-- the head of a function definition stands in a file, first, and declares no type
pub base_head : (k : DeclaratorContext) → (nest_of (declarator_stack k)).may_head ≡ may_define (declared_name 0 []) top k
base_head (init_context s no_init_declarators (in_file f)) = and_true (not (specs_part s).declares_types) true refl ∙ ap not (sym (declares_same s))
base_head (init_context s no_init_declarators (in_items is k)) = and_false (not (specs_part s).declares_types) _ (items_head (items_part is) k)
base_head (init_context s no_init_declarators (in_for_head p q k)) = and_false (not (specs_part s).declares_types) false refl
base_head (init_context s (init_declarators ds d p) k) = and_first (is_empty (with_init (inits_part ds) d).trees) (not (specs_part s).declares_types) (nest_of (declaration_stack k)).may_head (empty ds d)
  where
    and_first : (a b c : Bool) → a ≡ false → (a && b && c) ≡ false
    and_first a b c e = ap (λ x. x && b && c) e

    empty : (ds : InitDeclarators) (d : InitDeclarator) → is_empty (with_init (inits_part ds) d).trees ≡ false
    empty ds (init_declarator d i) = list_some (inits_part ds).trees (init_tree (decl_part d).tree (init_part i).tree)
base_head (member_context ms s ds k) = refl
base_head (parameter_context ps s k p) = refl

only_head : (c : Chain) (k : DeclaratorContext) → cond (only_stars c) (may_define (declared_name 0 []) top k) false ≡ may_define (declared_name 0 []) c k
only_head c (init_context s no_init_declarators (in_file f)) = refl
only_head c (init_context s no_init_declarators (in_items is k)) = cond_same (only_stars c)
only_head c (init_context s no_init_declarators (in_for_head p q k)) = cond_same (only_stars c)
only_head c (init_context s (init_declarators ds d p) k) = cond_same (only_stars c)
only_head c (member_context ms s ds k) = cond_same (only_stars c)
only_head c (parameter_context ps s k p) = cond_same (only_stars c)

pub head_code : (c : Chain) (k : DeclaratorContext) → (nest_of (chain_stack c (declarator_stack k))).may_head ≡ may_define (declared_name 0 []) c k
head_code c k = chain_head c (declarator_stack k) ∙ ap (λ b. cond (only_stars c) b false) (base_head k) ∙ only_head c k

bare_define : (d : Declarator) (c : Chain) (k : DeclaratorContext) → may_define d c k ≡ (is_bare (decl_part d).shape && may_define (declared_name 0 []) c k)
bare_define (declared_name p x) c (init_context s no_init_declarators (in_file f)) = refl
bare_define (declared_name p x) c (init_context s no_init_declarators (in_items is k)) = refl
bare_define (declared_name p x) c (init_context s no_init_declarators (in_for_head q l k)) = refl
bare_define (declared_name p x) c (init_context s (init_declarators ds d q) k) = refl
bare_define (declared_name p x) c (member_context ms s ds k) = refl
bare_define (declared_name p x) c (parameter_context ps s k q) = refl
bare_define (pointer p qs d) c k = sym (not_bare (is_bare (pointed_shape (decl_part d).shape)) (may_define (declared_name 0 []) c k) (pointed_bare (decl_part d).shape))
  where
    not_bare : (a b : Bool) → a ≡ false → (a && b) ≡ false
    not_bare a b e = ap (λ x. x && b) e
bare_define (parenthesized_declarator p d q) c k = refl
bare_define (array d p l q) c k = refl
bare_define (function d p ps q) c k = sym (not_bare (is_bare (function_shape (decl_part d).shape)) (may_define (declared_name 0 []) c k) (function_bare (decl_part d).shape))
  where
    not_bare : (a b : Bool) → a ≡ false → (a && b) ≡ false
    not_bare a b e = ap (λ x. x && b) e

pub define_code : (d : Declarator) (c : Chain) (k : DeclaratorContext)
    → may_define d c k ≡ (is_bare (decl_part d).shape && (nest_of (chain_stack c (declarator_stack k))).may_head)
define_code d c k = bare_define d c k ∙ ap (λ b. is_bare (decl_part d).shape && b) (sym (head_code c k))
