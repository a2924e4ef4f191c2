-- What was read can only be nested deeper later on.
use Rattle.std.proofs.Common.{◌≡◌, ℕ, ◌≤◌, Bool, true, false, cond, List, [], ◌∷◌, Option, Some, None, refl, ap, arith, suc, not}
use Rattle.c_grammar.specs.Tokens.{Identifier, Place, Star, Equals, Void, Qualifier, Name, Op, Assignment, Qualify, LeftBrace, LeftParen, RightParen, LeftBracket, Semicolon, Comma, Token, token}
use Rattle.c_grammar.specs.Derivations.{Qualifiers, no_qualifiers, qualified, first_word, TypeName, type_name, Specifiers, no_specifiers, type_words, Members, Declarators, Declarator, declared_name, pointer, parenthesized_declarator, array, function, Length, AbstractDeclarator, no_declarator, abstract_pointer, parenthesized_abstract, abstract_array, abstract_function, Parameters, EarlierParameters, no_earlier, Parameter, named_parameter, unnamed_parameter, no_initializer, InitDeclarator, init_declarator, InitDeclarators, no_init_declarators, declaration, no_items, File}
use Rattle.c_grammar.specs.Spelling.{is_typedef, declares_types, is_direct, is_some_declarator, is_function_head}
use Rattle.c_grammar.specs.Contexts.{function_body, DeclarationContext, in_file, in_items, in_for_head, Chain, top, starred, opened, Suffixed, of_declarator, of_abstract, TypeNameContext, in_cast, in_sizeof, CompositeContext, DeclaratorContext, init_context, member_context, parameter_context, AbstractContext, parameter_abstract, type_name_abstract, suffixed_names, declarator_context_names}
use Rattle.c_grammar.specs.Machine.{State, at_items, declared, array_of, function_of, lone_list, list_of, on_init_declarator, on_declarator, on_parameter, on_type_named, on_abstract_end, close_abstract, climb_abstract, on_parameter_name, on_abstract, on_starred, on_starred_abstract, on_function_body, on_declared, on_member, on_declarator_end, close_declarator, climb, on_direct, on_direct_abstract}
use Rattle.c_grammar.specs.Nesting.{qualifiers_nest, type_name_nest, specifiers_nest, declarator_nest, inner_nest, length_nest, abstract_nest, direct_nest, parameters_nest, earlier_nest, parameter_nest, init_declarator_nest, init_declarators_nest}
use Rattle.c_grammar.proofs.Endings.{may_head}
use Rattle.c_grammar.proofs.Nests.{declaration_depth, chain_in, abstract_in, name_in, array_depth, function_depth, type_name_depth, composite_depth, declarator_depth, abstract_depth, declaration_nests, chain_nest, abstract_chain_nest, head_nest, array_nests, function_nests, type_name_nests, declarator_nests, abstract_nests, at_declarator_nests, after_declarator_nests, at_abstract_nests, state_nest}
use Rattle.c_grammar.proofs.Below.{Le, le_nil, le_cons, le_list, le_cond, qualifiers_le, specifiers_le, declarator_le, inner_le, abstract_le, direct_le, earlier_le, parameter_le, chain_le, abstract_chain_le, head_le, array_les, function_les, declarator_les, abstract_les, le_trans, rising}

abbrev pub Rises : List ℕ → Option State → Type 0
Rises ns None = Unit {0}
Rises ns (Some s) = Le ns (state_nest s [])

pub cond_rises : (ns : List ℕ) (b : Bool) (x y : Option State) → (b ≡ true → Rises ns x) → (b ≡ false → Rises ns y) → Rises ns (cond b x y)
cond_rises ns true x y h g = h refl
cond_rises ns false x y h g = g refl

-- from higher nestings on
pub rises_from : (ns ms : List ℕ) (o : Option State) → Le ns ms → Rises ms o → Rises ns o
rises_from ns ms None e h = tt
rises_from ns ms (Some s) e h = le_trans ns ms (state_nest s []) e h

-- a choice below both
pub cond_le : (b : Bool) (x y z : List ℕ) → Le x z → Le y z → Le (cond b x y) z
cond_le true x y z h k = h
cond_le false x y z h k = k

-- ## Declarators

pub head_below : (c : Chain) (n : ℕ) (r r' : List ℕ) → Le r r' → Le (head_nest c r) (chain_nest c n r')
head_below top n r r' h = h
head_below (starred p qs c) n r r' h =
    head_below c n (0 ∷ qualifiers_nest qs 0 r) (chain_in c n ∷ qualifiers_nest qs (chain_in c n) r')
    (le_cons 0 (chain_in c n) _ _ (omega arith) (qualifiers_le qs 0 (chain_in c n) r r' (omega arith) h))
head_below (opened p c) n r r' h = head_below c n (0 ∷ r) (chain_in c n ∷ r') (le_cons 0 (chain_in c n) r r' (omega arith) h)

pub name_below : (c : Chain) (n : ℕ) → name_in c n ≤ chain_in c n
name_below top n = omega arith
name_below (starred p qs c) n = omega arith
name_below (opened p c) n = omega arith

-- a chain as that of an abstract declarator
pub chain_below : (c : Chain) (n : ℕ) → chain_in c n ≤ abstract_in c n
chain_below top n = omega arith
chain_below (starred p qs c) n = let h : chain_in c n ≤ abstract_in c n = chain_below c n in omega (arith, h)
chain_below (opened p c) n = let h : chain_in c n ≤ abstract_in c n = chain_below c n in omega (arith, h)

pub abstract_chain_above : (c : Chain) (n : ℕ) (r r' : List ℕ) → Le r r' → Le (chain_nest c n r) (abstract_chain_nest c n r')
abstract_chain_above top n r r' h = h
abstract_chain_above (starred p qs c) n r r' h =
    abstract_chain_above c n _ _ (le_cons (chain_in c n) (abstract_in c n) _ _ (chain_below c n) (qualifiers_le qs (chain_in c n) (abstract_in c n) r r' (chain_below c n) h))
abstract_chain_above (opened p c) n r r' h = abstract_chain_above c n _ _ (le_cons (chain_in c n) (abstract_in c n) r r' (chain_below c n) h)

-- whether a declarator may be the head of a function, or the name of one
abbrev pub is_open_head : Declarator → Bool
is_open_head (declared_name p x) = true
is_open_head (pointer p qs d) = is_open_head d
is_open_head (function (declared_name p x) q ps l) = true
is_open_head _ = false

abbrev pub whole_nest : Declarator → Chain → ℕ → List ℕ → List ℕ
whole_nest (declared_name p x) c n r = name_in c n ∷ r
whole_nest (pointer p qs d) c n r = inner_nest (pointer p qs d) (chain_in c n) r
whole_nest (parenthesized_declarator p d q) c n r = inner_nest (parenthesized_declarator p d q) (chain_in c n) r
whole_nest (array d p l q) c n r = inner_nest (array d p l q) (chain_in c n) r
whole_nest (function d p ps q) c n r = inner_nest (function d p ps q) (chain_in c n) r

-- the least nesting of a whole declarator in a chain
abbrev pub best_nests : Declarator → Chain → DeclaratorContext → List ℕ → List ℕ
best_nests d c k r =
    cond (cond (is_open_head d) (may_head c k) false) (declarator_nests k (head_nest c (inner_nest d 0 r)))
    (declarator_nests k (chain_nest c (declarator_depth k) (whole_nest d c (declarator_depth k) r)))

pub inner_declarator : (d : Declarator) (m n : ℕ) (r r' : List ℕ) → m ≤ n → Le r r' → Le (inner_nest d m r) (declarator_nest d n r')
inner_declarator (declared_name p x) m n r r' h k = le_cons m n r r' h k
inner_declarator (pointer p qs d) m n r r' h k = inner_le (pointer p qs d) m (suc n) r r' (omega (arith, h)) k
inner_declarator (parenthesized_declarator p d q) m n r r' h k = inner_le (parenthesized_declarator p d q) m (suc n) r r' (omega (arith, h)) k
inner_declarator (array d p l q) m n r r' h k = inner_le (array d p l q) m (suc n) r r' (omega (arith, h)) k
inner_declarator (function d p ps q) m n r r' h k = inner_le (function d p ps q) m (suc n) r r' (omega (arith, h)) k

pub whole_top : (d : Declarator) (n : ℕ) (r r' : List ℕ) → Le r r' → Le (whole_nest d top n r) (declarator_nest d n r')
whole_top (declared_name p x) n r r' k = declarator_le (declared_name p x) n n r r' (omega arith) k
whole_top (pointer p qs d) n r r' k = declarator_le (pointer p qs d) n n r r' (omega arith) k
whole_top (parenthesized_declarator p d q) n r r' k = declarator_le (parenthesized_declarator p d q) n n r r' (omega arith) k
whole_top (array d p l q) n r r' k = declarator_le (array d p l q) n n r r' (omega arith) k
whole_top (function d p ps q) n r r' k = declarator_le (function d p ps q) n n r r' (omega arith) k

pub whole_opened : (d : Declarator) (p : Place) (c : Chain) (n : ℕ) (r r' : List ℕ) → Le r r' → Le (whole_nest d (opened p c) n r) (declarator_nest d (chain_in c n) r')
whole_opened (declared_name q x) p c n r r' k = declarator_le (declared_name q x) (chain_in c n) (chain_in c n) r r' (omega arith) k
whole_opened (pointer q qs d) p c n r r' k = declarator_le (pointer q qs d) (chain_in c n) (chain_in c n) r r' (omega arith) k
whole_opened (parenthesized_declarator q d l) p c n r r' k = declarator_le (parenthesized_declarator q d l) (chain_in c n) (chain_in c n) r r' (omega arith) k
whole_opened (array d q m l) p c n r r' k = declarator_le (array d q m l) (chain_in c n) (chain_in c n) r r' (omega arith) k
whole_opened (function d q ps l) p c n r r' k = declarator_le (function d q ps l) (chain_in c n) (chain_in c n) r r' (omega arith) k

pub best_top : (d : Declarator) (k : DeclaratorContext) (r r' : List ℕ) → Le r r'
    → Le (best_nests d top k r) (declarator_nests k (declarator_nest d (declarator_depth k) r'))
best_top d k r r' h =
    cond_le _ _ _ _ (declarator_les k _ _ (inner_declarator d 0 (declarator_depth k) r r' (omega arith) h)) (declarator_les k _ _ (whole_top d (declarator_depth k) r r' h))

pub star_best : (d : Declarator) (p : Place) (qs : Qualifiers) (c : Chain) (k : DeclaratorContext) (r : List ℕ)
    → Le (best_nests d (starred p qs c) k r) (best_nests (pointer p qs d) c k r)
star_best (declared_name q x) p qs c k r = le_list _
star_best (pointer q rs d) p qs c k r = le_list _
star_best (parenthesized_declarator q d l) p qs c k r = le_list _
star_best (array d q m l) p qs c k r = le_list _
star_best (function d q ps l) p qs c k r = le_list _

pub head_open : (d : Declarator) → is_function_head d ≡ true → is_open_head d ≡ true
head_open (pointer p qs d) h = head_open d h
head_open (function (declared_name p x) q ps l) h = refl
head_open (declared_name p x) h = refl
head_open _ h = h

pub lone_list_nest : (s : Specifiers) (n : ℕ) (r r' : List ℕ) → Le r r' → Le (specifiers_nest s n r) (parameters_nest (lone_list s) n r')
lone_list_nest (type_words no_specifiers (first_word p Void)) n r r' h = le_cons n n r r' (omega arith) h
lone_list_nest s n r r' h = specifiers_le s n n r r' (omega arith) h

pub lists_rise : (ps : EarlierParameters) (x : Parameter) (n : ℕ) (r r' : List ℕ) → Le r r'
    → Le (earlier_nest ps n (parameter_nest x n r)) (parameters_nest (list_of ps x) n r')
lists_rise no_earlier (unnamed_parameter s no_declarator) n r r' h = lone_list_nest s n r r' h
lists_rise ps x n r r' h = earlier_le ps n n _ _ (omega arith) (parameter_le x n n r r' (omega arith) h)

pub function_rises : (k : Suffixed) (p : Place) (ps : Parameters) (q : Place) (xs : List ℕ)
    → Le xs (parameters_nest ps (function_depth k) (function_depth k ∷ [])) → Le (function_nests k (function_depth k ∷ xs)) (state_nest (function_of k p ps q) [])
function_rises (of_declarator d c k) p ps q xs h =
    function_les (of_declarator d c k) _ _ (le_cons _ _ _ _ (omega arith) h)
function_rises (of_abstract a c k) p ps q xs h = function_les (of_abstract a c k) _ _ (le_cons _ _ _ _ (omega arith) h)

pub array_rises : (k : Suffixed) (p : Place) (n : Length) (q : Place) (xs : List ℕ)
    → Le xs (length_nest n (array_depth k) (array_depth k ∷ [])) → Le (array_nests k (array_depth k ∷ xs)) (state_nest (array_of k p n q) [])
array_rises (of_declarator d c k) p n q xs h = array_les (of_declarator d c k) _ _ (le_cons _ _ _ _ (omega arith) h)
array_rises (of_abstract a c k) p n q xs h = array_les (of_abstract a c k) _ _ (le_cons _ _ _ _ (omega arith) h)

pub on_parameter_rises : (ps : EarlierParameters) (k : Suffixed) (p : Place) (x : Parameter) (t : Token)
    → Rises (function_nests k (function_depth k ∷ earlier_nest ps (function_depth k) (parameter_nest x (function_depth k) []))) (on_parameter ps k p x t)
on_parameter_rises ps k p x (token Comma q) = search (rising, arith)
on_parameter_rises ps k p x (token RightParen q) = function_rises k p (list_of ps x) q _ (lists_rise ps x (function_depth k) [] _ (le_nil _))
on_parameter_rises ps k p x _ = tt

pub cond_le_true : (b : Bool) (x y z : List ℕ) → b ≡ true → Le x z → Le (cond b x y) z
cond_le_true true x y z e h = h
cond_le_true false x y z e h = let bad : false ≡ true = e in cc

pub le_cond_false : (b : Bool) (x y z : List ℕ) → b ≡ false → Le x z → Le x (cond b y z)
le_cond_false false x y z e h = h
le_cond_false true x y z e h = let bad : true ≡ false = e in cc

pub le_cond_both : (b : Bool) (x y z : List ℕ) → Le x y → Le x z → Le x (cond b y z)
le_cond_both true x y z h k = h
le_cond_both false x y z h k = k

pub and_true : (a b : Bool) → a ≡ true → b ≡ true → cond a b false ≡ true
and_true true b h k = k
and_true false b h k = let bad : false ≡ true = h in cc

pub declared_rises : (k : DeclarationContext) (s : Specifiers) (ds : InitDeclarators) (d : InitDeclarator) (p : Place)
    → Le (declaration_nests k (specifiers_nest s (declaration_depth k) (init_declarators_nest ds (declaration_depth k) (init_declarator_nest d (declaration_depth k) []))))
    (state_nest (declared k (declaration s ds d p)) [])
declared_rises (in_file f) s ds d p = search (rising, arith)
declared_rises (in_items is k) s ds d p = search (rising, arith)
declared_rises (in_for_head q l k) s ds d p = search (rising, arith)

pub on_init_declarator_rises : (s : Specifiers) (ds : InitDeclarators) (k : DeclarationContext) (d : InitDeclarator) (t : Token)
    → Rises (declaration_nests k (specifiers_nest s (declaration_depth k) (init_declarators_nest ds (declaration_depth k) (init_declarator_nest d (declaration_depth k) []))))
    (on_init_declarator s ds k d t)
on_init_declarator_rises s ds k d (token Semicolon p) = declared_rises k s ds d p
on_init_declarator_rises s ds k d (token Comma p) = search (rising, arith)
on_init_declarator_rises s ds k d _ = tt

pub body_rises : (d : Declarator) (s : Specifiers) (f : File) (p : Place) → is_function_head d ≡ true → declares_types s ≡ false
    → Le (best_nests d top (init_context s no_init_declarators (in_file f)) []) (state_nest (at_items no_items (function_body f s d p)) [])
body_rises d s f p h n =
    cond_le_true _ _ _ _ (and_true (is_open_head d) (not (declares_types s)) (head_open d h) (ap not n)) (search (rising, arith))

pub on_function_body_rises : (d : Declarator) (s : Specifiers) (ds : InitDeclarators) (k : DeclarationContext) (p : Place)
    → Rises (best_nests d top (init_context s ds k) []) (on_function_body d s ds k p)
on_function_body_rises d s no_init_declarators (in_file f) p =
    cond_rises _ (is_function_head d) _ _ (λ a. cond_rises _ (declares_types s) _ _ (λ b. tt) (λ b. body_rises d s f p a b)) (λ a. tt)
on_function_body_rises d s _ _ p = tt

pub on_declared_rises : (d : Declarator) (s : Specifiers) (ds : InitDeclarators) (k : DeclarationContext) (t : Token)
    → Rises (best_nests d top (init_context s ds k) []) (on_declared d s ds k t)
on_declared_rises d s ds k (token (Assignment Equals) p) = best_top d (init_context s ds k) [] (declaration_depth k ∷ []) (le_nil _)
on_declared_rises d s ds k (token LeftBrace p) = on_function_body_rises d s ds k p
on_declared_rises d s ds k t =
    rises_from _ _ (on_init_declarator s ds k (init_declarator d no_initializer) t) (best_top d (init_context s ds k) [] [] (le_nil _))
    (on_init_declarator_rises s ds k (init_declarator d no_initializer) t)

pub on_member_rises : (d : Declarator) (ms : Members) (s : Specifiers) (ds : Declarators) (k : CompositeContext) (t : Token)
    → Rises (best_nests d top (member_context ms s ds k) []) (on_member d ms s ds k t)
on_member_rises d ms s ds k (token Comma p) = best_top d (member_context ms s ds k) [] (composite_depth k ∷ []) (le_nil _)
on_member_rises d ms s ds k (token Semicolon p) = best_top d (member_context ms s ds k) [] (composite_depth k ∷ []) (le_nil _)
on_member_rises d ms s ds k _ = tt

pub on_declarator_end_rises : (d : Declarator) (k : DeclaratorContext) (t : Token) → Rises (best_nests d top k []) (on_declarator_end d k t)
on_declarator_end_rises d (init_context s ds k) t = on_declared_rises d s ds k t
on_declarator_end_rises d (member_context ms s ds k) t = on_member_rises d ms s ds k t
on_declarator_end_rises d (parameter_context ps s k p) t =
    rises_from _ _ (on_parameter ps k p (named_parameter s d) t) (best_top d (parameter_context ps s k p) [] [] (le_nil _))
    (on_parameter_rises ps k p (named_parameter s d) t)

pub close_declarator_rises : (d : Declarator) (p : Place) (c : Chain) (k : DeclaratorContext) (t : Token)
    → Rises (best_nests d (opened p c) k []) (close_declarator d p c k t)
close_declarator_rises d p c k (token RightParen q) =
    let n : ℕ = declarator_depth k in
    let m : ℕ = chain_in c n in
    cond_le _ _ _ _
    (declarator_les k _ _ (head_below c n (0 ∷ inner_nest d 0 []) (m ∷ declarator_nest d m (m ∷ []))
    (le_cons 0 m _ _ (omega arith) (inner_declarator d 0 m [] (m ∷ []) (omega arith) (le_nil _)))))
    (declarator_les k _ _ (chain_le c n (m ∷ whole_nest d (opened p c) n []) (m ∷ declarator_nest d m (m ∷ []))
    (le_cons m m _ _ (omega arith) (whole_opened d p c n [] (m ∷ []) (le_nil _)))))
close_declarator_rises d p c k _ = tt

pub climb_rises : (d : Declarator) (c : Chain) (k : DeclaratorContext) (t : Token) → Rises (best_nests d c k []) (climb d c k t)
climb_rises d top k t = on_declarator_end_rises d k t
climb_rises d (starred p qs c) k t = rises_from _ _ (climb (pointer p qs d) c k t) (star_best d p qs c k []) (climb_rises (pointer p qs d) c k t)
climb_rises d (opened p c) k t = close_declarator_rises d p c k t

pub pick : (b : Bool) (f g : ℕ → List ℕ) (m : ℕ) → Le (cond b (f (cond b 0 m)) (g (cond b 0 m))) (cond b (f 0) (g m))
pick true f g m = le_list _
pick false f g m = le_list _

pub function_best : (d : Declarator) (p : Place) (ps : Parameters) (q : Place) (c : Chain) (k : DeclaratorContext)
    → Le (after_declarator_nests (function d p ps q) c k []) (best_nests (function d p ps q) c k [])
function_best (declared_name l x) p ps q c k =
    pick (may_head c k) (λ i. declarator_nests k (head_nest c (0 ∷ i ∷ parameters_nest ps i (i ∷ []))))
    (λ i. declarator_nests k (chain_nest c (declarator_depth k) (chain_in c (declarator_depth k) ∷ i ∷ parameters_nest ps i (i ∷ [])))) (chain_in c (declarator_depth k))
function_best (pointer l qs d) p ps q c k = le_list _
function_best (parenthesized_declarator l d m) p ps q c k = le_list _
function_best (array d l n m) p ps q c k = le_list _
function_best (function d l xs m) p ps q c k = le_list _

pub direct_best : (d : Declarator) (c : Chain) (k : DeclaratorContext) → is_direct d ≡ true → Le (after_declarator_nests d c k []) (best_nests d c k [])
direct_best (declared_name p x) c k h = le_list _
direct_best (pointer p qs d) c k h = let bad : false ≡ true = h in cc
direct_best (parenthesized_declarator p d q) c k h = le_list _
direct_best (array d p n q) c k h = le_list _
direct_best (function d p ps q) c k h = function_best d p ps q c k

pub whole_inner : (d : Declarator) (c : Chain) (n : ℕ) (r r' : List ℕ) → Le r r' → Le (whole_nest d c n r) (inner_nest d (chain_in c n) r')
whole_inner (declared_name p x) c n r r' h = le_cons (name_in c n) (chain_in c n) r r' (name_below c n) h
whole_inner (pointer p qs d) c n r r' h = inner_le (pointer p qs d) (chain_in c n) (chain_in c n) r r' (omega arith) h
whole_inner (parenthesized_declarator p d q) c n r r' h = inner_le (parenthesized_declarator p d q) (chain_in c n) (chain_in c n) r r' (omega arith) h
whole_inner (array d p m q) c n r r' h = inner_le (array d p m q) (chain_in c n) (chain_in c n) r r' (omega arith) h
whole_inner (function d p ps q) c n r r' h = inner_le (function d p ps q) (chain_in c n) (chain_in c n) r r' (omega arith) h

pub best_array : (d : Declarator) (c : Chain) (k : DeclaratorContext) (r r' : List ℕ) → Le r r' → Le (best_nests d c k r) (array_nests (of_declarator d c k) r')
best_array d c k r r' h =
    cond_le _ _ _ _
    (declarator_les k _ _ (head_below c (declarator_depth k) _ _ (inner_le d 0 (chain_in c (declarator_depth k)) r r' (omega arith) h)))
    (declarator_les k _ _ (chain_le c (declarator_depth k) _ _ (whole_inner d c (declarator_depth k) r r' h)))

pub paren_rises : (d : Declarator) (c : Chain) (k : DeclaratorContext) → is_direct d ≡ true
    → Le (after_declarator_nests d c k []) (function_nests (of_declarator d c k) (function_depth (of_declarator d c k) ∷ []))
paren_rises (declared_name p x) c k h =
    le_cond (may_head c k) _ _ _ _ (declarator_les k _ _ (head_le c (0 ∷ []) (0 ∷ function_depth (of_declarator (declared_name p x) c k) ∷ []) (le_cons 0 0 _ _ (omega arith) (le_nil _))))
    (declarator_les k _ _ (chain_le c (declarator_depth k) (name_in c (declarator_depth k) ∷ [])
    (chain_in c (declarator_depth k) ∷ function_depth (of_declarator (declared_name p x) c k) ∷ [])
    (le_cons (name_in c (declarator_depth k)) (chain_in c (declarator_depth k)) _ _ (name_below c (declarator_depth k)) (le_nil _))))
paren_rises (pointer p qs d) c k h = let bad : false ≡ true = h in cc
paren_rises (parenthesized_declarator p d q) c k h =
    le_trans _ _ _ (direct_best (parenthesized_declarator p d q) c k h) (best_array (parenthesized_declarator p d q) c k [] _ (le_nil _))
paren_rises (array d p n q) c k h = le_trans _ _ _ (direct_best (array d p n q) c k h) (best_array (array d p n q) c k [] _ (le_nil _))
paren_rises (function d p ps q) c k h = le_trans _ _ _ (direct_best (function d p ps q) c k h) (best_array (function d p ps q) c k [] _ (le_nil _))

pub on_direct_rises : (d : Declarator) (c : Chain) (k : DeclaratorContext) (t : Token) → is_direct d ≡ true
    → Rises (after_declarator_nests d c k []) (on_direct d c k t)
on_direct_rises d c k (token LeftBracket p) h =
    le_trans _ _ _ (direct_best d c k h) (best_array d c k [] (array_depth (of_declarator d c k) ∷ []) (le_nil _))
on_direct_rises d c k (token LeftParen p) h = paren_rises d c k h
on_direct_rises d c k t h = rises_from _ _ (climb d c k t) (direct_best d c k h) (climb_rises d c k t)

pub opened_no_head : (p : Place) (c : Chain) (k : DeclaratorContext) → may_head (opened p c) k ≡ false
opened_no_head p c (init_context s no_init_declarators (in_file f)) = refl
opened_no_head p c _ = refl

pub on_declarator_rises : (c : Chain) (k : DeclaratorContext) (t : Token) → Rises (at_declarator_nests c k []) (on_declarator c k t)
on_declarator_rises c k (token (Name x) p) =
    cond_rises _ (is_typedef (declarator_context_names k) x) _ _ (λ b. tt)
    (λ b. le_cond (may_head c k) _ _ _ _ (declarator_les k _ _ (head_le c _ _ (le_nil _))) (declarator_les k _ _ (chain_le c (declarator_depth k) _ _ (le_nil _))))
on_declarator_rises c k (token (Op Star) p) =
    le_cond (may_head c k) _ _ _ _ (declarator_les k _ _ (head_le c [] (0 ∷ []) (le_nil _)))
    (declarator_les k _ _ (chain_le c (declarator_depth k) [] (chain_in c (declarator_depth k) ∷ []) (le_nil _)))
on_declarator_rises c k (token LeftParen p) =
    le_cond_false (may_head (opened p c) k) _ _ _ (opened_no_head p c k)
    (cond_le (may_head c k) _ _ _ (declarator_les k _ _ (head_below c (declarator_depth k) [] (chain_in c (declarator_depth k) ∷ []) (le_nil _)))
    (declarator_les k _ _ (chain_le c (declarator_depth k) [] (chain_in c (declarator_depth k) ∷ []) (le_nil _))))
on_declarator_rises c k _ = tt

pub on_starred_rises : (c : Chain) (k : DeclaratorContext) (t : Token) → Rises (at_declarator_nests c k []) (on_starred c k t)
on_starred_rises (starred p qs c) k (token (Qualify q) l) =
    le_cond (may_head c k) _ _ _ _
    (declarator_les k _ _ (head_le c (0 ∷ qualifiers_nest qs 0 []) (0 ∷ qualifiers_nest qs 0 (0 ∷ [])) (search (rising, arith))))
    (declarator_les k _ _ (chain_le c (declarator_depth k) (chain_in c (declarator_depth k) ∷ qualifiers_nest qs (chain_in c (declarator_depth k)) [])
    (chain_in c (declarator_depth k) ∷ qualifiers_nest qs (chain_in c (declarator_depth k)) (chain_in c (declarator_depth k) ∷ [])) (search (rising, arith))))
on_starred_rises c k t = on_declarator_rises c k t

-- ## Abstract declarators

abbrev pub abstract_out : Chain → ℕ → ℕ
abstract_out top n = n
abstract_out (starred p qs c) n = abstract_in c n
abstract_out (opened p c) n = abstract_in c n

pub in_out : (c : Chain) (n : ℕ) → abstract_in c n ≤ suc (abstract_out c n)
in_out top n = omega arith
in_out (starred p qs c) n = omega arith
in_out (opened p c) n = omega arith

-- a whole abstract declarator in a chain
abbrev pub whole_abstract : AbstractDeclarator → Chain → AbstractContext → List ℕ → List ℕ
whole_abstract a c k r = abstract_nests k (abstract_chain_nest c (abstract_depth k) (abstract_nest a (abstract_out c (abstract_depth k)) r))

pub direct_whole : (a : AbstractDeclarator) (m n : ℕ) (r r' : List ℕ) → m ≤ suc n → Le r r' → Le (direct_nest a m r) (abstract_nest a n r')
direct_whole no_declarator m n r r' h k = k
direct_whole (abstract_pointer p qs a) m n r r' h k =
    le_cons m (suc n) _ _ h (qualifiers_le qs m (suc n) _ _ h (abstract_le a m (suc n) r r' h k))
direct_whole (parenthesized_abstract p a q) m n r r' h k =
    le_cons m (suc n) _ _ h (abstract_le a m (suc n) (m ∷ r) (suc n ∷ r') h (le_cons m (suc n) r r' h k))
direct_whole (abstract_array a p l q) m n r r' h k = direct_le (abstract_array a p l q) m (suc n) r r' h k
direct_whole (abstract_function a p ps q) m n r r' h k = direct_le (abstract_function a p ps q) m (suc n) r r' h k

pub on_type_named_rises : (k : TypeNameContext) (n : TypeName) (t : Token) → Rises (type_name_nests k (type_name_nest n (type_name_depth k) [])) (on_type_named k n t)
on_type_named_rises (in_cast p k) n (token RightParen q) = search (rising, arith)
on_type_named_rises (in_sizeof p l k) n (token RightParen q) = search (rising, arith)
on_type_named_rises k n _ = tt

pub on_abstract_end_rises : (a : AbstractDeclarator) (k : AbstractContext) (t : Token) → Rises (whole_abstract a top k []) (on_abstract_end a k t)
on_abstract_end_rises a (parameter_abstract ps s k p) t = on_parameter_rises ps k p (unnamed_parameter s a) t
on_abstract_end_rises a (type_name_abstract s k) t = on_type_named_rises k (type_name s a) t

pub close_abstract_rises : (a : AbstractDeclarator) (p : Place) (c : Chain) (k : AbstractContext) (t : Token)
    → Rises (whole_abstract a (opened p c) k []) (close_abstract a p c k t)
close_abstract_rises a p c k (token RightParen q) =
    cond_rises _ (is_some_declarator a) _ _
    (λ b. abstract_les k _ _ (abstract_chain_le c (abstract_depth k) _ _ (search (rising, arith)))) (λ b. tt)
close_abstract_rises a p c k _ = tt

pub climb_abstract_rises : (a : AbstractDeclarator) (c : Chain) (k : AbstractContext) (t : Token) → Rises (whole_abstract a c k []) (climb_abstract a c k t)
climb_abstract_rises a top k t = on_abstract_end_rises a k t
climb_abstract_rises a (starred p qs c) k t =
    let n : ℕ = abstract_depth k in
    let m : ℕ = abstract_in c n in
    let u : ℕ = suc (abstract_out c n) in
    rises_from _ _ (climb_abstract (abstract_pointer p qs a) c k t)
    (abstract_les k _ _ (abstract_chain_le c n (m ∷ qualifiers_nest qs m (abstract_nest a m [])) (u ∷ qualifiers_nest qs u (abstract_nest a u []))
    (le_cons m u _ _ (in_out c n) (qualifiers_le qs m u _ _ (in_out c n) (abstract_le a m u [] [] (in_out c n) (le_nil _))))))
    (climb_abstract_rises (abstract_pointer p qs a) c k t)
climb_abstract_rises a (opened p c) k t = close_abstract_rises a p c k t

-- an abstract declarator that is none yet
pub none_rises : (c : Chain) (k : AbstractContext) (r r' : List ℕ) → Le r r'
    → Le (at_abstract_nests k c r) (abstract_nests k (abstract_chain_nest c (abstract_depth k) r'))
none_rises c (parameter_abstract ps s k p) r r' h = abstract_les (parameter_abstract ps s k p) _ _ (abstract_chain_above c (function_depth k) r r' h)
none_rises c (type_name_abstract s k) r r' h = abstract_les (type_name_abstract s k) _ _ (abstract_chain_le c (type_name_depth k) r r' h)

pub at_abstract_le : (k : AbstractContext) (c : Chain) (r r' : List ℕ) → Le r r' → Le (at_abstract_nests k c r) (at_abstract_nests k c r')
at_abstract_le (parameter_abstract ps s k p) c r r' h = abstract_les (parameter_abstract ps s k p) _ _ (chain_le c (function_depth k) r r' h)
at_abstract_le (type_name_abstract s k) c r r' h = abstract_les (type_name_abstract s k) _ _ (abstract_chain_le c (type_name_depth k) r r' h)

pub star_rises : (k : AbstractContext) (c : Chain) (p : Place) → Le (at_abstract_nests k c []) (at_abstract_nests k (starred p no_qualifiers c) [])
star_rises (parameter_abstract ps s k p) c l = abstract_les (parameter_abstract ps s k p) _ _ (chain_le c (function_depth k) [] _ (le_nil _))
star_rises (type_name_abstract s k) c l = abstract_les (type_name_abstract s k) _ _ (abstract_chain_le c (type_name_depth k) [] _ (le_nil _))

pub open_rises : (k : AbstractContext) (c : Chain) (p : Place) → Le (at_abstract_nests k c []) (at_abstract_nests k (opened p c) [])
open_rises (parameter_abstract ps s k p) c l = abstract_les (parameter_abstract ps s k p) _ _ (chain_le c (function_depth k) [] _ (le_nil _))
open_rises (type_name_abstract s k) c l = abstract_les (type_name_abstract s k) _ _ (abstract_chain_le c (type_name_depth k) [] _ (le_nil _))

pub qualified_rises : (k : AbstractContext) (p : Place) (qs : Qualifiers) (c : Chain) (l : Place) (q : Qualifier)
    → Le (at_abstract_nests k (starred p qs c) []) (at_abstract_nests k (starred p (qualified qs l q) c) [])
qualified_rises (parameter_abstract ps s k m) p qs c l q =
    abstract_les (parameter_abstract ps s k m) _ _ (chain_le c (function_depth k) _ _ (search (rising, arith)))
qualified_rises (type_name_abstract s k) p qs c l q =
    abstract_les (type_name_abstract s k) _ _ (abstract_chain_le c (type_name_depth k) _ _ (search (rising, arith)))

pub on_parameter_name_rises : (c : Chain) (k : AbstractContext) (x : Identifier) (p : Place) → Rises (at_abstract_nests k c []) (on_parameter_name c k x p)
on_parameter_name_rises c (parameter_abstract ps s k l) x p =
    cond_rises _ (is_typedef (suffixed_names k) x) _ _ (λ b. tt)
    (λ b. abstract_les (parameter_abstract ps s k l) _ _ (chain_le c (function_depth k) [] (name_in c (function_depth k) ∷ []) (le_nil _)))
on_parameter_name_rises c (type_name_abstract s k) x p = tt

pub on_abstract_rises : (c : Chain) (k : AbstractContext) (t : Token) → Rises (at_abstract_nests k c []) (on_abstract c k t)
on_abstract_rises c k (token (Name x) p) = on_parameter_name_rises c k x p
on_abstract_rises c k (token (Op Star) p) = star_rises k c p
on_abstract_rises c k (token LeftParen p) = open_rises k c p
on_abstract_rises c k (token LeftBracket p) = none_rises c k [] _ (le_nil _)
on_abstract_rises c k t = rises_from _ _ (climb_abstract no_declarator c k t) (none_rises c k [] [] (le_nil _)) (climb_abstract_rises no_declarator c k t)

pub on_starred_abstract_rises : (c : Chain) (k : AbstractContext) (t : Token) → Rises (at_abstract_nests k c []) (on_starred_abstract c k t)
on_starred_abstract_rises (starred p qs c) k (token (Qualify q) l) = qualified_rises k p qs c l q
on_starred_abstract_rises c k t = on_abstract_rises c k t

pub on_direct_abstract_rises : (a : AbstractDeclarator) (c : Chain) (k : AbstractContext) (t : Token)
    → Rises (array_nests (of_abstract a c k) []) (on_direct_abstract a c k t)
on_direct_abstract_rises a c k (token LeftBracket p) = array_les (of_abstract a c k) _ _ (le_nil _)
on_direct_abstract_rises a c k (token LeftParen p) = array_les (of_abstract a c k) _ _ (le_nil _)
on_direct_abstract_rises a c k t =
    rises_from _ _ (climb_abstract a c k t)
    (abstract_les k _ _ (abstract_chain_le c (abstract_depth k) _ _ (direct_whole a (abstract_in c (abstract_depth k)) (abstract_out c (abstract_depth k)) [] [] (in_out c (abstract_depth k)) (le_nil _))))
    (climb_abstract_rises a c k t)

-- behind a parenthesis it may be the parameters of none
pub none_opened : (c : Chain) (p : Place) (k : AbstractContext)
    → Le (at_abstract_nests k (opened p c) []) (abstract_nests k (abstract_chain_nest c (abstract_depth k) (abstract_in c (abstract_depth k) ∷ [])))
none_opened c l (parameter_abstract ps s k p) =
    abstract_les (parameter_abstract ps s k p) _ _ (abstract_chain_above c (function_depth k) _ _ (le_cons _ _ _ _ (chain_below c (function_depth k)) (le_nil _)))
none_opened c l (type_name_abstract s k) = le_list _
