-- The words of types, qualifiers and tags as they are printed, and parts in the parentheses that they need.
use Rattle.std.proofs.Common.{◌≡◌, ℕ, suc, ◌+◌, ◌≤◌, ◌<◌, Bool, true, false, not, cond, nat_lt, List, ◌∷◌, refl, sym, ◌∙◌, ap, arith, length, subst}
use Rattle.std.specs.Prelude.{◌&&◌, ◌||◌, nat_eq, nat_le}
use Rattle.std.proofs.lemmas.Bool.{ltb-true, ltb-false}
use Rattle.c_grammar.specs.Tokens as k
use Rattle.c_grammar.specs.Derivations.{Qualifiers, TypeWords, Tag, Expression, Specifiers, Declarator, AbstractDeclarator, no_qualifiers, qualified, first_word, next_word, no_tag, tag, identifier, constant, parenthesized, index, call_without, call, member, step_after, step_before, unary, sizeof_expression, sizeof_type, cast, binary, conditional, assignment, no_specifiers, storage_class, qualifier, inlined, type_words, typedef_name, composite_reference, composite, enum_reference, enumeration, declared_name, pointer, parenthesized_declarator, array, function, no_declarator, abstract_pointer, parenthesized_abstract, abstract_array, abstract_function}
use Rattle.c_grammar.specs.Yield.{qualifiers_yield, words_yield, tag_yield, expression_yield, declarator_yield, abstract_yield}
use Rattle.c_grammar.specs.Spelling.{same_word, count, word_count, names_type, is_direct, is_direct_abstract, is_some_declarator, is_void_word, is_void, precedence, level}
use Rattle.c_grammar.specs.Nesting.{qualifiers_nest, words_nest, tag_nest, expression_nest, inner_nest, direct_nest}
use Rattle.c_tree.specs.Printing.{Text, opened, put_tag, binding, is_looser, is_pointer, put_expr, put_declarator}
use Rattle.c_tree.specs.Reading.{qualifiers_onto, words_onto, tag_tree, expression_tree, declarator_tree, abstract_tree}
use Rattle.c_round_trip.specs.Placeless.{placeless_tag}
use Rattle.c_round_trip.specs.RoundTrip.{opens}
use Rattle.c_round_trip.proofs.Fixed.{type_word, qualifier_word, left_paren_word, right_paren_word}
use Rattle.c_round_trip.proofs.Leaves.{name_word}
use Rattle.c_round_trip.proofs.Lists.{after_qualifiers, after_words}
use Rattle.c_round_trip.proofs.Prints.{Prints, Low, Nests, Opens, flat, lower, low, parentheses, beside, beside_declarator, beside_abstract, PrintedExpression, PrintedOperand, is_nothing, is_bare, is_enclosed, PrintedDeclarator, PrintedDirect, is_closed, PrintedAbstract, PrintedDirectAbstract, few, few_declarator, few_abstract}
use Rattle.c_round_trip.proofs.Written.{by_word}

-- ## Qualifiers, the words of a type, tags

pub record PrintedQualifiers (qs : Qualifiers) (t : Text) : Type 0 where
  pub now : Qualifiers
  pub same : (r : List k.Qualifier) → qualifiers_onto now r ≡ qualifiers_onto qs r
  pub prints : Prints (qualifiers_yield qs) (qualifiers_yield now) t (after_qualifiers qs t)
  pub fewer : Opens (λ n. n) (qualifiers_yield qs) (qualifiers_yield now)
  pub nests : Nests (qualifiers_nest qs) (qualifiers_nest now) 0

pub print_qualifiers : (qs : Qualifiers) (t : Text) → PrintedQualifiers qs t
print_qualifiers no_qualifiers t = record {
  now = no_qualifiers;
  same = λ r. refl;
  prints = λ r0 r whole g w. g w;
  fewer = λ r0 r h. h;
  nests = λ m n most r0 r le g l. g l;
}
print_qualifiers (qualified qs p q) t =
    let a = print_qualifiers qs t in
    record {
      now = qualified a.now (length (after_qualifiers qs t)) q;
      same = λ r. a.same (q ∷ r);
      prints = λ r0 r whole g w. a.prints _ _ whole (λ v. by_word _ _ _ whole r (qualifier_word q) (g v.1)) w;
      fewer = λ r0 r h. a.fewer _ _ h;
      nests = λ m n most r0 r le g l. a.nests m n most _ _ le (λ h. (low m n most le h.0, g h.1)) l;
    }

abbrev is_one_void : TypeWords → Bool
is_one_void (first_word p w) = is_void_word w
is_one_void (next_word ws p w) = false

pub record PrintedWords (ws : TypeWords) (t : Text) : Type 0 where
  pub now : TypeWords
  pub counts : (w : k.TypeWord) → count w now ≡ count w ws
  pub total : word_count now ≡ word_count ws
  pub one : is_one_void now ≡ is_one_void ws
  pub same : (r : List k.TypeWord) → words_onto now r ≡ words_onto ws r
  pub prints : Prints (words_yield ws) (words_yield now) t (after_words ws t)
  pub fewer : Opens (λ n. n) (words_yield ws) (words_yield now)
  pub nests : Nests (words_nest ws) (words_nest now) 0

pub print_words : (ws : TypeWords) (t : Text) → PrintedWords ws t
print_words (first_word p v) t = record {
  now = first_word (length t) v;
  counts = λ w. refl;
  total = refl;
  one = refl;
  same = λ r. refl;
  prints = λ r0 r whole g w. by_word _ _ t whole r (type_word v) (g w.1);
  fewer = λ r0 r h. h;
  nests = λ m n most r0 r le g l. (low m n most le l.0, g l.1);
}
print_words (next_word ws p v) t =
    let a = print_words ws t in
    record {
      now = next_word a.now (length (after_words ws t)) v;
      counts = λ w. ap (λ n. n + same_word w v) (a.counts w);
      total = ap (λ n. n + 1) a.total;
      one = refl;
      same = λ r. a.same (v ∷ r);
      prints = λ r0 r whole g w. a.prints _ _ whole (λ x. by_word _ _ _ whole r (type_word v) (g x.1)) w;
      fewer = λ r0 r h. a.fewer _ _ h;
      nests = λ m n most r0 r le g l. a.nests m n most _ _ le (λ h. (low m n most le h.0, g h.1)) l;
    }

abbrev names_by : ℕ → ℕ → ℕ → ℕ → ℕ → ℕ → ℕ → ℕ → Bool
names_by all char short int long double signed unsigned =
    (nat_eq all 1)
    || ((nat_eq char 1) && nat_le (signed + unsigned) 1 && (nat_eq all (1 + (signed + unsigned))))
    || ((nat_eq short 1) && nat_le int 1 && nat_le (signed + unsigned) 1 && (nat_eq all (1 + int + (signed + unsigned))))
    || ((nat_le long 2) && nat_le int 1 && nat_le (signed + unsigned) 1 && (nat_eq all (long + int + (signed + unsigned))))
    || ((nat_eq long 1) && (nat_eq double 1) && (nat_eq all 2))

names_parts : (ws : TypeWords)
    → names_type ws ≡ names_by (word_count ws) (count k.Char ws) (count k.Short ws) (count k.Int ws) (count k.Long ws) (count k.Double ws) (count k.Signed ws) (count k.Unsigned ws)
names_parts ws = refl

same_parts : (a a' b b' c c' d d' e e' f f' g g' h h' : ℕ) → a ≡ a' → b ≡ b' → c ≡ c' → d ≡ d' → e ≡ e' → f ≡ f' → g ≡ g' → h ≡ h'
    → names_by a b c d e f g h ≡ names_by a' b' c' d' e' f' g' h'
same_parts a a' b b' c c' d d' e e' f f' g g' h h' ea eb ec ed ee ef eg eh =
    ap (λ x. names_by x b c d e f g h) ea ∙ ap (λ x. names_by a' x c d e f g h) eb ∙ ap (λ x. names_by a' b' x d e f g h) ec ∙ ap (λ x. names_by a' b' c' x e f g h) ed
    ∙ ap (λ x. names_by a' b' c' d' x f g h) ee ∙ ap (λ x. names_by a' b' c' d' e' x g h) ef ∙ ap (λ x. names_by a' b' c' d' e' f' x h) eg
    ∙ ap (λ x. names_by a' b' c' d' e' f' g' x) eh

pub same_type : (ws : TypeWords) (t : Text) (a : PrintedWords ws t) → names_type a.now ≡ names_type ws
same_type ws t a = same_parts _ _ _ _ _ _ _ _ _ _ _ _ _ _ _ _ a.total (a.counts k.Char) (a.counts k.Short) (a.counts k.Int) (a.counts k.Long) (a.counts k.Double) (a.counts k.Signed) (a.counts k.Unsigned)

void_parts : (s : Specifiers) (ws : TypeWords) → is_void (type_words s ws) ≡ cond (is_nothing s) (is_one_void ws) false
void_parts no_specifiers (first_word p w) = refl
void_parts no_specifiers (next_word ws p w) = refl
void_parts (storage_class s p w) ws = refl
void_parts (qualifier s p q) ws = refl
void_parts (inlined s p) ws = refl
void_parts (type_words s vs) ws = refl
void_parts (typedef_name s p x) ws = refl
void_parts (composite_reference s p w q x) ws = refl
void_parts (composite s p w g q ms l) ws = refl
void_parts (enum_reference s p q x) ws = refl
void_parts (enumeration s p g q es e c l) ws = refl

pub same_void : (s now : Specifiers) (ws : TypeWords) (t : Text) (a : PrintedWords ws t) → is_nothing now ≡ is_nothing s → is_void (type_words now a.now) ≡ is_void (type_words s ws)
same_void s now ws t a h =
    void_parts now a.now ∙ ap (λ b. cond b (is_one_void a.now) false) h ∙ ap (λ b. cond (is_nothing s) b false) a.one ∙ sym (void_parts s ws)

pub record PrintedTag (g : Tag) (t : Text) : Type 0 where
  pub now : Tag
  pub same : placeless_tag (tag_tree now) ≡ placeless_tag (tag_tree g)
  pub prints : Prints (tag_yield g) (tag_yield now) t (put_tag (tag_tree g) t)
  pub fewer : Opens (λ n. n) (tag_yield g) (tag_yield now)
  pub nests : Nests (tag_nest g) (tag_nest now) 0

pub print_tag : (g : Tag) (t : Text) → PrintedTag g t
print_tag no_tag t = record { now = no_tag; same = refl; prints = λ r0 r whole g w. g w; fewer = λ r0 r h. h; nests = λ m n most r0 r le g l. g l }
print_tag (tag p x) t = record {
  now = tag (length t) x;
  same = refl;
  prints = λ r0 r whole g w. by_word _ _ t whole r (name_word x w.0) (g w.1);
  fewer = λ r0 r h. h;
  nests = λ m n most r0 r le g l. (low m n most le l.0, g l.1);
}

-- ## Operands

pub precedence_small : (o : k.Operator) → precedence o ≤ 12
precedence_small k.LogicalOr = omega arith
precedence_small k.LogicalAnd = omega arith
precedence_small k.BitOr = omega arith
precedence_small k.BitXor = omega arith
precedence_small k.Ampersand = omega arith
precedence_small k.Equal = omega arith
precedence_small k.NotEqual = omega arith
precedence_small k.Less = omega arith
precedence_small k.Greater = omega arith
precedence_small k.LessEqual = omega arith
precedence_small k.GreaterEqual = omega arith
precedence_small k.ShiftLeft = omega arith
precedence_small k.ShiftRight = omega arith
precedence_small k.Plus = omega arith
precedence_small k.Minus = omega arith
precedence_small k.Star = omega arith
precedence_small k.Slash = omega arith
precedence_small k.Percent = omega arith
precedence_small k.Complement = omega arith
precedence_small k.Not = omega arith

-- an expression that binds more tightly than its tree stands in parentheses
abbrev StandsInside : Expression → Type 0
StandsInside e = ((n : ℕ) → beside e n ≡ suc n) × (parentheses e ≡ 1) × ((m most : ℕ) (r : List ℕ) → Low most (expression_nest e m r) → suc m ≤ most)

no_less : {A : Type 0} (n : ℕ) → n < n → A
no_less n h = absurd (omega arith)

stands_inside : (e : Expression) → binding (expression_tree e) < level e → StandsInside e
stands_inside (identifier p x) h = no_less 15 h
stands_inside (constant p n) h = no_less 15 h
stands_inside (parenthesized p e q) h = (λ n. refl, refl, λ m most r l. l.0)
stands_inside (index e p i q) h = no_less 15 h
stands_inside (call_without f p q) h = no_less 15 h
stands_inside (call f p xs e q) h = no_less 15 h
stands_inside (member e p o q x) h = no_less 15 h
stands_inside (step_after e p o) h = no_less 15 h
stands_inside (step_before p o e) h = no_less 14 h
stands_inside (unary p o e) h = no_less 14 h
stands_inside (sizeof_expression p e) h = no_less 14 h
stands_inside (sizeof_type p q t l) h = no_less 14 h
stands_inside (cast p t q e) h = no_less 13 h
stands_inside (binary a p o b) h = no_less (precedence o) h
stands_inside (conditional c p a q b) h = no_less 2 h
stands_inside (assignment a p o b) h = no_less 1 h

within : (m n outer : ℕ) → n ≤ m + 0 → outer ≡ 1 → suc n ≤ m + outer
within m n outer h one = omega (arith, one)

pub operand_by : (ns : List k.Identifier) (e : Expression) (least : ℕ) (b : Bool) (t : Text) → least ≤ 15 → least ≤ level e → nat_lt (binding (expression_tree e)) least ≡ b
    → PrintedExpression ns e (opened b t) → PrintedOperand ns e least b t
operand_by ns e least true t high fits is a =
    let inside = stands_inside e (let lt : binding (expression_tree e) < least = ltb-true (binding (expression_tree e)) least is in omega arith) in
    record {
      now = parenthesized (length t) a.now (length (put_expr (expression_tree e) (opened true t)));
      ok = a.ok;
      tight = high;
      same = a.same;
      prints = λ r0 r whole g w. by_word _ _ t whole _ left_paren_word (a.prints r0 _ whole (λ v. by_word _ _ _ whole r right_paren_word (g v)) w);
      fewer = λ r0 r h. subst (λ n. n ≤ opens (expression_yield e r0)) (inside.0 _) (a.fewer r0 _ h);
      nests = λ m n most r0 r le g l.
          let le' = lower m n most le (inside.2 m most r0 l) in
          (le', a.nests m (suc n) most r0 _ (within m n (parentheses e) le inside.1) (λ h. (le', g h)) l);
    }
operand_by ns e least false t high fits is a = record {
  now = a.now;
  ok = a.ok;
  tight = let le : least ≤ binding (expression_tree e) = ltb-false (binding (expression_tree e)) least is in let same : level a.now ≡ binding (expression_tree e) = a.binds in omega arith;
  same = a.same;
  prints = a.prints;
  fewer = few e a;
  nests = λ m n most r0 r le g l. a.nests m n most r0 r (flat m n (parentheses e) le) g l;
}

pub operand : (ns : List k.Identifier) (e : Expression) (least : ℕ) (t : Text) → least ≤ 15 → least ≤ level e
    → PrintedExpression ns e (opened (is_looser (expression_tree e) least) t) → PrintedOperand ns e least (is_looser (expression_tree e) least) t
operand ns e least t high fits a = operand_by ns e least (is_looser (expression_tree e) least) t high fits refl a

-- ## Declarators before brackets or parameters

enclosed : (d : Declarator) → is_direct d ≡ true → is_pointer (declarator_tree d) ≡ true → is_enclosed d ≡ true
enclosed (declared_name p x) h q = absurd (let bad : false ≡ true = q in cc)
enclosed (pointer p qs d) h q = absurd (let bad : false ≡ true = h in cc)
enclosed (parenthesized_declarator p d l) h q = refl
enclosed (array d p n l) h q = absurd (let bad : false ≡ true = q in cc)
enclosed (function d p ps l) h q = absurd (let bad : false ≡ true = q in cc)

first_low : (d : Declarator) → is_enclosed d ≡ true → (m most : ℕ) (r : List ℕ) → Low most (inner_nest d m r) → m ≤ most
first_low (parenthesized_declarator p d q) h m most r l = l.0
first_low _ h m most r l = absurd (let bad : false ≡ true = h in cc)

enclosed_beside : (d : Declarator) → is_enclosed d ≡ true → (n : ℕ) → beside_declarator d n ≡ suc n
enclosed_beside (parenthesized_declarator p d q) h n = refl
enclosed_beside _ h n = absurd (let bad : false ≡ true = h in cc)

bare_no_pointer : (d : Declarator) → is_bare d ≡ true → is_pointer (declarator_tree d) ≡ true → ⊥
bare_no_pointer (declared_name p x) h q = let bad : false ≡ true = q in cc
bare_no_pointer _ h q = let bad : false ≡ true = h in cc

pub direct_by : (ns : List k.Identifier) (d : Declarator) (b : Bool) (t : Text) → is_direct d ≡ true → is_pointer (declarator_tree d) ≡ b
    → PrintedDeclarator ns d (opened b t) → PrintedDirect ns d b t
direct_by ns d true t h is a =
    let e = enclosed d h is in
    record {
      now = parenthesized_declarator (length t) a.now (length (put_declarator (declarator_tree d) (opened true t)));
      ok = a.ok;
      direct = refl;
      named = a.named;
      bare = λ q. absurd (bare_no_pointer d q is);
      same = a.same;
      prints = λ r0 r whole g w. by_word _ _ t whole _ left_paren_word (a.prints r0 _ whole (λ v. by_word _ _ _ whole r right_paren_word (g v)) w);
      fewer = λ r0 r h. subst (λ n. n ≤ opens (declarator_yield d r0)) (enclosed_beside d e _) (a.fewer r0 _ h);
      inner = λ m n most r0 r le g l.
          let le' = low m n most le (first_low d e m most r0 l) in
          (le', a.inside e m n most r0 _ le (λ v. (le', g v)) l);
    }
direct_by ns d false t h is a = record {
  now = a.now;
  ok = a.ok;
  direct = a.direct ∙ ap not is;
  named = a.named;
  bare = a.bare;
  same = a.same;
  prints = a.prints;
  fewer = few_declarator d a;
  inner = a.inner;
}

closed_abstract : (a : AbstractDeclarator) → is_direct_abstract a ≡ true → is_pointer (abstract_tree a) ≡ true → (is_closed a ≡ true) × (is_some_declarator a ≡ true)
closed_abstract no_declarator h q = absurd (let bad : false ≡ true = q in cc)
closed_abstract (abstract_pointer p qs d) h q = absurd (let bad : false ≡ true = h in cc)
closed_abstract (parenthesized_abstract p d l) h q = (refl, refl)
closed_abstract (abstract_array d p n l) h q = absurd (let bad : false ≡ true = q in cc)
closed_abstract (abstract_function d p ps l) h q = absurd (let bad : false ≡ true = q in cc)

closed_beside : (a : AbstractDeclarator) → is_closed a ≡ true → (n : ℕ) → beside_abstract a n ≡ suc n
closed_beside (parenthesized_abstract p d q) h n = refl
closed_beside _ h n = absurd (let bad : false ≡ true = h in cc)

first_abstract : (a : AbstractDeclarator) → is_closed a ≡ true → (m most : ℕ) (r : List ℕ) → Low most (direct_nest a m r) → m ≤ most
first_abstract (parenthesized_abstract p d q) h m most r l = l.0
first_abstract _ h m most r l = absurd (let bad : false ≡ true = h in cc)

pub direct_abstract_by : (ns : List k.Identifier) (d : AbstractDeclarator) (b : Bool) (t : Text) → is_direct_abstract d ≡ true → is_pointer (abstract_tree d) ≡ b
    → PrintedAbstract ns d (opened b t) → PrintedDirectAbstract ns d b t
direct_abstract_by ns d true t h is a =
    let e = closed_abstract d h is in
    record {
      now = parenthesized_abstract (length t) a.now (length (put_declarator (abstract_tree d) (opened true t)));
      ok = (a.ok, a.some ∙ e.1);
      direct = refl;
      same = a.same;
      prints = λ r0 r whole g w. by_word _ _ t whole _ left_paren_word (a.prints r0 _ whole (λ v. by_word _ _ _ whole r right_paren_word (g v)) w);
      fewer = λ r0 r h. subst (λ n. n ≤ opens (abstract_yield d r0)) (closed_beside d e.0 _) (a.fewer r0 _ h);
      inner = λ m n most r0 r le g l.
          let le' = low m n most le (first_abstract d e.0 m most r0 l) in
          (le', a.inside e.0 m n most r0 _ le (λ v. (le', g v)) l);
    }
direct_abstract_by ns d false t h is a = record {
  now = a.now;
  ok = a.ok;
  direct = a.direct ∙ ap not is;
  same = a.same;
  prints = a.prints;
  fewer = few_abstract d a;
  inner = a.inner;
}
