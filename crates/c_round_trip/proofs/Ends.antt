-- What the printed text of expressions and declarators rests on: room for operands, the ends of lists, heads of functions and lone `void`.
use Rattle.std.proofs.Common.{◌≡◌, ℕ, suc, ◌+◌, ◌≤◌, ◌<◌, false, cond, List, ◌∷◌, refl, sym, ◌∙◌, ap, subst, arith}
use Rattle.c_grammar.specs.Tokens as k
use Rattle.c_grammar.specs.Derivations.{Trailing, Declarator, Parameters, EarlierParameters, Parameter, no_comma, comma, declared_name, pointer, parenthesized_declarator, array, function, no_declarator, abstract_pointer, parenthesized_abstract, abstract_array, abstract_function, no_earlier, earlier, named_parameter, unnamed_parameter}
use Rattle.c_grammar.specs.Yield.{trailing_yield}
use Rattle.c_grammar.specs.Spelling.{is_function_head, is_lone_void, precedence}
use Rattle.c_grammar.specs.Nesting.{trailing_nest}
use Rattle.c_tree.specs.Printing.{Text}
use Rattle.c_round_trip.specs.RoundTrip.{AllWritten}
use Rattle.c_round_trip.proofs.Prints.{Prints, Low, is_bare, is_first, is_lone}
use Rattle.c_round_trip.proofs.Wrapped.{precedence_small}

pub inside : (m n outer : ℕ) → n ≤ m + 1 → n ≤ suc m + outer
inside m n outer h = omega arith

pub one_more : (o : k.Operator) (n : ℕ) → precedence o < n → precedence o + 1 ≤ n
one_more o n h = omega arith

pub less_again : (o : k.Operator) (n : ℕ) → precedence o + 1 ≤ n → precedence o < n
less_again o n h = omega arith

pub room : (o : k.Operator) → precedence o ≤ 15
room o = let h : precedence o ≤ 12 = precedence_small o in omega arith

pub more_room : (o : k.Operator) → precedence o + 1 ≤ 15
more_room o = let h : precedence o ≤ 12 = precedence_small o in omega arith

-- the last of a list is printed in the same way
pub ends_as : (yield printed : List k.Token → List k.Token) (t end end' : Text) → end' ≡ end → Prints yield printed t end → Prints yield printed t end'
ends_as yield printed t end end' e a = subst (λ x. Prints yield printed t x) (sym e) a

pub lone_parts : (ps : EarlierParameters) (x : Parameter) → is_lone_void ps x ≡ cond (is_first ps) (is_lone x) false
lone_parts no_earlier (named_parameter s d) = refl
lone_parts no_earlier (unnamed_parameter s no_declarator) = refl
lone_parts no_earlier (unnamed_parameter s (abstract_pointer p qs a)) = refl
lone_parts no_earlier (unnamed_parameter s (parenthesized_abstract p a q)) = refl
lone_parts no_earlier (unnamed_parameter s (abstract_array a p n q)) = refl
lone_parts no_earlier (unnamed_parameter s (abstract_function a p ps q)) = refl
lone_parts (earlier ps y p) x = refl

pub same_lone : (ps now : EarlierParameters) (x y : Parameter) → is_first now ≡ is_first ps → is_lone y ≡ is_lone x → is_lone_void now y ≡ is_lone_void ps x
same_lone ps now x y h l = lone_parts now y ∙ ap (λ b. cond b (is_lone y) false) h ∙ ap (λ b. cond (is_first ps) b false) l ∙ sym (lone_parts ps x)

pub head_parts : (d : Declarator) (p : k.Place) (ps : Parameters) (q : k.Place) → is_function_head (function d p ps q) ≡ is_bare d
head_parts (declared_name p x) q ps l = refl
head_parts (pointer p qs d) q ps l = refl
head_parts (parenthesized_declarator p d l) q ps m = refl
head_parts (array d p n l) q ps m = refl
head_parts (function d p ps l) q ns m = refl

-- a comma behind the last item is not printed
pub last_word : (c : Trailing) (l : k.Place) (r : List k.Token) → AllWritten (trailing_yield c (k.token k.RightBrace l ∷ r)) → AllWritten r
last_word no_comma l r w = w.1
last_word (comma p) l r w = w.1.1

pub last_nest : (c : Trailing) (m most : ℕ) (r : List ℕ) → Low most (trailing_nest c m (m ∷ r)) → (m ≤ most) × Low most r
last_nest no_comma m most r l = l
last_nest (comma p) m most r l = l.1
