-- Where no qualifier stands behind a `*`.
use Rattle.std.proofs.Common.{◌≡◌, ℕ, List, refl}
use Rattle.c_grammar.specs.Tokens.{Identifier, token}
use Rattle.c_reading.specs.Code.{on_starred_abstract, on_abstract}
use Rattle.c_reading.specs.Frames.{Stack}
use Rattle.c_reading.specs.Kinds.{kind_of}
use Rattle.c_reading.specs.declared.token.Kind.{Kind}
use Rattle.c_reading.specs.declared.token.Kind.TheVariants as kind
use Rattle.c_tree.specs.declared.word.Qualifier.{Qualifier}

pub no_qualifier : (name : List ℕ) (is : Kind) (at : ℕ) (k : Stack) (ns : List Identifier) → ((q : Qualifier) → is ≡ kind.Qualifier q → ⊥) → on_starred_abstract k ns (token (kind_of name is) at) ≡ on_abstract k ns (token (kind_of name is) at)
no_qualifier name (kind.Qualifier q) at k ns not = absurd (not q refl)
no_qualifier name is at k ns not = refl
