-- Behind a specifier that is no word of a type, such a word is the first.
use Rattle.std.proofs.Common.{◌≡◌, ℕ, List, refl}
use Rattle.std.specs.Prelude.{Vec}
use Rattle.std.specs.declared.alloc.Global.{Global}
use Rattle.c_grammar.specs.Tokens.{Identifier, TypeWord}
use Rattle.c_reading.specs.Code as code
use Rattle.c_reading.specs.Frames as marks
use Rattle.c_reading.specs.Parts as p
use Rattle.c_parts.specs.Views.{last_of}
use Rattle.c_parts.specs.declared.specifiers.LastSpecifier.{LastSpecifier}
use Rattle.c_parts.specs.declared.specifiers.LastSpecifier.TheVariants as last
use Rattle.c_tree.specs.declared.word.TypeWord.{TypeWord as Word}

pub begins_words : (l : LastSpecifier) (s : p.SpecifiersPart) (k : marks.Stack) (ns : List Identifier) (w : TypeWord) (at : ℕ) → ((first : ℕ) (words : Vec Word Global) → l ≡ last.Words first words → ⊥) → code.on_word_behind (last_of l) s k ns w at ≡ code.on_word_behind p.no_last s k ns w at
begins_words (last.Words first words) s k ns w at not = absurd (not first words refl)
begins_words l s k ns w at not = refl
