-- What the three languages do (of this project's own making; the code is the same with a Rust bool).
use Rattle.std.specs.Prelude.{◌≢◌, ℕ, Bool, true, false, [], ◌∷◌, None, refl}
use Rattle.tso_words.specs.declared.value.Val.TheVariants.{Word}
use Rattle.tso_core.specs.declared.offer.Offer.{Offer}
use Rattle.tso_core.specs.declared.offer.Offer.TheVariants.{Silent, Exit}
use Rattle.tso_core.specs.declared.offer.Answer.{Answer}
use Rattle.tso_core.specs.Systems.{Names, GlobalsOf}
use Rattle.tso_core.specs.Stated.{globals_of}
use Rattle.tso_core.specs.Language.{Language, RangesAfter, IsLawful}
use Rattle.toy_langs.specs.declared.One.{One}
use Rattle.toy_langs.specs.declared.Two.{Two}
use Rattle.toy_langs.specs.declared.Three.{Three}

abbrev pub main : Names
main = 109 ∷ 97 ∷ 105 ∷ 110 ∷ []

-- the word, in the second step; at once
abbrev pub in_second : ℕ → Bool → Offer
in_second word false = Silent
in_second word true = Exit (Word word)

abbrev pub in_first : ℕ → Bool → Offer
in_first word made = Exit (Word word)

-- a program of main alone, which starts no thread and has no locals
abbrev pub with_offer : GlobalsOf → (Bool → Offer) → Language Bool
with_offer g offer =
    record {
      globals = g;
      stated = λ f. None;
      first = λ at. false;
      started = λ at fun arg. None;
      offer = λ at made. offer made;
      resumed = λ at made a. true;
      calls = λ made. main ∷ [];
      ranges = λ made. [];
    }

unfoldable pub language_one : One → Language Bool
language_one p = with_offer (globals_of p.globals) (in_second p.word)

unfoldable pub language_two : Two → Language Bool
language_two p = with_offer (globals_of p.globals) (in_first p.word)

unfoldable pub language_three : Three → Language Bool
language_three p = with_offer (globals_of p.globals) (in_second p.word)

-- laws
one_call : main ∷ [] ≢ []
one_call e = cc

in_second_ranges : (g : GlobalsOf) (word : ℕ) (made : Bool) (a : Answer) → RangesAfter (with_offer g (in_second word)) (in_second word made) a [] []
in_second_ranges g word false a = refl
in_second_ranges g word true a = refl

second_lawful : (g : GlobalsOf) (word : ℕ) → IsLawful (with_offer g (in_second word))
second_lawful g word =
    record {
      some_call = λ at s t. one_call;
      first_ranges = λ at. refl;
      started_ranges = λ at fun arg s e. refl;
      resumed_ranges = λ at s a t k. in_second_ranges g word s a;
    }

pub one_lawful : (p : One) → IsLawful (language_one p)
unfolding language_one
one_lawful p = second_lawful (globals_of p.globals) p.word

pub two_lawful : (p : Two) → IsLawful (language_two p)
unfolding language_two
two_lawful p =
    record {
      some_call = λ at s t. one_call;
      first_ranges = λ at. refl;
      started_ranges = λ at fun arg s e. refl;
      resumed_ranges = λ at s a t k. refl;
    }

pub three_lawful : (p : Three) → IsLawful (language_three p)
unfolding language_three
three_lawful p = second_lawful (globals_of p.globals) p.word
