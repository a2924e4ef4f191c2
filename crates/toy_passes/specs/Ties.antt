-- The ties of the threads of the two passes (of this project's own making). Each is a relation of whether the first steps are made, with the number of Silent steps that were answered by none.
use Rattle.std.specs.Prelude.{◌≡◌, ◌≢◌, ℕ, ◌<◌, ◌≤◌, Bool, true, false, refl}
use Rattle.std.proofs.Common.{ap, inr, arith}
use Rattle.tso_words.specs.declared.value.Val.TheVariants.{Word}
use Rattle.tso_core.specs.declared.offer.Offer.TheVariants as O
use Rattle.tso_core.specs.Systems.{Places, GlobalsOf}
use Rattle.tso_core.specs.Stated.{globals_of}
use Rattle.tso_core.specs.Language.{Language}
use Rattle.tso_core.specs.Below.{ExitBelow}
use Rattle.tso_core.specs.Simulation.{FollowsAlone, ComesToOffer, ThreadSimulation}
use Rattle.toy_langs.specs.declared.One.{One}
use Rattle.toy_langs.specs.declared.Two.{Two}
use Rattle.toy_langs.specs.declared.Three.{Three}
use Rattle.toy_langs.specs.Meaning.{in_first, in_second, with_offer, language_one, language_two, language_three}

-- any two states; none of the second's steps is Silent
abbrev pub FirstTied : Bool → Bool → ℕ → Type 0
FirstTied s t n = n ≡ 0

-- the number of the first step of the second program, which the first program does not make
abbrev pub made_steps : Bool → ℕ
made_steps false = 0
made_steps true = 1

abbrev pub SecondTied : Bool → Bool → ℕ → Type 0
SecondTied s t n = n ≤ made_steps t

module _ (g h : GlobalsOf) (v w : ℕ) (same : g ≡ h) (word : w ≡ v) where
  abbrev second : Language Bool
  second = with_offer g (in_second v)

  abbrev first : Language Bool
  first = with_offer h (in_first w)

  loud : O.Exit (Word w) ≢ O.Silent
  loud e = cc

  right : O.Exit (Word w) ≢ O.Wrong
  right e = cc

  exits : (at : Places) (s t : Bool) → ComesToOffer second first (λ a x y n. FirstTied x y n) at s t
  exits at false t = record { count = 1; silent = (refl, tt); below = ExitBelow (ap Word word); calls = refl; resumes = λ a1 a2 le. absurd le.takes_second }
  exits at true t = record { count = 0; silent = tt; below = ExitBelow (ap Word word); calls = refl; resumes = λ a1 a2 le. absurd le.takes_second }

  one_two : ThreadSimulation second first (λ a x y n. FirstTied x y n) 0
  one_two =
      record {
        globals = same;
        stated = λ f. tt;
        first = λ at k. refl;
        started = λ at k f1 f2 a1 a2 s lf la e. cc;
        bounded = λ at s t n r. omega (arith, r);
        calls = λ at s t n r. refl;
        silent = λ at s t n r e. absurd (loud e);
        wrong = λ at s t n r e. absurd (right e);
        offers = λ at s t n r k l. inr (exits at s t);
      }

  -- the other way round
  exits_late : (at : Places) (s t : Bool) → in_second w t ≢ O.Silent → ComesToOffer (with_offer g (in_first v)) (with_offer h (in_second w)) (λ a x y n. SecondTied x y n) at s t
  exits_late at s false k = absurd (k refl)
  exits_late at s true k = record { count = 0; silent = tt; below = ExitBelow (ap Word word); calls = refl; resumes = λ a1 a2 le. absurd le.takes_second }

  waits : (at : Places) (s t : Bool) (n : ℕ) → n ≤ made_steps t → in_second w t ≡ O.Silent → FollowsAlone (with_offer g (in_first v)) (with_offer h (in_second w)) (λ a x y n. SecondTied x y n) at s t n
  waits at s false n r e = let lt : n < 1 = omega arith in let le : 1 ≤ 1 = omega arith in record { count = 0; silent = tt; number = 1; related = le; counted = λ z. lt }
  waits at s true n r e = absurd (loud e)

  goes_on : (t : Bool) → in_second w t ≡ O.Wrong → ⊥
  goes_on false e = cc
  goes_on true e = cc

  within : (t : Bool) (n : ℕ) → n ≤ made_steps t → n ≤ 1
  within false n r = omega arith
  within true n r = r

  two_three : ThreadSimulation (with_offer g (in_first v)) (with_offer h (in_second w)) (λ a x y n. SecondTied x y n) 1
  two_three =
      record {
        globals = same;
        stated = λ f. tt;
        first = λ at k. omega arith;
        started = λ at k f1 f2 a1 a2 s lf la e. cc;
        bounded = λ at s t n r. within t n r;
        calls = λ at s t n r. refl;
        silent = λ at s t n r e. inr (waits at s t n r e);
        wrong = λ at s t n r e. absurd (goes_on t e);
        offers = λ at s t n r k l. inr (exits_late at s t k);
      }

pub first_tied : (p : One) (q : Two) → (globals_of p.globals ≡ globals_of q.globals) × (q.word ≡ p.word) → ThreadSimulation (language_one p) (language_two q) (λ at s t n. FirstTied s t n) 0
unfolding language_one language_two
first_tied p q h = one_two (globals_of p.globals) (globals_of q.globals) p.word q.word h.0 h.1

pub second_tied : (p : Two) (q : Three) → (globals_of p.globals ≡ globals_of q.globals) × (q.word ≡ p.word) → ThreadSimulation (language_two p) (language_three q) (λ at s t n. SecondTied s t n) 1
unfolding language_two language_three
second_tied p q h = two_three (globals_of p.globals) (globals_of q.globals) p.word q.word h.0 h.1
