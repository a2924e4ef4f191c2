-- Instances of the laws that ties of machines have in common (of this project's own making): the first pass by where its programs meet, and buffers that are the same item by item.
use Rattle.std.specs.Prelude.{◌≡◌, ◌≢◌, ℕ, Bool, true, false, [], ◌∷◌, Option, Some, None, refl}
use Rattle.std.proofs.Common.{ap, inr, arith, subst}
use Rattle.tso_words.specs.declared.value.Val.TheVariants.{Word}
use Rattle.tso_memory.specs.declared.buffer.Item.{Item}
use Rattle.tso_memory.specs.Memory.{MemoryMeaning}
use Rattle.tso_memory.specs.Buffer.{applied, view}
use Rattle.tso_core.specs.Shared.{holds_put}
use Rattle.tso_core.specs.declared.offer.Offer.TheVariants as O
use Rattle.tso_core.specs.Systems.{Places, GlobalsOf}
use Rattle.tso_core.specs.Stated.{globals_of}
use Rattle.tso_core.specs.Language.{Language}
use Rattle.tso_core.specs.Below.{ExitBelow}
use Rattle.tso_pairs.specs.Groups.{Pairing, target_view, ArePaired, KeepsPair}
use Rattle.tso_pairs.specs.Lagging.{Offers, CoreSimulation}
use Rattle.toy_langs.specs.declared.One.{One}
use Rattle.toy_langs.specs.declared.Two.{Two}
use Rattle.toy_langs.specs.Meaning.{in_first, in_second, with_offer, language_one, language_two}

-- the two programs meet where the first has made its step; until then it lags
abbrev pub Meet : Places → Bool → Bool → Type 0
Meet at s t = s ≡ true

abbrev pub no_measure : Places → Bool → Bool → ℕ
no_measure at s t = 0

module _ (g h : GlobalsOf) (v w : ℕ) (same : g ≡ h) (word : w ≡ v) where
  abbrev source : Language Bool
  source = with_offer g (in_second v)

  abbrev target : Language Bool
  target = with_offer h (in_first w)

  loud : O.Exit (Word w) ≢ O.Silent
  loud e = cc

  right : O.Exit (Word w) ≢ O.Wrong
  right e = cc

  exits : (at : Places) (s t : Bool) → s ≡ true → Offers source target Meet no_measure at s t
  exits at false t e = cc
  exits at true t e = record { count = 0; silent = tt; below = ExitBelow (ap Word word); calls = refl; resumes = λ a1 a2 le. absurd le.takes_second }

  core : CoreSimulation source target Meet no_measure 0
  core =
      record {
        globals = same;
        stated = λ f. tt;
        first = λ at k. record { lag = 1; silent = (refl, tt); core = refl; calls = refl };
        started = λ at k f1 f2 a1 a2 s lf la e. cc;
        measured = λ at s t r. omega arith;
        calls = λ at s t r. refl;
        silent = λ at s t r e. absurd (loud e);
        wrong = λ at s t r e. absurd (right e);
        offers = λ at s t r k l. inr (exits at s t r);
      }

pub first_meets : (p : One) (q : Two) → (globals_of p.globals ≡ globals_of q.globals) × (q.word ≡ p.word) → CoreSimulation (language_one p) (language_two q) Meet no_measure 0
unfolding language_one language_two
first_meets p q h = core (globals_of p.globals) (globals_of q.globals) p.word q.word h.0 h.1

-- each item is a group, and the memories are the same
abbrev pub item_by_item : Pairing
item_by_item =
    record {
      Held = Item;
      Store = MemoryMeaning;
      is_write = λ i. holds_put (i ∷ []);
      apply = applied;
      Group = Item;
      source = λ i. i ∷ [];
      target = λ i. Some i;
      Pair = λ m n. m ≡ n;
      Side = λ m i. Unit {0};
    }

same_paired : (m : Option MemoryMeaning) → ArePaired item_by_item m m
same_paired None = tt
same_paired (Some m) = refl

pub item_by_item_keeps : KeepsPair item_by_item
item_by_item_keeps m n i pair side = subst (λ z. ArePaired item_by_item (view m (i ∷ [])) (target_view item_by_item z (i ∷ []))) pair (same_paired (view m (i ∷ [])))
