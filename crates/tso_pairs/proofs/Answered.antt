-- Drains that are answered, where the buffers are paired.
use Rattle.std.proofs.Common.{◌≡◌, List, [], ◌∷◌, ◌++◌, append_assoc, length, Option, Some, None, refl, sym, ap, subst, ◌∙◌, ◌⊎◌, inl, inr}
use Rattle.std.proofs.lemmas.List.{append-nil}
use Rattle.tso_memory.specs.Memory.{MemoryMeaning}
use Rattle.tso_memory.specs.Buffer.{view}
use Rattle.tso_core.specs.Language.{Language}
use Rattle.tso_core.specs.Shared.{buffer_of}
use Rattle.tso_pairs.specs.Groups.{Pairing, sources, target_view, ArePaired, KeepsPair, Drains}
use Rattle.tso_pairs.specs.Draining.{ComesToWrong}
use Rattle.tso_pairs.specs.Answering.{AnswersDrain, DrainsAnswered, Empties, EmptiesAnswered}
use Rattle.tso_pairs.proofs.Grouped.{views_paired, drains_paired}
use Rattle.tso_pairs.proofs.Drained.{front_drains, wrong_front_drains}

sources-append : (p : Pairing) (xs ys : List p.Group) → sources p (xs ++ ys) ≡ sources p xs ++ sources p ys
sources-append p [] ys = refl
sources-append p (x ∷ xs) ys = ap (λ l. p.source x ++ l) (sources-append p xs ys) ∙ sym (append_assoc (p.source x) (sources p xs) (sources p ys))

module _ {State : Type 0} (l : Language State) (p : Pairing) (keeps : KeepsPair p) where
  pub drains_answered : DrainsAnswered l p
  drains_answered m i n gs item rest run buffer pair fit e = go (view m.shared.memory (sources p d.drained)) (p.apply n item) refl refl d.paired
    where
      d : Drains p m.shared.memory n item rest gs
      d = drains_paired p keeps m.shared.memory n gs item rest pair fit e

      parts : buffer_of m.shared i ≡ sources p d.drained ++ sources p d.left
      parts = buffer ∙ (ap (sources p) d.split ∙ sources-append p d.drained d.left)

      go : (a : Option MemoryMeaning) (b : Option p.Store) → view m.shared.memory (sources p d.drained) ≡ a → p.apply n item ≡ b → ArePaired p a b → ComesToWrong l m i ⊎ AnswersDrain l p m i n item rest
      go None b q r h = inl (wrong_front_drains l m i (sources p d.drained) (sources p d.left) run parts q)
      go (Some a) None q r h = absurd h
      go (Some a) (Some b) q r h = inr (record {
        left = d.left;
        memory = a;
        target_memory = b;
        count = length (sources p d.drained);
        leads = front_drains l m i (sources p d.drained) (sources p d.left) a run parts q;
        drains = r;
        pair = h;
        fit = d.fit a q;
        rest_is = d.rest_is;
      })

  pub empties_answered : EmptiesAnswered l p
  empties_answered m i n gs run buffer pair fit e = go (view m.shared.memory (sources p gs)) refl (subst (λ z. ArePaired p (view m.shared.memory (sources p gs)) (target_view p n z)) e (views_paired p keeps m.shared.memory n gs pair fit))
    where
      whole : buffer_of m.shared i ≡ sources p gs ++ []
      whole = buffer ∙ sym (append-nil (sources p gs))

      go : (a : Option MemoryMeaning) → view m.shared.memory (sources p gs) ≡ a → ArePaired p a (Some n) → ComesToWrong l m i ⊎ Empties l p m i n
      go None q h = inl (wrong_front_drains l m i (sources p gs) [] run whole q)
      go (Some a) q h = inr (record { memory = a; count = length (sources p gs); leads = front_drains l m i (sources p gs) [] a run whole q; pair = h })
