-- A further group behind those that wait.
use Rattle.std.proofs.Common.{◌≡◌, List, [], ◌∷◌, ◌++◌, append_assoc, Some, refl, sym, ap, ◌∙◌}
use Rattle.std.proofs.lemmas.List.{append-nil}
use Rattle.tso_memory.specs.Memory.{MemoryMeaning}
use Rattle.tso_memory.specs.Buffer.{view}
use Rattle.tso_memory.specs.Buffer as buffer
use Rattle.tso_memory.proofs.MemoryLaws.{view-append}
use Rattle.tso_pairs.specs.Groups.{Pairing, one_or_none, sources, targets, Fit}
use Rattle.tso_pairs.specs.Growing.{GroupsGrow}

module _ (p : Pairing) where
  sources_grow : (gs : List p.Group) (g : p.Group) → sources p (gs ++ g ∷ []) ≡ sources p gs ++ p.source g
  sources_grow [] g = append-nil (p.source g)
  sources_grow (f ∷ gs) g = ap (λ l. p.source f ++ l) (sources_grow gs g) ∙ sym (append_assoc (p.source f) (sources p gs) (p.source g))

  targets_grow : (gs : List p.Group) (g : p.Group) → targets p (gs ++ g ∷ []) ≡ targets p gs ++ one_or_none (p.target g)
  targets_grow [] g = append-nil (one_or_none (p.target g))
  targets_grow (f ∷ gs) g = ap (λ l. one_or_none (p.target f) ++ l) (targets_grow gs g) ∙ sym (append_assoc (one_or_none (p.target f)) (targets p gs) (one_or_none (p.target g)))

  fit_grows : (m : MemoryMeaning) (gs : List p.Group) (g : p.Group) → Fit p m gs → ((k : MemoryMeaning) → view m (sources p gs) ≡ Some k → p.Side k g) → Fit p m (gs ++ g ∷ [])
  fit_grows m [] g fit side = (side m refl, λ k e. tt)
  fit_grows m (f ∷ gs) g fit side = (fit.0, λ k e. fit_grows k gs g (fit.1 k e) (λ j d. side j (view-append m (p.source f) (sources p gs) ∙ (ap (λ o. buffer.and_then o (λ z. view z (sources p gs))) e ∙ d))))

  pub groups_grow : GroupsGrow p
  groups_grow m gs g fit side = record { sources_are = sources_grow gs g; targets_are = targets_grow gs g; fit = fit_grows m gs g fit side }
