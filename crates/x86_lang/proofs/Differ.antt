-- Names that differ, in a part of the list.
use Rattle.std.proofs.Common.{ℕ, ◌<◌, ◌++◌, length, arith, ap, ◌∙◌, sym}
use Rattle.std.proofs.lemmas.List.{get_or_append_left, length-append}
use Rattle.tso_core.specs.Systems.{Names, Places}
use Rattle.tso_core.specs.Placing.{NamesDiffer}

pub front_differs : (xs ys : Places) → NamesDiffer (xs ++ ys) → NamesDiffer xs
front_differs xs ys h = λ i j d lt within same.
    let longer : j < length (xs ++ ys) = omega (arith, length-append xs ys) in
    let earlier : i < length xs = omega arith in
    h i j d lt longer (ap (λ (p : Names × ℕ). p.0) (get_or_append_left xs ys d i earlier) ∙ same ∙ sym (ap (λ (p : Names × ℕ). p.0) (get_or_append_left xs ys d j within)))
